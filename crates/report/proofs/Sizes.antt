-- How long a report can be.
use Prim.Native.Nat.{ℕ, suc, ◌-◌, ◌≤◌, ◌<◌}
use mathlib.Core.Path.{◌≡◌, refl, ◌∙◌}
use mathlib.Core.List.{List, []}
use native.Mathlib.Nat.{le_trans}
use borrow.Author.Tests.{le-leb}
use native.Mathlib.Omega.{arith}
use lib.ListN.{length, get_or, take, length-take}
use lib.Seq.{get_or-take}
use Rattle.std.proofs.Common.{length-take-le}
use Rattle.std.specs.Prelude.{Ok}
use Rattle.method.specs.declared.Run.{Run}
use Rattle.method.specs.Board.{levels, registers, fresh, not_begun, row_of}
use Rattle.method.specs.Turn.{after}
use Rattle.method.specs.Demand.{Fits, idle_turns}
use Rattle.method.proofs.Demand3.{fits-board, counts-add-up, count-within}
use Rattle.text.specs.Refusal.{number_of}
use Rattle.text.specs.Plan.{Held, Reading, plan, refused, reading}
use Rattle.page.specs.Page.{put_behind}
use Rattle.page.proofs.Laying.{all-put}
use Rattle.page.proofs.Sizes.{refusal-most, lines-most, stations_most}
use Rattle.report.specs.Printed.{report, report_of, printed, most_printed, answer_of}
use Rattle.text.specs.Sound.{Sound}
use Rattle.text.proofs.Outcomes.{sound as plan-sound, fault-most, place-most}

module _ (h : Held) (sound : Sound h) where
  abbrev turned : ℕ
  turned = length h.turns

  abbrev ends : Run
  ends = after (fresh h.stations h.stocks.sets) h.turns (length h.turns)

  fits : Fits levels registers h.stations h.stocks.sets
  fits = fits-board h.stations h.stocks.sets sound.most (let l = sound.stocks.sets in let k = sound.most in omega arith)

  idle-most : idle_turns (fresh h.stations h.stocks.sets) h.turns turned < 100000
  unfolding fresh
  idle-most =
      let a = counts-add-up fits h.turns turned sound.turns.named in
      let f = sound.turns.most in
      omega arith

  count_most : (j : ℕ) → j < h.stations → (get_or ends.rows j (not_begun 0)).count < 100000
  unfolding fresh row_of
  count_most j l =
      let a = count-within fits h.turns turned (suc j) (record { low = omega arith; high = l }) in
      let e : suc j - 1 ≡ j = omega arith in
      let b : (get_or ends.rows j (not_begun 0)).count ≤ turned = rw e at a in
      let f = sound.turns.most in
      omega arith

  pub report-most : length (report h.stations h.stocks.sets h.stocks.codes h.turns) ≤ most_printed
  unfolding report
  report-most =
      let rows = take h.stations ends.rows in
      let long = length-take h.stations ends.rows in
      let m = sound.most in
      let f = sound.turns.most in
      lines-most h.stations turned (idle_turns (fresh h.stations h.stocks.sets) h.turns turned) h.stocks.codes ends.rows (omega arith) (omega arith) idle-most sound.stocks.codes.most
      (λ j l. (sound.stocks.codes.good j l).most)
      (stations_most rows (omega arith)
      (λ j l.
      let k : j < h.stations = omega arith in
      rw (get_or-take h.stations ends.rows j (not_begun 0) k) (count_most j k)))

-- no printed text is longer than most_printed
pub printed-most : (text : List ℕ) → length (printed text) ≤ most_printed
unfolding printed
printed-most text = go (reading text) refl
  where
    go : (r : Reading) → reading text ≡ r → length (report_of r) ≤ most_printed
    go (plan h) e = report-most h (plan-sound text h e)
    go (refused fault place) e = let p = place-most text fault place e in refusal-most (number_of fault) place (omega (arith, fault-most fault)) (omega arith)

-- so a buffer of most_printed bytes always suffices
pub always-whole : (text : List ℕ) (room : ℕ) → most_printed ≤ room → answer_of (printed text) room ≡ Ok (length (printed text))
unfolding answer_of
always-whole text room h = rw (le-leb (length (printed text)) room (le_trans (printed-most text) h))

-- and on a new page a printed text stands whole
pub on_new_page : (text page last : List ℕ) → page ≡ [] → last ≡ put_behind page (printed text) → last ≡ printed text
on_new_page text page last e f = f ∙ rw e (all-put (printed text) (printed-most text))

-- for a program that has a page
pub ruleset suffices = (printed-most, always-whole, length-take-le)
