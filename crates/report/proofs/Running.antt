-- The run of a plan that was taken: every turn is made, and counts and idle turns add up.
use Prim.Native.Nat.{ℕ, ◌+◌, ◌-◌, ◌≤◌}
use mathlib.Core.Path.{◌≡◌, refl, ap, ◌∙◌}
use mathlib.Core.Bool.{false}
use mathlib.Core.List.{List}
use native.Mathlib.Nat.{le_refl}
use native.Mathlib.Omega.{arith}
use lib.ListN.{length, get_or, take}
use Rattle.std.specs.List.{sum_by}
use Rattle.method.specs.declared.Row.{Row}
use Rattle.method.specs.declared.Did.{Did}
use Rattle.method.specs.declared.Did.TheVariants.{Operation, Idle, Unwritten, Nobody}
use Rattle.method.specs.declared.Run.{Run}
use Rattle.method.specs.Board.{levels, registers, fresh}
use Rattle.method.specs.Turn.{turn, after}
use Rattle.method.specs.Demand.{Fits, did_of, idle_turns, counts_of}
use Rattle.method.proofs.Demand3.{fits-board, counts-add-up, never-unwritten}
use Rattle.method.proofs.Moments.{always-sound}
use Rattle.turns.specs.declared.playing.Played.{Played}
use Rattle.method.specs.First.{first_from}
use Rattle.method.proofs.Firsts.{first-none}
use Rattle.turns.specs.Playing.{stepped, is_unwritten, stops_at, played_of}
use Rattle.verdict.specs.Refusals.{first_bad}
use Rattle.verdict.proofs.Judging.{none-is-bad}
use Rattle.run.specs.Call.{reads_unwritten, first_unwritten}
use Rattle.run.proofs.Agree.{stepped-after, stops_first}
use Rattle.page.specs.Lines.{report_lines}
use Rattle.report.specs.Printed.{report}
use Rattle.report.specs.Ready.{Ready}
use Rattle.report.proofs.Counting.{counts-rows}

not-unwritten : (d : Did) → (d ≡ Unwritten → ⊥) → is_unwritten d ≡ false
not-unwritten Operation h = refl
not-unwritten Idle h = refl
not-unwritten Unwritten h = absurd (h refl)
not-unwritten Nobody h = refl

module _ (n : ℕ) (sets turns : List ℕ) (ready : Ready n sets turns) where
  fits : Fits levels registers n sets
  fits = fits-board n sets ready.high (omega (arith, ready.high, ready.sets_long))

  past : length turns ≤ first_bad n turns
  past = none-is-bad n turns ready.named

  -- no turn reads a line never written, so every turn is made
  all_made : stops_at (fresh n sets) turns ≡ length turns
  unfolding first_unwritten fresh did_of
  all_made =
      let e : first_from (reads_unwritten (fresh n sets) turns) 0 (length turns) ≡ 0 + length turns =
      first-none (reads_unwritten (fresh n sets) turns) 0 (length turns) (λ u a b. not-unwritten (turn (after (fresh n sets) turns u) (get_or turns u 0)).did (never-unwritten fits turns u)) in
      let z : 0 + length turns ≡ length turns = omega arith in
      stops_first n sets turns ready.high ready.sets_long ready.few past ∙ e ∙ z

  pub ran : (start : Run) (played : Played) → start ≡ fresh n sets → played ≡ played_of start turns → played.run ≡ after (fresh n sets) turns (length turns)
  ran start played s p =
      ap (λ (x : Played). x.run) p ∙ ap (λ (r : Run). stepped r turns (stops_at r turns)) s ∙ ap (stepped (fresh n sets) turns) all_made
      ∙ stepped-after n sets turns ready.high ready.sets_long ready.few past (length turns) (le_refl (length turns))

  rows-there : length (after (fresh n sets) turns (length turns)).rows ≡ 16
  unfolding fresh
  rows-there = (always-sound levels registers n sets fits turns (length turns)).shape.rows ∙ ready.sets_long

  module _ (start : Run) (played : Played) (s : start ≡ fresh n sets) (p : played ≡ played_of start turns) where
    made : played.run ≡ after (fresh n sets) turns (length turns)
    made = ran start played s p

    rows-long : length played.run.rows ≡ 16
    rows-long = ap (λ (r : Run). length r.rows) made ∙ rows-there

    pub counts-and-idle : sum_by (λ (r : Row). r.count) (take n played.run.rows) + idle_turns (fresh n sets) turns (length turns) ≡ length turns
    unfolding fresh
    counts-and-idle =
        let sum : sum_by (λ (r : Row). r.count) (take n played.run.rows) ≡ counts_of (after (fresh n sets) turns (length turns)) n =
        counts-rows played.run n (omega (arith, rows-long, ready.high)) ∙ ap (λ (r : Run). counts_of r n) made in
        let all : counts_of (after (fresh n sets) turns (length turns)) n + idle_turns (fresh n sets) turns (length turns) ≡ length turns = counts-add-up fits turns (length turns) ready.named in
        rw sum all

    -- turns less counts are the idle turns
    pub idle-is : length turns - sum_by (λ (r : Row). r.count) (take n played.run.rows) ≡ idle_turns (fresh n sets) turns (length turns)
    idle-is = omega (arith, counts-and-idle)

    -- the lines of what was played are the report
    pub report-is : (text : List ℕ) (counts : ℕ) (codes : List (List ℕ)) → counts ≡ sum_by (λ (r : Row). r.count) (take n played.run.rows)
        → text ≡ report_lines n (length turns) (length turns - counts) codes played.run.rows → text ≡ report n sets codes turns
    unfolding report
    report-is text counts codes c f = f ∙ rw (c, idle-is, made)
