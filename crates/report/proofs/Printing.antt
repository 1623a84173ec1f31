-- A plan that was read, and its report.
use Prim.Native.Nat.{ℕ, suc, ◌+◌, ◌-◌, ◌*◌, ◌≤◌, ◌<◌, min}
use mathlib.Core.Path.{◌≡◌, refl, sym, ap, ◌∙◌}
use mathlib.Core.List.{List, [], ◌∷◌, ◌++◌, map, append_assoc}
use native.Mathlib.Nat.{add-zero}
use native.Mathlib.Omega.{arith}
use lib.ListN.{length, get_or, take, drop}
use lib.Seq.{length-take-le, take_at, drop_at, get_or-drop, drop-drop, take-append_seam}
use Rattle.std.specs.Prelude.{Result, Ok, Err}
use Rattle.text.specs.Limits.{most_stocks, most_turns, most_code}
use Rattle.text.specs.declared.Fault.{Fault}
use Rattle.text.specs.declared.Counts.{Counts}
use Rattle.text.specs.declared.Refusal.{Refusal}
use Rattle.text.specs.Refusal.{number_of, told}
use Rattle.text.specs.Buffers.{zeros, padded, cells_of, told_of, sets_after, codes_after, lens_after, turns_after}
use Rattle.text.specs.Plan.{Held, Reading, plan, refused, reading}
use Rattle.text.proofs.Answers.{counts-told, refusal-told}
use Rattle.text.proofs.Lengths.{padded-long}
use Rattle.page.specs.Lines.{refusal_line}
use Rattle.report.specs.Printed.{report, printed}
use Rattle.page.specs.Page.{codes_from, codes_in}
use Rattle.report.specs.Ready.{Ready}
use Rattle.text.specs.Sound.{Sound}
use Rattle.text.proofs.Outcomes.{sound as plan-sound, place-most}

-- ---- codes back from their cells

module _ (cells lens : List ℕ) where
  cells-back : (k : ℕ) (cs : List (List ℕ)) (z y : List ℕ) → ((j : ℕ) → j < length cs → length (get_or cs j []) ≤ most_code)
      → drop (k * most_code) cells ≡ cells_of cs ++ z → drop k lens ≡ map length cs ++ y → codes_from cells lens k (length cs) ≡ cs
  unfolding codes_from cells_of padded
  cells-back k [] z y short p q = refl
  cells-back k (c ∷ cs) z y short p q =
      let small : length c ≤ most_code = short 0 (omega arith) in
      let pad : List ℕ = zeros (most_code - length c) in
      let cell : drop (k * most_code) cells ≡ c ++ (pad ++ (cells_of cs ++ z)) = p ∙ append_assoc (c ++ pad) (cells_of cs) z ∙ append_assoc c pad (cells_of cs ++ z) in
      let len : get_or lens k 0 ≡ length c = ap (λ (n : ℕ). get_or lens n 0) (sym (add-zero k)) ∙ sym (get_or-drop k lens 0 0) ∙ ap (λ (l : List ℕ). get_or l 0 0) q in
      let all : min (length c) most_code ≡ length c = omega arith in
      let code : take (min (get_or lens k 0) most_code) (drop (k * most_code) cells) ≡ c = rw (len, all, cell) (take-append_seam c (pad ++ (cells_of cs ++ z))) in
      let long : length (c ++ pad) ≡ most_code = padded-long most_code c small in
      let next : k * most_code + most_code ≡ suc k * most_code = omega arith in
      let p' : drop (suc k * most_code) cells ≡ cells_of cs ++ z =
      ap (λ (n : ℕ). drop n cells) (sym next) ∙ sym (drop-drop most_code (k * most_code) cells) ∙ ap (drop most_code) (p ∙ append_assoc (c ++ pad) (cells_of cs) z) ∙ drop_at (c ++ pad) (cells_of cs ++ z) most_code long in
      let one : k + 1 ≡ suc k = omega arith in
      let q' : drop (suc k) lens ≡ map length cs ++ y = ap (λ (n : ℕ). drop n lens) (sym one) ∙ sym (drop-drop 1 k lens) ∙ ap (drop 1) q in
      let rest : codes_from cells lens (suc k) (length cs) ≡ cs = cells-back (suc k) cs z y (λ j l. short (suc j) (omega arith)) p' q' in
      rw (code, rest)

-- ---- what was read

pub record ReadOff (text : List ℕ) (read : Counts) (sets cells lens turns : List ℕ) : Type 0 where
  pub of : Held
  pub is : reading text ≡ plan of
  pub stations : of.stations ≡ read.stations
  pub many : length of.stocks.codes ≡ read.stocks
  pub made : length of.turns ≡ read.turns
  pub sets_are : sets ≡ of.stocks.sets
  pub cells_are : cells ≡ padded (most_stocks * most_code) (cells_of of.stocks.codes)
  pub lens_are : lens ≡ padded most_stocks (map length of.stocks.codes)
  pub turns_are : turns ≡ padded most_turns of.turns

pub read_off : (text : List ℕ) (r : Result Counts Refusal) (read : Counts) (sets cells lens turns a b c d : List ℕ) → r ≡ Ok read → told r ≡ told_of (reading text)
    → sets ≡ sets_after (reading text) a → cells ≡ codes_after (reading text) b → lens ≡ lens_after (reading text) c → turns ≡ turns_after (reading text) d
    → ReadOff text read sets cells lens turns
read_off text r read sets cells lens turns a b c d e f g h i j =
    let p = counts-told text read.stations read.stocks read.turns (sym (ap told e) ∙ f) in
    record {
      of = p.holds;
      is = p.is;
      stations = sym p.stations;
      many = sym p.stocks;
      made = sym p.turns;
      sets_are = g ∙ ap (λ (o : Reading). sets_after o a) p.is;
      cells_are = h ∙ ap (λ (o : Reading). codes_after o b) p.is;
      lens_are = i ∙ ap (λ (o : Reading). lens_after o c) p.is;
      turns_are = j ∙ ap (λ (o : Reading). turns_after o d) p.is;
    }

-- the refusal that was read
pub refused-off : (text : List ℕ) (r : Result Counts Refusal) (why : Refusal) → r ≡ Err why → told r ≡ told_of (reading text)
    → (f : Fault) × (reading text ≡ refused f why.place) × (number_of why.fault ≡ number_of f)
refused-off text r why e t =
    let g = refusal-told text (number_of why.fault) why.place (sym (ap told e) ∙ t) in
    (g.fault, g.is, g.number_is)

module _ {text : List ℕ} {read : Counts} {sets cells lens turns : List ℕ} (r : ReadOff text read sets cells lens turns) where
  sound : Sound r.of
  sound = plan-sound text r.of r.is

  pub turns-long : read.turns ≤ length turns
  turns-long =
      let e : length turns ≡ most_turns = ap length r.turns_are ∙ padded-long most_turns r.of.turns sound.turns.most in
      let f = sound.turns.most in
      let m = r.made in
      omega arith

  pub prefix-long : read.turns ≡ length (take read.turns turns)
  prefix-long = sym (length-take-le read.turns turns turns-long)

  turns-back : take read.turns turns ≡ r.of.turns
  unfolding padded
  turns-back = ap (take read.turns) r.turns_are ∙ take_at r.of.turns (zeros (most_turns - length r.of.turns)) read.turns r.made

  codes-back : codes_in cells lens read.stocks ≡ r.of.stocks.codes
  unfolding padded
  codes-back =
      let m = sound.stocks.codes.most in
      let k = r.many in
      let all : min read.stocks most_stocks ≡ length r.of.stocks.codes = omega arith in
      ap (codes_from cells lens 0) all
      ∙ cells-back cells lens 0 r.of.stocks.codes (zeros (most_stocks * most_code - length (cells_of r.of.stocks.codes))) (zeros (most_stocks - length (map length r.of.stocks.codes))) (λ j l. (sound.stocks.codes.good j l).most) r.cells_are r.lens_are

  pub ready : Ready read.stations sets (take read.turns turns)
  ready =
      record {
        high = rw (← r.stations) sound.most;
        sets_long = ap length r.sets_are ∙ sound.stocks.sets;
        few = rw turns-back sound.turns.most;
        named = rw (turns-back, ← r.stations) sound.turns.named;
      }

  pub report-is : report read.stations sets (codes_in cells lens read.stocks) (take read.turns turns) ≡ printed text
  unfolding printed
  report-is = rw (codes-back, turns-back, r.sets_are, ← r.stations, r.is)

pub refusal_is : (text : List ℕ) (fault f : Fault) (number place : ℕ) → reading text ≡ refused f place → number_of fault ≡ number_of f → number ≡ number_of fault → refusal_line number place ≡ printed text
unfolding printed
refusal_is text fault f number place e g h = rw (e, h, g)

pub place-small : (text : List ℕ) (f : Fault) (place : ℕ) → reading text ≡ refused f place → place < 65536
place-small text f place e = let m = place-most text f place e in omega arith
