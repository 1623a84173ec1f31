-- A call that passed the tests: what is played on the record is the method's run, and the answer is its rows.
use Prim.Native.Nat.{ℕ, zero, suc, ◌*◌, ◌%◌, ◌≤◌, ◌<◌}
use mathlib.Core.Path.{◌≡◌, refl, sym, ap, ◌∙◌}
use mathlib.Core.List.{List}
use native.Mathlib.Nat.{le_antisymm, le_refl}
use native.Mathlib.Omega.{arith}
use borrow.Author.Tests.{lt-ltb, le-ltb}
use Rattle.std.proofs.Common.{length-take-le}
use lib.ListN.{length, get_or, take}
use Rattle.method.specs.declared.Run.{Run}
use Rattle.method.specs.declared.Turned.{Turned}
use Rattle.method.specs.Board.{levels, registers, fresh, fresh_on, row_of}
use Rattle.method.specs.Turn.{turn, after}
use Rattle.method.specs.Demand.{Fits}
use Rattle.method.proofs.Demand3.{count-within, fits-board}
use Rattle.method.proofs.Moments.{always-sound}
use Rattle.turns.specs.declared.playing.Played.{Played}
use Rattle.turns.specs.Moves.{count_end}
use Rattle.turns.specs.Step.{step_of}
use Rattle.turns.specs.Playing.{stepped, unwritten_step, stops_at, played_of}
use Rattle.std.specs.Prelude.{Result, Ok, Err}
use Rattle.verdict.specs.declared.Refusal.{Refusal}
use Rattle.verdict.specs.declared.Refusal.TheVariants.{BadStationCount, BadInputBytes, TooManyTurns, BadTurn, ShortAnswer, UnwrittenLine}
use Rattle.run.specs.Inputs.{inputs_in}
use Rattle.answer.specs.Answer.{answer_in}
use Rattle.verdict.specs.Refusals.{number_of, first_bad, tests}
use Rattle.run.specs.Call.{reads_unwritten, first_unwritten, begun, verdict_of, answer_for, answered}
use Rattle.verdict.proofs.Judging.{Taken, taken, stations-named}
use Rattle.answer.proofs.Laid.{answer-with-room, answer-take}
use Rattle.method.proofs.Firsts.{first-same, first-within}
use Rattle.run.proofs.Little.{inputs-length}

module _ (n : ℕ) (stocks turns : List ℕ) (high : n ≤ 16) (sixteen : length stocks ≡ 16) (few : length turns ≤ 4096) (past : length turns ≤ first_bad n turns) where
  fits : Fits levels registers n stocks
  fits = fits-board n stocks high (rw sixteen high)

  -- no count comes near its end
  step-turn : (t : ℕ) → t < length turns → step_of (after (fresh n stocks) turns t) (get_or turns t 0) ≡ turn (after (fresh n stocks) turns t) (get_or turns t 0)
  unfolding step_of fresh
  step-turn t h =
      let c : (row_of (after (fresh_on 4 16 n stocks) turns t) (get_or turns t 0)).count ≤ t = count-within fits turns t (get_or turns t 0) (stations-named n turns past t h) in
      rw (lt-ltb (row_of (after (fresh_on 4 16 n stocks) turns t) (get_or turns t 0)).count count_end (omega arith))

  pub stepped-after : (t : ℕ) → t ≤ length turns → stepped (fresh n stocks) turns t ≡ after (fresh n stocks) turns t
  unfolding stepped after
  stepped-after zero h = refl
  stepped-after (suc t) h =
      ap (λ (r : Run). (step_of r (get_or turns t 0)).run) (stepped-after t (omega arith)) ∙ ap (λ (x : Turned). x.run) (step-turn t h)

  pub stops_first : stops_at (fresh n stocks) turns ≡ first_unwritten (fresh n stocks) turns
  unfolding stops_at first_unwritten
  stops_first =
      first-same (unwritten_step (fresh n stocks) turns) (reads_unwritten (fresh n stocks) turns) 0 (length turns)
      (λ u a b. rw (stepped-after u (omega arith), step-turn u (omega arith)))

  -- the rows are sixteen
  pub rows-there : (t : ℕ) → length (after (fresh n stocks) turns t).rows ≡ 16
  unfolding fresh
  rows-there t = (always-sound levels registers n stocks fits turns t).shape.rows ∙ sixteen

within : (run : Run) (turns : List ℕ) → stops_at run turns ≤ length turns
unfolding stops_at
within run turns = let b = first-within (unwritten_step run turns) 0 (length turns) in omega arith

module _ (n : ℕ) (inputs turns answer : List ℕ) (e : Ok tt ≡ tests n (length inputs) turns (length answer)) where
  t : Taken n (length inputs) turns (length answer)
  t = taken n (length inputs) turns (length answer) (sym e)

  pub stations-few : n ≤ 16
  stations-few = t.high

  pub inputs-few : length inputs ≤ 8 * 16
  inputs-few = omega (arith, t.given, t.high)

  pub inputs-whole : length inputs % 8 ≡ 0
  inputs-whole = omega (arith, t.given)

  pub turns-few : length turns ≤ 4096
  turns-few = t.few

  stop : stops_at (begun n inputs) turns ≡ first_unwritten (begun n inputs) turns
  stop = stops_first n (inputs_in 16 inputs) turns t.high (inputs-length 16 inputs) t.few t.good

  module _ (stocks : List ℕ) (start : Run) (out : Played) (p : stocks ≡ inputs_in 16 inputs) (q : start ≡ fresh n stocks) (r : out ≡ played_of start turns) where
    -- what is played is the call's own inputs and turns
    played : out ≡ played_of (begun n inputs) turns
    played = rw (← p, ← q) r

    at : out.at ≡ first_unwritten (begun n inputs) turns
    at = ap (λ (x : Played). x.at) played ∙ stop

    pub stopped : out.at < length turns → Err (UnwrittenLine out.at) ≡ verdict_of n inputs turns answer
    unfolding verdict_of
    stopped h = rw (← e, ← at, lt-ltb _ _ h)

    pub stopped-answer : out.at < length turns → answer ≡ answered n inputs turns answer
    stopped-answer h = rw (← stopped h)

    pub done : length turns ≤ out.at → Ok tt ≡ verdict_of n inputs turns answer
    unfolding verdict_of
    done h = rw (← e, ← at, le-ltb _ _ h)

    -- what was played to the end is the run after every turn
    ran : length turns ≤ out.at → out.run ≡ after (begun n inputs) turns (length turns)
    ran h =
        let end : stops_at (begun n inputs) turns ≡ length turns =
        le_antisymm (within (begun n inputs) turns) (rw (ap (λ (x : Played). x.at) played) at h) in
        ap (λ (x : Played). x.run) played ∙ ap (λ (u : ℕ). stepped (begun n inputs) turns u) end
        ∙ stepped-after n (inputs_in 16 inputs) turns t.high (inputs-length 16 inputs) t.few t.good (length turns) (le_refl (length turns))

    -- the answer of the rows that were played
    pub done-rows : length turns ≤ out.at → (last : List ℕ) → last ≡ answer_in n out.run.rows answer → last ≡ answered n inputs turns answer
    done-rows h last g = g ∙ rw (ran h, answer-with-room n (after (begun n inputs) turns (length turns)).rows answer t.high t.wide, ← done h)

    -- the same of the stations' rows alone
    pub done-answer : length turns ≤ out.at → (last : List ℕ) → last ≡ answer_in (length (take n out.run.rows)) (take n out.run.rows) answer → last ≡ answered n inputs turns answer
    done-answer h last g =
        let rows : length out.run.rows ≡ 16 = ap (λ (x : Run). length x.rows) (ran h) ∙ rows-there n (inputs_in 16 inputs) turns t.high (inputs-length 16 inputs) t.few t.good (length turns) in
        let long : length (take n out.run.rows) ≡ n = length-take-le n out.run.rows (omega (arith, rows, t.high)) in
        done-rows h last (g ∙ rw (long, answer-with-room n (take n out.run.rows) answer t.high t.wide, answer-with-room n out.run.rows answer t.high t.wide, answer-take))

-- ---- a call that did not pass them

pub refused-call : (n : ℕ) (inputs turns answer : List ℕ) (r : Refusal) → Err r ≡ tests n (length inputs) turns (length answer) → Err r ≡ verdict_of n inputs turns answer
unfolding verdict_of
refused-call n inputs turns answer r e = rw (← e)

-- every number but 0 leaves the answer as it was
untouched : (n : ℕ) (inputs turns answer : List ℕ) (v : Result (Unit {0}) Refusal) → (number_of v ≡ 0 → ⊥) → answer_for n inputs turns answer v ≡ answer
untouched n inputs turns answer (Ok made) e = absurd (e refl)
untouched n inputs turns answer (Err BadStationCount) e = refl
untouched n inputs turns answer (Err BadInputBytes) e = refl
untouched n inputs turns answer (Err TooManyTurns) e = refl
untouched n inputs turns answer (Err (BadTurn _)) e = refl
untouched n inputs turns answer (Err ShortAnswer) e = refl
untouched n inputs turns answer (Err (UnwrittenLine _)) e = refl

refused-number : (r : Refusal) → number_of (Err r) ≡ 0 → ⊥
refused-number BadStationCount e = omega (arith, e)
refused-number BadInputBytes e = omega (arith, e)
refused-number TooManyTurns e = omega (arith, e)
refused-number (BadTurn at) e = omega (arith, e)
refused-number ShortAnswer e = omega (arith, e)
refused-number (UnwrittenLine at) e = omega (arith, e)

pub refused-answer : (n : ℕ) (inputs turns answer : List ℕ) (r : Refusal) → Err r ≡ tests n (length inputs) turns (length answer) → answer ≡ answered n inputs turns answer
refused-answer n inputs turns answer r e =
    rw (← refused-call n inputs turns answer r e, untouched n inputs turns answer (Err r) (refused-number r))

pub ruleset outcomes = (stations-few, inputs-few, inputs-whole, turns-few, stopped, stopped-answer, done, done-rows, done-answer, refused-call, refused-answer)
