-- A turn by its ways out: whose row goes on, and who makes no turn.
use Prim.Native.Nat.{ℕ, ◌+◌, ◌-◌, ◌≤◌}
use mathlib.Core.Path.{◌≡◌, refl, sym, ap, subst, ◌∙◌}
use mathlib.Core.Bool.{Bool, true, false, cond, ◌&&◌, true≢false}
use native.Mathlib.Omega.{arith}
use borrow.Author.Tests.{le-leb}
use lib.Dec.{leb, ltb}
use lib.ListN.{length, get_or, set}
use Rattle.std.specs.Prelude.{Option, None, Some, Ok, Err}
use Rattle.std.specs.Option.{ok_or}
use Rattle.std.proofs.lemmas.Bool.{and_parts}
use Rattle.method.specs.declared.State.{State}
use Rattle.method.specs.declared.Op.{Op}
use Rattle.method.specs.declared.Op.TheVariants.{Post, Write, Read, ReadLine, Rest}
use Rattle.method.specs.declared.Row.{Row}
use Rattle.method.specs.declared.Run.{Run}
use Rattle.method.specs.declared.Turned.{Turned}
use Rattle.method.specs.declared.Did.{Did}
use Rattle.method.specs.declared.Did.TheVariants.{Operation, Idle, Unwritten, Nobody}
use Rattle.method.specs.Board.{not_begun, row, row_of, line_of, register_of, with_row, with_line, with_register}
use Rattle.method.specs.Steps.{absorb, next_op}
use Rattle.method.specs.Turn.{turned, goes_on, read_line, perform, named, turn}
use Rattle.turns.specs.Moves.{count_end, may_turn, left, brought, onward}
use Rattle.turns.specs.Step.{step_of}
use Rattle.turns.specs.Places.{seat_at}
use Rattle.turns.proofs.Record.{with_rows}
use Rattle.turns.proofs.Placing.{seat_own}

-- its row goes on as the method's
pub going : (N i v : ℕ) (r : Row) (s : State) → 1 ≤ i → i ≤ 16 → s ≡ cond (leb 1 i && leb i 64) (absorb N i r.state v) r.state → row s (r.count + 1) ≡ onward N i r v
going N i v r s low high f = rw (f, le-leb 1 i low, le-leb i 64 (omega arith))

no_error : {v : ℕ} {did : Did} → Ok v ≡ Err did → ⊥
no_error e = let z : ◌≡◌ {A = Bool} true false = cc in true≢false z

module _ (run : Run) (i : ℕ) where
  -- the record with what a turn leaves, at index a of its rows
  abbrev put : Run → ℕ → ℕ → Turned
  put m a v = turned (with_rows m (set m.rows a (onward m.depth i (get_or run.rows a (not_begun 0)) v))) Operation

  performs : (op : Op) (v : ℕ) → Ok v ≡ brought run op → put (left run i op) (i - 1) v ≡ perform run i op
  unfolding perform goes_on with_row row_of with_line with_register
  performs (Post stocks) v e = let z : v ≡ 0 = cc in rw z
  performs (Write k c j x) v e = let z : v ≡ 0 = cc in rw z
  performs (Read k c j) v e = let z : v ≡ register_of run k c j = cc in rw z
  performs (ReadLine j) v e = go (line_of run j) e
    where
      go : (l : Option ℕ) → Ok v ≡ ok_or l Unwritten → put run (i - 1) v ≡ read_line run i l
      go (Some s) f = let z : v ≡ s = cc in rw z
      go None f = absurd (no_error f)
  performs Rest v e = absurd (no_error e)

  rests : (op : Op) (did : Did) → Err did ≡ brought run op → turned (left run i op) did ≡ perform run i op
  unfolding perform
  rests (Post stocks) did e = absurd (no_error (sym e))
  rests (Write k c j x) did e = absurd (no_error (sym e))
  rests (Read k c j) did e = absurd (no_error (sym e))
  rests (ReadLine j) did e = go (line_of run j) e
    where
      go : (l : Option ℕ) → Err did ≡ ok_or l Unwritten → turned run did ≡ read_line run i l
      go (Some s) f = absurd (no_error (sym f))
      go None f = let z : did ≡ Unwritten = cc in rw z
  rests Rest did e = let z : did ≡ Idle = cc in rw z

  module _ (a : ℕ) (e : a ≡ seat_at i) (rows : length run.rows ≡ 16) where
    abbrev y : Row
    y = get_or run.rows a (not_begun 0)

    abbrev may : Bool
    may = may_turn run.stations i y.count

    -- a station's own row is at its seat
    own_row : 1 ≤ i → i ≤ 16 → a ≡ i - 1
    own_row low high = e ∙ seat_own i low high

    low : may ≡ true → 1 ≤ i
    low h = grind (arith, and_parts)

    within : may ≡ true → i ≤ run.stations
    within h = grind (arith, and_parts)

    high : may ≡ true → i ≤ 16
    high h = grind (arith, and_parts)

    room : may ≡ true → ltb y.count count_end ≡ true
    room h = (and_parts _ _ h).1

    step_made : (op : Op) → may ≡ true → op ≡ next_op i y.state → perform run i op ≡ step_of run i
    unfolding step_of turn named row_of
    step_made op h f =
        let own : a ≡ i - 1 = own_row (low h) (high h) in
        let counted : ltb (get_or run.rows (i - 1) (not_begun 0)).count count_end ≡ true = subst (λ (n : ℕ). ltb (get_or run.rows n (not_begun 0)).count count_end ≡ true) own (room h) in
        rw (f, own, counted, rows, le-leb 1 i (low h), le-leb i run.stations (within h), le-leb i 16 (high h))

    pub step_ok : (op : Op) (m : Run) (v : ℕ) (x : Row) → true ≡ may → op ≡ next_op i y.state → m ≡ left run i op → Ok v ≡ brought run op → x ≡ onward m.depth i y v
        → turned (with_rows m (set m.rows a x)) Operation ≡ step_of run i
    step_ok op m v x h f g b q =
        rw (q, g) (ap (λ (n : ℕ). put (left run i op) n v) (own_row (low (sym h)) (high (sym h))) ∙ performs op v b ∙ step_made op (sym h) f)

    pub step_err : (op : Op) (m : Run) (did : Did) → true ≡ may → op ≡ next_op i y.state → m ≡ left run i op → Err did ≡ brought run op → turned m did ≡ step_of run i
    step_err op m did h f g b = rw g (rests op did b ∙ step_made op (sym h) f)

    pub step_none : may ≡ false → turned run Nobody ≡ step_of run i
    unfolding step_of turn named row_of
    step_none h = by (leb 1 i && leb i run.stations && leb i 16) refl
      where
        alike : (x : Bool) → turned run Nobody ≡ cond x (turned run Nobody) (turned run Nobody)
        alike true = refl
        alike false = refl

        by : (x : Bool) → (leb 1 i && leb i run.stations && leb i 16) ≡ x → turned run Nobody ≡ step_of run i
        by true f =
            let own : a ≡ i - 1 = own_row (grind (arith, and_parts)) (grind (arith, and_parts)) in
            let full : ltb y.count count_end ≡ false = sym (rw f) ∙ h in
            let end : ltb (get_or run.rows (i - 1) (not_begun 0)).count count_end ≡ false = subst (λ (n : ℕ). ltb (get_or run.rows n (not_begun 0)).count count_end ≡ false) own full in
            rw end
        by false f = rw (rows, f) (alike (ltb (get_or run.rows (i - 1) (not_begun 0)).count count_end))

pub ruleset steps = (step_ok, step_err, step_none)
