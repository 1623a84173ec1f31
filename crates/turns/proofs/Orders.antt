-- A look through an order of turns for the first that would read a line never written, and the record on the way.
use Prim.Native.Nat.{ℕ, ◌+◌, ◌≤◌, ◌<◌}
use mathlib.Core.Path.{◌≡◌, refl, sym, subst, ◌∙◌}
use mathlib.Core.Bool.{Bool, true, false, cond, ◌&&◌, and-false}
use mathlib.Core.List.{List}
use native.Mathlib.Numerals.{add-one}
use borrow.Author.Tests.{leb-true}
use lib.Dec.{T as Holds, leb, ltb}
use lib.ListN.{length, get_or}
use Rattle.std.specs.Prelude.{Option, None, Some}
use Rattle.method.specs.declared.State.{State}
use Rattle.method.specs.declared.State.TheVariants.{NotBegun, Uniting, Gathering, Settled}
use Rattle.method.specs.declared.Op.{Op}
use Rattle.method.specs.declared.Op.TheVariants.{Post, Write, Read, ReadLine, Rest}
use Rattle.method.specs.declared.Did.TheVariants.{Nobody}
use Rattle.method.specs.declared.Run.{Run}
use Rattle.method.specs.declared.Turned.{Turned}
use Rattle.method.specs.Board.{not_begun, row_of, line_of}
use Rattle.method.specs.Steps.{next_op}
use Rattle.method.specs.Turn.{turned, read_line, perform, named, turn}
use Rattle.method.specs.Demand.{is_settled}
use Rattle.method.specs.First.{first_from}
use Rattle.method.proofs.Firsts.{Passed, passed_none, passed-more, passed-stop, passed-all}
use Rattle.turns.specs.Moves.{count_end}
use Rattle.turns.specs.Step.{step_of}
use Rattle.turns.specs.Places.{seat_at}
use Rattle.turns.proofs.Placing.{seat_own}
use Rattle.turns.specs.Playing.{stepped, is_unwritten, unwritten_step, stops_at, played_of}

-- a turn that leaves the record as it is, and would read no line never written
pub record Still (now : Run) (x : Turned) : Type 0 where
  pub stays : x.run ≡ now
  pub reads : is_unwritten x.did ≡ false

module _ (run : Run) (turns : List ℕ) where
  -- the record after t turns, none of which was stopped
  pub record Steps (now : Run) (t : ℕ) : Type 0 where
    pub state : now ≡ stepped run turns t
    pub passed : Passed (unwritten_step run turns) (length turns) t

  pub steps-none : Steps run 0
  unfolding stepped
  steps-none = record { state = refl; passed = passed_none (unwritten_step run turns) (length turns) }

  stops-here : (now : Run) (t : ℕ) (x : Turned) (b : Bool) → Steps now t → x ≡ step_of now (get_or turns t 0) → b ≡ is_unwritten x.did → b ≡ unwritten_step run turns t
  stops-here now t x b s e f = f ∙ rw (e, s.state)

  pub steps-more : (now : Run) (t : ℕ) (x : Turned) (b : Bool) → Steps now t → t < length turns → x ≡ step_of now (get_or turns t 0) → b ≡ is_unwritten x.did → b ≡ false → Steps x.run (t + 1)
  unfolding stepped
  steps-more now t x b s h e f z =
      record {
        state = rw (add-one t, e, s.state);
        passed = passed-more (unwritten_step run turns) s.passed h (sym (stops-here now t x b s e f) ∙ z);
      }

  pub steps-stop : (now : Run) (t : ℕ) (x : Turned) (b : Bool) → Steps now t → t < length turns → x ≡ step_of now (get_or turns t 0) → b ≡ is_unwritten x.did → b ≡ true → record { run = now; at = t } ≡ played_of run turns
  unfolding stops_at
  steps-stop now t x b s h e f z =
      let stop : first_from (unwritten_step run turns) 0 (length turns) ≡ t = passed-stop (unwritten_step run turns) s.passed h (sym (stops-here now t x b s e f) ∙ z) in
      rw (stop, s.state)

  pub steps_all : (now : Run) (t : ℕ) → Steps now t → length turns ≤ t → record { run = now; at = t } ≡ played_of run turns
  unfolding stops_at
  steps_all now t s h =
      let end : first_from (unwritten_step run turns) 0 (length turns) ≡ t = passed-all (unwritten_step run turns) s.passed h in
      rw (end, s.state)

  pub steps-still : (now : Run) (t : ℕ) → Steps now t → t < length turns → Still now (step_of now (get_or turns t 0)) → Steps now (t + 1)
  steps-still now t s h w = subst (λ (r : Run). Steps r (t + 1)) w.stays (steps-more now t (step_of now (get_or turns t 0)) (is_unwritten (step_of now (get_or turns t 0)).did) s h refl refl w.reads)

-- a turn that would read a line never written leaves the record as it is
module _ (run : Run) (i : ℕ) where
  unwritten-read : (l : Option ℕ) → is_unwritten (read_line run i l).did ≡ true → (read_line run i l).run ≡ run
  unwritten-read (Some s) e = absurd (subst (λ (z : Bool). Holds z) (sym e) tt)
  unwritten-read None e = refl

  unwritten-op : (op : Op) → is_unwritten (perform run i op).did ≡ true → (perform run i op).run ≡ run
  unfolding perform
  unwritten-op (Post stocks) e = absurd (subst (λ (z : Bool). Holds z) (sym e) tt)
  unwritten-op (Write k c j v) e = absurd (subst (λ (z : Bool). Holds z) (sym e) tt)
  unwritten-op (Read k c j) e = absurd (subst (λ (z : Bool). Holds z) (sym e) tt)
  unwritten-op (ReadLine j) e = unwritten-read (line_of run j) e
  unwritten-op Rest e = refl

  pub unwritten-stays : is_unwritten (step_of run i).did ≡ true → (step_of run i).run ≡ run
  unfolding step_of turn
  unwritten-stays = at (ltb (row_of run i).count count_end) (named run i)
    where
      at : (x y : Bool) → is_unwritten (cond x (cond y (perform run i (next_op i (row_of run i).state)) (turned run Nobody)) (turned run Nobody)).did ≡ true
          → (cond x (cond y (perform run i (next_op i (row_of run i).state)) (turned run Nobody)) (turned run Nobody)).run ≡ run
      at true true e = unwritten-op (next_op i (row_of run i).state) e
      at true false e = refl
      at false y e = refl

-- A turn of a settled station is still. So is a turn of a number that has no row, whichever it is seated at.
module _ (run : Run) (rows : length run.rows ≡ 16) (i : ℕ) where
  settled-op : (s : State) → is_settled s ≡ true → next_op i s ≡ Rest
  unfolding next_op
  settled-op (NotBegun stocks) e = absurd (subst (λ (z : Bool). Holds z) (sym e) tt)
  settled-op (Uniting k own other side round) e = absurd (subst (λ (z : Bool). Holds z) (sym e) tt)
  settled-op (Gathering S j got) e = absurd (subst (λ (z : Bool). Holds z) (sym e) tt)
  settled-op (Settled S got) e = refl

  still : (x : Bool) → Still run (cond x (turned run Nobody) (turned run Nobody))
  still true = record { stays = refl; reads = refl }
  still false = record { stays = refl; reads = refl }

  idle : (x y : Bool) → Still run (cond x (cond y (perform run i Rest) (turned run Nobody)) (turned run Nobody))
  unfolding perform
  idle true true = record { stays = refl; reads = refl }
  idle true false = record { stays = refl; reads = refl }
  idle false y = record { stays = refl; reads = refl }

  pub settled-still : is_settled (get_or run.rows (seat_at i) (not_begun 0)).state ≡ true → Still run (step_of run i)
  unfolding step_of turn named row_of
  settled-still e = at (leb 1 i) (leb i 16) refl refl
    where
      nobody : named run i ≡ false → Still run (step_of run i)
      nobody f = subst (λ (y : Bool). Still run (cond (ltb (row_of run i).count count_end) (cond y (perform run i (next_op i (row_of run i).state)) (turned run Nobody)) (turned run Nobody))) (sym f) (still (ltb (row_of run i).count count_end))

      at : (x y : Bool) → leb 1 i ≡ x → leb i 16 ≡ y → Still run (step_of run i)
      at true true f g =
          let settled : is_settled (row_of run i).state ≡ true = subst (λ (n : ℕ). is_settled (get_or run.rows n (not_begun 0)).state ≡ true) (seat_own i (leb-true 1 i f) (leb-true i 16 g)) e in
          subst (λ (op : Op). Still run (cond (ltb (row_of run i).count count_end) (cond (named run i) (perform run i op) (turned run Nobody)) (turned run Nobody))) (sym (settled-op (row_of run i).state settled)) (idle (ltb (row_of run i).count count_end) (named run i))
      at true false f g = nobody (rw (rows, g) (and-false (leb 1 i && leb i run.stations)))
      at false y f g = nobody (rw f)
