-- What a register holds, and the record with a register put anew.
use Prim.Native.Nat.{ℕ, ◌-◌, ◌≤◌, ◌<◌}
use mathlib.Core.Path.{◌≡◌, refl, sym, ap}
use mathlib.Core.Bool.{Bool, true, false, cond, true≢false}
use mathlib.Core.List.{List}
use native.Mathlib.Omega.{arith}
use borrow.Author.Tests.{leb-false}
use lib.Dec.{leb}
use lib.ListN.{length, get_or, set, get_or-eq_default}
use lib.Seq.{set_out}
use Rattle.std.specs.Prelude.{None, Some}
use Rattle.sets.specs.Arrays.{place}
use Rattle.method.specs.declared.Level.{Level}
use Rattle.method.specs.declared.Run.{Run}
use Rattle.method.specs.Board.{empty_level, level_of, register_of, with_register}
use Rattle.turns.proofs.Record.{with_board, level_at}

pub within : (xs : List ℕ) (i : ℕ) → length xs ≤ i → 0 ≡ get_or xs i 0
within xs i h = sym (get_or-eq_default xs 0 h)

pub outside : (xs : List ℕ) (i v : ℕ) → length xs ≤ i → xs ≡ set xs i v
outside xs i v h = sym (set_out xs i v h)

module _ (k c j : ℕ) where
  -- a level that has no place is on no board
  high : None ≡ cond (leb k 8) (Some (place k c j)) None → 8 < k
  high e = go (leb k 8) refl e
    where
      go : (b : Bool) → leb k 8 ≡ b → None ≡ cond b (Some (place k c j)) None → 8 < k
      go true f g = absurd (let z : ◌≡◌ {A = Bool} true false = cc in true≢false z)
      go false f g = leb-false k 8 f

  pub place-is : (p : ℕ) → Some p ≡ cond (leb k 8) (Some (place k c j)) None → p ≡ place k c j
  place-is p e = go (leb k 8) e
    where
      go : (b : Bool) → Some p ≡ cond b (Some (place k c j)) None → p ≡ place k c j
      go true g = cc
      go false g = absurd (let z : ◌≡◌ {A = Bool} true false = cc in true≢false z)

  module _ (run : Run) where
    -- a register of no level of the board reads as empty, and a write there changes nothing
    pub empty_above : length run.board ≤ k - 1 → 0 ≡ register_of run k c j
    unfolding register_of level_of
    empty_above h = sym (rw (get_or-eq_default run.board (empty_level 0) h))

    pub empty_high : length run.board ≡ 4 → None ≡ cond (leb k 8) (Some (place k c j)) None → 0 ≡ register_of run k c j
    empty_high l e = empty_above (omega (arith, high e))

    pub kept_above : (v : ℕ) → length run.board ≤ k - 1 → run ≡ with_register run k c j v
    unfolding with_register level_of
    kept_above v h = sym (ap (λ (ys : List Level). with_board run ys) (set_out run.board (k - 1) _ h))

    pub kept_high : (v : ℕ) → length run.board ≡ 4 → None ≡ cond (leb k 8) (Some (place k c j)) None → run ≡ with_register run k c j v
    kept_high v l e = kept_above v (omega (arith, high e))

    -- the register that is at an index of a level
    pub held_at : (l p : ℕ) → l ≡ k - 1 → p ≡ place k c j - 1 → get_or (level_at run l).sets p 0 ≡ register_of run k c j
    unfolding register_of level_of
    held_at l p e f = rw (e, f)

    pub put_at : (l p v : ℕ) (sets : List ℕ) → l ≡ k - 1 → p ≡ place k c j - 1 → sets ≡ set (level_at run l).sets p v → with_board run (set run.board l (record { sets = sets })) ≡ with_register run k c j v
    unfolding with_register level_of
    put_at l p v sets e f g = rw (g, e, f)

pub ruleset reads = (empty_above, empty_high, held_at, place-is)

pub ruleset writes = (kept_above, kept_high, put_at, place-is)
