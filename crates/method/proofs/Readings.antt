-- The reading of one array at one moment: what a write or a read of its next register makes of it.
use mathlib.Core.Path.{◌≡◌, refl, sym, ◌∙◌}
use mathlib.Core.Bool.{Bool, true, false, true≢false}
use mathlib.Core.Logic.{◌⊎◌, inl, inr}
use Prim.Native.Nat.{ℕ, suc, ◌+◌, ◌^◌, ◌≤◌, ◌<◌}
use native.Mathlib.Nat.{eq-or-lt_of_le}
use native.Mathlib.Omega.{arith}
use borrow.Author.Tests.{ltb-true, ltb-false}
use Rattle.sets.specs.Mask.{size}
use Rattle.sets.proofs.Blocks.{block-length}
use Rattle.method.specs.declared.Reading.{Reading}
use Rattle.method.specs.Steps.{writing, pending, wrote, found}
use Rattle.method.proofs.Brought.{History, Full, Stop, Brought}
use Rattle.method.proofs.Rows.{Read, Written}

-- a reading that has an operation left but nothing to write
pub pending-read : (d : ℕ) (r : Reading) → pending (suc d) r ≡ true → writing r ≡ false → size r.set < 2 ^ d
unfolding pending
pending-read d r p w = ltb-true (size r.set) (2 ^ d) (rw (block-length, w) at p)

-- and one that has none left
not-pending : (d : ℕ) (r : Reading) → pending (suc d) r ≡ false → (writing r ≡ false) × (2 ^ d ≤ size r.set)
unfolding pending
not-pending d r p = go (writing r) refl
  where
    go : (w : Bool) → writing r ≡ w → (writing r ≡ false) × (2 ^ d ≤ size r.set)
    go true w = absurd (true≢false (rw w at p))
    go false w = (w, ltb-false (size r.set) (2 ^ d) (rw (block-length, w) at p))

module _ {m : History} {P : ℕ → Type 0} {t d b : ℕ} {r : Reading} (read : Read m P t d b r) where
  pub written : writing r ≡ false → Written r
  unfolding writing
  written w = record { all = omega (arith, ltb-false r.known (size r.set) w, read.known) }

  -- nothing is left to write: the array is full as far as the set reaches
  pub written-full : Written r → Full m t d b (size r.set)
  written-full w = rw w.all at read.full

  -- nothing is left to read: the array is full, and there is no register after it
  pub over : pending (suc d) r ≡ false → Written r
  over p = written (not-pending d r p).0

  pub full-up : pending (suc d) r ≡ false → (u : ℕ) → Stop m u d b (size r.set)
  full-up p u = let q = not-pending d r p in record { ends = λ h. absurd (omega arith) }

-- what the board answers at this moment: the register has been written, or what it holds
pub record Answer (m : History) (t d b : ℕ) (r : Reading) (v : ℕ) : Type 0 where
  pub filled : writing r ≡ true → 0 < m t d b r.known
  pub shown : writing r ≡ false → v ≡ m t d b (size r.set)

-- every register that is filled holds a set brought to its block, and the set is large enough for the register
pub record BoardOk (m : History) (P : ℕ → Type 0) (t : ℕ) : Type 0 where
  pub holds : (d b p : ℕ) → p < 2 ^ d → 0 < m t d b p → Brought m P d b (m t d b p) × (p < size (m t d b p))

-- one register more is filled
extend : {m : History} {t d b x : ℕ} → Full m t d b x → 0 < m t d b x → Full m t d b (x + 1)
extend {m} {t} {d} {b} {x} f h = record { filled = λ p l. go p (eq-or-lt_of_le l) }
  where
    go : (p : ℕ) → (suc p ≡ x + 1) ⊎ (suc p < x + 1) → 0 < m t d b p
    go p (inl q) = let z : p ≡ x = omega arith in rw z h
    go p (inr q) = f.filled p (omega arith)

module _ {m : History} {P : ℕ → Type 0} {t d b : ℕ} {r : Reading} (read : Read m P t d b r) where
  pub wrote-read : (v : ℕ) → Answer m t d b r v → writing r ≡ true → Read m P t d b (wrote r)
  unfolding writing
  wrote-read v a w =
      record { brought = read.brought; full = extend read.full (a.filled w); known = omega (arith, ltb-true r.known (size r.set) w) }

  -- a register that holds nothing ends the reading
  pub stops : (v : ℕ) → Answer m t d b r v → writing r ≡ false → v ≡ 0 → Stop m t d b (size r.set)
  stops v a w z = record { ends = λ h. sym (a.shown w) ∙ z }

  -- one that holds T carries it on from T
  module _ (board : BoardOk m P t) (v : ℕ) (a : Answer m t d b r v) (w : writing r ≡ false) (h : size r.set < 2 ^ d)
      (z : v ≡ 0 → ⊥) where
    filled-there : 0 < m t d b (size r.set)
    filled-there = let q = a.shown w in omega arith

    found-brought : Brought m P d b v
    found-brought = rw (a.shown w) (board.holds d b (size r.set) h filled-there).0

    found-larger : size r.set < size v
    found-larger = rw (a.shown w) (board.holds d b (size r.set) h filled-there).1

    pub found-read : Read m P t d b (found r v)
    found-read =
        record { brought = found-brought; full = extend (written-full read (written read w)) filled-there; known = omega (arith, found-larger) }
