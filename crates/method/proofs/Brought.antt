-- What a level may bring to a block of stations, and that any two such sets are comparable. Levels, blocks, registers and stations are
-- counted from 0 here: block b of level d holds the 2 ^ d stations from b * 2 ^ d on, and its array is array b + 1 of level d + 1 in MODEL 2.
use mathlib.Core.Path.{◌≡◌, refl, sym, subst}
use mathlib.Core.Logic.{◌⊎◌, inl, inr, ⊎_swap}
use Prim.Native.Nat.{ℕ, zero, suc, ◌+◌, ◌*◌, ◌/◌, ◌%◌, ◌^◌, ◌≤◌, ◌<◌}
use native.Mathlib.Decide.{dec_le, le_ind}
use native.Mathlib.Omega.{arith}
use lib.Bits.{or_comm}
use Rattle.sets.specs.Mask.{size, union, bit, Inside}
use Rattle.sets.proofs.Blocks.{sibling}
use Rattle.sets.proofs.Members.{bit-cases}
use Rattle.sets.proofs.Digits.{bit-none, bit-union, bit-alone-only}
use Rattle.sets.proofs.Subset.{inside-refl, none_inside, union-mono, smaller-inside, size_none, size-alone, size-union}

-- what register p of block b at level d holds at moment u
abbrev pub History : Type 0
History = ℕ → ℕ → ℕ → ℕ → ℕ

-- a board that is empty at first, and where a filled register stays filled
pub record Lasting (m : History) : Type 0 where
  pub start : (d b p : ℕ) → m 0 d b p ≡ 0
  pub stays : (u d b p : ℕ) → 0 < m u d b p → 0 < m (suc u) d b p

-- the first x registers are filled
pub record Full (m : History) (u d b x : ℕ) : Type 0 where
  pub filled : (p : ℕ) → p < x → 0 < m u d b p

-- the register after the first x is empty, if there is one
pub record Stop (m : History) (u d b x : ℕ) : Type 0 where
  pub ends : x < 2 ^ d → m u d b x ≡ 0

-- the block's array stood just as a reading that ends with the set S finds it
pub record Stood (m : History) (u d b S : ℕ) : Type 0 where
  pub full : Full m u d b (size S)
  pub stop : Stop m u d b (size S)

-- Nothing, or a station alone that has posted; and the union of what was brought to the two halves, where both stood so at one moment.
pub data Brought (m : History) (Posted : ℕ → Type 0) : ℕ → ℕ → ℕ → Type 0 where
  nothing : {b : ℕ} → Brought m Posted 0 b 0
  single : {b : ℕ} → Posted b → Brought m Posted 0 b (2 ^ b)
  joined : {d q A B u : ℕ} → Brought m Posted d (2 * q) A → Brought m Posted d (2 * q + 1) B → Stood m u d (2 * q) A → Stood m u d (2 * q + 1) B
      → Brought m Posted (suc d) q (union A B)

pub brought-mono : {m : History} {P Q : ℕ → Type 0} {d b S : ℕ} → ((e : ℕ) → P e → Q e) → Brought m P d b S → Brought m Q d b S
brought-mono f nothing = nothing
brought-mono f (single p) = single (f _ p)
brought-mono f (joined l r x y) = joined (brought-mono f l) (brought-mono f r) x y

-- a set of a block is no larger than the block
pub brought-size : {m : History} {P : ℕ → Type 0} {d b S : ℕ} → Brought m P d b S → size S ≤ 2 ^ d
brought-size nothing = omega (arith, size_none)
brought-size (single {b = b} p) = omega (arith, size-alone b)
brought-size (joined {A = A} {B = B} l r x y) = omega (arith, brought-size l, brought-size r, size-union A B)

-- its members have posted
pub brought-posted : {m : History} {P : ℕ → Type 0} {d b S : ℕ} → Brought m P d b S → (e : ℕ) → bit S e ≡ 1 → P e
brought-posted nothing e h = absurd (omega (arith, bit-none e))
brought-posted {P = P} (single {b = b} p) e h = subst P (sym (bit-alone-only b e h)) p
brought-posted {P = P} (joined {A = A} {B = B} l r x y) e h = go (λ a. brought-posted l e a) (λ a. brought-posted r e a) (bit-cases A e)
  where
    go : (bit A e ≡ 1 → P e) → (bit B e ≡ 1 → P e) → (bit A e ≡ 0) ⊎ (bit A e ≡ 1) → P e
    go f g (inl z) = g (omega (arith, bit-union A B e))
    go f g (inr o) = f o

-- two neighbours' sets, of which either may be the left one
pub join : {m : History} {P : ℕ → Type 0} {d A B u : ℕ} (b : ℕ) → Brought m P d b A → Brought m P d (sibling b) B → Stood m u d b A
    → Stood m u d (sibling b) B → Brought m P (suc d) (b / 2) (union A B)
join {m} {P} {d} {A} {B} {u} b l r x y = go (b % 2) refl
  where
    sides : (c a : ℕ) → b ≡ c → sibling b ≡ a → Brought m P d c A × Brought m P d a B × Stood m u d c A × Stood m u d a B
    sides c a p q = (rw p at l, rw q at r, rw p at x, rw q at y)

    go : (w : ℕ) → b % 2 ≡ w → Brought m P (suc d) (b / 2) (union A B)
    go zero e = let f = sides (2 * (b / 2)) (2 * (b / 2) + 1) (omega arith) (omega arith) in joined f.0 f.1 f.2 f.3
    go (suc w) e =
        let f = sides (2 * (b / 2) + 1) (2 * (b / 2)) (omega arith) (omega arith) in
        subst (λ (S : ℕ). Brought m P (suc d) (b / 2) S) (or_comm B A) (joined f.1 f.0 f.3 f.2)

module _ {m : History} (board : Lasting m) where
  stays-filled : (u v d b p : ℕ) → u ≤ v → 0 < m u d b p → 0 < m v d b p
  stays-filled u v d b p l h = le_ind (λ (w : ℕ). 0 < m w d b p) h (λ w k. board.stays w d b p) v l

  -- filled goes on to later moments, and a stop back to earlier ones
  pub full-later : {u v d b x : ℕ} → u ≤ v → Full m u d b x → Full m v d b x
  full-later {u} {v} {d} {b} l f = record { filled = λ p h. stays-filled u v d b p l (f.filled p h) }

  pub stop-earlier : {u v d b x : ℕ} → u ≤ v → Stop m v d b x → Stop m u d b x
  stop-earlier {u} {v} {d} {b} {x} l s = record { ends = λ h. go h (m u d b x) refl }
    where
      go : x < 2 ^ d → (y : ℕ) → m u d b x ≡ y → m u d b x ≡ 0
      go h zero e = e
      go h (suc y) e = absurd (omega (arith, s.ends h, stays-filled u v d b x l (omega arith)))

  -- what was full at one moment goes no further than a stop at that moment or later
  pub full-stop : {u v d b x y : ℕ} → u ≤ v → x ≤ 2 ^ d → Full m u d b x → Stop m v d b y → x ≤ y
  full-stop {u} {v} {d} {b} {x} {y} l h f s = go (dec_le x y)
    where
      go : Dec (x ≤ y) → x ≤ y
      go (yes k) = k
      go (no k) = absurd (omega (arith, stays-filled u v d b y l (f.filled y (omega arith)), s.ends (omega arith)))

  -- nothing may be brought to every block
  pub brought-nothing : {P : ℕ → Type 0} (d b : ℕ) → Brought m P d b 0
  brought-nothing zero b = nothing
  brought-nothing {P} (suc d) b = joined (brought-nothing d (2 * b)) (brought-nothing d (2 * b + 1)) (stood (2 * b)) (stood (2 * b + 1))
    where
      stood : (c : ℕ) → Stood m 0 d c 0
      stood c =
          record {
            full = rw size_none record { filled = λ p h. absurd (omega arith) };
            stop = rw size_none record { ends = λ h. board.start d c 0 };
          }

  -- Any two sets brought to one block are comparable: their moments are ordered, so the sizes of their halves are, so by induction the
  -- halves lie inside one another.
  pub comparable : {P : ℕ → Type 0} {d b S T : ℕ} → Brought m P d b S → Brought m P d b T → Inside S T ⊎ Inside T S
  comparable nothing nothing = inl (none_inside 0)
  comparable nothing (single {b = b} p) = inl (none_inside (2 ^ b))
  comparable (single {b = b} p) nothing = inr (none_inside (2 ^ b))
  comparable (single {b = b} p) (single q) = inl (inside-refl (2 ^ b))
  comparable (joined {d = d} {q = q} {A = A} {B = B} {u = u} l r x y) (joined {A = C} {B = D} {u = v} l' r' x' y') =
      go (comparable l l') (comparable r r') (dec_le u v)
    where
      half : {w z b E F : ℕ} → w ≤ z → size E ≤ 2 ^ d → Stood m w d b E → Stood m z d b F → Inside E F ⊎ Inside F E → Inside E F
      half k h e f c = smaller-inside c (full-stop k h e.full f.stop)

      go : Inside A C ⊎ Inside C A → Inside B D ⊎ Inside D B → Dec (u ≤ v) → Inside (union A B) (union C D) ⊎ Inside (union C D) (union A B)
      go a b (yes k) = inl (union-mono (half k (brought-size l) x x' a) (half k (brought-size r) y y' b))
      go a b (no k) =
          let j : v ≤ u = omega arith in
          inr (union-mono (half j (brought-size l') x' x (⊎_swap a)) (half j (brought-size r') y' y (⊎_swap b)))
