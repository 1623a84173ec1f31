-- A level's array length, counted no further than 256, serves as well as the length itself for every number below 256.
use Prim.Native.Nat.{ℕ, zero, suc, ◌+◌, ◌-◌, ◌*◌, ◌/◌, ◌%◌, ◌≤◌, ◌<◌, min}
use mathlib.Core.Path.{◌≡◌, sym, ◌∙◌}
use Rattle.std.specs.Prelude.{Some, None}
use native.Mathlib.Nat.{mod-eq_of_lt, div-eq_of_lt, div-eq_of_lt-le, div-lt_iff_lt-mul, le-mul_of_pos_right, suc-mul, mul-le-mul}
use native.Mathlib.Decide.{dec_lt}
use native.Mathlib.Omega.{arith}
use lib.Pow.{pow_pos, pow_mono}
use mathlib.Core.Bool.{cond}
use borrow.Author.Tests.{eq-eqb, ne_eqb, le-leb}
use lib.Dec.{leb}
use Rattle.std.specs.Int.{div_ceil}
use Rattle.std.proofs.lemmas.Grind.{div_ceil_times}
use Rattle.sets.specs.Arrays.{array_length, own_array, other_array, place}

pub length-pos : (k : ℕ) → 0 < array_length k
unfolding array_length
length-pos k = pow_pos (k - 1)

pub length-short : (k : ℕ) → k ≤ 8 → array_length k ≤ 128
unfolding array_length
length-short k h = pow_mono {i = k - 1} {j = 7} (omega arith)

pub length-long : (k : ℕ) → 9 ≤ k → 256 ≤ array_length k
unfolding array_length
length-long k h = pow_mono {i = 8} {j = k - 1} (omega arith)

pub ruleset lengths = (length-short, length-long, mod-eq_of_lt)

-- rounding up by a length above i gives 0 of 0, else 1
round-up-none : (L : ℕ) → 0 < L → (0 + L - 1) / L ≡ 0
round-up-none L h = div-eq_of_lt (omega arith)

round-up-one : (i L : ℕ) → 0 < i → i ≤ L → (i + L - 1) / L ≡ 1
round-up-one i L p h = div-eq_of_lt-le L (omega arith) (omega arith)

round-up-alike : (i K L : ℕ) → i ≤ K → i ≤ L → 0 < K → 0 < L → (i + K - 1) / K ≡ (i + L - 1) / L
round-up-alike zero K L a b p q = round-up-none K p ∙ sym (round-up-none L q)
round-up-alike (suc i) K L a b p q = round-up-one (suc i) K (omega arith) a ∙ sym (round-up-one (suc i) L (omega arith) b)

own-capped : (k i : ℕ) → i < 256 → (i + min (array_length k) 256 - 1) / min (array_length k) 256 ≡ own_array k i
unfolding own_array
own-capped k i h = go (dec_lt 256 (array_length k))
  where
    go : Dec (256 < array_length k) → (i + min (array_length k) 256 - 1) / min (array_length k) 256 ≡ (i + array_length k - 1) / array_length k
    go (yes l) =
        let m : min (array_length k) 256 ≡ 256 = omega arith in
        rw m (round-up-alike i 256 (array_length k) (omega arith) (omega arith) (omega arith) (length-pos k))
    go (no l) = let m : min (array_length k) 256 ≡ array_length k = omega arith in rw m

-- a quotient rounded up, as the definition of the own array has it
rounded-up : (a b : ℕ) → 0 < b → div_ceil a b ≡ (a + b - 1) / b
rounded-up a b p =
    let t = div_ceil_times a b p in
    sym (div-eq_of_lt-le b (omega (arith, t)) (omega (arith, t, suc-mul (div_ceil a b) b)))

pub own_rounded : (k i L : ℕ) → L ≡ min (array_length k) 256 → i < 256 → div_ceil i L ≡ own_array k i
own_rounded k i L e h = rw e (rounded-up i (min (array_length k) 256) (omega (arith, length-pos k)) ∙ own-capped k i h)

-- what the own array is, from the capped length
pub ruleset rounding = (length-pos, own_rounded)

-- an array's number is no larger than the station's
pub own-low : (k i : ℕ) → own_array k i ≤ i
unfolding own_array
own-low k i =
    let p : 0 < array_length k = length-pos k in
    let m : i ≤ i * array_length k = le-mul_of_pos_right i p in
    let s : suc i * array_length k ≡ i * array_length k + array_length k = suc-mul i (array_length k) in
    let l : (i + array_length k - 1) / array_length k < suc i = (div-lt_iff_lt-mul p).1 (omega arith) in
    omega arith

-- the array beside an odd one, and beside an even one
pub beside-odd : (k i g : ℕ) → g ≡ own_array k i → g % 2 ≡ 1 → g + 1 ≡ other_array k i
unfolding other_array
beside-odd k i g e o = rw (← e, eq-eqb _ _ o)

pub beside-even : (k i g : ℕ) → g ≡ own_array k i → (g % 2 ≡ 1 → ⊥) → g - 1 ≡ other_array k i
unfolding other_array
beside-even k i g e o = rw (← e, ne_eqb _ _ o)

-- what the array beside one is, odd or even
pub ruleset beside = (own-low, beside-odd, beside-even)

-- the place of a register on a level that a board may have, from the capped length
pub placed : (k c j L : ℕ) → L ≡ min (array_length k) 256 → k ≤ 8 → Some ((c - 1) * L + j) ≡ cond (leb k 8) (Some (place k c j)) None
unfolding place
placed k c j L e h =
    let s : array_length k ≤ 128 = length-short k h in
    let x : L ≡ array_length k = omega arith in
    rw (le-leb _ _ h, x)
