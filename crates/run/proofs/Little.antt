-- Little-endian numbers, read from a list of bytes.
use Prim.Native.Nat.{ℕ, zero, suc, ◌+◌, ◌*◌, ◌≤◌, ◌<◌}
use mathlib.Core.Path.{◌≡◌, refl, sym, ap, ◌∙◌}
use mathlib.Core.List.{List, [], ◌∷◌}
use native.Mathlib.Decide.{dec_lt}
use native.Mathlib.Omega.{arith}
use lib.ListN.{length, get_or, take, drop, set, length-set, drop_of_length-le, replicate}
use lib.Seq.{drop-drop, ext_get_or}
use Rattle.std.proofs.lemmas.Grind.{common_steps}
use Rattle.std.proofs.lemmas.List.{length-take}
use Rattle.std.specs.Int.{w64, from_le_bytes}
use Rattle.std.specs.Simd.{first_chunks}
use Rattle.run.specs.Inputs.{number_in, inputs_in}

-- ---- a number out of eight bytes

number-opened : (l : List ℕ) (i : ℕ) → number_in (drop i l) ≡ get_or l i 0 + 256 * number_in (drop (suc i) l)
unfolding number_in
number-opened [] zero = refl
number-opened (x ∷ xs) zero = refl
number-opened [] (suc i) = refl
number-opened (x ∷ xs) (suc i) = number-opened xs i

-- it is the library's
eight_in : (l : List ℕ) → length l ≤ 8 → from_le_bytes w64 l ≡ number_in l
unfolding number_in
eight_in l h =
    let none : number_in (drop 8 l) ≡ 0 = rw (drop_of_length-le l {i = 8} h) in
    let o = number-opened l in
    omega (arith, none, o 0, o 1, o 2, o 3, o 4, o 5, o 6, o 7)

-- a chunk is the bytes of an input
chunk-at : (m : ℕ) (bytes : List ℕ) (i : ℕ) (d : List ℕ) → i < m → get_or (first_chunks 8 m bytes) i d ≡ take 8 (drop (8 * i) bytes)
chunk-at zero bytes i d h = absurd (omega arith)
chunk-at (suc m) bytes zero d h = refl
chunk-at (suc m) bytes (suc i) d h =
    let e : 8 + 8 * i ≡ 8 * suc i = omega arith in
    chunk-at m (drop 8 bytes) i d (omega arith) ∙ ap (λ (l : List ℕ). take 8 l) (drop-drop (8 * i) 8 bytes ∙ ap (λ (x : ℕ). drop x bytes) e)

-- the number in a chunk is an input's
pub chunk_is : (bytes : List ℕ) (m i v : ℕ) (d word : List ℕ) → i < m → word ≡ get_or (first_chunks 8 m bytes) i d → v ≡ from_le_bytes w64 word → v ≡ number_in (take 8 (drop (8 * i) bytes))
chunk_is bytes m i v d word h e f =
    let is : word ≡ take 8 (drop (8 * i) bytes) = e ∙ chunk-at m bytes i d h in
    let short : length word ≤ 8 = rw (is, length-take {A = ℕ}) (omega arith) in
    f ∙ eight_in word short ∙ ap number_in is

-- ---- the inputs

-- a station's input, by its place
pub input-at : (m : ℕ) (bytes : List ℕ) (k : ℕ) → k < m → get_or (inputs_in m bytes) k 0 ≡ number_in (take 8 (drop (8 * k) bytes))
unfolding inputs_in
input-at zero bytes k h = absurd (omega arith)
input-at (suc m) bytes zero h = refl
input-at (suc m) bytes (suc k) h =
    let e : 8 + 8 * k ≡ 8 * suc k = omega arith in
    input-at m (drop 8 bytes) k (omega arith) ∙ ap (λ (l : List ℕ). number_in (take 8 l)) (drop-drop (8 * k) 8 bytes ∙ ap (λ (x : ℕ). drop x bytes) e)

pub inputs-length : (m : ℕ) (bytes : List ℕ) → length (inputs_in m bytes) ≡ m
unfolding inputs_in
inputs-length zero bytes = refl
inputs-length (suc m) bytes = ap suc (inputs-length m (drop 8 bytes))

-- the first i of 16 inputs are read, and the others are empty
pub record Read (bytes inputs : List ℕ) (i : ℕ) : Type 0 where
  pub count : length inputs ≡ 16
  pub done : (k : ℕ) → k < i → get_or inputs k 0 ≡ number_in (take 8 (drop (8 * k) bytes))
  pub rest : (k : ℕ) → i ≤ k → get_or inputs k 0 ≡ 0

pub none_read : (bytes : List ℕ) → Read bytes (replicate 16 0) 0
none_read bytes = record { count = refl; done = λ k h. absurd (omega arith); rest = λ k h. grind (arith, common_steps) }

pub one-read : (bytes inputs : List ℕ) (i v : ℕ) → Read bytes inputs i → i < 16 → v ≡ number_in (take 8 (drop (8 * i) bytes)) → Read bytes (set inputs i v) (i + 1)
one-read bytes inputs i v r h e =
    record {
      count = length-set inputs i v ∙ r.count;
      done = λ k l. grind (arith, common_steps, r.count, r.done k);
      rest = λ k l. grind (arith, common_steps, r.rest k);
    }

pub all_read : (bytes inputs : List ℕ) (n : ℕ) → length bytes ≡ 8 * n → Read bytes inputs n → inputs ≡ inputs_in 16 bytes
unfolding number_in
all_read bytes inputs n e r = ext_get_or 0 inputs (inputs_in 16 bytes) (r.count ∙ sym (inputs-length 16 bytes)) each
  where
    nothing : (k : ℕ) → n ≤ k → number_in (take 8 (drop (8 * k) bytes)) ≡ 0
    nothing k h = rw (drop_of_length-le bytes {i = 8 * k} (omega arith))

    each : (k : ℕ) → k < length inputs → get_or inputs k 0 ≡ get_or (inputs_in 16 bytes) k 0
    each k l = go (dec_lt k n)
      where
        there : get_or (inputs_in 16 bytes) k 0 ≡ number_in (take 8 (drop (8 * k) bytes))
        there = input-at 16 bytes k (rw r.count at l)

        go : Dec (k < n) → get_or inputs k 0 ≡ get_or (inputs_in 16 bytes) k 0
        go (yes h) = r.done k h ∙ sym there
        go (no h) = r.rest k (omega arith) ∙ sym (there ∙ nothing k (omega arith))
