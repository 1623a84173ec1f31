-- A code in its cell: the bytes in front, and 0 behind them.
use Prim.Native.Nat.{ℕ, suc, ◌≤◌, ◌<◌}
use mathlib.Core.Path.{◌≡◌, refl, sym, ap, ◌∙◌}
use mathlib.Core.List.{List, [], ◌∷◌, ◌++◌}
use native.Mathlib.Omega.{arith}
use lib.ListN.{length, get_or, take, drop}
use lib.Seq.{take_at}
use Rattle.std.proofs.lemmas.List.{drop-replicate}
use Rattle.text.specs.Limits.{most_code}
use Rattle.text.specs.Buffers.{zeros, padded}

module _ (bytes cell : List ℕ) (e : cell ≡ bytes ++ drop (length bytes) (zeros most_code)) where
  padded_is : cell ≡ padded most_code bytes
  unfolding padded
  padded_is = e ∙ ap (λ (l : List ℕ). bytes ++ l) (drop-replicate (length bytes) most_code 0)

  pub front : take (length bytes) cell ≡ bytes
  front = ap (take (length bytes)) e ∙ take_at bytes (drop (length bytes) (zeros most_code)) (length bytes) refl

  pub filled : cell ≡ padded most_code (take (length bytes) cell)
  filled = padded_is ∙ ap (padded most_code) (sym front)

pub ruleset cells = (front, filled)

-- a cell of no code
zeroed : (xs : List ℕ) → ((i : ℕ) → i < length xs → get_or xs i 0 ≡ 0) → xs ≡ zeros (length xs)
zeroed [] h = refl
zeroed (x ∷ xs) h =
    let first : x ≡ 0 = h 0 (omega arith) in
    rw first (ap (λ (l : List ℕ). 0 ∷ l) (zeroed xs (λ i m. h (suc i) (omega arith))))

pub blank : (cell : List ℕ) (len : ℕ) → length cell ≡ most_code → ((i : ℕ) → i < most_code → get_or cell i 0 ≡ 0) → len ≡ 0 → (len ≤ most_code) × (cell ≡ padded most_code (take len cell))
unfolding padded
blank cell len e h z = rw z (omega arith, zeroed cell (λ i m. h i (omega arith)) ∙ ap zeros e)
