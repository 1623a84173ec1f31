-- The bytes of a number, put one by one: what is still to be put makes the whole.
use Rattle.std.proofs.Common.{ℕ, suc, ◌+◌, ◌-◌, ◌/◌, ◌%◌, ◌≤◌, ◌<◌, ◌≡◌, ◌∙◌, List, length, arith}
use Rattle.std.proofs.Math.ListN.{set, length-set}
use Rattle.std.proofs.lemmas.List.Edits.{sets}
use Rattle.answer.specs.Bytes.{bytes_of}

pub record Putting (l₀ : List ℕ) (at w x : ℕ) (l : List ℕ) (rest i : ℕ) : Type 0 where
  pub low : i ≤ w
  pub long : length l ≡ length l₀
  pub whole : sets l (at + i) (bytes_of (w - i) rest) ≡ sets l₀ at (bytes_of w x)

pub putting-more : {l₀ l : List ℕ} {at w x rest i : ℕ} → Putting l₀ at w x l rest i → i < w → Putting l₀ at w x (set l (at + i) (rest % 256)) (rest / 256) (i + 1)
unfolding bytes_of
putting-more {l₀} {l} {at} {w} {x} {rest} {i} p h =
    let one : w - i ≡ suc (w - (i + 1)) = omega arith in
    let next : suc (at + i) ≡ at + (i + 1) = omega arith in
    record { low = omega arith; long = length-set l (at + i) (rest % 256) ∙ p.long; whole = rw (← next) (rw one at p.whole) }
