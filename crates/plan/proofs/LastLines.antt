-- The lines of a text at its end.
use Prim.Native.Nat.{ℕ}
use mathlib.Core.Path.{◌≡◌, refl}
use mathlib.Core.List.{List, [], ◌∷◌}
use native.Mathlib.Omega.{arith}
use lib.ListN.{length}
use Rattle.text.specs.Text.{parted, lines_of}
use Rattle.text.specs.Plan.{Held, plan, later_lines}

-- no line is left
pub lines_end : (k : ℕ) (h : Held) (text : List ℕ) → length text ≡ 0 → later_lines k h (lines_of text) ≡ plan h
unfolding later_lines parted
lines_end k h [] e = refl
lines_end k h (b ∷ text) e = absurd (omega arith)
