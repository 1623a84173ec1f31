-- The number of the first line, and a text or a line that is empty.
use Prim.Native.Nat.{ℕ, zero, suc, ◌≤◌}
use mathlib.Core.Path.{◌≡◌, refl, ap}
use mathlib.Core.List.{List, [], ◌∷◌}
use native.Mathlib.Omega.{arith}
use lib.ListN.{length}
use Rattle.std.specs.Prelude.{Some, None}
use Rattle.sets.specs.Absent.{unless_zero}
use Rattle.text.specs.Limits.{most_stations}
use Rattle.text.specs.Text.{parted, lines_of, fields_of}
use Rattle.text.specs.Plan.{taken, no, fresh, gang_in, gang_of}
use Rattle.text.specs.declared.Fault.TheVariants.{BadFirstLine}
use Rattle.text.proofs.Outcomes.{gang-most}

pub no_number : (m : ℕ) → None ≡ unless_zero m → gang_in m ≡ no BadFirstLine
no_number zero e = refl
no_number (suc m) e = cc

numbered : (m n : ℕ) → Some n ≡ unless_zero m → m ≡ n
numbered zero n e = cc
numbered (suc m) n e = cc

pub a_number : (m n : ℕ) → Some n ≡ unless_zero m → gang_in m ≡ taken (fresh n)
a_number zero n e = cc
a_number (suc m) n e = ap (λ (k : ℕ). taken (fresh k)) (numbered (suc m) n e)

pub no_gang : (line : List ℕ) → line ≡ [] → gang_of (fields_of line) ≡ 0
unfolding parted gang_of
no_gang line e = rw e

pub gang_fits : (fs : List (List ℕ)) (n : ℕ) → Some n ≡ unless_zero (gang_of fs) → n ≤ most_stations
gang_fits fs n e = omega (arith, numbered (gang_of fs) n e, gang-most fs)

pub no_lines : (text : List ℕ) → length text ≡ 0 → lines_of text ≡ []
unfolding parted
no_lines [] e = refl
no_lines (b ∷ text) e = absurd (omega arith)

pub ruleset whole = (gang_fits, no_number, a_number, no_gang, no_lines)
