-- Whether fields are left: a line has a field at least.
use Prim.Native.Nat.{ℕ}
use mathlib.Core.Path.{◌≡◌, refl}
use mathlib.Core.Bool.{Bool, true, false, not}
use mathlib.Core.List.{List, [], ◌∷◌}
use lib.Dec.{eqb}
use Rattle.std.specs.Borrow.{Bor}
use Rattle.std.specs.Option.{is_some}
use Rattle.std.specs.Prelude.{Option, Some, None, ◌↔◌, IsTrue}
use Rattle.text.specs.Text.{tab, joined, parted, fields_of}
use Rattle.plan.specs.Left.{fields_in}

some_piece : (t : Bool) (b : ℕ) (ps : List (List ℕ)) → joined t b ps ≡ [] → ⊥
some_piece true b ps e = cc
some_piece false b [] e = cc
some_piece false b (p ∷ ps) e = cc

some_field : (l : List ℕ) → fields_of l ≡ [] → ⊥
unfolding parted
some_field [] e = cc
some_field (b ∷ l) e = some_piece (eqb b tab) b (fields_of l) e

pub none_left : (o : Option (Bor (List ℕ))) (r : Bool) → is_some o ≡ not r → IsTrue r ↔ (fields_in o ≡ [])
none_left None true e = (λ h. refl, λ h. refl)
none_left None false e = cc
none_left (Some l) true e = cc
none_left (Some l) false e = (λ h. cc, λ h. absurd (some_field l.now h))
