-- Codes: MODEL 8. "A code ends at its last byte that is no space; a space in front or within belongs to it."
use Rattle.std.specs.Prelude.{ℕ, Bool, true, false, not, List, [], ◌∷◌, eqb}
use Rattle.text.specs.Text.{space, run, same}

-- a byte in front of what is left behind it: a space goes where nothing is left
abbrev pub before : Bool → ℕ → List ℕ → List ℕ
before true b [] = []
before true b (c ∷ cs) = b ∷ c ∷ cs
before false b cs = b ∷ cs

-- the field up to its last byte that is no space
unfoldable pub code_of : List ℕ → List ℕ
code_of [] = []
code_of (b ∷ bs) = before (eqb b space) b (code_of bs)

-- the number of a code among the codes so far, from 0 by first appearance; their count where it is a new one
abbrev pub stock_of : List ℕ → List (List ℕ) → ℕ
stock_of c cs = run (λ d. not (same c d)) cs
