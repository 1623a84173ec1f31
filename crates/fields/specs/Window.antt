-- The window on the text: the end that a scan finds from a place on.
use Rattle.std.specs.Prelude.{ℕ, ◌≡◌, ◌+◌, Bool, not, List, drop, eqb}
use Rattle.text.specs.Text.{tab, run}

abbrev pub no_tab : ℕ → Bool
no_tab b = not (eqb b tab)

-- where the bytes that pass the test end, from place `at` on
abbrev pub end_of : (ℕ → Bool) → List ℕ → ℕ → ℕ
end_of pass text at = at + run pass (drop at text)

-- what a test of bytes answers is what `pass` says
abbrev pub Tests : (ℕ → Bool → Type 0) → (ℕ → Bool) → Type 0
Tests answers pass = (b : ℕ) (t : Bool) → answers b t → t ≡ pass b
