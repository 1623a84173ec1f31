-- Numbers: MODEL 8. "A number is decimal, with no zero in front." It counts by its true value however many digits it has.
use Rattle.std.specs.Prelude.{ℕ, ◌+◌, ◌-◌, ◌*◌, Bool, true, false, cond, ◌&&◌, ◌||◌, not, List, [], ◌∷◌, leb, eqb}
use Rattle.text.specs.Text.{all}

-- "0" to "9"
abbrev pub digit : ℕ → Bool
digit b = leb 0x30 b && leb b 0x39

-- the value of v with these digits after it
unfoldable pub value_on : ℕ → List ℕ → ℕ
value_on v [] = v
value_on v (b ∷ bs) = value_on (v * 10 + (b - 0x30)) bs

abbrev pub value_of : List ℕ → ℕ
value_of f = value_on 0 f

abbrev pub empty : List ℕ → Bool
empty [] = true
empty (b ∷ bs) = false

-- digits, one at least, and no "0" in front of others
abbrev pub numeral : List ℕ → Bool
numeral [] = false
numeral (b ∷ bs) = all digit (b ∷ bs) && (not (eqb b 0x30) || empty bs)

-- the number from 1 to hi that the field is; 0 where it is none
unfoldable pub number_to : ℕ → List ℕ → ℕ
number_to hi f = cond (numeral f && leb (value_of f) hi) (value_of f) 0
