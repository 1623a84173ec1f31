-- What is left of a text while its lines are read, and of a line while its fields are.
use Rattle.std.specs.Prelude.{ℕ, ◌≡◌, ◌<◌, true, false, List, [], ◌∷◌, length, Option, Some, None}
use Rattle.std.specs.Borrow.{Bor}
use Rattle.text.specs.Text.{lines_of, fields_of, all, fine}
use Rattle.text.specs.declared.Fault.{Fault}
use Rattle.text.specs.declared.Fault.TheVariants.{StrayByte}
use Rattle.plan.specs.declared.line.Fields.{Fields}

-- the text begins with the line, each byte of which is fine, and goes on with the rest
pub record Cut (text line rest : List ℕ) : Type 0 where
  pub lines : 0 < length text → lines_of text ≡ line ∷ lines_of rest
  pub empty : length text ≡ 0 → line ≡ []
  pub shorter : 0 < length text → length rest < length text
  pub fine : all fine line ≡ true

-- the text begins with a line that holds another byte
pub record Strayed (text : List ℕ) (fault : Fault) : Type 0 where
  pub line : List ℕ
  pub rest : List (List ℕ)
  pub lines : lines_of text ≡ line ∷ rest
  pub stray : all fine line ≡ false
  pub told : fault ≡ StrayByte

abbrev pub fields_in : Option (Bor (List ℕ)) → List (List ℕ)
fields_in (Some rest) = fields_of rest.now
fields_in None = []

abbrev pub fields_left : Fields → List (List ℕ)
fields_left f = fields_in f.rest
