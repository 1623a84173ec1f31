-- Two plans that differ only in how many spaces stand behind codes.
use Rattle.std.specs.Prelude.{ℕ, ◌≡◌, List, [], ◌∷◌, ◌++◌, replicate}
use Rattle.text.specs.Text.{space, fields_of}
use Rattle.text.specs.Plan.{HAS}

abbrev pub spaces : ℕ → List ℕ
spaces n = replicate n space

-- two lists, place by place
pub data Each (R : List ℕ → List ℕ → Type 0) : List (List ℕ) → List (List ℕ) → Type 0 where
  none : Each R [] []
  more : {a b : List ℕ} {as' bs : List (List ℕ)} → R a b → Each R as' bs → Each R (a ∷ as') (b ∷ bs)

-- two code fields: the same bytes, and then spaces
pub record Respaced (f g : List ℕ) : Type 0 where
  pub code : List ℕ
  pub left : ℕ
  pub right : ℕ
  pub f_is : f ≡ code ++ spaces left
  pub g_is : g ≡ code ++ spaces right

-- two lines: the same, or both `HAS` with the same station, and their codes differ only in spaces at the end
pub data Alike (l m : List ℕ) : Type 0 where
  same_line : l ≡ m → Alike l m
  has_lines : (station : List ℕ) (cs ds : List (List ℕ)) → fields_of l ≡ HAS ∷ station ∷ cs → fields_of m ≡ HAS ∷ station ∷ ds → Each Respaced cs ds → Alike l m
