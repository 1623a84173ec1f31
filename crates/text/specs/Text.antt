-- A text is cut into lines, and a line into fields: MODEL 8.
use Rattle.std.specs.Prelude.{ℕ, zero, suc, Bool, true, false, ◌&&◌, ◌||◌, List, [], ◌∷◌, leb, eqb}

abbrev pub LF : ℕ
LF = 10

abbrev pub tab : ℕ
tab = 9

abbrev pub space : ℕ
space = 32

-- the byte goes in front of the first piece, which it begins where there is none
abbrev pub onto : ℕ → List (List ℕ) → List (List ℕ)
onto b [] = (b ∷ []) ∷ []
onto b (p ∷ ps) = (b ∷ p) ∷ ps

-- a byte that parts opens a new piece, any other goes to the piece that it stands in
abbrev pub joined : Bool → ℕ → List (List ℕ) → List (List ℕ)
joined true b ps = [] ∷ ps
joined false b ps = onto b ps

-- a text cut at every `sep`. `ends` is what the end of the text is: no piece, or an empty one
unfoldable pub parted : ℕ → List (List ℕ) → List ℕ → List (List ℕ)
parted sep ends [] = ends
parted sep ends (b ∷ t) = joined (eqb b sep) b (parted sep ends t)

-- "LF ends a line; at the end of the text it may be missing." "A LF at the very end begins no line."
abbrev pub lines_of : List ℕ → List (List ℕ)
lines_of text = parted LF [] text

-- "A tab parts two fields": a line has one field more than it has tabs
abbrev pub fields_of : List ℕ → List (List ℕ)
fields_of line = parted tab ([] ∷ []) line

unfoldable pub all : (ℕ → Bool) → List ℕ → Bool
all f [] = true
all f (b ∷ bs) = f b && all f bs

-- what a line may hold: 13 is for a byte that "is neither a tab nor one from 20 to 7E hex"
abbrev pub fine : ℕ → Bool
fine b = eqb b tab || (leb 0x20 b && leb b 0x7e)

abbrev pub run_more : Bool → ℕ → ℕ
run_more true n = suc n
run_more false n = zero

-- how many in front pass the test
unfoldable pub run : {A : Type 0} → (A → Bool) → List A → ℕ
run f [] = zero
run f (x ∷ xs) = run_more (f x) (run f xs)

-- "compared byte by byte"
unfoldable pub same : List ℕ → List ℕ → Bool
same [] [] = true
same [] (b ∷ ys) = false
same (a ∷ xs) [] = false
same (a ∷ xs) (b ∷ ys) = eqb a b && same xs ys
