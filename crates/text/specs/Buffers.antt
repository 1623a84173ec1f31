-- What the lent buffers hold after a plan was read: every byte of them. A refused plan leaves each as it was.
use Rattle.std.specs.Prelude.{ℕ, ◌-◌, ◌*◌, List, [], ◌∷◌, ◌++◌, map, length, replicate}
use Rattle.text.specs.Limits.{most_stocks, most_turns, most_code}
use Rattle.text.specs.Refusal.{Told, counts, refusal, number_of}
use Rattle.text.specs.Plan.{Reading, plan, refused}

abbrev pub zeros : ℕ → List ℕ
zeros n = replicate n 0

-- n numbers that begin with these; the rest are 0
unfoldable pub padded : ℕ → List ℕ → List ℕ
padded n l = l ++ zeros (n - length l)

-- a cell of 12 bytes for each code
unfoldable pub cells_of : List (List ℕ) → List ℕ
cells_of [] = []
cells_of (c ∷ cs) = padded most_code c ++ cells_of cs

-- the answer in numbers: n, how many stocks and turns; or number and place
abbrev pub told_of : Reading → Told
told_of (plan h) = counts h.stations (length h.stocks.codes) (length h.turns)
told_of (refused fault place) = refusal (number_of fault) place

-- n, how many stocks and how many turns
abbrev pub counts_after : Told → List ℕ → List ℕ
counts_after (counts n stocks turns) was = n ∷ stocks ∷ turns ∷ []
counts_after (refusal number place) was = was

-- the input set of each station
abbrev pub sets_after : Reading → List ℕ → List ℕ
sets_after (plan h) was = h.stocks.sets
sets_after (refused fault place) was = was

-- the codes, in cells of 12 bytes, each filled up with 0; 64 cells, of which those past the stocks are 0
abbrev pub codes_after : Reading → List ℕ → List ℕ
codes_after (plan h) was = padded (most_stocks * most_code) (cells_of h.stocks.codes)
codes_after (refused fault place) was = was

-- how long each code is; 0 past the stocks
abbrev pub lens_after : Reading → List ℕ → List ℕ
lens_after (plan h) was = padded most_stocks (map length h.stocks.codes)
lens_after (refused fault place) was = was

-- the turns; 0 past them
abbrev pub turns_after : Reading → List ℕ → List ℕ
turns_after (plan h) was = padded most_turns h.turns
turns_after (refused fault place) was = was
