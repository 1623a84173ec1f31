-- What the writing parts promise: a text is put on the page behind what stands there.
use Rattle.std.specs.Prelude.{ℕ, zero, suc, ◌-◌, ◌*◌, min, List, [], ◌∷◌, ◌++◌, length, get_or, take, drop, Bool, true, false}
use Rattle.text.specs.Limits.{most_stocks, most_code}
use Rattle.page.specs.declared.TheConstants.{PAGE}
use Rattle.page.specs.declared.fields.Field.{Field}
use Rattle.page.specs.declared.fields.Field.TheVariants as field
use Rattle.answer.specs.declared.shown.Shown.{Shown}
use Rattle.answer.specs.declared.shown.Shown.TheVariants as shown
use Rattle.answer.specs.Answer.{stations_shown, stocks_shown}
use Rattle.page.specs.declared.listing.Stocks.{Stocks}
use Rattle.page.specs.Digits.{decimal}
use Rattle.page.specs.Lines.{set_shown}

-- a text behind what stands on the page, as far as there is room
unfoldable pub put_behind : List ℕ → List ℕ → List ℕ
put_behind page text = page ++ take (PAGE - length page) text

-- whether it is settled, so that its sets are shown
abbrev pub has_settled : Shown → Bool
has_settled shown.NotBegun = false
has_settled shown.UnderWay = false
has_settled (shown.Settled S got) = true

-- a field as it is printed
abbrev pub field_shown : Field → List ℕ
field_shown (field.Code bytes) = bytes.now
field_shown (field.Number x) = decimal x
field_shown (field.Stations told) = set_shown (has_settled told) 4 (stations_shown told)
field_shown (field.Stocks told) = set_shown (has_settled told) 16 (stocks_shown told)

-- the code of stock k in its cell: as many bytes as its length says, and no more than a cell has
abbrev pub code_at : List ℕ → List ℕ → ℕ → List ℕ
code_at cells lens k = take (min (get_or lens k 0) most_code) (drop (k * most_code) cells)

-- the codes in their cells, from number k on
unfoldable pub codes_from : List ℕ → List ℕ → ℕ → ℕ → List (List ℕ)
codes_from cells lens k zero = []
codes_from cells lens k (suc left) = code_at cells lens k ∷ codes_from cells lens (suc k) left

-- all of them, and no more than there are cells
abbrev pub codes_in : List ℕ → List ℕ → ℕ → List (List ℕ)
codes_in cells lens stocks = codes_from cells lens 0 (min stocks most_stocks)

abbrev pub codes_of : Stocks → List (List ℕ)
codes_of stocks = codes_in stocks.cells.now stocks.lens.now stocks.count
