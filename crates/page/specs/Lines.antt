-- The printed lines: MODEL 9.
use Rattle.std.specs.Prelude.{ℕ, suc, Bool, true, false, List, [], ◌∷◌, ◌++◌, take}
use Rattle.method.specs.declared.Row.{Row}
use Rattle.method.specs.Demand.{is_settled}
use Rattle.answer.specs.Answer.{shown_of, state_number, stations_shown, stocks_shown}
use Rattle.text.specs.Text.{LF, tab}
use Rattle.page.specs.Digits.{decimal, hex}

abbrev pub RUN : List ℕ
RUN = 82 ∷ 85 ∷ 78 ∷ []

abbrev pub STOCK : List ℕ
STOCK = 83 ∷ 84 ∷ 79 ∷ 67 ∷ 75 ∷ []

abbrev pub ST : List ℕ
ST = 83 ∷ 84 ∷ []

abbrev pub NO : List ℕ
NO = 78 ∷ 79 ∷ []

abbrev pub dash : ℕ
dash = 45

-- "lines of fields with tabs between them, each ended by LF"
unfoldable pub line : List (List ℕ) → List ℕ
line [] = LF ∷ []
line (f ∷ []) = f ++ LF ∷ []
line (f ∷ g ∷ fs) = f ++ tab ∷ line (g ∷ fs)

-- "`NO`, the number and the place"
unfoldable pub refusal_line : ℕ → ℕ → List ℕ
refusal_line number place = line (NO ∷ decimal number ∷ decimal place ∷ [])

-- "`RUN`, n, the number of turns, the number of idle turns"
unfoldable pub run_line : ℕ → ℕ → ℕ → List ℕ
run_line n turns idle = line (RUN ∷ decimal n ∷ decimal turns ∷ decimal idle ∷ [])

-- "for each stock `STOCK`, its number, its code without the spaces at its end"
unfoldable pub stock_line : ℕ → List ℕ → List ℕ
stock_line k code = line (STOCK ∷ decimal k ∷ code ∷ [])

-- "For a station that has not settled each set is `-`."
abbrev pub set_shown : Bool → ℕ → ℕ → List ℕ
set_shown true w set = hex w set
set_shown false w set = dash ∷ []

-- "for each station `ST`, its number, its state, its count, its set of stations in 4 hexadecimal digits and its set of stocks in 16"
unfoldable pub station_line : ℕ → Row → List ℕ
station_line i row =
    line
    (ST
    ∷ decimal i
    ∷ decimal (state_number (shown_of row.state))
    ∷ decimal row.count
    ∷ set_shown (is_settled row.state) 4 (stations_shown (shown_of row.state))
    ∷ set_shown (is_settled row.state) 16 (stocks_shown (shown_of row.state))
    ∷ [])

-- the longest lines: no number has more than five digits, and no code more than 12 bytes
abbrev pub most_run : ℕ
most_run = 22

abbrev pub most_stock : ℕ
most_stock = 25

abbrev pub most_station : ℕ
most_station = 43

-- a line for each, numbered from k on
unfoldable pub numbered : {A : Type 0} → (ℕ → A → List ℕ) → ℕ → List A → List ℕ
numbered line_of k [] = []
numbered line_of k (x ∷ xs) = line_of k x ++ numbered line_of (suc k) xs

-- the whole report: the `RUN` line, the `STOCK` lines, the `ST` lines
unfoldable pub report_lines : ℕ → ℕ → ℕ → List (List ℕ) → List Row → List ℕ
report_lines n turns idle codes rows = run_line n turns idle ++ numbered stock_line 0 codes ++ numbered station_line 1 (take n rows)
