-- How long the lines of a report can be: all of them have room on the page.
use Prim.Native.Nat.{ℕ, suc, ◌+◌, ◌*◌, ◌≤◌, ◌<◌}
use mathlib.Core.Path.{◌≡◌}
use mathlib.Core.Bool.{Bool, true, false}
use mathlib.Core.List.{List, [], ◌∷◌, ◌++◌}
use native.Mathlib.Nat.{add-zero, suc-mul}
use native.Mathlib.Omega.{arith}
use lib.ListN.{length, get_or, take, length-append}
use Rattle.method.specs.declared.State.{State}
use Rattle.method.specs.declared.State.TheVariants.{NotBegun, Uniting, Gathering, Settled}
use Rattle.method.specs.declared.Row.{Row}
use Rattle.method.specs.Board.{not_begun}
use Rattle.method.specs.Demand.{is_settled}
use Rattle.answer.specs.Answer.{shown_of, state_number, stations_shown, stocks_shown}
use Rattle.text.specs.Limits.{most_stations, most_stocks, most_code}
use Rattle.text.specs.Text.{LF, tab}
use Rattle.page.specs.declared.TheConstants.{PAGE}
use Rattle.page.specs.Digits.{decimal}
use Rattle.page.specs.Lines.{RUN, STOCK, ST, NO, line, refusal_line, run_line, stock_line, set_shown, station_line, most_run, most_stock, most_station, numbered, report_lines}
use Rattle.page.proofs.Numerals.{digits-length, decimal-five}

set-most : (t : Bool) (w s : ℕ) → 1 ≤ w → length (set_shown t w s) ≤ w
set-most true w s h = rw (digits-length 16 w s) (omega arith)
set-most false w s h = h

state-most : (s : State) → state_number (shown_of s) < 100000
state-most (NotBegun stocks) = omega arith
state-most (Uniting k own other side round) = omega arith
state-most (Gathering S j got) = omega arith
state-most (Settled S got) = omega arith

-- ---- lines: a field more, with the byte behind it

line-last : (f : List ℕ) → length (line (f ∷ [])) ≡ length f + 1
unfolding line
line-last f = length-append f (LF ∷ [])

line-more : (f g : List ℕ) (fs : List (List ℕ)) → length (line (f ∷ g ∷ fs)) ≡ length f + suc (length (line (g ∷ fs)))
unfolding line
line-more f g fs = length-append f (tab ∷ line (g ∷ fs))

pub refusal-most : (number place : ℕ) → number < 100000 → place < 100000 → length (refusal_line number place) ≤ PAGE
unfolding refusal_line
refusal-most number place h k =
    let a = decimal-five number h in
    let b = decimal-five place k in
    rw (line-more NO (decimal number) (decimal place ∷ []), line-more (decimal number) (decimal place) [], line-last (decimal place)) (omega arith)

run-most : (n turns idle : ℕ) → n < 100000 → turns < 100000 → idle < 100000 → length (run_line n turns idle) ≤ most_run
unfolding run_line
run-most n turns idle h k l =
    let a = decimal-five n h in
    let b = decimal-five turns k in
    let c = decimal-five idle l in
    rw (line-more RUN (decimal n) (decimal turns ∷ decimal idle ∷ []), line-more (decimal n) (decimal turns) (decimal idle ∷ []), line-more (decimal turns) (decimal idle) [], line-last (decimal idle)) (omega arith)

stock-most : (k : ℕ) (code : List ℕ) → k < 100000 → length code ≤ most_code → length (stock_line k code) ≤ most_stock
unfolding stock_line
stock-most k code h l =
    let a = decimal-five k h in
    rw (line-more STOCK (decimal k) (code ∷ []), line-more (decimal k) code [], line-last code) (omega arith)

pub station_most : (i : ℕ) (row : Row) → i < 100000 → row.count < 100000 → length (station_line i row) ≤ most_station
unfolding station_line
station_most i row h k =
    let state = decimal (state_number (shown_of row.state)) in
    let count = decimal row.count in
    let stations = set_shown (is_settled row.state) 4 (stations_shown (shown_of row.state)) in
    let stocks = set_shown (is_settled row.state) 16 (stocks_shown (shown_of row.state)) in
    let a = decimal-five i h in
    let b = decimal-five (state_number (shown_of row.state)) (state-most row.state) in
    let c = decimal-five row.count k in
    let d = set-most (is_settled row.state) 4 (stations_shown (shown_of row.state)) (omega arith) in
    let e = set-most (is_settled row.state) 16 (stocks_shown (shown_of row.state)) (omega arith) in
    rw (
      line-more ST (decimal i) (state ∷ count ∷ stations ∷ stocks ∷ []),
      line-more (decimal i) state (count ∷ stations ∷ stocks ∷ []),
      line-more state count (stations ∷ stocks ∷ []),
      line-more count stations (stocks ∷ []),
      line-more stations stocks [],
      line-last stocks,
    ) (omega arith)

-- ---- all lines

numbered-most : {A : Type 0} (line_of : ℕ → A → List ℕ) (most k : ℕ) (xs : List A) (d : A) → ((j : ℕ) → j < length xs → length (line_of (k + j) (get_or xs j d)) ≤ most) → length (numbered line_of k xs) ≤ length xs * most
unfolding numbered
numbered-most line_of most k [] d h = omega arith
numbered-most line_of most k (x ∷ xs) d h =
    let e = length-append (line_of k x) (numbered line_of (suc k) xs) in
    let here : length (line_of k x) ≤ most = rw (add-zero k) at (h 0 (omega arith)) in
    let ih : length (numbered line_of (suc k) xs) ≤ length xs * most =
    numbered-most line_of most (suc k) xs d (λ j l. let s : k + suc j ≡ suc k + j = omega arith in rw s at (h (suc j) (omega arith))) in
    let m : suc (length xs) * most ≡ length xs * most + most = suc-mul (length xs) most in
    omega arith

pub stations_most : (rows : List Row) → length rows ≤ most_stations → ((j : ℕ) → j < length rows → (get_or rows j (not_begun 0)).count < 100000)
    → length (numbered station_line 1 rows) ≤ most_stations * most_station
stations_most rows h counts =
    let e = numbered-most station_line most_station 1 rows (not_begun 0) (λ j m. station_most (1 + j) (get_or rows j (not_begun 0)) (omega arith) (counts j m)) in
    omega arith

pub lines-most : (n turns idle : ℕ) (codes : List (List ℕ)) (rows : List Row) → n < 100000 → turns < 100000 → idle < 100000
    → length codes ≤ most_stocks → ((j : ℕ) → j < length codes → length (get_or codes j []) ≤ most_code)
    → length (numbered station_line 1 (take n rows)) ≤ most_stations * most_station → length (report_lines n turns idle codes rows) ≤ PAGE
unfolding report_lines
lines-most n turns idle codes rows h k l few short c =
    let run = run_line n turns idle in
    let stocks = numbered stock_line 0 codes in
    let stations = numbered station_line 1 (take n rows) in
    let a : length run ≤ most_run = run-most n turns idle h k l in
    let b : length stocks ≤ length codes * most_stock = numbered-most stock_line most_stock 0 codes [] (λ j m. stock-most (0 + j) (get_or codes j []) (omega arith) (short j m)) in
    let e = length-append (run ++ stocks) stations in
    let g = length-append run stocks in
    omega arith
