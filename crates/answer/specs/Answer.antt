-- The answer: MODEL 7. "The answer is 20 bytes for each station".
use Rattle.std.specs.Prelude.{ℕ, zero, suc, ◌*◌, cond, ◌&&◌, List, [], ◌∷◌, ◌++◌, leb, length, drop}
use Rattle.sets.specs.Limits.{most_stations}
use Rattle.method.specs.declared.State.{State}
use Rattle.method.specs.declared.State.TheVariants.{NotBegun, Uniting, Gathering, Settled}
use Rattle.method.specs.declared.Row.{Row}
use Rattle.answer.specs.declared.shown.Shown.{Shown}
use Rattle.answer.specs.declared.shown.Shown.TheVariants as shown
use Rattle.answer.specs.Bytes.{bytes_of}

-- a station that is uniting or gathering is under way
abbrev pub shown_of : State → Shown
shown_of (NotBegun stocks) = shown.NotBegun
shown_of (Uniting k own other side round) = shown.UnderWay
shown_of (Gathering S j got) = shown.UnderWay
shown_of (Settled S got) = shown.Settled S got

-- "the state (0 not begun, 1 under way, 2 settled)"
abbrev pub state_number : Shown → ℕ
state_number shown.NotBegun = 0
state_number shown.UnderWay = 1
state_number (shown.Settled S got) = 2

-- "Until a station has settled its two sets are zero."
abbrev pub stations_shown : Shown → ℕ
stations_shown shown.NotBegun = 0
stations_shown shown.UnderWay = 0
stations_shown (shown.Settled S got) = S

abbrev pub stocks_shown : Shown → ℕ
stocks_shown shown.NotBegun = 0
stocks_shown shown.UnderWay = 0
stocks_shown (shown.Settled S got) = got

-- "the state .. , a zero byte, the count in 2 bytes, the settled set of stations in 8 and that of stocks in 8"
unfoldable pub row_bytes : Row → List ℕ
row_bytes r =
    let shows = shown_of r.state in
    state_number shows ∷ 0 ∷ bytes_of 2 r.count ++ bytes_of 8 (stations_shown shows) ++ bytes_of 8 (stocks_shown shows)

-- the first n rows, one after the other
unfoldable pub answer_bytes : ℕ → List Row → List ℕ
answer_bytes zero rows = []
answer_bytes (suc n) [] = []
answer_bytes (suc n) (r ∷ rows) = row_bytes r ++ answer_bytes n rows

-- "Answer bytes from 20n on stay as they are." Where there are no n rows, or no room for them, all do
unfoldable pub answer_in : ℕ → List Row → List ℕ → List ℕ
answer_in n rows was = cond (leb n most_stations && leb (20 * n) (length was)) (answer_bytes n rows ++ drop (20 * n) was) was
