-- From a plan's text to the printed text, MODEL 9: one definition.
use Rattle.std.specs.Prelude.{ℕ, ◌+◌, ◌*◌, cond, List, ◌++◌, leb, length, drop, Result, Ok, Err}
use Rattle.method.specs.Board.{fresh}
use Rattle.method.specs.Turn.{after}
use Rattle.method.specs.Demand.{idle_turns}
use Rattle.text.specs.Limits.{most_stations, most_stocks}
use Rattle.text.specs.Refusal.{number_of}
use Rattle.text.specs.Plan.{Reading, plan, refused, reading}
use Rattle.report.specs.declared.TooSmall.{TooSmall}
use Rattle.page.specs.Lines.{refusal_line, report_lines, most_run, most_stock, most_station}

-- the report of n stations with these input sets, the stocks' codes and the turns
unfoldable pub report : ℕ → List ℕ → List (List ℕ) → List ℕ → List ℕ
report n sets codes turns =
    report_lines n (length turns) (idle_turns (fresh n sets) turns (length turns)) codes (after (fresh n sets) turns (length turns)).rows

-- "Of a refused plan that is one line"
abbrev pub report_of : Reading → List ℕ
report_of (plan h) = report h.stations h.stocks.sets h.stocks.codes h.turns
report_of (refused fault place) = refusal_line (number_of fault) place

unfoldable pub printed : List ℕ → List ℕ
printed text = report_of (reading text)

-- no report is longer: the `RUN` line, 64 `STOCK` lines and 16 `ST` lines
abbrev pub most_printed : ℕ
most_printed = most_run + most_stocks * most_stock + most_stations * most_station

-- how a text is handed out in a lent buffer: its length, or that the buffer is too small
unfoldable pub answer_of : List ℕ → ℕ → Result ℕ TooSmall
answer_of text room = cond (leb (length text) room) (Ok (length text)) (Err (record {}))

-- bytes behind the text stay as they were, and so do all of a buffer that is too small
unfoldable pub buffer_of : List ℕ → List ℕ → List ℕ
buffer_of text was = cond (leb (length text) (length was)) (text ++ drop (length text) was) was
