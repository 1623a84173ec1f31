-- What a step of the reading gives: what is in hand after it, or what it is refused for.
use Rattle.std.specs.Prelude.{ℕ, ◌+◌, ◌<◌, ◌≡◌, List, length, Result, Ok, Err}
use Rattle.std.specs.Borrow.{Bor}
use Rattle.text.specs.Text.{lines_of}
use Rattle.text.specs.Plan.{Out, taken, no, Holding, holding, Held, fresh, Reading, plan, refused, later_lines}
use Rattle.text.specs.declared.Fault.{Fault}
use Rattle.text.specs.declared.Counts.{Counts}
use Rattle.text.specs.declared.Refusal.{Refusal}

-- a value
abbrev pub gave : {A : Type 0} → Result A Fault → Out A
gave (Ok a) = taken a
gave (Err fault) = no fault

-- what is in hand after it
abbrev pub out : {A : Type 0} → Result (Unit {0}) Fault → A → Out A
out (Ok done) a = taken a
out (Err fault) a = no fault

-- the codes in hand, and the set of one station
abbrev pub coded : Result ℕ Fault → List (List ℕ) → Out Holding
coded (Ok set) codes = taken (holding codes set)
coded (Err fault) codes = no fault

-- what the whole text gives: the number of stations and the text behind its first line, or it is refused there
abbrev pub begun : Result (ℕ × Bor (List ℕ)) Refusal → Reading
begun (Ok start) = later_lines 2 (fresh start.0) (lines_of start.1.now)
begun (Err r) = refused r.fault r.place

-- what the lines of a text give, and what is in hand after them
abbrev pub all_read : Result (Unit {0}) Refusal → Held → Reading
all_read (Ok done) h = plan h
all_read (Err r) h = refused r.fault r.place

-- the first line of a text goes into what is in hand, and the lines behind it are to come; or it is refused, whichever line of the plan it is
abbrev pub Stepped : Result (Bor (List ℕ)) Fault → List ℕ → Held → Held → Type 0
Stepped (Ok rest) text h h' = (length rest.now < length text) × ((k : ℕ) → later_lines k h (lines_of text) ≡ later_lines (k + 1) h' (lines_of rest.now))
Stepped (Err fault) text h h' = (k : ℕ) → later_lines k h (lines_of text) ≡ refused fault k

-- the counts of what is in hand
abbrev pub counts_held : Held → Counts
counts_held h = record { stations = h.stations; stocks = length h.stocks.codes; turns = length h.turns }
