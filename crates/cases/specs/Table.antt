-- MODEL 11: cases A to I as one table, and one proof over it, of the definitions that the contracts of `report::whole::print_plan` and
-- `run::call::run_call` cite. "Where no stocks are named, station i has stock i-1 alone."
use Rattle.std.specs.Prelude.{ℕ, zero, suc, ◌^◌, ◌≡◌, refl, List, [], ◌∷◌, map, ◌++◌, replicate}
use Prim.Native.Char.{code}
use Prim.Native.String.{String, [] as ends, ◌∷◌ as ◌then◌}
use Rattle.std.specs.Int.Count.{ones}
use Rattle.sets.specs.Mask.{holds, member_from, member_after}
use Rattle.sets.specs.Arrays.{array_length, own_array, other_array, place}
use Rattle.method.specs.Board.{depth_from, depth, fresh, fresh_on, row_of, line_of, level_of, register_of, with_row, with_line, with_register}
use Rattle.method.specs.Steps.{gather, climb, writing, pending, reach, again, round_over, read_other, read_own, absorb_own, absorb_other, next_op, absorb}
use Rattle.method.specs.Turn.{goes_on, perform, named, turn, after}
use Rattle.method.specs.Demand.{did_of, idle_turns, most_operations}
use Rattle.method.specs.First.{first_from}
use Rattle.answer.specs.Bytes.{bytes_of}
use Rattle.run.specs.Inputs.{number_in, inputs_in}
use Rattle.answer.specs.Answer.{row_bytes, answer_bytes}
use Rattle.verdict.specs.Refusals.{first_bad, tests}
use Rattle.run.specs.Call.{first_unwritten, verdict_of, returned, answered}
use Rattle.text.specs.Text.{parted, all, run, same}
use Rattle.text.specs.Number.{value_on, number_to}
use Rattle.text.specs.Code.{code_of}
use Rattle.text.specs.Refusal.{number_of}
use Rattle.text.specs.Plan.{each, station, take_turn, take_code, add_stock, word_of, has_line, turn_line, later_line, gang_of, first_line, later_lines, reading}
use Rattle.text.specs.Plan as Plan
use Rattle.page.specs.Digits.{digits, width_in, width}
use Rattle.page.specs.Lines.{line, refusal_line, run_line, stock_line, station_line, numbered, report_lines}
use Rattle.report.specs.Printed.{report, printed}

abbrev bytes : String → List ℕ
bytes ends = []
bytes (◌then◌ c s) = code c ∷ bytes s

abbrev times : ℕ → List ℕ → List ℕ
times zero l = []
times (suc m) l = l ++ times m l

-- the inputs of n stations, each with its own stock alone
abbrev own : ℕ → List ℕ
own zero = []
own (suc n) = own n ++ bytes_of 8 (2 ^ n)

abbrev zeros : ℕ → List ℕ
zeros w = replicate w 0

-- a station's twenty bytes: state, count, stations, stocks
abbrev row : ℕ → ℕ → ℕ → ℕ → List ℕ
row state count stations stocks = (state ∷ 0 ∷ count ∷ 0 ∷ []) ++ (stations ∷ zeros 7) ++ (stocks ∷ zeros 7)

-- a plan and what is printed of it; or a run call, with the number that it returns and the answer bytes
data Case : Type 0 where
  prints : (plan report : String) → Case
  calls : (n : ℕ) (inputs turns : List ℕ) (number : ℕ) (answer : List ℕ) → Case

-- the answer bytes before a call: 20 a station, and four more
abbrev blank : ℕ → List ℕ
blank n = times n (replicate 20 0xee) ++ replicate 4 0xee

abbrev past : List ℕ
past = replicate 4 0xee

cases : List Case
cases =
    -- A: "n = 1, turns 1 1 1": "count 2 and one idle turn"
    prints "GANG\t1\nHAS\t1\tS01\nTURN\t1\t1\t1\n" "RUN\t1\t3\t1\nSTOCK\t0\tS01\nST\t1\t2\t2\t0001\t0000000000000001\n"
    ∷ calls 1 (own 1) (1 ∷ 1 ∷ 1 ∷ []) 0 (row 2 2 1 1 ++ past)
    -- B: "n = 1, turn 1": "under way with count 1; both sets zero"
    ∷ prints "GANG\t1\nHAS\t1\tS01\nTURN\t1\n" "RUN\t1\t1\t0\nSTOCK\t0\tS01\nST\t1\t1\t1\t-\t-\n"
    ∷ calls 1 (own 1) (1 ∷ []) 0 (row 1 1 0 0 ++ past)
    -- C: "the plan below"
    ∷ prints "GANG\t2\nHAS\t1\tKR90\nHAS\t2\tKR90  \tSB70\nTURN\t1\t1\t1\t1\t1\t2\t2\t2\t2\t2\t1\n"
    "RUN\t2\t11\t1\nSTOCK\t0\tKR90\nSTOCK\t1\tSB70\nST\t1\t2\t5\t0001\t0000000000000001\nST\t2\t2\t5\t0003\t0000000000000003\n"
    -- D: "n = 2, turns 1 2 five times over": "both settle on both, with count 5"
    ∷ calls 2 (own 2) (times 5 (1 ∷ 2 ∷ [])) 0 (row 2 5 3 3 ++ row 2 5 3 3 ++ past)
    -- E: "n = 2, turns 1 1 1 2 2 1 1 1": "station 1 settles on both with count 6; station 2 is under way with count 2"
    ∷ calls 2 (own 2) (1 ∷ 1 ∷ 1 ∷ 2 ∷ 2 ∷ 1 ∷ 1 ∷ 1 ∷ []) 0 (row 2 6 3 3 ++ row 1 2 0 0 ++ past)
    -- F: "n = 3, ten turns of station 3": "it settles on itself with count 10; after nine it has not"
    ∷ calls 3 (own 3) (times 10 (3 ∷ [])) 0 (row 0 0 0 0 ++ row 0 0 0 0 ++ row 2 10 4 4 ++ past)
    ∷ calls 3 (own 3) (times 9 (3 ∷ [])) 0 (row 0 0 0 0 ++ row 0 0 0 0 ++ row 1 9 0 0 ++ past)
    -- G: "n = 0; n = 17; n = 2 with turn 3 first": "1; 1; 4 at place 0"
    ∷ calls 0 [] [] 1 past
    ∷ calls 17 (own 17) [] 1 (blank 17)
    ∷ calls 2 (own 2) (3 ∷ 1 ∷ []) 4 (blank 2)
    -- H: "no turns": "no station has begun"
    ∷ calls 3 (own 3) [] 0 (row 0 0 0 0 ++ row 0 0 0 0 ++ row 0 0 0 0 ++ past)
    ∷ prints "GANG\t2\n" "RUN\t2\t0\t0\nST\t1\t0\t0\t-\t-\nST\t2\t0\t0\t-\t-\n"
    -- I: "a code of 12 bytes; of 12 and eight spaces, beside the 12 alone": "taken; taken, and one stock"
    ∷ prints "GANG\t1\nHAS\t1\tABCDEFGHIJKL\n" "RUN\t1\t0\t0\nSTOCK\t0\tABCDEFGHIJKL\nST\t1\t0\t0\t-\t-\n"
    ∷ prints "GANG\t2\nHAS\t1\tABCDEFGHIJKL        \nHAS\t2\tABCDEFGHIJKL\nTURN\t1\t1\t1\t1\t1\t2\t2\t2\t2\t2\n"
    "RUN\t2\t10\t0\nSTOCK\t0\tABCDEFGHIJKL\nST\t1\t2\t5\t0001\t0000000000000001\nST\t2\t2\t5\t0003\t0000000000000001\n"
    -- "of 13; of 13 and seven spaces; of one space; of twenty": "17; 17; 17; 17"
    ∷ prints "GANG\t1\nHAS\t1\tABCDEFGHIJKLM\n" "NO\t17\t2\n"
    ∷ prints "GANG\t1\nHAS\t1\tABCDEFGHIJKLM       \n" "NO\t17\t2\n"
    ∷ prints "GANG\t1\nHAS\t1\t \n" "NO\t17\t2\n"
    ∷ prints "GANG\t1\nHAS\t1\t                    \n" "NO\t17\t2\n"
    ∷ []

-- what comes of a case: a number and bytes; a plan has no number
record Outcome : Type 0 where
  number : ℕ
  bytes_are : List ℕ

worked : Case → Outcome
worked (prints plan report) = record { number = 0; bytes_are = printed (bytes plan) }
worked (calls n inputs turns number answer) = record { number = returned n inputs turns (blank n); bytes_are = answered n inputs turns (blank n) }

given : Case → Outcome
given (prints plan report) = record { number = 0; bytes_are = bytes report }
given (calls n inputs turns number answer) = record { number = number; bytes_are = answer }

cases-right : map worked cases ≡ map given cases
unfolding cases worked given ones holds member_from member_after array_length own_array other_array place depth_from depth fresh fresh_on row_of line_of level_of register_of with_row with_line with_register gather climb writing pending reach again round_over read_other read_own absorb_own absorb_other next_op absorb goes_on perform named turn after did_of idle_turns first_from bytes_of number_in inputs_in row_bytes answer_bytes first_bad tests first_unwritten verdict_of parted all run same value_on number_to code_of number_of each station take_turn take_code add_stock Plan.code word_of has_line turn_line later_line gang_of first_line later_lines reading digits width_in width line refusal_line run_line stock_line station_line numbered report_lines report printed
cases-right = refl

-- J: "the limit is 107"
limit-of-sixteen : most_operations 16 ≡ 107
unfolding most_operations depth depth_from
limit-of-sixteen = refl
