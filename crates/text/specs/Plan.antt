-- The plan: MODEL 8. Its lines from the top, the fields of a line from the left. "The first refusal ends the reading." Executable.
use Rattle.std.specs.Prelude.{ℕ, zero, suc, ◌-◌, ◌^◌, Bool, true, false, cond, List, [], ◌∷◌, ◌++◌, length, get_or, set, replicate, leb, ltb}
use Rattle.std.specs.Int.Bits.{bit_or}
use Rattle.text.specs.Limits.{most_bytes, most_stations, most_stocks, most_turns, most_code}
use Rattle.text.specs.Text.{lines_of, fields_of, all, fine, same}
use Rattle.text.specs.Number.{empty, number_to}
use Rattle.text.specs.Code.{code_of, stock_of}
use Rattle.text.specs.declared.Word.{Word}
use Rattle.text.specs.declared.Word.TheVariants.{Has, Turn, Other}
use Rattle.text.specs.declared.Fault.{Fault}
use Rattle.text.specs.declared.Fault.TheVariants.{LongText, BadFirstLine, StrayByte, OtherWord, FewFields, BadStation, BadCode, MoreStocks, MoreTurns}

-- what a field or a line gives: it is taken, or refused
pub data Out (A : Type 0) : Type 0 where
  taken : A → Out A
  no : Fault → Out A

abbrev pub then : {A B : Type 0} → Out A → (A → Out B) → Out B
then (taken a) f = f a
then (no fault) f = no fault

-- each field is taken or refused before the next is looked at
unfoldable pub each : {A : Type 0} → (A → List ℕ → Out A) → A → List (List ℕ) → Out A
each step a [] = taken a
each step a (f ∷ fs) = then (step a f) (λ a'. each step a' fs)

-- ---- fields

-- 16: "a station is not a number from 1 to n"
abbrev pub station_in : ℕ → Out ℕ
station_in zero = no BadStation
station_in (suc i) = taken (suc i)

unfoldable pub station : ℕ → List ℕ → Out ℕ
station n f = station_in (number_to n f)

-- "these turns come after those before"; 19: "it would be turn number 4,097"
unfoldable pub take_turn : ℕ → List ℕ → List ℕ → Out (List ℕ)
take_turn n turns f =
    then (station n f) (λ i. cond (ltb (length turns) most_turns) (taken (turns ++ (i ∷ []))) (no MoreTurns))

-- 17: "without the spaces at its end, a code has more than 12 bytes or none"
abbrev pub code_in : List ℕ → Out (List ℕ)
code_in c = cond (empty c) (no BadCode) (cond (leb (length c) most_code) (taken c) (no BadCode))

unfoldable pub code : List ℕ → Out (List ℕ)
code f = code_in (code_of f)

-- the codes so far, and the set of one station
pub record Holding : Type 0 where
  pub codes : List (List ℕ)
  pub set : ℕ

abbrev pub holding : List (List ℕ) → ℕ → Holding
holding cs s = record { codes = cs; set = s }

-- the set with stock k: bit k for stock k
abbrev pub with_stock : ℕ → ℕ → ℕ
with_stock s k = bit_or s (2 ^ k)

-- the code is stock k: "stocks are numbered from 0, in the order in which their codes first appear"; 18: "it would be stock number 65"
abbrev pub stock_at : ℕ → Holding → List ℕ → Out Holding
stock_at k h c =
    cond (ltb k (length h.codes))
    (taken (holding h.codes (with_stock h.set k)))
    (cond (ltb k most_stocks) (taken (holding (h.codes ++ (c ∷ [])) (with_stock h.set k))) (no MoreStocks))

unfoldable pub add_stock : Holding → List ℕ → Out Holding
add_stock h c = stock_at (stock_of c h.codes) h c

unfoldable pub take_code : Holding → List ℕ → Out Holding
take_code h f = then (code f) (λ c. add_stock h c)

-- ---- lines

-- the codes in order of first appearance, and the input set of each station
pub record Stocked : Type 0 where
  pub codes : List (List ℕ)
  pub sets : List ℕ

abbrev pub stocked : List (List ℕ) → List ℕ → Stocked
stocked cs ss = record { codes = cs; sets = ss }

-- "`HAS`, a station, and one or more codes: these stocks join the station's set. Lines for one station add up". 15: "`HAS` has fewer than two
-- fields behind it"
unfoldable pub has_line : ℕ → Stocked → List (List ℕ) → Out Stocked
has_line n s [] = no FewFields
has_line n s (i ∷ []) = no FewFields
has_line n s (f ∷ c ∷ cs) =
    then (station n f) (λ i.
    then (each take_code (holding s.codes (get_or s.sets (i - 1) 0)) (c ∷ cs)) (λ h.
    taken (stocked h.codes (set s.sets (i - 1) h.set))))

-- "`TURN` and one or more stations". 15: "or `TURN` has none"
unfoldable pub turn_line : ℕ → List ℕ → List (List ℕ) → Out (List ℕ)
turn_line n turns [] = no FewFields
turn_line n turns (f ∷ fs) = each (take_turn n) turns (f ∷ fs)

-- what is held of a plan: n, the stocks, the turns
pub record Held : Type 0 where
  pub stations : ℕ
  pub stocks : Stocked
  pub turns : List ℕ

abbrev pub held : ℕ → Stocked → List ℕ → Held
held n s ts = record { stations = n; stocks = s; turns = ts }

-- "a station with no such line has the empty set"
abbrev pub fresh : ℕ → Held
fresh n = held n (stocked [] (replicate most_stations 0)) []

-- the words, byte by byte
abbrev pub GANG : List ℕ
GANG = 71 ∷ 65 ∷ 78 ∷ 71 ∷ []

abbrev pub HAS : List ℕ
HAS = 72 ∷ 65 ∷ 83 ∷ []

abbrev pub TURN : List ℕ
TURN = 84 ∷ 85 ∷ 82 ∷ 78 ∷ []

unfoldable pub word_of : List ℕ → Word
word_of w = cond (same w HAS) Has (cond (same w TURN) Turn Other)

-- 14: "a line after the first starts with some other field; an empty line does, and a second `GANG`"
abbrev pub word_line : Word → Held → List (List ℕ) → Out Held
word_line Has h fs = then (has_line h.stations h.stocks fs) (λ s. taken (held h.stations s h.turns))
word_line Turn h fs = then (turn_line h.stations h.turns fs) (λ ts. taken (held h.stations h.stocks ts))
word_line Other h fs = no OtherWord

abbrev pub later_fields : Held → List (List ℕ) → Out Held
later_fields h [] = no OtherWord
later_fields h (w ∷ fs) = word_line (word_of w) h fs

-- "Of one line 13 is tested first"
unfoldable pub later_line : Held → List ℕ → Out Held
later_line h l = cond (all fine l) (later_fields h (fields_of l)) (no StrayByte)

-- n, where the line is `GANG` and one number from 1 to 16; else 0
unfoldable pub gang_of : List (List ℕ) → ℕ
gang_of [] = 0
gang_of (w ∷ []) = 0
gang_of (w ∷ f ∷ []) = cond (same w GANG) (number_to most_stations f) 0
gang_of (w ∷ f ∷ g ∷ gs) = 0

-- 12: "there is no line 1, or it is not `GANG` and one number from 1 to 16"
abbrev pub gang_in : ℕ → Out Held
gang_in zero = no BadFirstLine
gang_in (suc n) = taken (fresh (suc n))

unfoldable pub first_line : List ℕ → Out Held
first_line l = cond (all fine l) (gang_in (gang_of (fields_of l))) (no StrayByte)

-- ---- the plan

pub data Reading : Type 0 where
  plan : Held → Reading
  refused : Fault → (place : ℕ) → Reading

-- "The place is the number of the line, from 1"
abbrev pub at_line : ℕ → Out Held → (Held → Reading) → Reading
at_line k (taken h) go = go h
at_line k (no fault) go = refused fault k

unfoldable pub later_lines : ℕ → Held → List (List ℕ) → Reading
later_lines k h [] = plan h
later_lines k h (l ∷ ls) = at_line k (later_line h l) (λ h'. later_lines (suc k) h' ls)

-- "an empty text is 12 at place 1"
abbrev pub all_lines : List (List ℕ) → Reading
all_lines [] = refused BadFirstLine 1
all_lines (l ∷ ls) = at_line 1 (first_line l) (λ h. later_lines 2 h ls)

-- "11 is tested before all"
abbrev pub sized : Bool → List ℕ → Reading
sized true text = all_lines (lines_of text)
sized false text = refused LongText 0

unfoldable pub reading : List ℕ → Reading
reading text = sized (leb (length text) most_bytes) text
