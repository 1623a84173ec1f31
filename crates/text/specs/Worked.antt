-- Plans worked by hand, computed from the definitions: cases C and I of MODEL 11, and a row for each refusal and each reading of an odd text. A plan taken shows n, the codes, the sets of the first three stations and the turns.
use Rattle.std.specs.Prelude.{ℕ, ◌≡◌, refl, List, [], ◌∷◌, map, take}
use Prim.Native.Char.{code}
use Prim.Native.String.{String, [] as ends, ◌∷◌ as ◌then◌}
use Rattle.text.specs.Text.{parted, lines_of, all, run, same}
use Rattle.text.specs.Number.{value_on, number_to}
use Rattle.text.specs.Code.{code_of}
use Rattle.text.specs.Refusal.{number_of}
use Rattle.text.specs.Plan.{Reading, plan, refused, each, station, take_turn, take_code, add_stock, word_of, has_line, turn_line, later_line, gang_of, first_line, later_lines, reading}
use Rattle.text.specs.Plan as Plan
use Rattle.text.specs.Alike.{Each, none, more, Alike, same_line, has_lines}

abbrev bytes : String → List ℕ
bytes ends = []
bytes (◌then◌ c s) = code c ∷ bytes s

-- what is shown of a reading
data Shown : Type 0 where
  taken : ℕ → List (List ℕ) → List ℕ → List ℕ → Shown
  NO : ℕ → ℕ → Shown

shown : Reading → Shown
unfolding number_of
shown (plan h) = taken h.stations h.stocks.codes (take 3 h.stocks.sets) h.turns
shown (refused f k) = NO (number_of f) k

record Case : Type 0 where
  text : String
  gives : Shown

abbrev case : String → Shown → Case
case t s = record { text = t; gives = s }

cases : List Case
cases =
    case "GANG\t2\nHAS\t1\tKR90\nHAS\t2\tKR90  \tSB70\nTURN\t1\t1\t2\n" (taken 2 (bytes "KR90" ∷ bytes "SB70" ∷ []) (1 ∷ 3 ∷ 0 ∷ []) (1 ∷ 1 ∷ 2 ∷ []))
    ∷ case "GANG\t2\nHAS\t1\tA\nHAS\t2\tB\nHAS\t1\tB" (taken 2 (bytes "A" ∷ bytes "B" ∷ []) (3 ∷ 2 ∷ 0 ∷ []) [])
    ∷ case "GANG\t1\nHAS\t1\tABCDEFGHIJKL" (taken 1 (bytes "ABCDEFGHIJKL" ∷ []) (1 ∷ 0 ∷ 0 ∷ []) [])
    ∷ case "GANG\t2\nHAS\t1\tABCDEFGHIJKL        \nHAS\t2\tABCDEFGHIJKL" (taken 2 (bytes "ABCDEFGHIJKL" ∷ []) (1 ∷ 1 ∷ 0 ∷ []) [])
    ∷ case "GANG\t1\nHAS\t1\tABCDEFGHIJKLM" (NO 17 2)
    ∷ case "GANG\t1\nHAS\t1\tABCDEFGHIJKLM       " (NO 17 2)
    ∷ case "GANG\t1\nHAS\t1\t  ABCDEFGHIJK" (NO 17 2)
    ∷ case "GANG\t1\nHAS\t1\t " (NO 17 2)
    ∷ case "GANG\t1\nHAS\t1\t                    " (NO 17 2)
    ∷ case "GANG\t1\nHAS\t1\t A\tA\t A  " (taken 1 (bytes " A" ∷ bytes "A" ∷ []) (3 ∷ 0 ∷ 0 ∷ []) [])
    ∷ case "" (NO 12 1)
    ∷ case "\n" (NO 12 1)
    ∷ case "GANG\t17" (NO 12 1)
    ∷ case "GANG\t2\t" (NO 12 1)
    ∷ case "gang\t2" (NO 12 1)
    ∷ case "GANG\t2\r\n" (NO 13 1)
    ∷ case "GANG\t1\n\n" (NO 14 2)
    ∷ case "GANG\t1\nGANG\t1" (NO 14 2)
    ∷ case "GANG\t1\nTURN \t1" (NO 14 2)
    ∷ case "GANG\t1\nHAS\t9" (NO 15 2)
    ∷ case "GANG\t1\nTURN" (NO 15 2)
    ∷ case "GANG\t1\nTURN\t" (NO 16 2)
    ∷ case "GANG\t1\nHAS\t\t" (NO 16 2)
    ∷ case "GANG\t1\nHAS\t1\t" (NO 17 2)
    ∷ case "GANG\t16\nTURN\t16\t1\n\nTURN\t16\t016" (NO 14 3)
    ∷ case "GANG\t16\nTURN\t16\t1\nTURN\t16\t016" (NO 16 3)
    ∷ case "GANG\t16\nTURN\t18446744073709551617" (NO 16 2)
    ∷ case "GANG\t1\nTURN\t99\t\u{7f}" (NO 13 2)
    ∷ []

cases-right : map (λ (c : Case). shown (reading (bytes c.text))) cases ≡ map (λ (c : Case). c.gives) cases
unfolding cases shown parted all run same value_on number_to code_of number_of each station take_turn take_code add_stock Plan.code word_of has_line turn_line later_line gang_of first_line later_lines reading
cases-right = refl

-- two plans that differ only in how many spaces stand behind codes: one as an export pads it, one bare
padded-alike : Each Alike (lines_of (bytes "GANG\t1\nHAS\t1\tKR90                \tSB70")) (lines_of (bytes "GANG\t1\nHAS\t1\tKR90\tSB70  "))
unfolding parted
padded-alike =
    more (same_line refl)
    (more (has_lines (bytes "1") _ _ refl refl
    (more (record { code = bytes "KR90"; left = 16; right = 0; f_is = refl; g_is = refl })
    (more (record { code = bytes "SB70"; left = 0; right = 2; f_is = refl; g_is = refl })
    none)))
    none)
