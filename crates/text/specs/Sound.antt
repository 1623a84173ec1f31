-- What a plan that is taken holds, and what a plan that is refused is told.
use Rattle.std.specs.Prelude.{ℕ, ◌^◌, ◌≤◌, ◌<◌, max, ◌≡◌, Bool, false, List, [], ◌∷◌, length, get_or, eqb}
use Rattle.method.specs.Demand.{Station}
use Rattle.text.specs.Limits.{most_stations, most_stocks, most_turns, most_code}
use Rattle.text.specs.Text.{space, lines_of}
use Rattle.text.specs.Refusal.{number_of}
use Rattle.text.specs.Plan.{Stocked, Held, plan, refused, reading}
use Rattle.text.specs.declared.Fault.{Fault}

unfoldable pub ends_in_space : List ℕ → Bool
ends_in_space [] = false
ends_in_space (b ∷ []) = eqb b space
ends_in_space (b ∷ c ∷ cs) = ends_in_space (c ∷ cs)

-- a code as it is handed out
pub record GoodCode (c : List ℕ) : Type 0 where
  pub least : 1 ≤ length c
  pub most : length c ≤ most_code
  pub solid : ends_in_space c ≡ false

-- the codes: no two are equal
pub record GoodCodes (cs : List (List ℕ)) : Type 0 where
  pub most : length cs ≤ most_stocks
  pub good : (j : ℕ) → j < length cs → GoodCode (get_or cs j [])
  pub apart : (i j : ℕ) → i < j → j < length cs → get_or cs i [] ≡ get_or cs j [] → ⊥

-- the sets: one for each station, of stocks that are there
pub record GoodStocks (s : Stocked) : Type 0 where
  pub codes : GoodCodes s.codes
  pub sets : length s.sets ≡ most_stations
  pub known : (i : ℕ) → get_or s.sets i 0 < 2 ^ length s.codes

-- the turns: each is a station
pub record GoodTurns (n : ℕ) (ts : List ℕ) : Type 0 where
  pub most : length ts ≤ most_turns
  pub named : (t : ℕ) → t < length ts → Station n (get_or ts t 0)

pub record Sound (h : Held) : Type 0 where
  pub some : 1 ≤ h.stations
  pub most : h.stations ≤ most_stations
  pub stocks : GoodStocks h.stocks
  pub turns : GoodTurns h.stations h.turns

-- every text gives a plan, or one refusal: 11 at place 0, or one of 12 to 19 at a line of the text, which is line 1 where it has none
pub data Outcome (text : List ℕ) : Type 0 where
  planned : (h : Held) → reading text ≡ plan h → Sound h → Outcome text
  long : (fault : Fault) → reading text ≡ refused fault 0 → number_of fault ≡ 11 → Outcome text
  stopped : (fault : Fault) (line : ℕ) → reading text ≡ refused fault line → 12 ≤ number_of fault → number_of fault ≤ 19
      → 1 ≤ line → line ≤ max 1 (length (lines_of text)) → Outcome text
