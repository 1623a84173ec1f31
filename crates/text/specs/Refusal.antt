-- What an answer says in the numbers of MODEL 8: a plan's counts, or a refusal's number and place.
use Rattle.std.specs.Prelude.{ℕ, Result, Ok, Err}
use Rattle.sets.specs.Placed.{with_place}
use Rattle.text.specs.declared.Fault.{Fault}
use Rattle.text.specs.declared.Fault.TheVariants.{LongText, BadFirstLine, StrayByte, OtherWord, FewFields, BadStation, BadCode, MoreStocks, MoreTurns}
use Rattle.text.specs.declared.Counts.{Counts}
use Rattle.text.specs.declared.Refusal.{Refusal}

-- the numbers of the table in MODEL 8
unfoldable pub number_of : Fault → ℕ
number_of LongText = 11
number_of BadFirstLine = 12
number_of StrayByte = 13
number_of OtherWord = 14
number_of FewFields = 15
number_of BadStation = 16
number_of BadCode = 17
number_of MoreStocks = 18
number_of MoreTurns = 19

pub data Told : Type 0 where
  counts : (stations stocks turns : ℕ) → Told
  refusal : (number place : ℕ) → Told

abbrev pub told : Result Counts Refusal → Told
told (Ok c) = counts c.stations c.stocks c.turns
told (Err r) = refusal (number_of r.fault) r.place

-- the same as one number, as the run call returns it: 0 for a plan that is taken
abbrev pub returned : Told → ℕ
returned (counts n stocks turns) = 0
returned (refusal number place) = with_place number place
