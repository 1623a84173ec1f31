-- An answer is fixed by what it says in numbers: `told-fixes`. For a caller of `read_plan`: an answer with counts is a plan that was taken,
-- `counts-told`, and an answer with a refusal is that refusal, `refusal-told`. A refused plan leaves every buffer as it was, `refused-out`.
-- What is returned is no large number, `returned-most`.
use Prim.Native.Nat.{ℕ, zero, suc, ◌-◌, ◌≤◌}
use mathlib.Core.Path.{◌≡◌, refl, sym, ap, ◌∙◌}
use mathlib.Core.List.{List}
use Rattle.std.specs.Prelude.{Result, Ok, Err}
use native.Mathlib.Omega.{arith}
use lib.ListN.{length}
use Rattle.sets.specs.Placed.{with_place}
use Rattle.text.specs.Limits.{most_bytes}
use Rattle.text.specs.Plan.{Held, Reading, plan, refused, reading}
use Rattle.text.specs.Buffers.{told_of, sets_after, codes_after, lens_after, turns_after}
use Rattle.text.specs.Sound.{Sound}
use Rattle.text.proofs.Outcomes.{sound, fault-most, place-most}
use Rattle.text.specs.Refusal.{number_of, Told, counts, refusal, told, returned}
use Rattle.text.specs.declared.Fault.{Fault}
use Rattle.text.specs.declared.Fault.TheVariants.{LongText, BadFirstLine, StrayByte, OtherWord, FewFields, BadStation, BadCode, MoreStocks, MoreTurns}
use Rattle.text.specs.declared.Counts.{Counts}
use Rattle.text.specs.declared.Refusal.{Refusal}

-- the row of the table, from 0
row : ℕ → Fault
row zero = LongText
row (suc zero) = BadFirstLine
row (suc (suc zero)) = StrayByte
row (suc (suc (suc zero))) = OtherWord
row (suc (suc (suc (suc zero)))) = FewFields
row (suc (suc (suc (suc (suc zero))))) = BadStation
row (suc (suc (suc (suc (suc (suc zero)))))) = BadCode
row (suc (suc (suc (suc (suc (suc (suc zero))))))) = MoreStocks
row (suc (suc (suc (suc (suc (suc (suc (suc n)))))))) = MoreTurns

row_of : (f : Fault) → row (number_of f - 11) ≡ f
unfolding row number_of
row_of LongText = refl
row_of BadFirstLine = refl
row_of StrayByte = refl
row_of OtherWord = refl
row_of FewFields = refl
row_of BadStation = refl
row_of BadCode = refl
row_of MoreStocks = refl
row_of MoreTurns = refl

back : Told → Result Counts Refusal
back (counts n s t) = Ok (record { stations = n; stocks = s; turns = t })
back (refusal number place) = Err (record { fault = row (number - 11); place = place })

back-told : (r : Result Counts Refusal) → back (told r) ≡ r
unfolding back
back-told (Ok c) = refl
back-told (Err r) = ap (λ (fault : Fault). Err (record { fault = fault; place = r.place })) (row_of r.fault)

pub told-fixes : (a b : Result Counts Refusal) → told a ≡ told b → a ≡ b
told-fixes a b e = sym (back-told a) ∙ ap back e ∙ back-told b

-- ---- what a caller learns

pub record TakenPlan (text : List ℕ) (n s t : ℕ) : Type 0 where
  pub holds : Held
  pub is : reading text ≡ plan holds
  pub stations : n ≡ holds.stations
  pub stocks : s ≡ length holds.stocks.codes
  pub turns : t ≡ length holds.turns
  pub good : Sound holds

pub counts-told : (text : List ℕ) (n s t : ℕ) → counts n s t ≡ told_of (reading text) → TakenPlan text n s t
counts-told text n s t e = by_cases (reading text) refl e
  where
    by_cases : (r : Reading) → reading text ≡ r → counts n s t ≡ told_of r → TakenPlan text n s t
    by_cases (plan h) is p = record { holds = h; is = is; stations = cc; stocks = cc; turns = cc; good = sound text h is }
    by_cases (refused fault place) is p = let z : ◌≡◌ {A = ℕ} 0 1 = cc in absurd (omega arith)

pub record GivenRefusal (text : List ℕ) (number place : ℕ) : Type 0 where
  pub fault : Fault
  pub is : reading text ≡ refused fault place
  pub number_is : number ≡ number_of fault

pub refusal-told : (text : List ℕ) (number place : ℕ) → refusal number place ≡ told_of (reading text) → GivenRefusal text number place
refusal-told text number place e = by_cases (reading text) refl e
  where
    by_cases : (r : Reading) → reading text ≡ r → refusal number place ≡ told_of r → GivenRefusal text number place
    by_cases (plan h) is p = let z : ◌≡◌ {A = ℕ} 0 1 = cc in absurd (omega arith)
    by_cases (refused fault at) is p =
        let q : at ≡ place = cc in
        record { fault = fault; is = is ∙ ap (refused fault) q; number_is = cc }

-- a plan that is refused: the answer, and every buffer as it was
pub refused-out : (out : Reading) (fault : Fault) (place : ℕ) → refused fault place ≡ out → (sets codes lens turns : List ℕ)
    → (refusal (number_of fault) place ≡ told_of out)
    × ((sets ≡ sets_after out sets) × ((codes ≡ codes_after out codes) × ((lens ≡ lens_after out lens) × (turns ≡ turns_after out turns))))
refused-out out fault place e sets codes lens turns = (
  ap told_of e,
  (
    ap (λ (o : Reading). sets_after o sets) e,
    (
      ap (λ (o : Reading). codes_after o codes) e,
      (
        ap (λ (o : Reading). lens_after o lens) e,
        ap (λ (o : Reading). turns_after o turns) e,
      ),
    ),
  ),
)

-- a refusal and 100 times a line of the longest text
pub returned-most : (text : List ℕ) → returned (told_of (reading text)) ≤ with_place 19 most_bytes
returned-most text = by_cases (reading text) refl
  where
    by_cases : (r : Reading) → reading text ≡ r → returned (told_of r) ≤ with_place 19 most_bytes
    by_cases (plan h) is = omega arith
    by_cases (refused fault place) is = omega (arith, fault-most fault, place-most text fault place is)
