-- How long a field's code is, by its spaces from the end, and what the length tells of the field.
use Prim.Native.Nat.{ℕ, ◌-◌, ◌≤◌, ◌<◌}
use mathlib.Core.Path.{◌≡◌, refl, sym, ap, ◌∙◌}
use mathlib.Core.Bool.{Bool, true, false, cond, not}
use mathlib.Core.List.{List, [], ◌∷◌, ◌++◌}
use native.Mathlib.Omega.{arith}
use native.Mathlib.Nat.{sub-zero}
use lib.ListN.{length, take, length-reverse}
use lib.Dec.{leb, ltb, eqb}
use borrow.Author.Tests.{le-leb, lt-leb, leb-true, ltb-true, ltb-false, eqb-true, eqb-false}
use Rattle.std.specs.List.{position, position_or_len}
use Rattle.std.specs.Option.{MatchOption}
use Rattle.std.specs.Prelude.{Option, Some, None, reverse}
use Rattle.std.proofs.lemmas.List.{reverse-reverse}
use Rattle.std.proofs.lemmas.Grind.{reverse_onto}
use Rattle.sets.specs.Absent.{unless_zero}
use Rattle.text.specs.Limits.{most_code}
use Rattle.text.specs.Text.{space}
use Rattle.text.specs.Code.{code_of}
use Rattle.text.specs.Plan.{Out, taken, no, code_in, code}
use Rattle.text.specs.declared.Fault.TheVariants.{BadCode}
use Rattle.text.proofs.Codes.{code-space, code-solid, code-front, code-short}
use Rattle.fields.specs.Measure.{length_of}
use Rattle.sets.proofs.Absent.{unless-present, unless-absent}

-- ---- what is left of a field, and its length

long-in : (c : List ℕ) → most_code < length c → code_in c ≡ no BadCode
long-in [] h = refl
long-in (b ∷ c) h = rw (lt-leb (length (b ∷ c)) most_code h)

short-in : (c : List ℕ) → length c ≤ most_code → length_of (code_in c) ≡ length c
short-in [] h = refl
short-in (b ∷ c) h = rw (le-leb (length (b ∷ c)) most_code h)

-- ---- the spaces at the end of a field

abbrev pub solid : ℕ → Bool
solid b = not (eqb b space)

-- of a field from its end on: what is left without the spaces in front
left : (r : List ℕ) → length (code_of (reverse r)) ≡ length r - position_or_len solid r
unfolding code_of
left [] = refl
left (b ∷ r) = by_cases (eqb b space) refl (left r)
  where
    last : length (code_of (reverse (b ∷ r))) ≡ length (code_of (reverse r ++ (b ∷ [])))
    last = ap (λ (l : List ℕ). length (code_of l)) (reverse_onto r b [])

    by_cases : (t : Bool) → eqb b space ≡ t → length (code_of (reverse r)) ≡ length r - position_or_len solid r
        → length (code_of (reverse (b ∷ r))) ≡ length (b ∷ r) - position_or_len solid (b ∷ r)
    by_cases true e h = rw e (last ∙ ap length (code-space (reverse r) b (eqb-true b space e)) ∙ h ∙ omega arith)
    by_cases false e h =
        rw e (last ∙ ap length (code-solid (reverse r) b (eqb-false b space e)) ∙ sym (ap length (reverse_onto r b [])) ∙ length-reverse (b ∷ r) ∙ sym (sub-zero (length (b ∷ r))))

module _ (f : List ℕ) (r : Option ℕ) (ends : r ≡ position solid (reverse f)) where
  first : ℕ
  first = position_or_len solid (reverse f)

  size : length (code_of f) ≡ length f - first
  unfolding first
  size =
      ap (λ (l : List ℕ). length (code_of l)) (sym (reverse-reverse f))
      ∙ left (reverse f)
      ∙ ap (λ (m : ℕ). m - position_or_len solid (reverse f)) (length-reverse f)

  Ended : Option ℕ → Type 0
  Ended r = MatchOption r (length (code_of f) ≡ 0) (λ n. (length (code_of f) ≡ length f - n) × (n < length f))

  ended : Ended r
  unfolding first Ended
  ended = rw ends (by_cases (ltb first (length (reverse f))) refl)
    where
      by_cases : (t : Bool) → ltb first (length (reverse f)) ≡ t → Ended (cond t (Some first) None)
      by_cases true h = let m : first < length (reverse f) = ltb-true first (length (reverse f)) h in (size, omega (arith, length-reverse f))
      by_cases false h = let m : length (reverse f) ≤ first = ltb-false first (length (reverse f)) h in omega (arith, size, length-reverse f)

  pub all-spaces : r ≡ None → None ≡ unless_zero (length_of (code f))
  unfolding code Ended
  all-spaces e =
      let h = rw e at ended in
      unless-absent _ (short-in (code_of f) (omega arith) ∙ h)

  pub long-code : (n : ℕ) → r ≡ Some n → most_code < length f - n → None ≡ unless_zero (length_of (code f))
  unfolding code Ended
  long-code n e l =
      let h = rw e at ended in
      sym (ap (λ (o : Out (List ℕ)). unless_zero (length_of o)) (long-in (code_of f) (omega arith)))

  pub short-code : (n : ℕ) → r ≡ Some n → length f - n ≤ most_code → Some (length f - n) ≡ unless_zero (length_of (code f))
  unfolding code Ended
  short-code n e l =
      let h = rw e at ended in
      let k = short-in (code_of f) (omega arith) ∙ h.0 in
      ap Some (sym k) ∙ unless-present _ (omega arith)

-- ---- the length, and what comes of the field

data Kind (c : List ℕ) : Type 0 where
  refused : code_in c ≡ no BadCode → Kind c
  good : code_in c ≡ taken c → 1 ≤ length c → length c ≤ most_code → Kind c

measured : (c : List ℕ) → Kind c
measured [] = refused refl
measured (b ∷ c) = by_cases (leb (length (b ∷ c)) most_code) refl
  where
    by_cases : (t : Bool) → leb (length (b ∷ c)) most_code ≡ t → Kind (b ∷ c)
    by_cases true e = good (rw e) (omega arith) (leb-true (length (b ∷ c)) most_code e)
    by_cases false e = refused (rw e)

there : (c : List ℕ) → code_in c ≡ taken c → 1 ≤ length c → unless_zero (length_of (code_in c)) ≡ Some (length c)
there c e h = ap (λ (o : Out (List ℕ)). unless_zero (length_of o)) e ∙ sym (unless-present (length c) h)

pub no_code : (f : List ℕ) → None ≡ unless_zero (length_of (code f)) → code f ≡ no BadCode
unfolding code
no_code f e = by_cases (measured (code_of f))
  where
    by_cases : Kind (code_of f) → code_in (code_of f) ≡ no BadCode
    by_cases (refused r) = r
    by_cases (good g least most) = let h : None ≡ Some (length (code_of f)) = e ∙ there (code_of f) g least in cc

module _ (f : List ℕ) (n : ℕ) (size : Some n ≡ unless_zero (length_of (code f))) where
  Sized : Type 0
  Sized = (code_in (code_of f) ≡ taken (code_of f)) × (length (code_of f) ≡ n) × (1 ≤ n) × (n ≤ most_code)

  sized : Sized
  unfolding code Sized
  sized = by_cases (measured (code_of f))
    where
      by_cases : Kind (code_of f) → Sized
      by_cases (refused r) = let h : Some n ≡ None = size ∙ ap (λ (o : Out (List ℕ)). unless_zero (length_of o)) r in cc
      by_cases (good g least most) =
          let h : Some n ≡ Some (length (code_of f)) = size ∙ there (code_of f) g least in
          let l : length (code_of f) ≡ n = cc in
          (g, l, omega arith, omega arith)

  -- a code is the front of its field
  pub a-code : code f ≡ taken (take n f)
  unfolding code Sized
  a-code = sized.0 ∙ ap taken (code-front f ∙ ap (λ (k : ℕ). take k f) sized.1)

  pub within : (1 ≤ n) × (n ≤ most_code) × (n ≤ length f)
  unfolding Sized
  within = (sized.2, sized.3, omega (arith, sized.1, code-short f))
