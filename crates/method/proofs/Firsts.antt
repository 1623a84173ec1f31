-- A look for the first turn at which a test holds.
use Prim.Native.Nat.{ℕ, zero, suc, ◌+◌, ◌-◌, ◌≤◌, ◌<◌}
use mathlib.Core.Path.{◌≡◌, refl, sym, ap, ◌∙◌}
use mathlib.Core.Logic.{⊎_elim}
use mathlib.Core.Bool.{Bool, true, false}
use native.Mathlib.Nat.{eq-or-lt_of_le}
use native.Mathlib.Numerals.{add-one}
use native.Mathlib.Omega.{arith}
use Rattle.method.specs.First.{first_from}

module _ (test : ℕ → Bool) where
  here : (t left : ℕ) → test t ≡ true → first_from test t (suc left) ≡ t
  unfolding first_from
  here t left e = rw (e, first_from)

  further : (t left : ℕ) → test t ≡ false → first_from test t (suc left) ≡ first_from test (suc t) left
  unfolding first_from
  further t left e = rw (e, first_from)

  -- the first t of m have been looked at, and the test held at none
  pub record Passed (m t : ℕ) : Type 0 where
    pub within : t ≤ m
    pub rest : first_from test 0 m ≡ first_from test t (m - t)

  pub passed_none : (m : ℕ) → Passed m 0
  passed_none m = let e : m - 0 ≡ m = omega arith in record { within = omega arith; rest = rw e }

  -- one more is left at t
  split : {m t : ℕ} → t < m → (left : ℕ) × (m - t ≡ suc left) × (m - (t + 1) ≡ left)
  split {m} {t} h = (m - (t + 1), omega arith, refl)

  pub passed-more : {m t : ℕ} → Passed m t → t < m → test t ≡ false → Passed m (t + 1)
  passed-more {m} {t} p h e =
      let s = split h in
      record { within = omega arith; rest = p.rest ∙ rw (s.1, s.2) (further t s.0 e ∙ ap (λ (x : ℕ). first_from test x s.0) (sym (add-one t))) }

  pub passed-stop : {m t : ℕ} → Passed m t → t < m → test t ≡ true → first_from test 0 m ≡ t
  passed-stop {m} {t} p h e = let s = split h in p.rest ∙ rw s.1 (here t s.0 e)

  pub passed-all : {m t : ℕ} → Passed m t → m ≤ t → first_from test 0 m ≡ t
  unfolding first_from
  passed-all {m} {t} p h = let e : m - t ≡ 0 = omega arith in p.rest ∙ rw e

-- two tests that agree on the way stop at the same
pub first-same : (f g : ℕ → Bool) (t left : ℕ) → ((u : ℕ) → t ≤ u → u < t + left → f u ≡ g u) → first_from f t left ≡ first_from g t left
unfolding first_from
first-same f g t zero h = refl
first-same f g t (suc left) h =
    go (g t) refl (first-same f g (suc t) left (λ u a b. h u (omega arith) (omega arith)))
  where
    go : (b : Bool) → g t ≡ b → first_from f (suc t) left ≡ first_from g (suc t) left → first_from f t (suc left) ≡ first_from g t (suc left)
    go true e ih = here f t left (h t (omega arith) (omega arith) ∙ e) ∙ sym (here g t left e)
    go false e ih = further f t left (h t (omega arith) (omega arith) ∙ e) ∙ ih ∙ sym (further g t left e)

-- the end is not passed
pub first-within : (f : ℕ → Bool) (t left : ℕ) → first_from f t left ≤ t + left
unfolding first_from
first-within f t zero = omega arith
first-within f t (suc left) = go (f t) refl (first-within f (suc t) left)
  where
    go : (w : Bool) → f t ≡ w → first_from f (suc t) left ≤ suc t + left → first_from f t (suc left) ≤ t + suc left
    go true e ih = rw (here f t left e) (omega arith)
    go false e ih = rw (further f t left e) (omega arith)

-- where the end is reached, the test held nowhere
pub first_past : (f : ℕ → Bool) (t left u : ℕ) → t + left ≤ first_from f t left → t ≤ u → u < t + left → f u ≡ false
unfolding first_from
first_past f t zero u h a b = absurd (omega arith)
first_past f t (suc left) u h a b = go (f t) refl (λ p q. first_past f (suc t) left u p q (omega arith))
  where
    go : (w : Bool) → f t ≡ w → (suc t + left ≤ first_from f (suc t) left → suc t ≤ u → f u ≡ false) → f u ≡ false
    go true e ih = let z : t + suc left ≤ t = rw (here f t left e) at h in absurd (omega arith)
    go false e ih =
        let r : t + suc left ≤ first_from f (suc t) left = rw (further f t left e) at h in
        ⊎_elim (λ (s : t ≡ u). rw (← s) e) (λ (l : t < u). ih (omega arith) l) (eq-or-lt_of_le a)

-- where the test holds nowhere, the end is reached
pub first-none : (f : ℕ → Bool) (t left : ℕ) → ((u : ℕ) → t ≤ u → u < t + left → f u ≡ false) → first_from f t left ≡ t + left
unfolding first_from
first-none f t zero h = omega arith
first-none f t (suc left) h =
    let ih : first_from f (suc t) left ≡ suc t + left = first-none f (suc t) left (λ u a b. h u (omega arith) (omega arith)) in
    let e : first_from f t (suc left) ≡ first_from f (suc t) left = rw (h t (omega arith) (omega arith), first_from) in
    omega arith
