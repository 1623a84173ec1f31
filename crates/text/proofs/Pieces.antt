-- A text that is cut at a byte: where a run of other bytes ends, the first piece ends. `f` is a test that the parting byte fails.
use Prim.Native.Nat.{ℕ, suc, ◌≤◌, ◌<◌}
use mathlib.Core.Path.{◌≡◌, refl, sym, ap, ◌∙◌}
use mathlib.Core.Bool.{Bool, true, false, and-false, false≢true}
use mathlib.Core.List.{List, [], ◌∷◌}
use native.Mathlib.Omega.{arith}
use native.Mathlib.Nat.{not-suc-le-zero, le_of_suc-le-suc}
use lib.ListN.{length, get_or, take, drop}
use lib.Dec.{eqb}
use borrow.Author.Tests.{eq-eqb, ne_eqb}
use Rattle.text.specs.Text.{onto, joined, parted, all, run, run_more}

pub run-most : {A : Type 0} (f : A → Bool) (l : List A) → run f l ≤ length l
unfolding run
run-most f [] = omega arith
run-most f (b ∷ bs) = more (f b) (run-most f bs)
  where
    more : (t : Bool) → run f bs ≤ length bs → run_more t (run f bs) ≤ suc (length bs)
    more true h = omega arith
    more false h = omega arith

-- every byte of the run passes
pub run-passes : (f : ℕ → Bool) (l : List ℕ) → all f (take (run f l) l) ≡ true
unfolding run all
run-passes f [] = refl
run-passes f (b ∷ bs) = more (f b) refl (run-passes f bs)
  where
    more : (t : Bool) → f b ≡ t → all f (take (run f bs) bs) ≡ true → all f (take (run_more t (run f bs)) (b ∷ bs)) ≡ true
    more true e h = rw (e, h)
    more false e h = refl

-- the byte after it does not
pub run-fails : (f : ℕ → Bool) (l : List ℕ) → run f l < length l → f (get_or l (run f l) 0) ≡ false
unfolding run
run-fails f [] h = absurd (not-suc-le-zero h)
run-fails f (b ∷ bs) h = more (f b) refl h (run-fails f bs)
  where
    more : (t : Bool) → f b ≡ t → run_more t (run f bs) < length (b ∷ bs) → (run f bs < length bs → f (get_or bs (run f bs) 0) ≡ false)
        → f (get_or (b ∷ bs) (run_more t (run f bs)) 0) ≡ false
    more true e h go = go (le_of_suc-le-suc h)
    more false e h go = e

module _ (sep : ℕ) (f : ℕ → Bool) (fails : f sep ≡ false) where
  apart : (b : ℕ) → f b ≡ true → eqb b sep ≡ false
  apart b e = ne_eqb b sep (λ p. false≢true (sym fails ∙ ap f (sym p) ∙ e))

  -- the run ends at the parting byte: the first piece is the run, and the pieces of what is behind it follow
  pub cut : (ends : List (List ℕ)) (l : List ℕ) → run f l < length l → get_or l (run f l) 0 ≡ sep
      → parted sep ends l ≡ take (run f l) l ∷ parted sep ends (drop (suc (run f l)) l)
  unfolding run parted
  cut ends [] h e = absurd (not-suc-le-zero h)
  cut ends (b ∷ bs) h e = more (f b) refl h e (cut ends bs)
    where
      more : (t : Bool) → f b ≡ t → run_more t (run f bs) < length (b ∷ bs) → get_or (b ∷ bs) (run_more t (run f bs)) 0 ≡ sep
          → (run f bs < length bs → get_or bs (run f bs) 0 ≡ sep → parted sep ends bs ≡ take (run f bs) bs ∷ parted sep ends (drop (suc (run f bs)) bs))
          → parted sep ends (b ∷ bs) ≡ take (run_more t (run f bs)) (b ∷ bs) ∷ parted sep ends (drop (suc (run_more t (run f bs))) (b ∷ bs))
      more true p h e go = rw (apart b p, go (le_of_suc-le-suc h) e)
      more false p h e go = rw (eq-eqb b sep e)

  -- the run ends with the text: it is one piece, and `ends` says what the end of the text is
  pub whole : (ends : List (List ℕ)) (b : ℕ) (bs : List ℕ) → ((c : ℕ) → onto c ends ≡ (c ∷ []) ∷ [])
      → run f (b ∷ bs) ≡ length (b ∷ bs) → parted sep ends (b ∷ bs) ≡ (b ∷ bs) ∷ []
  unfolding run parted
  whole ends b [] at h = more (f b) refl h
    where
      more : (t : Bool) → f b ≡ t → run_more t 0 ≡ 1 → parted sep ends (b ∷ []) ≡ (b ∷ []) ∷ []
      more true p h = rw (apart b p) (at b)
      more false p h = absurd (omega arith)
  whole ends b (c ∷ bs) at h = more (f b) refl h (whole ends c bs at)
    where
      more : (t : Bool) → f b ≡ t → run_more t (run f (c ∷ bs)) ≡ suc (length (c ∷ bs))
          → (run f (c ∷ bs) ≡ length (c ∷ bs) → parted sep ends (c ∷ bs) ≡ (c ∷ bs) ∷ [])
          → parted sep ends (b ∷ c ∷ bs) ≡ (b ∷ c ∷ bs) ∷ []
      more true p h go = rw (apart b p, go (omega arith))
      more false p h go = absurd (omega arith)

  -- the run ends at another byte: the first piece goes on, and does not pass
  pub strays : (ends : List (List ℕ)) (l : List ℕ) → run f l < length l → (get_or l (run f l) 0 ≡ sep → ⊥)
      → (p : List ℕ) × (ps : List (List ℕ)) × (parted sep ends l ≡ p ∷ ps) × (all f p ≡ false)
  unfolding run parted all
  strays ends [] h e = absurd (not-suc-le-zero h)
  strays ends (b ∷ bs) h e = more (f b) refl h e (strays ends bs)
    where
      first : (t : Bool) → f b ≡ false → (qs : List (List ℕ)) → joined t b qs ≡ joined false b qs
          → (p : List ℕ) × (ps : List (List ℕ)) × (joined t b qs ≡ p ∷ ps) × (all f p ≡ false)
      first t p [] e = (b ∷ [], [], e, rw p)
      first t p (q ∷ qs) e = (b ∷ q, qs, e, rw p)

      more : (t : Bool) → f b ≡ t → run_more t (run f bs) < length (b ∷ bs) → (get_or (b ∷ bs) (run_more t (run f bs)) 0 ≡ sep → ⊥)
          → (run f bs < length bs → (get_or bs (run f bs) 0 ≡ sep → ⊥) → (p : List ℕ) × (ps : List (List ℕ)) × (parted sep ends bs ≡ p ∷ ps) × (all f p ≡ false))
          → (p : List ℕ) × (ps : List (List ℕ)) × (parted sep ends (b ∷ bs) ≡ p ∷ ps) × (all f p ≡ false)
      more true p h e go =
          let r = go (le_of_suc-le-suc h) e in
          (b ∷ r.0, r.1, rw (apart b p, r.2), rw r.3 (and-false (f b)))
      more false p h e go = first (eqb b sep) p (parted sep ends bs) (ap (λ (t : Bool). joined t b (parted sep ends bs)) (ne_eqb b sep e))
