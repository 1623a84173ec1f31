-- Demand 2: two plans that differ only in how many spaces stand behind codes give the same stations, stocks and turns, and are refused
-- alike. The theorem is `same-reading`.
use Prim.Native.Nat.{ℕ, zero, suc, ◌-◌, ◌≤◌}
use mathlib.Core.Path.{◌≡◌, refl, sym, ap, ◌∙◌}
use mathlib.Core.Bool.{Bool, true, false, cond, ◌&&◌, and-true, and_assoc}
use mathlib.Core.List.{List, [], ◌∷◌, ◌++◌, append_assoc, append-nil}
use lib.ListN.{length, get_or, set}
use lib.Dec.{eqb}
use Rattle.text.specs.Limits.{most_bytes}
use Rattle.text.specs.Text.{tab, space, onto, joined, parted, lines_of, fields_of, all, fine, same}
use Rattle.text.specs.Code.{code_of}
use Rattle.text.specs.Plan.{Out, taken, no, then, each, station, code_in, code, Holding, holding, add_stock, take_code, Stocked, stocked, has_line, Held, word_of, held, later_fields, later_line, gang_in, gang_of, first_line, Reading, at_line, later_lines, all_lines, reading, HAS}
use Rattle.text.specs.Alike.{spaces, Each, none, more, Respaced, Alike, same_line, has_lines}
use Rattle.text.specs.declared.Fault.TheVariants.{StrayByte}
use Rattle.text.proofs.Codes.{code-space}
use Rattle.text.proofs.Lengths.{not-too-long}

-- ---- a code field

spaces-snoc : (n : ℕ) → spaces (suc n) ≡ spaces n ++ (space ∷ [])
spaces-snoc zero = refl
spaces-snoc (suc n) = ap (λ (l : List ℕ). space ∷ l) (spaces-snoc n)

-- spaces at the end leave the code as it is
code-spaces : (c : List ℕ) (n : ℕ) → code_of (c ++ spaces n) ≡ code_of c
code-spaces c zero = ap code_of (append-nil c)
code-spaces c (suc n) =
    ap (λ (l : List ℕ). code_of (c ++ l)) (spaces-snoc n)
    ∙ ap code_of (sym (append_assoc c (spaces n) (space ∷ [])))
    ∙ code-space (c ++ spaces n) space refl
    ∙ code-spaces c n

fine-spaces : (c : List ℕ) (n : ℕ) → all fine (c ++ spaces n) ≡ all fine c
unfolding all
fine-spaces [] zero = refl
fine-spaces [] (suc n) = fine-spaces [] n
fine-spaces (b ∷ c) n = ap (λ (t : Bool). fine b && t) (fine-spaces c n)

module _ {f g : List ℕ} (r : Respaced f g) where
  same_code : code_of f ≡ code_of g
  same_code = ap code_of r.f_is ∙ code-spaces r.code r.left ∙ sym (ap code_of r.g_is ∙ code-spaces r.code r.right)

  same-fine : all fine f ≡ all fine g
  same-fine = ap (all fine) r.f_is ∙ fine-spaces r.code r.left ∙ sym (ap (all fine) r.g_is ∙ fine-spaces r.code r.right)

  same-field : code f ≡ code g
  unfolding code
  same-field = ap code_in same_code

then_same : {A B : Type 0} (o : Out A) (f g : A → Out B) → ((a : A) → f a ≡ g a) → then o f ≡ then o g
then_same (taken a) f g h = h a
then_same (no fault) f g h = refl

same-take : (s : Holding) {f g : List ℕ} → Respaced f g → take_code s f ≡ take_code s g
unfolding take_code
same-take s r = ap (λ (o : Out (List ℕ)). then o (λ c. add_stock s c)) (same-field r)

same_codes : {cs ds : List (List ℕ)} (s : Holding) → Each Respaced cs ds → each take_code s cs ≡ each take_code s ds
unfolding each
same_codes s none = refl
same_codes s (more {b = b} {as' = cs} {bs = ds} r rs) =
    ap (λ (o : Out Holding). then o (λ t. each take_code t cs)) (same-take s r)
    ∙ then_same (take_code s b) (λ t. each take_code t cs) (λ t. each take_code t ds) (λ t. same_codes t rs)

-- ---- a line

-- whether every field is fine: a line is where its fields are, since a tab is
all_in : List (List ℕ) → Bool
all_in [] = true
all_in (f ∷ fs) = all fine f && all_in fs

onto-fine : (b : ℕ) (fs : List (List ℕ)) → all_in (onto b fs) ≡ (fine b && all_in fs)
unfolding all_in all
onto-fine b [] = and-true (fine b && true)
onto-fine b (f ∷ fs) = and_assoc (fine b) (all fine f) (all_in fs)

fields-fine : (l : List ℕ) → all fine l ≡ all_in (fields_of l)
unfolding all_in all parted
fields-fine [] = refl
fields-fine (b ∷ l) = ap (λ (t : Bool). fine b && t) (fields-fine l) ∙ by_cases (eqb b tab) refl
  where
    by_cases : (t : Bool) → eqb b tab ≡ t → (fine b && all_in (fields_of l)) ≡ all_in (joined t b (fields_of l))
    by_cases true e = let f : fine b ≡ true = rw e in ap (λ (u : Bool). u && all_in (fields_of l)) f
    by_cases false e = sym (onto-fine b (fields_of l))

each-fine : {cs ds : List (List ℕ)} → Each Respaced cs ds → all_in cs ≡ all_in ds
unfolding all_in
each-fine none = refl
each-fine (more r rs) = rw (same-fine r, each-fine rs)

same-has : (n : ℕ) (s : Stocked) (i : List ℕ) {cs ds : List (List ℕ)} → Each Respaced cs ds → has_line n s (i ∷ cs) ≡ has_line n s (i ∷ ds)
unfolding has_line
same-has n s i none = refl
same-has n s i (more {a} {b} {as'} {bs} r rs) =
    then_same (station n i) _ _ (λ k. ap (λ (o : Out Holding). then o (λ h. taken (stocked h.codes (set s.sets (k - 1) h.set)))) (same_codes (holding s.codes (get_or s.sets (k - 1) 0)) (more r rs)))

no-gang : (i : List ℕ) (cs : List (List ℕ)) → gang_of (HAS ∷ i ∷ cs) ≡ 0
unfolding gang_of same
no-gang i [] = refl
no-gang i (c ∷ cs) = refl

module _ (l m : List ℕ) (i : List ℕ) (cs ds : List (List ℕ)) (l-is : fields_of l ≡ HAS ∷ i ∷ cs) (m-is : fields_of m ≡ HAS ∷ i ∷ ds) (rs : Each Respaced cs ds) where
  line-fine : all fine l ≡ all fine m
  unfolding all_in
  line-fine =
      fields-fine l
      ∙ ap all_in l-is
      ∙ ap (λ (t : Bool). all fine HAS && (all fine i && t)) (each-fine rs)
      ∙ sym (fields-fine m ∙ ap all_in m-is)

  has-later : (h : Held) → later_line h l ≡ later_line h m
  unfolding later_line word_of same
  has-later h =
      ap (λ (t : Bool). cond t (later_fields h (fields_of l)) (no StrayByte)) line-fine
      ∙ ap (λ (fs : List (List ℕ)). cond (all fine m) (later_fields h fs) (no StrayByte)) l-is
      ∙ ap (λ (o : Out Stocked). cond (all fine m) (then o (λ s. taken (held h.stations s h.turns))) (no StrayByte)) (same-has h.stations h.stocks i rs)
      ∙ sym (ap (λ (fs : List (List ℕ)). cond (all fine m) (later_fields h fs) (no StrayByte)) m-is)

  has_first : first_line l ≡ first_line m
  unfolding first_line
  has_first =
      ap (λ (t : Bool). cond t (gang_in (gang_of (fields_of l))) (no StrayByte)) line-fine
      ∙ ap (λ (n : ℕ). cond (all fine m) (gang_in n) (no StrayByte)) (ap gang_of l-is ∙ no-gang i cs ∙ sym (ap gang_of m-is ∙ no-gang i ds))

same-later : (h : Held) {l m : List ℕ} → Alike l m → later_line h l ≡ later_line h m
same-later h (same_line e) = ap (later_line h) e
same-later h {l} {m} (has_lines i cs ds l-is m-is rs) = has-later l m i cs ds l-is m-is rs h

same_first : {l m : List ℕ} → Alike l m → first_line l ≡ first_line m
same_first (same_line e) = ap first_line e
same_first {l} {m} (has_lines i cs ds l-is m-is rs) = has_first l m i cs ds l-is m-is rs

-- ---- the plan

at_same : (k : ℕ) (o : Out Held) (f g : Held → Reading) → ((h : Held) → f h ≡ g h) → at_line k o f ≡ at_line k o g
at_same k (taken h) f g e = e h
at_same k (no fault) f g e = refl

same_lines : (k : ℕ) (h : Held) {ls ms : List (List ℕ)} → Each Alike ls ms → later_lines k h ls ≡ later_lines k h ms
unfolding later_lines
same_lines k h none = refl
same_lines k h (more {b = m} {as' = ls} {bs = ms} r rs) =
    ap (λ (o : Out Held). at_line k o (λ h'. later_lines (suc k) h' ls)) (same-later h r)
    ∙ at_same k (later_line h m) (λ h'. later_lines (suc k) h' ls) (λ h'. later_lines (suc k) h' ms) (λ h'. same_lines (suc k) h' rs)

same-all : {ls ms : List (List ℕ)} → Each Alike ls ms → all_lines ls ≡ all_lines ms
same-all none = refl
same-all (more {b = m} {as' = ls} {bs = ms} r rs) =
    ap (λ (o : Out Held). at_line 1 o (λ h. later_lines 2 h ls)) (same_first r)
    ∙ at_same 1 (first_line m) (λ h. later_lines 2 h ls) (λ h. later_lines 2 h ms) (λ h. same_lines 2 h rs)

-- Two texts of at most 32,768 bytes that differ only in how many spaces stand behind codes are read alike.
pub same-reading : (t u : List ℕ) → length t ≤ most_bytes → length u ≤ most_bytes → Each Alike (lines_of t) (lines_of u) → reading t ≡ reading u
same-reading t u ht hu rs = sym (not-too-long t ht) ∙ same-all rs ∙ not-too-long u hu
