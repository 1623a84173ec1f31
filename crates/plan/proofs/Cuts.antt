-- A text is cut behind its first line, and a line behind its first field.
use Prim.Native.Nat.{ℕ, suc, ◌+◌, ◌-◌, ◌≤◌, ◌<◌}
use mathlib.Core.Path.{◌≡◌, refl, sym, ap, ◌∙◌}
use mathlib.Core.Bool.{true}
use mathlib.Core.List.{List, [], ◌∷◌}
use mathlib.Core.Logic.{◌⊎◌}
use native.Mathlib.Omega.{arith}
use lib.ListN.{length, get_or, take, drop, drop_of_length-le, length-drop}
use lib.Seq.{take_all, drop-cons}
use lib.Dec.{eqb}
use borrow.Author.Tests.{eqb-true, not-false}
use Rattle.std.specs.Borrow.{Bor}
use Rattle.std.specs.List.{slice_range}
use Rattle.std.specs.Option.{MatchOption}
use Rattle.std.specs.Prelude.{Option, Some, None}
use Rattle.text.specs.Text.{LF, tab, parted, lines_of, fields_of, all, fine, run}
use Rattle.text.specs.declared.Fault.TheVariants.{StrayByte}
use Rattle.text.proofs.Pieces.{run-most, run-passes, run-fails, cut, whole, strays}
use Rattle.fields.specs.Window.{no_tab, end_of}
use Rattle.plan.specs.Left.{Cut, Strayed, fields_in}

-- the byte at e, and what is behind it
module _ (l : List ℕ) (e : ℕ) (b : ℕ) (rest : List ℕ) (behind : drop e l ≡ b ∷ rest) where
  more : e < length l
  more = omega (arith, length-drop e l, ap length behind)

  at_end : (get_or l e 0 ≡ b) × (drop (suc e) l ≡ rest)
  at_end = let h : get_or l e 0 ∷ drop (suc e) l ≡ b ∷ rest = sym (drop-cons l e 0 more) ∙ behind in (cc, cc)

no-more : (l : List ℕ) (e : ℕ) → length (drop e l) ≡ 0 → length l ≤ e
no-more l e h = omega (arith, length-drop e l)

-- ---- fields

pub field_most : (l : List ℕ) (e : ℕ) → e ≡ end_of no_tab l 0 → e ≤ length l
field_most l e h = omega (arith, run-most no_tab l)

last_field : (l : List ℕ) → run no_tab l ≡ length l → fields_of l ≡ l ∷ []
unfolding parted
last_field [] h = refl
last_field (b ∷ l) h = whole tab no_tab refl ([] ∷ []) b l (λ c. refl) h

module _ (l : List ℕ) (e : ℕ) (e_is : e ≡ end_of no_tab l 0) (field behind : List ℕ) (front : field ≡ take e l) (back : behind ≡ drop e l) where
  last_is : length behind ≡ 0 → fields_of l ≡ field ∷ []
  last_is h =
      let m : length l ≤ e = no-more l e (ap length (sym back) ∙ h) in
      last_field l (omega (arith, run-most no_tab l)) ∙ ap (λ (f : List ℕ). f ∷ []) (sym (front ∙ take_all e l m))

  more_are : (b : ℕ) (rest : List ℕ) → behind ≡ b ∷ rest → fields_of l ≡ field ∷ fields_of rest
  more_are b rest h =
      let r : run no_tab l ≡ e = omega arith in
      let a = at_end l e b rest (sym back ∙ h) in
      let m : run no_tab l < length l = omega (arith, more l e b rest (sym back ∙ h)) in
      let t : get_or l (run no_tab l) 0 ≡ tab = eqb-true _ tab (not-false (eqb (get_or l (run no_tab l) 0) tab) (run-fails no_tab l m)) in
      cut tab no_tab refl ([] ∷ []) l m t
      ∙ ap (λ (k : ℕ). take k l ∷ fields_of (drop (suc k) l)) r
      ∙ ap (λ (f : List ℕ). f ∷ fields_of (drop (suc e) l)) (sym front)
      ∙ ap (λ (m : List ℕ). field ∷ fields_of m) a.1

  pub field_cut : (r : Option (Bor (List ℕ)))
      → MatchOption r ((length behind < 1) ⊎ (length behind < length behind))
      (λ x. (1 ≤ length behind) × (length behind ≤ length behind) × (x.now ≡ slice_range behind 1 (length behind)) × (length x.now + 1 ≡ length behind))
      → fields_of l ≡ field ∷ fields_in r
  field_cut None h = last_is (omega arith)
  field_cut (Some x) h =
      more_are (get_or behind 0 0) (drop 1 behind) (drop-cons behind 0 0 h.0)
      ∙ ap (λ (m : List ℕ). field ∷ fields_of m) (sym (h.2 ∙ take_all (length behind - 1) (drop 1 behind) (omega (arith, length-drop 1 behind))))

-- ---- lines

one_line : (l : List ℕ) → 0 < length l → run fine l ≡ length l → lines_of l ≡ l ∷ []
unfolding parted
one_line [] n h = absurd (omega arith)
one_line (b ∷ l) n h = whole LF fine refl [] b l (λ c. refl) h

module _ (text : List ℕ) (e : ℕ) (e_is : e ≡ end_of fine text 0) where
  pub line_most : e ≤ length text
  line_most = omega (arith, run-most fine text)

  module _ (line behind : List ℕ) (front : line ≡ take e text) (back : behind ≡ drop e text) where
    all-fine : all fine line ≡ true
    all-fine = let r : run fine text ≡ e = omega arith in ap (λ (l : List ℕ). all fine l) front ∙ ap (λ (k : ℕ). all fine (take k text)) (sym r) ∙ run-passes fine text

    no_line : length text ≡ 0 → line ≡ []
    no_line h = let z : e ≡ 0 = omega (arith, line_most) in front ∙ ap (λ (k : ℕ). take k text) z

    pub last_line : length behind ≡ 0 → Cut text line behind
    unfolding parted
    last_line h =
        let m : length text ≤ e = no-more text e (ap length (sym back) ∙ h) in
        let none : lines_of behind ≡ [] = ap (λ (l : List ℕ). lines_of l) (back ∙ drop_of_length-le text m) in
        record {
          lines = λ n. one_line text n (omega (arith, run-most fine text)) ∙ ap (λ (l : List ℕ). l ∷ []) (sym (front ∙ take_all e text m)) ∙ ap (λ (ls : List (List ℕ)). line ∷ ls) (sym none);
          empty = no_line;
          shorter = λ n. omega arith;
          fine = all-fine;
        }

    pub line_cut : (b : ℕ) (rest : List ℕ) → behind ≡ b ∷ rest → b ≡ LF → Cut text line rest
    line_cut b rest h i =
        let a = at_end text e b rest (sym back ∙ h) in
        let m = more text e b rest (sym back ∙ h) in
        let r : run fine text ≡ e = omega arith in
        record {
          lines =
              λ n. cut LF fine refl [] text (omega arith) (ap (λ (k : ℕ). get_or text k 0) r ∙ a.0 ∙ i)
              ∙ ap (λ (k : ℕ). take k text ∷ lines_of (drop (suc k) text)) r
              ∙ ap (λ (l : List ℕ). l ∷ lines_of (drop (suc e) text)) (sym front)
              ∙ ap (λ (l : List ℕ). line ∷ lines_of l) a.1;
          empty = no_line;
          shorter = λ n. omega (arith, ap length h, ap length back, length-drop e text);
          fine = all-fine;
        }

    pub line_strays : (b : ℕ) (rest : List ℕ) → behind ≡ b ∷ rest → (b ≡ LF → ⊥) → Strayed text StrayByte
    line_strays b rest h i =
        let a = at_end text e b rest (sym back ∙ h) in
        let m = more text e b rest (sym back ∙ h) in
        let r : run fine text ≡ e = omega arith in
        let s = strays LF fine refl [] text (omega arith) (λ q. i (sym a.0 ∙ ap (λ (k : ℕ). get_or text k 0) (sym r) ∙ q)) in
        record { line = s.0; rest = s.1; lines = s.2; stray = s.3; told = refl }

pub ruleset cuts = (field_most, field_cut, line_most, last_line, line_cut, line_strays)
