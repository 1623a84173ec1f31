-- Texts put on the page one behind the other.
use Prim.Native.Nat.{ℕ, zero, suc, ◌+◌, ◌-◌, ◌≤◌, ◌<◌, min}
use mathlib.Core.Path.{◌≡◌, refl, sym, ap, ◌∙◌}
use mathlib.Core.List.{List, [], ◌∷◌, ◌++◌, map, append_assoc, append-nil}
use native.Mathlib.Omega.{arith}
use lib.ListN.{length, get_or, take, length-append}
use lib.Seq.{take_all}
use Rattle.std.specs.Prelude.{Result, Ok, Err, IsOk, OnOk, OnErr, ◌↔◌, Some}
use Rattle.std.specs.Io.KnownBytes.{WriteAppends}
use Rattle.std.proofs.lemmas.List.{take_min, map_more}
use Rattle.text.specs.Text.{LF, tab}
use Rattle.page.specs.declared.TheConstants.{PAGE}
use Rattle.page.specs.declared.fields.Field.{Field}
use Rattle.page.specs.Lines.{line}
use Rattle.page.specs.Page.{put_behind, field_shown}

-- ---- bytes behind bytes

take-both : (n : ℕ) (a b : List ℕ) → take n (a ++ b) ≡ take n a ++ take (n - length (take n a)) b
take-both zero a b = refl
take-both (suc n) [] b = let all : suc n - 0 ≡ suc n = omega arith in rw all
take-both (suc n) (x ∷ a) b =
    let left : suc n - suc (length (take n a)) ≡ n - length (take n a) = omega arith in
    rw left (ap (λ (l : List ℕ). x ∷ l) (take-both n a b))

-- what is put behind a text that was cut off is cut off as well
behind-twice : (page a b : List ℕ) → put_behind (put_behind page a) b ≡ put_behind page (a ++ b)
unfolding put_behind
behind-twice page a b =
    let first : List ℕ = take (PAGE - length page) a in
    let left : PAGE - length (page ++ first) ≡ PAGE - length page - length first = omega (arith, length-append page first) in
    append_assoc page first (take (PAGE - length (page ++ first)) b)
    ∙ ap (λ (l : List ℕ). page ++ l) (ap (λ (n : ℕ). first ++ take n b) left ∙ sym (take-both (PAGE - length page) a b))

pub behind_then : (page mid last a b c : List ℕ) → mid ≡ put_behind page a → last ≡ put_behind mid b → a ++ b ≡ c → last ≡ put_behind page c
behind_then page mid last a b c e f g = f ∙ ap (λ (l : List ℕ). put_behind l b) e ∙ behind-twice page a b ∙ ap (put_behind page) g

pub behind-nothing : (page : List ℕ) → page ≡ put_behind page []
unfolding put_behind
behind-nothing page = rw (take_all {A = ℕ} (PAGE - length page) [] (omega arith)) (sym (append-nil page))

-- what has room is put whole
pub all-put : (text : List ℕ) → length text ≤ PAGE → put_behind [] text ≡ text
unfolding put_behind
all-put text h = take_all PAGE text h

pub written : {E : Type 0} (page bytes last : List ℕ) (r : Result ℕ E) → r ≡ Ok (min (PAGE - length page) (length bytes)) → WriteAppends (Some page) (Some last) r bytes → last ≡ put_behind page bytes
unfolding put_behind
written page bytes last r e f = rw e at f ∙ ap (λ (l : List ℕ). page ++ l) (take_min (PAGE - length page) bytes)

pub pushed : {A E : Type 0} (page last : List ℕ) (byte : ℕ) (r : Result A E) → (IsOk r ↔ (length page < PAGE)) → OnOk r (last ≡ page ++ byte ∷ []) → OnErr r (last ≡ page) → OnErr r (length page ≡ PAGE)
    → last ≡ put_behind page (byte ∷ [])
unfolding put_behind
pushed page last byte (Ok x) has ok err full =
    let room : length page < PAGE = has.0 refl in
    ok ∙ ap (λ (l : List ℕ). page ++ l) (sym (take_all (PAGE - length page) (byte ∷ []) (omega arith)))
pushed page last byte (Err x) has ok err full =
    let none : PAGE - length page ≡ 0 = omega (arith, full) in
    err ∙ rw none (sym (append-nil page))

-- ---- a line, field by field

-- fields, each with a tab in front
abbrev pub tabbed : List (List ℕ) → List ℕ
tabbed [] = []
tabbed (f ∷ fs) = tab ∷ f ++ tabbed fs

pub line-is : (word : List ℕ) (fs : List (List ℕ)) → word ++ tabbed fs ++ LF ∷ [] ≡ line (word ∷ fs)
unfolding line
line-is word [] = ap (λ (l : List ℕ). l ++ LF ∷ []) (append-nil word)
line-is word (f ∷ fs) = append_assoc word (tab ∷ f ++ tabbed fs) (LF ∷ []) ∙ ap (λ (l : List ℕ). word ++ tab ∷ l) (line-is f fs)

tabbed-last : (fs : List (List ℕ)) (f : List ℕ) → tabbed fs ++ tab ∷ f ≡ tabbed (fs ++ f ∷ [])
tabbed-last [] f = ap (λ (l : List ℕ). tab ∷ l) (sym (append-nil f))
tabbed-last (g ∷ fs) f = ap (λ (l : List ℕ). tab ∷ l) (append_assoc g (tabbed fs) (tab ∷ f) ∙ ap (λ (l : List ℕ). g ++ l) (tabbed-last fs f))

-- the word and the first i fields
abbrev pub begun : List ℕ → List Field → ℕ → List ℕ
begun word fields i = word ++ tabbed (map field_shown (take i fields))

pub none_begun : (start page word : List ℕ) (fields : List Field) → page ≡ put_behind start word → page ≡ put_behind start (begun word fields 0)
none_begun start page word fields e = e ∙ ap (put_behind start) (sym (append-nil word))

pub one_field : (start page mid last word : List ℕ) (fields : List Field) (i : ℕ) (d : Field) → i < length fields → page ≡ put_behind start (begun word fields i)
    → mid ≡ put_behind page (tab ∷ []) → last ≡ put_behind mid (field_shown (get_or fields i d)) → last ≡ put_behind start (begun word fields (i + 1))
one_field start page mid last word fields i d h e f g =
    let shown : List ℕ = field_shown (get_or fields i d) in
    let so_far : List (List ℕ) = map field_shown (take i fields) in
    behind_then start page last (begun word fields i) (tab ∷ shown) (begun word fields (i + 1)) e (behind_then page mid last (tab ∷ []) shown (tab ∷ shown) f g refl)
    (append_assoc word (tabbed so_far) (tab ∷ shown)
    ∙ ap (λ (l : List ℕ). word ++ l) (tabbed-last so_far shown ∙ ap tabbed (sym (map_more field_shown fields i d h))))

pub line_put : (start page last word : List ℕ) (fields : List Field) (i : ℕ) → length fields ≤ i → page ≡ put_behind start (begun word fields i) → last ≡ put_behind page (LF ∷ [])
    → last ≡ put_behind start (line (word ∷ map field_shown fields))
line_put start page last word fields i h e f =
    behind_then start page last (begun word fields i) (LF ∷ []) (line (word ∷ map field_shown fields)) e f
    (ap (λ (fs : List Field). word ++ tabbed (map field_shown fs) ++ LF ∷ []) (take_all i fields h) ∙ line-is word (map field_shown fields))
