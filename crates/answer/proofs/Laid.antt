-- The answer bytes laid into a buffer, row after row.
use Prim.Native.Nat.{ℕ, zero, suc, ◌+◌, ◌-◌, ◌*◌, ◌/◌, ◌%◌, ◌^◌, ◌≤◌, ◌<◌}
use mathlib.Core.Path.{◌≡◌, refl, sym, ap, ◌∙◌}
use mathlib.Core.List.{List, [], ◌∷◌, ◌++◌, append_assoc, append-nil}
use native.Mathlib.Nat.{div-div-eq-div-mul, mul_comm, pow-succ'}
use native.Mathlib.Decide.{dec_le}
use native.Mathlib.Omega.{arith}
use borrow.Author.Tests.{le-leb, lt-leb}
use borrow.Rule.Slice.PartMut.{put_mid}
use mathlib.Core.Bool.{Bool, true, false, cond, and-false}
use lib.Dec.{leb}
use lib.ListN.{length, get_or, take, drop, set, length-append, length-drop, drop_of_length-le}
use lib.Seq.{take_at, drop_at, drop-drop}
use Rattle.std.proofs.Common.{length-take-le}
use Rattle.std.specs.Int.{w16, w64, bytes_low_first, to_le_bytes}
use Rattle.method.specs.declared.Row.{Row}
use Rattle.answer.specs.Bytes.{bytes_of}
use Rattle.answer.specs.declared.shown.Shown.{Shown}
use Rattle.answer.specs.Answer.{shown_of, state_number, stations_shown, stocks_shown, row_bytes, answer_bytes, answer_in}

-- ---- a number's bytes, as the library has them

bytes-behind : (i k n : ℕ) → bytes_low_first (suc i) k n ≡ bytes_of k (n / 256 ^ suc i)
unfolding bytes_of
bytes-behind i zero n = refl
bytes-behind i (suc k) n =
    let next : n / 256 ^ suc (suc i) ≡ n / 256 ^ suc i / 256 =
    ap (λ (m : ℕ). n / m) (pow-succ' 256 (suc i) ∙ mul_comm 256 (256 ^ suc i)) ∙ sym (div-div-eq-div-mul n (256 ^ suc i) 256) in
    ap (λ (l : List ℕ). n / 256 ^ suc i % 256 ∷ l) (bytes-behind (suc i) k n ∙ ap (bytes_of k) next)

bytes-are : (k n : ℕ) → bytes_low_first 0 (suc k) n ≡ bytes_of (suc k) n
unfolding bytes_of
bytes-are k n = ap (λ (l : List ℕ). n % 256 ∷ l) (bytes-behind 0 k n)

pub two_bytes : (n : ℕ) → to_le_bytes w16 n ≡ bytes_of 2 n
two_bytes n = bytes-are 1 n

pub eight_bytes : (n : ℕ) → to_le_bytes w64 n ≡ bytes_of 8 n
eight_bytes n = bytes-are 7 n

-- ---- a row

pub row-length : (r : Row) → length (row_bytes r) ≡ 20
unfolding row_bytes bytes_of
row-length r = refl

-- the parts of a row, each in its place
parts-laid : (l : List ℕ) (s n S G : ℕ) → length l ≡ 20
    → put_mid 12 8 (put_mid 4 8 (put_mid 2 2 (set (set l 0 s) 1 0) (bytes_of 2 n)) (bytes_of 8 S)) (bytes_of 8 G) ≡ s ∷ 0 ∷ bytes_of 2 n ++ bytes_of 8 S ++ bytes_of 8 G
unfolding bytes_of
parts-laid [] s n S G h = absurd (omega arith)
parts-laid (x ∷ []) s n S G h = absurd (omega arith)
parts-laid (x ∷ y ∷ l) s n S G h = rw (drop_of_length-le (drop 8 (drop 2 l)) {i = 8} (simp length-drop (omega arith)))

pub row_laid : (l a b c a' b' c' : List ℕ) (r : Row) (told : Shown) (number stations stocks : ℕ) → length l ≡ 20 → told ≡ shown_of r.state
    → number ≡ state_number told → a' ≡ to_le_bytes w16 r.count → a ≡ a' → stations ≡ stations_shown told → b' ≡ to_le_bytes w64 stations → b ≡ b'
    → stocks ≡ stocks_shown told → c' ≡ to_le_bytes w64 stocks → c ≡ c'
    → put_mid 12 8 (put_mid 4 8 (put_mid 2 2 (set (set l 0 number) 1 0) a) b) c ≡ row_bytes r
unfolding row_bytes
row_laid l a b c a' b' c' r told number stations stocks h e f g g' i j j' k m m' =
    let count : a ≡ bytes_of 2 r.count = g' ∙ g ∙ two_bytes r.count in
    let first : b ≡ bytes_of 8 stations = j' ∙ j ∙ eight_bytes stations in
    let second : c ≡ bytes_of 8 stocks = m' ∙ m ∙ eight_bytes stocks in
    rw (count, first, second, f, i, k, e) (parts-laid l _ _ _ _ h)

-- ---- row after row

pub answer-more : (i : ℕ) (rows : List Row) (d : Row) → i < length rows → answer_bytes (i + 1) rows ≡ answer_bytes i rows ++ row_bytes (get_or rows i d)
unfolding answer_bytes
answer-more i [] d h = absurd (omega arith)
answer-more zero (r ∷ rows) d h = append-nil (row_bytes r)
answer-more (suc i) (r ∷ rows) d h =
    let e : suc i + 1 ≡ suc (i + 1) = omega arith in
    rw e (ap (λ (l : List ℕ). row_bytes r ++ l) (answer-more i rows d (omega arith)) ∙ sym (append_assoc (row_bytes r) (answer_bytes i rows) (row_bytes (get_or rows i d))))

pub answer-length : (i : ℕ) (rows : List Row) → i ≤ length rows → length (answer_bytes i rows) ≡ 20 * i
unfolding answer_bytes
answer-length zero rows h = refl
answer-length (suc i) [] h = absurd (omega arith)
answer-length (suc i) (r ∷ rows) h =
    let ih : length (answer_bytes i rows) ≡ 20 * i = answer-length i rows (omega arith) in
    length-append (row_bytes r) (answer_bytes i rows) ∙ rw (row-length r, ih) (omega arith)

pub none_laid : (rows : List Row) (start : List ℕ) → start ≡ answer_bytes 0 rows ++ start
unfolding answer_bytes
none_laid rows start = refl

-- rows behind the first n do not count
pub answer-take : (n : ℕ) (rows : List Row) → answer_bytes n (take n rows) ≡ answer_bytes n rows
unfolding answer_bytes
answer-take zero rows = refl
answer-take (suc n) [] = refl
answer-take (suc n) (r ∷ rows) = ap (λ (l : List ℕ). row_bytes r ++ l) (answer-take n rows)

-- one row more
pub laid_more : (i : ℕ) (rows : List Row) (d : Row) (start now part : List ℕ) → i < length rows → 20 * length rows ≤ length start
    → now ≡ answer_bytes i rows ++ drop (20 * i) start → part ≡ row_bytes (get_or rows i d)
    → put_mid (20 * i) (20 * i + 20 - 20 * i) now part ≡ answer_bytes (i + 1) rows ++ drop (20 * (i + 1)) start
laid_more i rows d start now part h room e f =
    let long : length (answer_bytes i rows) ≡ 20 * i = answer-length i rows (omega arith) in
    let twenty : 20 * i + 20 - 20 * i ≡ 20 = omega arith in
    let next : 20 * i + 20 ≡ 20 * (i + 1) = omega arith in
    rw (
      e,
      f,
      take_at (answer_bytes i rows) (drop (20 * i) start) (20 * i) long,
      drop_at (answer_bytes i rows) (drop (20 * i) start) (20 * i) long,
      twenty,
      drop-drop 20 (20 * i) start,
      next,
      answer-more i rows d h,
    ) (sym (append_assoc (answer_bytes i rows) (row_bytes (get_or rows i d)) (drop (20 * (i + 1)) start)))

-- ---- the answer, with room for the rows and without

pub answer-with-room : (n : ℕ) (rows : List Row) (was : List ℕ) → n ≤ 16 → 20 * n ≤ length was → answer_in n rows was ≡ answer_bytes n rows ++ drop (20 * n) was
unfolding answer_in
answer-with-room n rows was h room = rw (le-leb n 16 h, le-leb (20 * n) (length was) room)

pub answer-told : (n : ℕ) (rows : List Row) (was last : List ℕ) → n ≤ 16 → 20 * n ≤ length was → last ≡ answer_bytes n rows ++ drop (20 * n) was → last ≡ answer_in n rows was
answer-told n rows was last h room e = e ∙ sym (answer-with-room n rows was h room)

pub answer-short : (n : ℕ) (rows : List Row) (was : List ℕ) → length was < 20 * n → was ≡ answer_in n rows was
unfolding answer_in
answer-short n rows was room = rw (lt-leb (20 * n) (length was) room, and-false (leb n 16))

pub answer-none : (n : ℕ) (rows : List Row) (was : List ℕ) → 16 < n → was ≡ answer_in n rows was
unfolding answer_in
answer-none n rows was h = rw (lt-leb n 16 h)

-- ---- the first n of the rows at hand, where there are so many

pub put-told : (n : ℕ) (rows : List Row) (was last : List ℕ) → n ≤ 16 → n ≤ length rows → 20 * n ≤ length was
    → last ≡ answer_bytes (length (take n rows)) (take n rows) ++ drop (20 * length (take n rows)) was → last ≡ cond (leb n (length rows)) (answer_in n rows was) was
put-told n rows was last h there room e =
    let first : last ≡ answer_bytes n rows ++ drop (20 * n) was = e ∙ rw (length-take-le n rows there, answer-take n rows) in
    rw (le-leb n (length rows) there) (answer-told n rows was last h room first)

either : (b : Bool) (there was : List ℕ) → was ≡ there → was ≡ cond b there was
either true there was e = e
either false there was e = refl

pub put-short : (n : ℕ) (rows : List Row) (was : List ℕ) → length was < 20 * n → was ≡ cond (leb n (length rows)) (answer_in n rows was) was
put-short n rows was room = either _ _ _ (answer-short n rows was room)

pub put-none : (n : ℕ) (rows : List Row) (was : List ℕ) → 16 < n → was ≡ cond (leb n (length rows)) (answer_in n rows was) was
put-none n rows was h = either _ _ _ (answer-none n rows was h)

pub put-few : (n : ℕ) (rows : List Row) (was : List ℕ) → length rows < n → was ≡ cond (leb n (length rows)) (answer_in n rows was) was
put-few n rows was h = rw (lt-leb n (length rows) h)

-- of all sixteen rows it is what the definition says, whatever n is
pub sixteen_put : (n : ℕ) (rows : List Row) (was last : List ℕ) → length rows ≡ 16 → last ≡ cond (leb n (length rows)) (answer_in n rows was) was → last ≡ answer_in n rows was
sixteen_put n rows was last sixteen e = go (dec_le n 16)
  where
    go : Dec (n ≤ 16) → last ≡ answer_in n rows was
    go (yes h) = e ∙ rw (sixteen, le-leb n 16 h)
    go (no h) = let more : 16 < n = omega arith in e ∙ rw (sixteen, lt-leb n 16 more) (answer-none n rows was more)

pub ruleset outcomes = (put-told, put-short, put-none, put-few)
