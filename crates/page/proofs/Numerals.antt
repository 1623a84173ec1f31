-- Numbers as digits: the library's texts are the ones defined.
use Prim.Native.Nat.{ℕ, zero, suc, ◌+◌, ◌-◌, ◌*◌, ◌/◌, ◌%◌, ◌^◌, ◌≤◌, ◌<◌}
use mathlib.Core.Path.{◌≡◌, refl, sym, ap, ◌∙◌}
use mathlib.Core.Bool.{true, false}
use mathlib.Core.List.{List, [], ◌∷◌, ◌++◌, append_assoc}
use native.Mathlib.Nat.{pow-succ', div-div-eq-div-mul}
use native.Mathlib.Omega.{arith}
use borrow.Author.Tests.{lt-ltb, le-ltb, eqb-true}
use lib.Dec.{eqb}
use lib.ListN.{length, get_or, take, drop, length-append, drop_of_length-le}
use lib.Seq.{drop-append-le}
use Rattle.std.specs.Prelude.{Result, Ok, Err, IsOk, OnOk, ◌↔◌}
use Rattle.std.specs.Int.{w64, byte_at, bytes_high_first, to_be_bytes}
use Rattle.std.specs.Fmt.{decimal as printed}
use Rattle.std.proofs.lemmas.List.{take_rest}
use Rattle.std.proofs.lemmas.Bool.{agree_below_at}
use Rattle.std.proofs.lemmas.Fmt.{AppendsLastDigit, decimal_digit, decimal_from_appends, length-decimal-le}
use Rattle.hex.specs.Hex.{lower_digits, encode_with, encode_lower}
use Rattle.page.specs.Digits.{digit, digits, width_in, width, decimal, hex}

pub digits-length : (base w x : ℕ) → length (digits base w x) ≡ w
unfolding digits
digits-length base zero x = refl
digits-length base (suc w) x =
    let e : length (digits base w (x / base) ++ (digit (x % base) ∷ [])) ≡ length (digits base w (x / base)) + 1 = length-append (digits base w (x / base)) (digit (x % base) ∷ []) in
    let ih : length (digits base w (x / base)) ≡ w = digits-length base w (x / base) in
    omega arith

-- the last w of more digits
digits-last : (base d w x : ℕ) → drop d (digits base (d + w) x) ≡ digits base w x
unfolding digits
digits-last base d zero x = drop_of_length-le (digits base (d + 0) x) {i = d} (let e = digits-length base (d + 0) x in omega arith)
digits-last base d (suc w) x =
    let more : d + suc w ≡ suc (d + w) = omega arith in
    let front : List ℕ = digits base (d + w) (x / base) in
    let room : d ≤ length front = let e = digits-length base (d + w) (x / base) in omega arith in
    rw more (drop-append-le d front (digit (x % base) ∷ []) room ∙ ap (λ (l : List ℕ). l ++ (digit (x % base) ∷ [])) (digits-last base d w (x / base)))

-- ---- decimal

width_small : (most n : ℕ) → n < 10 → width_in (suc most) n ≡ 1
unfolding width_in
width_small most n h = rw (lt-ltb n 10 h, width_in)

width-large : (most n : ℕ) → 10 ≤ n → width_in (suc most) n ≡ suc (width_in most (n / 10))
unfolding width_in
width-large most n h = rw (le-ltb n 10 h, width_in)

appends : AppendsLastDigit (λ (k n : ℕ). digits 10 (width_in k n) n)
unfolding digits
appends =
    record {
      one = λ k n h. let small : n % 10 ≡ n = omega arith in rw (width_small k n h, small, lt-ltb n 10 h);
      more = λ k n h. let low : n % 10 < 10 = omega arith in rw (width-large k n h, lt-ltb (n % 10) 10 low);
    }

below-power : (n : ℕ) → n < 10 ^ n
below-power zero = omega arith
below-power (suc n) = let ih = below-power n in rw (pow-succ' 10 n) (omega arith)

pub decimal_is : (x : ℕ) → x < 2 ^ 64 → printed x ≡ decimal x
unfolding digits width_in width
decimal_is zero h = decimal_digit 0 (omega arith)
decimal_is (suc x) h =
    let few : length (printed (suc x)) ≤ suc x = length-decimal-le (suc x) (suc x) (omega arith) (below-power (suc x)) h in
    sym (decimal_from_appends (λ (k n : ℕ). digits 10 (width_in k n) n) appends (suc x) (suc x) h few)

pub decimal-five : (x : ℕ) → x < 100000 → length (decimal x) ≤ 5
decimal-five x h = rw (← decimal_is x (omega arith)) (length-decimal-le 5 x (omega arith) h (omega arith))

-- ---- hex

-- the library's table has the digits
glyph : (d : ℕ) → d < 16 → get_or lower_digits d 0 ≡ digit d
glyph d h = eqb-true _ _ (agree_below_at (λ (b : ℕ). eqb (get_or lower_digits b 0) (digit b)) (λ (b : ℕ). true) 16 d refl h)

byte-behind : (k n : ℕ) → byte_at (suc k) n ≡ byte_at k (n / 256)
byte-behind zero n = refl
byte-behind (suc k) n = ap (λ (m : ℕ). m % 256) (ap (λ (m : ℕ). n / m) (pow-succ' 256 (suc k)) ∙ sym (div-div-eq-div-mul n 256 (256 ^ suc k)))

bytes-last : (k n : ℕ) → bytes_high_first (suc k) n ≡ bytes_high_first k (n / 256) ++ (n % 256 ∷ [])
bytes-last zero n = refl
bytes-last (suc k) n =
    ap (λ (b : ℕ). b ∷ bytes_high_first (suc k) n) (byte-behind k n) ∙ ap (λ (l : List ℕ). byte_at k (n / 256) ∷ l) (bytes-last k n)

encode-append : (t a b : List ℕ) → encode_with t (a ++ b) ≡ encode_with t a ++ encode_with t b
unfolding encode_with
encode-append t [] b = refl
encode-append t (x ∷ a) b = ap (λ (l : List ℕ). get_or t (x / 16) 0 ∷ get_or t (x % 16) 0 ∷ l) (encode-append t a b)

-- two digits for each byte
hex-bytes : (k n : ℕ) → encode_lower (bytes_high_first k n) ≡ digits 16 (2 * k) n
unfolding encode_with digits
hex-bytes zero n = refl
hex-bytes (suc k) n =
    let two : 2 * suc k ≡ suc (suc (2 * k)) = omega arith in
    let front : n / 256 ≡ n / 16 / 16 = omega arith in
    let high : n % 256 / 16 ≡ n / 16 % 16 = omega arith in
    let low : n % 256 % 16 ≡ n % 16 = omega arith in
    let first : get_or lower_digits (n % 256 / 16) 0 ≡ digit (n / 16 % 16) = rw high (glyph (n / 16 % 16) (omega arith)) in
    let last : get_or lower_digits (n % 256 % 16) 0 ≡ digit (n % 16) = rw low (glyph (n % 16) (omega arith)) in
    ap encode_lower (bytes-last k n) ∙ encode-append lower_digits (bytes_high_first k (n / 256)) (n % 256 ∷ [])
    ∙ rw (two, first, last, hex-bytes k (n / 256), front) (sym (append_assoc (digits 16 (2 * k) (n / 16 / 16)) (digit (n / 16 % 16) ∷ []) (digit (n % 16) ∷ [])))

hex-is : (w n : ℕ) → w ≤ 16 → drop (16 - w) (encode_lower (to_be_bytes w64 n)) ≡ hex w n
hex-is w n h =
    let all : 16 - w + w ≡ 16 = omega arith in
    ap (drop (16 - w)) (hex-bytes 8 n ∙ ap (λ (m : ℕ). digits 16 m n) (sym all)) ∙ digits-last 16 (16 - w) w n

-- what the library writes of a number's bytes, which it does, since there is room
pub hex_given : {A E : Type 0} (r : Result A E) (bytes out : List ℕ) (w n : ℕ) → w ≤ 16 → bytes ≡ to_be_bytes w64 n → (IsOk r ↔ (16 ≡ 2 * length bytes)) → OnOk r (out ≡ encode_lower bytes)
    → take (16 - (16 - w)) (drop (16 - w) out) ≡ hex w n
unfolding encode_with
hex_given (Ok x) bytes out w n h e f g = rw (g, e) (take_rest (encode_lower (to_be_bytes w64 n)) (16 - w) ∙ hex-is w n h)
hex_given (Err x) bytes out w n h e f g = absurd (let no : false ≡ true = f.1 (rw e) in cc no)
