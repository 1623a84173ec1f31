-- Totality, and what a plan that is taken holds. The theorems: `outcome`, every text gives a plan or one refusal of 11 to 19 at a place;
-- `sound`, the codes handed out are of 1 to 12 bytes, end in no space and no two are equal, and every turn is a station; `place-most`, how far
-- down a refusal can stand.
use Prim.Native.Nat.{ℕ, zero, suc, ◌+◌, ◌-◌, ◌^◌, ◌≤◌, ◌<◌, max, zero-le}
use mathlib.Core.Path.{◌≡◌, refl, sym, ap, ◌∙◌, subst}
use mathlib.Core.Bool.{Bool, true, false, cond, not, true≢false}
use mathlib.Core.List.{List, [], ◌∷◌, ◌++◌}
use mathlib.Core.Logic.{⊎_elim}
use native.Mathlib.Omega.{arith}
use native.Mathlib.Nat.{eq-or-lt_of_le, lt_of_lt_of_le, le_refl}
use lib.ListN.{length, get_or, set, replicate, length-append, length-set, length-replicate, get_or-append}
use lib.Seq.{get_or_at, get_or-set_same, get_or-set_other}
use lib.Dec.{leb, ltb, eqb}
use lib.Pow.{pow_mono, pow-lt}
use lib.Bits.{or_lt}
use borrow.Author.Tests.{ltb-true, ltb-false, leb-true, eqb-true, eqb-false}
use Rattle.method.specs.Demand.{Station}
use Rattle.text.specs.Limits.{most_bytes, most_stations, most_stocks, most_turns, most_code}
use Rattle.text.specs.Text.{LF, space, joined, parted, lines_of, fields_of, all, fine, run, run_more, same}
use Rattle.text.specs.Number.{number_to}
use Rattle.text.specs.Code.{before, code_of, stock_of}
use Rattle.text.specs.Refusal.{number_of}
use Rattle.text.specs.Plan.{Out, taken, no, then, each, station_in, station, take_turn, code_in, code, Holding, holding, with_stock, add_stock, take_code, Stocked, has_line, turn_line, Held, fresh, GANG, word_of, word_line, later_fields, later_line, gang_in, gang_of, first_line, Reading, plan, refused, at_line, later_lines, all_lines, sized, reading}
use Rattle.text.specs.Sound.{ends_in_space, GoodCode, GoodCodes, GoodStocks, GoodTurns, Sound, Outcome, planned, long, stopped}
use Rattle.text.specs.declared.Word.{Word}
use Rattle.text.specs.declared.Word.TheVariants.{Has, Turn, Other}
use Rattle.text.specs.declared.Fault.{Fault}
use Rattle.text.specs.declared.Fault.TheVariants.{LongText, BadFirstLine, StrayByte, OtherWord, FewFields, BadStation, BadCode, MoreStocks, MoreTurns}
use Rattle.text.proofs.Pieces.{run-most}
use Rattle.text.proofs.Numbers.{number-most}
use Rattle.text.proofs.Runs.{same_self}
use Rattle.text.proofs.Lengths.{zeros-at}

-- ---- what is taken has P; what is refused has a number of 12 to 19

abbrev InLine : Fault → Type 0
InLine fault = (12 ≤ number_of fault) × (number_of fault ≤ 19)

abbrev Holds : {A : Type 0} → (A → Type 0) → Out A → Type 0
Holds P (taken a) = P a
Holds P (no fault) = InLine fault

then-holds : {A B : Type 0} (P : A → Type 0) (Q : B → Type 0) (o : Out A) (f : A → Out B) → Holds P o → ((a : A) → P a → Holds Q (f a)) → Holds Q (then o f)
then-holds P Q (taken a) f h k = k a h
then-holds P Q (no fault) f h k = h

cond-holds : {A : Type 0} (P : A → Type 0) (t : Bool) (x y : Out A) → (t ≡ true → Holds P x) → (t ≡ false → Holds P y) → Holds P (cond t x y)
cond-holds P true x y h k = h refl
cond-holds P false x y h k = k refl

each_holds : {A : Type 0} (P : A → Type 0) (step : A → List ℕ → Out A) → ((a : A) (f : List ℕ) → P a → Holds P (step a f))
    → (fs : List (List ℕ)) (a : A) → P a → Holds P (each step a fs)
unfolding each
each_holds P step h [] a p = p
each_holds P step h (f ∷ fs) a p = then-holds P P (step a f) (λ b. each step b fs) (h a f p) (λ b q. each_holds P step h fs b q)

-- ---- stations and turns

station-holds : (n : ℕ) (f : List ℕ) → Holds (Station n) (station n f)
unfolding station number_of
station-holds n f = by_cases (number_to n f) (number-most n f)
  where
    by_cases : (i : ℕ) → i ≤ n → Holds (Station n) (station_in i)
    by_cases zero h = (omega arith, omega arith)
    by_cases (suc i) h = record { low = omega arith; high = h }

snoc-length : {A : Type 0} (l : List A) (x : A) → length (l ++ (x ∷ [])) ≡ length l + 1
snoc-length l x = length-append l (x ∷ [])

-- what holds of each place and of one more holds of each place with one more
snoc-each : {A : Type 0} (d : A) (P : A → Type 0) (l : List A) (x : A) → ((j : ℕ) → j < length l → P (get_or l j d)) → P x
    → (j : ℕ) → j < length (l ++ (x ∷ [])) → P (get_or (l ++ (x ∷ [])) j d)
snoc-each {A} d P l x h p j m =
    let e : length (l ++ (x ∷ [])) ≡ length l + 1 = snoc-length l x in
    let b : j ≤ length l = omega arith in
    ⊎_elim
    (λ (q : j ≡ length l). subst P (sym (get_or_at l x [] d j (sym q))) p)
    (λ (q : j < length l). subst P (sym (get_or-append l (x ∷ []) d j q)) (h j q))
    (eq-or-lt_of_le b)

turn_holds : (n : ℕ) (ts f : List ℕ) → GoodTurns n ts → Holds (GoodTurns n) (take_turn n ts f)
unfolding take_turn number_of
turn_holds n ts f g =
    then-holds (Station n) (GoodTurns n) (station n f) (λ i. cond (ltb (length ts) most_turns) (taken (ts ++ (i ∷ []))) (no MoreTurns)) (station-holds n f)
    (λ i s. cond-holds (GoodTurns n) (ltb (length ts) most_turns) (taken (ts ++ (i ∷ []))) (no MoreTurns)
    (λ t.
    let room : length ts < most_turns = ltb-true (length ts) most_turns t in
    let e : length (ts ++ (i ∷ [])) ≡ length ts + 1 = snoc-length ts i in
    record {
      most = omega arith;
      named = snoc-each 0 (Station n) ts i g.named s;
    })
    (λ t. (omega arith, omega arith)))

-- ---- codes

solid-before : (b : ℕ) (c : List ℕ) → ends_in_space c ≡ false → ends_in_space (before (eqb b space) b c) ≡ false
unfolding ends_in_space
solid-before b [] h = by_cases (eqb b space) refl
  where
    by_cases : (t : Bool) → eqb b space ≡ t → ends_in_space (before t b []) ≡ false
    by_cases true e = refl
    by_cases false e = e
solid-before b (x ∷ c) h = by_cases (eqb b space)
  where
    by_cases : (t : Bool) → ends_in_space (before t b (x ∷ c)) ≡ false
    by_cases true = h
    by_cases false = h

pub code-solid : (f : List ℕ) → ends_in_space (code_of f) ≡ false
unfolding code_of ends_in_space
code-solid [] = refl
code-solid (b ∷ f) = solid-before b (code_of f) (code-solid f)

code_holds : (f : List ℕ) → Holds GoodCode (code f)
unfolding code number_of
code_holds f = sized-holds (code_of f) (code-solid f)
  where
    sized-holds : (c : List ℕ) → ends_in_space c ≡ false → Holds GoodCode (code_in c)
    sized-holds [] s = (omega arith, omega arith)
    sized-holds (b ∷ c) s =
        cond-holds GoodCode (leb (length (b ∷ c)) most_code) (taken (b ∷ c)) (no BadCode)
        (λ t. record { least = omega arith; most = leb-true (length (b ∷ c)) most_code t; solid = s })
        (λ t. (omega arith, omega arith))

-- ---- stocks

-- the codes and one station's set, from a number of stocks on
record Grown (base : ℕ) (h : Holding) : Type 0 where
  codes : GoodCodes h.codes
  known : h.set < 2 ^ length h.codes
  grown : base ≤ length h.codes

run_at : {A : Type 0} (d : A) (f : A → Bool) (l : List A) (j : ℕ) → j < run f l → f (get_or l j d) ≡ true
unfolding run
run_at d f [] j h = absurd (omega arith)
run_at {A} d f (x ∷ l) j h = by_cases (f x) refl j h (run_at d f l)
  where
    by_cases : (t : Bool) → f x ≡ t → (j : ℕ) → j < run_more t (run f l) → ((i : ℕ) → i < run f l → f (get_or l i d) ≡ true) → f (get_or (x ∷ l) j d) ≡ true
    by_cases true e zero h go = e
    by_cases true e (suc j) h go = go j (omega arith)
    by_cases false e j h go = absurd (omega arith)

-- a code with no number among the codes is none of them
new-code : (c : List ℕ) (cs : List (List ℕ)) → length cs ≤ stock_of c cs → (j : ℕ) → j < length cs → get_or cs j [] ≡ c → ⊥
new-code c cs h j l e =
    let p : not (same c (get_or cs j [])) ≡ true = run_at [] (λ d. not (same c d)) cs j (omega arith) in
    let q : same c (get_or cs j []) ≡ true = ap (same c) e ∙ same_self c in
    true≢false (sym p ∙ ap not q)

with-stock : (s k m : ℕ) → s < 2 ^ m → k < m → with_stock s k < 2 ^ m
with-stock s k m h l = or_lt m s (2 ^ k) h (pow-lt l)

codes-more : (cs : List (List ℕ)) (c : List ℕ) → GoodCodes cs → GoodCode c → length cs < most_stocks → length cs ≤ stock_of c cs → GoodCodes (cs ++ (c ∷ []))
codes-more cs c g good room new =
    let e : length (cs ++ (c ∷ [])) ≡ length cs + 1 = snoc-length cs c in
    record {
      most = omega arith;
      good = snoc-each [] GoodCode cs c g.good good;
      apart = λ i j l m.
          let b : j ≤ length cs = omega arith in
          let at_i : get_or (cs ++ (c ∷ [])) i [] ≡ get_or cs i [] = get_or-append cs (c ∷ []) [] i (omega arith) in
          ⊎_elim
          (λ (q : j ≡ length cs). λ p. new-code c cs new i (omega arith) (sym at_i ∙ p ∙ get_or_at cs c [] [] j (sym q)))
          (λ (q : j < length cs). λ p. g.apart i j l q (sym at_i ∙ p ∙ get_or-append cs (c ∷ []) [] j q))
          (eq-or-lt_of_le b);
    }

add_holds : (base : ℕ) (h : Holding) (c : List ℕ) → Grown base h → GoodCode c → Holds (Grown base) (add_stock h c)
unfolding add_stock number_of
add_holds base h c g good =
    let k : ℕ = stock_of c h.codes in
    let m : ℕ = length h.codes in
    let most : k ≤ m = run-most (λ (d : List ℕ). not (same c d)) h.codes in
    cond-holds (Grown base) (ltb k m) (taken (holding h.codes (with_stock h.set k))) (cond (ltb k most_stocks) (taken (holding (h.codes ++ (c ∷ [])) (with_stock h.set k))) (no MoreStocks))
    (λ t. record { codes = g.codes; known = with-stock h.set k m g.known (ltb-true k m t); grown = g.grown })
    (λ t.
    let new : m ≤ k = ltb-false k m t in
    cond-holds (Grown base) (ltb k most_stocks) (taken (holding (h.codes ++ (c ∷ [])) (with_stock h.set k))) (no MoreStocks)
    (λ u.
    let room : k < most_stocks = ltb-true k most_stocks u in
    let e : length (h.codes ++ (c ∷ [])) ≡ m + 1 = snoc-length h.codes c in
    let wider : h.set < 2 ^ length (h.codes ++ (c ∷ [])) = lt_of_lt_of_le g.known (pow_mono (omega arith)) in
    record {
      codes = codes-more h.codes c g.codes good (omega arith) new;
      known = with-stock h.set k (length (h.codes ++ (c ∷ []))) wider (omega arith);
      grown = let q : base ≤ m = g.grown in omega arith;
    })
    (λ u. (omega arith, omega arith)))

take-holds : (base : ℕ) (h : Holding) (f : List ℕ) → Grown base h → Holds (Grown base) (take_code h f)
unfolding take_code
take-holds base h f g = then-holds GoodCode (Grown base) (code f) (λ c. add_stock h c) (code_holds f) (λ c good. add_holds base h c g good)

-- ---- lines

sets-known : (sets : List ℕ) (i v m m' : ℕ) → i < length sets → v < 2 ^ m' → m ≤ m' → ((j : ℕ) → get_or sets j 0 < 2 ^ m) → (j : ℕ) → get_or (set sets i v) j 0 < 2 ^ m'
sets-known sets i v m m' inside hv wider all_of j = by_cases (eqb j i) refl
  where
    by_cases : (t : Bool) → eqb j i ≡ t → get_or (set sets i v) j 0 < 2 ^ m'
    by_cases true e = subst (λ (x : ℕ). x < 2 ^ m') (sym (ap (λ (k : ℕ). get_or (set sets i v) k 0) (eqb-true j i e) ∙ get_or-set_same sets i v 0 inside)) hv
    by_cases false e = subst (λ (x : ℕ). x < 2 ^ m') (sym (get_or-set_other sets i j v 0 (eqb-false j i e))) (lt_of_lt_of_le (all_of j) (pow_mono wider))

has-holds : (n : ℕ) (s : Stocked) (fs : List (List ℕ)) → n ≤ most_stations → GoodStocks s → Holds GoodStocks (has_line n s fs)
unfolding has_line number_of
has-holds n s [] h g = (omega arith, omega arith)
has-holds n s (f ∷ []) h g = (omega arith, omega arith)
has-holds n s (f ∷ c ∷ cs) h g =
    then-holds (Station n) GoodStocks (station n f) _ (station-holds n f)
    (λ i st.
    let start : Holding = holding s.codes (get_or s.sets (i - 1) 0) in
    let size : length s.sets ≡ most_stations = g.sets in
    let inside : i - 1 < length s.sets = let a = st.low in let b = st.high in omega arith in
    then-holds (Grown (length s.codes)) GoodStocks (each take_code start (c ∷ cs)) _
    (each_holds (Grown (length s.codes)) take_code (take-holds (length s.codes)) (c ∷ cs) start (record { codes = g.codes; known = g.known (i - 1); grown = omega arith }))
    (λ t r.
    record {
      codes = r.codes;
      sets = length-set s.sets (i - 1) t.set ∙ g.sets;
      known = sets-known s.sets (i - 1) t.set (length s.codes) (length t.codes) inside r.known r.grown g.known;
    }))

turns-hold : (n : ℕ) (ts : List ℕ) (fs : List (List ℕ)) → GoodTurns n ts → Holds (GoodTurns n) (turn_line n ts fs)
unfolding turn_line number_of
turns-hold n ts [] g = (omega arith, omega arith)
turns-hold n ts (f ∷ fs) g = each_holds (GoodTurns n) (take_turn n) (turn_holds n) (f ∷ fs) ts g

word_holds : (w : Word) (h : Held) (fs : List (List ℕ)) → Sound h → Holds Sound (word_line w h fs)
unfolding number_of
word_holds Has h fs g =
    then-holds GoodStocks Sound (has_line h.stations h.stocks fs) _ (has-holds h.stations h.stocks fs g.most g.stocks)
    (λ s r. record { some = g.some; most = g.most; stocks = r; turns = g.turns })
word_holds Turn h fs g =
    then-holds (GoodTurns h.stations) Sound (turn_line h.stations h.turns fs) _ (turns-hold h.stations h.turns fs g.turns)
    (λ ts r. record { some = g.some; most = g.most; stocks = g.stocks; turns = r })
word_holds Other h fs g = (omega arith, omega arith)

fields-hold : (h : Held) (fs : List (List ℕ)) → Sound h → Holds Sound (later_fields h fs)
unfolding number_of
fields-hold h [] g = (omega arith, omega arith)
fields-hold h (w ∷ fs) g = word_holds (word_of w) h fs g

later-holds : (h : Held) (l : List ℕ) → Sound h → Holds Sound (later_line h l)
unfolding later_line number_of
later-holds h l g =
    cond-holds Sound (all fine l) (later_fields h (fields_of l)) (no StrayByte) (λ t. fields-hold h (fields_of l) g) (λ t. (omega arith, omega arith))

fresh-sound : (n : ℕ) → 1 ≤ n → n ≤ most_stations → Sound (fresh n)
fresh-sound n a b =
    record {
      some = a;
      most = b;
      stocks =
          record {
            codes = record { most = zero-le; good = λ j h. absurd (omega arith); apart = λ i j l h. absurd (omega arith) };
            sets = length-replicate {A = ℕ} most_stations 0;
            known = λ i. let z : ◌≡◌ {A = ℕ} (get_or (replicate most_stations 0) i 0) 0 = zeros-at most_stations i in omega arith;
          };
      turns = record { most = zero-le; named = λ t h. absurd (omega arith) };
    }

pub gang-most : (fs : List (List ℕ)) → gang_of fs ≤ most_stations
unfolding gang_of
gang-most [] = zero-le
gang-most (w ∷ []) = zero-le
gang-most (w ∷ f ∷ []) = by_cases (same w GANG)
  where
    by_cases : (t : Bool) → cond t (number_to most_stations f) 0 ≤ most_stations
    by_cases true = number-most most_stations f
    by_cases false = zero-le
gang-most (w ∷ f ∷ g ∷ gs) = zero-le

first_holds : (l : List ℕ) → Holds Sound (first_line l)
unfolding first_line number_of
first_holds l =
    cond-holds Sound (all fine l) (gang_in (gang_of (fields_of l))) (no StrayByte) (λ t. by_cases (gang_of (fields_of l)) (gang-most (fields_of l))) (λ t. (omega arith, omega arith))
  where
    by_cases : (n : ℕ) → n ≤ most_stations → Holds Sound (gang_in n)
    by_cases zero h = (omega arith, omega arith)
    by_cases (suc n) h = fresh-sound (suc n) (omega arith) h

-- ---- the plan

-- a plan is sound; a refusal is at one of the m lines from line k on
abbrev Ends : ℕ → ℕ → Reading → Type 0
Ends k m (plan h) = Sound h
Ends k m (refused fault place) = InLine fault × (k ≤ place) × (place < k + m)

at-ends : (k m : ℕ) (o : Out Held) (go : Held → Reading) → Holds Sound o → ((h : Held) → Sound h → Ends (suc k) m (go h)) → Ends k (suc m) (at_line k o go)
at-ends k m (taken h) go s f = later (go h) (f h s)
  where
    later : (r : Reading) → Ends (suc k) m r → Ends k (suc m) r
    later (plan h) e = e
    later (refused fault place) e = (e.0, omega arith, omega arith)
at-ends k m (no fault) go s f = (s, omega arith, omega arith)

lines_end : (ls : List (List ℕ)) (k : ℕ) (h : Held) → Sound h → Ends k (length ls) (later_lines k h ls)
unfolding later_lines
lines_end [] k h g = g
lines_end (l ∷ ls) k h g = at-ends k (length ls) (later_line h l) (λ h'. later_lines (suc k) h' ls) (later-holds h l g) (λ h' g'. lines_end ls (suc k) h' g')

all_end : (ls : List (List ℕ)) → Ends 1 (max 1 (length ls)) (all_lines ls)
unfolding number_of
all_end [] = ((omega arith, omega arith), omega arith, omega arith)
all_end (l ∷ ls) =
    let e : max 1 (length (l ∷ ls)) ≡ suc (length ls) = omega arith in
    subst (λ (m : ℕ). Ends 1 m (all_lines (l ∷ ls))) (sym e)
    (at-ends 1 (length ls) (first_line l) (λ h. later_lines 2 h ls) (first_holds l) (λ h g. lines_end ls 2 h g))

-- Every text gives a plan, or one refusal of 11 to 19 at a place.
pub outcome : (text : List ℕ) → Outcome text
unfolding reading number_of
outcome text = by_cases (leb (length text) most_bytes) refl
  where
    ended : (r : Reading) → reading text ≡ r → Ends 1 (max 1 (length (lines_of text))) r → Outcome text
    ended (plan h) e s = planned h e s
    ended (refused fault place) e s = stopped fault place e s.0.0 s.0.1 s.1 (omega arith)

    by_cases : (t : Bool) → leb (length text) most_bytes ≡ t → Outcome text
    by_cases true e = ended (all_lines (lines_of text)) (ap (λ (t : Bool). sized t text) e) (all_end (lines_of text))
    by_cases false e = long LongText (ap (λ (t : Bool). sized t text) e) refl

-- A plan that is taken has 1 to 16 stations, good codes, no two equal, sets of its stocks, and turns that are stations.
pub sound : (text : List ℕ) (h : Held) → reading text ≡ plan h → Sound h
sound text h e = by_cases (outcome text)
  where
    by_cases : Outcome text → Sound h
    by_cases (planned k p s) = subst Sound (let q : k ≡ h = cc in q) s
    by_cases (long fault p z) = let z : ◌≡◌ {A = ℕ} 0 1 = cc in absurd (omega arith)
    by_cases (stopped fault line p a b c d) = let z : ◌≡◌ {A = ℕ} 0 1 = cc in absurd (omega arith)

-- ---- the number and the place of a refusal

pub fault-most : (f : Fault) → number_of f ≤ 19
unfolding number_of
fault-most LongText = omega arith
fault-most BadFirstLine = omega arith
fault-most StrayByte = omega arith
fault-most OtherWord = omega arith
fault-most FewFields = omega arith
fault-most BadStation = omega arith
fault-most BadCode = omega arith
fault-most MoreStocks = omega arith
fault-most MoreTurns = omega arith

onto-most : (t : Bool) (b : ℕ) (ps : List (List ℕ)) → length (joined t b ps) ≤ suc (length ps)
onto-most true b ps = le_refl _
onto-most false b [] = le_refl 1
onto-most false b (p ∷ ps) = omega arith

lines-most : (text : List ℕ) → length (lines_of text) ≤ length text
unfolding parted
lines-most [] = le_refl 0
lines-most (b ∷ text) =
    let ih : length (lines_of text) ≤ length text = lines-most text in
    let m = onto-most (eqb b LF) b (lines_of text) in
    omega arith

pub place-most : (text : List ℕ) (fault : Fault) (p : ℕ) → reading text ≡ refused fault p → p ≤ most_bytes
unfolding reading
place-most text fault p e = by_cases (leb (length text) most_bytes) refl e (outcome text)
  where
    ended : length text ≤ most_bytes → Outcome text → p ≤ most_bytes
    ended h (planned k q s) = let z : ◌≡◌ {A = ℕ} 0 1 = cc in absurd (omega arith)
    ended h (long f q z) = let w : p ≡ 0 = cc in omega arith
    ended h (stopped f line q a b c d) =
        let w : p ≡ line = cc in
        let m = lines-most text in
        omega arith

    by_cases : (t : Bool) → leb (length text) most_bytes ≡ t → sized t text ≡ refused fault p → Outcome text → p ≤ most_bytes
    by_cases true q e o = ended (leb-true (length text) most_bytes q) o
    by_cases false q e o = let w : 0 ≡ p = cc in omega arith
