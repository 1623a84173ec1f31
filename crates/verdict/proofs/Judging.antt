-- The refusals before the first turn, by their tests, and what a call that passes them has.
use Prim.Native.Nat.{ℕ, suc, ◌+◌, ◌*◌, ◌≤◌, ◌<◌}
use mathlib.Core.Path.{◌≡◌, refl, sym, ap, ◌∙◌}
use mathlib.Core.Bool.{Bool, true, false, cond, not, ◌&&◌, false≢true}
use mathlib.Core.List.{List, [], ◌∷◌}
use native.Mathlib.Omega.{arith}
use borrow.Author.Tests.{ltb-false, le-leb, lt-leb, leb-true, eq-eqb, ne_eqb, eqb-true}
use lib.Dec.{leb, ltb}
use lib.ListN.{length, get_or}
use Rattle.std.specs.Prelude.{Result, Ok, Err, Some, None}
use Rattle.std.specs.List.{position_or_len}
use Rattle.verdict.specs.declared.Refusal.{Refusal}
use Rattle.verdict.specs.declared.Refusal.TheVariants.{BadStationCount, BadInputBytes, TooManyTurns, BadTurn, ShortAnswer}
use Rattle.method.specs.Demand.{Station}
use Rattle.method.specs.First.{first_from}
use Rattle.method.proofs.Firsts.{first_past, first-none}
use Rattle.verdict.specs.Refusals.{is_bad, first_bad, tests}

-- ---- the first turn that is no station, by a look along the turns

along : (test : ℕ → Bool) (f : ℕ → Bool) (t : ℕ) (xs : List ℕ) → ((k : ℕ) → k < length xs → f (t + k) ≡ test (get_or xs k 0)) → first_from f t (length xs) ≡ t + position_or_len test xs
unfolding first_from
along test f t [] same = omega arith
along test f t (x ∷ xs) same = go (test x) refl (along test f (suc t) xs (λ k h. let e : suc t + k ≡ t + suc k = omega arith in ap f e ∙ same (suc k) (omega arith)))
  where
    here : f t ≡ test x
    here = let e : t ≡ t + 0 = omega arith in ap f e ∙ same 0 (omega arith)

    go : (b : Bool) → test x ≡ b → first_from f (suc t) (length xs) ≡ suc t + position_or_len test xs → first_from f t (suc (length xs)) ≡ t + position_or_len test (x ∷ xs)
    go true e ih = rw (here, e, first_from) (omega arith)
    go false e ih = rw (here, e, first_from) (omega arith)

pub first_found : (n : ℕ) (turns : List ℕ) → position_or_len (λ (x : ℕ). not (leb 1 x && leb x n)) turns ≡ first_bad n turns
unfolding first_bad
first_found n turns =
    let found = along (λ (x : ℕ). not (leb 1 x && leb x n)) (is_bad n turns) 0 turns (λ k h. let e : 0 + k ≡ k = omega arith in ap (is_bad n turns) e) in
    omega (arith, found)

met : (b : Bool) (at x : ℕ) → Some at ≡ cond b (Some x) None → (b ≡ true) × (at ≡ x)
met true at x e = (refl, cc)
met false at x e = absurd (cc)

missed : (b : Bool) (x : ℕ) → None ≡ cond b (Some x) None → b ≡ false
missed true x e = absurd (cc)
missed false x e = refl

-- ---- the tests, by the one that decides

module _ (n inputs : ℕ) (turns : List ℕ) (size : ℕ) where
  pub wrong-count : false ≡ (leb 1 n && leb n 16) → Err BadStationCount ≡ tests n inputs turns size
  unfolding tests
  wrong-count e = rw (← e)

  module _ (count : true ≡ (leb 1 n && leb n 16)) where
    pub wrong-inputs : (inputs ≡ 8 * n → ⊥) → Err BadInputBytes ≡ tests n inputs turns size
    unfolding tests
    wrong-inputs e = rw (← count, ne_eqb _ _ e)

    module _ (given : inputs ≡ 8 * n) where
      pub many-turns : 4096 < length turns → Err TooManyTurns ≡ tests n inputs turns size
      unfolding tests
      many-turns h = rw (← count, eq-eqb _ _ given, lt-leb _ _ h)

      module _ (few : length turns ≤ 4096) where
        pub bad-turn : (at : ℕ) → Some at ≡ cond (ltb (first_bad n turns) (length turns)) (Some (first_bad n turns)) None → Err (BadTurn at) ≡ tests n inputs turns size
        unfolding tests
        bad-turn at found = let f = met _ _ _ found in rw (← count, eq-eqb _ _ given, le-leb _ _ few, f.0, f.1)

        module _ (none : None ≡ cond (ltb (first_bad n turns) (length turns)) (Some (first_bad n turns)) None) where
          pub short-answer : size < 20 * n → Err ShortAnswer ≡ tests n inputs turns size
          unfolding tests
          short-answer s = rw (← count, eq-eqb _ _ given, le-leb _ _ few, missed _ _ none, lt-leb _ _ s)

          pub accepted : 20 * n ≤ size → Ok tt ≡ tests n inputs turns size
          unfolding tests
          accepted s = rw (← count, eq-eqb _ _ given, le-leb _ _ few, missed _ _ none, le-leb _ _ s)

pub ruleset decided = (wrong-count, wrong-inputs, many-turns, bad-turn, short-answer, accepted)

-- ---- a call that passes them all

pub record Taken (n inputs : ℕ) (turns : List ℕ) (size : ℕ) : Type 0 where
  pub low : 1 ≤ n
  pub high : n ≤ 16
  pub given : inputs ≡ 8 * n
  pub few : length turns ≤ 4096
  pub good : length turns ≤ first_bad n turns
  pub wide : 20 * n ≤ size

passes : (b : Bool) (x : Result (Unit {0}) Refusal) (r : Refusal) → cond b x (Err r) ≡ Ok tt → (b ≡ true) × (x ≡ Ok tt)
passes true x r e = (refl, e)
passes false x r e = absurd (cc)

spared : (b : Bool) (y : Result (Unit {0}) Refusal) (r : Refusal) → cond b (Err r) y ≡ Ok tt → (b ≡ false) × (y ≡ Ok tt)
spared true y r e = absurd (cc)
spared false y r e = (refl, e)

both : (a b : Bool) → (a && b) ≡ true → (a ≡ true) × (b ≡ true)
both true b e = (refl, e)
both false b e = absurd (false≢true e)

pub taken : (n inputs : ℕ) (turns : List ℕ) (size : ℕ) → tests n inputs turns size ≡ Ok tt → Taken n inputs turns size
unfolding tests
taken n inputs turns size e =
    let one = passes _ _ BadStationCount e in
    let two = passes _ _ BadInputBytes one.1 in
    let three = passes _ _ TooManyTurns two.1 in
    let four = spared _ _ (BadTurn (first_bad n turns)) three.1 in
    let five = passes _ _ ShortAnswer four.1 in
    let count = both _ _ one.0 in
    record {
      low = leb-true _ _ count.0;
      high = leb-true _ _ count.1;
      given = eqb-true _ _ two.0;
      few = leb-true _ _ three.0;
      good = ltb-false _ _ four.0;
      wide = leb-true _ _ five.0;
    }

-- ---- where no turn is bad, every turn names a station, and the other way round

good : (n : ℕ) (turns : List ℕ) (t : ℕ) → is_bad n turns t ≡ false → Station n (get_or turns t 0)
good n turns t e = go (leb 1 (get_or turns t 0)) (leb (get_or turns t 0) n) refl refl e
  where
    go : (a b : Bool) → leb 1 (get_or turns t 0) ≡ a → leb (get_or turns t 0) n ≡ b → not (a && b) ≡ false → Station n (get_or turns t 0)
    go true true p q z = record { low = leb-true _ _ p; high = leb-true _ _ q }
    go true false p q z = absurd (false≢true (sym z))
    go false b p q z = absurd (false≢true (sym z))

pub stations-named : (n : ℕ) (turns : List ℕ) → length turns ≤ first_bad n turns → (t : ℕ) → t < length turns → Station n (get_or turns t 0)
unfolding first_bad
stations-named n turns past t h =
    good n turns t (first_past (is_bad n turns) 0 (length turns) t (let z : 0 + length turns ≡ length turns = omega arith in rw z past) (omega arith) (omega arith))

not-bad : (n : ℕ) (turns : List ℕ) (t : ℕ) → Station n (get_or turns t 0) → is_bad n turns t ≡ false
not-bad n turns t st = rw (le-leb 1 (get_or turns t 0) st.low, le-leb (get_or turns t 0) n st.high)

pub none-is-bad : (n : ℕ) (turns : List ℕ) → ((t : ℕ) → t < length turns → Station n (get_or turns t 0)) → length turns ≤ first_bad n turns
unfolding first_bad
none-is-bad n turns named =
    let e : first_from (is_bad n turns) 0 (length turns) ≡ 0 + length turns = first-none (is_bad n turns) 0 (length turns) (λ u a b. not-bad n turns u (named u (omega arith))) in
    omega arith
