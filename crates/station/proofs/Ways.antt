-- A station's steps by their ways out: which way a definition goes under the tests that lead there. What a callee gave is a variable
-- with its equation.
use Prim.Native.Nat.{ℕ, ◌+◌, ◌^◌, ◌≤◌, ◌<◌, min}
use mathlib.Core.Path.{◌≡◌, refl, sym, ap, ◌∙◌}
use mathlib.Core.Bool.{Bool, true, false, cond}
use native.Mathlib.Decide.{dec_lt}
use native.Mathlib.Omega.{arith}
use borrow.Author.Tests.{ltb-true, lt-ltb, le-ltb, le-leb}
use lib.Count.{ones-le}
use lib.Dec.{ltb, eqb}
use Rattle.sets.specs.Mask.{size, alone, alone_in}
use Rattle.sets.specs.Arrays.{array_length}
use Rattle.method.specs.declared.Reading.{Reading}
use Rattle.method.specs.declared.Side.{Side}
use Rattle.method.specs.declared.Side.TheVariants.{Own, Other}
use Rattle.method.specs.declared.Round.{Round}
use Rattle.method.specs.declared.State.{State}
use Rattle.method.specs.declared.State.TheVariants.{Uniting}
use Rattle.method.specs.declared.Op.TheVariants.{Write, Read}
use Rattle.method.specs.Steps.{climb, round_over, read_other, read_own, writing, pending, reach, wrote, found, changed, absorb_own, absorb_other, absorb}
use Rattle.station.specs.declared.uniting.Union.{Union}
use Rattle.std.specs.Prelude.{Option, None, Some}
use Rattle.station.specs.Hand.{of, state_of, in_hand, with_reading, with_round, read_on, reading_over, brought, absorb_union}

-- a set in a word has at most 64 members
pub size_word : (s : ℕ) → s < 2 ^ 64 → size s ≤ 64
size_word s h = ones-le 64 s h

-- ---- a reading

pub pending-written : (k : ℕ) (r : Reading) (b : Bool) → b ≡ writing r → b ≡ true → b ≡ pending k r
unfolding pending
pending-written k r b e t = rw (← e, t)

-- the capped length tells as well as the length itself
capped : (n L : ℕ) → n ≤ 64 → ltb n (min L 256) ≡ ltb n L
capped n L h = go (dec_lt n L)
  where
    go : Dec (n < L) → ltb n (min L 256) ≡ ltb n L
    go (yes l) = lt-ltb n (min L 256) (omega arith) ∙ sym (lt-ltb n L l)
    go (no l) = le-ltb n (min L 256) (omega arith) ∙ sym (le-ltb n L (omega arith))

pub pending-read : (k : ℕ) (r : Reading) (b : Bool) (n l : ℕ) → r.set < 2 ^ 64 → b ≡ writing r → b ≡ false → n ≡ size r.set → l ≡ min (array_length k) 256 → ltb n l ≡ pending k r
unfolding pending
pending-read k r b n l w e t p q = rw (← e, t, ← p, q) (capped n (array_length k) (rw p (size_word r.set w)))

pub ruleset pends = (pending-written, pending-read)

-- what is known stays far below its word
pub known_fits : (r : Reading) → writing r ≡ true → r.set < 2 ^ 64 → r.known + 1 < 2 ^ 32
unfolding writing
known_fits r t w =
    let below : r.known < size r.set = ltb-true _ _ t in
    let most : size r.set ≤ 64 = size_word r.set w in
    omega arith

pub reach-write : (k c : ℕ) (r : Reading) → writing r ≡ true → Write k c (r.known + 1) r.set ≡ reach k c r
unfolding reach
reach-write k c r t = rw t

pub reach-read : (k c : ℕ) (r : Reading) (n : ℕ) → n ≡ size r.set → writing r ≡ false → Read k c (n + 1) ≡ reach k c r
unfolding reach
reach-read k c r n e t = rw (t, e)

pub ruleset reaches = (known_fits, reach-write, reach-read)

-- ---- the union

-- the reading in hand goes on, or is over
module _ (N : ℕ) (u : Union) (s : State) where
  pub on-pending : true ≡ pending u.level (in_hand u) → s ≡ Uniting u.level u.own u.other u.side u.round → s ≡ read_on N u
  unfolding read_own read_other
  on-pending t h = h ∙ at u.side t
    where
      at : (x : Side) → true ≡ pending u.level (of x u.own u.other)
          → Uniting u.level u.own u.other x u.round ≡ of x (read_own N u.level u.own u.other u.round) (read_other N u.level u.own u.other u.round)
      at Own f = rw (← f)
      at Other f = rw (← f)

  pub on-over : false ≡ pending u.level (in_hand u) → s ≡ reading_over N u → s ≡ read_on N u
  unfolding read_own read_other
  on-over t h = h ∙ at u.side t
    where
      at : (x : Side) → false ≡ pending u.level (of x u.own u.other)
          → of x (read_other N u.level u.own u.other u.round) (round_over N u.level u.own u.other u.round)
          ≡ of x (read_own N u.level u.own u.other u.round) (read_other N u.level u.own u.other u.round)
      at Own f = rw (← f)
      at Other f = rw (← f)

pub ruleset goes_on = (on-pending, on-over)

-- what an operation of the union brought, by the union after it
module _ (N k : ℕ) (own other : Reading) (round : Round) (v : ℕ) where
  abbrev at : Side → Union
  at side = record { level = k; own = own; other = other; side = side; round = round }

  abbrev after : Side → Option Union → State
  after side None = reading_over N (at side)
  after side (Some b) = read_on N b

  own_after : (x y : Bool)
      → after Own (cond x (Some (with_reading (at Own) (wrote own))) (cond y None (Some (with_reading (with_round (at Own) (changed round)) (found own v)))))
      ≡ cond x (read_own N k (wrote own) other round) (cond y (read_other N k own other round) (read_own N k (found own v) other (changed round)))
  own_after true y = refl
  own_after false true = refl
  own_after false false = refl

  other-after : (x y : Bool)
      → after Other (cond x (Some (with_reading (at Other) (wrote other))) (cond y None (Some (with_reading (with_round (at Other) (changed round)) (found other v)))))
      ≡ cond x (read_other N k own (wrote other) round) (cond y (round_over N k own other round) (read_other N k own (found other v) (changed round)))
  other-after true y = refl
  other-after false true = refl
  other-after false false = refl

  after-is : (side : Side) → after side (brought (at side) v) ≡ absorb_union N (at side) v
  unfolding absorb_own absorb_other
  after-is Own = own_after (writing own) (eqb v 0)
  after-is Other = other-after (writing other) (eqb v 0)

module _ (N : ℕ) (u : Union) (v : ℕ) (s : State) where
  was : after N u.level u.own u.other u.round v u.side (brought u v) ≡ absorb_union N u v
  was = after-is N u.level u.own u.other u.round v u.side

  pub absorbs-on : (b : Union) → Some b ≡ brought u v → s ≡ read_on N b → s ≡ absorb_union N u v
  absorbs-on b e h = h ∙ ap (after N u.level u.own u.other u.round v u.side) e ∙ was

  pub absorbs-over : None ≡ brought u v → s ≡ reading_over N u → s ≡ absorb_union N u v
  absorbs-over e h = h ∙ ap (after N u.level u.own u.other u.round v u.side) e ∙ was

pub ruleset absorbs = (absorbs-on, absorbs-over)

-- ---- what it brought, by the state

pub brings_begin : (N i a : ℕ) (s : State) → 1 ≤ i → i ≤ 64 → a ≡ alone_in 64 i → s ≡ climb N 0 a → s ≡ climb N 0 (alone i)
brings_begin N i a s p h q t = t ∙ ap (λ (x : ℕ). climb N 0 x) (q ∙ rw (le-leb 1 i p, le-leb _ _ h))

pub brings-union : (N i : ℕ) (u : Union) (st s : State) (v : ℕ) → st ≡ state_of u → s ≡ absorb_union N u v → s ≡ absorb N i st v
unfolding absorb
brings-union N i u st s v e t = t ∙ rw e (at u.side)
  where
    at : (x : Side) → of x (absorb_own N u.level u.own u.other u.round v) (absorb_other N u.level u.own u.other u.round v) ≡ absorb N i (Uniting u.level u.own u.other x u.round) v
    at Own = refl
    at Other = refl

pub ruleset brings = (brings_begin, brings-union)
