-- A union by the reading in hand: of its two arrays it reads one at a time.
use Rattle.std.specs.Prelude.{ℕ, cond, Option, None, Some, eqb}
use Rattle.sets.specs.Mask.{union}
use Rattle.method.specs.declared.Reading.{Reading}
use Rattle.method.specs.declared.Side.{Side}
use Rattle.method.specs.declared.Side.TheVariants.{Own, Other}
use Rattle.method.specs.declared.Round.{Round}
use Rattle.method.specs.declared.State.{State}
use Rattle.method.specs.declared.State.TheVariants.{Uniting}
use Rattle.method.specs.Steps.{climb, writing, wrote, found, changed, round_over, read_other, read_own, absorb_own, absorb_other}
use Rattle.station.specs.declared.uniting.Union.{Union}

-- what belongs to the side: the first to the own array, the second to the other
abbrev pub of : {A : Type 0} → Side → A → A → A
of Own a b = a
of Other a b = b

-- the state of a station that is at the union
abbrev pub state_of : Union → State
state_of u = Uniting u.level u.own u.other u.side u.round

abbrev pub in_hand : Union → Reading
in_hand u = of u.side u.own u.other

abbrev pub with_reading : Union → Reading → Union
with_reading u r = record { level = u.level; own = of u.side r u.own; other = of u.side u.other r; side = u.side; round = u.round }

abbrev pub with_round : Union → Round → Union
with_round u round = record { level = u.level; own = u.own; other = u.other; side = u.side; round = round }

-- own and other are together what the level gave
abbrev pub agreed : ℕ → Union → State
agreed N u = climb N u.level (union u.own.set u.other.set)

-- the reading in hand is over: after the own array the other is read, and after the other the round is over
abbrev pub reading_over : ℕ → Union → State
reading_over N u = of u.side (read_other N u.level u.own u.other u.round) (round_over N u.level u.own u.other u.round)

-- the reading in hand goes on
abbrev pub read_on : ℕ → Union → State
read_on N u = of u.side (read_own N u.level u.own u.other u.round) (read_other N u.level u.own u.other u.round)

-- the union after its operation brought v: none where an empty register was read, and the reading in hand is over
abbrev pub brought : Union → ℕ → Option Union
brought u v =
    cond (writing (in_hand u)) (Some (with_reading u (wrote (in_hand u))))
    (cond (eqb v 0) None (Some (with_reading (with_round u (changed u.round)) (found (in_hand u) v))))

-- what an operation of the union brought, on either side
abbrev pub absorb_union : ℕ → Union → ℕ → State
absorb_union N u v = of u.side (absorb_own N u.level u.own u.other u.round v) (absorb_other N u.level u.own u.other u.round v)
