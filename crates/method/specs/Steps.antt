-- A station's steps: MODEL 3 to 5, each below those that it leads to. A station's row alone says its next operation, and the row with what the
-- operation brought says the next row. `i` is the station's number and `N` the number of levels.
use Rattle.std.specs.Prelude.{ℕ, ◌+◌, Bool, true, false, cond, ◌||◌, ltb, eqb}
use Rattle.sets.specs.Mask.{size, union, alone, member_after}
use Rattle.sets.specs.Arrays.{array_length, own_array, other_array}
use Rattle.method.specs.declared.Reading.{Reading}
use Rattle.method.specs.declared.Side.TheVariants.{Own, Other}
use Rattle.method.specs.declared.Round.{Round}
use Rattle.method.specs.declared.Round.TheVariants.{First, Unchanged, Changed}
use Rattle.method.specs.declared.State.{State}
use Rattle.method.specs.declared.State.TheVariants.{NotBegun, Uniting, Gathering, Settled}
use Rattle.method.specs.declared.Op.{Op}
use Rattle.method.specs.declared.Op.TheVariants.{Post, Write, Read, ReadLine, Rest}

-- ---- MODEL 3, step 3: "it reads line X of each station in S, in ascending order, its own among them. Then it has settled"

-- the next line to read is that of station j; none is left where j is 0
abbrev pub gather_at : Bool → ℕ → ℕ → ℕ → State
gather_at true S j got = Settled S got
gather_at false S j got = Gathering S j got

-- the lines up to station i's are read, and their union is `got`
unfoldable pub gather : ℕ → ℕ → ℕ → State
gather S i got = gather_at (eqb (member_after S i) 0) S (member_after S i) got

-- ---- MODEL 3, step 2: "At each level k from 1 to N it makes the union (4) of its own array and the other, and goes on with that for S."

abbrev pub reading : ℕ → ℕ → Reading
reading M known = record { set = M; known = known }

-- S is what level k gave (level 0: the station alone). On to the next level, where nothing is known of the two arrays, or to step 3.
unfoldable pub climb : ℕ → ℕ → ℕ → State
climb N k S = cond (ltb k N) (Uniting (k + 1) (reading S 0) (reading 0 0) Own First) (gather S 0 0)

-- ---- MODEL 5, reading an array from a set M

-- Whether (M, known) is still written: "S is written to registers 1 to size(S) of the own array", and a T that was found "is written to the
-- registers behind that one, up to register size(T)". One rule for both: M goes to each register that is not known to be filled, up to size(M).
unfoldable pub writing : Reading → Bool
writing r = ltb r.known (size r.set)

-- "A set that is as large as the array is long is the result, with no operation." Else the reading has an operation left
unfoldable pub pending : ℕ → Reading → Bool
pending k r = writing r || ltb (size r.set) (array_length k)

-- the next operation: write M to the first register that is not known; else "register size(M)+1 is read"
abbrev pub reach_at : Bool → ℕ → ℕ → Reading → Op
reach_at true k c r = Write k c (r.known + 1) r.set
reach_at false k c r = Read k c (size r.set + 1)

unfoldable pub reach : ℕ → ℕ → Reading → Op
reach k c r = reach_at (writing r) k c r

-- after a write; and after a set T was found, "the reading goes on from T"
abbrev pub wrote : Reading → Reading
wrote r = reading r.set (r.known + 1)

abbrev pub found : Reading → ℕ → Reading
found r T = reading T (size r.set + 1)

-- ---- MODEL 4, the union

-- "Then own and other are read again, in this order, each from its last result". "If neither has changed, the union is own and other together."
unfoldable pub again : ℕ → ℕ → Reading → Reading → State
again N k own other =
    cond (pending k own) (Uniting k own other Own Unchanged)
    (cond (pending k other) (Uniting k own other Other Unchanged) (climb N k (union own.set other.set)))

-- own and other are read. "If one has, both are read again from the new results."
unfoldable pub round_over : ℕ → ℕ → Reading → Reading → Round → State
round_over N k own other First = again N k own other
round_over N k own other Unchanged = climb N k (union own.set other.set)
round_over N k own other Changed = again N k own other

-- the other array is read, from its last result
unfoldable pub read_other : ℕ → ℕ → Reading → Reading → Round → State
read_other N k own other round = cond (pending k other) (Uniting k own other Other round) (round_over N k own other round)

-- the own array is read, and then the other
unfoldable pub read_own : ℕ → ℕ → Reading → Reading → Round → State
read_own N k own other round = cond (pending k own) (Uniting k own other Own round) (read_other N k own other round)

-- a reading that found something has changed; a first reading stays the first
abbrev pub changed : Round → Round
changed First = First
changed Unchanged = Changed
changed Changed = Changed

-- what an operation on the own array, or on the other, brought: v is what was read, empty or a set T, and nothing for a write
unfoldable pub absorb_own : ℕ → ℕ → Reading → Reading → Round → ℕ → State
absorb_own N k own other round v =
    cond (writing own) (read_own N k (wrote own) other round)
    (cond (eqb v 0) (read_other N k own other round) (read_own N k (found own v) other (changed round)))

unfoldable pub absorb_other : ℕ → ℕ → Reading → Reading → Round → ℕ → State
absorb_other N k own other round v =
    cond (writing other) (read_other N k own (wrote other) round)
    (cond (eqb v 0) (round_over N k own other round) (read_other N k own (found other v) (changed round)))

-- ---- MODEL 6, the station's next operation, and its state after what that brought

unfoldable pub next_op : ℕ → State → Op
next_op i (NotBegun stocks) = Post stocks
next_op i (Uniting k own other Own round) = reach k (own_array k i) own
next_op i (Uniting k own other Other round) = reach k (other_array k i) other
next_op i (Gathering S j got) = ReadLine j
next_op i (Settled S got) = Rest

unfoldable pub absorb : ℕ → ℕ → State → ℕ → State
absorb N i (NotBegun stocks) v = climb N 0 (alone i)
absorb N i (Uniting k own other Own round) v = absorb_own N k own other round v
absorb N i (Uniting k own other Other round) v = absorb_other N k own other round v
absorb N i (Gathering S j got) v = gather S j (union got v)
absorb N i (Settled S got) v = Settled S got
