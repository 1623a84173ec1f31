-- What a turn does: the operation on the board with what it brings, then the row that goes on; or nothing.
use mathlib.Core.Path.{◌≡◌, refl, sym, ap, ◌∙◌, subst}
use mathlib.Core.Bool.{Bool, true, false, cond, ◌&&◌, true≢false, false≢true}
use mathlib.Core.Logic.{◌≢◌}
use Prim.Native.Nat.{ℕ, ◌+◌, ◌≤◌, ◌<◌}
use native.Mathlib.Nat.{le_trans}
use native.Mathlib.Decide.{ℕ_discrete}
use native.Mathlib.Omega.{arith}
use borrow.Author.Tests.{leb-true, le-leb, ltb-true}
use lib.Dec.{leb}
use lib.ListN.{length}
use Rattle.sets.specs.Mask.{size}
use Rattle.sets.proofs.Subset.{counted}
use Rattle.std.specs.Prelude.{Option, None, Some}
use Rattle.method.specs.declared.Reading.{Reading}
use Rattle.method.specs.declared.Side.TheVariants.{Own, Other}
use Rattle.method.specs.declared.State.{State}
use Rattle.method.specs.declared.State.TheVariants.{NotBegun, Uniting, Gathering, Settled}
use Rattle.method.specs.declared.Op.{Op}
use Rattle.method.specs.declared.Op.TheVariants.{Post, Write, Read, ReadLine, Rest}
use Rattle.method.specs.declared.Run.{Run}
use Rattle.method.specs.declared.Did.TheVariants.{Operation, Idle, Unwritten, Nobody}
use Rattle.method.specs.declared.Turned.{Turned}
use Rattle.method.specs.Board.{written, row, row_of, line_of, level_of, register_of, with_row, with_line, with_register}
use Rattle.method.specs.Steps.{writing, reach_at, reach, next_op, absorb}
use Rattle.method.specs.Turn.{turned, goes_on, read_line, perform, named, turn}
use Rattle.method.specs.Demand.{Station, is_settled}
use Rattle.method.proofs.Parts.{Shape, row-shape, line-shape, register-shape, row_put, row_kept, line-put, line_kept, Put, kept, anew, register-cases}

-- the operation of station i brings v, and leaves the record so
pub data Acts (run : Run) (i : ℕ) : Op → ℕ → Run → Type 0 where
  posts : {s : ℕ} → Acts run i (Post s) 0 (with_line run i (written s))
  writes : {k c j v : ℕ} → Acts run i (Write k c j v) 0 (with_register run k c j v)
  reads : {k c j : ℕ} → Acts run i (Read k c j) (register_of run k c j) run
  reads_line : {j s : ℕ} → line_of run j ≡ Some s → Acts run i (ReadLine j) s run

-- what a read of a line found
pub line-read : {run : Run} {i j v : ℕ} {next : Run} → Acts run i (ReadLine j) v next
    → (line_of run j ≡ Some v) × (next ≡ run)
line-read (reads_line q) = (q, refl)

-- what an operation comes to
pub data Performs (run : Run) (i : ℕ) : Op → Turned → Type 0 where
  acts : {op : Op} {v : ℕ} {next : Run} → Acts run i op v next → Performs run i op (turned (goes_on next i v) Operation)
  idles : Performs run i Rest (turned run Idle)
  misses : {j : ℕ} → line_of run j ≡ None → Performs run i (ReadLine j) (turned run Unwritten)

performs : (run : Run) (i : ℕ) (op : Op) → Performs run i op (perform run i op)
unfolding perform
performs run i (Post s) = acts posts
performs run i (Write k c j v) = acts writes
performs run i (Read k c j) = acts reads
performs run i (ReadLine j) = go (line_of run j) refl
  where
    go : (l : Option ℕ) → line_of run j ≡ l → Performs run i (ReadLine j) (read_line run i l)
    go (Some s) q = acts (reads_line q)
    go None q = misses q
performs run i Rest = idles

-- what a turn comes to
pub data Turns (run : Run) (i : ℕ) : Turned → Type 0 where
  station : {x : Turned} → named run i ≡ true → Performs run i (next_op i (row_of run i).state) x → Turns run i x
  nobody : named run i ≡ false → Turns run i (turned run Nobody)

pub turns : (run : Run) (i : ℕ) → Turns run i (turn run i)
unfolding turn
turns run i = go (named run i) refl
  where
    go : (w : Bool) → named run i ≡ w → Turns run i (cond w (perform run i (next_op i (row_of run i).state)) (turned run Nobody))
    go true q = station q (performs run i (next_op i (row_of run i).state))
    go false q = nobody q

-- ---- what stays

module _ {run : Run} {i : ℕ} where
  -- no operation touches a row
  pub acts-row : {op : Op} {v : ℕ} {next : Run} → Acts run i op v next → (j : ℕ) → row_of next j ≡ row_of run j
  unfolding row_of with_line with_register
  acts-row posts j = refl
  acts-row writes j = refl
  acts-row reads j = refl
  acts-row (reads_line q) j = refl

  pub acts-shape : {l r n w : ℕ} {op : Op} {v : ℕ} {next : Run} → Shape l r n w run → Acts run i op v next → Shape l r n w next
  acts-shape s posts = line-shape s i _
  acts-shape s (writes {k} {c} {j} {v}) = register-shape s k c j v
  acts-shape s reads = s
  acts-shape s (reads_line q) = s

-- the row that goes on touches neither registers nor lines
pub goes-register : (run : Run) (i v k c j : ℕ) → register_of (goes_on run i v) k c j ≡ register_of run k c j
unfolding register_of level_of goes_on with_row
goes-register run i v k c j = refl

pub goes-line : (run : Run) (i v j : ℕ) → line_of (goes_on run i v) j ≡ line_of run j
unfolding line_of goes_on with_row
goes-line run i v j = refl

module _ {l r n w : ℕ} {run : Run} (shape : Shape l r n w run) (i v : ℕ) where
  pub goes-row : 1 ≤ i → i ≤ w → row_of (goes_on run i v) i ≡ row (absorb run.depth i (row_of run i).state v) ((row_of run i).count + 1)
  unfolding goes_on
  goes-row p h = row_put shape i _ p h

  pub goes-shape : Shape l r n w (goes_on run i v)
  unfolding goes_on
  goes-shape = row-shape shape i _

pub goes-row-other : (run : Run) (i v j : ℕ) → 1 ≤ i → 1 ≤ j → j ≢ i → row_of (goes_on run i v) j ≡ row_of run j
unfolding goes_on
goes-row-other run i v j p q h = row_kept run i j _ p q h

-- ---- a filled register stays filled, since no set that is written is empty

abbrev Fills : Op → Type 0
Fills (Post s) = Unit {0}
Fills (Write k c j v) = 0 < v
Fills (Read k c j) = Unit {0}
Fills (ReadLine j) = Unit {0}
Fills Rest = Unit {0}

reach-fills : (k c : ℕ) (r : Reading) → Fills (reach k c r)
unfolding reach writing
reach-fills k c r = go (writing r) refl
  where
    go : (w : Bool) → writing r ≡ w → Fills (reach_at w k c r)
    go true q = counted r.set (omega (arith, ltb-true r.known (size r.set) q))
    go false q = tt

op-fills : (i : ℕ) (s : State) → Fills (next_op i s)
unfolding next_op
op-fills i (NotBegun s) = tt
op-fills i (Uniting k own other Own round) = reach-fills k _ own
op-fills i (Uniting k own other Other round) = reach-fills k _ other
op-fills i (Gathering S j got) = tt
op-fills i (Settled S got) = tt

acts-stays : {run : Run} {i : ℕ} {next : Run} {v : ℕ} {op : Op} (k c j : ℕ) → Acts run i op v next → Fills op → 0 < register_of run k c j → 0 < register_of next k c j
unfolding register_of level_of with_line
acts-stays k c j posts f h = h
acts-stays {run} k c j (writes {k = k'} {c = c'} {j = j'} {v = v}) f h = go (register-cases run k' c' j' v k c j)
  where
    go : Put run k' c' j' v k c j → 0 < register_of (with_register run k' c' j' v) k c j
    go (kept q) = rw q h
    go (anew q x y) = rw q f
acts-stays k c j reads f h = h
acts-stays k c j (reads_line q) f h = h

pub turn-stays : (run : Run) (i k c j : ℕ) → 0 < register_of run k c j → 0 < register_of (turn run i).run k c j
turn-stays run i k c j h = go (turns run i)
  where
    done : {op : Op} {x : Turned} → Performs run i op x → Fills op → 0 < register_of x.run k c j
    done (acts {v = v} {next = next} a) f = rw (goes-register next i v k c j) (acts-stays k c j a f h)
    done idles f = h
    done (misses q) f = h

    go : {x : Turned} → Turns run i x → 0 < register_of x.run k c j
    go (station q p) = done p (op-fills i (row_of run i).state)
    go (nobody q) = h

-- ---- a line is as it was, or a station that has not begun posts it

pub data LineAfter (run : Run) (i : ℕ) (op : Op) (j : ℕ) (x : Option ℕ) : Type 0 where
  same : x ≡ line_of run j → LineAfter run i op j x
  posted : {s : ℕ} → op ≡ Post s → j ≡ i → x ≡ written s → LineAfter run i op j x

pub acts-line : {l r n w : ℕ} {run : Run} {i : ℕ} {next : Run} {v : ℕ} {op : Op} → Shape l r n w run → 1 ≤ i → i ≤ w → (j : ℕ) → 1 ≤ j → Acts run i op v next
    → LineAfter run i op j (line_of next j)
unfolding line_of with_register
acts-line {run = run} {i = i} s p h j q (posts {s = x}) = go (ℕ_discrete j i)
  where
    go : Dec (j ≡ i) → LineAfter run i (Post x) j (line_of (with_line run i (written x)) j)
    go (yes e) = posted refl e (rw e (line-put s i (written x) p h))
    go (no f) = same (line_kept run i j (written x) p q f)
acts-line s p h j q writes = same refl
acts-line s p h j q reads = same refl
acts-line s p h j q (reads_line z) = same refl

-- a reading is at the registers
abbrev at_board : Op → Bool
at_board (Post s) = false
at_board (Write k c j v) = true
at_board (Read k c j) = true
at_board (ReadLine j) = false
at_board Rest = false

reach-at-board : (k c : ℕ) (r : Reading) → at_board (reach k c r) ≡ true
unfolding reach
reach-at-board k c r = go (writing r)
  where
    go : (w : Bool) → at_board (reach_at w k c r) ≡ true
    go true = refl
    go false = refl

not-at-board : (k c : ℕ) (r : Reading) (op : Op) → at_board op ≡ false → reach k c r ≡ op → ⊥
not-at-board k c r op f q = true≢false (sym (reach-at-board k c r) ∙ ap at_board q ∙ f)

-- who posts has not begun, and who reads a line gathers
pub post-begins : (i : ℕ) (st : State) (s : ℕ) → next_op i st ≡ Post s → st ≡ NotBegun s
unfolding next_op
post-begins i (NotBegun x) s q = cc
post-begins i (Uniting k own other Own round) s q = absurd (not-at-board k _ own (Post s) refl q)
post-begins i (Uniting k own other Other round) s q = absurd (not-at-board k _ other (Post s) refl q)
post-begins i (Gathering S j got) s q = cc
post-begins i (Settled S got) s q = cc

pub data Gathers (j : ℕ) : State → Type 0 where
  gathering : {S got : ℕ} → Gathers j (Gathering S j got)

pub read-gathers : (i : ℕ) (st : State) (j : ℕ) → next_op i st ≡ ReadLine j → Gathers j st
unfolding next_op
read-gathers i (NotBegun x) j q = absurd (let z : ◌≡◌ {A = ℕ} 0 1 = cc in omega arith)
read-gathers i (Uniting k own other Own round) j q = absurd (not-at-board k _ own (ReadLine j) refl q)
read-gathers i (Uniting k own other Other round) j q = absurd (not-at-board k _ other (ReadLine j) refl q)
read-gathers i (Gathering S x got) j q = let z : x ≡ j = cc in rw z gathering
read-gathers i (Settled S got) j q = absurd (let z : ◌≡◌ {A = ℕ} 0 1 = cc in omega arith)

-- ---- who is named

pub named-station : {l r n w : ℕ} {run : Run} (i : ℕ) → Shape l r n w run → named run i ≡ true → Station n i
unfolding named
named-station {n = n} {run = run} i s q = go (leb 1 i) refl (leb i run.stations) refl q
  where
    go : (x : Bool) → leb 1 i ≡ x → (y : Bool) → leb i run.stations ≡ y → (x && y && leb i (length run.rows)) ≡ true → Station n i
    go true p true p' h = record { low = leb-true 1 i p; high = omega (arith, leb-true i run.stations p', s.counted) }
    go true p false p' h = absurd (false≢true h)
    go false p y p' h = absurd (false≢true h)

pub station-named : {l r n w : ℕ} {run : Run} (i : ℕ) → Shape l r n w run → n ≤ w → Station n i → named run i ≡ true
unfolding named
station-named {run = run} i s h st =
    rw (le-leb 1 i st.low, le-leb i run.stations (omega (arith, st.high, s.counted)), le-leb i (length run.rows) (omega (arith, st.high, s.rows)))

-- ---- the rows after a turn

-- another station's row stays
pub turn-row-other : {l r n w : ℕ} {run : Run} (i j : ℕ) → Shape l r n w run → 1 ≤ j → j ≢ i → row_of (turn run i).run j ≡ row_of run j
turn-row-other {run = run} i j s h f = go (turns run i)
  where
    done : {op : Op} {x : Turned} → 1 ≤ i → Performs run i op x → row_of x.run j ≡ row_of run j
    done k (acts {v = v} {next = next} a) = goes-row-other next i v j k h f ∙ acts-row a j
    done k idles = refl
    done k (misses q) = refl

    go : {x : Turned} → Turns run i x → row_of x.run j ≡ row_of run j
    go (station q p) = done (named-station i s q).low p
    go (nobody q) = refl

-- the named station's: one that has settled rests, and any other counts one turn more
pub data RowAfter (run : Run) (i : ℕ) (x : Turned) : Type 0 where
  worked : is_settled (row_of run i).state ≡ false → x.did ≡ Operation → (row_of x.run i).count ≡ (row_of run i).count + 1 → RowAfter run i x
  rested : is_settled (row_of run i).state ≡ true → x.did ≡ Idle → x.run ≡ run → RowAfter run i x

rests : (i : ℕ) (s : State) → next_op i s ≡ Rest → is_settled s ≡ true
unfolding next_op
rests i (NotBegun x) q = absurd (let z : ◌≡◌ {A = ℕ} 0 1 = cc in omega arith)
rests i (Uniting k own other Own round) q = absurd (not-at-board k _ own Rest refl q)
rests i (Uniting k own other Other round) q = absurd (not-at-board k _ other Rest refl q)
rests i (Gathering S j got) q = absurd (let z : ◌≡◌ {A = ℕ} 0 1 = cc in omega arith)
rests i (Settled S got) q = refl

acts-unsettled : {run next : Run} {i v : ℕ} (s : State) → Acts run i (next_op i s) v next → is_settled s ≡ false
unfolding next_op
acts-unsettled (NotBegun x) a = refl
acts-unsettled (Uniting k own other Own round) a = refl
acts-unsettled (Uniting k own other Other round) a = refl
acts-unsettled (Gathering S j got) a = refl
acts-unsettled (Settled S got) a = elim a [ ]

pub turn-row : {l r n w : ℕ} {run : Run} (i : ℕ) → Shape l r n w run → n ≤ w → Station n i → ((turn run i).did ≡ Unwritten → ⊥) → RowAfter run i (turn run i)
turn-row {run = run} i s h st never = go (turns run i) never
  where
    done : {op : Op} {x : Turned} → next_op i (row_of run i).state ≡ op → Performs run i op x → (x.did ≡ Unwritten → ⊥) → RowAfter run i x
    done o (acts {v = v} {next = next} a) f =
        worked (acts-unsettled (row_of run i).state (subst (λ (y : Op). Acts run i y v next) (sym o) a)) refl
        (rw (goes-row (acts-shape s a) i v st.low (le_trans st.high h), acts-row a i))
    done o idles f = rested (rests i (row_of run i).state o) refl refl
    done o (misses q) f = absurd (f refl)

    go : {x : Turned} → Turns run i x → (x.did ≡ Unwritten → ⊥) → RowAfter run i x
    go (station q p) f = done refl p f
    go (nobody q) f = absurd (false≢true (sym q ∙ station-named i s h st))
