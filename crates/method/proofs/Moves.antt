-- What holds of a station's row holds after each private move, at one moment.
use mathlib.Core.Path.{◌≡◌, refl, sym, ap, ◌∙◌}
use mathlib.Core.Bool.{Bool, true, false, cond}
use mathlib.Core.List.{List}
use Prim.Native.Nat.{ℕ, zero, suc, ◌+◌, ◌-◌, ◌*◌, ◌/◌, ◌^◌, ◌≤◌, ◌<◌, zero-le}
use native.Mathlib.Nat.{le_refl, le_trans, div-one, div-eq_of_lt, lt_of_lt_of_le, le_of_suc-le-suc}
use native.Mathlib.Numerals.{add-one}
use native.Mathlib.Omega.{arith}
use borrow.Author.Tests.{ltb-true, ltb-false, lt-ltb, eqb-true, eqb-false}
use lib.Dec.{ltb, eqb, eqb-suc-zero}
use lib.ListN.{get_or}
use lib.Pow.{pow_pos}
use Rattle.sets.specs.Mask.{size, union, alone, bit, member_after}
use Rattle.sets.proofs.Members.{Next, after_none, after_next}
use Rattle.sets.proofs.Digits.{bit-alone}
use Rattle.sets.proofs.Subset.{smaller-inside, member-inside, union_left, size_none, member-counts}
use Rattle.sets.proofs.Blocks.{sibling, block-above}
use Rattle.method.specs.declared.Reading.{Reading}
use Rattle.method.specs.declared.Side.{Side}
use Rattle.method.specs.declared.Side.TheVariants.{Own, Other}
use Rattle.method.specs.declared.Round.{Round}
use Rattle.method.specs.declared.Round.TheVariants.{First, Unchanged, Changed}
use Rattle.method.specs.declared.State.{State}
use Rattle.method.specs.declared.State.TheVariants.{Uniting}
use Rattle.method.specs.Steps.{gather_at, gather, reading, climb, writing, pending, wrote, found, again, round_over, read_other, read_own, changed, absorb_own, absorb_other}
use Rattle.method.specs.Demand.{gathered}
use Rattle.method.proofs.Brought.{History, Lasting, Full, Stop, Stood, Brought, single, join, brought-size, brought-posted, brought-nothing, comparable, stop-earlier}
use Rattle.method.proofs.Potential.{left, left-start, left-mono, left-own-found, left-own-written, left-other-found, left-other-written, left-own-empty, left-other-empty}
use Rattle.method.proofs.Rows.{Written, calm, Seen, own_open, other_open, own_calm, other_calm, rest, due, Pair, Spent, RowOk, unites, gathers, settled}
use Rattle.method.proofs.Readings.{pending-read, written, written-full, over, full-up, Answer, BoardOk, wrote-read, stops, found-read}
use Rattle.method.proofs.Gathering.{gathered-member, gathered-same}

-- a round that has found something is not calm
reopened : (round : Round) → calm (changed round) ≡ false
reopened First = refl
reopened Unchanged = refl
reopened Changed = refl

-- an empty register of own is read, and one of other
own_read : (w : Bool) → suc (due Other w) / 2 ≡ suc (due Other w / 2)
own_read true = refl
own_read false = refl

other-read : (w : Bool) → (due Other w + 1) / 2 ≡ suc ((rest w + 1) / 2)
other-read true = refl
other-read false = refl

-- one operation more, or none, where the potential allows it
spend : {d e f k j k' j' c : ℕ} → suc (left (2 ^ d) e k j) ≤ left (2 ^ d) f k' j' → Spent d f k' j' c → Spent d e k j (suc c)
spend h s = record { most = omega (arith, s.most) }

less : {d e k j c : ℕ} → Spent d (suc e) k j c → Spent d e k j c
less {d} {e} {k} {j} s = record { most = omega (arith, s.most, left-mono (2 ^ d) e (suc e) k j (omega arith)) }

module _ (N n : ℕ) (inputs : List ℕ) {m : History} (board : Lasting m) {P : ℕ → Type 0} (few : (x : ℕ) → P x → x < n) (small : n ≤ 2 ^ N) (t e : ℕ) where
  abbrev Ok : State → ℕ → Type 0
  Ok = RowOk N n inputs m P t e

  -- what the union at level d + 1 has seen of its two arrays
  abbrev Saw : ℕ → Reading → Reading → Side → Bool → Type 0
  Saw d own other = Seen m t d (e / 2 ^ d) (sibling (e / 2 ^ d)) own other

  gather-on : {S j got c : ℕ} → Brought m P N 0 S → bit S e ≡ 1 → got ≡ gathered inputs S j → j ≤ n → c + 3 * N + 5 ≤ 6 * 2 ^ N + j → Ok (gather S j got) c
  unfolding gather
  gather-on {S} {j} {got} {c} b s g l k = go (member_after S j) refl
    where
      digit : (x w : ℕ) → bit S (suc x - 1) ≡ w → bit S x ≡ w
      digit x w h = let y : suc x - 1 ≡ x = omega arith in rw y at h

      go : (x : ℕ) → member_after S j ≡ x → Ok (gather_at (eqb x 0) S x got) c
      go zero q = settled {c = c} b s (g ∙ sym (gathered-same inputs S j n l (λ x h u. digit x 0 (after_none S j q (suc x) (omega arith))))) (omega arith)
      go (suc x) q =
          let y : Next S j (suc x) = after_next S j x q in
          rw eqb-suc-zero (gathers {c = c} b s (digit x 1 y.member)
          (g ∙ sym (gathered-same inputs S j x (le_of_suc-le-suc y.above) (λ z h u. digit z 0 (y.none (suc z) (omega arith) (omega arith))))) (omega (arith, y.above)))

  climb-on : {d S c : ℕ} → d ≤ N → Brought m P d (e / 2 ^ d) S → bit S e ≡ 1 → c + 3 * d + 5 ≤ 6 * 2 ^ d → Ok (climb N d S) c
  unfolding climb gathered pending writing
  climb-on {d} {S} {c} l b s k = go (ltb d N) refl
    where
      go : (w : Bool) → ltb d N ≡ w → Ok (cond w (Uniting (d + 1) (reading S 0) (reading 0 0) Own First) (gather S 0 0)) c
      go true q =
          rw add-one (unites {round = First} record {
            within = ltb-true d N q;
            ours = record { brought = b; full = nothing-full; known = zero-le };
            theirs = record { brought = brought-nothing board d (sibling (e / 2 ^ d)); full = nothing-full; known = zero-le };
            self = s;
          } (own_open record { all = sym size_none }) begun record { most = costs })
        where
          costs : c + left (2 ^ d) 4 0 0 + 3 * d + 8 ≤ 12 * 2 ^ d
          costs = omega (arith, left-start (2 ^ d) (pow_pos d))

          nothing-full : {b : ℕ} → Full m t d b 0
          nothing-full = record { filled = λ p h. absurd (omega arith) }

          begun : pending (suc d) (reading S 0) ≡ true
          begun = rw (lt-ltb 0 (size S) (member-counts S e s))
      go false q =
          let x : d ≡ N = omega (arith, ltb-false d N q) in
          let y : e / 2 ^ N ≡ 0 = div-eq_of_lt (lt_of_lt_of_le (few e (brought-posted b e s)) small) in
          gather-on (rw (x, y) at b) s refl zero-le (omega (arith, ap (λ (z : ℕ). 2 ^ z) x))

  -- the station's own line is posted, and a line of the set is read
  pub absorb-post : P e → Ok (climb N 0 (alone (suc e))) 1
  absorb-post p = climb-on zero-le (rw (div-one, sub) (single p)) (rw sub (bit-alone e)) (omega arith)
    where
      sub : suc e - 1 ≡ e
      sub = omega arith

  pub absorb-line : {S got c v : ℕ} (j : ℕ) → Brought m P N 0 S → bit S e ≡ 1 → bit S j ≡ 1 → got ≡ gathered inputs S j → c + 3 * N + 5 ≤ 6 * 2 ^ N + j
      → v ≡ get_or inputs j 0 → Ok (gather S (suc j) (union got v)) (suc c)
  absorb-line {S} {got} {c} {v} j b s h g k q =
      gather-on b s (rw (g, q) (sym (gathered-member inputs S j h))) (few j (brought-posted b j h)) (omega arith)

  module _ {d : ℕ} {own other : Reading} (pair : Pair N m P t e d own other) where
    finish : {u c : ℕ} → Stood m u d (e / 2 ^ d) own.set → Stood m u d (sibling (e / 2 ^ d)) other.set → Spent d 0 own.known other.known c
        → Ok (climb N (suc d) (union own.set other.set)) c
    finish x y k =
        climb-on pair.within
        (rw block-above (join (e / 2 ^ d) pair.ours.brought pair.theirs.brought x y))
        (member-inside e (union_left own.set other.set) pair.self)
        (omega (arith, k.most))

    -- both arrays are read, and other stood as it was read when own was full as far as it was read
    again-on : {u c : ℕ} → Written own → Written other → u ≤ t → Full m u d (e / 2 ^ d) (size own.set) → Stood m u d (sibling (e / 2 ^ d)) other.set
        → Spent d 2 own.known other.known c → Ok (again N (suc d) own other) c
    unfolding again
    again-on {u} {c} x y l f s k = go (pending (suc d) own) refl (pending (suc d) other) refl
      where
        go : (v : Bool) → pending (suc d) own ≡ v → (w : Bool) → pending (suc d) other ≡ w
            → Ok (cond v (Uniting (suc d) own other Own Unchanged)
            (cond w (Uniting (suc d) own other Other Unchanged) (climb N (suc d) (union own.set other.set)))) c
        go true p w q = unites pair (own_calm x y l f s) p k
        go false p true q = unites {round = Unchanged} pair (other_calm x y l record { full = f; stop = full-up pair.ours p u } s) q (less k)
        go false p false q = finish record { full = f; stop = full-up pair.ours p u } s (less (less k))

    -- other has just been read, so it stands so now, and own is full as far as it was read
    first_on : {c : ℕ} → Written own → Written other → Stop m t d (sibling (e / 2 ^ d)) (size other.set) → Spent d 2 own.known other.known c
        → Ok (again N (suc d) own other) c
    first_on x y s k = again-on x y (le_refl t) (written-full pair.ours x) record { full = written-full pair.theirs y; stop = s } k

    -- the round is over
    over-on : {c : ℕ} (round : Round) → Saw d own other Other (calm round) → Written other
        → Stop m t d (sibling (e / 2 ^ d)) (size other.set) → Spent d (rest (calm round)) own.known other.known c
        → Ok (round_over N (suc d) own other round) c
    unfolding round_over
    over-on First (other_open x) y s k = first_on x y s k
    over-on Unchanged (other_calm x y l f g) z s k = finish f g k
    over-on Changed (other_open x) y s k = first_on x y s k

    other-on : {c : ℕ} (round : Round) → Saw d own other Other (calm round)
        → Spent d (due Other (calm round)) own.known other.known c → Ok (read_other N (suc d) own other round) c
    unfolding read_other
    other-on {c} round s k = go (pending (suc d) other) refl
      where
        go : (w : Bool) → pending (suc d) other ≡ w → Ok (cond w (Uniting (suc d) own other Other round) (round_over N (suc d) own other round)) c
        go true q = unites pair s q k
        go false q = over-on round s (over pair.theirs q) (full-up pair.theirs q t) (less k)

    -- own is read: at the moment of a calm round it stood as it is now
    own-ended : {w : Bool} → Saw d own other Own w → Written own → Stop m t d (e / 2 ^ d) (size own.set)
        → Saw d own other Other w
    own-ended (own_open x) y s = other_open y
    own-ended (own_calm x y l f g) z s = other_calm x y l record { full = f; stop = stop-earlier board l s } g

    own_on : {c : ℕ} (round : Round) → Saw d own other Own (calm round)
        → Spent d (due Own (calm round)) own.known other.known c → Ok (read_own N (suc d) own other round) c
    unfolding read_own
    own_on {c} round s k = go (pending (suc d) own) refl
      where
        go : (w : Bool) → pending (suc d) own ≡ w → Ok (cond w (Uniting (suc d) own other Own round) (read_other N (suc d) own other round)) c
        go true q = unites pair s q k
        go false q = other-on round (own-ended s (over pair.ours q) (full-up pair.ours q t)) (less k)

  -- ---- what an operation brought

  module _ {d : ℕ} {own other : Reading} (pair : Pair N m P t e d own other) where
    other-written : {w : Bool} → Saw d own other Own w → Written other
    other-written (own_open x) = x
    other-written (own_calm x y l f g) = y

    own-written : {w : Bool} → Saw d own other Other w → Written own
    own-written (other_open x) = x
    own-written (other_calm x y l f g) = x

    -- a round in which something is written is not calm
    write-own : {w : Bool} {c : ℕ} → Saw d own other Own w → own.known < size own.set
        → Spent d (due Own w) own.known other.known c
        → Saw d (wrote own) other Own w × Spent d (due Own w) (own.known + 1) other.known (suc c)
    write-own (own_open x) h k =
        let l : own.known < 2 ^ d = omega (arith, brought-size pair.ours.brought) in
        (own_open x, rw add-one (spend (left-own-written (2 ^ d) own.known other.known l) k))
    write-own (own_calm x y l f g) h k = absurd (omega (arith, x.all))

    write-other : {w : Bool} {c : ℕ} → Saw d own other Other w → other.known < size other.set
        → Spent d (due Other w) own.known other.known c
        → Saw d own (wrote other) Other w × Spent d (due Other w) own.known (other.known + 1) (suc c)
    write-other (other_open x) h k =
        let l : other.known < 2 ^ d = omega (arith, brought-size pair.theirs.brought) in
        (other_open x, rw add-one (spend (left-other-written (2 ^ d) own.known other.known l) k))
    write-other (other_calm x y l f g) h k = absurd (omega (arith, y.all))

    -- one in which something is found is not calm any more
    known_some : Written own → 0 < own.known
    known_some w = rw w.all (member-counts own.set e pair.self)

    find-own : {c j : ℕ} (round : Round) → Written own → size own.set < 2 ^ d → Spent d (due Own (calm round)) own.known j c
        → Spent d (due Own (calm (changed round))) (size own.set + 1) j (suc c)
    find-own {c} {j} round w h k =
        let l : own.known < 2 ^ d = omega (arith, w.all) in
        let x = left-own-found (2 ^ d) own.known j (known_some w) l in
        let y = left-mono (2 ^ d) 2 (due Own (calm round)) own.known j (omega arith) in
        rw (reopened round, add-one, ← w.all) (spend (le_trans x y) k)

    find-other : {c i : ℕ} (round : Round) → Written other → size other.set < 2 ^ d → Spent d (due Other (calm round)) i other.known c
        → Spent d (due Other (calm (changed round))) i (size other.set + 1) (suc c)
    find-other {c} {i} round w h k =
        let l : other.known < 2 ^ d = omega (arith, w.all) in
        let x = left-other-found (2 ^ d) i other.known l in
        let y = left-mono (2 ^ d) 1 (due Other (calm round)) i other.known (omega arith) in
        rw (reopened round, add-one, ← w.all) (spend (le_trans x y) k)

    module _ (holds : BoardOk m P t) {c : ℕ} (round : Round) (v : ℕ) where
      pub absorb-own : Saw d own other Own (calm round) → pending (suc d) own ≡ true
          → Spent d (due Own (calm round)) own.known other.known c → Answer m t d (e / 2 ^ d) own v → Ok (absorb_own N (suc d) own other round v) (suc c)
      unfolding absorb_own writing
      absorb-own s p k a = go (writing own) refl (eqb v 0) refl
        where
          go : (w : Bool) → writing own ≡ w → (z : Bool) → eqb v 0 ≡ z
              → Ok (cond w (read_own N (suc d) (wrote own) other round)
              (cond z (read_other N (suc d) own other round) (read_own N (suc d) (found own v) other (changed round)))) (suc c)
          go true w z q =
              let x = write-own s (ltb-true own.known (size own.set) w) k in
              own_on record { within = pair.within; ours = wrote-read pair.ours v a w; theirs = pair.theirs; self = pair.self } round x.0 x.1
          go false w true q =
              let x = written pair.ours w in
              let l : own.known < 2 ^ d = omega (arith, pending-read d own p w, x.all) in
              other-on pair round (own-ended pair s x (stops pair.ours v a w (eqb-true v 0 q)))
              (spend (left-own-empty (2 ^ d) (due Other (calm round)) own.known other.known (own_read (calm round)) (known_some x) l) k)
          go false w false q =
              let h = pending-read d own p w in
              let r = found-read pair.ours holds v a w h (eqb-false v 0 q) in
              let larger : size own.set ≤ size v = omega (arith, r.known) in
              own_on record {
                within = pair.within;
                ours = r;
                theirs = pair.theirs;
                self = member-inside e (smaller-inside (comparable board pair.ours.brought r.brought) larger) pair.self;
              } (changed round) (rw (reopened round) (own_open (other-written s))) (find-own round (written pair.ours w) h k)

      pub absorb-other : Saw d own other Other (calm round) → pending (suc d) other ≡ true
          → Spent d (due Other (calm round)) own.known other.known c → Answer m t d (sibling (e / 2 ^ d)) other v
          → Ok (absorb_other N (suc d) own other round v) (suc c)
      unfolding absorb_other writing
      absorb-other s p k a = go (writing other) refl (eqb v 0) refl
        where
          go : (w : Bool) → writing other ≡ w → (z : Bool) → eqb v 0 ≡ z
              → Ok (cond w (read_other N (suc d) own (wrote other) round)
              (cond z (round_over N (suc d) own other round) (read_other N (suc d) own (found other v) (changed round)))) (suc c)
          go true w z q =
              let x = write-other s (ltb-true other.known (size other.set) w) k in
              other-on record { within = pair.within; ours = pair.ours; theirs = wrote-read pair.theirs v a w; self = pair.self } round x.0 x.1
          go false w true q =
              let x = written pair.theirs w in
              let l : other.known < 2 ^ d = omega (arith, pending-read d other p w, x.all) in
              over-on pair round s x (stops pair.theirs v a w (eqb-true v 0 q))
              (spend (left-other-empty (2 ^ d) (rest (calm round)) own.known other.known (other-read (calm round)) l) k)
          go false w false q =
              let h = pending-read d other p w in
              let r = found-read pair.theirs holds v a w h (eqb-false v 0 q) in
              other-on record { within = pair.within; ours = pair.ours; theirs = r; self = pair.self } (changed round)
              (rw (reopened round) (other_open (own-written s))) (find-other round (written pair.theirs w) h k)
