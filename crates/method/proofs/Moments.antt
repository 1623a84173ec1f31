-- What holds of board, lines and rows at every moment of a run, by induction over its turns.
use mathlib.Core.Path.{◌≡◌, refl, sym, ap, ◌∙◌, subst}
use mathlib.Core.Bool.{Bool, true, false, true≢false, false≢true}
use mathlib.Core.List.{List}
use mathlib.Core.Logic.{◌≢◌}
use Prim.Native.Nat.{ℕ, zero, suc, ◌+◌, ◌-◌, ◌/◌, ◌^◌, ◌≤◌, ◌<◌}
use native.Mathlib.Nat.{le_trans, le-suc, le_of_lt, lt_of_lt_of_le}
use native.Mathlib.Decide.{ℕ_discrete}
use native.Mathlib.Numerals.{add-one}
use native.Mathlib.Omega.{arith}
use borrow.Author.Tests.{ltb-true, eq-eqb}
use lib.ListN.{length, get_or}
use Rattle.std.specs.Prelude.{Some, is_some}
use Rattle.sets.specs.Mask.{size}
use Rattle.sets.proofs.Subset.{counted}
use Rattle.sets.proofs.Blocks.{own_block, other_block, own-within, sibling-within}
use Rattle.method.specs.declared.Reading.{Reading}
use Rattle.method.specs.declared.Side.TheVariants.{Own, Other}
use Rattle.method.specs.declared.State.{State}
use Rattle.method.specs.declared.Op.{Op}
use Rattle.method.specs.declared.Op.TheVariants.{Write, Read, ReadLine}
use Rattle.method.specs.declared.Run.{Run}
use Rattle.method.specs.declared.Did.TheVariants.{Unwritten}
use Rattle.method.specs.declared.Turned.{Turned}
use Rattle.method.specs.Board.{depth, written, row, fresh_on, row_of, line_of, level_of, register_of, with_line, with_register}
use Rattle.method.specs.Steps.{writing, reach_at, reach, next_op, absorb}
use Rattle.method.specs.Turn.{goes_on, turn, after}
use Rattle.method.specs.Demand.{Fits, Station, times_named}
use Rattle.method.proofs.Brought.{History, Lasting, Brought, brought-mono, brought-size, brought-posted}
use Rattle.method.proofs.Depth.{depth-enough}
use Rattle.method.proofs.Rows as R
use Rattle.method.proofs.Rows.{RowOk, begins, unites, gathers, begun-input, row-later}
use Rattle.method.proofs.Readings.{Answer, BoardOk}
use Rattle.method.proofs.Moves.{absorb-post, absorb-line, absorb-own, absorb-other}
use Rattle.method.proofs.Parts.{Shape, fresh-shape, fresh-register, fresh-line, fresh-row, line-put, register-put, Put, kept, anew, register-cases, put-there}
use Rattle.method.proofs.Turns.{line-read, Acts, posts, writes, reads, Performs, acts, idles, misses, Turns, station, nobody, turns, acts-row, acts-shape, LineAfter, same, posted, acts-line, post-begins, Gathers, gathering, read-gathers, goes-register, goes-line, goes-row, goes-shape, goes-row-other, turn-stays, named-station}

-- the board of a run, at every moment
abbrev pub board : Run → List ℕ → History
board start order u d b p = register_of (after start order u) (suc d) (suc b) (suc p)

-- station e + 1 has posted its line by moment t
pub record Posted (start : Run) (order : List ℕ) (n t e : ℕ) : Type 0 where
  pub within : e < n
  pub line : is_some (line_of (after start order t) (suc e)) ≡ true
  pub named : 1 ≤ times_named order t (suc e)

-- what holds at moment t
pub record Sound (l r n : ℕ) (inputs : List ℕ) (start : Run) (order : List ℕ) (t : ℕ) : Type 0 where
  pub shape : Shape l r n (length inputs) (after start order t)
  pub registers : BoardOk (board start order) (Posted start order n t) t
  pub lines : (e : ℕ) → e < n → (s : ℕ) → line_of (after start order t) (suc e) ≡ Some s → s ≡ get_or inputs e 0
  pub rows : (e : ℕ) → e < n
      → RowOk (depth n) n inputs (board start order) (Posted start order n t) t e (row_of (after start order t) (suc e)).state
      (row_of (after start order t) (suc e)).count

pub after_turn : (start : Run) (order : List ℕ) (t : ℕ) → after start order (suc t) ≡ (turn (after start order t) (get_or order t 0)).run
unfolding after
after_turn start order t = refl

-- the board of a fresh run is empty at first, and lasts
pub lasting : (l r n : ℕ) (inputs order : List ℕ) → Lasting (board (fresh_on l r n inputs) order)
unfolding after
lasting l r n inputs order =
    record {
      start = λ d b p. fresh-register l r n inputs (suc d) (suc b) (suc p);
      stays = λ u d b p h. turn-stays (after (fresh_on l r n inputs) order u) (get_or order u 0) (suc d) (suc b) (suc p) h;
    }

pub named_more : (order : List ℕ) (t i : ℕ) → times_named order t i ≤ times_named order (suc t) i
unfolding times_named
named_more order t i = omega arith

pub named-once : (order : List ℕ) (t : ℕ) → 1 ≤ times_named order (suc t) (get_or order t 0)
unfolding times_named
named-once order t = rw (eq-eqb (get_or order t 0) (get_or order t 0) refl) (omega arith)

module _ (l r n : ℕ) (inputs : List ℕ) (fits : Fits l r n inputs) (order : List ℕ) where
  abbrev start : Run
  start = fresh_on l r n inputs

  abbrev m : History
  m = board start order

  pub sound-first : Sound l r n inputs start order 0
  unfolding after
  sound-first =
      record {
        shape = fresh-shape l r n inputs;
        registers = record { holds = λ d b p l' h. absurd (omega (arith, fresh-register l r n inputs (suc d) (suc b) (suc p))) };
        lines = λ e h s q. absurd (false≢true (ap is_some (sym (fresh-line l r n inputs (suc e)) ∙ q)));
        rows = λ e h. rw (fresh-row l r n inputs e) begins;
      }

  -- one turn more, of station i, from a moment at which all holds
  module _ (t : ℕ) (sound : Sound l r n inputs start order t) where
    abbrev now : Run
    now = after start order t

    abbrev next : Run
    next = after start order (suc t)

    abbrev P : ℕ → Type 0
    P = Posted start order n (suc t)

    few : (j : ℕ) → P j → j < n
    few j p = p.within

    lasts : Lasting m
    lasts = lasting l r n inputs order

    enough : n ≤ 2 ^ depth n
    enough = depth-enough n

    abbrev Ok : ℕ → State → ℕ → Type 0
    Ok = RowOk (depth n) n inputs m P (suc t)

    -- the board as it was
    board-same : ((k c j : ℕ) → register_of next k c j ≡ register_of now k c j) → BoardOk m P t → BoardOk m P (suc t)
    board-same reg b = record { holds = λ d c p h f. rw reg (b.holds d c p h (rw reg at f)) }

    wrote_it : {i k c j y v : ℕ} {nx : Run} → Acts now i (Write k c j y) v nx → ((k' c' j' : ℕ) → register_of next k' c' j' ≡ register_of nx k' c' j')
        → (k' c' j' : ℕ) → register_of next k' c' j' ≡ register_of (with_register now k c j y) k' c' j'
    wrote_it writes reg = reg

    read-it : {i k c j v : ℕ} {nx : Run} → Acts now i (Read k c j) v nx → ((k' c' j' : ℕ) → register_of next k' c' j' ≡ register_of nx k' c' j')
        → ((k' c' j' : ℕ) → register_of next k' c' j' ≡ register_of now k' c' j') × (v ≡ register_of now k c j)
    read-it reads reg = (reg, refl)

    -- an operation of the reading of block b's array
    reached : {i d b c v : ℕ} {x : Reading} {nx : Run} → c ≡ suc b → R.Read m P (suc t) d b x → d < depth n → b < 2 ^ (depth n - d)
        → Acts now i (reach (suc d) c x) v nx → ((k' c' j' : ℕ) → register_of next k' c' j' ≡ register_of nx k' c' j') → BoardOk m P t
        → BoardOk m P (suc t) × Answer m (suc t) d b x v
    unfolding reach writing
    reached {i} {d} {b} {c} {v} {x} {nx} q read h k a reg ok = go (writing x) refl (rw q at a)
      where
        go : (w : Bool) → writing x ≡ w → Acts now i (reach_at w (suc d) (suc b) x) v nx → BoardOk m P (suc t) × Answer m (suc t) d b x v
        go true w a = (
          record { holds = λ d' b' p' l' f. there d' b' p' l' f (register-cases now (suc d) (suc b) (suc x.known) x.set (suc d') (suc b') (suc p')) },
          record { filled = λ z. rw (put-reg, in_place) (counted x.set (omega (arith, less))); shown = λ z. absurd (true≢false (sym w ∙ z)) },
        )
          where
            less : x.known < size x.set
            less = ltb-true x.known (size x.set) w

            short : x.known < 2 ^ d
            short = lt_of_lt_of_le less (brought-size read.brought)

            put-reg : (k' c' j' : ℕ) → register_of next k' c' j' ≡ register_of (with_register now (suc d) (suc b) (suc x.known) x.set) k' c' j'
            put-reg k' c' j' = rw add-one at (wrote_it a reg k' c' j')

            in_place : register_of (with_register now (suc d) (suc b) (suc x.known) x.set) (suc d) (suc b) (suc x.known) ≡ x.set
            in_place = register-put sound.shape (depth n) d b x.known x.set (omega (arith, fits.deep)) (omega arith) k short fits.wide

            there : (d' b' p' : ℕ) → p' < 2 ^ d' → 0 < m (suc t) d' b' p' → Put now (suc d) (suc b) (suc x.known) x.set (suc d') (suc b') (suc p')
                → Brought m P d' b' (m (suc t) d' b' p') × (p' < size (m (suc t) d' b' p'))
            there d' b' p' l' f (kept z) =
                let y : m (suc t) d' b' p' ≡ m t d' b' p' = put-reg (suc d') (suc b') (suc p') ∙ z in
                rw y (ok.holds d' b' p' l' (rw y at f))
            there d' b' p' l' f (anew z y u) =
                let g : m (suc t) d' b' p' ≡ x.set = put-reg (suc d') (suc b') (suc p') ∙ z in
                let s = put-there d b x.known d' b' p' short l' y u in
                rw (g, s.0, s.1, s.2) (read.brought, less)
        go false w a =
            let y = read-it a reg in
            let z : v ≡ m (suc t) d b (size x.set) = (rw add-one at y.1) ∙ sym (y.0 (suc d) (suc b) (suc (size x.set))) in
            (board-same y.0 ok, record { filled = λ f. absurd (true≢false (sym f ∙ w)); shown = λ f. z })

    -- what was right stays right where lines that are written stay so
    module _ (keeps : (j : ℕ) → is_some (line_of now (suc j)) ≡ true → is_some (line_of next (suc j)) ≡ true) where
      posted-later : (j : ℕ) → Posted start order n t j → P j
      posted-later j p = record { within = p.within; line = keeps j p.line; named = le_trans p.named (named_more order t (suc j)) }

      row_now : (j : ℕ) → j < n → Ok j (row_of now (suc j)).state (row_of now (suc j)).count
      row_now j h = row-later lasts posted-later (le-suc t) (sound.rows j h)

      board-now : BoardOk m P t
      board-now =
          record {
            holds = λ d b p h f. let x = sound.registers.holds d b p h f in (brought-mono posted-later x.0, x.1);
          }

    -- a turn that changes nothing
    still : next ≡ now → Sound l r n inputs start order (suc t)
    still q =
        record {
          shape = rw q sound.shape;
          registers = board-same (λ k c j. rw q) (board-now keeps);
          lines = λ e h s w. sound.lines e h s (rw q at w);
          rows = λ e h. rw q (row_now keeps e h);
        }
      where
        keeps : (j : ℕ) → is_some (line_of now (suc j)) ≡ true → is_some (line_of next (suc j)) ≡ true
        keeps j w = rw q w

    block_in : {e d : ℕ} → e < n → d < depth n → e / 2 ^ d < 2 ^ (depth n - d)
    block_in {e} {d} h k = own-within (depth n) d e (le_of_lt k) (lt_of_lt_of_le h enough)

    -- an operation of station e + 1, in state s
    effect : {e c v : ℕ} {s : State} {nx : Run} → e < n → 1 ≤ times_named order (suc t) (suc e) → BoardOk m P t
        → ((k c j : ℕ) → register_of next k c j ≡ register_of nx k c j) → ((j : ℕ) → line_of next j ≡ line_of nx j)
        → Ok e s c → Acts now (suc e) (next_op (suc e) s) v nx
        → BoardOk m P (suc t) × Ok e (absorb (depth n) (suc e) s v) (suc c)
    unfolding next_op absorb register_of level_of with_line
    effect {e = e} h names board reg lin begins posts =
        (board-same reg board, absorb-post (depth n) n inputs lasts few enough (suc t) e record { within = h; line = line; named = names })
      where
        line : is_some (line_of next (suc e)) ≡ true
        line = rw (lin, line-put sound.shape (suc e) (written (get_or inputs e 0)) (omega arith) (omega (arith, fits.given)))
    effect {e = e} {v = v} h names board reg lin (unites {d = d} {own = own} {side = Own} {round = round} pair seen pend spent) a =
        let x = reached (own_block d e) pair.ours pair.within (block_in h pair.within) a reg board in
        (x.0, absorb-own (depth n) n inputs lasts few enough (suc t) e pair x.0 round v seen pend spent x.1)
    effect {e = e} {v = v} h names board reg lin (unites {d = d} {own = own} {side = Other} {round = round} pair seen pend spent) a =
        let b = sibling-within (depth n) d (e / 2 ^ d) pair.within (block_in h pair.within) in
        let x = reached (other_block d e) pair.theirs pair.within b a reg board in
        (x.0, absorb-other (depth n) n inputs lasts few enough (suc t) e pair x.0 round v seen pend spent x.1)
    effect {e = e} h names board reg lin (gathers {j = j} b s k g c) a =
        let x = line-read a in (
          board-same (λ p q r. reg p q r ∙ ap (λ (y : Run). register_of y p q r) x.1) board,
          absorb-line (depth n) n inputs lasts few enough (suc t) e j b s k g c (sound.lines j (few j (brought-posted b j k)) _ x.0),
        )
    effect {e = e} {c = c} {v = v} {nx = nx} h names board reg lin (R.settled {S = S} {got = got} _ _ _ _) a = elim a [ ]

    -- a turn of station e + 1 that makes an operation
    module _ (e v : ℕ) {nx : Run} (h : e < n) (a : Acts now (suc e) (next_op (suc e) (row_of now (suc e)).state) v nx) (is : next ≡ goes_on nx (suc e) v)
        (names : 1 ≤ times_named order (suc t) (suc e)) where
      reg : (k c j : ℕ) → register_of next k c j ≡ register_of nx k c j
      reg k c j = ap (λ (x : Run). register_of x k c j) is ∙ goes-register nx (suc e) v k c j

      lin : (j : ℕ) → line_of next j ≡ line_of nx j
      lin j = ap (λ (x : Run). line_of x j) is ∙ goes-line nx (suc e) v j

      shape-next : Shape l r n (length inputs) nx
      shape-next = acts-shape sound.shape a

      own_row : row_of next (suc e) ≡ row (absorb (depth n) (suc e) (row_of now (suc e)).state v) ((row_of now (suc e)).count + 1)
      own_row =
          ap (λ (x : Run). row_of x (suc e)) is ∙ goes-row shape-next (suc e) v (omega arith) (omega (arith, fits.given))
          ∙ rw (acts-row a (suc e), shape-next.deep)

      other_row : (j : ℕ) → j ≢ e → row_of next (suc j) ≡ row_of now (suc j)
      other_row j f =
          ap (λ (x : Run). row_of x (suc j)) is ∙ goes-row-other nx (suc e) v (suc j) (omega arith) (omega arith) (λ q. f (omega arith))
          ∙ acts-row a (suc j)

      line_after : (j : ℕ) → LineAfter now (suc e) (next_op (suc e) (row_of now (suc e)).state) (suc j) (line_of next (suc j))
      line_after j = rw lin (acts-line sound.shape (omega arith) (omega (arith, fits.given)) (suc j) (omega arith) a)

      line-keeps : (j : ℕ) → is_some (line_of now (suc j)) ≡ true → is_some (line_of next (suc j)) ≡ true
      line-keeps j w = go (line_after j)
        where
          go : LineAfter now (suc e) (next_op (suc e) (row_of now (suc e)).state) (suc j) (line_of next (suc j)) → is_some (line_of next (suc j)) ≡ true
          go (same q) = rw q w
          go (posted q s x) = rw x

      line-right : (j : ℕ) → j < n → (s : ℕ) → line_of next (suc j) ≡ Some s → s ≡ get_or inputs j 0
      line-right j k v w = go (line_after j)
        where
          go : LineAfter now (suc e) (next_op (suc e) (row_of now (suc e)).state) (suc j) (line_of next (suc j)) → v ≡ get_or inputs j 0
          go (same q) = sound.lines j k v (rw q at w)
          go (posted {s = s} q x y) =
              let z : j ≡ e = omega arith in
              let u : v ≡ s = cc in
              rw (u, z) (begun-input (rw (post-begins (suc e) (row_of now (suc e)).state s q) at (sound.rows e h)))

      acted : Sound l r n inputs start order (suc t)
      acted =
          record {
            shape = rw is (goes-shape shape-next (suc e) v);
            registers = x.0;
            lines = line-right;
            rows = λ j k. go j k (ℕ_discrete j e);
          }
        where
          x : BoardOk m P (suc t) × Ok e (absorb (depth n) (suc e) (row_of now (suc e)).state v) (suc (row_of now (suc e)).count)
          x = effect h names (board-now line-keeps) reg lin (row_now line-keeps e h) a

          go : (j : ℕ) → j < n → Dec (j ≡ e) → Ok j (row_of next (suc j)).state (row_of next (suc j)).count
          go j k (yes q) = rw (q, own_row, add-one) x.1
          go j k (no f) = rw (other_row j f) (row_now line-keeps j k)

    -- whatever operation it is, and whoever is named
    performed : (e : ℕ) {op : Op} {x : Turned} → e < n → 1 ≤ times_named order (suc t) (suc e) → next_op (suc e) (row_of now (suc e)).state ≡ op
        → Performs now (suc e) op x → next ≡ x.run → Sound l r n inputs start order (suc t)
    performed e h names o (acts {v = v} {next = nx} a) is = acted e v h (subst (λ (y : Op). Acts now (suc e) y v nx) (sym o) a) is names
    performed e h names o idles is = still is
    performed e h names o (misses q) is = still is

    by_turn : (i : ℕ) {x : Turned} → 1 ≤ times_named order (suc t) i → Turns now i x → next ≡ x.run → Sound l r n inputs start order (suc t)
    by_turn zero names (station w p) is = absurd (omega (arith, (named-station 0 sound.shape w).low))
    by_turn (suc e) names (station w p) is = performed e (named-station (suc e) sound.shape w).high names refl p is
    by_turn zero names (nobody w) is = still is
    by_turn (suc e) names (nobody w) is = still is

    pub sound-next : Sound l r n inputs start order (suc t)
    sound-next = by_turn (get_or order t 0) (named-once order t) (turns now (get_or order t 0)) (after_turn start order t)

    -- no line is read that has not been written: who gathers has only stations in its set that have posted
    never-missed : (i j : ℕ) → Station n i → next_op i (row_of now i).state ≡ ReadLine j → is_some (line_of now j) ≡ true
    never-missed zero j st q = absurd (omega (arith, st.low))
    never-missed (suc e) j st q = go (read-gathers (suc e) (row_of now (suc e)).state j q) (sound.rows e st.high)
      where
        go : {s : State} {c j : ℕ} → Gathers j s → RowOk (depth n) n inputs m (Posted start order n t) t e s c → is_some (line_of now j) ≡ true
        go gathering (gathers b s k g c) = (brought-posted b _ k).line

    unwritten-never : (i : ℕ) {op : Op} {x : Turned} → Station n i → next_op i (row_of now i).state ≡ op → Performs now i op x → x.did ≡ Unwritten → ⊥
    unwritten-never i st o (acts a) q = let z : ◌≡◌ {A = ℕ} 0 1 = cc in omega arith
    unwritten-never i st o idles q = let z : ◌≡◌ {A = ℕ} 0 1 = cc in omega arith
    unwritten-never i st o (misses {j = j} f) q = false≢true (ap is_some (sym f) ∙ never-missed i j st o)

    pub never-unwritten : (i : ℕ) → (turn now i).did ≡ Unwritten → ⊥
    never-unwritten i = go (turns now i)
      where
        go : {x : Turned} → Turns now i x → x.did ≡ Unwritten → ⊥
        go (station w p) q = unwritten-never i (named-station i sound.shape w) refl p q
        go (nobody w) q = let z : ◌≡◌ {A = ℕ} 0 1 = cc in omega arith

  pub always-sound : (t : ℕ) → Sound l r n inputs start order t
  always-sound zero = sound-first
  always-sound (suc t) = sound-next t (always-sound t)
