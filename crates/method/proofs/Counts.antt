-- The counts of a run: what a turn adds to them, and how large they get.
use mathlib.Core.Path.{◌≡◌, refl, sym, ap, ◌∙◌}
use mathlib.Core.Bool.{cond, Bool, true, false, not, ◌&&◌, and-true, true≢false}
use mathlib.Core.List.{List}
use mathlib.Core.Logic.{◌≢◌}
use Prim.Native.Nat.{ℕ, zero, suc, ◌+◌, ◌*◌, ◌^◌, ◌≤◌, ◌<◌, zero-le}
use native.Mathlib.Nat.{le_refl, le_of_lt, ne_of_lt, add-zero}
use native.Mathlib.Decide.{ℕ_discrete, le_ind}
use native.Mathlib.Omega.{arith}
use borrow.Author.Tests.{eq-eqb, ne_eqb}
use lib.Dec.{eqb}
use lib.ListN.{get_or}
use lib.Pow.{pow_pos}
use Rattle.sets.proofs.Members.{below_power}
use Rattle.method.specs.declared.State.{State}
use Rattle.method.specs.declared.Row.{Row}
use Rattle.method.specs.declared.Run.{Run}
use Rattle.method.specs.declared.Did.TheVariants.{Operation, Idle}
use Rattle.method.specs.Board.{depth, fresh_on, row_of}
use Rattle.method.specs.Turn.{turn, after}
use Rattle.method.specs.Demand.{Fits, Station, one, times_named, is_settled, turns_unsettled, is_idle, did_of, idle_turns, counts_of, sharp_operations}
use Rattle.method.proofs.Brought.{History, brought-posted}
use Rattle.method.proofs.Rows.{RowOk, begins, unites, gathers, settled}
use Rattle.method.proofs.Parts.{fresh-row}
use Rattle.method.proofs.Turns.{RowAfter, worked, rested, turn-row, turn-row-other}
use Rattle.method.proofs.Moments.{Sound, always-sound, never-unwritten, after_turn}

one-most : (b : Bool) → one b ≤ 1
one-most true = le_refl 1
one-most false = zero-le

-- ---- how large a count gets

-- the levels above level d + 1 leave room for their operations
room : (d N : ℕ) → d < N → 6 * 2 ^ suc d + 3 * N ≤ 6 * 2 ^ N + 3 * suc d
room d N h =
    le_ind (λ (x : ℕ). 6 * 2 ^ suc d + 3 * x ≤ 6 * 2 ^ x + 3 * suc d) (le_refl (6 * 2 ^ suc d + 3 * suc d)) (λ x k ih. omega (arith, pow_pos x)) N h

module _ {N n : ℕ} {inputs : List ℕ} {m : History} {P : ℕ → Type 0} {t e : ℕ} (few : (j : ℕ) → P j → j < n) (h : e < n) where
  unsettled-less : {s : State} {c : ℕ} → RowOk N n inputs m P t e s c → is_settled s ≡ false → c + 3 * N + 5 < 6 * 2 ^ N + n
  unsettled-less begins q = omega (arith, below_power N)
  unsettled-less (unites {d = d} p s w k) q = omega (arith, room d N p.within, k.most)
  unsettled-less (gathers {j = j} b s w g k) q = omega (arith, few j (brought-posted b j w))
  unsettled-less (settled b s g k) q = absurd (true≢false q)

  never-more : {s : State} {c : ℕ} → RowOk N n inputs m P t e s c → c + 3 * N + 5 ≤ 6 * 2 ^ N + n
  never-more begins = le_of_lt (unsettled-less begins refl)
  never-more (unites {round = round} p s w k) = le_of_lt (unsettled-less (unites {round = round} p s w k) refl)
  never-more (gathers b s w g k) = le_of_lt (unsettled-less (gathers b s w g k) refl)
  never-more (settled b s g k) = k

within-sharp : (n c : ℕ) → c + 3 * depth n + 5 ≤ 6 * 2 ^ depth n + n → c ≤ sharp_operations n
unfolding sharp_operations
within-sharp n c h = omega (arith, below_power (depth n))

module _ (l r n : ℕ) (inputs : List ℕ) (fits : Fits l r n inputs) (order : List ℕ) where
  abbrev start : Run
  start = fresh_on l r n inputs

  abbrev run : ℕ → Run
  run t = after start order t

  sound : (t : ℕ) → Sound l r n inputs start order t
  sound = always-sound l r n inputs fits order

  abbrev names : ℕ → ℕ
  names t = get_or order t 0

  -- the row of a station that is not named, and of one that is
  row_other : (t i : ℕ) → 1 ≤ i → i ≢ names t → row_of (run (suc t)) i ≡ row_of (run t) i
  row_other t i h f = rw after_turn (turn-row-other (names t) i (sound t).shape h f)

  row_named : (t i : ℕ) → Station n i → i ≡ names t → RowAfter (run t) i (turn (run t) (names t))
  row_named t i s q =
      rw (← q) (turn-row i (sound t).shape fits.given s (never-unwritten l r n inputs fits order t (sound t) i))

  pub turn-was : (t : ℕ) → Station n (names t) → did_of start order t ≡ cond (is_settled (row_of (run t) (names t)).state) Idle Operation
  unfolding did_of
  turn-was t s = go (row_named t (names t) s refl)
    where
      go : RowAfter (run t) (names t) (turn (run t) (names t)) → (turn (run t) (names t)).did ≡ cond (is_settled (row_of (run t) (names t)).state) Idle Operation
      go (worked f d c) = rw (f, d)
      go (rested f d q) = rw (f, d)

  -- a settled station's row stays
  settled-stays : (t i : ℕ) → Station n i → is_settled (row_of (run t) i).state ≡ true → row_of (run (suc t)) i ≡ row_of (run t) i
  settled-stays t i s h = go (ℕ_discrete i (names t))
    where
      done : RowAfter (run t) i (turn (run t) (names t)) → row_of (run (suc t)) i ≡ row_of (run t) i
      done (worked f d c) = absurd (true≢false (sym h ∙ f))
      done (rested f d q) = ap (λ (x : Run). row_of x i) (after_turn start order t ∙ q)

      go : Dec (i ≡ names t) → row_of (run (suc t)) i ≡ row_of (run t) i
      go (yes q) = done (row_named t i s q)
      go (no f) = row_other t i s.low f

  pub settled-row : (t u i : ℕ) → Station n i → t ≤ u → is_settled (row_of (run t) i).state ≡ true → row_of (run u) i ≡ row_of (run t) i
  settled-row t u i s l' h = le_ind (λ (x : ℕ). row_of (run x) i ≡ row_of (run t) i) refl (λ x k e. settled-stays x i s (rw e h) ∙ e) u l'

  -- a count is the number of turns that named the station while it had not settled
  pub count-is : (t i : ℕ) → Station n i → (row_of (run t) i).count ≡ turns_unsettled start order t i
  unfolding turns_unsettled after
  count-is zero zero s = absurd (omega (arith, s.low))
  count-is zero (suc e) s = ap (λ (x : Row). x.count) (fresh-row l r n inputs e)
  count-is (suc t) i s = go (ℕ_discrete i (names t)) (count-is t i s)
    where
      go : Dec (i ≡ names t) → (row_of (run t) i).count ≡ turns_unsettled start order t i
          → (row_of (run (suc t)) i).count ≡ turns_unsettled start order t i + one (eqb (names t) i && not (is_settled (row_of (run t) i).state))
      go (yes q) ih = done (row_named t i s q)
        where
          done : RowAfter (run t) i (turn (run t) (names t))
              → (row_of (run (suc t)) i).count ≡ turns_unsettled start order t i + one (eqb (names t) i && not (is_settled (row_of (run t) i).state))
          done (worked f d c) = rw (eq-eqb (names t) i (sym q), f, after_turn, c, ih)
          done (rested f d e) = rw (eq-eqb (names t) i (sym q), f, after_turn, e, ih, add-zero)
      go (no f) ih = rw (ne_eqb (names t) i (λ e. f (sym e)), row_other t i s.low f, ih, add-zero)

  -- the bound
  pub count_most : (t i : ℕ) → Station n i → (row_of (run t) i).count ≤ sharp_operations n
  count_most t zero s = absurd (omega (arith, s.low))
  count_most t (suc e) s = within-sharp n _ (never-more (λ j p. p.within) s.high ((sound t).rows e s.high))

  count-unsettled : (t i : ℕ) → Station n i → is_settled (row_of (run t) i).state ≡ false → (row_of (run t) i).count < sharp_operations n
  count-unsettled t zero s q = absurd (omega (arith, s.low))
  count-unsettled t (suc e) s q =
      let k = unsettled-less (λ j p. p.within) s.high ((sound t).rows e s.high) q in
      within-sharp n (suc (row_of (run t) (suc e)).count) (omega arith)

  -- one that has not settled has counted every turn that named it
  unsettled-named : (t i : ℕ) → Station n i → is_settled (row_of (run t) i).state ≡ false → turns_unsettled start order t i ≡ times_named order t i
  unfolding turns_unsettled times_named
  unsettled-named zero i s q = refl
  unsettled-named (suc t) i s q = go (is_settled (row_of (run t) i).state) refl (unsettled-named t i s)
    where
      go : (w : Bool) → is_settled (row_of (run t) i).state ≡ w
          → (is_settled (row_of (run t) i).state ≡ false → turns_unsettled start order t i ≡ times_named order t i)
          → turns_unsettled start order t i + one (eqb (names t) i && not (is_settled (row_of (run t) i).state))
          ≡ times_named order t i + one (eqb (names t) i)
      go true w ih = absurd (true≢false (sym w ∙ ap (λ (x : Row). is_settled x.state) (sym (settled-stays t i s w)) ∙ q))
      go false w ih = rw (ih w, w, and-true)

  pub settles : (t i : ℕ) → Station n i → sharp_operations n ≤ times_named order t i → is_settled (row_of (run t) i).state ≡ true
  settles t i s h = go (is_settled (row_of (run t) i).state) refl
    where
      go : (w : Bool) → is_settled (row_of (run t) i).state ≡ w → is_settled (row_of (run t) i).state ≡ true
      go true w = w
      go false w = absurd (omega (arith, count-unsettled t i s w, count-is t i s, unsettled-named t i s w))

  -- ---- the turns that named i and were counted are no more than the turns
  pub count-turns : (t i : ℕ) → turns_unsettled start order t i ≤ t
  unfolding turns_unsettled
  count-turns zero i = le_refl 0
  count-turns (suc t) i = omega (arith, count-turns t i, one-most (eqb (names t) i && not (is_settled (row_of (run t) i).state)))

  -- ---- counts and idle turns make up the turns

  counts-first : (k : ℕ) → counts_of (run 0) k ≡ 0
  unfolding counts_of after
  counts-first zero = refl
  counts-first (suc k) = omega (arith, counts-first k, ap (λ (x : Row). x.count) (fresh-row l r n inputs k))

  -- a turn of station i that adds one to its count adds one to the counts of the first k, if i is among them
  module _ (t : ℕ) (more : (row_of (run (suc t)) (names t)).count ≡ (row_of (run t) (names t)).count + 1) where
    counts-below : (k : ℕ) → k < names t → counts_of (run (suc t)) k ≡ counts_of (run t) k
    unfolding counts_of
    counts-below zero h = refl
    counts-below (suc k) h = rw (row_other t (suc k) (omega arith) (ne_of_lt h)) (omega (arith, counts-below k (omega arith)))

    counts-above : (k : ℕ) → 1 ≤ names t → names t ≤ k → counts_of (run (suc t)) k ≡ suc (counts_of (run t) k)
    unfolding counts_of
    counts-above zero h l' = absurd (omega arith)
    counts-above (suc k) h l' = go (ℕ_discrete (suc k) (names t)) (counts-above k h)
      where
        go : Dec (suc k ≡ names t) → (names t ≤ k → counts_of (run (suc t)) k ≡ suc (counts_of (run t) k))
            → counts_of (run (suc t)) k + (row_of (run (suc t)) (suc k)).count ≡ suc (counts_of (run t) k + (row_of (run t) (suc k)).count)
        go (yes q) ih = let b = counts-below k (omega arith) in rw q (omega (arith, more))
        go (no f) ih = rw (row_other t (suc k) (omega arith) f) (omega (arith, ih (omega arith)))

  pub counts-and-idle : (t : ℕ) → ((u : ℕ) → u < t → Station n (names u)) → counts_of (run t) n + idle_turns start order t ≡ t
  unfolding idle_turns did_of
  counts-and-idle zero st = omega (arith, counts-first n)
  counts-and-idle (suc t) st = go (row_named t (names t) (st t (le_refl (suc t))) refl) (counts-and-idle t (λ u h. st u (omega arith)))
    where
      go : RowAfter (run t) (names t) (turn (run t) (names t)) → counts_of (run t) n + idle_turns start order t ≡ t
          → counts_of (run (suc t)) n + (idle_turns start order t + one (is_idle (turn (run t) (names t)).did)) ≡ suc t
      go (worked f d c) ih =
          let i = st t (le_refl (suc t)) in
          let x = counts-above t (ap (λ (y : Run). (row_of y (names t)).count) (after_turn start order t) ∙ c) n i.low i.high in
          rw d (omega arith)
      go (rested f d q) ih = rw (d, after_turn start order t, q) (omega arith)
