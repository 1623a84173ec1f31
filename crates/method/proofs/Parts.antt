-- What the run record holds after one part of it was put anew. Nothing past this file looks into the record.
use mathlib.Core.Path.{◌≡◌, refl, sym, ap, ◌∙◌}
use mathlib.Core.List.{List}
use mathlib.Core.Logic.{◌≢◌, ◌⊎◌, inl, inr}
use Prim.Native.Nat.{ℕ, zero, suc, ◌+◌, ◌-◌, ◌*◌, ◌^◌, ◌≤◌, ◌<◌}
use native.Mathlib.Decide.{ℕ_discrete, dec_lt}
use native.Mathlib.Omega.{arith}
use lib.ListN.{length, get_or, set, replicate, length-set, length-map, length-replicate, get_or-replicate, get_or-map}
use lib.Seq.{get_or-set_same, get_or-set_other, set_out}
use Rattle.sets.specs.Arrays.{place}
use Rattle.sets.proofs.Blocks.{place-of-block, same_place, block_within}
use Rattle.std.specs.Prelude.{Option}
use Rattle.method.specs.declared.Level.{Level}
use Rattle.method.specs.declared.Row.{Row}
use Rattle.method.specs.declared.Run.{Run}
use Rattle.method.specs.Board.{depth, unwritten, empty_level, not_begun, fresh_on, row_of, line_of, level_of, register_of, with_row, with_line, with_register}

-- a run record for n stations, with l levels of r registers, and a line and a row for each of w inputs
pub record Shape (l r n w : ℕ) (run : Run) : Type 0 where
  pub counted : run.stations ≡ n
  pub deep : run.depth ≡ depth n
  pub levels : length run.board ≡ l
  pub registers : (k : ℕ) → k < l → length (level_of run (suc k)).sets ≡ r
  pub lines : length run.lines ≡ w
  pub rows : length run.rows ≡ w

-- numbers from 1 as places from 0
from_one : (e : ℕ) → suc e - 1 ≡ e
from_one e = omega arith

-- ---- before the first turn

none-held : (r p : ℕ) → get_or {A = ℕ} (replicate r 0) p 0 ≡ 0
none-held zero p = refl
none-held (suc r) zero = refl
none-held (suc r) (suc p) = none-held r p

board-empty : (l r k p : ℕ) → get_or (get_or (replicate l (empty_level r)) k (empty_level 0)).sets p 0 ≡ 0
board-empty zero r k p = refl
board-empty (suc l) r zero p = none-held r p
board-empty (suc l) r (suc k) p = board-empty l r k p

module _ (l r n : ℕ) (inputs : List ℕ) where
  pub fresh-shape : Shape l r n (length inputs) (fresh_on l r n inputs)
  unfolding fresh_on level_of
  fresh-shape =
      record {
        counted = refl;
        deep = refl;
        levels = length-replicate l (empty_level r);
        registers = λ k h. rw (from_one, get_or-replicate l k (empty_level r) (empty_level 0) h) (length-replicate r 0);
        lines = length-map inputs _;
        rows = length-map inputs _;
      }

  pub fresh-register : (k c j : ℕ) → register_of (fresh_on l r n inputs) k c j ≡ 0
  unfolding fresh_on level_of register_of
  fresh-register k c j = board-empty l r (k - 1) (place k c j - 1)

  pub fresh-line : (j : ℕ) → line_of (fresh_on l r n inputs) j ≡ unwritten
  unfolding fresh_on line_of
  fresh-line j = get_or-map (λ (s : ℕ). unwritten) inputs (j - 1) 0

  pub fresh-row : (e : ℕ) → row_of (fresh_on l r n inputs) (suc e) ≡ not_begun (get_or inputs e 0)
  unfolding fresh_on row_of
  fresh-row e = rw from_one (get_or-map not_begun inputs e 0)

-- ---- a register put anew, wherever it is

-- a level is as it was, or it is the one that holds the register
abbrev LevelCases : Run → ℕ → ℕ → ℕ → ℕ → ℕ → Type 0
LevelCases run k c j v k' =
    (level_of (with_register run k c j v) k' ≡ level_of run k')
    ⊎ ((k' - 1 ≡ k - 1) × (level_of (with_register run k c j v) k' ≡ record { sets = set (level_of run k).sets (place k c j - 1) v }))

level-cases : (run : Run) (k c j v k' : ℕ) → LevelCases run k c j v k'
unfolding with_register level_of
level-cases run k c j v k' = go (ℕ_discrete (k' - 1) (k - 1)) (dec_lt (k - 1) (length run.board))
  where
    go : Dec (k' - 1 ≡ k - 1) → Dec (k - 1 < length run.board) → LevelCases run k c j v k'
    go (no f) d = inl (get_or-set_other run.board (k - 1) (k' - 1) _ (empty_level 0) f)
    go (yes q) (no f) = inl (ap (λ (x : List Level). get_or x (k' - 1) (empty_level 0)) (set_out run.board (k - 1) _ (omega arith)))
    go (yes q) (yes h) = inr (q, rw q (get_or-set_same run.board (k - 1) _ (empty_level 0) h))

-- a register is as it was, or it is the one put anew
pub data Put (run : Run) (k c j v k' c' j' : ℕ) : Type 0 where
  kept : register_of (with_register run k c j v) k' c' j' ≡ register_of run k' c' j' → Put run k c j v k' c' j'
  anew : register_of (with_register run k c j v) k' c' j' ≡ v → k' - 1 ≡ k - 1 → place k' c' j' - 1 ≡ place k c j - 1 → Put run k c j v k' c' j'

pub register-cases : (run : Run) (k c j v k' c' j' : ℕ) → Put run k c j v k' c' j'
unfolding register_of level_of
register-cases run k c j v k' c' j' =
    go (level-cases run k c j v k') (ℕ_discrete (place k' c' j' - 1) (place k c j - 1)) (dec_lt (place k c j - 1) (length (level_of run k).sets))
  where
    there : {x y : Level} → x ≡ y → get_or x.sets (place k' c' j' - 1) 0 ≡ get_or y.sets (place k' c' j' - 1) 0
    there q = ap (λ (L : Level). get_or L.sets (place k' c' j' - 1) 0) q

    level : k' - 1 ≡ k - 1 → level_of run k ≡ level_of run k'
    level q = ap (λ (x : ℕ). get_or run.board x (empty_level 0)) (sym q)

    go : LevelCases run k c j v k' → Dec (place k' c' j' - 1 ≡ place k c j - 1) → Dec (place k c j - 1 < length (level_of run k).sets) → Put run k c j v k' c' j'
    go (inl q) d h = kept (there q)
    go (inr q) (no f) h = kept (there q.1 ∙ get_or-set_other (level_of run k).sets (place k c j - 1) (place k' c' j' - 1) v 0 f ∙ there (level q.0))
    go (inr q) (yes e) (no f) =
        kept
        (there q.1 ∙ ap (λ (x : List ℕ). get_or x (place k' c' j' - 1) 0) (set_out (level_of run k).sets (place k c j - 1) v (omega arith))
        ∙ there (level q.0))
    go (inr q) (yes e) (yes h) = anew (there q.1 ∙ rw e (get_or-set_same (level_of run k).sets (place k c j - 1) v 0 h)) q.0 e

-- ---- a row put anew

module _ {l r n w : ℕ} {run : Run} (shape : Shape l r n w run) where
  pub row_put : (i : ℕ) (x : Row) → 1 ≤ i → i ≤ w → row_of (with_row run i x) i ≡ x
  unfolding row_of with_row
  row_put i x p h = get_or-set_same run.rows (i - 1) x (not_begun 0) (omega (arith, shape.rows))

  pub row-shape : (i : ℕ) (x : Row) → Shape l r n w (with_row run i x)
  unfolding with_row level_of
  row-shape i x =
      record {
        counted = shape.counted;
        deep = shape.deep;
        levels = shape.levels;
        registers = shape.registers;
        lines = shape.lines;
        rows = length-set run.rows (i - 1) x ∙ shape.rows;
      }

  -- ---- a line put anew

  pub line-put : (i : ℕ) (x : Option ℕ) → 1 ≤ i → i ≤ w → line_of (with_line run i x) i ≡ x
  unfolding line_of with_line
  line-put i x p h = get_or-set_same run.lines (i - 1) x unwritten (omega (arith, shape.lines))

  pub line-shape : (i : ℕ) (x : Option ℕ) → Shape l r n w (with_line run i x)
  unfolding with_line level_of
  line-shape i x =
      record {
        counted = shape.counted;
        deep = shape.deep;
        levels = shape.levels;
        registers = shape.registers;
        lines = length-set run.lines (i - 1) x ∙ shape.lines;
        rows = shape.rows;
      }

  -- ---- a register put anew, on a board that has it

  pub register-put : (N d b p v : ℕ) → d < l → d ≤ N → b < 2 ^ (N - d) → p < 2 ^ d → 2 ^ N ≤ r
      → register_of (with_register run (suc d) (suc b) (suc p) v) (suc d) (suc b) (suc p) ≡ v
  unfolding register_of with_register level_of
  register-put N d b p v h k x y z =
      let q : suc d - 1 < length run.board = omega (arith, shape.levels) in
      let f : place (suc d) (suc b) (suc p) - 1 < length (level_of run (suc d)).sets = omega (arith, place-of-block d b p, block_within N d b p k x y, shape.registers d h) in
      ap (λ (L : Level). get_or L.sets (place (suc d) (suc b) (suc p) - 1) 0) (get_or-set_same run.board (suc d - 1) _ (empty_level 0) q)
      ∙ get_or-set_same (level_of run (suc d)).sets (place (suc d) (suc b) (suc p) - 1) v 0 f

  pub register-shape : (k c j v : ℕ) → Shape l r n w (with_register run k c j v)
  unfolding with_register level_of
  register-shape k c j v =
      record {
        counted = shape.counted;
        deep = shape.deep;
        levels = length-set run.board (k - 1) _ ∙ shape.levels;
        registers = λ k' h. go k' h (level-cases run k c j v (suc k'));
        lines = shape.lines;
        rows = shape.rows;
      }
    where
      go : (k' : ℕ) → k' < l → LevelCases run k c j v (suc k') → length (level_of (with_register run k c j v) (suc k')).sets ≡ r
      go k' h (inl q) = rw q (shape.registers k' h)
      go k' h (inr q) = rw q.1 (length-set (level_of run k).sets (place k c j - 1) v ∙ rw (← q.0) (shape.registers k' h))

pub row_kept : (run : Run) (i j : ℕ) (x : Row) → 1 ≤ i → 1 ≤ j → j ≢ i → row_of (with_row run i x) j ≡ row_of run j
unfolding row_of with_row
row_kept run i j x p q h = get_or-set_other run.rows (i - 1) (j - 1) x (not_begun 0) (λ e. h (omega arith))

pub line_kept : (run : Run) (i j : ℕ) (x : Option ℕ) → 1 ≤ i → 1 ≤ j → j ≢ i → line_of (with_line run i x) j ≡ line_of run j
unfolding line_of with_line
line_kept run i j x p q h = get_or-set_other run.lines (i - 1) (j - 1) x unwritten (λ e. h (omega arith))

-- of registers that an array has, only the one that was meant is put anew
pub put-there : (d b p d' b' p' : ℕ) → p < 2 ^ d → p' < 2 ^ d' → suc d' - 1 ≡ suc d - 1
    → place (suc d') (suc b') (suc p') - 1 ≡ place (suc d) (suc b) (suc p) - 1 → (d' ≡ d) × (b' ≡ b) × (p' ≡ p)
put-there d b p d' b' p' h h' q s =
    let x : d' ≡ d = omega arith in
    let y : b' * 2 ^ d + p' ≡ b * 2 ^ d + p =
    ap (λ (z : ℕ). b' * 2 ^ z + p') (sym x) ∙ sym (place-of-block d' b' p') ∙ s ∙ place-of-block d b p in
    let z = same_place d b' p' b p (rw x at h') h y in
    (x, z.0, z.1)
