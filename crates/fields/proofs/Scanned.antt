-- A scan by `position`, and the run that it finds.
use Prim.Native.Nat.{ℕ, ◌+◌, ◌≤◌}
use mathlib.Core.Path.{◌≡◌, refl, sym, ap, ◌∙◌}
use mathlib.Core.Bool.{Bool, true, false, cond, not}
use mathlib.Core.List.{List}
use native.Mathlib.Omega.{arith}
use lib.ListN.{length}
use lib.Dec.{ltb}
use borrow.Author.Tests.{ltb-false}
use Rattle.std.specs.List.{position, position_or_len}
use Rattle.std.specs.Option.{unwrap_or}
use Rattle.std.specs.Prelude.{Option, Some, None}
use Rattle.std.proofs.lemmas.List.Recursion.{is_position_or_len}
use Rattle.text.specs.Text.{run, run_more}
use Rattle.text.proofs.Pieces.{run-most}

step : (s t : Bool) (n : ℕ) → s ≡ not t → run_more t n ≡ cond s 0 (1 + n)
step s true n e = rw e (omega arith)
step s false n e = rw e

-- the place of the first that stops is how many in front pass
module _ {A : Type 0} (pass stop : A → Bool) (stops : (x : A) → stop x ≡ not (pass x)) where
  run-position : (l : List A) → run pass l ≡ position_or_len stop l
  unfolding run
  run-position l = is_position_or_len (run pass) stop refl (λ x xs. step (stop x) (pass x) (run pass xs) (stops x)) l

  -- where none stops all pass
  pub found : (l : List A) (r : Option ℕ) → r ≡ position stop l → unwrap_or r (length l) ≡ run pass l
  found l r e = ap (λ (o : Option ℕ). unwrap_or o (length l)) e ∙ by_cases (ltb n (length l)) refl ∙ sym (run-position l)
    where
      n : ℕ
      n = position_or_len stop l

      by_cases : (t : Bool) → ltb n (length l) ≡ t → unwrap_or (cond t (Some n) None) (length l) ≡ n
      by_cases true h = refl
      by_cases false h =
          let a : length l ≤ n = ltb-false n (length l) h in
          let m : run pass l ≤ length l = run-most pass l in
          let p : run pass l ≡ n = run-position l in
          omega arith
