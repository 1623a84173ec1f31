-- Codes: a field that is one, its number among the stocks, and the set of a station.
use Prim.Native.Nat.{ℕ, ◌≤◌, ◌<◌}
use mathlib.Core.Path.{◌≡◌, refl, sym}
use mathlib.Core.Bool.{Bool, true, false, not}
use mathlib.Core.List.{List, [], ◌∷◌, ◌++◌}
use native.Mathlib.Omega.{arith}
use lib.ListN.{length, take}
use lib.Seq.{length-take-le}
use borrow.Author.Tests.{lt-ltb, le-ltb}
use Rattle.std.specs.List.{position}
use Rattle.std.specs.Option.{unwrap_or}
use Rattle.std.specs.Prelude.{Option, Some, None}
use Rattle.std.proofs.lemmas.List.Quantifiers.{position-Some}
use Rattle.sets.specs.Absent.{unless_zero}
use Rattle.text.specs.Limits.{most_stocks, most_code}
use Rattle.text.specs.Text.{same}
use Rattle.text.specs.Code.{stock_of}
use Rattle.text.specs.Plan.{taken, no, code, holding, with_stock, add_stock}
use Rattle.text.specs.declared.Fault.TheVariants.{MoreStocks}
use Rattle.fields.specs.Measure.{length_of}
use Rattle.fields.proofs.Measured.{no_code, a-code, within}
use Rattle.fields.proofs.Scanned.{found}

twice : (t : Bool) → t ≡ not (not t)
twice true = refl
twice false = refl

-- where a code is found is its number, and a new one comes behind all
placed : (codes : List (List ℕ)) (c : List ℕ) (r : Option ℕ) → r ≡ position (λ d. same c d) codes → unwrap_or r (length codes) ≡ stock_of c codes
placed codes c r e = found (λ d. not (same c d)) (λ d. same c d) (λ d. twice (same c d)) codes r e

module _ (codes : List (List ℕ)) (set : ℕ) (c : List ℕ) where
  pub stock_known : (k : ℕ) → Some k ≡ position (λ d. same c d) codes → add_stock (holding codes set) c ≡ taken (holding codes (with_stock set k))
  unfolding add_stock
  stock_known k e =
      let here = position-Some (λ d. same c d) codes k [] (sym e) in
      rw (← placed codes c (Some k) e) (rw (lt-ltb k (length codes) here.0))

  pub stocks_full : None ≡ position (λ d. same c d) codes → most_stocks ≤ length codes → add_stock (holding codes set) c ≡ no MoreStocks
  unfolding add_stock
  stocks_full e m = rw (← placed codes c None e) (rw (le-ltb (length codes) (length codes) (omega arith), le-ltb (length codes) most_stocks m))

  pub stock_new : None ≡ position (λ d. same c d) codes → length codes < most_stocks
      → add_stock (holding codes set) c ≡ taken (holding (codes ++ (c ∷ [])) (with_stock set (length codes)))
  unfolding add_stock
  stock_new e m = rw (← placed codes c None e) (rw (le-ltb (length codes) (length codes) (omega arith), lt-ltb (length codes) most_stocks m))

pub ruleset stock_ways = (stock_known, stocks_full, stock_new)

module _ (f : List ℕ) (n : ℕ) (e : Some n ≡ unless_zero (length_of (code f))) where
  pub code_size : length (take n f) ≡ n
  code_size = length-take-le n f (within f n e).2

  pub code_short : length (take n f) ≤ most_code
  code_short = let m = within f n e in omega (arith, code_size)

pub ruleset code_ways = (no_code, a-code, code_size, code_short)
