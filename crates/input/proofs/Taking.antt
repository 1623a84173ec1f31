-- For a caller of `read_all`: a whole text stands at the front of the buffer.
use Rattle.std.proofs.Common.{◌≡◌, ℕ, ◌≤◌, List, length, take}
use Rattle.std.specs.Prelude.{Result, Ok, IfOk}
use Rattle.std.specs.declared.io.Error.{Error}
use Rattle.std.proofs.lemmas.Result.{IfOk-at_ok}
use Rattle.input.specs.Within.{IsPrefixLen}

module _ {r : Result ℕ Error} {n : ℕ} (buffer : List ℕ) (whole : r ≡ Ok n) (within : IfOk r (λ m. IsPrefixLen m buffer)) where
  counts : IsPrefixLen n buffer
  counts = IfOk-at_ok _ whole within

  pub whole-within : n ≤ length buffer
  whole-within = counts.0

  pub whole_long : n ≡ length (take n buffer)
  whole_long = counts.1
