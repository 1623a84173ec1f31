use Rattle.std.proofs.Common.{◌≡◌, drop, position}
use Rattle.std.specs.List.{position_from}
use Rattle.text.specs.Text.{same}
use Rattle.plan.proofs.codes.Codes.stock_of.Given as goal

-- the code is not among those that are passed
abbrev pub invariant-loop-k : goal.invariant-loop-k
invariant-loop-k l = position (λ known. same l.code known) l.self ≡ position_from (λ known. same l.code known) l.k (drop l.k l.self)
