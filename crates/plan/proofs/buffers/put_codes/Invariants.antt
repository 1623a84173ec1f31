use Rattle.std.proofs.Common.{◌≡◌, ◌*◌, length, take, map}
use Rattle.text.specs.Limits.{most_stocks, most_code}
use Rattle.text.specs.Buffers.{padded, cells_of}
use Rattle.plan.proofs.buffers.put_codes.Given as goal

-- the first k codes stand in their cells
abbrev pub invariant-loop-k : goal.invariant-loop-k
invariant-loop-k l = record {
  filled : length (cells_of (take l.k l.codes)) ≡ l.k * most_code;
  cells : l.cells ≡ padded (most_stocks * most_code) (cells_of (take l.k l.codes));
  lens : l.lens ≡ padded most_stocks (map length (take l.k l.codes));
}
