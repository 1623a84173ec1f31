use Rattle.std.proofs.Common.{◌∙◌, sym, ap}
use Rattle.text.specs.Limits.{most_code}
use Rattle.text.specs.Buffers.{padded}
use Rattle.text.proofs.Lengths.{padded-none}
use Rattle.plan.proofs.Handed.{no_cells, zero_cells, cells_filled, cells_whole, lens_more}
use Rattle.plan.proofs.buffers.put_codes.Goals as goal

pub loop-k-init : goal.loop-k-init
loop-k-init c = record { filled = no_cells; cells = zero_cells; lens = padded-none 64 }

pub loop-k-preserved : goal.loop-k-preserved
loop-k-preserved c =
    let l = c.loop-k in
    let bytes = c.bytes.ensures in
    let is = bytes.value ∙ c.index-codes-k.is in
    let cell = c.cell.ensures ∙ ap (padded most_code) (sym bytes.value) in
    record {
      filled = cells_filled _ _ _ c.loop-k-test.true c.requires _ is bytes.short l.invariant.filled;
      cells = cells_whole _ _ _ c.loop-k-test.true c.requires _ is bytes.short l.invariant.filled _ _ _ l.invariant.cells cell c.put.ensures;
      lens = lens_more _ _ _ c.loop-k-test.true c.requires _ is bytes.short l.invariant.filled _ l.invariant.lens;
    }
