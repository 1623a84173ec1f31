use native.Mathlib.Omega.{arith}
use mathlib.Core.Path.{refl, ap, ◌∙◌}
use Rattle.page.specs.Page.{put_behind}
use Rattle.report.proofs.Running.{counts-and-idle, report-is}
use Rattle.report.proofs.taken.Taken.put_report.Goals as goal

pub counted-requires : goal.counted-requires
counted-requires c =
    let few = c.requires.few in
    rw c.from.ensures (omega (arith, counts-and-idle _ _ _ c.requires _ _ c.fresh.ensures c.play_out-played.ensures))

pub overflow_sub-idle : goal.overflow_sub-idle
overflow_sub-idle c =
    let counts = rw c.from.ensures at c.counted.ensures in
    omega (arith, counts, counts-and-idle _ _ _ c.requires _ _ c.fresh.ensures c.play_out-played.ensures)

pub returns : goal.returns
returns c =
    c.put_report.ensures.text
    ∙ ap (put_behind _) (report-is _ _ _ c.requires _ _ c.fresh.ensures c.play_out-played.ensures _ _ _ (rw c.from.ensures at c.counted.ensures) refl)
