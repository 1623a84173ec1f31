use mathlib.Core.Path.{◌≡◌, ap, ◌∙◌}
use Rattle.text.specs.declared.Fault.{Fault}
use Rattle.text.specs.Refusal.{number_of}
use Rattle.text.specs.Plan.{refused, reading}
use Rattle.page.specs.Page.{put_behind}
use Rattle.report.proofs.Printing.{ReadOff, read_off, turns-long, prefix-long, ready, report-is, refused-off, refusal_is, place-small}
use Rattle.report.proofs.whole.put_printed.Goals as goal
use Rattle.report.proofs.whole.put_printed.Goals.{In-Ok, In-Err}

-- what a plan that was read hands out
off : (c : In-Ok) → ReadOff c.args.text.now c.in-Ok.counts c.read_plan.new.sets c.read_plan.new.codes c.read_plan.new.lens c.read_plan.new.turns
off c =
    let e = c.read_plan.ensures in
    read_off _ c.read_plan.result _ _ _ _ _ _ _ _ _ c.in-Ok.is e.answer e.sets e.codes e.lens e.turns

-- why it was refused
why : (c : In-Err) → (f : Fault) × (reading c.args.text.now ≡ refused f c.in-Err.field-0.place) × (number_of c.in-Err.field-0.fault ≡ number_of f)
why c = refused-off _ c.read_plan.result _ c.in-Err.is c.read_plan.ensures.answer

pub slice_bounds-turns-end : goal.slice_bounds-turns-end
slice_bounds-turns-end c = turns-long (off (goal.at.slice_bounds-turns-end c).In-Ok)

pub slice_bounds-put_report-end : goal.slice_bounds-put_report-end
slice_bounds-put_report-end c = prefix-long (off (goal.at.slice_bounds-put_report-end c).In-Ok)

pub put_report-requires : goal.put_report-requires
put_report-requires c = ready (off (goal.at.put_report-requires c).In-Ok)

pub overflow_cast-place : goal.overflow_cast-place
overflow_cast-place c = let w = why (goal.at.overflow_cast-place c).In-Err in record { fits = place-small _ w.0 _ w.1 }

pub returns-in-Ok : goal.returns-in-Ok
returns-in-Ok c = c.put_report.ensures ∙ ap (put_behind _) (report-is (off (goal.at.returns-in-Ok c).In-Ok))

pub returns-in-Err : goal.returns-in-Err
returns-in-Err c =
    let w = why (goal.at.returns-in-Err c).In-Err in
    c.put_refusal.ensures.text ∙ ap (put_behind _) (refusal_is _ _ w.0 _ _ w.1 w.2 (c.from-in-Err.ensures ∙ c.from.ensures))
