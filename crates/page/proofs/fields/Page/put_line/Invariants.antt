use mathlib.Core.Path.{◌≡◌}
use Rattle.page.specs.Page.{put_behind}
use Rattle.page.proofs.Laying.{begun}
use Rattle.page.proofs.fields.Page.put_line.Given as goal

abbrev pub invariant-loop-field : goal.invariant-loop-field
invariant-loop-field l = l.self ≡ put_behind l.fn.self (begun l.word l.fields l.field-index)
