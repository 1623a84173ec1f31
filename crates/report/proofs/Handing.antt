-- A text handed out in a buffer, whole or not at all.
use Prim.Native.Nat.{ℕ, ◌≤◌, ◌<◌}
use mathlib.Core.Path.{◌≡◌}
use mathlib.Core.List.{List, ◌++◌}
use borrow.Author.Tests.{le-leb, lt-leb}
use lib.ListN.{length, drop}
use Rattle.std.specs.Prelude.{Ok, Err}
use Rattle.report.specs.Printed.{answer_of, buffer_of}

pub too_small : (text out : List ℕ) → length out < length text → (Err (record {}) ≡ answer_of text (length out)) × (out ≡ buffer_of text out)
unfolding answer_of buffer_of
too_small text out h = (rw (lt-leb (length text) (length out) h), rw (lt-leb (length text) (length out) h))

pub handed : (text out : List ℕ) → length text ≤ length out → (Ok (length text) ≡ answer_of text (length out)) × (text ++ drop (length text) out ≡ buffer_of text out)
unfolding answer_of buffer_of
handed text out h = (rw (le-leb (length text) (length out) h), rw (le-leb (length text) (length out) h))
