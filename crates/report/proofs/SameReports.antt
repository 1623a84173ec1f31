-- Demand 2, of what is printed. The theorem is `same-printed`.
use Prim.Native.Nat.{ℕ, ◌≤◌}
use mathlib.Core.Path.{◌≡◌, ap}
use mathlib.Core.List.{List}
use lib.ListN.{length}
use Rattle.text.specs.Limits.{most_bytes}
use Rattle.text.specs.Text.{lines_of}
use Rattle.text.specs.Alike.{Each, Alike}
use Rattle.text.proofs.SameStocks.{same-reading}
use Rattle.report.specs.Printed.{report_of, printed}

-- Two texts of at most 32,768 bytes that differ only in how many spaces stand behind codes print the same report, byte by byte.
pub same-printed : (t u : List ℕ) → length t ≤ most_bytes → length u ≤ most_bytes → Each Alike (lines_of t) (lines_of u) → printed t ≡ printed u
unfolding printed
same-printed t u ht hu rs = ap report_of (same-reading t u ht hu rs)
