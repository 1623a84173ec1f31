-- The run record with another board, other lines, other rows, or another set in one register.
use Prim.Native.Nat.{ℕ}
use mathlib.Core.List.{List}
use lib.ListN.{get_or, set}
use Rattle.method.specs.declared.Level.{Level}
use Rattle.method.specs.declared.Row.{Row}
use Rattle.method.specs.declared.Run.{Run}
use Rattle.method.specs.Board.{empty_level}

abbrev pub with_board : Run → List Level → Run
with_board run b = record { stations = run.stations; depth = run.depth; board = b; lines = run.lines; rows = run.rows }

abbrev pub with_rows : Run → List Row → Run
with_rows run r = record { stations = run.stations; depth = run.depth; board = run.board; lines = run.lines; rows = r }

-- the level at an index, and with v in its register p
abbrev pub level_at : Run → ℕ → Level
level_at run l = get_or run.board l (empty_level 0)

abbrev pub with_cell : Run → ℕ → ℕ → ℕ → Run
with_cell run l p v = with_board run (set run.board l (record { sets = set (level_at run l).sets p v }))
