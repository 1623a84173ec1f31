-- The board and the run record: MODEL 1 and 2. "Stations, levels, arrays and registers are counted from 1".
use Rattle.std.specs.Prelude.{ℕ, zero, suc, ◌-◌, ◌^◌, true, false, Option, None, Some, List, map, leb, get_or, set, replicate}
use Rattle.sets.specs.Limits.{most_stations}
use Rattle.sets.specs.Arrays.{place}
use Rattle.method.specs.declared.Level.{Level}
use Rattle.method.specs.declared.State.{State}
use Rattle.method.specs.declared.State.TheVariants.{NotBegun}
use Rattle.method.specs.declared.Row.{Row}
use Rattle.method.specs.declared.Run.{Run}

-- "four levels with a row of 16 registers each"
abbrev pub levels : ℕ
levels = 4

abbrev pub registers : ℕ
registers = most_stations

-- "the least N such that 2^N is not below n": the first from N on, looking at no more than `most` of them
unfoldable pub depth_from : ℕ → ℕ → ℕ → ℕ
depth_from zero N n = N
depth_from (suc most) N n = elim (leb n (2 ^ N)) [ true ↦ N | false ↦ depth_from most (suc N) n ]

unfoldable pub depth : ℕ → ℕ
depth n = depth_from n 0 n

-- a posting line that has been written with these stocks, and one that has not
abbrev pub written : ℕ → Option ℕ
written s = Some s

abbrev pub unwritten : Option ℕ
unwritten = None

-- a row of r registers, "all are empty at first"
abbrev pub empty_level : ℕ → Level
empty_level r = record { sets = replicate r 0 }

-- a station in this state, with this count
abbrev pub row : State → ℕ → Row
row s c = record { state = s; count = c }

-- a station that has not begun and has these stocks
abbrev pub not_begun : ℕ → Row
not_begun s = row (NotBegun s) 0

-- the run record before the first turn, on a board of l levels with r registers each and a line for each input
unfoldable pub fresh_on : ℕ → ℕ → ℕ → List ℕ → Run
fresh_on l r n inputs =
    record {
      stations = n;
      depth = depth n;
      board = replicate l (empty_level r);
      lines = map (λ (s : ℕ). unwritten) inputs;
      rows = map not_begun inputs;
    }

unfoldable pub fresh : ℕ → List ℕ → Run
fresh n inputs = fresh_on levels registers n inputs

-- what the run record holds: the row of station i, the line of station j, register j of array c at level k
unfoldable pub row_of : Run → ℕ → Row
row_of run i = get_or run.rows (i - 1) (not_begun 0)

unfoldable pub line_of : Run → ℕ → Option ℕ
line_of run j = get_or run.lines (j - 1) unwritten

unfoldable pub level_of : Run → ℕ → Level
level_of run k = get_or run.board (k - 1) (empty_level 0)

unfoldable pub register_of : Run → ℕ → ℕ → ℕ → ℕ
register_of run k c j = get_or (level_of run k).sets (place k c j - 1) 0

-- the run record with one of these put anew
unfoldable pub with_row : Run → ℕ → Row → Run
with_row run i r = record { stations = run.stations; depth = run.depth; board = run.board; lines = run.lines; rows = set run.rows (i - 1) r }

unfoldable pub with_line : Run → ℕ → Option ℕ → Run
with_line run j l = record { stations = run.stations; depth = run.depth; board = run.board; lines = set run.lines (j - 1) l; rows = run.rows }

unfoldable pub with_register : Run → ℕ → ℕ → ℕ → ℕ → Run
with_register run k c j v =
    record {
      stations = run.stations;
      depth = run.depth;
      board = set run.board (k - 1) (record { sets = set (level_of run k).sets (place k c j - 1) v });
      lines = run.lines;
      rows = run.rows;
    }
