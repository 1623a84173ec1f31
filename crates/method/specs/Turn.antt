-- A turn and a run: MODEL 6. "A turn names a station, which makes its next operation".
use Rattle.std.specs.Prelude.{ℕ, zero, suc, ◌+◌, Bool, cond, ◌&&◌, Option, None, Some, List, leb, length, get_or}
use Rattle.method.specs.declared.Op.{Op}
use Rattle.method.specs.declared.Op.TheVariants.{Post, Write, Read, ReadLine, Rest}
use Rattle.method.specs.declared.Run.{Run}
use Rattle.method.specs.declared.Did.{Did}
use Rattle.method.specs.declared.Did.TheVariants.{Operation, Idle, Unwritten, Nobody}
use Rattle.method.specs.declared.Turned.{Turned}
use Rattle.method.specs.Board.{row, row_of, line_of, register_of, with_row, with_line, with_register, written}
use Rattle.method.specs.Steps.{next_op, absorb}

abbrev pub turned : Run → Did → Turned
turned run did = record { run = run; did = did }

-- station i's operation brought v: its row goes on, and counts one turn more
unfoldable pub goes_on : Run → ℕ → ℕ → Run
goes_on run i v = with_row run i (row (absorb run.depth i (row_of run i).state v) ((row_of run i).count + 1))

-- a line is read only if it has been written; an empty one that was written is as good as any
abbrev pub read_line : Run → ℕ → Option ℕ → Turned
read_line run i (Some stocks) = turned (goes_on run i stocks) Operation
read_line run i None = turned run Unwritten

-- the operation is made on the board, and what it brings goes to station i: "A settled station is idle: its turn changes nothing."
unfoldable pub perform : Run → ℕ → Op → Turned
perform run i (Post stocks) = turned (goes_on (with_line run i (written stocks)) i 0) Operation
perform run i (Write k c j v) = turned (goes_on (with_register run k c j v) i 0) Operation
perform run i (Read k c j) = turned (goes_on run i (register_of run k c j)) Operation
perform run i (ReadLine j) = read_line run i (line_of run j)
perform run i Rest = turned run Idle

-- a station of the run, with a row on the record
unfoldable pub named : Run → ℕ → Bool
named run i = leb 1 i && leb i run.stations && leb i (length run.rows)

unfoldable pub turn : Run → ℕ → Turned
turn run i = cond (named run i) (perform run i (next_op i (row_of run i).state)) (turned run Nobody)

-- the run record after the first t turns of the order
unfoldable pub after : Run → List ℕ → ℕ → Run
after run turns zero = run
after run turns (suc t) = (turn (after run turns t) (get_or turns t 0)).run
