-- A turn by its parts: who makes one, what the operation leaves on the board and brings, and the row after it.
use Rattle.std.specs.Prelude.{ℕ, ◌+◌, Bool, ◌&&◌, Result, Ok, Err, leb, ltb}
use Rattle.std.specs.Option.{ok_or}
use Rattle.method.specs.declared.Op.{Op}
use Rattle.method.specs.declared.Op.TheVariants.{Post, Write, Read, ReadLine, Rest}
use Rattle.method.specs.declared.Did.{Did}
use Rattle.method.specs.declared.Did.TheVariants.{Idle, Unwritten}
use Rattle.method.specs.declared.Row.{Row}
use Rattle.method.specs.declared.Run.{Run}
use Rattle.method.specs.Board.{registers, row, line_of, register_of, with_line, with_register, written}
use Rattle.method.specs.Steps.{absorb}

-- a count is two bytes wide on the record
abbrev pub count_end : ℕ
count_end = 65535

-- i is a station of n, and its row has room in its count
abbrev pub may_turn : ℕ → ℕ → ℕ → Bool
may_turn n i count = leb 1 i && leb i n && leb i registers && ltb count count_end

-- the record with station i's operation made on the board
abbrev pub left : Run → ℕ → Op → Run
left run i (Post stocks) = with_line run i (written stocks)
left run i (Write k c j v) = with_register run k c j v
left run i (Read k c j) = run
left run i (ReadLine j) = run
left run i Rest = run

-- what the operation brings, or what the turn was where none is made
abbrev pub brought : Run → Op → Result ℕ Did
brought run (Post stocks) = Ok 0
brought run (Write k c j v) = Ok 0
brought run (Read k c j) = Ok (register_of run k c j)
brought run (ReadLine j) = ok_or (line_of run j) Unwritten
brought run Rest = Err Idle

-- station i's row goes on with what its operation brought, of N levels
abbrev pub onward : ℕ → ℕ → Row → ℕ → Row
onward N i r v = row (absorb N i r.state v) (r.count + 1)
