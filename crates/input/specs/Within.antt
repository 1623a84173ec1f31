-- What was read lies within the buffer, and is what the reader gave, where its bytes are known.
use Rattle.std.specs.Prelude.{◌≡◌, ◌≢◌, ◌<◌, ◌≤◌, ℕ, List, length, take, Option, None, Some}
use Rattle.std.specs.Io.KnownBytes.{Consumes, IsAtEnd}
use Rattle.std.specs.IoError.{error_kind}
use Rattle.std.specs.declared.io.Error.{Error}
use Rattle.std.specs.declared.io.ErrorKind.TheVariants.{Interrupted}

-- `&xs[..n]` is in bounds and has n bytes: a whole text of n bytes stands at the front of the buffer
abbrev pub IsPrefixLen : ℕ → List ℕ → Type 0
IsPrefixLen n xs = (n ≤ length xs) × (n ≡ length (take n xs))

-- the reader gave the whole text of n bytes, and then was at its end, or the buffer is full
abbrev pub Gave : Option (List ℕ) → Option (List ℕ) → ℕ → List ℕ → Type 0
Gave old new n buffer = Consumes old new (take n buffer) × (n < length buffer → IsAtEnd new)

-- one read gave the bytes that it brought, and at an end that is no full buffer there are no more
abbrev pub GaveSome : Option (List ℕ) → Option (List ℕ) → Option ℕ → List ℕ → Type 0
GaveSome old new (Some n) rest = Consumes old new (take n rest)
GaveSome old new None rest = Consumes old new (take 0 rest) × (0 < length rest → IsAtEnd new)

-- a failure is no signal
abbrev pub NoSignal : Error → Type 0
NoSignal e = error_kind e ≢ Interrupted
