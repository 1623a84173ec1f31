-- What holds of a station's row at a moment t, where m is the board's history and Posted says which stations have posted by then. The station
-- is e + 1, its own block at level d is e / 2 ^ d.
use mathlib.Core.Path.{◌≡◌, refl}
use mathlib.Core.Bool.{Bool, true, false}
use mathlib.Core.List.{List}
use Prim.Native.Nat.{ℕ, suc, ◌+◌, ◌*◌, ◌/◌, ◌^◌, ◌≤◌, ◌<◌}
use native.Mathlib.Nat.{le_trans}
use lib.ListN.{get_or}
use Rattle.sets.specs.Mask.{size, bit}
use Rattle.sets.proofs.Blocks.{sibling}
use Rattle.method.specs.declared.Reading.{Reading}
use Rattle.method.specs.declared.Side.{Side}
use Rattle.method.specs.declared.Side.TheVariants.{Own, Other}
use Rattle.method.specs.declared.Round.{Round}
use Rattle.method.specs.declared.Round.TheVariants.{First, Unchanged, Changed}
use Rattle.method.specs.declared.State.{State}
use Rattle.method.specs.declared.State.TheVariants.{NotBegun, Uniting, Gathering, Settled}
use Rattle.method.specs.Steps.{pending}
use Rattle.method.specs.Demand.{gathered}
use Rattle.method.proofs.Brought.{History, Lasting, Full, Stood, Brought, brought-mono, full-later}
use Rattle.method.proofs.Potential.{left}

-- the reading of block b's array: its set was brought there, and the registers that it knows of are filled
pub record Read (m : History) (Posted : ℕ → Type 0) (t d b : ℕ) (r : Reading) : Type 0 where
  pub brought : Brought m Posted d b r.set
  pub full : Full m t d b r.known
  pub known : r.known ≤ size r.set

-- it has nothing left to write
pub record Written (r : Reading) : Type 0 where
  pub all : r.known ≡ size r.set

-- A round in which neither array has changed so far. The first ones and those that have changed are alike.
abbrev pub calm : Round → Bool
calm First = false
calm Unchanged = true
calm Changed = false

-- What the union has seen, on its way through own block b and other block c. In a calm round there was a moment at which other stood as it was
-- read, and own was full as far as it was read; once own is read again, it has stood so at that moment too.
pub data Seen (m : History) (t d b c : ℕ) (own other : Reading) : Side → Bool → Type 0 where
  own_open : Written other → Seen m t d b c own other Own false
  other_open : Written own → Seen m t d b c own other Other false
  own_calm : {u : ℕ} → Written own → Written other → u ≤ t → Full m u d b (size own.set) → Stood m u d c other.set → Seen m t d b c own other Own true
  other_calm : {u : ℕ} → Written own → Written other → u ≤ t → Stood m u d b own.set → Stood m u d c other.set → Seen m t d b c own other Other true

-- empty registers to be read after this round, if nothing changes; with those of this round
abbrev pub rest : Bool → ℕ
rest false = 2
rest true = 0

abbrev pub due : Side → Bool → ℕ
due Own b = suc (suc (rest b))
due Other b = suc (rest b)

-- the side that is read
abbrev pub at : Side → Reading → Reading → Reading
at Own own other = own
at Other own other = other

-- a union at level d + 1
pub record Pair (N : ℕ) (m : History) (Posted : ℕ → Type 0) (t e d : ℕ) (own other : Reading) : Type 0 where
  pub within : d < N
  pub ours : Read m Posted t d (e / 2 ^ d) own
  pub theirs : Read m Posted t d (sibling (e / 2 ^ d)) other
  pub self : bit own.set e ≡ 1

-- the operations so far, and those that the union may still make
pub record Spent (d e k j c : ℕ) : Type 0 where
  pub most : c + left (2 ^ d) e k j + 3 * d + 8 ≤ 12 * 2 ^ d

pub data RowOk (N n : ℕ) (inputs : List ℕ) (m : History) (Posted : ℕ → Type 0) (t e : ℕ) : State → ℕ → Type 0 where
  begins : RowOk N n inputs m Posted t e (NotBegun (get_or inputs e 0)) 0
  unites : {d c : ℕ} {own other : Reading} {side : Side} {round : Round} → Pair N m Posted t e d own other
      → Seen m t d (e / 2 ^ d) (sibling (e / 2 ^ d)) own other side (calm round) → pending (suc d) (at side own other) ≡ true
      → Spent d (due side (calm round)) own.known other.known c → RowOk N n inputs m Posted t e (Uniting (suc d) own other side round) c
  gathers : {S j got c : ℕ} → Brought m Posted N 0 S → bit S e ≡ 1 → bit S j ≡ 1 → got ≡ gathered inputs S j → c + 3 * N + 5 ≤ 6 * 2 ^ N + j
      → RowOk N n inputs m Posted t e (Gathering S (suc j) got) c
  settled : {S got c : ℕ} → Brought m Posted N 0 S → bit S e ≡ 1 → got ≡ gathered inputs S n → c + 3 * N + 5 ≤ 6 * 2 ^ N + n
      → RowOk N n inputs m Posted t e (Settled S got) c

-- a station that has not begun has its input
pub begun-input : {N n t e s c : ℕ} {inputs : List ℕ} {m : History} {P : ℕ → Type 0} → RowOk N n inputs m P t e (NotBegun s) c → s ≡ get_or inputs e 0
begun-input begins = refl

-- all of it lasts
module _ {m : History} (board : Lasting m) {P Q : ℕ → Type 0} (more : (e : ℕ) → P e → Q e) {t v : ℕ} (l : t ≤ v) where
  read-later : {d b : ℕ} {r : Reading} → Read m P t d b r → Read m Q v d b r
  read-later r = record { brought = brought-mono more r.brought; full = full-later board l r.full; known = r.known }

  seen-later : {d b c : ℕ} {own other : Reading} {side : Side} {calm : Bool} → Seen m t d b c own other side calm → Seen m v d b c own other side calm
  seen-later (own_open x) = own_open x
  seen-later (other_open x) = other_open x
  seen-later (own_calm x y u f s) = own_calm x y (le_trans u l) f s
  seen-later (other_calm x y u f s) = other_calm x y (le_trans u l) f s

  pub row-later : {N n e c : ℕ} {inputs : List ℕ} {s : State} → RowOk N n inputs m P t e s c → RowOk N n inputs m Q v e s c
  row-later begins = begins
  row-later (unites p s q c) =
      unites (record { within = p.within; ours = read-later p.ours; theirs = read-later p.theirs; self = p.self }) (seen-later s) q c
  row-later (gathers b s j g c) = gathers (brought-mono more b) s j g c
  row-later (settled b s g c) = settled (brought-mono more b) s g c
