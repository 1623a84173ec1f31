-- What is known of a station that has settled.
use mathlib.Core.Path.{◌≡◌, refl}
use mathlib.Core.Bool.{true, false≢true}
use mathlib.Core.List.{List}
use mathlib.Core.Logic.{◌⊎◌, inl, inr}
use Prim.Native.Nat.{ℕ, zero, suc, ◌-◌, ◌≤◌}
use native.Mathlib.Omega.{arith}
use borrow.Author.Tests.{eqb-true}
use Rattle.sets.specs.Mask.{bit, holds, Inside}
use Rattle.method.specs.declared.State.{State}
use Rattle.method.specs.declared.State.TheVariants.{NotBegun, Uniting, Gathering, Settled}
use Rattle.method.specs.Board.{depth, fresh_on}
use Rattle.method.specs.Turn.{after}
use Rattle.method.specs.Demand.{Fits, Station, SettledOn, gathered, times_named, is_settled}
use Rattle.method.proofs.Brought.{History, Brought, brought-mono, brought-posted, comparable}
use Rattle.method.proofs.Rows.{RowOk, settled}
use Rattle.method.proofs.Gathering.{gathered-mono}
use Rattle.method.proofs.Moments as M
use Rattle.method.proofs.Moments.{Posted, lasting, always-sound}

pub record Agreed (n : ℕ) (inputs : List ℕ) (m : History) (P : ℕ → Type 0) (e S stocks : ℕ) : Type 0 where
  pub brought : Brought m P (depth n) 0 S
  pub self : bit S e ≡ 1
  pub union : stocks ≡ gathered inputs S n

agreed : {n t e S x c : ℕ} {inputs : List ℕ} {m : History} {P : ℕ → Type 0} → RowOk (depth n) n inputs m P t e (Settled S x) c → Agreed n inputs m P e S x
agreed (settled b s g k) = record { brought = b; self = s; union = g }

pub settled_on : (s : State) → is_settled s ≡ true → (S : ℕ) × (x : ℕ) × (s ≡ Settled S x)
settled_on (NotBegun x) q = absurd (false≢true q)
settled_on (Uniting k own other side round) q = absurd (false≢true q)
settled_on (Gathering S j got) q = absurd (false≢true q)
settled_on (Settled S x) q = (S, x, refl)

module _ {l r n : ℕ} {inputs : List ℕ} (fits : Fits l r n inputs) (turns : List ℕ) where
  abbrev pub AgreedAt : ℕ → ℕ → ℕ → ℕ → Type 0
  AgreedAt t i S x = Agreed n inputs (M.board (fresh_on l r n inputs) turns) (Posted (fresh_on l r n inputs) turns n t) (i - 1) S x

  pub agrees : (t i S x : ℕ) → Station n i → SettledOn (after (fresh_on l r n inputs) turns t) i S x → AgreedAt t i S x
  agrees t zero S x st q = absurd (omega (arith, st.low))
  agrees t (suc e) S x st q =
      let z : suc e - 1 ≡ e = omega arith in
      rw z (agreed (rw q at ((always-sound l r n inputs fits turns t).rows e st.high)))

  -- two settled sets stand in one chain, and so do their stocks
  pub chain : (t u i j S T x y : ℕ) → AgreedAt t i S x → AgreedAt u j T y → (Inside S T × Inside x y) ⊎ (Inside T S × Inside y x)
  chain t u i j S T x y a b =
      go (comparable (lasting l r n inputs turns) {P = λ z. Unit {0}} (brought-mono (λ z w. tt) a.brought) (brought-mono (λ z w. tt) b.brought))
    where
      go : Inside S T ⊎ Inside T S → (Inside S T × Inside x y) ⊎ (Inside T S × Inside y x)
      go (inl k) = inl (k, rw (a.union, b.union) (gathered-mono inputs S T n k))
      go (inr k) = inr (k, rw (a.union, b.union) (gathered-mono inputs T S n k))

  -- a member has posted, so it has been named
  pub member-named : (t i S x : ℕ) → AgreedAt t i S x → (j : ℕ) → holds S j ≡ true → Station n j × (1 ≤ times_named turns t j)
  unfolding holds
  member-named t i S x a zero k = absurd (false≢true k)
  member-named t i S x a (suc f) k =
      let p = brought-posted a.brought f (eqb-true (bit S f) 1 k) in
      (record { low = omega arith; high = p.within }, p.named)
