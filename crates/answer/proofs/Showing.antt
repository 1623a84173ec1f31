-- What is shown of a station that gathers: number 1, and both sets empty.
use Rattle.std.proofs.Common.{ℕ, ◌≡◌, refl}
use Rattle.method.specs.declared.State.{State}
use Rattle.method.specs.declared.State.TheVariants.{Gathering}
use Rattle.answer.specs.declared.shown.Shown.{Shown}
use Rattle.answer.specs.Answer.{shown_of, state_number, stations_shown, stocks_shown}

pub record Shows (shown : Shown) (number stations stocks : ℕ) : Type 0 where
  pub number_is : state_number shown ≡ number
  pub stations_are : stations_shown shown ≡ stations
  pub stocks_are : stocks_shown shown ≡ stocks

pub gathering : {s : State} {S j got : ℕ} → s ≡ Gathering S j got → Shows (shown_of s) 1 0 0
gathering h = rw h (record { number_is = refl; stations_are = refl; stocks_are = refl })
