-- The laws by which a field's number is read, for the check.
use Rattle.sets.proofs.Absent.{unless-present}
use Rattle.text.proofs.Numbers.{field-none, first-low, first-high, first-digit, past, on-digit, on-low, on-high, to_end}

pub ruleset digits = (unless-present, field-none, first-low, first-high, first-digit, past, on-digit, on-low, on-high, to_end)
