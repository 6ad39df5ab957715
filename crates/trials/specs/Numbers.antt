-- offence_number   the number of an offence, 0 where there is none. Assumes nothing.
use Rattle.std.specs.Prelude.{ℕ, Some, None, Option}
use Rattle.flash.specs.declared.refusal.Refusal.{Refusal}
use Rattle.flash.specs.Numbers.{number_of}

abbrev pub offence_number : Option Refusal → ℕ
offence_number None = 0
offence_number (Some refusal) = number_of refusal
