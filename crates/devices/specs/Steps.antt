-- How a supply of power is spent, step by step. Assumes nothing.
--
-- spent      the supply after so many steps; or, where the power fails in one of them, after how many and with which fault
-- taken      of that, whether the steps were made
-- left_by    and the supply that is left, which is off once the power failed
-- arming     the supply once it is armed for so many steps and a fault, which it is not without power
-- power_of   steady, armed or off
use Rattle.std.specs.Prelude.{ℕ, ◌-◌, cond, Ok, Err, Result, nat_lt}
use Rattle.flash.specs.declared.refusal.Refusal.{Refusal}
use Rattle.flash.specs.declared.refusal.Refusal.TheVariants.{NoPower}
use Rattle.flash.specs.Meaning.{Power, steady, armed, off}
use Rattle.devices.specs.declared.supply.Cut.{Cut}
use Rattle.devices.specs.declared.supply.Supply.{Supply}
use Rattle.devices.specs.declared.supply.Supply.TheVariants.{Steady, Armed, Off}

abbrev pub spent : Supply → ℕ → Result Supply Cut
spent Steady n = Ok Steady
spent (Armed left j) n = cond (nat_lt left n) (Err (record { after = left; fault = j })) (Ok (Armed (left - n) j))
spent Off n = Ok Off

-- the answer of a call that made its steps, or failed in one
abbrev pub Done : Type 0
Done = Result (Unit {0}) Cut

abbrev pub taken : Result Supply Cut → Done
taken (Ok s) = Ok tt
taken (Err c) = Err c

abbrev pub left_by : Result Supply Cut → Supply
left_by (Ok s) = s
left_by (Err c) = Off

abbrev pub arming : Supply → ℕ → ℕ → Result Supply Refusal
arming Steady n j = Ok (Armed n j)
arming (Armed left k) n j = Ok (Armed n j)
arming Off n j = Err NoPower

abbrev pub power_of : Supply → Power
power_of Steady = steady
power_of (Armed left j) = armed
power_of Off = off
