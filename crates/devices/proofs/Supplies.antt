-- What a supply of power comes to, step by step.
use Rattle.std.proofs.Common.{◌≡◌, ℕ, ◌+◌, ◌-◌, ◌*◌, ◌/◌, ◌<◌, ◌≤◌, Bool, true, false, cond, ltb, Ok, Err, refl, ap, mul-le-mul_right, suc-mul, div-mul-le_self, arith}
use Rattle.std.proofs.lemmas.Bool.{ltb-true}
use Rattle.flash.specs.Meaning.{armed}
use Rattle.devices.specs.declared.supply.Cut.{Cut}
use Rattle.devices.specs.declared.supply.Supply.{Supply}
use Rattle.devices.specs.declared.supply.Supply.TheVariants.{Steady, Armed, Off}
use Rattle.devices.specs.Steps.{spent, power_of}

-- steps that succeed leave the power as it is
pub spent_power : (s s' : Supply) (n : ℕ) → Ok s' ≡ spent s n → power_of s' ≡ power_of s
spent_power Steady s' n h = let e : s' ≡ Steady = cc in ap power_of e
spent_power (Armed left j) s' n h = go (ltb left n) _ h
  where
    go : (t : Bool) (c : Cut) → Ok s' ≡ cond t (Err c) (Ok (Armed (left - n) j)) → power_of s' ≡ power_of (Armed left j)
    go true c h = absurd (cc)
    go false c h = let e : s' ≡ Armed (left - n) j = cc in ap power_of e
spent_power Off s' n h = let e : s' ≡ Off = cc in ap power_of e

-- only an armed supply fails
pub cut_armed : (s : Supply) (n : ℕ) (c : Cut) → Err c ≡ spent s n → power_of s ≡ armed
cut_armed Steady n c h = absurd (cc)
cut_armed (Armed left j) n c h = refl
cut_armed Off n c h = absurd (cc)

-- the power fails before all the steps are made
pub cut_before : (s : Supply) (n : ℕ) (c : Cut) → Err c ≡ spent s n → c.after < n
cut_before Steady n c h = absurd (cc)
cut_before (Armed left j) n c h = go (ltb left n) refl h
  where
    go : (t : Bool) → ltb left n ≡ t → Err c ≡ cond t (Err (record { after = left; fault = j })) (Ok (Armed (left - n) j)) → c.after < n
    go true t h = let e : c.after ≡ left = cc in let l = ltb-true left n t in omega arith
    go false t h = absurd (cc)
cut_before Off n c h = absurd (cc)

-- the page that fails is one of the run's
pub cut_fits : (p : ℕ) (s : Supply) (c : Cut) (n : ℕ) → Err c ≡ spent s (n / p) → c.after * p + p ≤ n
cut_fits p s c n h = omega (arith, mul-le-mul_right p (cut_before s (n / p) c h), suc-mul c.after p, div-mul-le_self n p)
