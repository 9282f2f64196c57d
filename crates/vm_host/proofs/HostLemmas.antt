-- What calls on a host keep, one after another.
use Rattle.std.proofs.Common.{◌∙◌, refl, arith}
use Rattle.vm_host.specs.Host.{HostMeaning, HostStays}

-- no call changes nothing
pub HostStays-refl : {S : Type 0} (host : HostMeaning S) (s : S) → HostStays host s s
HostStays-refl host s = record { moment = refl; closing = refl; timers = refl; faults = omega arith }

-- calls keep together what each of them keeps
pub HostStays-trans : {S : Type 0} (host : HostMeaning S) (a b c : S) → HostStays host a b → HostStays host b c → HostStays host a c
HostStays-trans host a b c first second = record {
  moment = second.moment ∙ first.moment;
  closing = second.closing ∙ first.closing;
  timers = second.timers ∙ first.timers;
  faults = omega (arith, first.faults, second.faults);
}
