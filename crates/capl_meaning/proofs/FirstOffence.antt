-- Of some offences one is the first.
use Rattle.std.proofs.Common.{arith}
use Rattle.std.proofs.lemmas.List.Elements.{All-contains}
use Rattle.std.specs.Prelude.{◌≡◌, List}
use Rattle.capl_meaning.specs.declared.offence.Offence.{Offence}
use Rattle.capl_meaning.specs.Offences.{IsFirst, IsNoLater}

-- two offences that are both the first come at one time
pub record AreAtOnce (a b : Offence) : Type 0 where
  pub file : a.file ≡ b.file
  pub token : a.token ≡ b.token
  pub rule : a.rule.number ≡ b.rule.number

-- two offences of which neither comes later come at one time
at_once : (a b : Offence) → IsNoLater a b → IsNoLater b a → AreAtOnce a b
at_once a b one other = record {
  file = omega (arith, one, other);
  token = omega (arith, one, other);
  rule = omega (arith, one, other);
}

-- two first ones of some offences come at one time
pub firsts_at_once : (offences : List Offence) (a b : Offence) → IsFirst a offences → IsFirst b offences →
    AreAtOnce a b
firsts_at_once offences a b one other =
    at_once a b (All-contains (IsNoLater a) offences b one.earliest other.among)
    (All-contains (IsNoLater b) offences a other.earliest one.among)
