-- What the database that a scenario names decides.
use Rattle.std.proofs.Common.{◌≡◌, ℕ, List, Option, Some, Result, Err, sym, subst}
use Rattle.std.specs.Prelude.{IsErrAnd}
use Rattle.sim_outside.specs.Files.{beside}
use Rattle.capl_include.specs.Expansion.{Contents}
use Rattle.dbc_reader.specs.declared.message.DbcMessage.{DbcMessage}
use Rattle.sim_inputs.specs.Accepted.{BaseAt, DatabaseAt, IsBaseBlame, IsDatabaseBlame}
use Rattle.input_refusals.specs.Agreement.{Agrees}
use Rattle.sim_inputs.specs.Inside.Messages.{messages_in}
use Rattle.input_refusals.specs.declared.refusal.InputRefusal.{InputRefusal}
use Rattle.input_refusals.proofs.Passing.{passed_on}

-- a refusal of the database is one of the scenario's
pub base_refused : (contents : Contents) (name joined file : List ℕ) (database : Option (List ℕ)) (refusal : InputRefusal) (result : Result (Option (List DbcMessage)) InputRefusal) →
    database ≡ Some file → joined ≡ beside name file → IsErrAnd result (λ e. e ≡ refusal) →
    Agrees {A = List DbcMessage} (DatabaseAt contents joined) (IsDatabaseBlame contents joined) (Err refusal) →
    Agrees (λ base. BaseAt contents name database (messages_in base)) (IsBaseBlame contents name database) result
base_refused contents name joined file database refusal result is joins errs agrees =
    subst (λ d. Agrees (λ base. BaseAt contents name d (messages_in base)) (IsBaseBlame contents name d) result) (sym is)
    (passed_on {A = List DbcMessage} (DatabaseAt contents joined) (IsDatabaseBlame contents joined) (λ base. BaseAt contents name (Some file) (messages_in base)) (IsBaseBlame contents name (Some file))
    refusal result errs (λ blame wrong. subst (λ j. IsDatabaseBlame contents j blame) joins wrong) agrees)

-- the database is the scenario's
pub base_found : (contents : Contents) (name joined file : List ℕ) (database : Option (List ℕ)) (base : List DbcMessage) →
    database ≡ Some file → joined ≡ beside name file → DatabaseAt contents joined base → BaseAt contents name database base
base_found contents name joined file database base is joins at =
    subst (λ d. BaseAt contents name d base) (sym is) (subst (λ j. DatabaseAt contents j base) joins at)
