-- A simulation of which nothing has happened yet has a run.
use Rattle.std.proofs.Common.{◌≡◌, ℕ, Bool, ap₂, subst, sym}
use Rattle.can_bus.specs.Laws.{DueLater, DueLaterFromNothing, FramesCome, SoundStays}
use Rattle.can_bus.specs.Meaning.{BusMeaning}
use Rattle.node_rounds.specs.Reaction.{NodeState}
use Rattle.node_run.specs.Code.{CodeMemory, by_code, code_reaction}
use Rattle.node_run.specs.Sound.{CanOccur, IsSound}
use Rattle.run_meaning.specs.Run.{IsRun, RunState, new_run}
use Rattle.run_meaning.proofs.EachRun.{run_there}
use Rattle.sim_core.specs.Core.{CoreState, HasARun, run_of, states_of}
use Rattle.sim_core.specs.Inside.Kept.{IsFresh}
use Rattle.sim_core.proofs.CodeLives.{code_lives}

-- a run from how a fresh simulation stands
pub fresh_has_a_run : {B : Type 0} (bus : BusMeaning B) → FramesCome bus → SoundStays bus → DueLater bus → DueLaterFromNothing bus → (core : CoreState B) → IsFresh bus core → HasARun bus core
fresh_has_a_run {B} bus come stays goes_on begins core fresh =
    let there =
    run_there by_code IsSound CanOccur code_lives bus come stays goes_on begins core.until (states_of core.nodes) core.bus core.keys core.requests fresh.ready fresh.later fresh.sound_bus fresh.new_bus
    fresh.keys_can fresh.requests_can fresh.frames in
    let at : ℕ → Bool → RunState (NodeState CodeMemory) B = λ moment stops. record (run_of core) { moment = moment; stops = stops } in
    let same : new_run (states_of core.nodes) core.bus core.keys core.requests ≡ run_of core = ap₂ at (sym fresh.at_zero) (sym fresh.not_stopped) in
    record {
      rounds = there.0;
      end = there.1;
      is_run = subst (λ (s : RunState (NodeState CodeMemory) B). IsRun code_reaction bus core.until s there.0 there.1) same there.2;
    }
