-- A scenario that replays no log.
use Rattle.std.proofs.Common.{[], refl}
use Rattle.input_refusals.specs.Agreement.{Agrees}
use Rattle.input_refusals.proofs.Passing.{told_always}
use Rattle.sim_inputs.specs.Accepted.{IsReplayBlame, ReplayAt}
use Rattle.sim_inputs.proofs.ReplayLemmas.{without_log}
use Rattle.sim_inputs.proofs.replay.read_replay.Goals as goal

pub returns-in_default-clause-told : goal.returns-in_default-clause-told
returns-in_default-clause-told g c =
    let name = c.args.name.now in
    let scenario = c.args.scenario.now in
    told_always (g.F.Files.held c.args.files.now) (λ contents. Agrees (ReplayAt contents name scenario) (IsReplayBlame contents name scenario.replay) c.replay_of.result)
    (λ contents. without_log contents name name [] scenario c.replay_of.result c.in_default.is refl c.replay_of.ensures.judged)
