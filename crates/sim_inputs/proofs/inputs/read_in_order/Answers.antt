-- What the files of the inputs decide, one after another.
use Rattle.std.proofs.Common.{List, Option, Err, inl, inr, subst, ◌∙◌}
use Rattle.std.specs.Prelude.{IfSome}
use Rattle.check_names.specs.Names.{messages_of}
use Rattle.dbc_reader.specs.declared.message.DbcMessage.{DbcMessage}
use Rattle.sim_inputs.specs.Answer.{AreInputsOf, IsAnswer}
use Rattle.sim_inputs.specs.Accepted.{BaseAt, IsBaseBlame, IsNodesBlame, IsReplayBlame, ReplayAt, ScenarioAt}
use Rattle.input_refusals.specs.Agreement.{Agrees}
use Rattle.sim_inputs.specs.Inside.Codes.{AreNodeCodes}
use Rattle.sim_inputs.specs.Inside.Messages.{messages_in}
use Rattle.replay_node.specs.declared.replay.Replay.{Replay}
use Rattle.sim_inputs.specs.declared.inputs.Inputs.{Inputs}
use Rattle.sim_inputs.specs.declared.nodes.NodeCodes.{NodeCodes}
use Rattle.sim_inputs.proofs.InputsLemmas.{coded_of, inputs_of, lent_base, nodes_blame, refused_answer, replay_blame, told_from_four}
use Rattle.input_refusals.proofs.Passing.{told_from_two, told_from_three}
use Rattle.sim_inputs.proofs.inputs.read_in_order.Goals as goal

-- the database is to blame
pub returns-in_err-base-clause-told : goal.returns-in_err-base-clause-told
returns-in_err-base-clause-told g c =
    let name = c.args.name.now in
    let scenario = c.in_ok-scenario.scenario in
    let refusal = c.in_err-base.field-0.0 in
    let held = g.F.Files.held c.args.files.now in
    told_from_two held (λ contents. ScenarioAt contents name scenario)
    (λ contents. Agrees {A = Option (List DbcMessage)} (λ base. BaseAt contents name scenario.database (messages_in base)) (IsBaseBlame contents name scenario.database) (Err refusal))
    (λ contents. IsAnswer contents name c.from_residual-in_err-base.result)
    (λ contents at agrees. refused_answer contents name {B = Option (List DbcMessage)} (λ base. BaseAt contents name scenario.database (messages_in base)) (IsBaseBlame contents name scenario.database)
    refusal c.from_residual-in_err-base.result c.from_residual-in_err-base.ensures.1 (λ blame wrong. inr (scenario, at, inl wrong)) agrees)
    c.in_ok-scenario.ensures.told
    (subst (λ h. IfSome h (λ contents. Agrees {A = Option (List DbcMessage)} (λ base. BaseAt contents name scenario.database (messages_in base)) (IsBaseBlame contents name scenario.database) (Err refusal)))
    c.in_ok-scenario.ensures.contents_stay c.in_err-base.ensures.told)

-- a node is to blame
pub returns-in_err-nodes-clause-told : goal.returns-in_err-nodes-clause-told
returns-in_err-nodes-clause-told g c =
    let name = c.args.name.now in
    let scenario = c.in_ok-scenario.scenario in
    let base = c.in_ok-base.base in
    let lent = messages_of c.as_ref.result in
    let nodes = c.deref.result.now in
    let refusal = c.in_err-nodes.field-0.0 in
    told_from_three (g.F.Files.held c.args.files.now) (λ contents. ScenarioAt contents name scenario) (λ contents. BaseAt contents name scenario.database (messages_in base))
    (λ contents. Agrees (λ (made : NodeCodes). AreNodeCodes contents name lent nodes made.codes.items made.files) (IsNodesBlame contents name lent 0 0 nodes) (Err refusal))
    (λ contents. IsAnswer contents name c.from_residual-in_err-nodes.result)
    (λ contents at base_at agrees.
    refused_answer contents name (λ (made : NodeCodes). AreNodeCodes contents name lent nodes made.codes.items made.files) (IsNodesBlame contents name lent 0 0 nodes) refusal c.from_residual-in_err-nodes.result
    c.from_residual-in_err-nodes.ensures.1
    (λ blame wrong. nodes_blame contents name scenario lent nodes blame at (lent_base contents name scenario.database base c.as_ref.result c.as_ref.ensures.value base_at) c.deref.ensures.value wrong) agrees)
    c.in_ok-scenario.ensures.told
    (subst (λ h. IfSome h (λ contents. BaseAt contents name scenario.database (messages_in base))) c.in_ok-scenario.ensures.contents_stay c.in_ok-base.ensures.told)
    (subst (λ h. IfSome h (λ contents. Agrees (λ (made : NodeCodes). AreNodeCodes contents name lent nodes made.codes.items made.files) (IsNodesBlame contents name lent 0 0 nodes) (Err refusal)))
    (c.in_ok-base.ensures.contents_stay ∙ c.in_ok-scenario.ensures.contents_stay) c.in_err-nodes.ensures.told)

-- the log that is replayed is to blame
pub returns-in_err-replay-clause-told : goal.returns-in_err-replay-clause-told
returns-in_err-replay-clause-told g c =
    let name = c.args.name.now in
    let scenario = c.in_ok-scenario.scenario in
    let base = c.in_ok-base.base in
    let lent = messages_of c.as_ref.result in
    let nodes = c.deref.result.now in
    let made = c.in_ok-nodes.nodes in
    let refusal = c.in_err-replay.field-0.0 in
    told_from_four (g.F.Files.held c.args.files.now) (λ contents. ScenarioAt contents name scenario) (λ contents. BaseAt contents name scenario.database (messages_in base))
    (λ contents. AreNodeCodes contents name lent nodes made.codes.items made.files)
    (λ contents. Agrees {A = Replay} (ReplayAt contents name scenario) (IsReplayBlame contents name scenario.replay) (Err refusal))
    (λ contents. IsAnswer contents name c.from_residual-in_err-replay.result)
    (λ contents at base_at are agrees.
    refused_answer contents name {B = Replay} (ReplayAt contents name scenario) (IsReplayBlame contents name scenario.replay) refusal c.from_residual-in_err-replay.result
    c.from_residual-in_err-replay.ensures.1
    (λ blame wrong. replay_blame contents name scenario lent nodes made.codes.items made.files blame at
    (lent_base contents name scenario.database base c.as_ref.result c.as_ref.ensures.value base_at) c.deref.ensures.value are wrong) agrees)
    c.in_ok-scenario.ensures.told
    (subst (λ h. IfSome h (λ contents. BaseAt contents name scenario.database (messages_in base))) c.in_ok-scenario.ensures.contents_stay c.in_ok-base.ensures.told)
    (subst (λ h. IfSome h (λ contents. AreNodeCodes contents name lent nodes made.codes.items made.files)) (c.in_ok-base.ensures.contents_stay ∙ c.in_ok-scenario.ensures.contents_stay) c.in_ok-nodes.ensures.told)
    (subst (λ h. IfSome h (λ contents. Agrees {A = Replay} (ReplayAt contents name scenario) (IsReplayBlame contents name scenario.replay) (Err refusal)))
    (c.in_ok-nodes.ensures.contents_stay ∙ c.in_ok-base.ensures.contents_stay ∙ c.in_ok-scenario.ensures.contents_stay) c.in_err-replay.ensures.told)

-- all is read
pub returns-clause-told : goal.returns-clause-told
returns-clause-told g c =
    let name = c.args.name.now in
    let scenario = c.in_ok-scenario.scenario in
    let base = c.in_ok-base.base in
    let lent = messages_of c.as_ref.result in
    let nodes = c.deref.result.now in
    let made = c.in_ok-nodes.nodes in
    let replay = c.in_ok-replay.replay in
    let inputs : Inputs = record { scenario = scenario; codes = made.codes; files = made.files; replay = replay } in
    told_from_four (g.F.Files.held c.args.files.now) (λ contents. ScenarioAt contents name scenario) (λ contents. BaseAt contents name scenario.database (messages_in base))
    (λ contents. AreNodeCodes contents name lent nodes made.codes.items made.files) (λ contents. ReplayAt contents name scenario replay) (λ contents. AreInputsOf contents name inputs)
    (λ contents at base_at are replay_at. inputs_of contents name inputs lent nodes at
    (lent_base contents name scenario.database base c.as_ref.result c.as_ref.ensures.value base_at) c.deref.ensures.value are replay_at)
    c.in_ok-scenario.ensures.told
    (subst (λ h. IfSome h (λ contents. BaseAt contents name scenario.database (messages_in base))) c.in_ok-scenario.ensures.contents_stay c.in_ok-base.ensures.told)
    (subst (λ h. IfSome h (λ contents. AreNodeCodes contents name lent nodes made.codes.items made.files)) (c.in_ok-base.ensures.contents_stay ∙ c.in_ok-scenario.ensures.contents_stay) c.in_ok-nodes.ensures.told)
    (subst (λ h. IfSome h (λ contents. ReplayAt contents name scenario replay))
    (c.in_ok-nodes.ensures.contents_stay ∙ c.in_ok-base.ensures.contents_stay ∙ c.in_ok-scenario.ensures.contents_stay) c.in_ok-replay.ensures.told)

-- also where the contents are not told
pub returns-clause-coded : goal.returns-clause-coded
returns-clause-coded g c =
    let made = c.in_ok-nodes.nodes in
    coded_of (record { scenario = c.in_ok-scenario.scenario; codes = made.codes; files = made.files; replay = c.in_ok-replay.replay }) (messages_of c.as_ref.result) c.in_ok-nodes.ensures.coded
