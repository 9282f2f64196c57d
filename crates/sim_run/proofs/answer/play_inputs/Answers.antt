-- The run of the codes of inputs is that of their sources.
use Rattle.std.proofs.Common.{arith, inr, subst, sym}
use Rattle.can_bus.specs.Bus.{BusState}
use Rattle.sim_core.specs.Core.{CoreState}
use Rattle.sim_play.specs.Play.{AreLabelsOf, AreNewRows}
use Rattle.sim_play.specs.declared.labels.Labels.{Labels}
use Rattle.sim_run.proofs.LoadedLemmas.{all_loaded, as_many_nodes, frames_of, labels_fit, new_rows}
use Rattle.sim_run.proofs.ShownLemmas.{RunsLaw, shown_in_part, shown_whole}
use Rattle.sim_run.proofs.answer.play_inputs.Goals as goal

pub core_of-core-requires-clause-loaded : goal.core_of-core-requires-clause-loaded
core_of-core-requires-clause-loaded g c =
    all_loaded c.args.inputs.scenario.turns c.args.inputs.codes.items c.in_ok-nodes.nodes.items c.load_nodes.new.meter c.in_ok-nodes.ensures

pub core_of-core-requires-clause-few : goal.core_of-core-requires-clause-few
core_of-core-requires-clause-few g c =
    let many = as_many_nodes c.args.inputs.scenario.turns c.args.inputs.codes.items c.in_ok-nodes.nodes.items c.load_nodes.new.meter c.in_ok-nodes.ensures in
    let one_each = c.requires.code_for_each in
    let few = c.requires.taken.few_nodes in
    omega (arith, many, one_each, few)

pub core_of-core-requires-clause-bytes : goal.core_of-core-requires-clause-bytes
core_of-core-requires-clause-bytes g c = λ k d below. let key = c.requires.within.keys k d below in let greatest = key.greatest in omega (arith, greatest)

pub core_of-core-requires-clause-frames : goal.core_of-core-requires-clause-frames
core_of-core-requires-clause-frames g c = frames_of c.args.inputs.replay c.requires.playable

pub play-requires-clause-labels : goal.play-requires-clause-labels
play-requires-clause-labels g c =
    let inputs = c.args.inputs in
    let nodes = c.in_ok-nodes.nodes.items in
    let coded = c.requires.coded in
    subst (λ (k : CoreState BusState). AreLabelsOf c.in_ok-labels.labels k.nodes) (sym c.core_of-core.ensures)
    (subst (λ (l : Labels). AreLabelsOf l nodes) (sym c.in_ok-labels.ensures)
    (labels_fit c.compiled_procedures_end_as_in_the_source.ensures.tables inputs.scenario coded.base coded.sources inputs.scenario.turns inputs.codes.items nodes c.load_nodes.new.meter
    inputs.files inputs.replay c.in_ok-nodes.ensures c.requires.code_for_each c.requires.playable.epoch coded.codes coded.trees coded.files))

pub play-requires-clause-rows : goal.play-requires-clause-rows
play-requires-clause-rows g c =
    subst (λ (k : CoreState BusState). AreNewRows k.nodes c.load_nodes.new.meter) (sym c.core_of-core.ensures)
    (new_rows c.args.inputs.scenario.turns c.args.inputs.codes.items c.in_ok-nodes.nodes.items c.load_nodes.new.meter c.in_ok-nodes.ensures)

pub returns-in-Ok-clause-plays : goal.returns-in-Ok-clause-plays
returns-in-Ok-clause-plays g c =
    let inputs = c.args.inputs in
    let runs : RunsLaw = λ base turns programs nodes loaded until b keys requests rounds after run.
    let own = c.runs_of_code_are_runs_of_sources.ensures.is_a_run base turns programs nodes loaded until b keys requests rounds after run in
    (own.0, own.1) in
    shown_whole c.compiled_procedures_end_as_in_the_source.ensures.tables runs c.args.show inputs.scenario inputs.replay inputs.files inputs.codes.items c.in_ok-nodes.nodes.items c.in_ok-labels.labels
    c.core_of-core.result (g.S.Sink.written c.args.out.now.sink) (g.S.Sink.written c.play.new.out.sink) c.load_nodes.new.meter c.play.new.meter
    c.in_ok-nodes.ensures c.in_ok-labels.ensures c.core_of-core.ensures c.in-Ok.ensures.as_many_rows c.in-Ok.ensures.plays

pub returns-in-Err-Record-clause-plays : goal.returns-in-Err-Record-clause-plays
returns-in-Err-Record-clause-plays g c =
    let inputs = c.args.inputs in
    let runs : RunsLaw = λ base turns programs nodes loaded until b keys requests rounds after run.
    let own = c.runs_of_code_are_runs_of_sources.ensures.is_a_run base turns programs nodes loaded until b keys requests rounds after run in
    (own.0, own.1) in
    shown_in_part c.compiled_procedures_end_as_in_the_source.ensures.tables runs c.args.show inputs.scenario inputs.replay inputs.files inputs.codes.items c.in_ok-nodes.nodes.items c.in_ok-labels.labels
    c.core_of-core.result (g.S.Sink.written c.args.out.now.sink) (g.S.Sink.written c.play.new.out.sink) c.load_nodes.new.meter c.play.new.meter
    c.in_ok-nodes.ensures c.in_ok-labels.ensures c.core_of-core.ensures c.in-Err-Record.ensures.cut

pub returns-clause-plays : goal.returns-clause-plays
returns-clause-plays g c =
    let inputs = c.args.inputs in
    let runs : RunsLaw = λ base turns programs nodes loaded until b keys requests rounds after run.
    let own = c.runs_of_code_are_runs_of_sources.ensures.is_a_run base turns programs nodes loaded until b keys requests rounds after run in
    (own.0, own.1) in
    λ base sources codes_are files_are. inr
    (shown_in_part c.compiled_procedures_end_as_in_the_source.ensures.tables runs c.args.show inputs.scenario inputs.replay inputs.files inputs.codes.items c.in_ok-nodes.nodes.items c.in_ok-labels.labels
    c.core_of-core.result (g.S.Sink.written c.args.out.now.sink) (g.S.Sink.written c.play.new.out.sink) c.load_nodes.new.meter c.play.new.meter
    c.in_ok-nodes.ensures c.in_ok-labels.ensures c.core_of-core.ensures c.in-Err-NoMemory.ensures.cut base sources codes_are files_are)
