-- One node after another is loaded.
use Rattle.std.proofs.Common.{◌≡◌, [], ◌∷◌, ◌++◌, List, subst, sym, ◌∙◌}
use Rattle.std.proofs.lemmas.Iterator.Adapters.{YieldsList-from_vec}
use Rattle.std.proofs.lemmas.Iterator.Consumers.{YieldsList-end}
use Rattle.std.proofs.lemmas.List.{map-id}
use Rattle.bytecode.specs.declared.code.Code.{Code}
use Rattle.node_run.specs.Node.{NodeInRound}
use Rattle.sim_run.specs.Inside.Loaded.{AreLoaded}
use Rattle.sim_run.proofs.LoadedLemmas.{none_loaded, one_more_loaded}
use Rattle.sim_run.proofs.run.load_nodes.Goals as goal

pub loop-code-init : goal.loop-code-init
loop-code-init c = subst (λ (l : List NodeInRound). AreLoaded c.args.turns [] l c.args.meter.now) (sym c.new-nodes.ensures.items) (none_loaded c.args.turns c.args.meter.now c.requires.no_rows)

pub loop-code-preserved : goal.loop-code-preserved
loop-code-preserved c =
    let node = c.in_ok-load_node.field-0 in
    subst (λ (l : List NodeInRound). AreLoaded c.args.turns (c.loop-code.yielded ++ c.in-Some.code ∷ []) l c.load_node.new.meter) (sym c.in_ok-push.ensures.items)
    (one_more_loaded c.args.turns c.loop-code.yielded c.loop-code.nodes.items c.loop-code.meter c.in-Some.code node c.load_node.new.meter
    c.loop-code.invariant c.in_ok-load_node.ensures.loaded c.in_ok-load_node.ensures.sound c.in_ok-load_node.ensures.rows)

pub returns : goal.returns
returns c =
    let gives = c.into_iter-code-iterator.ensures.into_iter_gives in
    let all = YieldsList-from_vec {s = c.into_iter-code-iterator.result} c.args.codes.items gives.0 (gives.1 ∙ c.args.codes.ok.0) in
    let end = YieldsList-end all c.loop-code.yielded c.loop-code.code-iterator c.loop-code.yielded_by c.next.result c.next.new.self c.in-None.is c.next.ensures.steps in
    let whole : c.loop-code.yielded ≡ c.args.codes.items = sym (map-id c.loop-code.yielded) ∙ end.0 in
    subst (λ (l : List Code). AreLoaded c.args.turns l c.loop-code.nodes.items c.loop-code.meter) whole c.loop-code.invariant
