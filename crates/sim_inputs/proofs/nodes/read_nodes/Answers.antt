-- A node more, and one that is to blame.
use Rattle.std.proofs.Common.{◌<◌, ◌+◌, Err, arith, inl, inr, rules, subst}
use Rattle.std.specs.Prelude.{◌⊎◌, IfSome}
use Rattle.capl_include.specs.Blame.{file_blame}
use Rattle.check_names.specs.Names.{messages_of}
use Rattle.source_compiler.specs.Compiled.{IsCompiledSource}
use Rattle.source_compiler.specs.Source.{IsSourceBlame}
use Rattle.source_compiler.specs.declared.compiled.Compiled.{Compiled}
use Rattle.input_refusals.specs.Agreement.{Agrees}
use Rattle.input_refusals.proofs.Passing.{agrees_judged, blamed, passed_on, told_always, told_from, told_from_two}
use Rattle.sim_inputs.specs.Accepted.{too_large_rule, IsNodesBlame, most_together}
use Rattle.sim_inputs.specs.Inside.Codes.{AreNodeCodes}
use Rattle.sim_inputs.specs.declared.nodes.NodeCodes.{NodeCodes}
use Rattle.sim_inputs.proofs.NodeLemmas.{AreReadTo, all_read, memory_agrees, more_coded, more_read, named_beside, source_blamed, sum_blamed}
use Rattle.sim_inputs.proofs.nodes.read_nodes.Goals as goal
use Rattle.sim_inputs.proofs.nodes.read_nodes.Goals.{then-cells-gt-MOST_TOGETHER-via-then-cells-gt-MOST_TOGETHER, then-cells-gt-MOST_TOGETHER-via-else-cells-gt-MOST_TOGETHER+then-weights-gt-MOST_TOGETHER}

-- the source of a node is to blame
pub returns-in_err-compiled-clause-told : goal.returns-in_err-compiled-clause-told
returns-in_err-compiled-clause-told g c =
    let name = c.args.name.now in
    let nodes = c.args.nodes.now in
    let base = messages_of c.args.base in
    let source = c.in_ok-source.source in
    let l = c.loop-node in
    let held = g.F.Files.held c.args.files.now in
    let named = named_beside source c.bytes.result.now name c.bytes-in-loop-node.result.now c.node-item.result.file c.in_ok-source.ensures c.bytes.ensures c.bytes-in-loop-node.ensures in
    told_from_two held (λ contents. AreReadTo contents name base nodes l.node-index l.cells l.weights l.codes.items l.names.items)
    (λ contents. Agrees {A = Compiled} (IsCompiledSource contents source base) (IsSourceBlame contents source base) (Err c.in_err-compiled.field-0.0))
    (λ contents. Agrees (λ (made : NodeCodes). AreNodeCodes contents name base nodes made.codes.items made.files) (IsNodesBlame contents name base 0 0 nodes) c.from_residual-in_err-compiled.result)
    (λ contents read agrees. passed_on {A = Compiled} (IsCompiledSource contents source base) (IsSourceBlame contents source base)
    (λ (made : NodeCodes). AreNodeCodes contents name base nodes made.codes.items made.files) (IsNodesBlame contents name base 0 0 nodes)
    c.in_err-compiled.field-0.0 c.from_residual-in_err-compiled.result c.from_residual-in_err-compiled.ensures.1
    (λ blame wrong. source_blamed contents name source base nodes l.node-index l.cells l.weights l.codes.items l.names.items c.node-item.result blame read c.loop-node-test.true c.node-item.is named wrong) agrees)
    l.invariant.told
    (subst (λ h. IfSome h (λ contents. Agrees {A = Compiled} (IsCompiledSource contents source base) (IsSourceBlame contents source base) (Err c.in_err-compiled.field-0.0)))
    l.invariant.contents_stay c.in_err-compiled.ensures.told)

-- the programs up to that of a node are too large together
pub returns-then-cells-gt-MOST_TOGETHER-clause-told : goal.returns-then-cells-gt-MOST_TOGETHER-clause-told
returns-then-cells-gt-MOST_TOGETHER-clause-told g c =
    let name = c.args.name.now in
    let nodes = c.args.nodes.now in
    let base = messages_of c.args.base in
    let source = c.in_ok-source.source in
    let l = c.loop-node in
    let compiled = c.in_ok-compiled.compiled in
    let named = named_beside source c.bytes.result.now name c.bytes-in-loop-node.result.now c.node-item.result.file c.in_ok-source.ensures c.bytes.ensures c.bytes-in-loop-node.ensures in
    let large : (most_together < l.cells + compiled.cells) ⊎ (most_together < l.weights + compiled.weight) =
    elim c.then-cells-gt-MOST_TOGETHER.branch as (λ _. (most_together < l.cells + compiled.cells) ⊎ (most_together < l.weights + compiled.weight)) [
      | then-cells-gt-MOST_TOGETHER-via-then-cells-gt-MOST_TOGETHER w ↦ inl (omega arith)
      | then-cells-gt-MOST_TOGETHER-via-else-cells-gt-MOST_TOGETHER+then-weights-gt-MOST_TOGETHER w ↦ inr (omega arith)
    ] in
    told_from_two (g.F.Files.held c.args.files.now) (λ contents. AreReadTo contents name base nodes l.node-index l.cells l.weights l.codes.items l.names.items)
    (λ contents. IsCompiledSource contents source base compiled)
    (λ contents. Agrees (λ (made : NodeCodes). AreNodeCodes contents name base nodes made.codes.items made.files) (IsNodesBlame contents name base 0 0 nodes) (Err c.blamed_file.result))
    (λ contents read made. agrees_judged (λ (made : NodeCodes). AreNodeCodes contents name base nodes made.codes.items made.files) (IsNodesBlame contents name base 0 0 nodes) (Err c.blamed_file.result)
    (blamed (λ (made : NodeCodes). AreNodeCodes contents name base nodes made.codes.items made.files) (IsNodesBlame contents name base 0 0 nodes) (file_blame source too_large_rule) c.blamed_file.result
    (sum_blamed contents name source base nodes l.node-index l.cells l.weights l.codes.items l.names.items c.node-item.result compiled read c.loop-node-test.true c.node-item.is named made large)
    c.blamed_file.ensures))
    l.invariant.told
    (subst (λ h. IfSome h (λ contents. IsCompiledSource contents source base compiled)) l.invariant.contents_stay c.in_ok-compiled.ensures.told)

-- there is no memory for one more code
pub returns-in_err-push-clause-told : goal.returns-in_err-push-clause-told
returns-in_err-push-clause-told g c =
    let name = c.args.name.now in
    let nodes = c.args.nodes.now in
    let base = messages_of c.args.base in
    told_always (g.F.Files.held c.args.files.now)
    (λ contents. Agrees (λ (made : NodeCodes). AreNodeCodes contents name base nodes made.codes.items made.files) (IsNodesBlame contents name base 0 0 nodes) c.from_residual-in_err-push.result)
    (λ contents. memory_agrees (λ (made : NodeCodes). AreNodeCodes contents name base nodes made.codes.items made.files) (IsNodesBlame contents name base 0 0 nodes) c.from_residual-in_err-push.result c.from_residual-in_err-push.ensures.1)

pub loop-node-preserved : goal.loop-node-preserved
loop-node-preserved g c =
    let name = c.args.name.now in
    let nodes = c.args.nodes.now in
    let base = messages_of c.args.base in
    let source = c.in_ok-source.source in
    let l = c.loop-node in
    let compiled = c.in_ok-compiled.compiled in
    let named = named_beside source c.bytes.result.now name c.bytes-in-loop-node.result.now c.node-item.result.file c.in_ok-source.ensures c.bytes.ensures c.bytes-in-loop-node.ensures in
    record {
      fit = (omega arith, omega arith);
      as_many = search rules;
      coded = more_coded base l.codes.items c.push.new.self.items l.names.items c.push-in-loop-node.new.self.items compiled l.invariant.coded c.in_ok-compiled.ensures.coded c.in_ok-push.ensures.items c.in_ok-push-2.ensures.items;
      told = told_from_two (g.F.Files.held c.args.files.now) (λ contents. AreReadTo contents name base nodes l.node-index l.cells l.weights l.codes.items l.names.items)
          (λ contents. IsCompiledSource contents source base compiled)
          (λ contents. AreReadTo contents name base nodes (l.node-index + 1) (l.cells + compiled.cells) (l.weights + compiled.weight) c.push.new.self.items c.push-in-loop-node.new.self.items)
          (λ contents read made. more_read contents name source base nodes l.node-index l.cells l.weights l.codes.items c.push.new.self.items l.names.items c.push-in-loop-node.new.self.items c.node-item.result compiled read c.loop-node-test.true c.node-item.is named made (omega arith, omega arith) c.in_ok-push.ensures.items c.in_ok-push-2.ensures.items)
          l.invariant.told
          (subst (λ h. IfSome h (λ contents. IsCompiledSource contents source base compiled)) l.invariant.contents_stay c.in_ok-compiled.ensures.told);
      faults_stay = search rules;
      contents_stay = search rules;
    }

-- all nodes are read
pub returns-clause-told : goal.returns-clause-told
returns-clause-told g c =
    let name = c.args.name.now in
    let nodes = c.args.nodes.now in
    let base = messages_of c.args.base in
    let l = c.loop-node in
    told_from (g.F.Files.held c.args.files.now) (λ contents. AreReadTo contents name base nodes l.node-index l.cells l.weights l.codes.items l.names.items)
    (λ contents. AreNodeCodes contents name base nodes l.codes.items c.from_list.result)
    (λ contents read. all_read contents name base nodes l.node-index l.cells l.weights l.codes.items l.names.items c.from_list.result read c.loop-node-test.false l.invariant.fit c.from_list.ensures)
    l.invariant.told
