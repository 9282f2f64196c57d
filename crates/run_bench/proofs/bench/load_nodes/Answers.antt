-- Each node is loaded, and its rows stand behind those of the nodes before it.
use Rattle.std.proofs.Common.{List, All, length, ap, sym, subst, ◌∙◌}
use Rattle.bytecode.specs.declared.code.Code.{Code}
use Rattle.node_run.specs.Node.{NodeInRound}
use Rattle.sim_core.specs.Core.{IsLoaded}
use Rattle.sim_play.specs.Play.{AreNewRows}
use Rattle.run_bench.proofs.NewRows.{loaded_more, rows_more}
use Rattle.run_bench.proofs.bench.load_nodes.Goals as goal

pub loop-code-preserved : goal.loop-code-preserved
loop-code-preserved c =
    let code : Code = c.in-Some.code in
    let row = c.in_ok-first_row.first_row in
    let turns = c.args.turns in
    let pushed = sym {A = List NodeInRound} c.in_ok-push.ensures.items in
    let many = c.in_ok-handlers.ensures.1 ∙ c.len.ensures ∙ ap (λ (x : Code). length x.handlers) c.code-in-loop-code.ensures.same in
    record {
      loaded = subst (λ (list : List NodeInRound). All IsLoaded list) pushed
          (loaded_more c.loop-code.nodes.items code row turns c.loop-code.invariant.loaded c.in_ok-load.ensures.loaded c.in_ok-load.ensures.sound);
      rows = subst (λ (list : List NodeInRound). AreNewRows list c.open_rows.new.self) pushed
          (rows_more code row turns c.in_ok-handlers.handlers c.loop-code.invariant.rows many c.in_ok-first_row.ensures.opened
          c.in_ok-first_row.ensures.first c.in_ok-load.ensures.loaded);
    }
