-- The lines of all nodes, and the last line.
use Rattle.std.proofs.Common.{◌≡◌, ◌++◌, ap, subst, ◌∙◌, arith}
use Rattle.std.specs.List.{flat_map}
use Rattle.std.specs.Prelude.{codes, IfOk}
use Rattle.sim_gen.specs.Generated.{node_line, numbers_to}
use Rattle.sim_gen.proofs.generated.scenario.Goals as goal

pub returns : goal.returns
returns c =
    let all : c.loop-index.index ≡ c.args.count = omega arith in
    let lines = c.loop-index.invariant ∙ ap (λ n. codes "scenario 1\n" ++ flat_map node_line (numbers_to n)) all in
    let whole = c.in_ok-push_str.ensures.bytes ∙ ap (λ l. l ++ codes "until 1000\n") lines in
    subst (λ l. IfOk c.make.result (λ text. text ≡ l)) (c.as_bytes.ensures.value ∙ whole) c.make.ensures
