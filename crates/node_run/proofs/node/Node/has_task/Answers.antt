-- A node with triggers left has a further task.
use Rattle.std.proofs.Common.{◌≡◌, false, ap, inl, inr, length, refl, rules, sym, ◌∙◌}
use Rattle.std.specs.Prelude.{◌==◌}
use Rattle.node_run.proofs.NodeTasks.{is_left}
use Rattle.node_run.proofs.node.Node.has_task.Goals as goal
use Rattle.node_run.proofs.node.Node.has_task.Goals.{then-not-is_empty-via-then-not-is_empty, then-not-is_empty-via-else-not-is_empty+then-not-is_empty-2}

pub returns-then-not-is_empty-clause-left : goal.returns-then-not-is_empty-clause-left
returns-then-not-is_empty-clause-left c = (
  λ yes. is_left c.args.self.now _ c.self.view_is (ap (λ i. i.is_halted) (sym c.self-inside.view_is) ∙ c.if-self.false) (elim c.then-not-is_empty.branch [
    | then-not-is_empty-via-then-not-is_empty w ↦
        inl (let k : (length c.self.inside.rest.first == 0) ≡ false = search rules in k)
    | then-not-is_empty-via-else-not-is_empty+then-not-is_empty-2 w ↦
        inr (let k : (length c.self.inside.rest.last == 0) ≡ false = search rules in k)
  ]),
  λ some. refl,
)
