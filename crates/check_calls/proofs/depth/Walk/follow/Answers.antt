-- The function is entered.
use Rattle.check_calls.specs.Graph.{rows_of}
use Rattle.check_calls.proofs.WalkLemmas.{enter_here, enter_keeps, enter_walks}
use Rattle.check_calls.proofs.depth.Walk.follow.Goals as goal

pub steps-init : goal.steps-init
steps-init c = record {
  walks = λ walk none. enter_walks (rows_of c.args.rows.now) c.args.self.now c.enter.new.self c.args.function c.in_ok-enter.ensures none walk;
  kept = enter_keeps c.args.self.now c.enter.new.self c.args.function c.in_ok-enter.ensures;
  entered = enter_here c.args.self.now c.enter.new.self c.args.function c.in_ok-enter.ensures;
}
