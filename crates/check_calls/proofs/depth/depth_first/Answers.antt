-- All functions were left.
use Rattle.std.proofs.Common.{◌∙◌, ℕ, List, true, ap, sym, inl, inr, arith}
use Rattle.std.specs.Global.{Vec}
use Rattle.std.specs.Prelude.{slice_get}
use Rattle.std.proofs.lemmas.List.{length-map}
use Rattle.std.proofs.lemmas.Option.{none-some, slice_get_within}
use Rattle.check_calls.specs.Graph.{rows_of}
use Rattle.check_calls.specs.Inside.Walk.{opened}
use Rattle.check_calls.proofs.depth.depth_first.Goals as goal

pub loop-function-init : goal.loop-function-init
loop-function-init c = record {
  walks = c.in_ok-walk.ensures.walks (rows_of c.args.rows.now) (length-map c.args.rows.now (λ (row : Vec ℕ). row.items));
  closed = c.in_ok-walk.ensures.closed;
  entered = λ place none. absurd (omega (arith, none));
}

pub returns-clause-each : goal.returns-clause-each
returns-clause-each c = λ place within.
    let walk = c.loop-function.invariant in
    let entered = walk.entered place (omega (arith, within, c.loop-function-test.false)) in
    elim (walk.walks.known place entered) [
      | inl has ↦ has
      | inr has ↦ absurd (none-some place (ap (λ (l : List (ℕ × ℕ)). slice_get (opened l) has.0) (sym walk.closed) ∙ has.1))
    ]

pub returns-clause-within : goal.returns-clause-within
returns-clause-within c = λ k place at.
    let walk = c.loop-function.invariant in
    let inside = slice_get_within c.loop-function.walk.entered.items place true (walk.walks.left_once.known k place at) in
    let many = length-map c.args.rows.now (λ (row : Vec ℕ). row.items) in
    omega (arith, inside, walk.walks.count, many, c.requires)
