-- The stack without its top numbers, at another place.
use Rattle.std.proofs.Common.{◌≡◌, ◌≤◌, ◌-◌, ℕ, List, length, reverse, take, drop, sym, ap, ◌∙◌, arith}
use Rattle.std.specs.Prelude.{ℤ}
use Rattle.stack_vm.specs.Inside.State.{RunState}
use Rattle.stack_vm.proofs.StackLemmas.{drop-top_of, length-top_of, top_of}
use Rattle.stack_vm.proofs.state.State.jump.Goals as goal

pub returns : goal.returns
returns c =
    let xs = c.self.inside.stack.items in
    let top : ℕ = c.self.inside.top in
    let within : top ≤ length xs = c.self.invariant.0 in
    let same : top_of xs top ≡ c.args.self.now.stack = ap (λ (s : RunState). s.stack) c.self.view_is in
    let n = length-top_of xs top within in
    let enough : c.args.count ≤ top = omega (arith, c.requires, n, ap length same) in
    let popped = drop-top_of xs c.args.count top (top - c.args.count) within (omega (arith, enough)) in
    let changed : List ℤ → RunState → RunState = λ stack s. record s { place = c.args.place; stack = stack } in
    let view : RunState = record {
      place = c.self.inside.place;
      stack = top_of xs top;
      calls = reverse (take c.self.inside.open_calls c.self.inside.calls.items);
      cells = c.self.inside.cells.items;
      turns = c.self.inside.turns;
      numbers_room = length xs;
      calls_room = length c.self.inside.calls.items;
    } in
    ap (λ (s : List ℤ). changed s view) (sym popped) ∙ ap (λ (s : RunState). changed (drop c.args.count s.stack) s) c.self.view_is
