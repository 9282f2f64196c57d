-- The numbers that were given last.
use Rattle.std.proofs.Common.{◌≡◌, ◌≤◌, ◌-◌, ℕ, List, length, reverse, take, drop, ap, ◌∙◌, arith}
use Rattle.std.specs.Prelude.{ℤ}
use Rattle.stack_vm.specs.Inside.State.{RunState}
use Rattle.stack_vm.proofs.StackLemmas.{length-top_of, top_of, last_items}
use Rattle.stack_vm.proofs.state.State.last_given.Goals as goal

pub returns : goal.returns
returns c =
    let xs = c.self.inside.stack.items in
    let top : ℕ = c.self.inside.top in
    let count : ℕ = c.args.count in
    let within : top ≤ length xs = c.self.invariant.0 in
    let same : top_of xs top ≡ c.args.self.now.stack = ap (λ (s : RunState). s.stack) c.self.view_is in
    let enough : count ≤ top = omega (arith, c.requires, length-top_of xs top within, ap length same) in
    let so_many : top - (top - count) ≡ count = omega (arith, enough) in
    ap (λ (k : ℕ). take k (drop (top - count) c.deref.result.now)) so_many
    ∙ ap (λ (items : List ℤ). take count (drop (top - count) items)) c.deref.ensures.value
    ∙ last_items xs (top - count) count top within (omega (arith, enough)) ∙ ap (λ (s : List ℤ). reverse (take count s)) same
