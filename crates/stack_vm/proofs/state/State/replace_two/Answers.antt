-- One number in the place of two.
use Rattle.std.proofs.Common.{◌≡◌, ◌≤◌, ◌<◌, ◌+◌, ◌-◌, ℕ, suc, List, ◌∷◌, length, reverse, take, drop, sym, ap, ◌∙◌, arith}
use Rattle.std.specs.Prelude.{ℤ, slice_set}
use Rattle.std.specs.Int.{cast_signed, cast_unsigned, w128}
use Rattle.std.proofs.lemmas.Int.{to_z-of_z}
use Rattle.std.proofs.lemmas.List.{length-set}
use Rattle.stack_vm.specs.Inside.State.{RunState}
use Rattle.stack_vm.proofs.StackLemmas.{drop-top_of, length-top_of, set-top_of, top_of}
use Rattle.stack_vm.proofs.state.State.replace_two.Goals as goal

pub returns : goal.returns
returns c =
    let xs = c.self.inside.stack.items in
    let top : ℕ = c.self.inside.top in
    let within : top ≤ length xs = c.self.invariant.0 in
    let same : top_of xs top ≡ c.args.self.now.stack = ap (λ (s : RunState). s.stack) c.self.view_is in
    let n = length-top_of xs top within in
    let enough : 2 ≤ top = omega (arith, c.requires.there, n, ap length same) in
    let below : top - 1 - 1 < length xs = omega (arith, enough, within) in
    let popped = drop-top_of xs 2 top (top - 1 - 1) within (omega (arith, enough)) in
    let raw = cast_signed w128 (cast_unsigned w128 c.args.n) in
    let read : raw ≡ c.args.n = to_z-of_z w128 c.args.n c.ranges.n in
    let set : top_of (slice_set xs (top - 1 - 1) raw) (top - 1) ≡ c.args.n ∷ drop 2 (top_of xs top) =
    ap (top_of (slice_set xs (top - 1 - 1) raw)) (let s : top - 1 ≡ suc (top - 1 - 1) = omega (arith, enough) in s) ∙ set-top_of xs (top - 1 - 1) raw below
    ∙ ap (λ (z : ℤ). z ∷ top_of xs (top - 1 - 1)) read ∙ ap (λ (s : List ℤ). c.args.n ∷ s) (sym popped) in
    let view : RunState = record {
      place = c.self.inside.place;
      stack = top_of xs top;
      calls = reverse (take c.self.inside.open_calls c.self.inside.calls.items);
      cells = c.self.inside.cells.items;
      turns = c.self.inside.turns;
      numbers_room = length xs;
      calls_room = length c.self.inside.calls.items;
    } in
    let changed : List ℤ → RunState → RunState = λ stack s. record s { place = s.place + 1; stack = stack } in
    let room : length (slice_set xs (top - 1 - 1) raw) ≡ length xs = length-set xs (top - 1 - 1) raw in
    ap (λ (s : List ℤ). changed s (record view { numbers_room = length (slice_set xs (top - 1 - 1) raw) })) set
    ∙ ap (λ (k : ℕ). changed (c.args.n ∷ drop 2 (top_of xs top)) (record view { numbers_room = k })) room
    ∙ ap (λ (s : RunState). changed (c.args.n ∷ drop 2 s.stack) s) c.self.view_is
