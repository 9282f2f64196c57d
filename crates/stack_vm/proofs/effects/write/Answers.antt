-- A line that is written.
use Rattle.std.proofs.Common.{◌≡◌, ◌≤◌, ◌+◌, ℕ, Bool, List, length, reverse, take, drop, slice_get, Option, Some, inl, inr, arith, ap, sym, ◌∙◌, subst, refl}
use Rattle.std.specs.Option.{option_map_or}
use Rattle.run_effects.specs.Effect as effect
use Rattle.write_format.specs.Line.{FormatText, numbers_taken, rendered}
use Rattle.bytecode.specs.declared.instr.Instr.TheVariants.{Write}
use Rattle.stack_vm.specs.Inside.State.{RunState, machine}
use Rattle.stack_vm.proofs.ArrayLemmas.{arrays_hold, arrays_lie}
use Rattle.stack_vm.proofs.HostRows.{does_effect, line_of, on_err, write_row}
use Rattle.stack_vm.proofs.ListLemmas.{item_read}
use Rattle.stack_vm.proofs.effects.write.Goals as goal

-- the format of the instruction
pub line-requires-clause-arrays : goal.line-requires-clause-arrays
line-requires-clause-arrays g c =
    let code = c.args.code.now in
    let r = c.requires.ready in
    let format : FormatText = c.index-as_slice-f.result in
    let is : slice_get code.formats c.args.f ≡ Some format = item_read code.formats c.as_slice.ensures refl r.named format ∙ ap Some (sym c.index-as_slice-f.is) in
    arrays_hold code c.requires.verified c.args.f format is r.named c.args.state.now.cells r.cells_held

pub forget-requires-clause-there : goal.forget-requires-clause-there
forget-requires-clause-there g c =
    let code = c.args.code.now in
    let r = c.requires.ready in
    let format : FormatText = c.index-as_slice-f.result in
    let is : slice_get code.formats c.args.f ≡ Some format = item_read code.formats c.as_slice.ensures refl r.named format ∙ ap Some (sym c.index-as_slice-f.is) in
    omega (arith, r.taken, ap (λ (o : Option FormatText). option_map_or numbers_taken o 0) is, c.numbers_taken.ensures)

pub returns-in_err-text-clause-refused : goal.returns-in_err-text-clause-refused
returns-in_err-text-clause-refused g c =
    let s : RunState = c.args.state.now in
    let host = g.H.Host.meaning in
    let stands = c.args.host.now in
    let code = c.args.code.now in
    let r = c.requires.ready in
    let f : ℕ = c.args.f in
    let timers : List Bool = host.active_timers stands in
    let format : FormatText = c.index-as_slice-f.result in
    let is : slice_get code.formats f ≡ Some format = item_read code.formats c.as_slice.ensures refl r.named format ∙ ap Some (sym c.index-as_slice-f.is) in
    let enough : numbers_taken format ≤ length s.stack = omega (arith, r.taken, ap (λ (o : Option FormatText). option_map_or numbers_taken o 0) is) in
    on_err c.from_residual.result (record {
      effect = line_of format s.stack s.cells;
      next = record s { place = s.place + 1; stack = drop (numbers_taken format) s.stack };
      gives = tt;
      leads = λ effects. write_row code (host.is_closed stands) (host.moment stands) (machine s timers effects) f format s.stack is enough (arrays_lie code c.requires.verified f format is r.named s.cells r.cells_held);
      may_be = inl (rendered format (reverse (take (numbers_taken format) s.stack)) s.cells, refl);
      refusal = inl refl;
    })

pub returns-in_err-line-clause-refused : goal.returns-in_err-line-clause-refused
returns-in_err-line-clause-refused g c =
    let s : RunState = c.args.state.now in
    let host = g.H.Host.meaning in
    let stands = c.args.host.now in
    let code = c.args.code.now in
    let r = c.requires.ready in
    let f : ℕ = c.args.f in
    let timers : List Bool = host.active_timers stands in
    let format : FormatText = c.index-as_slice-f.result in
    let is : slice_get code.formats f ≡ Some format = item_read code.formats c.as_slice.ensures refl r.named format ∙ ap Some (sym c.index-as_slice-f.is) in
    let enough : numbers_taken format ≤ length s.stack = omega (arith, r.taken, ap (λ (o : Option FormatText). option_map_or numbers_taken o 0) is) in
    on_err c.from_residual-in_err-line.result (record {
      effect = line_of format s.stack s.cells;
      next = record s { place = s.place + 1; stack = drop (numbers_taken format) s.stack };
      gives = tt;
      leads = λ effects. write_row code (host.is_closed stands) (host.moment stands) (machine s timers effects) f format s.stack is enough (arrays_lie code c.requires.verified f format is r.named s.cells r.cells_held);
      may_be = inl (rendered format (reverse (take (numbers_taken format) s.stack)) s.cells, refl);
      refusal = inr (subst (λ (text : List ℕ). host.refuses stands (effect.Line text) c.line-2.new.self) (c.as_slice-2.ensures.value ∙ c.in_ok-text.ensures) c.in_err-line.ensures.refused);
    })

pub returns-clause-does : goal.returns-clause-does
returns-clause-does g c =
    let s : RunState = c.args.state.now in
    let host = g.H.Host.meaning in
    let stands = c.args.host.now in
    let code = c.args.code.now in
    let r = c.requires.ready in
    let f : ℕ = c.args.f in
    let timers : List Bool = host.active_timers stands in
    let format : FormatText = c.index-as_slice-f.result in
    let after : ℕ → RunState = λ count. record s { place = s.place + 1; stack = drop count s.stack } in
    let is : slice_get code.formats f ≡ Some format = item_read code.formats c.as_slice.ensures refl r.named format ∙ ap Some (sym c.index-as_slice-f.is) in
    let enough : numbers_taken format ≤ length s.stack = omega (arith, r.taken, ap (λ (o : Option FormatText). option_map_or numbers_taken o 0) is) in
    does_effect host code (Write f) s stands c.forget.new.self c.line-2.new.self (after (numbers_taken format)) refl refl
    (c.forget.ensures ∙ ap after c.numbers_taken.ensures) (line_of format s.stack s.cells) timers (host.is_closed stands) (host.moment stands) refl refl
    (λ effects. write_row code (host.is_closed stands) (host.moment stands) (machine s timers effects) f format s.stack is enough (arrays_lie code c.requires.verified f format is r.named s.cells r.cells_held))
    c.line-2.ensures.timers_stay
    (subst (λ (text : List ℕ). host.takes stands (effect.Line text) c.line-2.new.self) (c.as_slice-2.ensures.value ∙ c.in_ok-text.ensures) c.in_ok-line.ensures.taken)
