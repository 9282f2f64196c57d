-- Each arm does its instruction by the name that the arm gives it.
use Rattle.std.proofs.Common.{sym, ap, ◌∙◌}
use Rattle.bytecode.specs.declared.instr.Instr.TheVariants.{Case, Push}
use Rattle.std.proofs.lemmas.Result.{err_from_is_err_and}
use Rattle.stack_vm.proofs.NumberLemmas.{read_back}
use Rattle.stack_vm.proofs.StepLemmas.{does_as, does_in_as, needed_as, ready_as}
use Rattle.stack_vm.proofs.step.step.Goals as goal

pub returns-in-Push-clause-does : goal.returns-in-Push-clause-does
returns-in-Push-clause-does c =
    let named = (ready_as c.in-Push.is c.requires).named in
    does_as c.args.code.now (c.in-Push.is ∙ ap Push (sym (read_back c.in-Push.n named))) c.push.ensures

pub returns-in-Store-clause-does : goal.returns-in-Store-clause-does
returns-in-Store-clause-does c = does_in_as c.in-Store.is c.store.ensures

pub returns-in-SetElem-clause-does : goal.returns-in-SetElem-clause-does
returns-in-SetElem-clause-does c = rw c.err-in-SetElem.ensures.value (does_in_as c.in-SetElem.is c.set_element.ensures)

pub returns-in-Call-clause-does : goal.returns-in-Call-clause-does
returns-in-Call-clause-does c = rw c.err-in-Call.ensures.value (does_in_as c.in-Call.is c.call.ensures)

pub returns-in-Load-clause-does : goal.returns-in-Load-clause-does
returns-in-Load-clause-does c = does_as c.args.code.now c.in-Load.is c.load.ensures

pub returns-in-Sig-clause-does : goal.returns-in-Sig-clause-does
returns-in-Sig-clause-does c = does_as c.args.code.now c.in-Sig.is c.signal.ensures

pub returns-in-SetSig-clause-does : goal.returns-in-SetSig-clause-does
returns-in-SetSig-clause-does c = does_as c.args.code.now c.in-SetSig.is c.set_signal.ensures

pub returns-in-SetField-clause-does : goal.returns-in-SetField-clause-does
returns-in-SetField-clause-does c = does_as c.args.code.now c.in-SetField.is c.set_field.ensures

pub returns-in-Neg-clause-does : goal.returns-in-Neg-clause-does
returns-in-Neg-clause-does c = does_as c.args.code.now c.in-Neg.is c.negate.ensures

pub returns-in-Inv-clause-does : goal.returns-in-Inv-clause-does
returns-in-Inv-clause-does c = does_as c.args.code.now c.in-Inv.is c.invert.ensures

pub returns-in-Conv-clause-does : goal.returns-in-Conv-clause-does
returns-in-Conv-clause-does c = does_as c.args.code.now c.in-Conv.is c.convert.ensures

pub returns-in-Not-clause-does : goal.returns-in-Not-clause-does
returns-in-Not-clause-does c = does_as c.args.code.now c.in-Not.is c.not.ensures

pub returns-in-Dup-clause-does : goal.returns-in-Dup-clause-does
returns-in-Dup-clause-does c = does_as c.args.code.now c.in-Dup.is c.duplicate.ensures

pub returns-in-Drop-clause-does : goal.returns-in-Drop-clause-does
returns-in-Drop-clause-does c = does_as c.args.code.now c.in-Drop.is c.take.ensures

pub returns-in-Jump-clause-does : goal.returns-in-Jump-clause-does
returns-in-Jump-clause-does c = does_as c.args.code.now c.in-Jump.is c.jump.ensures

pub returns-in-Zero-clause-does : goal.returns-in-Zero-clause-does
returns-in-Zero-clause-does c = does_as c.args.code.now c.in-Zero.is c.jump_at_zero.ensures

pub returns-in_ok-jump_at-in-Case-clause-does : goal.returns-in_ok-jump_at-in-Case-clause-does
returns-in_ok-jump_at-in-Case-clause-does c =
    let named = (ready_as c.in-Case.is c.requires).named in
    does_as c.args.code.now (c.in-Case.is ∙ ap (λ n. Case c.in-Case.target n) (sym (read_back c.in-Case.label named))) c.in_ok-jump_at-in-Case.ensures.jumps

pub returns-in_err-jump_at-in-Case-clause-needs : goal.returns-in_err-jump_at-in-Case-clause-needs
returns-in_err-jump_at-in-Case-clause-needs c =
    let named = (ready_as c.in-Case.is c.requires).named in
    let p = err_from_is_err_and c.from_residual.result c.from_residual.ensures.1 in
    let e = c.in-Case.is ∙ ap (λ n. Case c.in-Case.target n) (sym (read_back c.in-Case.label named)) in
    rw (p.1, p.2) (needed_as c.jump_at.new.state c.in_err-jump_at-in-Case.field-0.0 e c.in_err-jump_at-in-Case.ensures.needs)

pub returns-in-Copy-clause-does : goal.returns-in-Copy-clause-does
returns-in-Copy-clause-does c = does_as c.args.code.now c.in-Copy.is c.copy.ensures

pub returns-in-Check-clause-does : goal.returns-in-Check-clause-does
returns-in-Check-clause-does c = rw c.err.ensures.value (does_as c.args.code.now c.in-Check.is c.check.ensures)

pub returns-in-Elem-clause-does : goal.returns-in-Elem-clause-does
returns-in-Elem-clause-does c = rw c.err-in-Elem.ensures.value (does_as c.args.code.now c.in-Elem.is c.element.ensures)

pub returns-in-Bytes-clause-does : goal.returns-in-Bytes-clause-does
returns-in-Bytes-clause-does c = rw c.err-in-Bytes.ensures.value (does_as c.args.code.now c.in-Bytes.is c.bytes.ensures)

pub returns-in-SetBytes-clause-does : goal.returns-in-SetBytes-clause-does
returns-in-SetBytes-clause-does c = rw c.err-in-SetBytes.ensures.value (does_as c.args.code.now c.in-SetBytes.is c.set_bytes.ensures)

pub returns-in-Bin-clause-does : goal.returns-in-Bin-clause-does
returns-in-Bin-clause-does c = rw c.err-in-Bin.ensures.value (does_as c.args.code.now c.in-Bin.is c.operate.ensures)

pub returns-in-Back-clause-does : goal.returns-in-Back-clause-does
returns-in-Back-clause-does c = rw c.err-in-Back.ensures.value (does_as c.args.code.now c.in-Back.is c.jump_back.ensures)

pub returns-in-Turn-clause-does : goal.returns-in-Turn-clause-does
returns-in-Turn-clause-does c = rw c.err-in-Turn.ensures.value (does_as c.args.code.now c.in-Turn.is c.turn.ensures)

pub returns-in-Ret-clause-does : goal.returns-in-Ret-clause-does
returns-in-Ret-clause-does c = rw c.err-in-Ret.ensures.value (does_as c.args.code.now c.in-Ret.is c.leave.ensures)
