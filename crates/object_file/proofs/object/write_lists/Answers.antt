-- One list behind another.
use Rattle.std.proofs.Common.{◌≡◌, ◌++◌, ◌∙◌, ap, subst}
use Rattle.std.specs.Prelude.{OnOk}
use Rattle.object_file.specs.Number.{dword, list, qword}
use Rattle.object_file.specs.Table.{format_text, function_text, handler_text, kind_text, start_text}
use Rattle.object_file.specs.Instruction.{instruction_text}
use Rattle.object_file.proofs.ObjectLemmas.{rolled}
use Rattle.object_file.proofs.object.write_lists.Goals as goal

pub returns : goal.returns
returns c =
    let code = c.args.code.now in
    let front = c.args.into.now.items in
    let one = c.in_ok-write.ensures in
    let two = c.in_ok-write-2.ensures ∙ ap (λ l. l ++ list start_text code.starts) one in
    let three = c.in_ok-write-3.ensures ∙ ap (λ l. l ++ list qword code.timers) two in
    let four = c.in_ok-write-4.ensures ∙ ap (λ l. l ++ list format_text code.formats) three in
    let five = c.in_ok-write-5.ensures ∙ ap (λ l. l ++ list function_text code.functions) four in
    let six = c.in_ok-write-6.ensures ∙ ap (λ l. l ++ list handler_text code.handlers) five in
    let seven = c.in_ok-write-7.ensures ∙ ap (λ l. l ++ list instruction_text code.instrs) six in
    subst (λ l. OnOk c.write-8.result (c.write-8.new.into.items ≡ l))
    (ap (λ l. l ++ list dword code.depths) seven
    ∙ rolled front (list kind_text code.cells) (list start_text code.starts) (list qword code.timers) (list format_text code.formats)
    (list function_text code.functions) (list handler_text code.handlers) (list instruction_text code.instrs) (list dword code.depths))
    c.write-8.ensures
