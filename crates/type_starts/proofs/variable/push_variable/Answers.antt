-- The cells of a message.
use Rattle.std.proofs.Common.{◌≡◌, Option, Some, sym, ap, arith, subst, ◌∙◌}
use Rattle.std.specs.Prelude.{OnOk}
use Rattle.std.specs.Option.{option_map_or}
use Rattle.capl_meaning.specs.Constant.{elements_of, scope_of}
use Rattle.capl_meaning.specs.Variable.{Misfit, Variable}
use Rattle.check_names.specs.Variable.{variable_in}
use Rattle.check_sorts.specs.Form.{type_in}
use Rattle.check_sorts.specs.Scope.{scope_in}
use Rattle.std.specs.Option.{option_copied}
use Rattle.type_starts.specs.Starts.{Goes}
use Rattle.type_starts.proofs.VariableLemmas.{identifier_of, message_first, room_of}
use Rattle.type_starts.proofs.variable.push_variable.Goals as goal

pub returns-in-Message : goal.returns-in-Message
returns-in-Message c = λ v at.
    let names = c.args.names.now in
    let d : Variable = variable_in names.base c.in-Some.declared.now in
    let same : d ≡ v = let e : Some d ≡ Some v = c.in-Some.ensures ∙ at in cc in
    subst (λ cells. OnOk c.push_message.result (Goes c.args.starts.now c.push_message.new.starts cells))
    (message_first names v (scope_in c.of_declared.result) c.token.result (type_in c.in-Message.what) (option_copied c.init-init.result)
    (sym (c.in-Message.ensures ∙ ap (λ (o : Option Variable). option_map_or (λ v. v.form) o Misfit) at))
    (c.of_declared.ensures.scope ∙ ap (scope_of names) same) (c.token.ensures names.base ∙ ap (λ (v : Variable). v.token) same)
    (c.init-init.ensures names.base ∙ ap (λ (v : Variable). v.init) same))
    (c.push_message.ensures _ c.first_message-message.ensures)

pub push-requires : goal.push-requires
push-requires c =
    room_of c.args.names.now c.args.number c.args.starts.now.cell _ c.requires.room (variable_in c.args.names.now.base c.in-Some.declared.now)
    c.in-Some.ensures c.in-Number.ensures

pub push_elements-requires-clause-room : goal.push_elements-requires-clause-room
push_elements-requires-clause-room c =
    let names = c.args.names.now in
    let v : Variable = variable_in names.base c.in-Some.declared.now in
    let room = room_of names c.args.number c.args.starts.now.cell _ c.requires.room v c.in-Some.ensures c.in-Array.ensures in
    let count = c.elements.ensures ∙ ap (λ (o : Option Variable). option_map_or (elements_of names) o 0) (sym c.in-Some.ensures) in
    omega (arith, room, count)

pub push_message-requires : goal.push_message-requires
push_message-requires c =
    room_of c.args.names.now c.args.number c.args.starts.now.cell _ c.requires.room (variable_in c.args.names.now.base c.in-Some.declared.now)
    c.in-Some.ensures c.in-Message.ensures

pub first_message-message-requires-clause-identifier : goal.first_message-message-requires-clause-identifier
first_message-message-requires-clause-identifier c =
    identifier_of c.args.names.now c.args.number (type_in c.in-Message.what) c.requires.identifier (variable_in c.args.names.now.base c.in-Some.declared.now)
    c.in-Some.ensures c.in-Message.ensures
