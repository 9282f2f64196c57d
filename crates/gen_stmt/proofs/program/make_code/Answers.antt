-- The code and the tables of all procedures.
use Rattle.std.proofs.Common.{◌≡◌, length, sym, subst, ap, ◌∙◌, arith, rules}
use Rattle.std.specs.Prelude.{All, map}
use Rattle.typed_tree.specs.declared.program.TFun.{TFun}
use Rattle.typed_tree.specs.declared.program.THandler.{THandler}
use Rattle.code_listing.specs.Program.{handler_table, program_code}
use Rattle.gen_stmt.specs.Inside.Fields.{BodyHasFieldCells}
use Rattle.gen_stmt.proofs.Emitted.{program_emitted, table_made}
use Rattle.gen_stmt.proofs.Nonempty.{functions_count}
use Rattle.gen_stmt.proofs.SoundFields.{functions_fields, handlers_fields}
use Rattle.gen_stmt.proofs.Steps.{entries_count}
use Rattle.gen_stmt.proofs.program.make_code.Goals as goal

pub add_functions-requires-clause-fields : goal.add_functions-requires-clause-fields
add_functions-requires-clause-fields c =
    subst (All (λ (function : TFun). BodyHasFieldCells function.body)) (sym c.as_slice.ensures) (functions_fields c.args.typed.now c.requires.sound)

pub add_handlers-requires-clause-fields : goal.add_handlers-requires-clause-fields
add_handlers-requires-clause-fields c =
    subst (All (λ (handler : THandler). BodyHasFieldCells handler.body)) (sym c.as_slice-events.ensures) (handlers_fields c.args.typed.now c.requires.sound)

pub add_handlers-requires-clause-few : goal.add_handlers-requires-clause-few
add_handlers-requires-clause-few c =
    let typed = c.args.typed.now in
    let functions = c.as_slice.result.now in
    let place = length c.new-code.result in
    let entries = rw c.new-functions.ensures.items at c.in_ok-add_functions.ensures.table in
    omega (arith, ap length entries, entries_count typed functions place, functions_count typed functions, c.in_ok-add_functions.ensures.grows)

pub returns : goal.returns
returns c =
    let typed = c.args.typed.now in
    let functions = c.as_slice.result.now in
    let handlers = c.as_slice-events.result.now in
    let code : c.add_handlers.new.code ≡ program_code typed =
    program_emitted typed functions handlers c.new-code.result _ _ c.as_slice.ensures c.as_slice-events.ensures c.new-code.ensures c.in_ok-add_functions.ensures.code c.in_ok-add_functions.ensures.grows c.in_ok-handlers.ensures.code in
    let entries = rw c.new-functions.ensures.items at c.in_ok-add_functions.ensures.table in
    let count = ap length entries ∙ entries_count typed functions (length c.new-code.result) ∙ ap length c.as_slice.ensures in
    record {
      instrs = c.from_list.ensures ∙ c.take-instrs.ensures.instrs ∙ ap (map (λ x. x.0)) code;
      depths = c.from_list-2.ensures ∙ c.take-instrs.ensures.depths ∙ ap (map (λ x. x.1)) code;
      functions = c.from_list-3.ensures ∙
          table_made typed functions handlers c.new-code.result c.add_functions.new.code c.new-functions.result.items _ _ c.as_slice.ensures c.as_slice-events.ensures
          c.new-code.ensures c.new-functions.ensures.items c.in_ok-add_functions.ensures.grows c.in_ok-add_functions.ensures.table c.in_ok-handlers.ensures.table;
      handlers = c.from_list-4.ensures ∙ c.in_ok-handlers.ensures.handlers ∙
          ap (λ l. handler_table l (length c.add_functions.new.table.items)) c.as_slice-events.ensures ∙
          ap (handler_table typed.handlers) count;
      cells = search rules;
      starts = search rules;
      timers = search rules;
      formats = search rules;
    }
