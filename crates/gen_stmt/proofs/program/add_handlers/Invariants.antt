-- What is appended so far, with the code and the entries of the event procedures that are left, is all of it.
use Rattle.std.proofs.Common.{◌≡◌, ◌+◌, ◌≤◌, ◌++◌, length, drop}
use Rattle.std.specs.Prelude.{map}
use Rattle.code_listing.specs.Program.{function_table, handler_table, procedures_code}
use Rattle.gen_stmt.specs.Inside.Procedures.{of_handler}
use Rattle.code_size.specs.Rows.{handlers_size}
use Rattle.gen_stmt.proofs.program.add_handlers.Given as goal

abbrev pub invariant-loop-handler : goal.invariant-loop-handler
invariant-loop-handler l = record {
  grown : length l.code + handlers_size l.typed (drop l.handler-index l.handlers) ≡
      length l.fn.code + handlers_size l.typed l.handlers;
  code : l.code ++ procedures_code l.typed (map of_handler (drop l.handler-index l.handlers)) (length l.code) ≡
      l.fn.code ++ procedures_code l.typed (map of_handler l.handlers) (length l.fn.code);
  table : l.table.items ++
      function_table l.typed (map of_handler (drop l.handler-index l.handlers)) (length l.code) ≡
      l.fn.table.items ++ function_table l.typed (map of_handler l.handlers) (length l.fn.code);
  few : length l.table.items ≤ length l.code;
  entries : l.entries.items ++ handler_table (drop l.handler-index l.handlers) (length l.table.items) ≡
      handler_table l.handlers (length l.fn.table.items);
}
