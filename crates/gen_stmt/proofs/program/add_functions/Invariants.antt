-- What is appended so far, with the code and the entries of the functions that are left, is all of it.
use Rattle.std.proofs.Common.{◌≡◌, ◌+◌, ◌++◌, length, drop}
use Rattle.std.specs.Prelude.{map}
use Rattle.code_listing.specs.Program.{function_table, procedures_code}
use Rattle.gen_stmt.specs.Inside.Procedures.{of_function}
use Rattle.code_size.specs.Rows.{functions_size}
use Rattle.gen_stmt.proofs.program.add_functions.Given as goal

abbrev pub invariant-loop-function : goal.invariant-loop-function
invariant-loop-function l = record {
  grown : length l.code + functions_size l.typed (drop l.function-index l.functions) ≡
      length l.fn.code + functions_size l.typed l.functions;
  code : l.code ++ procedures_code l.typed (map of_function (drop l.function-index l.functions)) (length l.code) ≡
      l.fn.code ++ procedures_code l.typed (map of_function l.functions) (length l.fn.code);
  table : l.table.items ++
      function_table l.typed (map of_function (drop l.function-index l.functions)) (length l.code) ≡
      l.fn.table.items ++ function_table l.typed (map of_function l.functions) (length l.fn.code);
}
