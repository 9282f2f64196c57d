-- The code of each form, appended piece by piece: what each piece appends is known, and where a later one begins.
use Rattle.std.specs.Prelude.{◌≡◌, ℕ, true, ◌+◌, List, [], ◌++◌, length, map, Option}
use Rattle.std.proofs.Common.{refl, ap, sym, ◌∙◌, append_assoc, arith}
use Rattle.bytecode.specs.declared.code.Fun.{Fun}
use Rattle.typed_tree.specs.declared.expression.TExpr.{TExpr}
use Rattle.typed_tree.specs.declared.program.TFun.{TFun}
use Rattle.typed_tree.specs.declared.program.THandler.{THandler}
use Rattle.typed_tree.specs.declared.program.Typed.{Typed}
use Rattle.typed_tree.specs.declared.statement.TStmt.{TStmt}
use Rattle.typed_tree.specs.declared.statement.TStmt.TheVariants as stmt
use Rattle.typed_tree.specs.Size.{for_test_size, jump_size, stmt_size, test_size}
use Rattle.code_listing.specs.Exit.{Backward}
use Rattle.code_listing.specs.Expression.{test_code}
use Rattle.code_listing.specs.Listing.{Listing, jump_code}
use Rattle.code_listing.specs.Program.{function_table, procedures_code, procedures_of, program_code}
use Rattle.code_listing.specs.Statement.{Exits, for_test_code, stmt_code}
use Rattle.gen_stmt.specs.Inside.Procedures.{of_function, of_handler}
use Rattle.gen_stmt.specs.Inside.Rows.{part_code_of, turn_code}
use Rattle.code_size.specs.Rows.{functions_size, part_size_of}
use Rattle.gen_stmt.proofs.Rows.{for_code}
use Rattle.gen_stmt.proofs.Steps.{entries_join, procedures_join}

module _ (typed : Typed) (exits : Exits) (s : TStmt) (old : Listing) where
  -- the body and the test of a loop, with the places to which `break` and `continue` lead
  turn_placed : (test : TExpr) (body : TStmt) (place b k : ℕ) → k ≡ place + stmt_size typed body →
      b ≡ place + (stmt_size typed body + test_size typed true true test) →
      turn_code typed test body place ≡ stmt_code typed (record { break_at = b; continue_at = k }) body place ++
      test_code typed true (Backward place) test (place + stmt_size typed body) 0
  turn_placed test body place b k at_k at_b = rw (at_b, at_k) refl

  -- `while`
  pub while_emitted : (test : TExpr) (body : TStmt) (size : ℕ) (c1 c2 : Listing) → s ≡ stmt.While test body →
      size ≡ stmt_size typed body → c1 ≡ old ++ jump_code size (length old) → length c1 ≡ length old + jump_size size →
      c2 ≡ c1 ++ turn_code typed test body (length c1) → c2 ≡ old ++ stmt_code typed exits s (length old)
  unfolding Rattle.typed_tree.specs.declared.statement.TStmt.TheBlock.hidden-the_row-TStmt-2 denote.Hole.Carrier.hidden
  while_emitted test body size c1 c2 is sized e1 place e2 =
      let n : ℕ = stmt_size typed body in
      let at : ℕ = length old + jump_size n in
      let k : ℕ = length old + (jump_size n + n) in
      let jump : Listing = jump_code n (length old) in
      e2 ∙ ap (λ p. c1 ++ turn_code typed test body p) (place ∙ ap (λ m. length old + jump_size m) sized) ∙
      ap (λ l. l ++ turn_code typed test body at) (e1 ∙ ap (λ m. old ++ jump_code m (length old)) sized) ∙
      append_assoc old jump (turn_code typed test body at) ∙
      ap (λ l. old ++ (jump ++ l)) (turn_placed test body at (k + test_size typed true true test) k (omega arith) (omega arith)) ∙
      ap (λ l. old ++ l) (sym (ap (λ s. stmt_code typed exits s (length old)) is))

  -- `for`
  pub for_emitted : (init : Option TStmt) (test : Option TExpr) (step : Option TStmt) (body : TStmt)
      (body_at b k size : ℕ) (c0 c1 c2 c3 c4 : Listing) → s ≡ stmt.For init test step body →
      size ≡ stmt_size typed body + part_size_of typed step →
      body_at ≡ length old + part_size_of typed init + jump_size size →
      k ≡ length old + part_size_of typed init +
      (jump_size (stmt_size typed body + part_size_of typed step) + stmt_size typed body) →
      b ≡ k + (part_size_of typed step + for_test_size typed test) →
      c0 ≡ old ++ part_code_of typed exits init (length old) →
      length c0 ≡ length old + part_size_of typed init →
      c1 ≡ c0 ++ jump_code size (length c0) →
      length c1 ≡ length old + part_size_of typed init + jump_size (stmt_size typed body + part_size_of typed step) →
      c2 ≡ c1 ++ stmt_code typed (record { break_at = b; continue_at = k }) body (length c1) →
      length c2 ≡ length old + part_size_of typed init +
      jump_size (stmt_size typed body + part_size_of typed step) + stmt_size typed body →
      c3 ≡ c2 ++ part_code_of typed exits step (length c2) →
      length c3 ≡ length old + part_size_of typed init +
      jump_size (stmt_size typed body + part_size_of typed step) +
      (stmt_size typed body + part_size_of typed step) →
      c4 ≡ c3 ++ for_test_code typed test body_at (length c3) →
      c4 ≡ old ++ stmt_code typed exits s (length old)
  for_emitted init test step body body_at b k size c0 c1 c2 c3 c4 is at_size at_body at_k at_b e0 place0 e1 place1 e2 place2 e3 place3 e4 =
      rw (for_code typed exits s init test step body (length old) b k is at_k at_b, e4, place3, e3, place2, e2, place1, e1, place0, e0, at_body, at_size)
      (simp append_assoc)

-- the code of a program
pub program_emitted : (typed : Typed) (functions : List TFun) (handlers : List THandler) (c0 c1 c2 : Listing) →
    functions ≡ typed.functions → handlers ≡ typed.handlers → c0 ≡ [] →
    c1 ≡ c0 ++ procedures_code typed (map of_function functions) (length c0) →
    length c1 ≡ length c0 + functions_size typed functions →
    c2 ≡ c1 ++ procedures_code typed (map of_handler handlers) (length c1) → c2 ≡ program_code typed
program_emitted typed functions handlers c0 c1 c2 fs hs e0 e1 place e2 =
    rw (e2, place, e1, e0, fs, hs) (sym (procedures_join typed typed.functions (map of_handler typed.handlers) 0))

-- the entries of a program
pub table_made : (typed : Typed) (functions : List TFun) (handlers : List THandler) (c0 c1 : Listing) (t0 t1 t2 : List Fun) →
    functions ≡ typed.functions → handlers ≡ typed.handlers → c0 ≡ [] → t0 ≡ [] →
    length c1 ≡ length c0 + functions_size typed functions →
    t1 ≡ t0 ++ function_table typed (map of_function functions) (length c0) →
    t2 ≡ t1 ++ function_table typed (map of_handler handlers) (length c1) →
    t2 ≡ function_table typed (procedures_of typed) 0
table_made typed functions handlers c0 c1 t0 t1 t2 fs hs e0 f0 place e1 e2 =
    rw (e2, place, e1, f0, e0, fs, hs) (sym (entries_join typed typed.functions (map of_handler typed.handlers) 0))
