-- The code of a program has as many instructions as its size says.
use Rattle.std.specs.Prelude.{◌≡◌, ℕ, ◌+◌, Bool, true, false, List, [], ◌∷◌, length, map, sum_by, is_some}
use Rattle.std.proofs.lemmas.List.Sums.{sum_by-append, sum_by-cons}
use Rattle.std.proofs.Common.{refl, ap, sym, ◌∙◌}
use Rattle.typed_tree.specs.declared.program.TFun.{TFun}
use Rattle.typed_tree.specs.declared.program.THandler.{THandler}
use Rattle.typed_tree.specs.declared.program.Typed.{Typed}
use Rattle.typed_tree.specs.declared.statement.TStmt.{TStmt}
use Rattle.typed_tree.specs.Size.{procedure_size, size, stmt_size, tail_size}
use Rattle.code_listing.specs.Program.{Procedure, body_code, place_behind, procedure_code, procedures_code, procedures_of, program_code, tail_code}
use Rattle.code_listing.specs.Statement.{Exits}
use Rattle.code_listing.proofs.ExpressionSizes.{both_long}
use Rattle.code_listing.proofs.StatementSizes.{stmt_long}

-- the code of the statements of a procedure
pub body_long : (typed : Typed) (exits : Exits) (body : List TStmt) (place : ℕ) →
    length (body_code typed exits body place) ≡ sum_by (stmt_size typed) body
body_long typed exits [] place = refl
body_long typed exits (s ∷ rest) place =
    both_long _ _ _ _ (stmt_long typed exits s place) (body_long typed exits rest (place + stmt_size typed s)) ∙
    sym (sum_by-cons (stmt_size typed) s rest)

-- the end of a procedure
pub tail_long : (gives goes : Bool) → length (tail_code gives goes) ≡ tail_size gives goes
tail_long gives false = refl
tail_long false true = refl
tail_long true true = refl

-- the code of a procedure is as long as its size
pub procedure_long : (typed : Typed) (procedure : Procedure) (place : ℕ) →
    length (procedure_code typed procedure place) ≡ procedure_size typed procedure.gives procedure.body
procedure_long typed procedure place =
    both_long _ _ _ _ (body_long typed _ procedure.body place) (tail_long procedure.gives _)

-- the code of procedures is as long as their sizes
pub procedures_long : (typed : Typed) (all : List Procedure) (place : ℕ) → length (procedures_code typed all place) ≡
    sum_by (λ procedure. procedure_size typed procedure.gives procedure.body) all
procedures_long typed [] place = refl
procedures_long typed (procedure ∷ rest) place =
    both_long _ _ _ _ (procedure_long typed procedure place)
    (procedures_long typed rest (place_behind typed procedure place)) ∙
    sym (sum_by-cons (λ procedure. procedure_size typed procedure.gives procedure.body) procedure rest)

-- a sum over what a function makes of a list
sum_of_map : {A B : Type 0} (f : B → ℕ) (g : A → B) (xs : List A) →
    sum_by f (map g xs) ≡ sum_by (λ x. f (g x)) xs
sum_of_map f g [] = refl
sum_of_map f g (x ∷ xs) =
    sum_by-cons f (g x) (map g xs) ∙ ap (λ n. f (g x) + n) (sum_of_map f g xs) ∙
    sym (sum_by-cons (λ x. f (g x)) x xs)

-- the code of a program is as long as its size
pub program_long : (typed : Typed) → length (program_code typed) ≡ size typed
program_long typed =
    let of_function : TFun → Procedure =
    λ function. record { gives = is_some function.gives; body = function.body } in
    let of_handler : THandler → Procedure = λ handler. record { gives = false; body = handler.body } in
    let long : Procedure → ℕ = λ procedure. procedure_size typed procedure.gives procedure.body in
    procedures_long typed (procedures_of typed) 0 ∙
    sum_by-append long (map of_function typed.functions) (map of_handler typed.handlers) ∙
    ap (λ n. n + sum_by long (map of_handler typed.handlers))
    (sum_of_map long of_function typed.functions) ∙
    ap (λ n. sum_by (λ function. long (of_function function)) typed.functions + n)
    (sum_of_map long of_handler typed.handlers)
