-- Each procedure has some code.
use mathlib.Core.Former.{Count}
use Rattle.std.proofs.Common.{◌≡◌, ℕ, ◌+◌, ◌≤◌, Bool, true, false, List, [], ◌∷◌, length, refl, arith}
use Rattle.std.specs.Prelude.{◌||◌, is_some, sum_by}
use Rattle.std.proofs.lemmas.List.Sums.{sum_by-cons}
use Rattle.typed_tree.specs.declared.program.TFun.{TFun}
use Rattle.typed_tree.specs.declared.program.Typed.{Typed}
use Rattle.typed_tree.specs.declared.statement.TStmt.{TStmt, Row_of-TStmt, end_of-TStmt, more_of-TStmt}
use Rattle.typed_tree.specs.declared.statement.TStmt.TheVariants.{Block', If', Break, Continue, Return}
use Rattle.typed_tree.specs.declared.statement.TStmt.TheBlock.{Held-TStmt-If-1, Row_of-TArm, end_of-TArm, more_of-TArm}
use Rattle.typed_tree.specs.Forms.{NoPart, Part}
use Rattle.typed_tree.specs.Shape.{arms_go_on, body_goes_on, goes_on, last_goes_on, part_goes_on}
use Rattle.typed_tree.specs.Size.{arms_size, part_size, procedure_size, stmt_size, stmts_size, tail_size}
use Rattle.code_size.specs.Rows.{functions_size}

mutual
  -- a statement behind which control does not go on has some code
  some_stmt : (typed : Typed) (s : TStmt) → goes_on s ≡ false → 1 ≤ stmt_size typed s
  some_stmt typed (Block' shape all) stops =
      let some = some_row typed true 0 _ all stops (λ no. absurd (let f : true ≡ false = no in cc)) in omega (arith, some)
  some_stmt typed (If' shape arms other) stops = some_arms typed _ arms other stops (some_part typed other)
  some_stmt typed Break stops = omega arith
  some_stmt typed Continue stops = omega arith
  some_stmt typed (Return value) stops = omega arith
  some_stmt typed s stops = absurd (let f : true ≡ false = stops in cc)

  -- so have statements in a row, or what stands before them
  some_row : (typed : Typed) (before : Bool) (n : ℕ) (m : Count) (row : Row_of-TStmt m) → last_goes_on before row ≡ false →
      (before ≡ false → 1 ≤ n) → 1 ≤ n + stmts_size typed row
  some_row typed before n m end_of-TStmt stops some = omega (arith, some stops)
  some_row typed before n m (more_of-TStmt s rest) stops some =
      let all = some_row typed (goes_on s) (stmt_size typed s) _ rest stops (some_stmt typed s) in
      omega (arith, all)

  -- and the arms of an `if`, with what stands behind them
  some_arms : (typed : Typed) (m : Count) (arms : Row_of-TArm m) (other : Held-TStmt-If-1) → arms_go_on arms (part_goes_on other) ≡ false →
      (part_goes_on other ≡ false → 1 ≤ part_size typed other) → 1 ≤ arms_size typed arms (part_size typed other)
  some_arms typed m end_of-TArm other stops some = some stops
  some_arms typed m (more_of-TArm test body rest) other stops some =
      let more = some_arms typed _ rest other (last (goes_on body) stops) some in omega (arith, more)
    where
      last : (b : Bool) → b || arms_go_on rest (part_goes_on other) ≡ false → arms_go_on rest (part_goes_on other) ≡ false
      last true h = absurd (let f : true ≡ false = h in cc)
      last false h = h

  -- and a part
  some_part : (typed : Typed) (part : Held-TStmt-If-1) → part_goes_on part ≡ false → 1 ≤ part_size typed part
  some_part typed NoPart stops = absurd (let f : true ≡ false = stops in cc)
  some_part typed (Part part) stops = some_stmt typed part stops

-- statements behind which control does not go on have some code
some_body : (typed : Typed) (before : Bool) (n : ℕ) (body : List TStmt) → body_goes_on before body ≡ false →
    (before ≡ false → 1 ≤ n) → 1 ≤ n + sum_by (stmt_size typed) body
some_body typed before n [] stops some = omega (arith, some stops)
some_body typed before n (s ∷ rest) stops some =
    let all = some_body typed (goes_on s) (stmt_size typed s) rest stops (some_stmt typed s) in
    omega (arith, all, sum_by-cons (stmt_size typed) s rest)

-- a procedure has some code
pub some_procedure : (typed : Typed) (gives : Bool) (body : List TStmt) → 1 ≤ procedure_size typed gives body
some_procedure typed gives body = by gives (body_goes_on true body) refl
  where
    by : (g b : Bool) → body_goes_on true body ≡ b → 1 ≤ sum_by (stmt_size typed) body + tail_size g b
    by g false stops = let some = some_body typed true 0 body stops (λ no. absurd (let f : true ≡ false = no in cc)) in omega (arith, some)
    by true true goes = omega arith
    by false true goes = omega arith

-- there are no more functions than instructions of them
pub functions_count : (typed : Typed) (functions : List TFun) → length functions ≤ functions_size typed functions
functions_count typed [] = omega arith
functions_count typed (function ∷ rest) =
    omega (
      arith,
      functions_count typed rest,
      some_procedure typed (is_some function.gives) function.body,
      sum_by-cons (λ function. procedure_size typed (is_some function.gives) function.body) function rest,
    )
