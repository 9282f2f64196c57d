-- The code of a sound typed statement is no longer than the statement's weight.
use mathlib.Core.Former.{Count}
use Rattle.std.proofs.Common.{◌≡◌, ℕ, suc, ◌+◌, ◌≤◌, Bool, true, false, not, ◌&&◌, List, [], ◌∷◌, length, Option, Some, None, refl, ap, arith}
use Rattle.std.specs.Prelude.{◌==◌, cond, count_by, filter, filter_map, if◌then◌else◌, is_some, map, sum, sum_by, take}
use Rattle.std.specs.List.{AllByRecursion, cons_option}
use Rattle.std.specs.Option.{option_map, option_map_or}
use Rattle.std.proofs.lemmas.List.Sums.{count_by-le-length, sum_by-cons}
use Rattle.int_kinds.specs.declared.kinds.Kind.{Kind}
use Rattle.write_format.specs.declared.piece.Piece.{Piece}
use Rattle.capl_tree.specs.declared.expr.Expr.{Expr, Row_of-Expr, end_of-Expr, more_of-Expr, items-the_row-Expr}
use Rattle.capl_tree.specs.declared.expr.Expr.TheVariants as expr
use Rattle.capl_tree.specs.declared.statement.Label.{Label}
use Rattle.capl_tree.specs.declared.statement.Stmt.{Stmt, Row_of-Stmt, end_of-Stmt, more_of-Stmt}
use Rattle.capl_tree.specs.declared.statement.Stmt.TheBlock.{Row_of-Arm, end_of-Arm, more_of-Arm, Row_of-Group, end_of-Group, more_of-Group, Held-Stmt-If-1}
use Rattle.capl_tree.specs.declared.statement.Stmt.TheVariants as stmt
use Rattle.capl_tree.specs.Forms as tree
use Rattle.capl_tree.specs.Weight.{arms_weight, else_weight, expression_weight, expressions_weight, further_arms_weight, groups_weight, part_weight, statement_weight, statements_weight}
use Rattle.typed_tree.specs.declared.expression.TExpr.{TExpr}
use Rattle.typed_tree.specs.declared.expression.TExpr.TheVariants.{Bump}
use Rattle.typed_tree.specs.declared.statement.TStmt.{TStmt, Row_of-TStmt, end_of-TStmt, more_of-TStmt}
use Rattle.typed_tree.specs.declared.statement.TStmt.TheVariants as t
use Rattle.typed_tree.specs.declared.program.Typed.{Typed}
use Rattle.typed_tree.specs.Shape.{goes_on, is_break, is_end, is_end_of_groups, leaves_number}
use Rattle.typed_tree.specs.Statement.{default_group, labels_of}
use Rattle.typed_tree.specs.Size.{arms_size, case_count, dropped_size, for_test_size, group_sizes, jump_size, last_group_size, loop_size, one_if, part_size, returned_size, stmt_size, stmts_size, test_size, value_size}
use Rattle.typed_tree.specs.SoundExpression.{IsSoundAlone, IsSoundExpr}
use Rattle.typed_tree.specs.SoundStatement.{AreSoundArms, AreSoundGroups, AreSoundStmts, Around, IsSoundOption, IsSoundPart, IsSoundStmt, in_loop, in_switch}
use Rattle.capl_meaning.specs.declared.builtin.Builtin.TheVariants as builtin
use Rattle.capl_meaning.specs.Variable.{Variable}
use Rattle.capl_meaning.specs.Names.{Callee, OfLanguage, Scope, callee}
use Rattle.capl_meaning.specs.Message.{Held, HeldVariable, message_in}
use Rattle.capl_meaning.specs.Sort.{is_number, sort_of}
use Rattle.capl_meaning.specs.Constant.{prefix_kind}
use Rattle.capl_meaning.specs.Store.{timer_number}
use Rattle.capl_meaning.specs.Expression.{timer_in}
use Rattle.capl_meaning.specs.StatementRules.{label_of}
use Rattle.typed_laws.specs.Laid.{message_slot}
use Rattle.typed_source.specs.Expression.{expression_of}
use Rattle.typed_source.specs.Statement.{alone_of, arms_of, else_of, formats_of, formats_of_arms, formats_of_part, formats_of_row, groups_of, numbers_of, of_assignment, of_call_alone, part_of, pieces_written, returned, setting, statement_of, statements_of, writing}
use Rattle.typed_source.proofs.ExpressionSizes.{light, one_short, weaken}

-- ---- weights of lists

-- what expressions weigh together
abbrev list_weight : List Expr → ℕ
list_weight [] = 0
list_weight (e ∷ es) = expression_weight e + list_weight es

row_weight : {m : Count} (row : Row_of-Expr m) → list_weight (items-the_row-Expr m row) ≡ expressions_weight row
row_weight end_of-Expr = refl
row_weight (more_of-Expr first rest) = ap (λ n. expression_weight first + n) (row_weight rest)

first_lighter : {m : Count} (row : Row_of-Arm m) → arms_weight row ≤ further_arms_weight row
first_lighter end_of-Arm = omega arith
first_lighter (more_of-Arm test body rest) = omega arith

-- ---- jumps and labels

jump_short : (n : ℕ) → jump_size n ≤ 1
jump_short n = one_short (not (n == 0))

arm_jump_short : (b : Bool) (n : ℕ) → (if b then jump_size n else 0) ≤ 1
arm_jump_short true n = jump_short n
arm_jump_short false n = omega arith

few_made : {A B : Type 0} (f : A → Option B) (xs : List A) → length (filter_map f xs) ≤ length xs
few_made f [] = omega arith
few_made f (x ∷ xs) = go (f x) (few_made f xs)
  where
    go : (o : Option _) → length (filter_map f xs) ≤ length xs → length (cons_option o (filter_map f xs)) ≤ suc (length xs)
    go None h = omega (arith, h)
    go (Some y) h = omega (arith, h)

module _ (typed : Typed) where
  dropped_short : (e : TExpr) → dropped_size typed e ≤ value_size typed e
  dropped_short (Bump place k up true) = omega arith
  dropped_short (Bump place k up false) = omega arith
  dropped_short e = omega arith

  last_short : {m : Count} (row : Row_of-TStmt m) → last_group_size typed row ≤ stmts_size typed row
  last_short end_of-TStmt = omega arith
  last_short (more_of-TStmt u rest) = go (is_break u && is_end rest) (last_short rest)
    where
      go : (b : Bool) → last_group_size typed rest ≤ stmts_size typed rest → (if b then 0 else stmt_size typed u + last_group_size typed rest) ≤ stmt_size typed u + stmts_size typed rest
      go true h = omega arith
      go false h = omega (arith, h)

  group_short : (b : Bool) {m : Count} (row : Row_of-TStmt m) → (if b then last_group_size typed row else stmts_size typed row) ≤ stmts_size typed row
  group_short true row = last_short row
  group_short false row = omega arith

  module _ (s : Scope) (order : List ℕ) where
    -- ---- expressions that stand alone

    evaluated_small : (n : ℕ) (e : Expr) → IsSoundAlone typed n (expression_of s order e) → stmt_size typed (t.Eval (expression_of s order e)) ≤ expression_weight e
    evaluated_small n e sound =
        let p : value_size typed (expression_of s order e) + 7 ≤ expression_weight e = (light typed n s order e sound).value in
        let q : dropped_size typed (expression_of s order e) ≤ value_size typed (expression_of s order e) = dropped_short (expression_of s order e) in
        let r : one_if (leaves_number typed (expression_of s order e)) ≤ 1 = one_short (leaves_number typed (expression_of s order e)) in
        omega (arith, p, q, r)

    numbers_small : (n : ℕ) (es : List Expr) → AllByRecursion (IsSoundExpr typed n) (numbers_of s order es) → sum_by (value_size typed) (numbers_of s order es) ≤ list_weight es
    numbers_small n [] sound = omega arith
    numbers_small n (e ∷ es) sound = go (is_number (sort_of s e)) sound (numbers_small n es)
      where
        go : (b : Bool) → AllByRecursion (IsSoundExpr typed n) (map (expression_of s order) (cond b (e ∷ filter (λ e. is_number (sort_of s e)) es) (filter (λ e. is_number (sort_of s e)) es))) →
            (AllByRecursion (IsSoundExpr typed n) (numbers_of s order es) → sum_by (value_size typed) (numbers_of s order es) ≤ list_weight es) →
            sum_by (value_size typed) (map (expression_of s order) (cond b (e ∷ filter (λ e. is_number (sort_of s e)) es) (filter (λ e. is_number (sort_of s e)) es))) ≤ expression_weight e + list_weight es
        go false sound further = let h : sum_by (value_size typed) (numbers_of s order es) ≤ list_weight es = further sound in omega (arith, h)
        go true sound further =
            let h : sum_by (value_size typed) (numbers_of s order es) ≤ list_weight es = further sound.1 in
            let p : value_size typed (expression_of s order e) + 7 ≤ expression_weight e = (light typed n s order e (weaken typed n (expression_of s order e) sound.0)).value in
            let q : sum_by (value_size typed) (expression_of s order e ∷ numbers_of s order es) ≡ value_size typed (expression_of s order e) + sum_by (value_size typed) (numbers_of s order es) =
            sum_by-cons (value_size typed) (expression_of s order e) (numbers_of s order es) in
            omega (arith, h, p, q)

    send_small : (o : Option Held) (weight : ℕ) → stmt_size typed (option_map_or (λ held. t.Send (message_slot s.names held)) o t.Empty) ≤ 8 + weight
    send_small None weight = omega arith
    send_small (Some held) weight = omega arith

    cancel_small : (o : Option Variable) (weight : ℕ) → stmt_size typed (option_map_or (λ v. t.Cancel (timer_number s.names v)) o t.Empty) ≤ 8 + weight
    cancel_small None weight = omega arith
    cancel_small (Some v) weight = omega arith

    set_small : (around : Around) (o : Option Variable) (cyclic : Bool) (timer duration : Expr) → IsSoundStmt typed around (setting s.names o cyclic (expression_of s order duration)) →
        stmt_size typed (setting s.names o cyclic (expression_of s order duration)) ≤ 8 + list_weight (timer ∷ duration ∷ [])
    set_small around None cyclic timer duration sound = omega arith
    set_small around (Some v) cyclic timer duration sound =
        let p : value_size typed (expression_of s order duration) + 7 ≤ expression_weight duration =
        (light typed around.number s order duration (weaken typed around.number (expression_of s order duration) sound.1)).value in
        omega (arith, p)

    write_small : (around : Around) (before : ℕ) (o : Option (List Piece)) (format : Expr) (es : List Expr) → IsSoundStmt typed around (writing s order before o es) →
        stmt_size typed (writing s order before o es) ≤ 8 + list_weight (format ∷ es)
    write_small around before None format es sound = omega arith
    write_small around before (Some pieces) format es sound =
        let p : sum_by (value_size typed) (numbers_of s order es) ≤ list_weight es = numbers_small around.number es sound.1 in omega (arith, p)

    call_small : (around : Around) (before : ℕ) (c : Callee) (args : List Expr) (other : TStmt) → (IsSoundStmt typed around other → stmt_size typed other ≤ 8 + list_weight args) →
        IsSoundStmt typed around (of_call_alone s order before c args other) → stmt_size typed (of_call_alone s order before c args other) ≤ 8 + list_weight args
    call_small around before (OfLanguage builtin.Output) (message ∷ []) other h sound = send_small (message_in s message) (list_weight (message ∷ []))
    call_small around before (OfLanguage builtin.Write) (format ∷ es) other h sound = write_small around before (pieces_written s format es) format es sound
    call_small around before (OfLanguage builtin.SetTimer) (timer ∷ duration ∷ []) other h sound = set_small around (timer_in s timer) false timer duration sound
    call_small around before (OfLanguage builtin.SetTimerCyclic) (timer ∷ duration ∷ []) other h sound = set_small around (timer_in s timer) true timer duration sound
    call_small around before (OfLanguage builtin.CancelTimer) (timer ∷ []) other h sound = cancel_small (timer_in s timer) (list_weight (timer ∷ []))
    call_small around before (OfLanguage builtin.Stop) [] other h sound = omega arith
    call_small around before c args other h sound = h sound

    assignment_small : (around : Around) (l r : Option Held) (other : TStmt) (weight : ℕ) → 1 ≤ weight → (IsSoundStmt typed around other → stmt_size typed other ≤ weight) →
        IsSoundStmt typed around (of_assignment s.names l r other) → stmt_size typed (of_assignment s.names l r other) ≤ weight
    assignment_small around (Some (HeldVariable v signals)) (Some from) other weight least h sound = least
    assignment_small around l r other weight least h sound = h sound

    alone_small : (around : Around) (before : ℕ) (e : Expr) → IsSoundStmt typed around (alone_of s order before e) → stmt_size typed (alone_of s order before e) ≤ expression_weight e
    alone_small around before (tree.Paren inner at) sound =
        let h : stmt_size typed (alone_of s order before inner) ≤ expression_weight inner = alone_small around before inner sound in omega (arith, h)
    alone_small around before (expr.Call' name shape args at) sound =
        let same : list_weight (items-the_row-Expr _ args) ≡ expressions_weight args = row_weight args in
        let h : stmt_size typed (alone_of s order before (expr.Call' name shape args at)) ≤ 8 + list_weight (items-the_row-Expr _ args) =
        call_small around before (callee s.names name) (items-the_row-Expr _ args) (t.Eval (expression_of s order (expr.Call' name shape args at)))
        (λ sound. let p : stmt_size typed (t.Eval (expression_of s order (expr.Call' name shape args at))) ≤ 8 + expressions_weight args = evaluated_small around.number (expr.Call' name shape args at) sound in omega (arith, p, same)) sound in
        omega (arith, h, same)
    alone_small around before (tree.Assign None left right at) sound =
        assignment_small around (message_in s left) (message_in s right) (t.Eval (expression_of s order (tree.Assign None left right at))) (8 + expression_weight left + expression_weight right) (omega arith)
        (evaluated_small around.number (tree.Assign None left right at)) sound
    alone_small around before e sound = evaluated_small around.number e sound

    -- ---- parts of statements

    test_small : (n : ℕ) (when fires : Bool) (e : Expr) → IsSoundExpr typed n (expression_of s order e) → test_size typed when fires (expression_of s order e) + 5 ≤ expression_weight e
    test_small n when fires e sound = (light typed n s order e (weaken typed n (expression_of s order e) sound)).test when fires

    part_small : (around : Around) (before : ℕ) (part : Option Expr) → IsSoundPart typed around (part_of s order before part) → part_size typed (part_of s order before part) ≤ part_weight part
    part_small around before None sound = omega arith
    part_small around before (Some e) sound = alone_small around before e sound

    for_test_small : (n : ℕ) (test : Option Expr) → IsSoundOption typed n (option_map (expression_of s order) test) → for_test_size typed (option_map (expression_of s order) test) ≤ 2 + part_weight test
    for_test_small n None sound = omega arith
    for_test_small n (Some e) sound = let p : test_size typed true true (expression_of s order e) + 5 ≤ expression_weight e = test_small n true true e sound in omega (arith, p)

    returned_small : (gives : Option Kind) (n : ℕ) (value : Option Expr) → IsSoundOption typed n (option_map (λ e. returned gives (expression_of s order e)) value) →
        returned_size typed (option_map (λ e. returned gives (expression_of s order e)) value) ≤ part_weight value
    returned_small gives n None sound = omega arith
    returned_small None n (Some e) sound =
        let p : value_size typed (expression_of s order e) + 7 ≤ expression_weight e = (light typed n s order e (weaken typed n (expression_of s order e) sound)).value in omega (arith, p)
    returned_small (Some k) n (Some e) sound =
        let p : value_size typed (expression_of s order e) + 7 ≤ expression_weight e = (light typed n s order e (weaken typed n (expression_of s order e) sound.1)).value in omega (arith, p)

    loop_small : (body test : ℕ) → loop_size body test ≤ 1 + (body + test)
    loop_small body test = let j : jump_size body ≤ 1 = jump_short body in omega (arith, j)

    -- ---- statements

    mutual
      pub small : (around : Around) (before : ℕ) (st : Stmt) → IsSoundStmt typed around (statement_of s order before st) → stmt_size typed (statement_of s order before st) ≤ statement_weight st
      small around before stmt.Empty sound = omega arith
      small around before (stmt.Block' shape body) sound =
          let h : stmts_size typed (statements_of s order before body) ≤ statements_weight body = small_row around before body sound.1 in omega (arith, h)
      small around before (stmt.Decl declaration) sound = omega arith
      small around before (stmt.Expr e) sound = let h : stmt_size typed (alone_of s order before e) ≤ expression_weight e = alone_small around before e sound in omega (arith, h)
      small around before (stmt.If' shape arms other) sound =
          let behind = else_of s order (before + length (formats_of_arms s arms)) other in
          let h : arms_size typed (arms_of s order before arms) (part_size typed behind) ≤ arms_weight arms + part_size typed behind = small_arms around before arms (part_size typed behind) sound.1 in
          let g : part_size typed behind ≤ else_weight other = small_else around (before + length (formats_of_arms s arms)) other sound.2 in
          omega (arith, h, g)
      small around before (tree.While test body) sound =
          let h : stmt_size typed (statement_of s order before body) ≤ statement_weight body = small (in_loop around) before body sound.1 in
          let g : test_size typed true true (expression_of s order test) + 5 ≤ expression_weight test = test_small around.number true true test sound.0 in
          let j : loop_size (stmt_size typed (statement_of s order before body)) (test_size typed true true (expression_of s order test)) ≤
          1 + (stmt_size typed (statement_of s order before body) + test_size typed true true (expression_of s order test)) = loop_small (stmt_size typed (statement_of s order before body)) (test_size typed true true (expression_of s order test)) in
          omega (arith, h, g, j)
      small around before (tree.Do body test) sound =
          let h : stmt_size typed (statement_of s order before body) ≤ statement_weight body = small (in_loop around) before body sound.0 in
          let g : test_size typed true true (expression_of s order test) + 5 ≤ expression_weight test = test_small around.number true true test sound.1 in
          omega (arith, h, g)
      small around before (tree.For init test step body) sound =
          let inits = length (formats_of_part s init) in
          let steps = length (formats_of_part s step) in
          let p : part_size typed (part_of s order before init) ≤ part_weight init = part_small around before init sound.1 in
          let q : for_test_size typed (option_map (expression_of s order) test) ≤ 2 + part_weight test = for_test_small around.number test sound.2 in
          let r : part_size typed (part_of s order (before + inits) step) ≤ part_weight step = part_small around (before + inits) step sound.3 in
          let h : stmt_size typed (statement_of s order (before + inits + steps) body) ≤ statement_weight body = small (in_loop around) (before + inits + steps) body sound.4 in
          let j : loop_size (stmt_size typed (statement_of s order (before + inits + steps) body) + part_size typed (part_of s order (before + inits) step)) (for_test_size typed (option_map (expression_of s order) test)) ≤
          1 + ((stmt_size typed (statement_of s order (before + inits + steps) body) + part_size typed (part_of s order (before + inits) step)) + for_test_size typed (option_map (expression_of s order) test)) =
          loop_small (stmt_size typed (statement_of s order (before + inits + steps) body) + part_size typed (part_of s order (before + inits) step)) (for_test_size typed (option_map (expression_of s order) test)) in
          omega (arith, p, q, r, h, j)
      small around before (stmt.Switch' on shape groups) sound =
          let row = groups_of s order (prefix_kind s on) before groups in
          let p : value_size typed (expression_of s order on) + 7 ≤ expression_weight on = (light typed around.number s order on (weaken typed around.number (expression_of s order on) sound.1.1)).value in
          let h : case_count (labels_of row) + sum (group_sizes typed row) ≤ groups_weight groups = small_groups (in_switch around) (prefix_kind s on) before groups sound.2 in
          let j : jump_size (sum (take (default_group (labels_of row)) (group_sizes typed row))) ≤ 1 = jump_short (sum (take (default_group (labels_of row)) (group_sizes typed row))) in
          omega (arith, p, h, j)
      small around before (stmt.Break at) sound = omega arith
      small around before (stmt.Continue at) sound = omega arith
      small around before (stmt.Return value at) sound =
          let h : returned_size typed (option_map (λ e. returned s.gives (expression_of s order e)) value) ≤ part_weight value = returned_small s.gives around.number value sound.1 in omega (arith, h)

      small_row : (around : Around) (before : ℕ) {m : Count} (row : Row_of-Stmt m) → AreSoundStmts typed around (statements_of s order before row) →
          stmts_size typed (statements_of s order before row) ≤ statements_weight row
      small_row around before end_of-Stmt sound = omega arith
      small_row around before (more_of-Stmt first rest) sound =
          let h : stmt_size typed (statement_of s order before first) ≤ statement_weight first = small around before first sound.0 in
          let g : stmts_size typed (statements_of s order (before + length (formats_of s first)) rest) ≤ statements_weight rest = small_row around (before + length (formats_of s first)) rest sound.1 in
          omega (arith, h, g)

      small_arms : (around : Around) (before : ℕ) {m : Count} (row : Row_of-Arm m) (other : ℕ) → AreSoundArms typed around (arms_of s order before row) →
          arms_size typed (arms_of s order before row) other ≤ arms_weight row + other
      small_arms around before end_of-Arm other sound = omega arith
      small_arms around before (more_of-Arm test body rest) other sound =
          let p : test_size typed false false (expression_of s order test) + 5 ≤ expression_weight test = test_small around.number false false test sound.0 in
          let h : stmt_size typed (statement_of s order before body) ≤ statement_weight body = small around before body sound.1 in
          let g : arms_size typed (arms_of s order (before + length (formats_of s body)) rest) other ≤ arms_weight rest + other = small_arms around (before + length (formats_of s body)) rest other sound.2 in
          let f : arms_weight rest ≤ further_arms_weight rest = first_lighter rest in
          let j : (if goes_on (statement_of s order before body) then jump_size (arms_size typed (arms_of s order (before + length (formats_of s body)) rest) other) else 0) ≤ 1 =
          arm_jump_short (goes_on (statement_of s order before body)) (arms_size typed (arms_of s order (before + length (formats_of s body)) rest) other) in
          omega (arith, p, h, g, f, j)

      small_else : (around : Around) (before : ℕ) (other : Held-Stmt-If-1) → IsSoundPart typed around (else_of s order before other) → part_size typed (else_of s order before other) ≤ else_weight other
      small_else around before tree.NoElse sound = omega arith
      small_else around before (tree.Else body) sound = small around before body sound

      small_groups : (around : Around) (k : Kind) (before : ℕ) {m : Count} (row : Row_of-Group m) → AreSoundGroups typed around (groups_of s order k before row) →
          case_count (labels_of (groups_of s order k before row)) + sum (group_sizes typed (groups_of s order k before row)) ≤ groups_weight row
      small_groups around k before end_of-Group sound = omega arith
      small_groups around k before (more_of-Group labels shape body rest) sound =
          let made = filter_map (λ (label : Label). label_of s k label.at label.value) labels in
          let later = groups_of s order k (before + length (formats_of_row s body)) rest in
          let own = statements_of s order before body in
          let here : ℕ = if is_end_of_groups later then last_group_size typed own else stmts_size typed own in
          let h : stmts_size typed own ≤ statements_weight body = small_row around before body sound.1 in
          let g : case_count (labels_of later) + sum (group_sizes typed later) ≤ groups_weight rest = small_groups around k (before + length (formats_of_row s body)) rest sound.2 in
          let c : case_count (made ∷ labels_of later) ≡ count_by is_some made + case_count (labels_of later) = sum_by-cons (count_by is_some) made (labels_of later) in
          let d : sum (here ∷ group_sizes typed later) ≡ here + sum (group_sizes typed later) = sum_by-cons (λ n. n) here (group_sizes typed later) in
          let l : count_by is_some made ≤ length made = count_by-le-length is_some made in
          let f : length made ≤ length labels = few_made (λ (label : Label). label_of s k label.at label.value) labels in
          let q : here ≤ stmts_size typed own = group_short (is_end_of_groups later) own in
          omega (arith, h, g, c, d, l, f, q)
