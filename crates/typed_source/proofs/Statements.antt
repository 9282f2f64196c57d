-- The typed tree of each statement does what the statement does, in a program that has its formats where their
-- numbers say.
use mathlib.Core.Former.{Count}
use Rattle.std.proofs.Common.{◌≡◌, ℕ, zero, suc, ◌+◌, Bool, List, ◌∷◌, ◌++◌, length, Option, Some, None, refl, ap, ◌∙◌}
use Rattle.std.specs.Prelude.{ℤ, filter_map, position, unwrap_or}
use Rattle.std.specs.List.{list_any}
use Rattle.std.specs.Option.{option_map}
use Rattle.int_kinds.specs.declared.kinds.Kind.{Kind}
use Rattle.int_kinds.specs.Kind.{wrap}
use Rattle.write_format.specs.Line.{FormatText}
use Rattle.control_flow.specs.World.{World, Run, Gives, Fails, and_then, run_map}
use Rattle.control_flow.specs.Control.{Does, End, leaving_switch}
use Rattle.capl_tree.specs.declared.expr.Expr.{Expr}
use Rattle.capl_tree.specs.declared.statement.Stmt.{Stmt, Row_of-Stmt, end_of-Stmt, more_of-Stmt}
use Rattle.capl_tree.specs.declared.statement.Stmt.TheBlock.{Row_of-Arm, end_of-Arm, more_of-Arm, Row_of-Group, end_of-Group, more_of-Group, Held-Stmt-If-1}
use Rattle.capl_tree.specs.declared.statement.Stmt.TheVariants as stmt
use Rattle.capl_tree.specs.Forms as tree
use Rattle.typed_tree.specs.declared.statement.TStmt.{TStmt}
use Rattle.typed_tree.specs.declared.statement.TStmt.TheVariants as t
use Rattle.typed_tree.specs.Expression as typed
use Rattle.typed_tree.specs.Memory as cells
use Rattle.typed_tree.specs.Statement as typed_statement
use Rattle.capl_meaning.specs.Names.{Scope}
use Rattle.capl_meaning.specs.Constant.{prefix_kind}
use Rattle.capl_meaning.specs.Inside.Statement.{for_test}
use Rattle.capl_meaning.specs.Expression as source
use Rattle.capl_meaning.specs.Statement as source_statement
use Rattle.capl_meaning.specs.StatementRules as source_rules
use Rattle.typed_laws.specs.Laid.{laid, mapped}
use Rattle.typed_laws.specs.Agreement.{Beside, DoesAs, SameEnd, SameNumber, StandIn, source_setting, typed_setting}
use Rattle.typed_laws.proofs.Runs.{deciding_same, do_same, followed_same, for_same, leaving_same, then_same, while_same}
use Rattle.typed_laws.proofs.Statements.{return_as, return_other_as, return_value_as}
use Rattle.typed_source.specs.Expression.{expression_of}
use Rattle.typed_source.specs.Program.{HasEach}
use Rattle.typed_source.specs.Statement.{StandFrom, arms_of, else_of, formats_of, formats_of_arms, formats_of_else, formats_of_groups, formats_of_part, formats_of_row, groups_of, part_of, returned, statement_of, statements_of}
use Rattle.typed_source.proofs.Alone.{alone_does}
use Rattle.typed_source.proofs.Expressions.{gives}
use Rattle.typed_source.proofs.Formats.{first_part, second_part}

gives_all : {A : Type 0} (r : Run source.Memory A) → and_then r (λ a w. Gives a w) ≡ r
gives_all (Gives a w) = refl
gives_all (Fails o w) = refl

module _ (scope : Scope) (order : List ℕ) (each : HasEach scope.names order) (formats : List FormatText) where
  -- `return`
  gives_back : (at : ℕ) (value : Option Expr) → DoesAs scope order formats (stmt.Return value at) (t.Return (option_map (λ e. returned scope.gives (expression_of scope order e)) value))
  gives_back at None = return_as scope order formats at
  gives_back at (Some e) = go scope.gives refl
    where
      go : (o : Option Kind) → scope.gives ≡ o → DoesAs scope order formats (stmt.Return (Some e) at) (t.Return (Some (returned o (expression_of scope order e))))
      go None is = return_other_as scope order formats e at _ is (gives scope order each e)
      go (Some k) is = return_value_as scope order formats e at k _ is (gives scope order each e)

  module _ (b : Beside scope.names order) (stand : StandIn formats b.program.formats) (n : ℕ) where
    abbrev source_does : Stmt → Does source.Memory
    source_does s = source_statement.stmt_of (source_setting b scope) b.call n s

    abbrev typed_does : TStmt → Does cells.Memory
    typed_does u = typed_statement.stmt_of (typed_setting b) b.typed_call n u

    -- the test of a `for`
    test_same : (test : Option Expr) → SameNumber scope.names b.this (for_test (source_setting b scope) b.call test)
        (typed_statement.for_test (typed_setting b) b.typed_call (option_map (expression_of scope order) test))
    test_same None w = refl
    test_same (Some e) w = (gives scope order each e).same b w

    -- the first or third part of a `for`
    part_same : (before : ℕ) (part : Option Expr) → StandFrom before (formats_of_part scope part) formats →
        SameEnd scope.names b.this (source_statement.part_of (source_setting b scope) b.call part) (typed_statement.part_of (typed_setting b) b.typed_call n (part_of scope order before part))
    part_same before None there w = refl
    part_same before (Some e) there w = (alone_does scope order each formats before e there).same b stand n w

    same_label_as : (l m : Option ℤ) → typed_statement.same_label l m ≡ source_rules.same_label l m
    same_label_as None None = refl
    same_label_as None (Some m) = refl
    same_label_as (Some l) None = refl
    same_label_as (Some l) (Some m) = refl

    found : (v : ℤ) (labels : List (List (Option ℤ))) → typed_statement.group_for v labels ≡ source_statement.group_for v labels
    found v labels =
        ap (λ (same : Option ℤ → Option ℤ → Bool).
        unwrap_or (position (list_any (same (Some v))) labels) (unwrap_or (position (list_any (same None)) labels) (length labels))) (λ i l m. same_label_as l m i)

    labels_same : (k : Kind) (before : ℕ) {m : Count} (row : Row_of-Group m) → typed_statement.labels_of (groups_of scope order k before row) ≡ source_statement.group_labels scope k row
    labels_same k before end_of-Group = refl
    labels_same k before (more_of-Group labels shape body rest) =
        ap (λ ls. filter_map (λ label. source_rules.label_of scope k label.at label.value) labels ∷ ls) (labels_same k (before + length (formats_of_row scope body)) rest)

    mutual
      stmt_same : (before : ℕ) (s : Stmt) → StandFrom before (formats_of scope s) formats → SameEnd scope.names b.this (source_does s) (typed_does (statement_of scope order before s))
      stmt_same before stmt.Empty there w = refl
      stmt_same before (stmt.Block' shape body) there w = row_same before body there w
      stmt_same before (stmt.Decl declaration) there w = refl
      stmt_same before (stmt.Expr e) there w = (alone_does scope order each formats before e there).same b stand n w
      stmt_same before (stmt.If' shape arms other) there w =
          arms_same before arms _ (typed_statement.part_of (typed_setting b) b.typed_call n (else_of scope order (before + length (formats_of_arms scope arms)) other))
          (first_part before (formats_of_arms scope arms) (formats_of_else scope other) formats there)
          (else_same (before + length (formats_of_arms scope arms)) other (second_part before (formats_of_arms scope arms) (formats_of_else scope other) formats there)) w
      stmt_same before (tree.While test body) there w =
          while_same scope.names b.this n _ (typed.value_of (typed_setting b) b.typed_call (expression_of scope order test)) _ (typed_does (statement_of scope order before body))
          ((gives scope order each test).same b) (stmt_same before body there) w
      stmt_same before (tree.Do body test) there w =
          do_same scope.names b.this n _ (typed.value_of (typed_setting b) b.typed_call (expression_of scope order test)) _ (typed_does (statement_of scope order before body))
          ((gives scope order each test).same b) (stmt_same before body there) w
      stmt_same before (tree.For init test step body) there w =
          let inits = formats_of_part scope init in
          let steps = formats_of_part scope step in
          let further = second_part before inits (steps ++ formats_of scope body) formats there in
          for_same scope.names b.this n _ (typed_statement.for_test (typed_setting b) b.typed_call (option_map (expression_of scope order) test)) _ _ _
          (typed_statement.part_of (typed_setting b) b.typed_call n (part_of scope order before init))
          (typed_statement.part_of (typed_setting b) b.typed_call n (part_of scope order (before + length inits) step))
          (typed_does (statement_of scope order (before + length inits + length steps) body))
          (part_same before init (first_part before inits (steps ++ formats_of scope body) formats there)) (test_same test)
          (part_same (before + length inits) step (first_part (before + length inits) steps (formats_of scope body) formats further))
          (stmt_same (before + length inits + length steps) body (second_part (before + length inits) steps (formats_of scope body) formats further)) w
      stmt_same before (stmt.Switch' on shape groups) there w =
          let names = scope.names in
          let s = source_setting b scope in
          let k = prefix_kind scope on in
          let u = expression_of scope order on in
          let row = groups_of scope order k before groups in
          let going : ℤ → World source.Memory → Run source.Memory End =
          λ v w. and_then (source_statement.groups_of s b.call n groups (source_statement.group_for (wrap k v) (source_statement.group_labels scope k groups)) w) leaving_switch in
          let typed_going : ℤ → World cells.Memory → Run cells.Memory End =
          λ v w. and_then (typed_statement.groups_of (typed_setting b) b.typed_call n row (typed_statement.group_for v (typed_statement.labels_of row)) w) leaving_switch in
          then_same names b.this (wrap k) (λ end. end) (source.value_of s b.call on w) (run_map (wrap k) (typed.value_of (typed_setting b) b.typed_call u (laid names b.this w))) going typed_going
          (then_same names b.this (λ v. v) (wrap k) (source.value_of s b.call on w) (typed.value_of (typed_setting b) b.typed_call u (laid names b.this w)) (λ v w. Gives v w) (λ v w. Gives (wrap k v) w)
          ((gives scope order each on).same b w) (λ v w. refl) ∙ ap (mapped names b.this (wrap k)) (gives_all (source.value_of s b.call on w)))
          (λ v w.
          then_same names b.this (λ end. end) (λ end. end) (source_statement.groups_of s b.call n groups (source_statement.group_for (wrap k v) (source_statement.group_labels scope k groups)) w) _ _ _
          (ap (λ i. typed_statement.groups_of (typed_setting b) b.typed_call n row i (laid names b.this w)) (found (wrap k v) (typed_statement.labels_of row) ∙ ap (source_statement.group_for (wrap k v)) (labels_same k before groups))
          ∙ groups_same k before groups (source_statement.group_for (wrap k v) (source_statement.group_labels scope k groups)) there w)
          (leaving_same names b.this))
      stmt_same before (stmt.Break at) there w = refl
      stmt_same before (stmt.Continue at) there w = refl
      stmt_same before (stmt.Return value at) there w = (gives_back at value).same b stand n w

      row_same : (before : ℕ) {m : Count} (row : Row_of-Stmt m) → StandFrom before (formats_of_row scope row) formats →
          SameEnd scope.names b.this (source_statement.stmts_of (source_setting b scope) b.call n row) (typed_statement.stmts_of (typed_setting b) b.typed_call n (statements_of scope order before row))
      row_same before end_of-Stmt there w = refl
      row_same before (more_of-Stmt first rest) there w =
          followed_same scope.names b.this (source_does first) _ (typed_does (statement_of scope order before first)) _
          (stmt_same before first (first_part before (formats_of scope first) (formats_of_row scope rest) formats there))
          (row_same (before + length (formats_of scope first)) rest (second_part before (formats_of scope first) (formats_of_row scope rest) formats there)) w

      arms_same : (before : ℕ) {m : Count} (row : Row_of-Arm m) (other : Does source.Memory) (other' : Does cells.Memory) → StandFrom before (formats_of_arms scope row) formats →
          SameEnd scope.names b.this other other' →
          SameEnd scope.names b.this (source_statement.arms_of (source_setting b scope) b.call n row other) (typed_statement.arms_of (typed_setting b) b.typed_call n (arms_of scope order before row) other')
      arms_same before end_of-Arm other other' there f w = f w
      arms_same before (more_of-Arm test body rest) other other' there f w =
          deciding_same scope.names b.this (source.value_of (source_setting b scope) b.call test w) _ _ _ _ _ ((gives scope order each test).same b w)
          (stmt_same before body (first_part before (formats_of scope body) (formats_of_arms scope rest) formats there))
          (arms_same (before + length (formats_of scope body)) rest other other' (second_part before (formats_of scope body) (formats_of_arms scope rest) formats there) f)

      else_same : (before : ℕ) (other : Held-Stmt-If-1) → StandFrom before (formats_of_else scope other) formats →
          SameEnd scope.names b.this (source_statement.else_of (source_setting b scope) b.call n other) (typed_statement.part_of (typed_setting b) b.typed_call n (else_of scope order before other))
      else_same before tree.NoElse there w = refl
      else_same before (tree.Else body) there w = stmt_same before body there w

      groups_same : (k : Kind) (before : ℕ) {m : Count} (row : Row_of-Group m) (i : ℕ) → StandFrom before (formats_of_groups scope row) formats →
          SameEnd scope.names b.this (source_statement.groups_of (source_setting b scope) b.call n row i) (typed_statement.groups_of (typed_setting b) b.typed_call n (groups_of scope order k before row) i)
      groups_same k before end_of-Group i there w = refl
      groups_same k before (more_of-Group labels shape body rest) zero there w =
          followed_same scope.names b.this _ _ (typed_statement.stmts_of (typed_setting b) b.typed_call n (statements_of scope order before body))
          (typed_statement.groups_of (typed_setting b) b.typed_call n (groups_of scope order k (before + length (formats_of_row scope body)) rest) zero)
          (row_same before body (first_part before (formats_of_row scope body) (formats_of_groups scope rest) formats there))
          (groups_same k (before + length (formats_of_row scope body)) rest zero (second_part before (formats_of_row scope body) (formats_of_groups scope rest) formats there)) w
      groups_same k before (more_of-Group labels shape body rest) (suc i) there w =
          groups_same k (before + length (formats_of_row scope body)) rest i (second_part before (formats_of_row scope body) (formats_of_groups scope rest) formats there) w

  -- the typed tree of each statement does what the statement does
  pub does : (before : ℕ) (s : Stmt) → StandFrom before (formats_of scope s) formats → DoesAs scope order formats s (statement_of scope order before s)
  does before s there = record { same = λ b stand n w. stmt_same b stand n before s there w }
