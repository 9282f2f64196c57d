-- Each form of a typed statement does what its form of statements does.
use mathlib.Core.Former.{Count}
use Rattle.std.proofs.Common.{◌≡◌, ℕ, zero, suc, Bool, List, [], ◌∷◌, ◌++◌, Option, Some, None, refl, sym, ap, ◌∙◌, subst}
use Rattle.std.specs.Prelude.{ℤ, pos, filter_map, length, slice_get, unwrap_or}
use Rattle.std.specs.List.{AllZip}
use Rattle.int_kinds.specs.declared.kinds.Kind.{Kind}
use Rattle.int_kinds.specs.Kind.{wrap}
use Rattle.write_format.specs.Line.{FormatText}
use Rattle.control_flow.specs.World.{World, Run, Gives, Fails, and_then, run_map}
use Rattle.control_flow.specs.Control.{Calls, Computes, Does, End, GoesOn, Breaks, Continues, Returns, deciding, followed_by, in_order, leaving_switch, nothing}
use Rattle.capl_tree.specs.declared.expr.Expr.{Expr}
use Rattle.capl_tree.specs.declared.declaration.Decl.{Decl}
use Rattle.capl_tree.specs.declared.statement.Stmt.{Stmt, Row_of-Stmt, end_of-Stmt, more_of-Stmt}
use Rattle.capl_tree.specs.declared.statement.Stmt.TheBlock.{Row_of-Arm, end_of-Arm, more_of-Arm, Row_of-Group, end_of-Group, more_of-Group, Held-Stmt-If-1, items-the_row-Stmt, items-the_row-Arm, items-the_row-Group, items_hidden-the_row-Stmt-0, items_hidden-the_row-Arm-1, items_hidden-the_row-Group-3, items_shown-the_row-Stmt-0, shown-the_row-Stmt-0}
use Rattle.capl_tree.specs.declared.statement.Stmt.TheVariants as stmt
use Rattle.capl_tree.specs.declared.statement.Arm.{Arm}
use Rattle.capl_tree.specs.declared.statement.Group.{Group}
use Rattle.capl_tree.specs.Forms as tree
use Rattle.typed_tree.specs.declared.expression.TExpr.{TExpr}
use Rattle.typed_tree.specs.declared.statement.TStmt.{TStmt, Row_of-TStmt, end_of-TStmt, more_of-TStmt, items-the_row-TStmt}
use Rattle.typed_tree.specs.declared.statement.TStmt.TheVariants as t
use Rattle.typed_tree.specs.declared.statement.TStmt.TheBlock.{Held-TStmt-If-1, Row_of-TArm, end_of-TArm, more_of-TArm, Row_of-TGroup, end_of-TGroup, more_of-TGroup, items-the_row-TArm, items-the_row-TGroup, items_hidden-the_row-TStmt-0, items_hidden-the_row-TArm-1, items_hidden-the_row-TGroup-3, items_shown-the_row-TStmt-0, shown-the_row-TStmt-0}
use Rattle.typed_tree.specs.declared.statement.TArm.{TArm}
use Rattle.typed_tree.specs.declared.statement.TGroup.{TGroup}
use Rattle.typed_tree.specs.Forms as form
use Rattle.typed_tree.specs.Expression as typed
use Rattle.typed_tree.specs.Memory as cells
use Rattle.typed_tree.specs.Statement as typed_statement
use Rattle.capl_meaning.specs.Names.{Scope}
use Rattle.capl_meaning.specs.Constant.{prefix_kind}
use Rattle.capl_meaning.specs.Inside.Statement.{for_test, wrapped_to}
use Rattle.capl_meaning.specs.Expression as source
use Rattle.capl_meaning.specs.Statement as source_statement
use Rattle.capl_meaning.specs.StatementRules as source_rules
use Rattle.typed_laws.specs.Laid.{laid, laid_run}
use Rattle.typed_laws.specs.Agreement.{AloneDoesAs, ArmDoesAs, Beside, Both, DoesAs, GivesAs, GroupDoesAs, SameEnd, SameNumber, StandIn, source_setting, typed_setting}
use Rattle.typed_laws.proofs.Runs.{deciding_same, do_same, followed_same, for_same, leaving_same, map_same, nothing_same, then_same, while_same}

-- ---- more formats

-- what stands in a list that stands in another, stands in the other
pub stand_in_more : {A : Type 0} (few many all : List A) → StandIn few many → StandIn many all → StandIn few all
stand_in_more few many all f g i a e = g i a (f i a e)

-- what stands in a list stands in it with more behind it
pub stand_before : {A : Type 0} (xs ys : List A) → StandIn xs (xs ++ ys)
stand_before [] ys i a e = absurd (let f : None ≡ Some a = e in cc)
stand_before (x ∷ xs) ys zero a e = e
stand_before (x ∷ xs) ys (suc i) a e = stand_before xs ys i a e

module _ (scope : Scope) (order : List ℕ) (few many : List FormatText) (more : StandIn few many) where
  -- what does the same does it in a program with more formats
  pub does_more : (s : Stmt) (u : TStmt) → DoesAs scope order few s u → DoesAs scope order many s u
  does_more s u f = record { same = λ b stand. f.same b (λ i a e. stand i a (more i a e)) }

  pub all_do_more : (all : List Stmt) (us : List TStmt) → AllZip (DoesAs scope order few) all us → AllZip (DoesAs scope order many) all us
  all_do_more [] [] h = tt
  all_do_more [] (u ∷ us) h = elim h [ ]
  all_do_more (s ∷ all) [] h = elim h [ ]
  all_do_more (s ∷ all) (u ∷ us) h = (does_more s u h.0, all_do_more all us h.1)

  pub alone_does_more : (e : Expr) (u : TStmt) → AloneDoesAs scope order few e u → AloneDoesAs scope order many e u
  alone_does_more e u f = record { same = λ b stand. f.same b (λ i a e. stand i a (more i a e)) }

  pub arms_do_more : (arms : List Arm) (us : List TArm) → AllZip (ArmDoesAs scope order few) arms us → AllZip (ArmDoesAs scope order many) arms us
  arms_do_more [] [] h = tt
  arms_do_more [] (u ∷ us) h = elim h [ ]
  arms_do_more (a ∷ arms) [] h = elim h [ ]
  arms_do_more (a ∷ arms) (u ∷ us) h = (record { test = h.0.test; body = does_more a.body u.body h.0.body }, arms_do_more arms us h.1)

  pub groups_do_more : (k : Kind) (groups : List Group) (us : List TGroup) → AllZip (GroupDoesAs scope order few k) groups us → AllZip (GroupDoesAs scope order many k) groups us
  groups_do_more k [] [] h = tt
  groups_do_more k [] (u ∷ us) h = elim h [ ]
  groups_do_more k (g ∷ groups) [] h = elim h [ ]
  groups_do_more k (g ∷ groups) (u ∷ us) h = (record { labels = h.0.labels; body = all_do_more g.body u.body h.0.body }, groups_do_more k groups us h.1)

-- ---- the rows in statements

abbrev block_row : Stmt → (n : Count) × Row_of-Stmt n
block_row (stmt.Block' _ row) = (_, row)
block_row _ = (_, end_of-Stmt)

abbrev typed_block_row : TStmt → (n : Count) × Row_of-TStmt n
typed_block_row (t.Block' _ row) = (_, row)
typed_block_row _ = (_, end_of-TStmt)

abbrev if_row : Stmt → (n : Count) × Row_of-Arm n
if_row (stmt.If' _ row _) = (_, row)
if_row _ = (_, end_of-Arm)

abbrev typed_if_row : TStmt → (n : Count) × Row_of-TArm n
typed_if_row (t.If' _ row _) = (_, row)
typed_if_row _ = (_, end_of-TArm)

abbrev switch_row : Stmt → (n : Count) × Row_of-Group n
switch_row (stmt.Switch' _ _ row) = (_, row)
switch_row _ = (_, end_of-Group)

abbrev typed_switch_row : TStmt → (n : Count) × Row_of-TGroup n
typed_switch_row (t.Switch' _ _ row) = (_, row)
typed_switch_row _ = (_, end_of-TGroup)

-- lists that go with each other, where each is given as another
zip_as : {A B : Type 0} (R : A → B → Type 0) (xs xs' : List A) (ys ys' : List B) → xs' ≡ xs → ys' ≡ ys → AllZip R xs ys → AllZip R xs' ys'
zip_as R xs xs' ys ys' e f h = subst (λ l. AllZip R l ys') (sym e) (subst (λ l. AllZip R xs l) (sym f) h)

module _ (scope : Scope) (order : List ℕ) (formats : List FormatText) where
  module _ (b : Beside scope.names order) (stand : StandIn formats b.program.formats) (n : ℕ) where
    abbrev source_does : Stmt → Does source.Memory
    source_does s = source_statement.stmt_of (source_setting b scope) b.call n s

    abbrev typed_does : TStmt → Does cells.Memory
    typed_does u = typed_statement.stmt_of (typed_setting b) b.typed_call n u

    -- statements in a row
    row_same : {m m' : Count} (row : Row_of-Stmt m) (row' : Row_of-TStmt m') → AllZip (DoesAs scope order formats) (items-the_row-Stmt m row) (items-the_row-TStmt m' row') →
        SameEnd scope.names b.this (source_statement.stmts_of (source_setting b scope) b.call n row) (typed_statement.stmts_of (typed_setting b) b.typed_call n row')
    row_same end_of-Stmt end_of-TStmt h w = refl
    row_same end_of-Stmt (more_of-TStmt u rest') h w = elim h [ ]
    row_same (more_of-Stmt s rest) end_of-TStmt h w = elim h [ ]
    row_same (more_of-Stmt s rest) (more_of-TStmt u rest') h w =
        followed_same scope.names b.this (source_does s) _ (typed_does u) _ (h.0.same b stand n) (row_same rest rest' h.1) w

    -- the statements of a procedure
    pub body_same : (all : List Stmt) (us : List TStmt) → AllZip (DoesAs scope order formats) all us → SameEnd scope.names b.this (in_order source_does all) (in_order typed_does us)
    body_same [] [] h w = refl
    body_same [] (u ∷ us) h w = elim h [ ]
    body_same (s ∷ all) [] h w = elim h [ ]
    body_same (s ∷ all) (u ∷ us) h w = followed_same scope.names b.this (source_does s) _ (typed_does u) _ (h.0.same b stand n) (body_same all us h.1) w

    -- the arms of an `if`
    arms_same : {m m' : Count} (row : Row_of-Arm m) (row' : Row_of-TArm m') (other : Does source.Memory) (other' : Does cells.Memory) →
        AllZip (ArmDoesAs scope order formats) (items-the_row-Arm m row) (items-the_row-TArm m' row') → SameEnd scope.names b.this other other' →
        SameEnd scope.names b.this (source_statement.arms_of (source_setting b scope) b.call n row other) (typed_statement.arms_of (typed_setting b) b.typed_call n row' other')
    arms_same end_of-Arm end_of-TArm other other' h f w = f w
    arms_same end_of-Arm (more_of-TArm test' body' rest') other other' h f w = elim h [ ]
    arms_same (more_of-Arm test body rest) end_of-TArm other other' h f w = elim h [ ]
    arms_same (more_of-Arm test body rest) (more_of-TArm test' body' rest') other other' h f w =
        deciding_same scope.names b.this (source.value_of (source_setting b scope) b.call test w) _ _ _ _ _ (h.0.test.same b w) (h.0.body.same b stand n)
        (arms_same rest rest' other other' h.1 f)

    -- the groups of a `switch`
    groups_same : (k : Kind) {m m' : Count} (row : Row_of-Group m) (row' : Row_of-TGroup m') (i : ℕ) → AllZip (GroupDoesAs scope order formats k) (items-the_row-Group m row) (items-the_row-TGroup m' row') →
        SameEnd scope.names b.this (source_statement.groups_of (source_setting b scope) b.call n row i) (typed_statement.groups_of (typed_setting b) b.typed_call n row' i)
    groups_same k end_of-Group end_of-TGroup i h w = refl
    groups_same k end_of-Group (more_of-TGroup labels' shape' body' rest') i h w = elim h [ ]
    groups_same k (more_of-Group labels shape body rest) end_of-TGroup i h w = elim h [ ]
    groups_same k (more_of-Group labels shape body rest) (more_of-TGroup labels' shape' body' rest') zero h w =
        followed_same scope.names b.this _ _ (typed_statement.stmts_of (typed_setting b) b.typed_call n body') (typed_statement.groups_of (typed_setting b) b.typed_call n rest' zero)
        (row_same body body' (zip_as (DoesAs scope order formats) _ (items-the_row-Stmt _ body) _ (items-the_row-TStmt _ body')
        (sym (items_shown-the_row-Stmt-0 shape body)) (sym (items_shown-the_row-TStmt-0 shape' body')) h.0.body))
        (groups_same k rest rest' zero h.1) w
    groups_same k (more_of-Group labels shape body rest) (more_of-TGroup labels' shape' body' rest') (suc i) h w = groups_same k rest rest' i h.1 w

  -- the labels of groups
  labels_same : (k : Kind) {m m' : Count} (row : Row_of-Group m) (row' : Row_of-TGroup m') → AllZip (GroupDoesAs scope order formats k) (items-the_row-Group m row) (items-the_row-TGroup m' row') →
      typed_statement.labels_of row' ≡ source_statement.group_labels scope k row
  labels_same k end_of-Group end_of-TGroup h = refl
  labels_same k end_of-Group (more_of-TGroup labels' shape' body' rest') h = elim h [ ]
  labels_same k (more_of-Group labels shape body rest) end_of-TGroup h = elim h [ ]
  labels_same k (more_of-Group labels shape body rest) (more_of-TGroup labels' shape' body' rest') h =
      ap (λ l. l ∷ typed_statement.labels_of rest') h.0.labels ∙ ap (λ ls. filter_map (λ label. source_rules.label_of scope k label.at label.value) labels ∷ ls) (labels_same k rest rest' h.1)

  -- ---- each form

  pub empty_as : DoesAs scope order formats stmt.Empty t.Empty
  empty_as = record { same = λ b stand n w. refl }

  pub declaration_as : (declaration : Decl) → DoesAs scope order formats (stmt.Decl declaration) t.Empty
  declaration_as declaration = record { same = λ b stand n w. refl }

  pub alone_as : (e : Expr) (u : TStmt) → AloneDoesAs scope order formats e u → DoesAs scope order formats (stmt.Expr e) u
  alone_as e u f = record { same = λ b stand n w. f.same b stand n w }

  pub break_as : (at : ℕ) → DoesAs scope order formats (stmt.Break at) t.Break
  break_as at = record { same = λ b stand n w. refl }

  pub continue_as : (at : ℕ) → DoesAs scope order formats (stmt.Continue at) t.Continue
  continue_as at = record { same = λ b stand n w. refl }

  pub return_as : (at : ℕ) → DoesAs scope order formats (stmt.Return None at) (t.Return None)
  return_as at = record { same = λ b stand n w. refl }

  -- `return` of a number, in a function that gives one of a kind
  pub return_value_as : (e : Expr) (at : ℕ) (k : Kind) (u : TExpr) → scope.gives ≡ Some k → GivesAs scope order e u →
      DoesAs scope order formats (stmt.Return (Some e) at) (t.Return (Some (form.Convert k u)))
  return_value_as e at k u is f = record {
    same = λ b stand n w.
        then_same scope.names b.this (λ n. n) (λ end. end) (run_map (wrap k) (source.value_of (source_setting b scope) b.call e w)) _ (λ n w. Gives (Returns n) w) (λ n w. Gives (Returns n) w)
        (map_same scope.names b.this (wrap k) (wrap k) _ _ (f.same b w) (λ n. refl)) (λ n w. refl)
        ∙ ap (laid_run scope.names b.this) (mapped_twice k (source.value_of (source_setting b scope) b.call e w)
        ∙ ap (λ g. run_map (λ n. Returns (wrapped_to g n)) (source.value_of (source_setting b scope) b.call e w)) (sym is));
  }
    where
      mapped_twice : (k : Kind) (r : Run source.Memory ℤ) → and_then (run_map (wrap k) r) (λ n w. Gives (Returns n) w) ≡ run_map (λ n. Returns (wrap k n)) r
      mapped_twice k (Gives n w) = refl
      mapped_twice k (Fails o w) = refl

  -- `return` of a number elsewhere
  pub return_other_as : (e : Expr) (at : ℕ) (u : TExpr) → scope.gives ≡ None → GivesAs scope order e u → DoesAs scope order formats (stmt.Return (Some e) at) (t.Return (Some u))
  return_other_as e at u is f = record {
    same = λ b stand n w.
        map_same scope.names b.this (λ n. Returns (wrapped_to scope.gives n)) Returns (source.value_of (source_setting b scope) b.call e w) _ (f.same b w)
        (λ n. ap (λ g. Returns (wrapped_to g n)) (sym is));
  }

  pub block_as : (all : List Stmt) (us : List TStmt) → AllZip (DoesAs scope order formats) all us → DoesAs scope order formats (stmt.Block all) (t.Block us)
  block_as all us h =
      let row = block_row (stmt.Block all) in
      let row' = typed_block_row (t.Block us) in
      let zipped = zip_as (DoesAs scope order formats) all (items-the_row-Stmt row.0 row.1) us (items-the_row-TStmt row'.0 row'.1) (items_hidden-the_row-Stmt-0 all) (items_hidden-the_row-TStmt-0 us) h in
      record { same = λ b stand n w. row_same b stand n row.1 row'.1 zipped w }

  pub if_as : (arms : List Arm) (other : Option Stmt) (us : List TArm) (other' : Option TStmt) → AllZip (ArmDoesAs scope order formats) arms us → Both (DoesAs scope order formats) other other' →
      DoesAs scope order formats (stmt.If arms other) (t.If us other')
  unfolding Rattle.capl_tree.specs.declared.statement.Stmt.TheBlock.hidden-the_row-Arm-1 Rattle.typed_tree.specs.declared.statement.TStmt.TheBlock.hidden-the_row-TArm-1 denote.Hole.Carrier.hidden
  if_as arms None us None h f =
      let row = if_row (stmt.If arms None) in
      let row' = typed_if_row (t.If us None) in
      let zipped = zip_as (ArmDoesAs scope order formats) arms (items-the_row-Arm row.0 row.1) us (items-the_row-TArm row'.0 row'.1) (items_hidden-the_row-Arm-1 arms) (items_hidden-the_row-TArm-1 us) h in
      record { same = λ b stand n w. arms_same b stand n row.1 row'.1 nothing nothing zipped (nothing_same scope.names b.this) w }
  if_as arms (Some other) us (Some other') h f =
      let row = if_row (stmt.If arms (Some other)) in
      let row' = typed_if_row (t.If us (Some other')) in
      let zipped = zip_as (ArmDoesAs scope order formats) arms (items-the_row-Arm row.0 row.1) us (items-the_row-TArm row'.0 row'.1) (items_hidden-the_row-Arm-1 arms) (items_hidden-the_row-TArm-1 us) h in
      record {
        same = λ b stand n w. arms_same b stand n row.1 row'.1 (source_does b stand n other) (typed_does b stand n other') zipped (f.same b stand n) w;
      }
  if_as arms None us (Some other') h f = elim f [ ]
  if_as arms (Some other) us None h f = elim f [ ]

  pub while_as : (test : Expr) (body : Stmt) (u : TExpr) (body' : TStmt) → GivesAs scope order test u → DoesAs scope order formats body body' →
      DoesAs scope order formats (tree.While test body) (form.While u body')
  while_as test body u body' f g = record { same = λ b stand n w. while_same scope.names b.this n _ (typed.value_of (typed_setting b) b.typed_call u) _ (typed_does b stand n body') (f.same b) (g.same b stand n) w }

  pub do_as : (body : Stmt) (test : Expr) (body' : TStmt) (u : TExpr) → DoesAs scope order formats body body' → GivesAs scope order test u →
      DoesAs scope order formats (tree.Do body test) (form.Do body' u)
  do_as body test body' u f g = record { same = λ b stand n w. do_same scope.names b.this n _ _ _ _ (g.same b) (f.same b stand n) w }

  -- the test of a `for`
  test_same : (b : Beside scope.names order) (test : Option Expr) (u : Option TExpr) → Both (GivesAs scope order) test u →
      SameNumber scope.names b.this (for_test (source_setting b scope) b.call test) (typed_statement.for_test (typed_setting b) b.typed_call u)
  test_same b None None h w = refl
  test_same b (Some e) (Some u) h w = h.same b w
  test_same b None (Some u) h w = elim h [ ]
  test_same b (Some e) None h w = elim h [ ]

  -- a part of a `for`
  abbrev typed_part : typed.Setting → Calls cells.Memory → ℕ → Option TStmt → Does cells.Memory
  typed_part s call n None = nothing
  typed_part s call n (Some u) = typed_statement.stmt_of s call n u

  part_same : (b : Beside scope.names order) → StandIn formats b.program.formats → (n : ℕ) (part : Option Expr) (u : Option TStmt) → Both (AloneDoesAs scope order formats) part u →
      SameEnd scope.names b.this (source_statement.part_of (source_setting b scope) b.call part) (typed_part (typed_setting b) b.typed_call n u)
  part_same b stand n None None h w = refl
  part_same b stand n (Some e) (Some u) h w = h.same b stand n w
  part_same b stand n None (Some u) h w = elim h [ ]
  part_same b stand n (Some e) None h w = elim h [ ]

  for_made : (s : typed.Setting) (call : Calls cells.Memory) (n : ℕ) (init : Option TStmt) (test : Option TExpr) (step : Option TStmt) (body : TStmt) (w : World cells.Memory) →
      typed_statement.stmt_of s call n (t.For init test step body) w ≡
      Rattle.control_flow.specs.Control.for_loop n (typed_part s call n init) (typed_statement.for_test s call test) (typed_part s call n step) (typed_statement.stmt_of s call n body) w
  unfolding Rattle.typed_tree.specs.declared.statement.TStmt.TheBlock.hidden-the_row-TStmt-2 denote.Hole.Carrier.hidden
  for_made s call n None test None body w = refl
  for_made s call n None test (Some step) body w = refl
  for_made s call n (Some init) test None body w = refl
  for_made s call n (Some init) test (Some step) body w = refl

  pub for_as : (init test step : Option Expr) (body : Stmt) (init' : Option TStmt) (test' : Option TExpr) (step' : Option TStmt) (body' : TStmt) →
      Both (AloneDoesAs scope order formats) init init' → Both (GivesAs scope order) test test' → Both (AloneDoesAs scope order formats) step step' → DoesAs scope order formats body body' →
      DoesAs scope order formats (tree.For init test step body) (t.For init' test' step' body')
  for_as init test step body init' test' step' body' f g h i = record {
    same = λ b stand n w.
        for_made (typed_setting b) b.typed_call n init' test' step' body' (laid scope.names b.this w)
        ∙ for_same scope.names b.this n _ (typed_statement.for_test (typed_setting b) b.typed_call test') _ _ _
        (typed_part (typed_setting b) b.typed_call n init') (typed_part (typed_setting b) b.typed_call n step') (typed_does b stand n body') (part_same b stand n init init' f) (test_same b test test' g) (part_same b stand n step step' h) (i.same b stand n) w;
  }

  pub switch_as : (on : Expr) (groups : List Group) (k : Kind) (u : TExpr) (us : List TGroup) → k ≡ prefix_kind scope on → GivesAs scope order on u → AllZip (GroupDoesAs scope order formats k) groups us →
      DoesAs scope order formats (stmt.Switch on groups) (t.Switch (form.Convert k u) us)
  switch_as on groups k u us kind f h =
      let row = switch_row (stmt.Switch on groups) in
      let row' = typed_switch_row (t.Switch (form.Convert k u) us) in
      let zipped = zip_as (GroupDoesAs scope order formats k) groups (items-the_row-Group row.0 row.1) us (items-the_row-TGroup row'.0 row'.1) (items_hidden-the_row-Group-3 groups) (items_hidden-the_row-TGroup-3 us) h in
      record {
        same = λ b stand n w.
            let names = scope.names in
            let s = source_setting b scope in
            let value = source.value_of s b.call on w in
            let labels = typed_statement.labels_of row'.1 in
            let going : Kind → ℤ → World source.Memory → Run source.Memory End =
            λ j v w. and_then (source_statement.groups_of s b.call n row.1 (source_statement.group_for (wrap j v) (source_statement.group_labels scope j row.1)) w) leaving_switch in
            let typed_going : ℤ → World cells.Memory → Run cells.Memory End =
            λ v w. and_then (typed_statement.groups_of (typed_setting b) b.typed_call n row'.1 (typed_statement.group_for v labels) w) leaving_switch in
            wrapped_first k (typed.value_of (typed_setting b) b.typed_call u (laid names b.this w)) typed_going
            ∙ then_same names b.this (λ v. v) (λ end. end) value (typed.value_of (typed_setting b) b.typed_call u (laid names b.this w)) (going k) (λ v. typed_going (wrap k v)) (f.same b w) (λ v w.
            then_same names b.this (λ end. end) (λ end. end) (source_statement.groups_of s b.call n row.1 (source_statement.group_for (wrap k v) (source_statement.group_labels scope k row.1)) w) _ _ _
            (ap (λ i. typed_statement.groups_of (typed_setting b) b.typed_call n row'.1 i (laid names b.this w)) (found (wrap k v) labels ∙ ap (source_statement.group_for (wrap k v)) (labels_same k row.1 row'.1 zipped))
            ∙ groups_same b stand n k row.1 row'.1 (source_statement.group_for (wrap k v) (source_statement.group_labels scope k row.1)) zipped w)
            (leaving_same names b.this))
            ∙ ap (λ j. laid_run names b.this (and_then value (going j))) kind;
      }
    where
      wrapped_first : (k : Kind) (r : Run cells.Memory ℤ) (next : ℤ → World cells.Memory → Run cells.Memory End) → and_then (run_map (wrap k) r) next ≡ and_then r (λ v. next (wrap k v))
      wrapped_first k (Gives v w) next = refl
      wrapped_first k (Fails o w) next = refl

      same_label_as : (l m : Option ℤ) → typed_statement.same_label l m ≡ source_rules.same_label l m
      same_label_as None None = refl
      same_label_as None (Some m) = refl
      same_label_as (Some l) None = refl
      same_label_as (Some l) (Some m) = refl

      found : (v : ℤ) (labels : List (List (Option ℤ))) → typed_statement.group_for v labels ≡ source_statement.group_for v labels
      found v labels =
          ap (λ (same : Option ℤ → Option ℤ → Bool).
          unwrap_or (Rattle.std.specs.Prelude.position (Rattle.std.specs.List.list_any (same (Some v))) labels)
          (unwrap_or (Rattle.std.specs.Prelude.position (Rattle.std.specs.List.list_any (same None)) labels) (length labels))) (λ i l m. same_label_as l m i)
