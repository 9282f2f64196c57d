-- Statements that hold lists and boxes, by their parts: what the source means, and what the typed tree is.
use mathlib.Core.Former.{Count}
use Rattle.std.proofs.Common.{◌≡◌, ◌+◌, ◌++◌, ◌∙◌, ℕ, List, [], ◌∷◌, Option, Some, None, length, refl, sym, ap}
use Rattle.std.specs.Prelude.{filter_map, ℤ}
use Rattle.std.specs.Option.{option_map}
use Rattle.int_kinds.specs.declared.kinds.Kind.{Kind}
use Rattle.capl_tree.specs.declared.expr.Expr.{Expr}
use Rattle.capl_tree.specs.declared.statement.Arm.{Arm}
use Rattle.capl_tree.specs.declared.statement.Group.{Group}
use Rattle.capl_tree.specs.declared.statement.Stmt.{Stmt, Row_of-Stmt, end_of-Stmt, more_of-Stmt}
use Rattle.capl_tree.specs.declared.statement.Stmt.TheBlock.{Row_of-Arm, end_of-Arm, more_of-Arm, Row_of-Group, end_of-Group, more_of-Group, items-the_row-Stmt, items-the_row-Arm, items-the_row-Group, items_hidden-the_row-Stmt-0, items_shown-the_row-Stmt-0, shown-the_row-Stmt-0, items_hidden-the_row-Arm-1, items_hidden-the_row-Group-3}
use Rattle.capl_tree.specs.declared.statement.Stmt.TheVariants as stmt
use Rattle.capl_tree.proofs.FormLemmas as shape
use Rattle.typed_tree.specs.declared.expression.TExpr.{TExpr}
use Rattle.typed_tree.specs.declared.statement.TArm.{TArm}
use Rattle.typed_tree.specs.declared.statement.TGroup.{TGroup}
use Rattle.typed_tree.specs.declared.statement.TStmt.{TStmt, Row_of-TStmt, end_of-TStmt, more_of-TStmt, items-the_row-TStmt}
use Rattle.typed_tree.specs.declared.statement.TStmt.TheVariants.{Block, Block', If, If', Switch, Switch'}
use Rattle.typed_tree.specs.declared.statement.TStmt.TheVariants as typed
use Rattle.typed_tree.specs.declared.statement.TStmt.TheBlock.{Row_of-TArm, end_of-TArm, more_of-TArm, Row_of-TGroup, end_of-TGroup, more_of-TGroup, items-the_row-TArm, items-the_row-TGroup, items_shown-the_row-TStmt-0, shown-the_row-TStmt-0}
use Rattle.typed_tree.specs.Forms.{Convert, NoPart, Part}
use Rattle.typed_tree.specs.Forms as form
use Rattle.capl_meaning.specs.Names.{Scope}
use Rattle.capl_meaning.specs.Constant.{prefix_kind}
use Rattle.capl_meaning.specs.StatementRules.{label_of}
use Rattle.typed_source.specs.Expression.{expression_of}
use Rattle.typed_source.specs.Statement.{arms_of, formats_of, formats_of_arms, formats_of_groups, formats_of_part, formats_of_row, groups_of, statement_of, statements_of}
use Rattle.typed_source.specs.Program.{body_of, formats_of_body}
use Rattle.type_statements.specs.Rows.{arms_in, else_in, formats_in_arms, formats_in_else, formats_in_groups, groups_in, part_in}

-- ---- formats

-- a row of statements has the formats of its list
formats_list : (s : Scope) (n : Count) (row : Row_of-Stmt n) → formats_of_row s row ≡ formats_of_body s (items-the_row-Stmt n row)
formats_list s n end_of-Stmt = refl
formats_list s n (more_of-Stmt first row) = ap (λ fs. formats_of s first ++ fs) (formats_list s _ row)

-- the row in a block
abbrev row_of_block : Stmt → (n : Count) × Row_of-Stmt n
row_of_block (stmt.Block' _ row) = (_, row)
row_of_block _ = (_, end_of-Stmt)

-- the formats of a block
pub block_formats : (s : Scope) (statement : Stmt) (body : List Stmt) → statement ≡ stmt.Block body
    → formats_of s statement ≡ formats_of_body s body
block_formats s statement body is =
    let row = row_of_block (stmt.Block body) in
    ap (formats_of s) is ∙ formats_list s row.0 row.1 ∙ ap (formats_of_body s) (items_hidden-the_row-Stmt-0 body)

-- ---- trees

-- a block with one statement more
abbrev grown : TStmt → TStmt → TStmt
grown first (Block' shape row) = Block' (tt ∷ shape) (more_of-TStmt first row)
grown first t = t

-- a block is made of the list of its row
block_form : (shape : _) (row : _) → Block (items-the_row-TStmt _ row) ≡ Block' shape row
unfolding Rattle.typed_tree.specs.declared.statement.TStmt.TheBlock.hidden-the_row-TStmt-0 denote.Hole.Carrier.hidden
block_form [] end_of-TStmt = refl
block_form (one ∷ shape) (more_of-TStmt first row) = ap (grown first) (block_form shape row)

-- the trees of a row are those of its list
trees_list : (s : Scope) (order : List ℕ) (before : ℕ) (n : Count) (row : Row_of-Stmt n)
    → items-the_row-TStmt _ (statements_of s order before row) ≡ body_of s order before (items-the_row-Stmt n row)
trees_list s order before n end_of-Stmt = refl
trees_list s order before n (more_of-Stmt first rest) =
    ap (λ l. statement_of s order before first ∷ l) (trees_list s order (before + length (formats_of s first)) _ rest)

-- the tree of a block
pub block_tree : (s : Scope) (order : List ℕ) (before : ℕ) (statement : Stmt) (body : List Stmt) → statement ≡ stmt.Block body
    → statement_of s order before statement ≡ Block (body_of s order before body)
block_tree s order before statement body is =
    let row = row_of_block (stmt.Block body) in
    ap (statement_of s order before) is
    ∙ sym (block_form _ (statements_of s order before row.1))
    ∙ ap Block (trees_list s order before row.0 row.1 ∙ ap (body_of s order before) (items_hidden-the_row-Stmt-0 body))

-- ---- `if`

-- arms as a row have the formats of their list
arms_formats_list : (s : Scope) (n : Count) (row : Row_of-Arm n) → formats_of_arms s row ≡ formats_in_arms s (items-the_row-Arm n row)
arms_formats_list s n end_of-Arm = refl
arms_formats_list s n (more_of-Arm test body row) = ap (λ fs. formats_of s body ++ fs) (arms_formats_list s _ row)

-- the row in an `if`
abbrev arms_row : Stmt → (n : Count) × Row_of-Arm n
arms_row (stmt.If' _ row _) = (_, row)
arms_row _ = (_, end_of-Arm)

-- the formats of an `if`
pub if_formats : (s : Scope) (statement : Stmt) (arms : List Arm) (other : Option Stmt) → statement ≡ stmt.If arms other
    → formats_of s statement ≡ formats_in_arms s arms ++ formats_in_else s other
unfolding Rattle.capl_tree.specs.declared.statement.Stmt.TheBlock.hidden-the_row-Arm-1 denote.Hole.Carrier.hidden
if_formats s statement arms None is =
    let row = arms_row (stmt.If arms None) in
    ap (formats_of s) is
    ∙ ap (λ fs. fs ++ []) (arms_formats_list s row.0 row.1 ∙ ap (formats_in_arms s) (items_hidden-the_row-Arm-1 arms))
if_formats s statement arms (Some body) is =
    let row = arms_row (stmt.If arms (Some body)) in
    ap (formats_of s) is
    ∙ ap (λ fs. fs ++ formats_of s body) (arms_formats_list s row.0 row.1 ∙ ap (formats_in_arms s) (items_hidden-the_row-Arm-1 arms))

-- an `if` with one arm more
abbrev with_arm : TExpr → TStmt → TStmt → TStmt
with_arm test body (If' shape row other) = If' (tt ∷ shape) (more_of-TArm test body row) other
with_arm test body t = t

-- an `if` is made of the list of its row
if_form_none : (shape : _) (row : _) → If (items-the_row-TArm _ row) None ≡ If' shape row NoPart
unfolding Rattle.typed_tree.specs.declared.statement.TStmt.TheBlock.hidden-the_row-TArm-1 denote.Hole.Carrier.hidden
if_form_none [] end_of-TArm = refl
if_form_none (one ∷ shape) (more_of-TArm test body row) = ap (with_arm test body) (if_form_none shape row)

-- and so with a last `else`
if_form_some : (other : TStmt) (shape : _) (row : _) → If (items-the_row-TArm _ row) (Some other) ≡ If' shape row (Part other)
unfolding Rattle.typed_tree.specs.declared.statement.TStmt.TheBlock.hidden-the_row-TArm-1 denote.Hole.Carrier.hidden
if_form_some other [] end_of-TArm = refl
if_form_some other (one ∷ shape) (more_of-TArm test body row) = ap (with_arm test body) (if_form_some other shape row)

-- an arm of its parts
abbrev arm_made : TExpr → TStmt → TArm
arm_made test body = record { test = test; body = body }

-- the arms of a row are those of its list
arms_list : (s : Scope) (order : List ℕ) (before : ℕ) (n : Count) (row : Row_of-Arm n)
    → items-the_row-TArm _ (arms_of s order before row) ≡ arms_in s order before (items-the_row-Arm n row)
arms_list s order before n end_of-Arm = refl
arms_list s order before n (more_of-Arm test body rest) =
    ap (λ l. arm_made (expression_of s order test) (statement_of s order before body) ∷ l)
    (arms_list s order (before + length (formats_of s body)) _ rest)

-- the tree of an `if`
pub if_tree : (s : Scope) (order : List ℕ) (before : ℕ) (statement : Stmt) (arms : List Arm) (other : Option Stmt) → statement ≡ stmt.If arms other
    → statement_of s order before statement ≡ If (arms_in s order before arms) (else_in s order (before + length (formats_in_arms s arms)) other)
unfolding Rattle.capl_tree.specs.declared.statement.Stmt.TheBlock.hidden-the_row-Arm-1 denote.Hole.Carrier.hidden
if_tree s order before statement arms None is =
    let row = arms_row (stmt.If arms None) in
    ap (statement_of s order before) is
    ∙ sym (if_form_none _ (arms_of s order before row.1))
    ∙ ap (λ l. If l None) (arms_list s order before row.0 row.1 ∙ ap (arms_in s order before) (items_hidden-the_row-Arm-1 arms))
if_tree s order before statement arms (Some body) is =
    let row = arms_row (stmt.If arms (Some body)) in
    ap (statement_of s order before) is
    ∙ sym (if_form_some (statement_of s order (before + length (formats_of_arms s row.1)) body) _ (arms_of s order before row.1))
    ∙ ap (λ l. If l (Some (statement_of s order (before + length (formats_of_arms s row.1)) body)))
    (arms_list s order before row.0 row.1 ∙ ap (arms_in s order before) (items_hidden-the_row-Arm-1 arms))
    ∙ ap (λ fs. If (arms_in s order before arms) (Some (statement_of s order (before + length fs) body)))
    (arms_formats_list s row.0 row.1 ∙ ap (formats_in_arms s) (items_hidden-the_row-Arm-1 arms))

-- ---- `switch`

-- the formats of a group
group_formats : (s : Scope) (shape : _) (body : _) → formats_of_row s body ≡ formats_of_body s (shown-the_row-Stmt-0 shape body)
group_formats s shape body = formats_list s _ body ∙ ap (formats_of_body s) (sym (items_shown-the_row-Stmt-0 shape body))

-- groups as a row have the formats of their list
groups_formats_list : (s : Scope) (n : Count) (row : Row_of-Group n) → formats_of_groups s row ≡ formats_in_groups s (items-the_row-Group n row)
groups_formats_list s n end_of-Group = refl
groups_formats_list s n (more_of-Group labels shape body row) =
    let list : List Stmt = shown-the_row-Stmt-0 shape body in
    ap (λ fs. fs ++ formats_of_groups s row) (group_formats s shape body)
    ∙ ap (λ fs. formats_of_body s list ++ fs) (groups_formats_list s _ row)

-- the row in a `switch`
abbrev groups_row : Stmt → (n : Count) × Row_of-Group n
groups_row (stmt.Switch' _ _ row) = (_, row)
groups_row _ = (_, end_of-Group)

-- the formats of a `switch`
pub switch_formats : (s : Scope) (statement : Stmt) (on : Expr) (groups : List Group) → statement ≡ stmt.Switch on groups
    → formats_of s statement ≡ formats_in_groups s groups
switch_formats s statement on groups is =
    let row = groups_row (stmt.Switch on groups) in
    ap (formats_of s) is ∙ groups_formats_list s row.0 row.1 ∙ ap (formats_in_groups s) (items_hidden-the_row-Group-3 groups)

-- a `switch` with one group more, which has the body of a block
abbrev with_group : List (Option ℤ) → TStmt → TStmt → TStmt
with_group labels (Block' inner body) (Switch' on shape row) = Switch' on (tt ∷ shape) (more_of-TGroup labels inner body row)
with_group labels b t = t

-- a `switch` is made of the list of its row
switch_form : (on : TExpr) (shape : _) (row : _) → Switch on (items-the_row-TGroup _ row) ≡ Switch' on shape row
unfolding Rattle.typed_tree.specs.declared.statement.TStmt.TheBlock.hidden-the_row-TGroup-3 Rattle.typed_tree.specs.declared.statement.TStmt.TheBlock.hidden-the_row-TStmt-0 denote.Hole.Carrier.hidden
switch_form on [] end_of-TGroup = refl
switch_form on (one ∷ shape) (more_of-TGroup labels inner body row) =
    ap (λ l. with_group labels (Block l) (Switch on (items-the_row-TGroup _ row))) (items_shown-the_row-TStmt-0 inner body)
    ∙ ap (λ b. with_group labels b (Switch on (items-the_row-TGroup _ row))) (block_form inner body)
    ∙ ap (with_group labels (Block' inner body)) (switch_form on shape row)

-- a group of its parts
abbrev group_made : List (Option ℤ) → List TStmt → TGroup
group_made labels body = record { labels = labels; body = body }

-- the groups of a row are those of its list
groups_list : (s : Scope) (order : List ℕ) (k : Kind) (before : ℕ) (n : Count) (row : Row_of-Group n)
    → items-the_row-TGroup _ (groups_of s order k before row) ≡ groups_in s order k before (items-the_row-Group n row)
groups_list s order k before n end_of-Group = refl
groups_list s order k before n (more_of-Group labels shape body rest) =
    let list : List Stmt = shown-the_row-Stmt-0 shape body in
    let numbers : List (Option ℤ) = filter_map (λ label. label_of s k label.at label.value) labels in
    ap (λ b. group_made numbers b ∷ items-the_row-TGroup _ (groups_of s order k (before + length (formats_of_row s body)) rest))
    (items_shown-the_row-TStmt-0 shape (statements_of s order before body)
    ∙ trees_list s order before _ body ∙ ap (body_of s order before) (sym (items_shown-the_row-Stmt-0 shape body)))
    ∙ ap (λ l. group_made numbers (body_of s order before list) ∷ l) (groups_list s order k (before + length (formats_of_row s body)) _ rest)
    ∙ ap (λ fs. group_made numbers (body_of s order before list) ∷ groups_in s order k (before + length fs) (items-the_row-Group _ rest))
    (group_formats s shape body)

-- the tree of a `switch`
pub switch_tree : (s : Scope) (order : List ℕ) (before : ℕ) (statement : Stmt) (on : Expr) (groups : List Group) → statement ≡ stmt.Switch on groups
    → statement_of s order before statement
    ≡ Switch (Convert (prefix_kind s on) (expression_of s order on)) (groups_in s order (prefix_kind s on) before groups)
switch_tree s order before statement on groups is =
    let row = groups_row (stmt.Switch on groups) in
    let k : Kind = prefix_kind s on in
    ap (statement_of s order before) is
    ∙ sym (switch_form (Convert k (expression_of s order on)) _ (groups_of s order k before row.1))
    ∙ ap (Switch (Convert k (expression_of s order on)))
    (groups_list s order k before row.0 row.1 ∙ ap (groups_in s order k before) (items_hidden-the_row-Group-3 groups))

-- ---- loops

-- the formats of a `while`
pub while_formats : (s : Scope) (statement : Stmt) (test : Expr) (body : Stmt) → statement ≡ stmt.While test body
    → formats_of s statement ≡ formats_of s body
while_formats s statement test body is = ap (formats_of s) (is ∙ shape.while_form test body)

-- the tree of a `while`
pub while_tree : (s : Scope) (order : List ℕ) (before : ℕ) (statement : Stmt) (test : Expr) (body : Stmt) → statement ≡ stmt.While test body
    → statement_of s order before statement ≡ form.While (expression_of s order test) (statement_of s order before body)
while_tree s order before statement test body is = ap (statement_of s order before) (is ∙ shape.while_form test body)

-- the formats of a `do`
pub do_formats : (s : Scope) (statement body : Stmt) (test : Expr) → statement ≡ stmt.Do body test
    → formats_of s statement ≡ formats_of s body
do_formats s statement body test is = ap (formats_of s) (is ∙ shape.do_form body test)

-- the tree of a `do`
pub do_tree : (s : Scope) (order : List ℕ) (before : ℕ) (statement body : Stmt) (test : Expr) → statement ≡ stmt.Do body test
    → statement_of s order before statement ≡ form.Do (statement_of s order before body) (expression_of s order test)
do_tree s order before statement body test is = ap (statement_of s order before) (is ∙ shape.do_form body test)

-- the formats of a `for`
pub for_formats : (s : Scope) (statement : Stmt) (init test step : Option Expr) (body : Stmt) → statement ≡ stmt.For init test step body
    → formats_of s statement ≡ formats_of_part s init ++ (formats_of_part s step ++ formats_of s body)
for_formats s statement init test step body is = ap (formats_of s) (is ∙ shape.for_form init test step body)

-- the tree of a `for`
pub for_tree : (s : Scope) (order : List ℕ) (before : ℕ) (statement : Stmt) (init test step : Option Expr) (body : Stmt)
    → statement ≡ stmt.For init test step body
    → statement_of s order before statement ≡ typed.For (part_in s order before init) (option_map (expression_of s order) test)
    (part_in s order (before + length (formats_of_part s init)) step)
    (statement_of s order (before + length (formats_of_part s init) + length (formats_of_part s step)) body)
unfolding Rattle.typed_tree.specs.declared.statement.TStmt.TheBlock.hidden-the_row-TStmt-2 denote.Hole.Carrier.hidden
for_tree s order before statement None test None body is = ap (statement_of s order before) (is ∙ shape.for_form None test None body)
for_tree s order before statement None test (Some e) body is = ap (statement_of s order before) (is ∙ shape.for_form None test (Some e) body)
for_tree s order before statement (Some e) test None body is = ap (statement_of s order before) (is ∙ shape.for_form (Some e) test None body)
for_tree s order before statement (Some e) test (Some f) body is = ap (statement_of s order before) (is ∙ shape.for_form (Some e) test (Some f) body)
