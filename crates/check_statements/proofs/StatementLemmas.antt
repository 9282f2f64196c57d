-- What each form of statement breaks, as code makes it.
use mathlib.Core.Former.{Count}
use Rattle.std.proofs.Common.{◌≡◌, ◌++◌, ◌∙◌, List, [], Option, Some, None, ap, append_assoc, refl, sym}
use Rattle.std.specs.Prelude.{flat_map}
use Rattle.capl_tree.specs.declared.expr.Expr.{Expr}
use Rattle.capl_tree.specs.declared.statement.Arm.{Arm}
use Rattle.capl_tree.specs.declared.statement.Group.{Group}
use Rattle.capl_tree.specs.declared.statement.Label.{Label}
use Rattle.capl_tree.specs.declared.statement.Stmt.{Stmt, Row_of-Stmt, end_of-Stmt, more_of-Stmt}
use Rattle.capl_tree.specs.declared.statement.Stmt.TheBlock.{Row_of-Arm, end_of-Arm, more_of-Arm, Row_of-Group, end_of-Group, more_of-Group, items-the_row-Stmt, items-the_row-Arm, items-the_row-Group, items_hidden-the_row-Stmt-0, items_shown-the_row-Stmt-0, shown-the_row-Stmt-0, items_hidden-the_row-Arm-1, items_hidden-the_row-Group-3}
use Rattle.capl_tree.specs.declared.statement.Stmt.TheVariants as stmt
use Rattle.capl_tree.proofs.FormLemmas as shape
use Rattle.capl_meaning.specs.declared.offence.Offence.{Offence}
use Rattle.capl_meaning.specs.ExpressionRules.{integer_offences}
use Rattle.capl_meaning.specs.Names.{Scope}
use Rattle.capl_meaning.specs.Sort.{sort_of}
use Rattle.capl_meaning.specs.StatementRules.{Around, alone_offences, in_loop, in_switch, label_offences, labels_said, labels_rule, needed_offences, offences_of_arms, offences_of_groups, offences_of_statements, statement_offences}
use Rattle.check_statements.specs.Statement.{all_offences, arm_offences, else_offences, group_offences, labels_in}

-- `while`
pub while_breaks : (s : Scope) (around : Around) (t : Stmt) (test : Expr) (body : Stmt) → t ≡ stmt.While test body
    → statement_offences s around t ≡ integer_offences s test ++ statement_offences s in_loop body
while_breaks s around t test body is = ap (statement_offences s around) (is ∙ shape.while_form test body)

-- `do`
pub do_breaks : (s : Scope) (around : Around) (t body : Stmt) (test : Expr) → t ≡ stmt.Do body test
    → statement_offences s around t ≡ statement_offences s in_loop body ++ integer_offences s test
do_breaks s around t body test is = ap (statement_offences s around) (is ∙ shape.do_form body test)

-- `for`
pub for_breaks : (s : Scope) (around : Around) (t : Stmt) (init test step : Option Expr) (body : Stmt) → t ≡ stmt.For init test step body
    → statement_offences s around t
    ≡ alone_offences s init ++ (needed_offences s test ++ (alone_offences s step ++ statement_offences s in_loop body))
for_breaks s around t init test step body is = ap (statement_offences s around) (is ∙ shape.for_form init test step body)

-- a row of statements breaks what its list breaks
row-list : (s : Scope) (around : Around) (n : _) (row : Row_of-Stmt n) → offences_of_statements s around row ≡ all_offences s around (items-the_row-Stmt n row)
row-list s around n end_of-Stmt = refl
row-list s around n (more_of-Stmt t row) = ap (λ l. statement_offences s around t ++ l) (row-list s around _ row)

-- the row in a block
abbrev body_of : Stmt → (n : Count) × Row_of-Stmt n
body_of (stmt.Block' _ row) = (_, row)
body_of _ = (_, end_of-Stmt)

-- a block
pub block_breaks : (s : Scope) (around : Around) (t : Stmt) (body : List Stmt) → t ≡ stmt.Block body
    → statement_offences s around t ≡ all_offences s around body
block_breaks s around t body is =
    let row = body_of (stmt.Block body) in
    ap (statement_offences s around) is ∙ row-list s around row.0 row.1 ∙ ap (all_offences s around) (items_hidden-the_row-Stmt-0 body)

-- a row of arms
arms-list : (s : Scope) (around : Around) (n : _) (row : Row_of-Arm n)
    → offences_of_arms s around row ≡ flat_map (arm_offences s around) (items-the_row-Arm n row)
arms-list s around n end_of-Arm = refl
arms-list s around n (more_of-Arm test body row) =
    ap (λ l. integer_offences s test ++ (statement_offences s around body ++ l)) (arms-list s around _ row)
    ∙ sym (append_assoc (integer_offences s test) (statement_offences s around body) (flat_map (arm_offences s around) (items-the_row-Arm _ row)))

-- the row in an `if`
abbrev arms_of : Stmt → (n : Count) × Row_of-Arm n
arms_of (stmt.If' _ row _) = (_, row)
arms_of _ = (_, end_of-Arm)

-- `if`
pub if_breaks : (s : Scope) (around : Around) (t : Stmt) (arms : List Arm) (other : Option Stmt) → t ≡ stmt.If arms other
    → statement_offences s around t ≡ flat_map (arm_offences s around) arms ++ else_offences s around other
unfolding Rattle.capl_tree.specs.declared.statement.Stmt.TheBlock.hidden-the_row-Arm-1 denote.Hole.Carrier.hidden
if_breaks s around t arms None is =
    let row = arms_of (stmt.If arms None) in
    ap (statement_offences s around) is
    ∙ ap (λ l. l ++ []) (arms-list s around row.0 row.1 ∙ ap (flat_map (arm_offences s around)) (items_hidden-the_row-Arm-1 arms))
if_breaks s around t arms (Some body) is =
    let row = arms_of (stmt.If arms (Some body)) in
    ap (statement_offences s around) is
    ∙ ap (λ l. l ++ statement_offences s around body)
    (arms-list s around row.0 row.1 ∙ ap (flat_map (arm_offences s around)) (items_hidden-the_row-Arm-1 arms))

-- a row of groups
groups-list : (s : Scope) (around : Around) (n : _) (row : Row_of-Group n)
    → offences_of_groups s around row ≡ flat_map (group_offences s around) (items-the_row-Group n row)
groups-list s around n end_of-Group = refl
groups-list s around n (more_of-Group labels shown body row) =
    let list : List Stmt = shown-the_row-Stmt-0 shown body in
    let statements = row-list s around _ body ∙ ap (all_offences s around) (sym (items_shown-the_row-Stmt-0 shown body)) in
    ap (λ l. flat_map (label_offences s) labels ++ (l ++ offences_of_groups s around row)) statements
    ∙ ap (λ l. flat_map (label_offences s) labels ++ (all_offences s around list ++ l)) (groups-list s around _ row)
    ∙ sym (append_assoc (flat_map (label_offences s) labels) (all_offences s around list) (flat_map (group_offences s around) (items-the_row-Group _ row)))

-- the labels in a row of groups
labels-list : (n : _) (row : Row_of-Group n) → labels_said row ≡ labels_in (items-the_row-Group n row)
labels-list n end_of-Group = refl
labels-list n (more_of-Group labels shown body row) = ap (λ l. labels ++ l) (labels-list _ row)

-- the row in a `switch`
abbrev groups_of : Stmt → (n : Count) × Row_of-Group n
groups_of (stmt.Switch' _ _ row) = (_, row)
groups_of _ = (_, end_of-Group)

-- `switch`
pub switch_breaks : (s : Scope) (around : Around) (t : Stmt) (on : Expr) (groups : List Group) → t ≡ stmt.Switch on groups
    → statement_offences s around t
    ≡ (integer_offences s on ++ labels_rule s (sort_of s on) (labels_in groups)) ++ flat_map (group_offences s (in_switch around)) groups
switch_breaks s around t on groups is =
    let row = groups_of (stmt.Switch on groups) in
    let labels = labels-list row.0 row.1 ∙ ap labels_in (items_hidden-the_row-Group-3 groups) in
    let others = groups-list s (in_switch around) row.0 row.1 ∙ ap (flat_map (group_offences s (in_switch around))) (items_hidden-the_row-Group-3 groups) in
    ap (statement_offences s around) is
    ∙ ap (λ (l : List Label). integer_offences s on ++ (labels_rule s (sort_of s on) l ++ offences_of_groups s (in_switch around) row.1)) labels
    ∙ ap (λ l. integer_offences s on ++ (labels_rule s (sort_of s on) (labels_in groups) ++ l)) others
    ∙ sym (append_assoc (integer_offences s on) (labels_rule s (sort_of s on) (labels_in groups)) (flat_map (group_offences s (in_switch around)) groups))

-- each form with parts
pub ruleset forms = (while_breaks, do_breaks, for_breaks, block_breaks, if_breaks, switch_breaks)
