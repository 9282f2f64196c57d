-- A list in a statement, and what holds of it item by item.
use Rattle.std.proofs.Common.{◌≡◌, ◌≢◌, ℕ, Bool, true, false, List, [], ◌∷◌, Option, Some, None, refl, ap, sym, subst, ◌∙◌}
use Rattle.std.specs.Prelude.{⊤}
use Rattle.std.specs.List.{All}
use Rattle.std.proofs.lemmas.List.Elements.{All-head, All-tail}
use mathlib.Core.Former.{Count}
use Rattle.capl_lexer.specs.declared.token.Tok.{Tok}
use Rattle.capl_lexer.specs.declared.token.Tok.TheVariants as tok
use Rattle.capl_lexer.specs.declared.token.Word.TheVariants as word
use Rattle.capl_lexer.specs.declared.token.Sign.TheVariants as sign
use Rattle.capl_tree.specs.declared.expr.Expr.{Expr}
use Rattle.capl_tree.specs.declared.statement.Stmt.{Stmt, Row_of-Stmt, end_of-Stmt, more_of-Stmt}
use Rattle.capl_tree.specs.declared.statement.Stmt.TheBlock.{Row_of-Arm, end_of-Arm, more_of-Arm, Row_of-Group, end_of-Group, more_of-Group, Held-Stmt-If-1, items-the_row-Stmt, items-the_row-Arm, items-the_row-Group, items_hidden-the_row-Stmt-0, items_hidden-the_row-Arm-1, items_hidden-the_row-Group-3, items_shown-the_row-Stmt-0, shown-the_row-Stmt-0}
use Rattle.capl_tree.specs.declared.statement.Stmt.TheVariants as stmt
use Rattle.capl_tree.specs.declared.statement.Arm.{Arm}
use Rattle.capl_tree.specs.declared.statement.Group.{Group}
use Rattle.capl_tree.specs.declared.statement.Label.{Label}
use Rattle.capl_tree.specs.Forms as form
use Rattle.capl_tree.specs.Binding.{takes_else}
use Rattle.capl_tree.specs.Grammar.{IsExpression, AreLabels, IsStatement, AreStatements, HasStatement, AreArms, IsClosedBefore, IsElse, IsNoIf, AreGroups, IsBodyPart}
use Rattle.capl_tree.specs.Spelling.{expression}
use Rattle.capl_tree.specs.Placed.{IsPlaced}
use Rattle.capl_tree.specs.FileSpelling as spell
use Rattle.capl_tree.specs.FileSpelling.{each}
use Rattle.capl_tree.specs.FilePlaced.{EachPlaced, IsLabelPlaced, IsStatementPlaced, AreStatementsPlaced, AreArmsPlaced, IsElsePlaced, AreGroupsPlaced}
use Rattle.parser_laws.proofs.Forms.{held}

-- Statements.

statements_each : {m : Count} (row : Row_of-Stmt m) (ts : List Tok) → spell.statements row ts ≡ each spell.statement (items-the_row-Stmt m row) ts
statements_each end_of-Stmt ts = refl
statements_each (more_of-Stmt first others) ts = ap (λ (left : List Tok). spell.statement first left) (statements_each others ts)

statements_well : {m : Count} (row : Row_of-Stmt m) → All IsBodyPart (items-the_row-Stmt m row) → AreStatements row
statements_well end_of-Stmt all = tt
statements_well (more_of-Stmt (stmt.Decl declared) others) all = (
  All-head IsBodyPart (stmt.Decl declared) (items-the_row-Stmt _ others) all,
  statements_well others (All-tail IsBodyPart (stmt.Decl declared) (items-the_row-Stmt _ others) all),
)
statements_well (more_of-Stmt first others) all =
    (All-head IsBodyPart first (items-the_row-Stmt _ others) all, statements_well others (All-tail IsBodyPart first (items-the_row-Stmt _ others) all))

statements_placed : (total : ℕ) {m : Count} (row : Row_of-Stmt m) (ts : List Tok)
    → EachPlaced spell.statement (IsStatementPlaced total) (items-the_row-Stmt m row) ts → AreStatementsPlaced total row ts
statements_placed total end_of-Stmt ts all = tt
statements_placed total (more_of-Stmt first others) ts all =
    (subst (λ (left : List Tok). IsStatementPlaced total first left) (sym (statements_each others ts)) all.0, statements_placed total others ts all.1)

-- the row in a block
abbrev body_of : Stmt → (n : Count) × Row_of-Stmt n
body_of (stmt.Block' _ row) = (_, row)
body_of _ = (_, end_of-Stmt)

-- a block of statements that stand where they may
pub record Blocked (total : ℕ) (found : List Stmt) (ts : List Tok) : Type 0 where
  pub spelled : spell.statement (stmt.Block found) ts ≡ tok.Sign sign.OpenBrace ∷ each spell.statement found (tok.Sign sign.CloseBrace ∷ ts)
  pub well : IsStatement (stmt.Block found)
  pub placed : IsStatementPlaced total (stmt.Block found) ts

-- such a block
pub blocked : (total : ℕ) (found : List Stmt) (ts : List Tok) → All IsBodyPart found
    → EachPlaced spell.statement (IsStatementPlaced total) found (tok.Sign sign.CloseBrace ∷ ts) → Blocked total found ts
blocked total found ts all placed =
    let row = body_of (stmt.Block found) in
    let same : items-the_row-Stmt row.0 row.1 ≡ found = items_hidden-the_row-Stmt-0 found in
    let rest = tok.Sign sign.CloseBrace ∷ ts in
    record {
      spelled = ap (λ (left : List Tok). tok.Sign sign.OpenBrace ∷ left) (statements_each row.1 rest ∙ ap (λ (all : List Stmt). each spell.statement all rest) same);
      well = statements_well row.1 (subst (λ (all : List Stmt). All IsBodyPart all) (sym same) all);
      placed = statements_placed total row.1 rest (subst (λ (all : List Stmt). EachPlaced spell.statement (IsStatementPlaced total) all rest) (sym same) placed);
    }

-- Arms.

-- the tokens behind the first `if`, and those of each further arm
abbrev pub arm_tokens : Arm → List Tok → List Tok
arm_tokens one ts = tok.Sign sign.OpenParen ∷ expression one.test (tok.Sign sign.CloseParen ∷ spell.statement one.body ts)

-- the tokens of arms behind the first
abbrev pub further_tokens : List Arm → List Tok → List Tok
further_tokens [] ts = ts
further_tokens (one ∷ others) ts = tok.Word word.Else ∷ tok.Word word.If ∷ arm_tokens one (further_tokens others ts)

-- the tokens of all arms
abbrev pub arms_tokens : List Arm → List Tok → List Tok
arms_tokens [] ts = ts
arms_tokens (one ∷ others) ts = tok.Word word.If ∷ arm_tokens one (further_tokens others ts)

-- what stands behind a last `else`
abbrev pub other_tokens : Option Stmt → List Tok → List Tok
other_tokens None ts = ts
other_tokens (Some body) ts = tok.Word word.Else ∷ spell.statement body ts

-- the body may stand before what stands behind a last `else`
abbrev pub ClosesBefore : Stmt → Option Stmt → Type 0
ClosesBefore body None = ⊤
ClosesBefore body (Some other) = takes_else body ≡ false

-- arms of a list, in their places
abbrev pub ArmsStand : ℕ → List Arm → Option Stmt → List Tok → Type 0
ArmsStand total [] other ts = ⊥
ArmsStand total (one ∷ []) other ts =
    IsExpression one.test × IsStatement one.body × ClosesBefore one.body other
    × IsPlaced total one.test (tok.Sign sign.CloseParen ∷ spell.statement one.body ts) × IsStatementPlaced total one.body ts
ArmsStand total (one ∷ others) other ts =
    IsExpression one.test × IsStatement one.body × (takes_else one.body ≡ false)
    × IsPlaced total one.test (tok.Sign sign.CloseParen ∷ spell.statement one.body (further_tokens others ts))
    × IsStatementPlaced total one.body (further_tokens others ts) × ArmsStand total others other ts

further_each : {m : Count} (row : Row_of-Arm m) (ts : List Tok) → spell.further_arms row ts ≡ further_tokens (items-the_row-Arm m row) ts
further_each end_of-Arm ts = refl
further_each (more_of-Arm test body others) ts =
    ap (λ (left : List Tok). tok.Word word.Else ∷ tok.Word word.If ∷ arm_tokens (record { test = test; body = body }) left) (further_each others ts)

arms_each : {m : Count} (row : Row_of-Arm m) (ts : List Tok) → spell.first_arm row ts ≡ arms_tokens (items-the_row-Arm m row) ts
arms_each end_of-Arm ts = refl
arms_each (more_of-Arm test body others) ts =
    ap (λ (left : List Tok). tok.Word word.If ∷ arm_tokens (record { test = test; body = body }) left) (further_each others ts)

closes_none : (body : Stmt) (other : Held-Stmt-If-1) → ClosesBefore body (held other) → IsClosedBefore body other
closes_none body form.NoElse closes = tt
closes_none body (form.Else other) closes = closes

arms_well : (total : ℕ) {m : Count} (row : Row_of-Arm m) (other : Held-Stmt-If-1) (ts : List Tok)
    → ArmsStand total (items-the_row-Arm m row) (held other) ts → AreArms row other
arms_well total end_of-Arm other ts stand = stand
arms_well total (more_of-Arm test body end_of-Arm) other ts stand = (stand.0, stand.1, closes_none body other stand.2)
arms_well total (more_of-Arm test body (more_of-Arm test_2 body_2 others)) other ts stand =
    (stand.0, stand.1, stand.2, arms_well total (more_of-Arm test_2 body_2 others) other ts stand.5)

arms_placed : (total : ℕ) {m : Count} (row : Row_of-Arm m) (other : Held-Stmt-If-1) (ts : List Tok)
    → ArmsStand total (items-the_row-Arm m row) (held other) ts → AreArmsPlaced total row ts
arms_placed total end_of-Arm other ts stand = tt
arms_placed total (more_of-Arm test body end_of-Arm) other ts stand = (stand.3, stand.4, tt)
arms_placed total (more_of-Arm test body (more_of-Arm test_2 body_2 others)) other ts stand =
    let row = more_of-Arm test_2 body_2 others in
    let e = sym (further_each row ts) in (
      subst (λ (left : List Tok). IsPlaced total test (tok.Sign sign.CloseParen ∷ spell.statement body left)) e stand.3,
      subst (λ (left : List Tok). IsStatementPlaced total body left) e stand.4,
      arms_placed total (more_of-Arm test_2 body_2 others) other ts stand.5,
    )

-- the row in an `if`
abbrev arms_of : Stmt → (n : Count) × Row_of-Arm n
arms_of (stmt.If' _ row _) = (_, row)
arms_of _ = (_, end_of-Arm)

-- an `else` behind an `if` belongs to it, or to what stands behind its last `else`
abbrev pub takes_of : Option Stmt → Bool
takes_of None = true
takes_of (Some body) = takes_else body

-- what stands behind a last `else` stands where it may
abbrev pub OtherStands : ℕ → Option Stmt → List Tok → Type 0
OtherStands total None ts = ⊤
OtherStands total (Some body) ts = IsStatement body × IsNoIf body × IsStatementPlaced total body ts

-- an `if` whose parts stand where they may
pub record Chosen (total : ℕ) (arms : List Arm) (other : Option Stmt) (ts : List Tok) : Type 0 where
  pub spelled : spell.statement (stmt.If arms other) ts ≡ arms_tokens arms (other_tokens other ts)
  pub well : IsStatement (stmt.If arms other)
  pub placed : IsStatementPlaced total (stmt.If arms other) ts
  pub takes : takes_else (stmt.If arms other) ≡ takes_of other

-- such an `if`
pub chosen : (total : ℕ) (arms : List Arm) (other : Option Stmt) (ts : List Tok) → ArmsStand total arms other (other_tokens other ts)
    → OtherStands total other ts → Chosen total arms other ts
unfolding Rattle.capl_tree.specs.declared.statement.Stmt.TheBlock.hidden-the_row-Stmt-2 denote.Hole.Carrier.hidden
chosen total arms None ts stand other_stands =
    let row = arms_of (stmt.If arms None) in
    let same : items-the_row-Arm row.0 row.1 ≡ arms = items_hidden-the_row-Arm-1 arms in
    let stand_row : ArmsStand total (items-the_row-Arm row.0 row.1) None ts = subst (λ (all : List Arm). ArmsStand total all None ts) (sym same) stand in
    record {
      spelled = arms_each row.1 ts ∙ ap (λ (all : List Arm). arms_tokens all ts) same;
      well = (arms_well total row.1 form.NoElse ts stand_row, tt);
      placed = (arms_placed total row.1 form.NoElse ts stand_row, tt);
      takes = refl;
    }
chosen total arms (Some body) ts stand other_stands =
    let row = arms_of (stmt.If arms (Some body)) in
    let left = tok.Word word.Else ∷ spell.statement body ts in
    let same : items-the_row-Arm row.0 row.1 ≡ arms = items_hidden-the_row-Arm-1 arms in
    let stand_row : ArmsStand total (items-the_row-Arm row.0 row.1) (Some body) left = subst (λ (all : List Arm). ArmsStand total all (Some body) left) (sym same) stand in
    record {
      spelled = arms_each row.1 left ∙ ap (λ (all : List Arm). arms_tokens all left) same;
      well = (arms_well total row.1 (form.Else body) left stand_row, (other_stands.0, other_stands.1));
      placed = (arms_placed total row.1 (form.Else body) left stand_row, other_stands.2);
      takes = refl;
    }

-- Groups.

-- the tokens of a group
abbrev pub group_tokens : Group → List Tok → List Tok
group_tokens one ts = each spell.label one.labels (each spell.statement one.body ts)

-- a group of a list, in its place
pub record GroupStands (total : ℕ) (one : Group) (ts : List Tok) : Type 0 where
  pub labels : AreLabels one.labels
  pub body : All IsBodyPart one.body
  pub labels_placed : EachPlaced spell.label (IsLabelPlaced total) one.labels (each spell.statement one.body ts)
  pub body_placed : EachPlaced spell.statement (IsStatementPlaced total) one.body ts

-- groups of a list, of which only the last may have no statement
abbrev pub GroupsStand : ℕ → List Group → List Tok → Type 0
GroupsStand total [] ts = ⊤
GroupsStand total (one ∷ []) ts = GroupStands total one ts
GroupsStand total (one ∷ others) ts = GroupStands total one (each group_tokens others ts) × (one.body ≢ []) × GroupsStand total others ts

some_statement : {m : Count} (row : Row_of-Stmt m) → (items-the_row-Stmt m row ≢ []) → HasStatement row
some_statement end_of-Stmt some = absurd (some refl)
some_statement (more_of-Stmt first others) some = tt

groups_each : {m : Count} (row : Row_of-Group m) (ts : List Tok) → spell.label_groups row ts ≡ each group_tokens (items-the_row-Group m row) ts
groups_each end_of-Group ts = refl
groups_each (more_of-Group labels shape body others) ts =
    let left = spell.label_groups others ts in
    ap (λ (inside : List Tok). each spell.label labels inside)
    (statements_each body left ∙ ap (λ (all : List Stmt). each spell.statement all left) (sym (items_shown-the_row-Stmt-0 shape body)))
    ∙ ap (λ (left : List Tok). each spell.label labels (each spell.statement (shown-the_row-Stmt-0 shape body) left)) (groups_each others ts)

-- a group in a row
abbrev RowGroup : ℕ → List Label → {m : Count} → Row_of-Stmt m → List Tok → Type 0
RowGroup total labels body left =
    AreLabels labels × AreStatements body × EachPlaced spell.label (IsLabelPlaced total) labels (spell.statements body left) × AreStatementsPlaced total body left

row_group : (total : ℕ) (labels : List Label) {m : Count} (body : Row_of-Stmt m) (all : List Stmt) (left : List Tok) → all ≡ items-the_row-Stmt m body
    → GroupStands total (record { labels = labels; body = all }) left → RowGroup total labels body left
row_group total labels {m} body all left same stands = (
  stands.labels,
  statements_well body (subst (λ (all : List Stmt). All IsBodyPart all) same stands.body),
  subst (λ (inside : List Tok). EachPlaced spell.label (IsLabelPlaced total) labels inside)
      (ap (λ (all : List Stmt). each spell.statement all left) same ∙ sym (statements_each body left)) stands.labels_placed,
  statements_placed total body left (subst (λ (all : List Stmt). EachPlaced spell.statement (IsStatementPlaced total) all left) same stands.body_placed),
)

groups_well : (total : ℕ) {m : Count} (row : Row_of-Group m) (ts : List Tok) → GroupsStand total (items-the_row-Group m row) ts
    → AreGroups row × AreGroupsPlaced total row ts
groups_well total end_of-Group ts stand = (tt, tt)
groups_well total (more_of-Group labels shape body end_of-Group) ts stand =
    let one = row_group total labels body (shown-the_row-Stmt-0 shape body) ts (items_shown-the_row-Stmt-0 shape body) stand in
    ((one.0, one.1), (one.2, one.3, tt))
groups_well total (more_of-Group labels shape body (more_of-Group labels_2 shape_2 body_2 others)) ts stand =
    let row = more_of-Group labels_2 shape_2 body_2 others in
    let left = spell.label_groups row ts in
    let stands = subst (λ (left : List Tok). GroupStands total (record { labels = labels; body = shown-the_row-Stmt-0 shape body }) left) (sym (groups_each row ts)) stand.0 in
    let one = row_group total labels body (shown-the_row-Stmt-0 shape body) left (items_shown-the_row-Stmt-0 shape body) stands in
    let rest = groups_well total (more_of-Group labels_2 shape_2 body_2 others) ts stand.2 in
    ((one.0, one.1, some_statement body (λ none. stand.1 (items_shown-the_row-Stmt-0 shape body ∙ none)), rest.0), (one.2, one.3, rest.1))

-- the row in a `switch`
abbrev groups_of : Stmt → (n : Count) × Row_of-Group n
groups_of (stmt.Switch' _ _ row) = (_, row)
groups_of _ = (_, end_of-Group)

-- a `switch` whose groups stand where they may
pub record Switched (total : ℕ) (on : Expr) (found : List Group) (ts : List Tok) : Type 0 where
  pub spelled : spell.statement (stmt.Switch on found) ts
      ≡ tok.Word word.Switch ∷ tok.Sign sign.OpenParen ∷ expression on (tok.Sign sign.CloseParen ∷ tok.Sign sign.OpenBrace ∷ each group_tokens found (tok.Sign sign.CloseBrace ∷ ts))
  pub well : IsStatement (stmt.Switch on found)
  pub placed : IsStatementPlaced total (stmt.Switch on found) ts

-- such a `switch`
pub switched : (total : ℕ) (on : Expr) (found : List Group) (ts : List Tok) → IsExpression on
    → IsPlaced total on (tok.Sign sign.CloseParen ∷ tok.Sign sign.OpenBrace ∷ each group_tokens found (tok.Sign sign.CloseBrace ∷ ts))
    → GroupsStand total found (tok.Sign sign.CloseBrace ∷ ts) → Switched total on found ts
switched total on found ts well placed stand =
    let row = groups_of (stmt.Switch on found) in
    let rest = tok.Sign sign.CloseBrace ∷ ts in
    let same : items-the_row-Group row.0 row.1 ≡ found = items_hidden-the_row-Group-3 found in
    let tokens = groups_each row.1 rest ∙ ap (λ (all : List Group). each group_tokens all rest) same in
    let both = groups_well total row.1 rest (subst (λ (all : List Group). GroupsStand total all rest) (sym same) stand) in
    record {
      spelled = ap (λ (inside : List Tok). tok.Word word.Switch ∷ tok.Sign sign.OpenParen ∷ expression on (tok.Sign sign.CloseParen ∷ tok.Sign sign.OpenBrace ∷ inside)) tokens;
      well = (well, both.0);
      placed = (subst (λ (inside : List Tok). IsPlaced total on (tok.Sign sign.CloseParen ∷ tok.Sign sign.OpenBrace ∷ inside)) (sym tokens) placed, both.1);
    }
