-- Statements are what their pieces say.
use Rattle.std.proofs.Common.{◌≡◌, ℕ, Bool, true, false, not, ◌||◌, List, ◌∷◌, Option, Some, None, refl}
use Rattle.std.specs.Prelude.{⊤, ◌↔◌}
use Rattle.std.specs.Option.{ForSome}
use Rattle.capl_lexer.specs.declared.token.Tok.TheVariants as tok
use Rattle.capl_lexer.specs.declared.token.Word.TheVariants as word
use Rattle.capl_lexer.specs.declared.token.Sign.TheVariants as sign
use Rattle.capl_tree.specs.declared.expr.Expr.{Expr}
use Rattle.capl_tree.specs.declared.statement.Stmt.{Stmt, Row_of-Stmt, end_of-Stmt, more_of-Stmt}
use Rattle.capl_tree.specs.declared.statement.Stmt.TheBlock.{Row_of-Arm, end_of-Arm, more_of-Arm, Row_of-Group, end_of-Group, more_of-Group, Held-Stmt-If-1}
use Rattle.capl_tree.specs.declared.statement.Stmt.TheVariants as stmt
use Rattle.capl_tree.specs.declared.statement.Label.{Label}
use Rattle.capl_tree.specs.Forms as form
use Rattle.capl_tree.specs.Binding.{assignment_level, takes_else}
use Rattle.capl_tree.specs.Grammar.{IsExpression, IsValue, IsOptional, IsLabel, AreLabels, IsNoIf, HasStatement, IsStatement, AreStatements, AreArms, IsElse, AreGroups, IsBodyPart}
use Rattle.capl_tree.specs.Spelling as spelled
use Rattle.capl_tree.specs.FileSpelling as spelled_file
use Rattle.capl_tree.specs.FilePlaced.{IsPartPlaced, IsLabelPlaced, IsStatementPlaced, AreStatementsPlaced, AreArmsPlaced, IsElsePlaced, AreGroupsPlaced}
use Rattle.capl_grammar.specs.Expression.{a_sign, expression}
use Rattle.capl_grammar.specs.File.{optional, label_part, label, is_if, has_statement, has_no_group, statement, statements, first_arm, further_arms, last_else, label_groups, body_part}
use Rattle.capl_grammar.proofs.Same.{Same, ItemSame, nothing, token, only, both, ended, became, placed, asked, never, missing, present, some_items, each_same}
use Rattle.capl_grammar.proofs.SameExpression.{any_same}
use Rattle.capl_grammar.proofs.SameDeclaration.{value_same, declaration_same}

-- what may stand behind a statement, by whether an `else` behind it would belong to an `if` in it
abbrev Follows : Bool → {m : _} → Row_of-Arm m → Held-Stmt-If-1 → Type 0
Follows taken end_of-Arm form.NoElse = ⊤
Follows taken end_of-Arm (form.Else body) = taken ≡ false
Follows taken (more_of-Arm test body others) other =
    (taken ≡ false) × AreArms (more_of-Arm test body others) other

-- where the first of some arms may stand
arms_stand : (test : Expr) (body : Stmt) {m : _} (others : Row_of-Arm m) (other : Held-Stmt-If-1)
    → (IsExpression test × IsStatement body × Follows (takes_else body) others other)
    ↔ AreArms (more_of-Arm test body others) other
arms_stand test body end_of-Arm form.NoElse = assumption
arms_stand test body end_of-Arm (form.Else last) = assumption
arms_stand test body (more_of-Arm next after others) other = assumption

not_taken : (taken : Bool) → (not taken ≡ true) ↔ (taken ≡ false)
not_taken true = (λ is. absurd cc, λ is. absurd cc)
not_taken false = (λ is. refl, λ is. refl)

no_if : (body : Stmt) → (not (is_if body) ≡ true) ↔ IsNoIf body
no_if (stmt.If' shape arms other) = (λ is. absurd cc, λ none. absurd none)
no_if _ = (λ is. tt, λ none. refl)

-- a row that is not the last has a statement
some_statement : {m : _} (row : Row_of-Stmt m) → (has_statement row || false ≡ true) ↔ HasStatement row
some_statement end_of-Stmt = (λ is. absurd cc, λ some. absurd some)
some_statement (more_of-Stmt first others) = (λ is. tt, λ some. refl)

any_or_last : (any : Bool) → any || true ≡ true
any_or_last true = refl
any_or_last false = refl

-- where the first of some groups may stand
groups_stand : (labels : List Label) (shape : _) (body : Row_of-Stmt _) {m : _} (others : Row_of-Group m)
    → (AreLabels labels × AreStatements body × (has_statement body || has_no_group others ≡ true)
    × AreGroups others) ↔ AreGroups (more_of-Group labels shape body others)
groups_stand labels shape body end_of-Group =
    (λ h. assumption, λ h. (h.0, h.1, any_or_last (has_statement body), tt))
groups_stand labels shape body (more_of-Group next _ _ others) = (
  λ h. (h.0, h.1, (some_statement body).0 h.2, h.3),
  λ h. (h.0, h.1, (some_statement body).1 h.2, h.3),
)

-- what stands behind the arms of an `if`
abbrev ElseSame : ℕ → Held-Stmt-If-1 → Type 0
ElseSame total other =
    (taken : Bool) → Same total (λ behind. last_else other behind taken) (spelled_file.last_else other)
    (λ rest. Follows taken end_of-Arm other × IsElse other × IsElsePlaced total other rest)

-- arms behind a statement, and what stands behind them
abbrev FurtherSame : ℕ → Bool → {m : _} → Row_of-Arm m → Held-Stmt-If-1 → Type 0
FurtherSame total taken arms other =
    Same total (λ behind. further_arms taken arms (last_else other behind))
    (λ rest. spelled_file.further_arms arms (spelled_file.last_else other rest))
    (λ rest. Follows taken arms other × AreArmsPlaced total arms (spelled_file.last_else other rest)
    × IsElse other × IsElsePlaced total other rest)

module _ (total : ℕ) where
  part_same : (given : Option Expr)
      → Same total (optional given) (spelled_file.part given)
      (λ rest. IsOptional given × IsPartPlaced total given rest)
  part_same None = missing IsExpression
  part_same (Some e) = present IsExpression e (any_same total e)

  label_part_same : (given : Option Expr)
      → Same total (label_part given) (spelled_file.label_part given)
      (λ rest. ForSome given IsValue × IsPartPlaced total given (tok.Sign sign.Colon ∷ rest))
  label_part_same None = token (tok.Word word.Default) (ended (missing IsValue) (tok.Sign sign.Colon))
  label_part_same (Some e) =
      present IsValue e
      (token (tok.Word word.Case) (ended (value_same total e) (tok.Sign sign.Colon)))

  label_same : (l : Label) → ItemSame total label spelled_file.label IsLabel (IsLabelPlaced total) l
  label_same l = became (placed l.at (label_part_same l.value)) assumption

  -- `( TEST ) BODY` and what stands behind it
  arm : (test : Expr) (body : Stmt) {m : _} (others : Row_of-Arm m) (other : Held-Stmt-If-1)
      → ItemSame total statement spelled_file.statement IsStatement (IsStatementPlaced total) body
      → FurtherSame total (takes_else body) others other
      → Same total
      (λ behind. a_sign sign.OpenParen ∷ expression assignment_level test (a_sign sign.CloseParen
      ∷ statement body (further_arms (takes_else body) others (last_else other behind))))
      (λ rest. tok.Sign sign.OpenParen ∷ spelled.expression test (tok.Sign sign.CloseParen
      ∷ spelled_file.statement body (spelled_file.further_arms others (spelled_file.last_else other rest))))
      (λ rest. AreArms (more_of-Arm test body others) other
      × AreArmsPlaced total (more_of-Arm test body others) (spelled_file.last_else other rest)
      × IsElse other × IsElsePlaced total other rest)
  arm test body others other body_same others_same =
      let stand = arms_stand test body others other in
      became
      (token (tok.Sign sign.OpenParen)
      (both (ended (any_same total test) (tok.Sign sign.CloseParen)) (both body_same others_same)))
      (λ choice rest. (λ h. assumption (stand.0 assumption), λ h. assumption (stand.1 h.0)))

  mutual
    -- a statement that is no declaration
    pub statement_same : (s : Stmt)
        → ItemSame total statement spelled_file.statement IsStatement (IsStatementPlaced total) s
    statement_same stmt.Empty = became (only (tok.Sign sign.Semi)) assumption
    statement_same (stmt.Block' shape body) =
        token (tok.Sign sign.OpenBrace) (ended (statements_same body) (tok.Sign sign.CloseBrace))
    statement_same (stmt.Decl declared) = never (λ choice rest h. h.0)
    statement_same (stmt.Expr e) = ended (any_same total e) (tok.Sign sign.Semi)
    statement_same (stmt.If' shape arms other) =
        became (first_arm_same arms other (last_else_same other)) assumption
    statement_same (form.While test body) =
        became
        (token (tok.Word word.While)
        (token (tok.Sign sign.OpenParen)
        (both (ended (any_same total test) (tok.Sign sign.CloseParen)) (statement_same body))))
        assumption
    statement_same (form.Do body test) =
        became
        (token (tok.Word word.Do)
        (both (statement_same body)
        (token (tok.Word word.While)
        (token (tok.Sign sign.OpenParen)
        (ended (ended (any_same total test) (tok.Sign sign.CloseParen)) (tok.Sign sign.Semi))))))
        assumption
    statement_same (form.For init test step body) =
        became
        (token (tok.Word word.For)
        (token (tok.Sign sign.OpenParen)
        (both (ended (part_same init) (tok.Sign sign.Semi))
        (both (ended (part_same test) (tok.Sign sign.Semi))
        (both (ended (part_same step) (tok.Sign sign.CloseParen)) (statement_same body))))))
        assumption
    statement_same (stmt.Switch' on shape groups) =
        became
        (token (tok.Word word.Switch)
        (token (tok.Sign sign.OpenParen)
        (both (ended (any_same total on) (tok.Sign sign.CloseParen))
        (token (tok.Sign sign.OpenBrace)
        (ended (groups_same groups) (tok.Sign sign.CloseBrace))))))
        assumption
    statement_same (stmt.Break at) =
        became (placed at (token (tok.Word word.Break) (only (tok.Sign sign.Semi)))) assumption
    statement_same (stmt.Continue at) =
        became (placed at (token (tok.Word word.Continue) (only (tok.Sign sign.Semi)))) assumption
    statement_same (stmt.Return given at) =
        became (placed at (token (tok.Word word.Return) (ended (part_same given) (tok.Sign sign.Semi))))
        assumption

    -- declarations and statements, one after another
    statements_same : {m : _} (row : Row_of-Stmt m)
        → Same total (statements row) (spelled_file.statements row)
        (λ rest. AreStatements row × AreStatementsPlaced total row rest)
    statements_same end_of-Stmt = became nothing assumption
    statements_same (more_of-Stmt (stmt.Decl declared) others) =
        became (both (declaration_same total declared) (statements_same others)) assumption
    statements_same (more_of-Stmt first others) =
        became (both (statement_same first) (statements_same others)) assumption

    -- the arms of an `if`, and what stands behind them
    first_arm_same : {m : _} (arms : Row_of-Arm m) (other : Held-Stmt-If-1) → ElseSame total other
        → Same total (λ behind. first_arm arms (last_else other behind))
        (λ rest. spelled_file.first_arm arms (spelled_file.last_else other rest))
        (λ rest. AreArms arms other × AreArmsPlaced total arms (spelled_file.last_else other rest)
        × IsElse other × IsElsePlaced total other rest)
    first_arm_same end_of-Arm other else_same = never (λ choice rest h. h.0)
    first_arm_same (more_of-Arm test body others) other else_same =
        token (tok.Word word.If)
        (arm test body others other (statement_same body)
        (further_arms_same others (takes_else body) other else_same))

    -- arms behind a statement
    further_arms_same : {m : _} (arms : Row_of-Arm m) (taken : Bool) (other : Held-Stmt-If-1)
        → ElseSame total other → FurtherSame total taken arms other
    further_arms_same end_of-Arm taken other else_same = became (else_same taken) assumption
    further_arms_same (more_of-Arm test body others) taken other else_same =
        became
        (asked (not_taken taken)
        (token (tok.Word word.Else)
        (token (tok.Word word.If)
        (arm test body others other (statement_same body)
        (further_arms_same others (takes_else body) other else_same)))))
        assumption

    -- what stands behind the arms of an `if`
    last_else_same : (other : Held-Stmt-If-1) → ElseSame total other
    last_else_same form.NoElse taken = became nothing assumption
    last_else_same (form.Else body) taken =
        became
        (asked (not_taken taken)
        (asked (no_if body) (token (tok.Word word.Else) (statement_same body))))
        assumption

    -- the groups of a `switch`
    groups_same : {m : _} (groups : Row_of-Group m)
        → Same total (label_groups groups) (spelled_file.label_groups groups)
        (λ rest. AreGroups groups × AreGroupsPlaced total groups rest)
    groups_same end_of-Group = became nothing assumption
    groups_same (more_of-Group labels shape body others) =
        let stand = groups_stand labels shape body others in
        became
        (asked (some_items labels)
        (asked (λ is. is, λ is. is)
        (both (each_same label_same labels) (both (statements_same body) (groups_same others)))))
        (λ choice rest. (λ h. assumption (stand.0 assumption), λ h. assumption (stand.1 h.0)))

  -- a declaration or a statement
  pub body_part_same : (s : Stmt)
      → ItemSame total body_part spelled_file.statement IsBodyPart (IsStatementPlaced total) s
  body_part_same (stmt.Decl declared) = declaration_same total declared
  body_part_same s = statement_same s
