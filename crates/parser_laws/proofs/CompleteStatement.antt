-- A statement that stands in its place is what is read from its tokens.
use Rattle.std.proofs.Common.{append_assoc, ◌≡◌, ◌-◌, ℕ, zero, suc, ◌+◌, ◌≤◌, ◌<◌, Bool, true, false, not, List, [], ◌∷◌, ◌++◌, length, Option, Some, None, refl, ap, sym, ◌∙◌, arith}
use Rattle.std.specs.Prelude.{⊤}
use Rattle.std.specs.List.{All}
use Rattle.std.proofs.lemmas.List.Elements.{All-head, All-tail}
use Rattle.capl_lexer.specs.declared.token.Tok.{Tok}
use Rattle.capl_lexer.specs.declared.token.Tok.TheVariants as tok
use Rattle.capl_lexer.specs.declared.token.Word.TheVariants as word
use Rattle.capl_lexer.specs.declared.token.Sign.{Sign}
use Rattle.capl_lexer.specs.declared.token.Sign.TheVariants as sign
use Rattle.capl_tree.specs.declared.expr.Expr.{Expr}
use Rattle.capl_tree.specs.declared.declaration.Decl.{Decl}
use Rattle.capl_tree.specs.declared.statement.Stmt.{Stmt, Row_of-Stmt, end_of-Stmt, more_of-Stmt}
use Rattle.capl_tree.specs.declared.statement.Stmt.TheBlock.{Row_of-Arm, end_of-Arm, more_of-Arm, Row_of-Group, end_of-Group, more_of-Group, Held-Stmt-If-1, items-the_row-Stmt, items-the_row-Arm, items-the_row-Group, items_shown-the_row-Stmt-0, shown-the_row-Stmt-0}
use Rattle.capl_tree.specs.declared.statement.Stmt.TheVariants as stmt
use Rattle.capl_tree.specs.declared.statement.Arm.{Arm}
use Rattle.capl_tree.specs.declared.statement.Group.{Group}
use Rattle.capl_tree.specs.declared.statement.Label.{Label}
use Rattle.capl_tree.specs.Forms as form
use Rattle.capl_tree.specs.Binding.{takes_else, last_takes_else}
use Rattle.capl_tree.specs.Grammar.{IsExpression, IsOptional, IsLabel, AreLabels, IsStatement, AreStatements, AreArms, IsElse, IsNoIf, AreGroups, HasStatement, IsBodyPart, IsDeclaration}
use Rattle.capl_tree.specs.Spelling.{expression, declaration}
use Rattle.capl_tree.specs.Placed.{IsAt, IsPlaced, IsDeclarationPlaced}
use Rattle.capl_tree.specs.FileSpelling as spell
use Rattle.capl_tree.specs.FileSpelling.{each}
use Rattle.capl_tree.specs.FilePlaced.{IsPartPlaced, IsLabelPlaced, EachPlaced, IsStatementPlaced, AreStatementsPlaced, AreArmsPlaced, IsElsePlaced, AreGroupsPlaced}
use Rattle.expr_parser.specs.Reading.{Read, begins, begins_word, behind, after, after_word}
use Rattle.parser_laws.specs.Statement.{Parts, until, enclosed, part_before, begins_declaration, begins_label, ends_body, body_part, body, block, arm, arms_from, choice, label, labels, group, groups, switch, while_loop, do_loop, for_loop, evaluation, jump, repeat, statement_by, statement}
use Rattle.parser_laws.proofs.Chains.{Chain, until_chain, IsRead, each_chain, each_both}
use Rattle.parser_laws.proofs.Starts.{value_starts, starts_value, declaration_declares, starts_part, no_else, no_end, no_label, some_token, only_evaluation, part_starts, no_declaration}
use Rattle.parser_laws.proofs.Forms.{held, made, made_is}
use Rattle.parser_laws.proofs.Known.{AreComplete}
use Rattle.parser_laws.proofs.Lengths.{label_longer, labels_longer, labels_strict, part_longer, statement_longer, statements_longer, arms_longer, further_longer, else_longer, groups_longer, arms_strict, statement_strict}
use Rattle.parser_laws.proofs.ReadForms.{Follows, behind_if, first_arm_if, behind_some, no_if, brace_ends, value_read, labels_no_brace, arm_read, declared_part, statement_part, body_no_else, group_read, last_no_label, some_no_label, groups_end, empty_read, block_read, while_read, do_read, for_read, switch_read, if_read, break_read, continue_read, return_read, arm_longer, last_arm, else_arm, more_arm}

abbrev group_given : Group → List Tok → Read Group
group_given one ts = Some (one, ts)

abbrev stmt_given : Stmt → List Tok → Read Stmt
stmt_given s ts = Some (s, ts)

-- statements are read at this depth
abbrev pub AreRead : Parts → ℕ → Type 0
AreRead parts depth =
    (s : Stmt) (ts : List Tok) → IsStatement s → IsStatementPlaced parts.total s ts → Follows s ts → length (spell.statement s ts) ≤ depth
    → statement parts depth (spell.statement s ts) ≡ Some (s, ts)

-- the statement that is made is the one that is spelled
whole : (s : Stmt) (ts : List Tok) (x : Read Stmt) → x ≡ Some (made s, ts) → x ≡ Some (s, ts)
whole s ts x e = e ∙ ap (λ (s : Stmt). stmt_given s ts) (made_is s)

module _ (parts : Parts) (known : AreComplete parts) (depth : ℕ) (inner : AreRead parts depth) where
  -- declarations and statements, up to where they end
  pub body_chain : {m : _} (row : Row_of-Stmt m) (ts : List Tok) → AreStatements row → ends_body ts ≡ true
      → AreStatementsPlaced parts.total row ts → length (spell.statements row ts) ≤ depth
      → Chain ends_body (body_part parts (statement parts depth)) (items-the_row-Stmt m row) (spell.statements row ts) ts
  body_chain end_of-Stmt ts well over placed small = (refl, over)
  body_chain (more_of-Stmt (stmt.Decl declared) others) ts well over placed small =
      let left = spell.statements others ts in
      let longer = known.declared_longer declared left in (
        left,
        no_end (declaration declared left) (part_starts (stmt.Decl declared) left well.0),
        declared_part parts known declared (statement parts depth) left well.0 placed.0,
        longer,
        body_chain others ts well.1 over placed.1 (omega (arith, longer)),
      )
  body_chain (more_of-Stmt first others) ts well over placed small =
      let left = spell.statements others ts in
      let longer : length left < length (spell.statement first left) = statement_strict parts known first left well.0 in (
        left,
        no_end (spell.statement first left) (part_starts first left well.0),
        statement_part parts known first (statement parts depth) left well.0
            (inner first left well.0 placed.0 (λ _. body_no_else parts known others ts well.1 over) small),
        longer,
        body_chain others ts well.1 over placed.1 (omega (arith, longer)),
      )

  -- groups, up to the closing brace
  groups_chain : {m : _} (row : Row_of-Group m) (ts : List Tok) → AreGroups row → begins sign.CloseBrace ts ≡ true
      → AreGroupsPlaced parts.total row ts → length (spell.label_groups row ts) ≤ depth
      → Chain (begins sign.CloseBrace) (group parts (statement parts depth)) (items-the_row-Group m row) (spell.label_groups row ts) ts
  groups_chain end_of-Group ts well brace placed small = (refl, brace)
  groups_chain (more_of-Group all shape row end_of-Group) ts well brace placed small =
      let over = brace_ends ts brace in
      let chain = body_chain row ts well.1 over placed.1 (omega (arith, labels_longer parts known all (spell.statements row ts))) in (
        ts,
        labels_no_brace parts known all (spell.statements row ts) well.0,
        group_read parts known all row (statement parts depth) ts well.0 (last_no_label parts known row ts well.1 brace) over placed.0 chain
            ∙ ap (λ (b : List Stmt). group_given (record { labels = all; body = b }) ts) (sym (items_shown-the_row-Stmt-0 shape row)),
        omega (arith, labels_strict parts known all (spell.statements row ts) well.0, statements_longer parts known row ts),
        (refl, brace),
      )
  groups_chain (more_of-Group all shape row (more_of-Group all_2 shape_2 row_2 others)) ts well brace placed small =
      let left = spell.label_groups (more_of-Group all_2 shape_2 row_2 others) ts in
      let over = groups_end parts known (more_of-Group all_2 shape_2 row_2 others) ts well.3 brace in
      let chain = body_chain row left well.1 over placed.1 (omega (arith, labels_longer parts known all (spell.statements row left))) in (
        left,
        labels_no_brace parts known all (spell.statements row left) well.0,
        group_read parts known all row (statement parts depth) left well.0 (some_no_label parts known row left well.1 well.2) over placed.0 chain
            ∙ ap (λ (b : List Stmt). group_given (record { labels = all; body = b }) left) (sym (items_shown-the_row-Stmt-0 shape row)),
        omega (arith, labels_strict parts known all (spell.statements row left) well.0, statements_longer parts known row left),
        groups_chain (more_of-Group all_2 shape_2 row_2 others) ts well.3 brace placed.2
            (omega (arith, labels_strict parts known all (spell.statements row left) well.0, statements_longer parts known row left)),
      )

  -- the arms of an `if`
  arms_read : {m : _} (row : Row_of-Arm m) (other : Held-Stmt-If-1) (n : ℕ) (found : List Arm) (ts : List Tok) → AreArms row other → IsElse other
      → AreArmsPlaced parts.total row (spell.last_else other ts) → IsElsePlaced parts.total other ts
      → (last_takes_else other ≡ true → begins_word word.Else ts ≡ false)
      → length (behind_if row (spell.last_else other ts)) ≤ depth → length (behind_if row (spell.last_else other ts)) ≤ n
      → arms_from parts (statement parts depth) n found (behind_if row (spell.last_else other ts)) ≡ Some (stmt.If (found ++ items-the_row-Arm m row) (held other), ts)
  arms_read end_of-Arm other n found ts well else_well placed else_placed follows small enough = absurd well
  arms_read (more_of-Arm test body end_of-Arm) form.NoElse zero found ts well else_well placed else_placed follows small enough = absurd (omega arith)
  arms_read (more_of-Arm test body end_of-Arm) form.NoElse (suc n) found ts well else_well placed else_placed follows small enough =
      last_arm parts known test body (statement parts depth) n found ts
      (arm_read parts known test body (statement parts depth) ts well.0 placed.0
      (inner body ts well.1 placed.1 (λ _. follows refl) (omega (arith, known.value_longer test (tok.Sign sign.CloseParen ∷ spell.statement body ts)))))
      (follows refl)
  arms_read (more_of-Arm test body end_of-Arm) (form.Else other) zero found ts well else_well placed else_placed follows small enough = absurd (omega arith)
  arms_read (more_of-Arm test body end_of-Arm) (form.Else other) (suc n) found ts well else_well placed else_placed follows small enough =
      let left = tok.Word word.Else ∷ spell.statement other ts in
      let longer = known.value_longer test (tok.Sign sign.CloseParen ∷ spell.statement body left) in
      let longer_body = statement_longer parts known body left in
      else_arm parts known test body other (statement parts depth) n found ts
      (arm_read parts known test body (statement parts depth) left well.0 placed.0
      (inner body left well.1 placed.1 (λ takes. absurd (cc (takes, well.2))) (omega (arith, longer))))
      (no_if other ts else_well.0 else_well.1)
      (inner other ts else_well.0 else_placed follows (omega (arith, longer, longer_body)))
  arms_read (more_of-Arm test body (more_of-Arm test_2 body_2 others)) other zero found ts well else_well placed else_placed follows small enough = absurd (omega arith)
  arms_read (more_of-Arm test body (more_of-Arm test_2 body_2 others)) other (suc n) found ts well else_well placed else_placed follows small enough =
      let row = more_of-Arm test_2 body_2 others in
      let inside = behind_if row (spell.last_else other ts) in
      let left = tok.Word word.Else ∷ tok.Word word.If ∷ inside in
      let longer = known.value_longer test (tok.Sign sign.CloseParen ∷ spell.statement body left) in
      let longer_body = statement_longer parts known body left in
      more_arm parts known test body (statement parts depth) n found inside
      (arm_read parts known test body (statement parts depth) left well.0 placed.0
      (inner body left well.1 placed.1 (λ takes. absurd (cc (takes, well.2))) (omega (arith, longer))))
      ∙ arms_read (more_of-Arm test_2 body_2 others) other n (found ++ record { test = test; body = body } ∷ []) ts well.3 else_well placed.2 else_placed follows
      (omega (arith, longer, longer_body)) (omega (arith, longer, longer_body))
      ∙ ap (λ (arms : List Arm). stmt_given (stmt.If arms (held other)) ts) (append_assoc found (record { test = test; body = body } ∷ []) (items-the_row-Arm _ row))

  -- a statement, if those in it are read
  by_form : (s : Stmt) (ts : List Tok) → IsStatement s → IsStatementPlaced parts.total s ts → Follows s ts → length (spell.statement s ts) ≤ suc depth
      → statement_by parts (statement parts depth) (spell.statement s ts) ≡ Some (s, ts)
  by_form stmt.Empty ts well placed follows small = empty_read parts known (statement parts depth) ts
  by_form (stmt.Block' shape row) ts well placed follows small =
      whole (stmt.Block' shape row) ts _
      (block_read parts known row (statement parts depth) ts (body_chain row (tok.Sign sign.CloseBrace ∷ ts) well refl placed (omega arith)))
  by_form (stmt.Decl declared) ts well placed follows small = absurd well
  by_form (stmt.Expr value) ts well placed follows small = value_read parts known value (statement parts depth) ts well placed
  by_form (stmt.If' shape arms other) ts well placed follows small =
      let left = spell.last_else other ts in
      let e = first_arm_if arms other left well.0 in
      whole (stmt.If' shape arms other) ts _
      (ap (statement_by parts (statement parts depth)) e ∙ if_read parts known (statement parts depth) (behind_if arms left)
      ∙ arms_read arms other (length (behind_if arms left)) [] ts well.0 well.1 placed.0 placed.1 follows (omega (arith, ap length e)) (omega arith))
  by_form (form.While test body) ts well placed follows small =
      whole (form.While test body) ts _
      (while_read parts known test body (statement parts depth) ts well.0 placed.0
      (inner body ts well.1 placed.1 follows (omega (arith, known.value_longer test (tok.Sign sign.CloseParen ∷ spell.statement body ts)))))
  by_form (form.Do body test) ts well placed follows small =
      whole (form.Do body test) ts _
      (do_read parts known body test (statement parts depth) ts well.1 placed.1
      (inner body (tok.Word word.While ∷ tok.Sign sign.OpenParen ∷ expression test (tok.Sign sign.CloseParen ∷ tok.Sign sign.Semi ∷ ts))
      well.0 placed.0 (λ _. refl) (omega arith)))
  by_form (form.For init test step body) ts well placed follows small =
      let third = tok.Sign sign.CloseParen ∷ spell.statement body ts in
      let second = tok.Sign sign.Semi ∷ spell.part step third in
      whole (form.For init test step body) ts _
      (for_read parts known init test step body (statement parts depth) ts well.0 well.1 well.2 placed.0 placed.1 placed.2
      (inner body ts well.3 placed.3 follows
      (omega (arith, part_longer parts known init (tok.Sign sign.Semi ∷ spell.part test second), part_longer parts known test second, part_longer parts known step third))))
  by_form (stmt.Switch' on shape row) ts well placed follows small =
      let inside = spell.label_groups row (tok.Sign sign.CloseBrace ∷ ts) in
      whole (stmt.Switch' on shape row) ts _
      (switch_read parts known on row (statement parts depth) ts well.0 placed.0
      (groups_chain row (tok.Sign sign.CloseBrace ∷ ts) well.1 refl placed.1
      (omega (arith, known.value_longer on (tok.Sign sign.CloseParen ∷ tok.Sign sign.OpenBrace ∷ inside)))))
  by_form (stmt.Break at) ts well placed follows small = break_read parts known at (statement parts depth) ts placed
  by_form (stmt.Continue at) ts well placed follows small = continue_read parts known at (statement parts depth) ts placed
  by_form (stmt.Return value at) ts well placed follows small = return_read parts known value at (statement parts depth) ts well placed

-- a statement has a token
some_length : (s : Stmt) (ts : List Tok) → IsStatement s → 0 < length (spell.statement s ts)
some_length (stmt.Decl declared) ts well = absurd well
some_length s ts well = some_token (spell.statement s ts) (part_starts s ts well)

-- each statement that stands in its place is what is read from its tokens
pub all_read : (parts : Parts) → AreComplete parts → (depth : ℕ) → AreRead parts depth
unfolding statement
all_read parts known zero s ts well placed follows small = absurd (omega (arith, some_length s ts well))
all_read parts known (suc depth) s ts well placed follows small = by_form parts known depth (all_read parts known depth) s ts well placed follows small
