-- What is read as a statement is one in its place, and the tokens spell it.
use Rattle.std.proofs.Common.{append_assoc, ◌≡◌, ◌≢◌, ◌-◌, ℕ, zero, suc, ◌+◌, ◌≤◌, ◌<◌, Bool, true, false, not, if◌then◌else◌, List, [], ◌∷◌, ◌++◌, length, Option, Some, None, refl, ap, sym, subst, ◌∙◌, arith}
use Rattle.std.specs.Prelude.{⊤, ◌||◌}
use Rattle.std.specs.List.{All}
use Rattle.std.proofs.lemmas.List.Elements.{All-cons}
use Rattle.capl_lexer.specs.declared.token.Tok.{Tok}
use Rattle.capl_lexer.specs.declared.token.Tok.TheVariants as tok
use Rattle.capl_lexer.specs.declared.token.Word.{Word}
use Rattle.capl_lexer.specs.declared.token.Word.TheVariants as word
use Rattle.capl_lexer.specs.declared.token.Sign.{Sign}
use Rattle.capl_lexer.specs.declared.token.Sign.TheVariants as sign
use Rattle.capl_tree.specs.declared.expr.Expr.{Expr}
use Rattle.capl_tree.specs.declared.declaration.Decl.{Decl}
use Rattle.capl_tree.specs.declared.statement.Stmt.{Stmt}
use Rattle.capl_tree.specs.declared.statement.Stmt.TheBlock.{Row_of-Arm, end_of-Arm, more_of-Arm, Held-Stmt-If-1}
use Rattle.capl_tree.specs.declared.statement.Stmt.TheVariants as stmt
use Rattle.capl_tree.specs.declared.statement.Arm.{Arm}
use Rattle.capl_tree.specs.declared.statement.Group.{Group}
use Rattle.capl_tree.specs.declared.statement.Label.{Label}
use Rattle.capl_tree.specs.Forms as form
use Rattle.capl_tree.specs.Binding.{assignment_level, choice_level, takes_else}
use Rattle.capl_tree.specs.Grammar.{IsExpression, IsValue, IsDeclaration, IsOptional, IsLabel, AreLabels, IsStatement, AreArms, IsNoIf, IsBodyPart}
use Rattle.capl_tree.specs.Spelling.{expression, declaration}
use Rattle.capl_tree.specs.Placed.{IsAt, IsPlaced, IsDeclarationPlaced}
use Rattle.capl_tree.specs.FileSpelling as spell
use Rattle.capl_tree.specs.FileSpelling.{each}
use Rattle.capl_tree.specs.FilePlaced.{IsPartPlaced, IsLabelPlaced, EachPlaced, IsStatementPlaced}
use Rattle.capl_tree.proofs.FormLemmas.{while_form, do_form, for_form}
use Rattle.expr_parser.specs.Reading.{Read, and_then, begins, begins_word, behind, after, after_word}
use Rattle.parser_laws.specs.Statement.{Parts, until, enclosed, part_before, begins_declaration, begins_label, ends_body, body_part, body, block, arm, next_arm, arms_from, choice, label, labels, group, groups, switch, while_loop, do_loop, for_loop, evaluation, jump, repeat, statement_by, statement}
use Rattle.parser_laws.proofs.ReadForms.{Follows}
use Rattle.parser_laws.proofs.Steps.{step, by_test, moved, sign_next, word_next, after_some, after_word_some, IsFound, IsSound, WasRead, until_read, AreFound, all_found}
use Rattle.parser_laws.proofs.Rows.{Blocked, blocked, arm_tokens, further_tokens, arms_tokens, other_tokens, ArmsStand, OtherStands, takes_of, Chosen, chosen, group_tokens, GroupStands, GroupsStand, Switched, switched}

-- what is known of the readers of expressions and of declarations
pub record AreSound (parts : Parts) : Type 0 where
  pub value : IsSound parts.total (parts.value assignment_level) expression IsExpression (IsPlaced parts.total)
  pub constant : IsSound parts.total (parts.value choice_level) expression IsValue (IsPlaced parts.total)
  pub declared : IsSound parts.total parts.declared declaration IsDeclaration (IsDeclarationPlaced parts.total)

-- a statement in its place, before what does not belong to it
abbrev pub Sits : ℕ → Stmt → List Tok → Type 0
Sits total s rest = IsStatementPlaced total s rest × Follows s rest

-- a statement at the front of the tokens
abbrev pub Found : ℕ → List Tok → Stmt → List Tok → Type 0
Found total ts s rest = IsFound spell.statement IsStatement (Sits total) ts s rest

abbrev made_read : {A : Type 0} → A → List Tok → Read A
made_read a ts = Some (a, ts)

abbrev stmt_read : Stmt → List Tok → Read Stmt
stmt_read s ts = Some (s, ts)

is_part : (s : Stmt) → IsStatement s → IsBodyPart s
is_part (stmt.Decl declared) well = absurd well
is_part s well = well

not_true : (b : Bool) → (b ≡ true → ⊥) → b ≡ false
not_true true fails = absurd (fails refl)
not_true false fails = refl

one_some : (value : Expr) → IsExpression value → IsOptional (Some value)
one_some value well x e = let same : value ≡ x = cc in subst IsExpression same well

one_value : (value : Expr) → IsValue value → (x : Expr) → (let y : Option Expr = Some value in y) ≡ Some x → IsValue x
one_value value well x e = let same : value ≡ x = cc in subst IsValue same well

abbrev label_given : Label → List Tok → Read Label
label_given l ts = Some (l, ts)

not_not : (b : Bool) → not b ≡ true → b ≡ false
not_not true e = absurd cc
not_not false e = refl

-- labels at the front of the tokens, before what is none
record LabelsFound (total : ℕ) (ts : List Tok) (all : List Label) (rest : List Tok) : Type 0 where
  spelled : ts ≡ each spell.label all rest
  well : AreLabels all
  placed : EachPlaced spell.label (IsLabelPlaced total) all rest
  over : begins_label rest ≡ false
  shorter : length rest ≤ length ts

-- a group at the front of the tokens; one without statements is the last
record GroupFound (total : ℕ) (ts : List Tok) (one : Group) (rest : List Tok) : Type 0 where
  spelled : ts ≡ group_tokens one rest
  stands : GroupStands total one rest
  last : one.body ≡ [] → begins sign.CloseBrace rest ≡ true
  shorter : length rest ≤ length ts

ends_at_brace : (ts : List Tok) → ends_body ts ≡ true → begins_label ts ≡ false → begins sign.CloseBrace ts ≡ true
ends_at_brace ts over absent = by_bool (begins sign.CloseBrace ts) refl
  where
    by_bool : (b : Bool) → begins sign.CloseBrace ts ≡ b → begins sign.CloseBrace ts ≡ true
    by_bool true is = is
    by_bool false is = absurd (let e : (begins sign.CloseBrace ts || begins_label ts) ≡ false = rw (is, absent) refl in cc)

-- where there is no statement behind labels, the brace stands there
body_last : (mid : List Tok) (inside : List Stmt) (left : List Tok) → begins_label mid ≡ false → ends_body left ≡ true → mid ≡ each spell.statement inside left
    → inside ≡ [] → begins sign.CloseBrace left ≡ true
body_last mid inside left no_label over same none =
    let e : mid ≡ left = same ∙ ap (λ (x : List Stmt). each spell.statement x left) none in
    ends_at_brace left over (ap begins_label (sym e) ∙ no_label)

arms_begin : {m : _} (row : Row_of-Arm m) (other : Held-Stmt-If-1) (rest : List Tok) → AreArms row other → begins_word word.If (spell.first_arm row rest) ≡ false → ⊥
arms_begin end_of-Arm other rest well absent = well
arms_begin (more_of-Arm test body others) other rest well absent = cc

-- what begins with no `if` is none
if_begins : (s : Stmt) (rest : List Tok) → IsStatement s → begins_word word.If (spell.statement s rest) ≡ false → IsNoIf s
if_begins (stmt.If' shape arms other) rest well absent = arms_begin arms other (spell.last_else other rest) well.0 absent
if_begins _ rest well absent = tt

module _ (parts : Parts) (known : AreSound parts) where
  -- `( TEST )`
  enclosed_sound : IsSound parts.total (enclosed parts) (λ e rest. tok.Sign sign.OpenParen ∷ expression e (tok.Sign sign.CloseParen ∷ rest)) IsExpression
      (λ e rest. IsPlaced parts.total e (tok.Sign sign.CloseParen ∷ rest))
  unfolding enclosed
  enclosed_sound ts test rest fits e =
      let R = IsFound (λ e rest. tok.Sign sign.OpenParen ∷ expression e (tok.Sign sign.CloseParen ∷ rest)) IsExpression
      (λ e rest. IsPlaced parts.total e (tok.Sign sign.CloseParen ∷ rest)) ts in
      step (after sign.OpenParen ts) (λ _ ts. and_then (parts.value assignment_level ts) (λ test ts. and_then (after sign.CloseParen ts) (λ _ ts. Some (test, ts)))) test rest (R test rest) e
      (λ u inside read_open e.
      step (parts.value assignment_level inside) (λ test ts. and_then (after sign.CloseParen ts) (λ _ ts. Some (test, ts))) test rest (R test rest) e
      (λ value mid read_value e.
      step (after sign.CloseParen mid) (λ _ ts. Some (value, ts)) test rest (R test rest) e
      (λ v left read_close e.
      let opened = after_some sign.OpenParen ts u inside read_open in
      let one = known.value inside value mid (omega (arith, ap length opened)) read_value in
      let close = after_some sign.CloseParen mid v left read_close in
      moved R value test left rest e
      (record {
        spelled = opened ∙ ap (λ (x : List Tok). tok.Sign sign.OpenParen ∷ x) (one.spelled ∙ ap (λ (x : List Tok). expression value x) close);
        well = one.well;
        placed = subst (λ (x : List Tok). IsPlaced parts.total value x) close one.placed;
        shorter = omega (arith, ap length opened, one.shorter, ap length close);
      }))))

  -- an expression that may be missing, and a sign
  part_sound : (end : Sign) → IsSound parts.total (part_before parts end) (λ value rest. spell.part value (tok.Sign end ∷ rest)) IsOptional
      (λ value rest. IsPartPlaced parts.total value (tok.Sign end ∷ rest))
  unfolding part_before
  part_sound end ts part rest fits e =
      let R = IsFound (λ value rest. spell.part value (tok.Sign end ∷ rest)) IsOptional (λ value rest. IsPartPlaced parts.total value (tok.Sign end ∷ rest)) ts in
      by_test (begins end ts) (Some (None, behind ts))
      (and_then (parts.value assignment_level ts) (λ value ts. and_then (after end ts) (λ _ ts. Some (Some value, ts)))) (part, rest) (R part rest) e
      (λ is e.
      let close = sign_next end ts is in
      moved R None part (behind ts) rest e
      (record { spelled = close; well = λ x e. absurd cc; placed = tt; shorter = omega (arith, ap length close) }))
      (λ is e.
      step (parts.value assignment_level ts) (λ value ts. and_then (after end ts) (λ _ ts. Some (Some value, ts))) part rest (R part rest) e
      (λ value mid read_value e.
      step (after end mid) (λ _ ts. Some (Some value, ts)) part rest (R part rest) e
      (λ u left read_close e.
      let one = known.value ts value mid fits read_value in
      let close = after_some end mid u left read_close in
      moved R (Some value) part left rest e
      (record {
        spelled = one.spelled ∙ ap (λ (x : List Tok). expression value x) close;
        well = one_some value one.well;
        placed = subst (λ (x : List Tok). IsPlaced parts.total value x) close one.placed;
        shorter = omega (arith, one.shorter, ap length close);
      }))))

  -- an expression and `;`
  evaluation_sound : (ts : List Tok) (s : Stmt) (rest : List Tok) → length ts ≤ parts.total → evaluation parts ts ≡ Some (s, rest) → Found parts.total ts s rest
  unfolding evaluation
  evaluation_sound ts s rest fits e =
      step (parts.value assignment_level ts) (λ value ts. and_then (after sign.Semi ts) (λ _ ts. Some (stmt.Expr value, ts))) s rest (Found parts.total ts s rest) e
      (λ value mid read_value e.
      step (after sign.Semi mid) (λ _ ts. Some (stmt.Expr value, ts)) s rest (Found parts.total ts s rest) e
      (λ u left read_close e.
      let one = known.value ts value mid fits read_value in
      let close = after_some sign.Semi mid u left read_close in
      moved (Found parts.total ts) (stmt.Expr value) s left rest e
      (record {
        spelled = one.spelled ∙ ap (λ (x : List Tok). expression value x) close;
        well = one.well;
        placed = (subst (λ (x : List Tok). IsPlaced parts.total value x) close one.placed, λ takes. absurd cc);
        shorter = omega (arith, one.shorter, ap length close);
      })))

  -- the place of what begins here
  here : (ts whole : List Tok) → length ts ≤ parts.total → ts ≡ whole → IsAt parts.total (parts.total - length ts) whole
  here ts whole fits same = omega (arith, ap length same)

  -- statements in which no other nests
  jump_sound : (ts : List Tok) (s : Stmt) (rest : List Tok) → length ts ≤ parts.total → jump parts ts ≡ Some (s, rest) → Found parts.total ts s rest
  unfolding jump
  jump_sound ts s rest fits e =
      let at = parts.total - length ts in
      let third = if begins_word word.Return ts
      then and_then (part_before parts sign.Semi (behind ts)) (λ value rest. stmt_read (stmt.Return value at) rest) else evaluation parts ts in
      let second = if begins_word word.Continue ts
      then and_then (after sign.Semi (behind ts)) (λ _ rest. stmt_read (stmt.Continue at) rest) else third in
      by_test (begins_word word.Break ts) (and_then (after sign.Semi (behind ts)) (λ _ rest. Some (stmt.Break at, rest))) second (s, rest) (Found parts.total ts s rest) e
      (λ is e. step (after sign.Semi (behind ts)) (λ _ rest. Some (stmt.Break at, rest)) s rest (Found parts.total ts s rest) e
      (λ u left read_close e.
      let same = word_next word.Break ts is ∙ ap (λ (x : List Tok). tok.Word word.Break ∷ x) (after_some sign.Semi (behind ts) u left read_close) in
      moved (Found parts.total ts) (stmt.Break at) s left rest e
      (record { spelled = same; well = tt; placed = (here ts _ fits same, λ takes. absurd cc); shorter = omega (arith, ap length same) })))
      (λ is e. by_test (begins_word word.Continue ts) (and_then (after sign.Semi (behind ts)) (λ _ rest. Some (stmt.Continue at, rest))) third (s, rest) (Found parts.total ts s rest) e
      (λ is e. step (after sign.Semi (behind ts)) (λ _ rest. Some (stmt.Continue at, rest)) s rest (Found parts.total ts s rest) e
      (λ u left read_close e.
      let same = word_next word.Continue ts is ∙ ap (λ (x : List Tok). tok.Word word.Continue ∷ x) (after_some sign.Semi (behind ts) u left read_close) in
      moved (Found parts.total ts) (stmt.Continue at) s left rest e
      (record { spelled = same; well = tt; placed = (here ts _ fits same, λ takes. absurd cc); shorter = omega (arith, ap length same) })))
      (λ is e. by_test (begins_word word.Return ts) (and_then (part_before parts sign.Semi (behind ts)) (λ value rest. Some (stmt.Return value at, rest))) (evaluation parts ts) (s, rest)
      (Found parts.total ts s rest) e
      (λ is e. step (part_before parts sign.Semi (behind ts)) (λ value rest. Some (stmt.Return value at, rest)) s rest (Found parts.total ts s rest) e
      (λ value left read_part e.
      let first = word_next word.Return ts is in
      let one = part_sound sign.Semi (behind ts) value left (omega (arith, ap length first)) read_part in
      let same = first ∙ ap (λ (x : List Tok). tok.Word word.Return ∷ x) one.spelled in
      moved (Found parts.total ts) (stmt.Return value at) s left rest e
      (record { spelled = same; well = one.well; placed = ((here ts _ fits same, one.placed), λ takes. absurd cc); shorter = omega (arith, ap length first, one.shorter) })))
      (λ is e. evaluation_sound ts s rest fits e)))

  -- a label
  label_sound : IsSound parts.total (label parts) spell.label IsLabel (IsLabelPlaced parts.total)
  unfolding label
  label_sound ts one rest fits e =
      let at = parts.total - length ts in
      let R = IsFound spell.label IsLabel (IsLabelPlaced parts.total) ts in
      by_test (begins_word word.Case ts)
      (and_then (parts.value choice_level (behind ts)) (λ value rest. and_then (after sign.Colon rest) (λ _ rest. label_given (record { value = Some value; at = at }) rest)))
      (and_then (after_word word.Default ts) (λ _ rest. and_then (after sign.Colon rest) (λ _ rest. label_given (record { value = None; at = at }) rest))) (one, rest) (R one rest) e
      (λ is e. step (parts.value choice_level (behind ts)) (λ value rest. and_then (after sign.Colon rest) (λ _ rest. label_given (record { value = Some value; at = at }) rest)) one rest (R one rest) e
      (λ value mid read_value e.
      step (after sign.Colon mid) (λ _ rest. label_given (record { value = Some value; at = at }) rest) one rest (R one rest) e
      (λ u left read_close e.
      let first = word_next word.Case ts is in
      let a = known.constant (behind ts) value mid (omega (arith, ap length first)) read_value in
      let close = after_some sign.Colon mid u left read_close in
      let same = first ∙ ap (λ (x : List Tok). tok.Word word.Case ∷ x) (a.spelled ∙ ap (λ (x : List Tok). expression value x) close) in
      moved R (record { value = Some value; at = at }) one left rest e
      (record {
        spelled = same;
        well = one_value value a.well;
        placed = (here ts _ fits same, subst (λ (x : List Tok). IsPlaced parts.total value x) close a.placed);
        shorter = omega (arith, ap length first, a.shorter, ap length close);
      }))))
      (λ is e. step (after_word word.Default ts) (λ _ rest. and_then (after sign.Colon rest) (λ _ rest. label_given (record { value = None; at = at }) rest)) one rest (R one rest) e
      (λ v mid read_word e.
      step (after sign.Colon mid) (λ _ rest. label_given (record { value = None; at = at }) rest) one rest (R one rest) e
      (λ u left read_close e.
      let same = after_word_some word.Default ts v mid read_word ∙ ap (λ (x : List Tok). tok.Word word.Default ∷ x) (after_some sign.Colon mid u left read_close) in
      moved R (record { value = None; at = at }) one left rest e
      (record { spelled = same; well = λ x e. absurd cc; placed = (here ts _ fits same, tt); shorter = omega (arith, ap length same) }))))

  -- labels, at least one
  labels_sound : (ts : List Tok) (all : List Label) (rest : List Tok) → length ts ≤ parts.total → labels parts ts ≡ Some (all, rest)
      → LabelsFound parts.total ts all rest
  unfolding labels
  labels_sound ts all rest fits e =
      step (label parts ts) (λ first rest. until (λ ts. not (begins_label ts)) (label parts) (length ts) (first ∷ []) rest) all rest (LabelsFound parts.total ts all rest) e
      (λ first left read_first e.
      let a = label_sound ts first left fits read_first in
      let read = until_read (λ ts. not (begins_label ts)) (label parts) (length ts) (first ∷ []) left all rest e in
      let b = all_found parts.total (λ ts. not (begins_label ts)) (label parts) spell.label IsLabel (IsLabelPlaced parts.total) label_sound read.0 left rest (omega (arith, a.shorter)) read.2 in
      subst (λ (x : List Label). LabelsFound parts.total ts x rest) (sym read.1)
      (record {
        spelled = a.spelled ∙ ap (λ (x : List Tok). spell.label first x) b.spelled;
        well = ((λ none. absurd cc), All-cons IsLabel first read.0 a.well b.well);
        placed = (subst (λ (x : List Tok). IsLabelPlaced parts.total first x) b.spelled a.placed, b.placed);
        over = not_not (begins_label rest) b.over;
        shorter = omega (arith, a.shorter, b.shorter);
      }))

  -- Statements in which others nest, read by a reader that is sound.
  module _ (inner : List Tok → Read Stmt) (sound : IsSound parts.total inner spell.statement IsStatement (Sits parts.total)) where
    while_sound : (ts : List Tok) (s : Stmt) (rest : List Tok) → length ts ≤ parts.total → while_loop parts inner ts ≡ Some (s, rest)
        → Found parts.total (tok.Word word.While ∷ ts) s rest
    unfolding while_loop
    while_sound ts s rest fits e =
        let R = Found parts.total (tok.Word word.While ∷ ts) in
        step (enclosed parts ts) (λ test ts. and_then (inner ts) (λ body ts. Some (stmt.While test body, ts))) s rest (R s rest) e
        (λ test mid read_test e.
        step (inner mid) (λ body ts. Some (stmt.While test body, ts)) s rest (R s rest) e
        (λ body left read_body e.
        let one = enclosed_sound ts test mid fits read_test in
        let two = sound mid body left (omega (arith, one.shorter)) read_body in
        moved R (form.While test body) s left rest (ap (λ (s : Stmt). stmt_read s left) (sym (while_form test body)) ∙ e)
        (record {
          spelled = ap (λ (x : List Tok). tok.Word word.While ∷ x)
              (one.spelled ∙ ap (λ (x : List Tok). tok.Sign sign.OpenParen ∷ expression test (tok.Sign sign.CloseParen ∷ x)) two.spelled);
          well = (one.well, two.well);
          placed = ((subst (λ (x : List Tok). IsPlaced parts.total test (tok.Sign sign.CloseParen ∷ x)) two.spelled one.placed, two.placed.0), two.placed.1);
          shorter = omega (arith, one.shorter, two.shorter);
        })))

    do_sound : (ts : List Tok) (s : Stmt) (rest : List Tok) → length ts ≤ parts.total → do_loop parts inner ts ≡ Some (s, rest)
        → Found parts.total (tok.Word word.Do ∷ ts) s rest
    unfolding do_loop
    do_sound ts s rest fits e =
        let R = Found parts.total (tok.Word word.Do ∷ ts) in
        step (inner ts) (λ body ts. and_then (after_word word.While ts) (λ _ ts. and_then (enclosed parts ts) (λ test ts. and_then (after sign.Semi ts) (λ _ ts. Some (stmt.Do body test, ts))))) s rest (R s rest) e
        (λ body mid read_body e.
        step (after_word word.While mid) (λ _ ts. and_then (enclosed parts ts) (λ test ts. and_then (after sign.Semi ts) (λ _ ts. Some (stmt.Do body test, ts)))) s rest (R s rest) e
        (λ u inside read_word e.
        step (enclosed parts inside) (λ test ts. and_then (after sign.Semi ts) (λ _ ts. Some (stmt.Do body test, ts))) s rest (R s rest) e
        (λ test end read_test e.
        step (after sign.Semi end) (λ _ ts. Some (stmt.Do body test, ts)) s rest (R s rest) e
        (λ v left read_close e.
        let one = sound ts body mid fits read_body in
        let while = after_word_some word.While mid u inside read_word in
        let two = enclosed_sound inside test end (omega (arith, one.shorter, ap length while)) read_test in
        let close = after_some sign.Semi end v left read_close in
        let tail = while ∙ ap (λ (x : List Tok). tok.Word word.While ∷ x)
        (two.spelled ∙ ap (λ (x : List Tok). tok.Sign sign.OpenParen ∷ expression test (tok.Sign sign.CloseParen ∷ x)) close) in
        moved R (form.Do body test) s left rest (ap (λ (s : Stmt). stmt_read s left) (sym (do_form body test)) ∙ e)
        (record {
          spelled = ap (λ (x : List Tok). tok.Word word.Do ∷ x) (one.spelled ∙ ap (λ (x : List Tok). spell.statement body x) tail);
          well = (one.well, two.well);
          placed = (
            (
              subst (λ (x : List Tok). IsStatementPlaced parts.total body x) tail one.placed.0,
              subst (λ (x : List Tok). IsPlaced parts.total test (tok.Sign sign.CloseParen ∷ x)) close two.placed,
            ),
            λ takes. absurd cc,
          );
          shorter = omega (arith, one.shorter, ap length while, two.shorter, ap length close);
        })))))

    for_sound : (ts : List Tok) (s : Stmt) (rest : List Tok) → length ts ≤ parts.total → for_loop parts inner ts ≡ Some (s, rest)
        → Found parts.total (tok.Word word.For ∷ ts) s rest
    unfolding for_loop
    for_sound ts s rest fits e =
        let R = Found parts.total (tok.Word word.For ∷ ts) in
        step (after sign.OpenParen ts) (λ _ ts. and_then (part_before parts sign.Semi ts) (λ init ts. and_then (part_before parts sign.Semi ts) (λ test ts.
        and_then (part_before parts sign.CloseParen ts) (λ step ts. and_then (inner ts) (λ body ts. Some (stmt.For init test step body, ts)))))) s rest (R s rest) e
        (λ u first read_open e.
        step (part_before parts sign.Semi first) (λ init ts. and_then (part_before parts sign.Semi ts) (λ test ts.
        and_then (part_before parts sign.CloseParen ts) (λ step ts. and_then (inner ts) (λ body ts. Some (stmt.For init test step body, ts))))) s rest (R s rest) e
        (λ init second read_init e.
        step (part_before parts sign.Semi second) (λ test ts.
        and_then (part_before parts sign.CloseParen ts) (λ step ts. and_then (inner ts) (λ body ts. Some (stmt.For init test step body, ts)))) s rest (R s rest) e
        (λ test third read_test e.
        step (part_before parts sign.CloseParen third) (λ step ts. and_then (inner ts) (λ body ts. Some (stmt.For init test step body, ts))) s rest (R s rest) e
        (λ last fourth read_step e.
        step (inner fourth) (λ body ts. Some (stmt.For init test last body, ts)) s rest (R s rest) e
        (λ body left read_body e.
        let opened = after_some sign.OpenParen ts u first read_open in
        let a = part_sound sign.Semi first init second (omega (arith, ap length opened)) read_init in
        let b = part_sound sign.Semi second test third (omega (arith, ap length opened, a.shorter)) read_test in
        let c = part_sound sign.CloseParen third last fourth (omega (arith, ap length opened, a.shorter, b.shorter)) read_step in
        let d = sound fourth body left (omega (arith, ap length opened, a.shorter, b.shorter, c.shorter)) read_body in
        let third_is = c.spelled ∙ ap (λ (x : List Tok). spell.part last (tok.Sign sign.CloseParen ∷ x)) d.spelled in
        let second_is = b.spelled ∙ ap (λ (x : List Tok). spell.part test (tok.Sign sign.Semi ∷ x)) third_is in
        moved R (form.For init test last body) s left rest (ap (λ (s : Stmt). stmt_read s left) (sym (for_form init test last body)) ∙ e)
        (record {
          spelled = ap (λ (x : List Tok). tok.Word word.For ∷ x) (opened ∙ ap (λ (x : List Tok). tok.Sign sign.OpenParen ∷ x)
              (a.spelled ∙ ap (λ (x : List Tok). spell.part init (tok.Sign sign.Semi ∷ x)) second_is));
          well = (a.well, b.well, c.well, d.well);
          placed = (
            (
              subst (λ (x : List Tok). IsPartPlaced parts.total init (tok.Sign sign.Semi ∷ x)) second_is a.placed,
              subst (λ (x : List Tok). IsPartPlaced parts.total test (tok.Sign sign.Semi ∷ x)) third_is b.placed,
              subst (λ (x : List Tok). IsPartPlaced parts.total last (tok.Sign sign.CloseParen ∷ x)) d.spelled c.placed,
              d.placed.0,
            ),
            d.placed.1,
          );
          shorter = omega (arith, ap length opened, a.shorter, b.shorter, c.shorter, d.shorter);
        }))))))

    -- declarations and statements
    body_part_sound : IsSound parts.total (body_part parts inner) spell.statement IsBodyPart (IsStatementPlaced parts.total)
    unfolding body_part
    body_part_sound ts s rest fits e =
        let R = IsFound spell.statement IsBodyPart (IsStatementPlaced parts.total) ts in
        by_test (begins_declaration ts) (and_then (parts.declared ts) (λ declared ts. Some (stmt.Decl declared, ts))) (inner ts) (s, rest) (R s rest) e
        (λ is e. step (parts.declared ts) (λ declared ts. Some (stmt.Decl declared, ts)) s rest (R s rest) e
        (λ declared left read e.
        let one = known.declared ts declared left fits read in
        moved R (stmt.Decl declared) s left rest e (record { spelled = one.spelled; well = one.well; placed = one.placed; shorter = one.shorter })))
        (λ is e.
        let one = sound ts s rest fits e in
        record { spelled = one.spelled; well = is_part s one.well; placed = one.placed.0; shorter = one.shorter })

    body_sound : (ts : List Tok) (found : List Stmt) (rest : List Tok) → length ts ≤ parts.total → body parts inner ts ≡ Some (found, rest)
        → AreFound ends_body spell.statement IsBodyPart (IsStatementPlaced parts.total) ts found rest
    unfolding body
    body_sound ts found rest fits e =
        let read = until_read ends_body (body_part parts inner) (length ts) [] ts found rest e in
        subst (λ (all : List Stmt). AreFound ends_body spell.statement IsBodyPart (IsStatementPlaced parts.total) ts all rest) (sym read.1)
        (all_found parts.total ends_body (body_part parts inner) spell.statement IsBodyPart (IsStatementPlaced parts.total) body_part_sound read.0 ts rest fits read.2)

    -- behind an opening brace
    pub block_sound : IsSound parts.total (block parts inner) (λ found rest. each spell.statement found (tok.Sign sign.CloseBrace ∷ rest)) (All IsBodyPart)
        (λ found rest. EachPlaced spell.statement (IsStatementPlaced parts.total) found (tok.Sign sign.CloseBrace ∷ rest))
    unfolding block
    block_sound ts found rest fits e =
        let R = IsFound (λ found rest. each spell.statement found (tok.Sign sign.CloseBrace ∷ rest)) (All IsBodyPart)
        (λ found rest. EachPlaced spell.statement (IsStatementPlaced parts.total) found (tok.Sign sign.CloseBrace ∷ rest)) ts in
        step (body parts inner ts) (λ found ts. and_then (after sign.CloseBrace ts) (λ _ ts. Some (found, ts))) found rest (R found rest) e
        (λ all mid read_body e.
        step (after sign.CloseBrace mid) (λ _ ts. Some (all, ts)) found rest (R found rest) e
        (λ u left read_close e.
        let one = body_sound ts all mid fits read_body in
        let close = after_some sign.CloseBrace mid u left read_close in
        moved R all found left rest e
        (record {
          spelled = one.spelled ∙ ap (λ (x : List Tok). each spell.statement all x) close;
          well = one.well;
          placed = subst (λ (x : List Tok). EachPlaced spell.statement (IsStatementPlaced parts.total) all x) close one.placed;
          shorter = omega (arith, one.shorter, ap length close);
        })))

    -- one arm, behind its `if`
    arm_sound : IsSound parts.total (arm parts inner) arm_tokens (λ one. IsExpression one.test × IsStatement one.body)
        (λ one rest. IsPlaced parts.total one.test (tok.Sign sign.CloseParen ∷ spell.statement one.body rest) × Sits parts.total one.body rest)
    unfolding arm
    arm_sound ts one rest fits e =
        let R = IsFound arm_tokens (λ one. IsExpression one.test × IsStatement one.body)
        (λ one rest. IsPlaced parts.total one.test (tok.Sign sign.CloseParen ∷ spell.statement one.body rest) × Sits parts.total one.body rest) ts in
        step (enclosed parts ts) (λ test ts. and_then (inner ts) (λ body ts. Some (record { test = test; body = body }, ts))) one rest (R one rest) e
        (λ test mid read_test e.
        step (inner mid) (λ body ts. Some (record { test = test; body = body }, ts)) one rest (R one rest) e
        (λ body left read_body e.
        let a = enclosed_sound ts test mid fits read_test in
        let b = sound mid body left (omega (arith, a.shorter)) read_body in
        moved R (record { test = test; body = body }) one left rest e
        (record {
          spelled = a.spelled ∙ ap (λ (x : List Tok). tok.Sign sign.OpenParen ∷ expression test (tok.Sign sign.CloseParen ∷ x)) b.spelled;
          well = (a.well, b.well);
          placed = (subst (λ (x : List Tok). IsPlaced parts.total test (tok.Sign sign.CloseParen ∷ x)) b.spelled a.placed, b.placed);
          shorter = omega (arith, a.shorter, b.shorter);
        })))

    -- arms and what stands behind a last `else`, read behind those that were found
    record Arms (found : List Arm) (ts : List Tok) (s : Stmt) (rest : List Tok) : Type 0 where
      first : Arm
      others : List Arm
      other : Option Stmt
      made : s ≡ stmt.If (found ++ first ∷ others) other
      spelled : ts ≡ arm_tokens first (further_tokens others (other_tokens other rest))
      stand : ArmsStand parts.total (first ∷ others) other (other_tokens other rest)
      other_stands : OtherStands parts.total other rest
      follows : takes_of other ≡ true → begins_word word.Else rest ≡ false
      shorter : length rest ≤ length ts

    abbrev ArmFound : List Tok → Arm → List Tok → Type 0
    ArmFound ts one mid = IsFound arm_tokens (λ one. IsExpression one.test × IsStatement one.body)
        (λ one rest. IsPlaced parts.total one.test (tok.Sign sign.CloseParen ∷ spell.statement one.body rest) × Sits parts.total one.body rest) ts one mid

    arms_end : (found : List Arm) (ts : List Tok) (one : Arm) (mid : List Tok) (s : Stmt) (rest : List Tok) → ArmFound ts one mid → begins_word word.Else mid ≡ false
        → stmt_read (stmt.If (found ++ one ∷ []) None) mid ≡ Some (s, rest) → Arms found ts s rest
    arms_end found ts one mid s rest arm is e =
        moved (Arms found ts) (stmt.If (found ++ one ∷ []) None) s mid rest e
        (record {
          first = one;
          others = [];
          other = None;
          made = refl;
          spelled = arm.spelled;
          stand = (arm.well.0, arm.well.1, tt, arm.placed.0, arm.placed.1.0);
          other_stands = tt;
          follows = λ takes. is;
          shorter = arm.shorter;
        })

    -- the body before an `else` does not take it
    closed_before : (one : Arm) (mid : List Tok) → Follows one.body mid → begins_word word.Else mid ≡ true → takes_else one.body ≡ false
    closed_before one mid follows is = not_true (takes_else one.body) (λ takes. let none = follows takes in cc)

    arms_else : (found : List Arm) (ts : List Tok) (one : Arm) (mid : List Tok) (other : Stmt) (rest : List Tok) → ArmFound ts one mid
        → begins_word word.Else mid ≡ true → begins_word word.If (behind mid) ≡ false → Found parts.total (behind mid) other rest
        → Arms found ts (stmt.If (found ++ one ∷ []) (Some other)) rest
    arms_else found ts one mid other rest arm is no_if last =
        let same = word_next word.Else mid is ∙ ap (λ (x : List Tok). tok.Word word.Else ∷ x) last.spelled in
        record {
          first = one;
          others = [];
          other = Some other;
          made = refl;
          spelled = arm.spelled ∙ ap (λ (x : List Tok). arm_tokens one x) same;
          stand = (
            arm.well.0,
            arm.well.1,
            closed_before one mid arm.placed.1.1 is,
            subst (λ (x : List Tok). IsPlaced parts.total one.test (tok.Sign sign.CloseParen ∷ spell.statement one.body x)) same arm.placed.0,
            subst (λ (x : List Tok). IsStatementPlaced parts.total one.body x) same arm.placed.1.0,
          );
          other_stands = (last.well, if_begins other rest last.well (ap (begins_word word.If) (sym last.spelled) ∙ no_if), last.placed.0);
          follows = last.placed.1;
          shorter = omega (arith, arm.shorter, last.shorter, ap length (word_next word.Else mid is));
        }

    arms_more : (found : List Arm) (ts : List Tok) (one : Arm) (mid : List Tok) (s : Stmt) (rest : List Tok) → ArmFound ts one mid
        → begins_word word.Else mid ≡ true → begins_word word.If (behind mid) ≡ true → Arms (found ++ one ∷ []) (behind (behind mid)) s rest
        → Arms found ts s rest
    arms_more found ts one mid s rest arm is if_next more =
        let left = arm_tokens more.first (further_tokens more.others (other_tokens more.other rest)) in
        let twice = word_next word.Else mid is ∙ ap (λ (x : List Tok). tok.Word word.Else ∷ x) (word_next word.If (behind mid) if_next) in
        let same = twice ∙ ap (λ (x : List Tok). tok.Word word.Else ∷ tok.Word word.If ∷ x) more.spelled in
        record {
          first = one;
          others = more.first ∷ more.others;
          other = more.other;
          made = more.made ∙ ap (λ (arms : List Arm). stmt.If arms more.other) (append_assoc found (one ∷ []) (more.first ∷ more.others));
          spelled = arm.spelled ∙ ap (λ (x : List Tok). arm_tokens one x) same;
          stand = (
            arm.well.0,
            arm.well.1,
            closed_before one mid arm.placed.1.1 is,
            subst (λ (x : List Tok). IsPlaced parts.total one.test (tok.Sign sign.CloseParen ∷ spell.statement one.body x)) same arm.placed.0,
            subst (λ (x : List Tok). IsStatementPlaced parts.total one.body x) same arm.placed.1.0,
            more.stand,
          );
          other_stands = more.other_stands;
          follows = more.follows;
          shorter = omega (arith, arm.shorter, more.shorter, ap length twice);
        }

    arms_sound : (n : ℕ) (found : List Arm) (ts : List Tok) (s : Stmt) (rest : List Tok) → length ts ≤ parts.total
        → arms_from parts inner n found ts ≡ Some (s, rest) → Arms found ts s rest
    unfolding arms_from
    arms_sound zero found ts s rest fits e = absurd cc
    arms_sound (suc n) found ts s rest fits e =
        step (arm parts inner ts) (λ one ts. next_arm inner (arms_from parts inner n (found ++ one ∷ [])) (found ++ one ∷ []) ts) s rest (Arms found ts s rest) e
        (λ one mid read e.
        let first = arm_sound ts one mid fits read in
        let again = arms_from parts inner n (found ++ one ∷ []) in
        let last = and_then (inner (behind mid)) (λ other ts. stmt_read (stmt.If (found ++ one ∷ []) (Some other)) ts) in
        by_test (begins_word word.Else mid) (if begins_word word.If (behind mid) then again (behind (behind mid)) else last) (stmt_read (stmt.If (found ++ one ∷ []) None) mid)
        (s, rest) (Arms found ts s rest) e
        (λ is e.
        let one_less = ap length (word_next word.Else mid is) in
        by_test (begins_word word.If (behind mid)) (again (behind (behind mid))) last (s, rest) (Arms found ts s rest) e
        (λ if_next e. arms_more found ts one mid s rest first is if_next
        (arms_sound n (found ++ one ∷ []) (behind (behind mid)) s rest (omega (arith, first.shorter, one_less, ap length (word_next word.If (behind mid) if_next))) e))
        (λ no_if e.
        step (inner (behind mid)) (λ other ts. Some (stmt.If (found ++ one ∷ []) (Some other), ts)) s rest (Arms found ts s rest) e
        (λ other left read_other e.
        moved (Arms found ts) (stmt.If (found ++ one ∷ []) (Some other)) s left rest e
        (arms_else found ts one mid other left first is no_if (sound (behind mid) other left (omega (arith, first.shorter, one_less)) read_other)))))
        (λ is e. arms_end found ts one mid s rest first is e))

    -- behind an `if`
    choice_sound : (ts : List Tok) (s : Stmt) (rest : List Tok) → length ts ≤ parts.total → choice parts inner ts ≡ Some (s, rest)
        → Found parts.total (tok.Word word.If ∷ ts) s rest
    unfolding choice
    choice_sound ts s rest fits e =
        let arms = arms_sound (length ts) [] ts s rest fits e in
        let whole = chosen parts.total (arms.first ∷ arms.others) arms.other rest arms.stand arms.other_stands in
        subst (λ (s : Stmt). Found parts.total (tok.Word word.If ∷ ts) s rest) (sym arms.made)
        (record {
          spelled = ap (λ (x : List Tok). tok.Word word.If ∷ x) arms.spelled ∙ sym whole.spelled;
          well = whole.well;
          placed = (whole.placed, λ takes. arms.follows (sym whole.takes ∙ takes));
          shorter = omega (arith, arms.shorter);
        })

    -- a group of a `switch`
    group_sound : (ts : List Tok) (one : Group) (rest : List Tok) → length ts ≤ parts.total → group parts inner ts ≡ Some (one, rest)
        → GroupFound parts.total ts one rest
    unfolding group
    group_sound ts one rest fits e =
        step (labels parts ts) (λ labels ts. and_then (body parts inner ts) (λ body ts. Some (record { labels = labels; body = body }, ts))) one rest (GroupFound parts.total ts one rest) e
        (λ all mid read_labels e.
        step (body parts inner mid) (λ body ts. Some (record { labels = all; body = body }, ts)) one rest (GroupFound parts.total ts one rest) e
        (λ inside left read_body e.
        let a = labels_sound ts all mid fits read_labels in
        let b = body_sound mid inside left (omega (arith, a.shorter)) read_body in
        moved (GroupFound parts.total ts) (record { labels = all; body = inside }) one left rest e
        (record {
          spelled = a.spelled ∙ ap (λ (x : List Tok). each spell.label all x) b.spelled;
          stands = record {
            labels = a.well;
            body = b.well;
            labels_placed = subst (λ (x : List Tok). EachPlaced spell.label (IsLabelPlaced parts.total) all x) b.spelled a.placed;
            body_placed = b.placed;
          };
          last = λ none. body_last mid inside left a.over b.over b.spelled none;
          shorter = omega (arith, a.shorter, b.shorter);
        })))

    -- groups, up to the closing brace
    record Groups (ts : List Tok) (all : List Group) (rest : List Tok) : Type 0 where
      spelled : ts ≡ each group_tokens all rest
      stand : GroupsStand parts.total all rest
      shorter : length rest ≤ length ts

    groups_found : (all : List Group) (ts rest : List Tok) → length ts ≤ parts.total → WasRead (begins sign.CloseBrace) (group parts inner) all ts rest → Groups ts all rest
    groups_found [] ts rest fits read = record { spelled = read.0; stand = tt; shorter = omega (arith, ap length read.0) }
    groups_found (one ∷ []) ts rest fits read =
        let first = group_sound ts one read.0 fits read.2 in
        record {
          spelled = first.spelled ∙ ap (λ (x : List Tok). group_tokens one x) read.3.0;
          stand = subst (λ (x : List Tok). GroupStands parts.total one x) read.3.0 first.stands;
          shorter = omega (arith, first.shorter, ap length read.3.0);
        }
    groups_found (one ∷ two ∷ others) ts rest fits read =
        let first = group_sound ts one read.0 fits read.2 in
        let more = groups_found (two ∷ others) read.0 rest (omega (arith, first.shorter)) read.3 in
        record {
          spelled = first.spelled ∙ ap (λ (x : List Tok). group_tokens one x) more.spelled;
          stand = (subst (λ (x : List Tok). GroupStands parts.total one x) more.spelled first.stands, (λ none. let over = first.last none in let not_over = read.3.1 in cc), more.stand);
          shorter = omega (arith, first.shorter, more.shorter);
        }

    -- behind a `switch`
    switch_sound : (ts : List Tok) (s : Stmt) (rest : List Tok) → length ts ≤ parts.total → switch parts inner ts ≡ Some (s, rest)
        → Found parts.total (tok.Word word.Switch ∷ ts) s rest
    unfolding switch groups
    switch_sound ts s rest fits e =
        let R = Found parts.total (tok.Word word.Switch ∷ ts) in
        step (enclosed parts ts) (λ on ts. and_then (after sign.OpenBrace ts) (λ _ ts. and_then (groups parts inner ts) (λ groups ts. and_then (after sign.CloseBrace ts) (λ _ ts.
        Some (stmt.Switch on groups, ts))))) s rest (R s rest) e
        (λ on mid read_on e.
        step (after sign.OpenBrace mid) (λ _ ts. and_then (groups parts inner ts) (λ groups ts. and_then (after sign.CloseBrace ts) (λ _ ts. Some (stmt.Switch on groups, ts)))) s rest (R s rest) e
        (λ u inside read_open e.
        step (groups parts inner inside) (λ groups ts. and_then (after sign.CloseBrace ts) (λ _ ts. Some (stmt.Switch on groups, ts))) s rest (R s rest) e
        (λ all end read_groups e.
        step (after sign.CloseBrace end) (λ _ ts. Some (stmt.Switch on all, ts)) s rest (R s rest) e
        (λ v left read_close e.
        let a = enclosed_sound ts on mid fits read_on in
        let opened = after_some sign.OpenBrace mid u inside read_open in
        let close = after_some sign.CloseBrace end v left read_close in
        let read = until_read (begins sign.CloseBrace) (group parts inner) (length inside) [] inside all end read_groups in
        let found = groups_found read.0 inside end (omega (arith, a.shorter, ap length opened)) read.2 in
        let stand = subst (λ (x : List Tok). GroupsStand parts.total all x) close (subst (λ (x : List Group). GroupsStand parts.total x end) (sym read.1) found.stand) in
        let inside_is = found.spelled ∙ ap (λ (x : List Group). each group_tokens x end) (sym read.1) ∙ ap (λ (x : List Tok). each group_tokens all x) close in
        let mid_is = opened ∙ ap (λ (x : List Tok). tok.Sign sign.OpenBrace ∷ x) inside_is in
        let whole = switched parts.total on all left a.well (subst (λ (x : List Tok). IsPlaced parts.total on (tok.Sign sign.CloseParen ∷ x)) mid_is a.placed) stand in
        moved R (stmt.Switch on all) s left rest e
        (record {
          spelled = ap (λ (x : List Tok). tok.Word word.Switch ∷ x)
              (a.spelled ∙ ap (λ (x : List Tok). tok.Sign sign.OpenParen ∷ expression on (tok.Sign sign.CloseParen ∷ x)) mid_is) ∙ sym whole.spelled;
          well = whole.well;
          placed = (whole.placed, λ takes. absurd cc);
          shorter = omega (arith, a.shorter, ap length opened, found.shorter, ap length close);
        })))))

    -- a block
    block_statement : (ts : List Tok) (s : Stmt) (rest : List Tok) → length ts ≤ parts.total
        → and_then (block parts inner ts) (λ body ts. stmt_read (stmt.Block body) ts) ≡ Some (s, rest) → Found parts.total (tok.Sign sign.OpenBrace ∷ ts) s rest
    block_statement ts s rest fits e =
        let R = Found parts.total (tok.Sign sign.OpenBrace ∷ ts) in
        step (block parts inner ts) (λ body ts. Some (stmt.Block body, ts)) s rest (R s rest) e
        (λ all left read e.
        let one = block_sound ts all left fits read in
        let whole = blocked parts.total all left one.well one.placed in
        moved R (stmt.Block all) s left rest e
        (record {
          spelled = ap (λ (x : List Tok). tok.Sign sign.OpenBrace ∷ x) one.spelled ∙ sym whole.spelled;
          well = whole.well;
          placed = (whole.placed, λ takes. absurd cc);
          shorter = omega (arith, one.shorter);
        }))

    -- behind a word
    behind_word : (wanted : Word) (ts : List Tok) (s : Stmt) (rest : List Tok) → begins_word wanted ts ≡ true → Found parts.total (tok.Word wanted ∷ behind ts) s rest
        → Found parts.total ts s rest
    behind_word wanted ts s rest is found = subst (λ (x : List Tok). Found parts.total x s rest) (sym (word_next wanted ts is)) found

    loop_sound : (ts : List Tok) (s : Stmt) (rest : List Tok) → length ts ≤ parts.total → repeat parts inner ts ≡ Some (s, rest) → Found parts.total ts s rest
    unfolding repeat
    loop_sound ts s rest fits e =
        let third = if begins_word word.For ts then for_loop parts inner (behind ts) else jump parts ts in
        let second = if begins_word word.Do ts then do_loop parts inner (behind ts) else third in
        by_test (begins_word word.While ts) (while_loop parts inner (behind ts)) second (s, rest) (Found parts.total ts s rest) e
        (λ is e. behind_word word.While ts s rest is (while_sound (behind ts) s rest (omega (arith, ap length (word_next word.While ts is))) e))
        (λ is e. by_test (begins_word word.Do ts) (do_loop parts inner (behind ts)) third (s, rest) (Found parts.total ts s rest) e
        (λ is e. behind_word word.Do ts s rest is (do_sound (behind ts) s rest (omega (arith, ap length (word_next word.Do ts is))) e))
        (λ is e. by_test (begins_word word.For ts) (for_loop parts inner (behind ts)) (jump parts ts) (s, rest) (Found parts.total ts s rest) e
        (λ is e. behind_word word.For ts s rest is (for_sound (behind ts) s rest (omega (arith, ap length (word_next word.For ts is))) e))
        (λ is e. jump_sound ts s rest fits e)))

    statement_by_sound : (ts : List Tok) (s : Stmt) (rest : List Tok) → length ts ≤ parts.total → statement_by parts inner ts ≡ Some (s, rest) → Found parts.total ts s rest
    unfolding statement_by
    statement_by_sound ts s rest fits e =
        let R = Found parts.total ts s rest in
        let fourth = if begins_word word.Switch ts then switch parts inner (behind ts) else repeat parts inner ts in
        let third = if begins_word word.If ts then choice parts inner (behind ts) else fourth in
        let second = if begins sign.OpenBrace ts then and_then (block parts inner (behind ts)) (λ body ts. stmt_read (stmt.Block body) ts) else third in
        by_test (begins sign.Semi ts) (stmt_read stmt.Empty (behind ts)) second (s, rest) R e
        (λ is e. moved (Found parts.total ts) stmt.Empty s (behind ts) rest e
        (record { spelled = sign_next sign.Semi ts is; well = tt; placed = (tt, λ takes. absurd cc); shorter = omega (arith, ap length (sign_next sign.Semi ts is)) }))
        (λ is e. by_test (begins sign.OpenBrace ts) (and_then (block parts inner (behind ts)) (λ body ts. stmt_read (stmt.Block body) ts)) third (s, rest) R e
        (λ is e. subst (λ (x : List Tok). Found parts.total x s rest) (sym (sign_next sign.OpenBrace ts is))
        (block_statement (behind ts) s rest (omega (arith, ap length (sign_next sign.OpenBrace ts is))) e))
        (λ is e. by_test (begins_word word.If ts) (choice parts inner (behind ts)) fourth (s, rest) R e
        (λ is e. behind_word word.If ts s rest is (choice_sound (behind ts) s rest (omega (arith, ap length (word_next word.If ts is))) e))
        (λ is e. by_test (begins_word word.Switch ts) (switch parts inner (behind ts)) (repeat parts inner ts) (s, rest) R e
        (λ is e. behind_word word.Switch ts s rest is (switch_sound (behind ts) s rest (omega (arith, ap length (word_next word.Switch ts is))) e))
        (λ is e. loop_sound ts s rest fits e))))

  -- what is read as a statement is one
  pub statement_sound : (depth : ℕ) → IsSound parts.total (statement parts depth) spell.statement IsStatement (Sits parts.total)
  unfolding statement
  statement_sound zero ts s rest fits e = absurd cc
  statement_sound (suc depth) ts s rest fits e = statement_by_sound (statement parts depth) (statement_sound depth) ts s rest fits e
