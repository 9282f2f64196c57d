-- The goals of statements go the way of their readers.
use Rattle.std.proofs.Common.{◌≡◌, ℕ, zero, suc, ◌+◌, ◌≤◌, ◌<◌, Bool, true, false, not, if◌then◌else◌, List, [], ◌∷◌, ◌++◌, length, Option, Some, None, refl, sym, ap, ◌∙◌, arith}
use Rattle.std.specs.Prelude.{◌||◌}
use Rattle.std.proofs.lemmas.Bool.{or_parts, or_right, not-false}
use Rattle.capl_lexer.specs.declared.token.Tok.{Tok}
use Rattle.capl_lexer.specs.declared.token.Tok.TheVariants as tok
use Rattle.capl_lexer.specs.declared.token.Word.TheVariants as word
use Rattle.capl_lexer.specs.declared.token.Sign.{Sign}
use Rattle.capl_lexer.specs.declared.token.Sign.TheVariants as sign
use Rattle.capl_tree.specs.declared.expr.Expr.{Expr}
use Rattle.capl_tree.specs.declared.statement.Stmt.{Stmt}
use Rattle.capl_tree.specs.declared.statement.Stmt.TheVariants as stmt
use Rattle.capl_tree.specs.declared.statement.Arm.{Arm}
use Rattle.capl_tree.specs.declared.statement.Group.{Group}
use Rattle.capl_tree.specs.declared.statement.Label.{Label}
use Rattle.capl_tree.specs.Binding.{assignment_level}
use Rattle.expr_parser.specs.Reading.{Read, and_then, begins, begins_word, behind, after, after_word}
use Rattle.parser_laws.specs.Statement.{Parts, until, enclosed, part_before, begins_declaration, begins_label, ends_body, body_part, body, block, arm, next_arm, arms_from, choice, label, labels, group, groups, switch, while_loop, do_loop, for_loop, evaluation, jump, repeat, statement_by, statement}
use Rattle.parser_laws.proofs.Steps.{step, by_test, moved}
use Rattle.viable_prefixes.specs.declared.goal.Goal.{Goal}
use Rattle.viable_prefixes.specs.declared.goal.Goal.TheVariants as goal
use Rattle.viable_prefixes.specs.Inside.Token.{is_sign}
use Rattle.viable_prefixes.specs.Inside.Stack.{Stack}
use Rattle.viable_prefixes.specs.Inside.Expression.{declaration_from, expression_from}
use Rattle.viable_prefixes.specs.Inside.Statement as from
use Rattle.viable_prefixes.specs.Inside.Goals.{accepts, accepts_behind}
use Rattle.viable_prefixes.proofs.Follows.{AreFollowed, sign_first}
use Rattle.viable_prefixes.proofs.Together.{leads, leads_goes, leads_on, Goes, goes_then, read_here, gives, goes_behind, goes_least, sign_goes, word_goes, until_goes, until_less, none_left, braced}

-- `( TEST )`
abbrev enclosed_goals : List Goal
enclosed_goals = goal.Sign sign.OpenParen ∷ goal.Expression assignment_level ∷ goal.Sign sign.CloseParen ∷ []

-- whether a declaration begins is seen from the first token
declares_first : (t : Tok) (ts : List Tok) → begins_declaration (t ∷ ts) ≡ from.declares t
declares_first (tok.Word of) ts = refl
declares_first _ ts = refl

-- whether a label begins is seen from the first token
labels_first : (t : Tok) (ts : List Tok) → begins_label (t ∷ ts) ≡ from.labels t
labels_first (tok.Word of) ts = refl
labels_first _ ts = refl

-- no declaration and no statement begins with a label
no_part : (t : Tok) (stack : Stack) → from.labels t ≡ true → from.body_part_from t stack ≡ None
no_part (tok.Word word.Case) stack is = refl
no_part (tok.Word word.Default) stack is = refl
no_part _ stack is = absurd cc

-- where not the first of two tests holds, the other does
right_true : (a b : Bool) → (a || b) ≡ true → a ≡ false → b ≡ true
right_true true b is not = absurd cc
right_true false b is not = is

-- no label begins with a brace
no_brace : (t : Tok) (ts : List Tok) → begins_label (t ∷ ts) ≡ true → begins sign.CloseBrace (t ∷ ts) ≡ false
no_brace (tok.Word of) ts is = refl
no_brace _ ts is = absurd cc

abbrev made_group : List Label → List Stmt → Group
made_group labels body = record { labels = labels; body = body }

module _ (parts : Parts) (known : AreFollowed parts) where
  -- an expression
  value_goes : (level : ℕ) (ts : List Tok) → length ts ≤ parts.total → Goes (goal.Expression (suc level) ∷ []) (parts.value (suc level) ts) ts 1
  value_goes level ts fits = record {
    same = λ stack. known.value.same (suc level) ts stack fits ∙ leads_goes (parts.value (suc level) ts) stack;
    less = λ e rest is. omega (arith, known.value.less (suc level) ts e rest is);
  }

  -- `( TEST )`
  enclosed_goes : (ts : List Tok) → length ts ≤ parts.total → Goes enclosed_goals (enclosed parts ts) ts 3
  unfolding enclosed
  enclosed_goes ts fits =
      goes_then (sign_goes sign.OpenParen ts) (λ u ts less.
      goes_then (value_goes 0 ts (omega arith)) (λ test ts less.
      goes_then (sign_goes sign.CloseParen ts) (λ v ts less. gives test ts)))

  -- an expression and a sign
  value_before : {A : Type 0} (make : Expr → A) (end : Sign) (ts : List Tok) → length ts ≤ parts.total
      → Goes (goal.Expression assignment_level ∷ goal.Sign end ∷ [])
      (and_then (parts.value assignment_level ts) (λ value ts. and_then (after end ts) (λ _ ts. read_here (make value) ts))) ts 2
  value_before make end ts fits =
      goes_then (value_goes 0 ts fits) (λ value ts less.
      goes_then (sign_goes end ts) (λ u ts less. gives (make value) ts))

  -- where the sign stands there is no expression before it
  part_same : (end : Sign) (wanted test : Bool) (t : Tok) (ts : List Tok) (stack : Stack) → test ≡ wanted → length (t ∷ ts) ≤ parts.total
      → accepts_behind (if wanted then Some stack else expression_from assignment_level t (goal.Sign end ∷ stack)) ts
      ≡ leads (if test then read_here {A = Option Expr} None ts
      else and_then (parts.value assignment_level (t ∷ ts)) (λ value ts. and_then (after end ts) (λ _ ts. read_here (Some value) ts))) (accepts stack)
  part_same end true true t ts stack is fits = refl
  part_same end false false t ts stack is fits = (value_before Some end (t ∷ ts) fits).same stack
  part_same end _ _ t ts stack is fits = absurd cc

  -- an expression that may be missing, and a sign
  part_goes : (end : Sign) (ts : List Tok) → length ts ≤ parts.total → Goes (goal.Part end ∷ []) (part_before parts end ts) ts 1
  unfolding part_before
  part_goes end [] fits = record {
    same = λ stack. (value_before Some end [] fits).same stack;
    less = λ part rest e. let fewer = (value_before Some end [] fits).less part rest e in omega arith;
  }
  part_goes end (t ∷ ts) fits = record {
    same = λ stack. part_same end (is_sign end t) (begins end (t ∷ ts)) t ts stack (sign_first end t ts) fits;
    less = λ part rest e.
        by_test (begins end (t ∷ ts)) (Some (None, ts))
        (and_then (parts.value assignment_level (t ∷ ts)) (λ value ts. and_then (after end ts) (λ _ ts. read_here (Some value) ts))) (part, rest)
        (length rest + 1 ≤ length (t ∷ ts)) e
        (λ is e. let fewer = (gives {A = Option Expr} None ts).less part rest e in omega arith)
        (λ is e. let fewer = (value_before Some end (t ∷ ts) fits).less part rest e in omega arith);
  }

  -- an expression and `;`
  evaluation_goes : (ts : List Tok) → length ts ≤ parts.total → Goes (goal.Expression assignment_level ∷ goal.Sign sign.Semi ∷ []) (evaluation parts ts) ts 2
  unfolding evaluation
  evaluation_goes ts fits = value_before stmt.Expr sign.Semi ts fits

  -- the same where the goal of a statement comes
  evaluated : (ts : List Tok) → length ts ≤ parts.total
      → ((stack : Stack) → accepts (goal.Statement ∷ stack) ts ≡ accepts (goal.Expression assignment_level ∷ goal.Sign sign.Semi ∷ stack) ts)
      → Goes (goal.Statement ∷ []) (evaluation parts ts) ts 1
  evaluated ts fits same = record {
    same = λ stack. same stack ∙ (evaluation_goes ts fits).same stack;
    less = λ s rest e. let fewer = (evaluation_goes ts fits).less s rest e in omega arith;
  }

  -- a declaration as a statement
  declared_same : (t : Tok) (ts : List Tok) (stack : Stack) → length (t ∷ ts) ≤ parts.total
      → accepts_behind (declaration_from t stack) ts ≡ leads (and_then (parts.declared (t ∷ ts)) (λ declared ts. read_here (stmt.Decl declared) ts)) (accepts stack)
  declared_same t ts stack fits =
      known.declared_same t ts stack fits ∙ leads_goes (parts.declared (t ∷ ts)) stack
      ∙ leads_on (parts.declared (t ∷ ts)) (λ declared ts. read_here (stmt.Decl declared) ts) (accepts stack) (accepts stack) (λ declared rest e. refl)

  -- a label
  label_from_same : (t : Tok) (ts : List Tok) (stack : Stack) → length (t ∷ ts) ≤ parts.total
      → accepts_behind (from.label_from t stack) ts ≡ leads (label parts (t ∷ ts)) (accepts (goal.GroupBody ∷ stack))
  unfolding label after_word
  label_from_same (tok.Word word.Case) ts stack fits =
      (goes_then (value_goes 1 ts (omega arith)) (λ value ts less. goes_then (sign_goes sign.Colon ts) (λ u ts less. gives _ ts))).same (goal.GroupBody ∷ stack)
  label_from_same (tok.Word word.Default) ts stack fits = (goes_then (sign_goes sign.Colon ts) (λ u ts less. gives _ ts)).same (goal.GroupBody ∷ stack)
  label_from_same _ ts stack fits = refl

  label_less : (ts : List Tok) (l : Label) (rest : List Tok) → length ts ≤ parts.total → label parts ts ≡ Some (l, rest) → length rest < length ts
  unfolding label after_word
  label_less [] l rest fits e = absurd cc
  label_less (tok.Word word.Case ∷ ts) l rest fits e =
      let fewer = (goes_then (value_goes 1 ts (omega arith)) (λ value ts less. goes_then (sign_goes sign.Colon ts) (λ u ts less. gives _ ts))).less l rest e in omega arith
  label_less (tok.Word word.Default ∷ ts) l rest fits e =
      let fewer = (goes_then (sign_goes sign.Colon ts) (λ u ts less. gives _ ts)).less l rest e in omega arith
  label_less (_ ∷ ts) l rest fits e = absurd cc

  module _ (inner : List Tok → Read Stmt) (most : ℕ) (within : most < parts.total)
      (nests : (ts : List Tok) → length ts ≤ most → Goes (goal.Statement ∷ []) (inner ts) ts 1) where
    -- a declaration or a statement, from its first token on
    part_first : (declares test : Bool) (t : Tok) (ts : List Tok) (stack : Stack) → test ≡ declares → length (t ∷ ts) ≤ most
        → accepts_behind (if declares then declaration_from t stack else from.statement_from t stack) ts
        ≡ leads (if test then and_then (parts.declared (t ∷ ts)) (λ declared ts. read_here (stmt.Decl declared) ts) else inner (t ∷ ts)) (accepts stack)
    part_first true true t ts stack is fits = declared_same t ts stack (omega arith)
    part_first false false t ts stack is fits = (nests (t ∷ ts) fits).same stack
    part_first _ _ t ts stack is fits = absurd cc

    body_part_same : (t : Tok) (ts : List Tok) (stack : Stack) → length (t ∷ ts) ≤ most
        → accepts_behind (from.body_part_from t stack) ts ≡ leads (body_part parts inner (t ∷ ts)) (accepts stack)
    unfolding body_part
    body_part_same t ts stack fits = part_first (from.declares t) (begins_declaration (t ∷ ts)) t ts stack (declares_first t ts) fits

    body_part_empty : (stack : Stack) → false ≡ leads (body_part parts inner []) (accepts stack)
    unfolding body_part
    body_part_empty stack = (nests [] (omega arith)).same stack

    body_part_less : (ts : List Tok) (s : Stmt) (rest : List Tok) → length ts ≤ most → body_part parts inner ts ≡ Some (s, rest) → length rest < length ts
    unfolding body_part
    body_part_less ts s rest fits e =
        by_test (begins_declaration ts) (and_then (parts.declared ts) (λ declared ts. read_here (stmt.Decl declared) ts)) (inner ts) (s, rest) (length rest < length ts) e
        (λ is e. step (parts.declared ts) (λ declared ts. read_here (stmt.Decl declared) ts) s rest (length rest < length ts) e
        (λ declared left read e. moved (λ (s : Stmt) (rest : List Tok). length rest < length ts) (stmt.Decl declared) s left rest e (known.declared_less ts declared left read)))
        (λ is e. let fewer = (nests ts fits).less s rest e in omega arith)

    body_less : (ts : List Tok) (all : List Stmt) (rest : List Tok) → length ts ≤ most → body parts inner ts ≡ Some (all, rest) → length rest ≤ length ts
    unfolding body
    body_less ts all rest fits e = until_less ends_body (body_part parts inner) most body_part_less (length ts) [] ts all rest fits e

    -- where a block ends
    block_stops : (ts : List Tok) (stack : Stack) → ends_body ts ≡ true → accepts (goal.Body ∷ stack) ts ≡ accepts (goal.Sign sign.CloseBrace ∷ stack) ts
    block_stops [] stack is = absurd cc
    block_stops (t ∷ ts) stack is = by_brace (is_sign sign.CloseBrace t) refl
      where
        by_brace : (b : Bool) → is_sign sign.CloseBrace t ≡ b → accepts (goal.Body ∷ stack) (t ∷ ts) ≡ accepts (goal.Sign sign.CloseBrace ∷ stack) (t ∷ ts)
        by_brace true brace = rw brace refl
        by_brace false brace =
            let label : from.labels t ≡ true = sym (labels_first t ts) ∙ right_true _ _ is (sign_first sign.CloseBrace t ts ∙ brace) in
            rw (brace, no_part t (goal.Body ∷ stack) label) refl

    block_on : (ts : List Tok) (stack : Stack) → length ts ≤ most → ends_body ts ≡ false
        → accepts (goal.Body ∷ stack) ts ≡ leads (body_part parts inner ts) (accepts (goal.Body ∷ stack))
    block_on [] stack fits is = body_part_empty (goal.Body ∷ stack)
    block_on (t ∷ ts) stack fits is =
        let brace : is_sign sign.CloseBrace t ≡ false = sym (sign_first sign.CloseBrace t ts) ∙ (or_parts _ _ is).0 in
        rw brace (body_part_same t ts (goal.Body ∷ stack) fits)

    -- a block behind its opening brace
    block_goes : (ts : List Tok) → length ts ≤ most → Goes (goal.Body ∷ []) (block parts inner ts) ts 1
    unfolding block body
    block_goes ts fits = braced ends_body (body_part parts inner) goal.Body (λ all. all) most block_stops block_on body_part_less (λ stack. refl) ts fits

    -- where no statement of a group comes further groups may
    group_stops : (ts : List Tok) (stack : Stack) → ends_body ts ≡ true → accepts (goal.GroupBody ∷ stack) ts ≡ accepts (goal.Groups ∷ stack) ts
    group_stops [] stack is = absurd cc
    group_stops (t ∷ ts) stack is = by_brace (is_sign sign.CloseBrace t) refl
      where
        by_brace : (b : Bool) → is_sign sign.CloseBrace t ≡ b → accepts (goal.GroupBody ∷ stack) (t ∷ ts) ≡ accepts (goal.Groups ∷ stack) (t ∷ ts)
        by_brace true brace = rw brace refl
        by_brace false brace =
            let label : from.labels t ≡ true = sym (labels_first t ts) ∙ right_true _ _ is (sign_first sign.CloseBrace t ts ∙ brace) in
            rw (brace, label) refl

    group_on : (ts : List Tok) (stack : Stack) → length ts ≤ most → ends_body ts ≡ false
        → accepts (goal.GroupBody ∷ stack) ts ≡ leads (body_part parts inner ts) (accepts (goal.GroupBody ∷ stack))
    group_on [] stack fits is = body_part_empty (goal.GroupBody ∷ stack)
    group_on (t ∷ ts) stack fits is =
        let brace : is_sign sign.CloseBrace t ≡ false = sym (sign_first sign.CloseBrace t ts) ∙ (or_parts _ _ is).0 in
        let label : from.labels t ≡ false = sym (labels_first t ts) ∙ (or_parts _ _ is).1 in
        rw (brace, label) (body_part_same t ts (goal.GroupBody ∷ stack) fits)

    -- the declarations and statements of a group, and the groups behind it
    group_body_same : (ts : List Tok) (stack : Stack) → length ts ≤ most → accepts (goal.GroupBody ∷ stack) ts ≡ leads (body parts inner ts) (accepts (goal.Groups ∷ stack))
    unfolding body
    group_body_same ts stack fits =
        until_goes ends_body (body_part parts inner) (accepts (goal.GroupBody ∷ stack)) (accepts (goal.Groups ∷ stack)) most 0
        (λ ts fits is. group_stops ts stack is) (λ ts fits is. group_on ts stack fits is) body_part_less
        (λ ts short. ap (accepts (goal.GroupBody ∷ stack)) (none_left ts short)) (length ts) [] ts fits (omega arith)

    -- a label, where no brace ends the groups
    label_same : (ts : List Tok) (stack : Stack) → length ts ≤ most → begins sign.CloseBrace ts ≡ false
        → accepts (goal.Groups ∷ stack) ts ≡ leads (label parts ts) (accepts (goal.GroupBody ∷ stack))
    unfolding label after_word
    label_same [] stack fits is = refl
    label_same (t ∷ ts) stack fits is =
        let brace : is_sign sign.CloseBrace t ≡ false = sym (sign_first sign.CloseBrace t ts) ∙ is in
        rw brace (label_from_same t ts stack (omega arith))

    -- a further label
    further_same : (ts : List Tok) (stack : Stack) → length ts ≤ most → not (begins_label ts) ≡ false
        → accepts (goal.GroupBody ∷ stack) ts ≡ leads (label parts ts) (accepts (goal.GroupBody ∷ stack))
    further_same [] stack fits is = absurd cc
    further_same (t ∷ ts) stack fits is =
        let label : begins_label (t ∷ ts) ≡ true = not-false (begins_label (t ∷ ts)) is in
        group_stops (t ∷ ts) stack (or_right (begins sign.CloseBrace (t ∷ ts)) (begins_label (t ∷ ts)) label)
        ∙ label_same (t ∷ ts) stack fits (no_brace t ts label)

    labels_same : (ts : List Tok) (stack : Stack) → length ts ≤ most → begins sign.CloseBrace ts ≡ false
        → accepts (goal.Groups ∷ stack) ts ≡ leads (labels parts ts) (accepts (goal.GroupBody ∷ stack))
    unfolding labels
    labels_same ts stack fits is =
        label_same ts stack fits is
        ∙ leads_on (label parts ts) (λ first rest. until (λ ts. not (begins_label ts)) (label parts) (length ts) (first ∷ []) rest)
        (accepts (goal.GroupBody ∷ stack)) (accepts (goal.GroupBody ∷ stack))
        (λ first rest e.
        let fewer = label_less ts first rest (omega arith) e in
        until_goes (λ ts. not (begins_label ts)) (label parts) (accepts (goal.GroupBody ∷ stack)) (accepts (goal.GroupBody ∷ stack)) most 1
        (λ ts fits is. refl) (λ ts fits is. further_same ts stack fits is) (λ ts l rest fits e. label_less ts l rest (omega arith) e)
        (λ ts short. absurd (omega arith)) (length ts) (first ∷ []) rest (omega arith) (omega arith))

    labels_less : (ts : List Tok) (all : List Label) (rest : List Tok) → length ts ≤ most → labels parts ts ≡ Some (all, rest) → length rest < length ts
    unfolding labels
    labels_less ts all rest fits e =
        step (label parts ts) (λ first rest. until (λ ts. not (begins_label ts)) (label parts) (length ts) (first ∷ []) rest) all rest (length rest < length ts) e
        (λ first left read e.
        let a = label_less ts first left (omega arith) read in
        let b = until_less (λ ts. not (begins_label ts)) (label parts) most (λ ts l rest fits e. label_less ts l rest (omega arith) e)
        (length ts) (first ∷ []) left all rest (omega arith) e in omega arith)

    group_same : (ts : List Tok) (stack : Stack) → length ts ≤ most → begins sign.CloseBrace ts ≡ false
        → accepts (goal.Groups ∷ stack) ts ≡ leads (group parts inner ts) (accepts (goal.Groups ∷ stack))
    unfolding group
    group_same ts stack fits is =
        labels_same ts stack fits is
        ∙ leads_on (labels parts ts) (λ labels ts. and_then (body parts inner ts) (λ body ts. read_here (made_group labels body) ts))
        (accepts (goal.GroupBody ∷ stack)) (accepts (goal.Groups ∷ stack))
        (λ all rest e.
        let fewer = labels_less ts all rest fits e in
        group_body_same rest stack (omega arith)
        ∙ leads_on (body parts inner rest) (λ body ts. read_here (made_group all body) ts) (accepts (goal.Groups ∷ stack)) (accepts (goal.Groups ∷ stack)) (λ inside rest e. refl))

    group_less : (ts : List Tok) (one : Group) (rest : List Tok) → length ts ≤ most → group parts inner ts ≡ Some (one, rest) → length rest < length ts
    unfolding group
    group_less ts one rest fits e =
        step (labels parts ts) (λ labels ts. and_then (body parts inner ts) (λ body ts. read_here (made_group labels body) ts)) one rest (length rest < length ts) e
        (λ all mid read e.
        let fewer = labels_less ts all mid fits read in
        step (body parts inner mid) (λ body ts. read_here (made_group all body) ts) one rest (length rest < length ts) e
        (λ inside left read e.
        let no_more = body_less mid inside left (omega arith) read in
        moved (λ (one : Group) (rest : List Tok). length rest < length ts) (made_group all inside) one left rest e (omega arith)))

    groups_stop : (ts : List Tok) (stack : Stack) → begins sign.CloseBrace ts ≡ true → accepts (goal.Groups ∷ stack) ts ≡ accepts (goal.Sign sign.CloseBrace ∷ stack) ts
    groups_stop [] stack is = absurd cc
    groups_stop (t ∷ ts) stack is = let brace : is_sign sign.CloseBrace t ≡ true = sym (sign_first sign.CloseBrace t ts) ∙ is in rw brace refl

    -- the groups of a `switch` on this, and their closing brace
    groups_goes : (on : Expr) (ts : List Tok) → length ts ≤ most
        → Goes (goal.Groups ∷ []) (and_then (groups parts inner ts) (λ groups ts. and_then (after sign.CloseBrace ts) (λ _ ts. read_here (stmt.Switch on groups) ts))) ts 1
    unfolding groups
    groups_goes on ts fits =
        braced (begins sign.CloseBrace) (group parts inner) goal.Groups (stmt.Switch on) most groups_stop group_same group_less (λ stack. refl) ts fits

    -- behind a `switch`
    switch_goes : (ts : List Tok) → length ts ≤ most → Goes (enclosed_goals ++ goal.Sign sign.OpenBrace ∷ goal.Groups ∷ []) (switch parts inner ts) ts 5
    unfolding switch
    switch_goes ts fits =
        goes_then (enclosed_goes ts (omega arith)) (λ on ts less.
        goes_then (sign_goes sign.OpenBrace ts) (λ u ts fewer. groups_goes on ts (omega arith)))

    -- behind an `if`: its test and its body
    arm_goes : (ts : List Tok) → length ts ≤ most → Goes (enclosed_goals ++ goal.Statement ∷ []) (arm parts inner ts) ts 4
    unfolding arm
    arm_goes ts fits =
        goes_then (enclosed_goes ts (omega arith)) (λ test ts less.
        goes_then (nests ts (omega arith)) (λ body ts fewer. gives _ ts))

    -- behind `else`: further arms, or a statement
    else_goes : (further : List Tok → Read Stmt) (found : List Arm) (ts : List Tok) → length ts ≤ most
        → ((left : List Tok) → length left < length ts → Goes (enclosed_goals ++ goal.Statement ∷ goal.Else ∷ []) (further left) left 1)
        → Goes (goal.Statement ∷ [])
        (if begins_word word.If ts then further (behind ts) else and_then (inner ts) (λ other ts. read_here (stmt.If found (Some other)) ts)) ts 1
    else_goes further found (tok.Word word.If ∷ ts) fits again = goes_behind (λ stack. refl) (again ts (omega arith))
    else_goes further found (t ∷ ts) fits again = goes_then (nests (t ∷ ts) fits) (λ other ts less. gives (stmt.If found (Some other)) ts)
    else_goes further found [] fits again = goes_then (nests [] fits) (λ other ts less. gives (stmt.If found (Some other)) ts)

    -- behind an arm
    next_goes : (further : List Tok → Read Stmt) (found : List Arm) (ts : List Tok) → length ts ≤ most
        → ((left : List Tok) → length left < length ts → Goes (enclosed_goals ++ goal.Statement ∷ goal.Else ∷ []) (further left) left 1)
        → Goes (goal.Else ∷ []) (next_arm inner further found ts) ts 0
    next_goes further found (tok.Word word.Else ∷ ts) fits again =
        goes_least 0 (omega arith) (goes_behind (λ stack. refl) (else_goes further found ts (omega arith) (λ left fewer. again left (omega arith))))
    next_goes further found (t ∷ ts) fits again = record { same = λ stack. refl; less = (gives (stmt.If found None) (t ∷ ts)).less }
    next_goes further found [] fits again = record { same = λ stack. refl; less = (gives (stmt.If found None) []).less }

    -- behind an `if`; the number of turns is enough
    arms_go : (n : ℕ) (found : List Arm) (ts : List Tok) → length ts ≤ most → length ts ≤ n
        → Goes (enclosed_goals ++ goal.Statement ∷ goal.Else ∷ []) (arms_from parts inner n found ts) ts 1
    unfolding arms_from
    arms_go zero found [] fits short = record { same = λ stack. refl; less = λ s rest e. absurd cc }
    arms_go zero found (t ∷ ts) fits short = absurd (omega arith)
    arms_go (suc n) found ts fits short =
        goes_least 1 (omega arith)
        (goes_then (arm_goes ts fits) (λ one ts less.
        next_goes (arms_from parts inner n (found ++ one ∷ [])) (found ++ one ∷ []) ts (omega arith)
        (λ left fewer. arms_go n (found ++ one ∷ []) left (omega arith) (omega arith))))

    choice_goes : (ts : List Tok) → length ts ≤ most → Goes (enclosed_goals ++ goal.Statement ∷ goal.Else ∷ []) (choice parts inner ts) ts 1
    unfolding choice
    choice_goes ts fits = arms_go (length ts) [] ts fits (omega arith)

    -- behind a `while`
    while_goes : (ts : List Tok) → length ts ≤ most → Goes (enclosed_goals ++ goal.Statement ∷ []) (while_loop parts inner ts) ts 4
    unfolding while_loop
    while_goes ts fits =
        goes_then (enclosed_goes ts (omega arith)) (λ test ts less.
        goes_then (nests ts (omega arith)) (λ body ts fewer. gives _ ts))

    -- behind a `do`
    do_goes : (ts : List Tok) → length ts ≤ most
        → Goes (goal.Statement ∷ goal.Word word.While ∷ enclosed_goals ++ goal.Sign sign.Semi ∷ []) (do_loop parts inner ts) ts 6
    unfolding do_loop
    do_goes ts fits =
        goes_then (nests ts fits) (λ body ts one.
        goes_then (word_goes word.While ts) (λ u ts two.
        goes_then (enclosed_goes ts (omega arith)) (λ test ts three.
        goes_then (sign_goes sign.Semi ts) (λ v ts four. gives _ ts))))

    -- behind a `for`
    for_goes : (ts : List Tok) → length ts ≤ most
        → Goes (goal.Sign sign.OpenParen ∷ goal.Part sign.Semi ∷ goal.Part sign.Semi ∷ goal.Part sign.CloseParen ∷ goal.Statement ∷ []) (for_loop parts inner ts) ts 5
    unfolding for_loop
    for_goes ts fits =
        goes_then (sign_goes sign.OpenParen ts) (λ u ts one.
        goes_then (part_goes sign.Semi ts (omega arith)) (λ init ts two.
        goes_then (part_goes sign.Semi ts (omega arith)) (λ test ts three.
        goes_then (part_goes sign.CloseParen ts (omega arith)) (λ step ts four.
        goes_then (nests ts (omega arith)) (λ body ts five. gives _ ts)))))

    -- a statement, by the goals of those that nest in it
    statement_by_goes : (ts : List Tok) → length ts ≤ suc most → Goes (goal.Statement ∷ []) (statement_by parts inner ts) ts 1
    unfolding statement_by repeat jump
    statement_by_goes (tok.Sign sign.Semi ∷ ts) fits = goes_behind (λ stack. refl) (gives stmt.Empty ts)
    statement_by_goes (tok.Sign sign.OpenBrace ∷ ts) fits =
        goes_behind (λ stack. refl) (goes_then (block_goes ts (omega arith)) (λ body ts less. gives (stmt.Block body) ts))
    statement_by_goes (tok.Word word.If ∷ ts) fits = goes_behind (λ stack. refl) (choice_goes ts (omega arith))
    statement_by_goes (tok.Word word.Switch ∷ ts) fits = goes_behind (λ stack. refl) (switch_goes ts (omega arith))
    statement_by_goes (tok.Word word.While ∷ ts) fits = goes_behind (λ stack. refl) (while_goes ts (omega arith))
    statement_by_goes (tok.Word word.Do ∷ ts) fits = goes_behind (λ stack. refl) (do_goes ts (omega arith))
    statement_by_goes (tok.Word word.For ∷ ts) fits = goes_behind (λ stack. refl) (for_goes ts (omega arith))
    statement_by_goes (tok.Word word.Break ∷ ts) fits = goes_behind (λ stack. refl) (goes_then (sign_goes sign.Semi ts) (λ u ts less. gives _ ts))
    statement_by_goes (tok.Word word.Continue ∷ ts) fits = goes_behind (λ stack. refl) (goes_then (sign_goes sign.Semi ts) (λ u ts less. gives _ ts))
    statement_by_goes (tok.Word word.Return ∷ ts) fits =
        goes_behind (λ stack. refl) (goes_then (part_goes sign.Semi ts (omega arith)) (λ value ts less. gives _ ts))
    statement_by_goes [] fits = evaluated [] (omega arith) (λ stack. refl)
    statement_by_goes (t ∷ ts) fits = evaluated (t ∷ ts) (omega arith) (λ stack. refl)

  -- a statement goes the way of its goal
  pub statement_goes : (depth : ℕ) (ts : List Tok) → depth ≤ parts.total → length ts ≤ depth → Goes (goal.Statement ∷ []) (statement parts depth ts) ts 1
  unfolding statement
  statement_goes zero [] deep fits = record { same = λ stack. refl; less = λ s rest e. absurd cc }
  statement_goes zero (t ∷ ts) deep fits = absurd (omega arith)
  statement_goes (suc depth) ts deep fits =
      statement_by_goes (statement parts depth) depth deep (λ ts fits. statement_goes depth ts (omega arith) fits) ts fits

  -- a block behind its opening brace
  pub body_goes : (ts : List Tok) → length ts < parts.total → Goes (goal.Body ∷ []) (block parts (statement parts parts.total) ts) ts 1
  body_goes ts fits = block_goes (statement parts parts.total) (length ts) fits (λ left short. statement_goes parts.total left (omega arith) (omega arith)) ts (omega arith)
