-- Statements that are made part after part, and turns of loops.
use Rattle.std.proofs.Common.{◌≡◌, ◌<◌, ◌+◌, ◌++◌, ◌∙◌, ℕ, List, [], ◌∷◌, Option, Result, Ok, Err, OnOk, append_assoc, drop, get_or, length, length-append, refl, sym, ap}
use Rattle.std.specs.Prelude.{filter_map, flat_map, ℤ}
use Rattle.std.specs.Option.{option_map}
use Rattle.int_kinds.specs.declared.kinds.Kind.{Kind}
use Rattle.write_format.specs.Line.{FormatText}
use Rattle.capl_tree.specs.declared.expr.Expr.{Expr}
use Rattle.capl_tree.specs.declared.statement.Arm.{Arm}
use Rattle.capl_tree.specs.declared.statement.Group.{Group}
use Rattle.capl_tree.specs.declared.statement.Stmt.{Stmt}
use Rattle.capl_tree.specs.declared.statement.Stmt.TheVariants as stmt
use Rattle.typed_tree.specs.declared.expression.TExpr.{TExpr}
use Rattle.typed_tree.specs.declared.statement.TArm.{TArm}
use Rattle.typed_tree.specs.declared.statement.TGroup.{TGroup}
use Rattle.typed_tree.specs.declared.statement.TStmt.{TStmt}
use Rattle.typed_tree.specs.declared.statement.TStmt.TheVariants as typed
use Rattle.typed_tree.specs.Forms.{Convert}
use Rattle.typed_tree.specs.Forms as loop
use Rattle.capl_meaning.specs.Names.{Scope}
use Rattle.capl_meaning.specs.Constant.{prefix_kind}
use Rattle.capl_meaning.specs.StatementRules.{label_of}
use Rattle.typed_source.specs.Expression.{expression_of}
use Rattle.typed_source.specs.Statement.{formats_of, formats_of_part, statement_of}
use Rattle.typed_source.specs.Program.{body_of, formats_of_body}
use Rattle.check_names.proofs.LoopLemmas.{drop_next}
use Rattle.type_statements.specs.Rows.{arms_in, else_in, formats_in_arms, formats_in_else, formats_in_groups, groups_in, part_in}
use Rattle.type_statements.proofs.RowLemmas.{block_formats, block_tree, do_formats, do_tree, for_formats, for_tree, if_formats, if_tree, switch_formats, switch_tree, while_formats, while_tree}

-- ---- formats

-- the number of formats with more behind them
pub behind : (old more new : List FormatText) → new ≡ old ++ more → length new ≡ length old + length more
behind old more new is = ap length is ∙ length-append old more

-- formats that are appended in two parts
pub two_formats : (old middle new a b whole : List FormatText) → middle ≡ old ++ a → new ≡ middle ++ b → whole ≡ a ++ b → new ≡ old ++ whole
two_formats old middle new a b whole one two is =
    two ∙ ap (λ l. l ++ b) one ∙ append_assoc old a b ∙ ap (λ l. old ++ l) (sym is)

-- the formats of the one part of a statement
pub part_formats : (s : Scope) (old new : List FormatText) (statement given body : Stmt) → given ≡ body → formats_of s statement ≡ formats_of s body
    → new ≡ old ++ formats_of s given → new ≡ old ++ formats_of s statement
part_formats s old new statement given body given_is is new_is =
    new_is ∙ ap (λ x. old ++ formats_of s x) given_is ∙ ap (λ l. old ++ l) (sym is)

-- formats that are there already, whether a tree is made or not
pub there_already : {T E P : Type 0} (made : Result T E) → P → OnOk made P
there_already (Ok x) p = p
there_already (Err e) p = tt

-- a `for` whose body is lent
pub for_of : (statement : Stmt) (init test step : Option Expr) (body lent : Stmt) → statement ≡ stmt.For init test step body → lent ≡ body
    → statement ≡ stmt.For init test step lent
for_of statement init test step body lent is same = is ∙ ap (stmt.For init test step) (sym same)

-- ---- forms

module _ (s : Scope) (order : List ℕ) where
  -- a block
  pub block_made : (before : ℕ) (statement : Stmt) (body given : List Stmt) (made : List TStmt) → statement ≡ stmt.Block body → given ≡ body
      → made ≡ body_of s order before given → typed.Block made ≡ statement_of s order before statement
  block_made before statement body given made is given_is made_is =
      ap typed.Block (made_is ∙ ap (body_of s order before) given_is) ∙ sym (block_tree s order before statement body is)

  -- and its formats
  pub block_formats_made : (old new : List FormatText) (statement : Stmt) (body given : List Stmt) → statement ≡ stmt.Block body → given ≡ body
      → new ≡ old ++ formats_of_body s given → new ≡ old ++ formats_of s statement
  block_formats_made old new statement body given is given_is new_is =
      new_is ∙ ap (λ l. old ++ formats_of_body s l) given_is ∙ ap (λ l. old ++ l) (sym (block_formats s statement body is))

  -- an `if`
  pub if_made : (old middle : List FormatText) (statement : Stmt) (arms given : List Arm) (other : Option Stmt) (made : List TArm) (last : Option TStmt)
      → statement ≡ stmt.If arms other → given ≡ arms → middle ≡ old ++ formats_in_arms s given → made ≡ arms_in s order (length old) given
      → last ≡ else_in s order (length middle) other → typed.If made last ≡ statement_of s order (length old) statement
  if_made old middle statement arms given other made last is given_is middle_is made_is last_is =
      ap (λ l. typed.If l last) (made_is ∙ ap (arms_in s order (length old)) given_is)
      ∙ ap (typed.If (arms_in s order (length old) arms))
      (last_is ∙ ap (λ n. else_in s order n other) (behind old (formats_in_arms s given) middle middle_is
      ∙ ap (λ l. length old + length (formats_in_arms s l)) given_is))
      ∙ sym (if_tree s order (length old) statement arms other is)

  -- and its formats
  pub if_formats_made : (old middle new : List FormatText) (statement : Stmt) (arms given : List Arm) (other : Option Stmt)
      → statement ≡ stmt.If arms other → given ≡ arms → middle ≡ old ++ formats_in_arms s given → new ≡ middle ++ formats_in_else s other
      → new ≡ old ++ formats_of s statement
  if_formats_made old middle new statement arms given other is given_is one two =
      two_formats old middle new (formats_in_arms s given) (formats_in_else s other) (formats_of s statement) one two
      (if_formats s statement arms other is ∙ ap (λ l. formats_in_arms s l ++ formats_in_else s other) (sym given_is))

  -- a `switch`
  pub switch_made : (before : ℕ) (statement : Stmt) (on : Expr) (groups given : List Group) (k : Kind) (value : TExpr) (made : List TGroup)
      → statement ≡ stmt.Switch on groups → given ≡ groups → value ≡ Convert (prefix_kind s on) (expression_of s order on) → k ≡ prefix_kind s on
      → made ≡ groups_in s order k before given → typed.Switch value made ≡ statement_of s order before statement
  switch_made before statement on groups given k value made is given_is value_is k_is made_is =
      ap (λ v. typed.Switch v made) value_is
      ∙ ap (typed.Switch (Convert (prefix_kind s on) (expression_of s order on)))
      (made_is ∙ ap (λ k. groups_in s order k before given) k_is ∙ ap (groups_in s order (prefix_kind s on) before) given_is)
      ∙ sym (switch_tree s order before statement on groups is)

  -- and its formats
  pub switch_formats_made : (old new : List FormatText) (statement : Stmt) (on : Expr) (groups given : List Group) → statement ≡ stmt.Switch on groups
      → given ≡ groups → new ≡ old ++ formats_in_groups s given → new ≡ old ++ formats_of s statement
  switch_formats_made old new statement on groups given is given_is new_is =
      new_is ∙ ap (λ l. old ++ formats_in_groups s l) given_is ∙ ap (λ l. old ++ l) (sym (switch_formats s statement on groups is))

  -- a `while`
  pub while_made : (before : ℕ) (statement : Stmt) (test : Expr) (body given : Stmt) (made : TStmt) → statement ≡ stmt.While test body
      → given ≡ body → made ≡ statement_of s order before given
      → loop.While (expression_of s order test) made ≡ statement_of s order before statement
  while_made before statement test body given made is given_is made_is =
      ap (loop.While (expression_of s order test)) (made_is ∙ ap (statement_of s order before) given_is)
      ∙ sym (while_tree s order before statement test body is)

  -- a `do`
  pub do_made : (before : ℕ) (statement body : Stmt) (test : Expr) (given : Stmt) (made : TStmt) → statement ≡ stmt.Do body test
      → given ≡ body → made ≡ statement_of s order before given
      → loop.Do made (expression_of s order test) ≡ statement_of s order before statement
  do_made before statement body test given made is given_is made_is =
      ap (λ t. loop.Do t (expression_of s order test)) (made_is ∙ ap (statement_of s order before) given_is)
      ∙ sym (do_tree s order before statement body test is)

  -- a `for`
  pub for_made : (old one two : List FormatText) (statement : Stmt) (init test step : Option Expr) (body given : Stmt)
      (i : Option TStmt) (t : Option TExpr) (n : Option TStmt) (made boxed : TStmt) → statement ≡ stmt.For init test step body → given ≡ body
      → one ≡ old ++ formats_of_part s init → two ≡ one ++ formats_of_part s step → i ≡ part_in s order (length old) init
      → t ≡ option_map (expression_of s order) test → n ≡ part_in s order (length one) step → made ≡ statement_of s order (length two) given → boxed ≡ made
      → typed.For i t n boxed ≡ statement_of s order (length old) statement
  for_made old one two statement init test step body given i t n made boxed is given_is one_is two_is i_is t_is n_is made_is boxed_is =
      let at_one : length one ≡ length old + length (formats_of_part s init) = behind old (formats_of_part s init) one one_is in
      let at_two : length two ≡ length old + length (formats_of_part s init) + length (formats_of_part s step) =
      behind one (formats_of_part s step) two two_is ∙ ap (λ k. k + length (formats_of_part s step)) at_one in
      ap (λ i. typed.For i t n boxed) i_is
      ∙ ap (λ t. typed.For (part_in s order (length old) init) t n boxed) t_is
      ∙ ap (λ n. typed.For (part_in s order (length old) init) (option_map (expression_of s order) test) n boxed)
      (n_is ∙ ap (λ k. part_in s order k step) at_one)
      ∙ ap (typed.For (part_in s order (length old) init) (option_map (expression_of s order) test)
      (part_in s order (length old + length (formats_of_part s init)) step))
      (boxed_is ∙ made_is ∙ ap (statement_of s order (length two)) given_is ∙ ap (λ k. statement_of s order k body) at_two)
      ∙ sym (for_tree s order (length old) statement init test step body is)

  -- and its formats
  pub for_formats_made : (old one two new : List FormatText) (statement : Stmt) (init test step : Option Expr) (body given : Stmt)
      → statement ≡ stmt.For init test step body → given ≡ body → one ≡ old ++ formats_of_part s init → two ≡ one ++ formats_of_part s step
      → new ≡ two ++ formats_of s given → new ≡ old ++ formats_of s statement
  for_formats_made old one two new statement init test step body given is given_is one_is two_is new_is =
      two_formats old one new (formats_of_part s init) (formats_of_part s step ++ formats_of s body) (formats_of s statement) one_is
      (two_formats one two new (formats_of_part s step) (formats_of s body) (formats_of_part s step ++ formats_of s body) two_is
      (new_is ∙ ap (λ x. two ++ formats_of s x) given_is) refl)
      (for_formats s statement init test step body is)

  -- ---- turns

  -- one more statement
  pub body_turn : (xs : List Stmt) (i : ℕ) (x : Stmt) (made after : List TStmt) (tree : TStmt) (old new : List FormatText) → i < length xs
      → x ≡ get_or xs i x → tree ≡ statement_of s order (length old) x → new ≡ old ++ formats_of s x → after ≡ made ++ tree ∷ []
      → after ++ body_of s order (length new) (drop (i + 1) xs) ≡ made ++ body_of s order (length old) (drop i xs)
  body_turn xs i x made after tree old new within is tree_is new_is after_is =
      ap (λ l. l ++ body_of s order (length new) (drop (i + 1) xs)) after_is
      ∙ append_assoc made (tree ∷ []) (body_of s order (length new) (drop (i + 1) xs))
      ∙ ap (λ t. made ++ (t ∷ body_of s order (length new) (drop (i + 1) xs))) tree_is
      ∙ ap (λ n. made ++ (statement_of s order (length old) x ∷ body_of s order n (drop (i + 1) xs))) (behind old (formats_of s x) new new_is)
      ∙ ap (λ l. made ++ body_of s order (length old) l) (sym (drop_next xs i x within is))

  -- one more arm
  pub arms_turn : (xs : List Arm) (i : ℕ) (x : Arm) (made after : List TArm) (tree : TArm) (old new : List FormatText) → i < length xs
      → x ≡ get_or xs i x → tree.test ≡ expression_of s order x.test → tree.body ≡ statement_of s order (length old) x.body
      → new ≡ old ++ formats_of s x.body → after ≡ made ++ tree ∷ []
      → after ++ arms_in s order (length new) (drop (i + 1) xs) ≡ made ++ arms_in s order (length old) (drop i xs)
  arms_turn xs i x made after tree old new within is test_is body_is new_is after_is =
      let rest : List TArm = arms_in s order (length new) (drop (i + 1) xs) in
      let arm : TExpr → TStmt → TArm = λ t b. record { test = t; body = b } in
      ap (λ l. l ++ rest) after_is
      ∙ append_assoc made (tree ∷ []) rest
      ∙ ap (λ t. made ++ (arm t tree.body ∷ rest)) test_is
      ∙ ap (λ b. made ++ (arm (expression_of s order x.test) b ∷ rest)) body_is
      ∙ ap (λ n. made ++ (arm (expression_of s order x.test) (statement_of s order (length old) x.body) ∷ arms_in s order n (drop (i + 1) xs)))
      (behind old (formats_of s x.body) new new_is)
      ∙ ap (λ l. made ++ arms_in s order (length old) l) (sym (drop_next xs i x within is))

  -- one more group
  pub groups_turn : (k : Kind) (xs : List Group) (i : ℕ) (x : Group) (made after : List TGroup) (tree : TGroup) (old new : List FormatText) → i < length xs
      → x ≡ get_or xs i x → tree.labels ≡ filter_map (λ label. label_of s k label.at label.value) x.labels
      → tree.body ≡ body_of s order (length old) x.body → new ≡ old ++ formats_of_body s x.body → after ≡ made ++ tree ∷ []
      → after ++ groups_in s order k (length new) (drop (i + 1) xs) ≡ made ++ groups_in s order k (length old) (drop i xs)
  groups_turn k xs i x made after tree old new within is labels_are body_is new_is after_is =
      let rest : List TGroup = groups_in s order k (length new) (drop (i + 1) xs) in
      let group : List (Option ℤ) → List TStmt → TGroup = λ l b. record { labels = l; body = b } in
      let numbers : List (Option ℤ) = filter_map (λ label. label_of s k label.at label.value) x.labels in
      ap (λ l. l ++ rest) after_is
      ∙ append_assoc made (tree ∷ []) rest
      ∙ ap (λ l. made ++ (group l tree.body ∷ rest)) labels_are
      ∙ ap (λ b. made ++ (group numbers b ∷ rest)) body_is
      ∙ ap (λ n. made ++ (group numbers (body_of s order (length old) x.body) ∷ groups_in s order k n (drop (i + 1) xs)))
      (behind old (formats_of_body s x.body) new new_is)
      ∙ ap (λ l. made ++ groups_in s order k (length old) l) (sym (drop_next xs i x within is))

-- the formats of one more
pub formats_turn : {A : Type 0} (f : A → List FormatText) (xs : List A) (i : ℕ) (x : A) (old new : List FormatText) → i < length xs → x ≡ get_or xs i x
    → new ≡ old ++ f x → new ++ flat_map f (drop (i + 1) xs) ≡ old ++ flat_map f (drop i xs)
formats_turn f xs i x old new within is new_is =
    ap (λ l. l ++ flat_map f (drop (i + 1) xs)) new_is
    ∙ append_assoc old (f x) (flat_map f (drop (i + 1) xs))
    ∙ ap (λ l. old ++ flat_map f l) (sym (drop_next xs i x within is))

-- each form, by its list or its parts
pub ruleset form = (block_formats, block_tree, do_formats, do_tree, for_formats, for_tree, if_formats, if_tree, switch_formats, switch_tree, while_formats, while_tree)
