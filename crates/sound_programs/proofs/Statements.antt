-- The typed tree of a statement that breaks no rule is sound.
use mathlib.Core.Former.{Count}
use Rattle.std.proofs.Common.{◌≡◌, ◌≢◌, ℕ, suc, ◌+◌, ◌<◌, ◌^◌, Bool, true, false, not, List, [], ◌++◌, length, Option, Some, None, refl, sym, ap, subst}
use Rattle.std.specs.Prelude.{⊤, AllPairs, IfSome, flat_map, is_some}
use Rattle.std.specs.Option.{option_map}
use Rattle.int_kinds.specs.declared.kinds.Kind.{Kind}
use Rattle.int_kinds.specs.Kind.{join}
use Rattle.capl_tree.specs.declared.expr.Expr.{Expr}
use Rattle.capl_tree.specs.declared.statement.Stmt.{Stmt, Row_of-Stmt, end_of-Stmt, more_of-Stmt, items-the_row-Stmt}
use Rattle.capl_tree.specs.declared.statement.Stmt.TheBlock.{Row_of-Arm, end_of-Arm, more_of-Arm, Row_of-Group, end_of-Group, more_of-Group, Held-Stmt-If-1, items-the_row-Arm}
use Rattle.capl_tree.specs.declared.statement.Stmt.TheVariants as stmt
use Rattle.capl_tree.specs.Forms as tree
use Rattle.capl_tree.specs.Grammar.{AreArms, AreGroups, AreStatements, IsBodyPart, IsElse, IsExpression, IsOptional, IsStatement}
use Rattle.typed_tree.specs.declared.expression.TExpr.{TExpr}
use Rattle.typed_tree.specs.declared.program.Typed.{Typed}
use Rattle.typed_tree.specs.declared.statement.TStmt.{items-the_row-TStmt}
use Rattle.typed_tree.specs.declared.statement.TStmt.TheBlock.{items-the_row-TArm}
use Rattle.typed_tree.specs.declared.statement.TStmt.TheVariants.{Return}
use Rattle.typed_tree.specs.SoundExpression.{IsSoundExpr}
use Rattle.typed_tree.specs.SoundStatement.{AreSoundArms, AreSoundGroups, AreSoundStmts, Around, IsPlainPart, IsSoundOption, IsSoundPart, IsSoundStmt, all_labels}
use Rattle.capl_meaning.specs.declared.sort.Sort.TheVariants as sort
use Rattle.capl_meaning.specs.Names.{Scope}
use Rattle.capl_meaning.specs.Calls.{calls_in, calls_in_labels, calls_in_part, names_called, calls_of_arms, calls_of_else, calls_of_groups, calls_of_row}
use Rattle.capl_meaning.specs.Sort.{kind_in, sort_of}
use Rattle.capl_meaning.specs.Constant.{prefix_kind}
use Rattle.capl_meaning.specs.ExpressionRules.{integer_offences, offences}
use Rattle.capl_meaning.specs.StatementRules as source
use Rattle.capl_meaning.specs.StatementRules.{alone_offences, in_loop, label_offences, labels_said, labels_rule, needed_offences, offences_of_arms, offences_of_else, offences_of_groups, offences_of_statements, return_rule, statement_offences}
use Rattle.typed_source.specs.Expression.{expression_of}
use Rattle.typed_source.specs.Statement.{StandFrom, arms_of, else_of, formats_of, formats_of_arms, formats_of_else, formats_of_groups, formats_of_part, formats_of_row, groups_of, part_of, returned, statement_of, statements_of}
use Rattle.typed_source.specs.Sound.{HasTables, IsOfNumber}
use Rattle.typed_source.proofs.Formats.{first_part, second_part}
use Rattle.typed_source.proofs.SoundExpressions.{sound}
use Rattle.sound_programs.specs.Given.{AreCallable, HaveForms}
use Rattle.sound_programs.specs.Small.{AreSmallArms, AreSmallGroups, AreSmallStmts, IsSmallElse, IsSmallExpr, IsSmallStmt}
use Rattle.sound_programs.proofs.Alone.{alone}
use Rattle.sound_programs.proofs.Empty.{back, front, full, unbroken}
use Rattle.sound_programs.proofs.Fine.{number as is_number}
use Rattle.sound_programs.proofs.Labels.{as_many_groups, few_labels, labels_differ, labels_in_range}
use Rattle.sound_programs.proofs.Made.{all_back, all_front, made}
use Rattle.sound_programs.proofs.Sorts.{number_kind}

-- ---- the grammar of parts

-- a statement is a part of a body
body_part : (x : Stmt) → IsStatement x → IsBodyPart x
body_part (stmt.Decl declaration) h = elim h [ ]
body_part x h = h

-- the first of a row and the rest
row_parts : {m : Count} (first : Stmt) (rest : Row_of-Stmt m) → AreStatements (more_of-Stmt first rest) → IsBodyPart first × AreStatements rest
row_parts (stmt.Decl declaration) rest h = h
row_parts first rest h = h

-- the tests and bodies of arms
abbrev ArmsFormed : {m : _} → Row_of-Arm m → Type 0
ArmsFormed end_of-Arm = ⊤
ArmsFormed (more_of-Arm test body rest) = IsExpression test × IsBodyPart body × ArmsFormed rest

arms_formed : {m : Count} (arms : Row_of-Arm m) (other : Held-Stmt-If-1) → AreArms arms other → ArmsFormed arms
arms_formed end_of-Arm other h = tt
arms_formed (more_of-Arm test body end_of-Arm) other h = (h.0, body_part body h.1, tt)
arms_formed (more_of-Arm test body (more_of-Arm next later rest)) other h = (h.0, body_part body h.1, arms_formed (more_of-Arm next later rest) other h.3)

-- the bodies of groups
abbrev GroupsFormed : {m : _} → Row_of-Group m → Type 0
GroupsFormed end_of-Group = ⊤
GroupsFormed (more_of-Group labels shape body rest) = AreStatements body × GroupsFormed rest

groups_formed : {m : Count} (groups : Row_of-Group m) → AreGroups groups → GroupsFormed groups
groups_formed end_of-Group h = tt
groups_formed (more_of-Group labels shape body end_of-Group) h = (h.1, tt)
groups_formed (more_of-Group labels shape body (more_of-Group others next later rest)) h = (h.1, groups_formed (more_of-Group others next later rest) h.3)

negated : (b : Bool) → not b ≡ false → b ≡ true
negated true e = refl
negated false e = absurd (let f : true ≡ false = e in cc)

-- ---- statements

module _ (typed : Typed) (number : ℕ) (s : Scope) (order : List ℕ) (tables : HasTables s.names typed) (forms : HaveForms s.names) where
  -- what a statement of the procedure stands in
  abbrev standing : source.Around → Around
  standing around = record { number = number; gives = is_some s.gives; breakable = around.breakable; continuable = around.continuable }

  abbrev Callable : List (List ℕ) → Type 0
  Callable called = AreCallable s.names order typed number called

  callable_front : (xs ys : List (List ℕ)) → Callable (xs ++ ys) → Callable xs
  callable_front xs ys h = all_front _ xs ys h

  callable_back : (xs ys : List (List ℕ)) → Callable (xs ++ ys) → Callable ys
  callable_back xs ys h = all_back _ xs ys h

  -- an expression of which an integer is needed
  needed : (e : Expr) → IsExpression e → IsSmallExpr e → integer_offences s e ≡ [] → Callable (calls_in e) → IsSoundExpr typed number (expression_of s order e)
  needed e formed few none called =
      sound typed number s order tables e (is_number s forms e none) (made typed number s order e formed few (front (offences s e) _ none) called)

  -- the same of one that may be missing
  needed_part : (part : Option Expr) → IsOptional part → IfSome part IsSmallExpr → needed_offences s part ≡ [] → Callable (calls_in_part part) → IsSoundOption typed number (option_map (expression_of s order) part)
  needed_part None formed few none called = tt
  needed_part (Some e) formed few none called = needed e (formed e refl) few (front (integer_offences s e) [] none) (callable_front (calls_in e) [] called)

  -- the first or third part of a `for`
  part : (around : Around) (is : around.number ≡ number) (before : ℕ) (o : Option Expr) → IsOptional o → IfSome o IsSmallExpr → alone_offences s o ≡ [] → Callable (calls_in_part o) →
      StandFrom before (formats_of_part s o) typed.formats → IsSoundPart typed around (part_of s order before o) × IsPlainPart (part_of s order before o)
  part around is before None formed few none called formats = (tt, tt)
  part around is before (Some e) formed few none called formats =
      alone typed around s order tables forms before e (formed e refl) few (front (offences s e) [] none)
      (subst (λ n. AreCallable s.names order typed n (calls_in e)) (sym is) (callable_front (calls_in e) [] called)) formats

  -- ---- lists

  statements_long : (before : ℕ) {m : Count} (row : Row_of-Stmt m) → length (items-the_row-TStmt m (statements_of s order before row)) ≡ length (items-the_row-Stmt m row)
  statements_long before end_of-Stmt = refl
  statements_long before (more_of-Stmt first rest) = ap suc (statements_long (before + length (formats_of s first)) rest)

  arms_long : (before : ℕ) {m : Count} (arms : Row_of-Arm m) → length (items-the_row-TArm m (arms_of s order before arms)) ≡ length (items-the_row-Arm m arms)
  arms_long before end_of-Arm = refl
  arms_long before (more_of-Arm test body rest) = ap suc (arms_long (before + length (formats_of s body)) rest)

  -- ---- what is returned

  returns_right : (at : ℕ) (o : Option Kind) (value : Option Expr) (t : Expr → TExpr) → return_rule s at o value ≡ [] → ((e : Expr) → value ≡ Some e → IsSoundExpr typed number (t e)) → (around : Around) → around.number ≡ number → around.gives ≡ is_some o →
      IsSoundStmt typed around (Return (option_map (λ e. returned o (t e)) value))
  returns_right at None None t none good around is gives = assumption gives
  returns_right at None (Some e) t none good around is gives = absurd (full _ _ none)
  returns_right at (Some k) None t none good around is gives = absurd (full _ _ none)
  returns_right at (Some k) (Some e) t none good around is gives =
      assumption (gives, subst (λ n. IsSoundExpr typed n (t e)) (sym is) (good e refl))

  value_sound : (value : Option Expr) → IsOptional value → IfSome value IsSmallExpr → needed_offences s value ≡ [] → AreCallable s.names order typed number (calls_in_part value) →
      (e : Expr) → value ≡ Some e → IsSoundExpr typed number (expression_of s order e)
  value_sound None formed few none called e is = absurd (let f : None ≡ Some e = is in cc)
  value_sound (Some other) formed few none called e is =
      let same : other ≡ e = let f : Some other ≡ Some e = is in cc in
      subst (λ x. IsSoundExpr typed number (expression_of s order x)) same (needed_part (Some other) formed few none called)

  -- ---- `switch`

  -- the labels of a `switch` over a number
  switched : (on : Expr) (before : ℕ) {m : Count} (groups : Row_of-Group m) → IsOfNumber (sort_of s on) → labels_rule s (sort_of s on) (labels_said groups) ≡ [] →
      (k : Kind) × (sort_of s on ≡ sort.Number k) × (prefix_kind s on ≡ join k k)
  switched on before groups is none =
      let kind = number_kind (sort_of s on) is in (kind.0, kind.1, ap (λ g. join (kind_in g) (kind_in g)) kind.1)

  mutual
    -- each statement
    pub statement : (around : source.Around) (before : ℕ) (x : Stmt) → IsBodyPart x → IsSmallStmt x → statement_offences s around x ≡ [] → AreCallable s.names order typed number (names_called x) →
        StandFrom before (formats_of s x) typed.formats →
        IsSoundStmt typed (record { number = number; gives = is_some s.gives; breakable = around.breakable; continuable = around.continuable }) (statement_of s order before x)
    statement around before stmt.Empty formed few none called formats = tt
    statement around before (stmt.Block' shape body) formed few none called formats = (
      assumption (subst (λ n. n < 2 ^ 32) (sym (statements_long before body)) few.0),
      statements around before body formed few.1 none called formats,
    )
    statement around before (stmt.Decl declaration) formed few none called formats = tt
    statement around before (stmt.Expr e) formed few none called formats = (alone typed (standing around) s order tables forms before e formed few none called formats).0
    statement around before (stmt.If' shape arms other) formed few none called formats = (
      assumption (subst (λ n. n < 2 ^ 32) (sym (arms_long before arms)) few.0),
      arms_sound around before arms (arms_formed arms other formed.0) few.1 (front (offences_of_arms s around arms) _ none) (callable_front (calls_of_arms arms) (calls_of_else other) called)
          (first_part before (formats_of_arms s arms) (formats_of_else s other) typed.formats formats),
      else_sound around (before + length (formats_of_arms s arms)) other formed.1 few.2 (back (offences_of_arms s around arms) _ none) (callable_back (calls_of_arms arms) (calls_of_else other) called)
          (second_part before (formats_of_arms s arms) (formats_of_else s other) typed.formats formats),
    )
    statement around before (tree.While test body) formed few none called formats = (
      needed test formed.0 few.0 (front (integer_offences s test) _ none) (callable_front (calls_in test) (names_called body) called),
      statement in_loop before body (body_part body formed.1) few.1 (back (integer_offences s test) _ none) (callable_back (calls_in test) (names_called body) called) formats,
    )
    statement around before (tree.Do body test) formed few none called formats = (
      statement in_loop before body (body_part body formed.0) few.0 (front (statement_offences s in_loop body) _ none) (callable_front (names_called body) (calls_in test) called) formats,
      needed test formed.1 few.1 (back (statement_offences s in_loop body) _ none) (callable_back (names_called body) (calls_in test) called),
    )
    statement around before (tree.For init test step body) formed few none called formats =
        let rules = back (alone_offences s init) _ none in
        let last = back (needed_offences s test) _ rules in
        let others = callable_back (calls_in_part init) (calls_in_part test ++ (calls_in_part step ++ names_called body)) called in
        let ends = callable_back (calls_in_part test) (calls_in_part step ++ names_called body) others in
        let behind = second_part before (formats_of_part s init) (formats_of_part s step ++ formats_of s body) typed.formats formats in
        let first = part (standing around) refl before init formed.0 few.0 (front (alone_offences s init) _ none) (callable_front (calls_in_part init) (calls_in_part test ++ (calls_in_part step ++ names_called body)) called)
        (first_part before (formats_of_part s init) (formats_of_part s step ++ formats_of s body) typed.formats formats) in
        let third = part (standing around) refl (before + length (formats_of_part s init)) step formed.2 few.2 (front (alone_offences s step) _ last) (callable_front (calls_in_part step) (names_called body) ends)
        (first_part (before + length (formats_of_part s init)) (formats_of_part s step) (formats_of s body) typed.formats behind) in (
          assumption (first.1, third.1),
          first.0,
          needed_part test formed.1 few.1 (front (needed_offences s test) _ rules) (callable_front (calls_in_part test) (calls_in_part step ++ names_called body) others),
          third.0,
          statement in_loop (before + length (formats_of_part s init) + length (formats_of_part s step)) body (body_part body formed.3) few.3 (back (alone_offences s step) _ last) (callable_back (calls_in_part step) (names_called body) ends)
              (second_part (before + length (formats_of_part s init)) (formats_of_part s step) (formats_of s body) typed.formats behind),
        )
    statement around before (stmt.Switch' on shape groups) formed few none called formats =
        let rules = back (integer_offences s on) _ none in
        let whole = front (integer_offences s on) _ none in
        let labels = front (labels_rule s (sort_of s on) (labels_said groups)) _ rules in
        let kind = switched on before groups (is_number s forms on whole) labels in (
          assumption (
            subst (λ k. AllPairs (λ a b. a ≢ b) (all_labels (groups_of s order k before groups))) (sym kind.2) (labels_differ s order kind.0 before groups (subst (λ g. labels_rule s g (labels_said groups) ≡ []) kind.1 labels)),
            labels_in_range s order (prefix_kind s on) before groups,
            subst (λ n. n < 2 ^ 32) (sym (as_many_groups s order (prefix_kind s on) before groups)) few.0,
            few_labels s order (prefix_kind s on) before groups few.2,
          ),
          (assumption, needed on formed.0 few.1 whole (callable_front (calls_in on) (calls_of_groups groups) called)),
          groups_sound (source.in_switch around) (prefix_kind s on) before groups (groups_formed groups formed.1) few.2 (back (labels_rule s (sort_of s on) (labels_said groups)) _ rules)
              (callable_back (calls_in on) (calls_of_groups groups) called) formats,
        )
    statement around before (stmt.Break at) formed few none called formats =
        assumption (negated around.breakable (unbroken (not around.breakable) s at 22 none))
    statement around before (stmt.Continue at) formed few none called formats =
        assumption (negated around.continuable (unbroken (not around.continuable) s at 22 none))
    statement around before (stmt.Return value at) formed few none called formats =
        returns_right at s.gives value (expression_of s order) (front (return_rule s at s.gives value) _ none)
        (value_sound value formed few (back (return_rule s at s.gives value) _ none) called) (standing around) refl refl

    -- statements in a row
    pub statements : (around : source.Around) (before : ℕ) {m : Count} (row : Row_of-Stmt m) → AreStatements row → AreSmallStmts row → offences_of_statements s around row ≡ [] → AreCallable s.names order typed number (calls_of_row row) →
        StandFrom before (formats_of_row s row) typed.formats →
        AreSoundStmts typed (record { number = number; gives = is_some s.gives; breakable = around.breakable; continuable = around.continuable }) (statements_of s order before row)
    statements around before end_of-Stmt formed few none called formats = tt
    statements around before (more_of-Stmt first rest) formed few none called formats =
        let parts = row_parts first rest formed in (
          statement around before first parts.0 few.0 (front (statement_offences s around first) _ none) (callable_front (names_called first) (calls_of_row rest) called)
              (first_part before (formats_of s first) (formats_of_row s rest) typed.formats formats),
          statements around (before + length (formats_of s first)) rest parts.1 few.1 (back (statement_offences s around first) _ none) (callable_back (names_called first) (calls_of_row rest) called)
              (second_part before (formats_of s first) (formats_of_row s rest) typed.formats formats),
        )

    -- the arms of an `if`
    arms_sound : (around : source.Around) (before : ℕ) {m : Count} (arms : Row_of-Arm m) → ArmsFormed arms → AreSmallArms arms → offences_of_arms s around arms ≡ [] → AreCallable s.names order typed number (calls_of_arms arms) →
        StandFrom before (formats_of_arms s arms) typed.formats →
        AreSoundArms typed (record { number = number; gives = is_some s.gives; breakable = around.breakable; continuable = around.continuable }) (arms_of s order before arms)
    arms_sound around before end_of-Arm formed few none called formats = tt
    arms_sound around before (more_of-Arm test body rest) formed few none called formats =
        let rules = back (integer_offences s test) _ none in
        let others = callable_back (calls_in test) (names_called body ++ calls_of_arms rest) called in (
          needed test formed.0 few.0 (front (integer_offences s test) _ none) (callable_front (calls_in test) (names_called body ++ calls_of_arms rest) called),
          statement around before body formed.1 few.1 (front (statement_offences s around body) _ rules) (callable_front (names_called body) (calls_of_arms rest) others)
              (first_part before (formats_of s body) (formats_of_arms s rest) typed.formats formats),
          arms_sound around (before + length (formats_of s body)) rest formed.2 few.2 (back (statement_offences s around body) _ rules) (callable_back (names_called body) (calls_of_arms rest) others)
              (second_part before (formats_of s body) (formats_of_arms s rest) typed.formats formats),
        )

    -- what stands behind a last `else`
    else_sound : (around : source.Around) (before : ℕ) (other : Held-Stmt-If-1) → IsElse other → IsSmallElse other → offences_of_else s around other ≡ [] → AreCallable s.names order typed number (calls_of_else other) →
        StandFrom before (formats_of_else s other) typed.formats →
        IsSoundPart typed (record { number = number; gives = is_some s.gives; breakable = around.breakable; continuable = around.continuable }) (else_of s order before other)
    else_sound around before tree.NoElse formed few none called formats = tt
    else_sound around before (tree.Else body) formed few none called formats = statement around before body (body_part body formed.0) few none called formats

    -- the groups of a `switch`
    groups_sound : (around : source.Around) (k : Kind) (before : ℕ) {m : Count} (groups : Row_of-Group m) → GroupsFormed groups → AreSmallGroups groups → offences_of_groups s around groups ≡ [] → AreCallable s.names order typed number (calls_of_groups groups) →
        StandFrom before (formats_of_groups s groups) typed.formats →
        AreSoundGroups typed (record { number = number; gives = is_some s.gives; breakable = around.breakable; continuable = around.continuable }) (groups_of s order k before groups)
    groups_sound around k before end_of-Group formed few none called formats = tt
    groups_sound around k before (more_of-Group labels shape body rest) formed few none called formats =
        let rules = back (flat_map (label_offences s) labels) (offences_of_statements s around body ++ offences_of_groups s around rest) none in
        let others = callable_back (calls_in_labels labels) (calls_of_row body ++ calls_of_groups rest) called in (
          subst (λ n. n < 2 ^ 32) (sym (statements_long before body)) few.1,
          statements around before body formed.0 few.2 (front (offences_of_statements s around body) _ rules) (callable_front (calls_of_row body) (calls_of_groups rest) others)
              (first_part before (formats_of_row s body) (formats_of_groups s rest) typed.formats formats),
          groups_sound around k (before + length (formats_of_row s body)) rest formed.1 few.3 (back (offences_of_statements s around body) _ rules) (callable_back (calls_of_row body) (calls_of_groups rest) others)
              (second_part before (formats_of_row s body) (formats_of_groups s rest) typed.formats formats),
        )
