-- The formats of statements that break no rule: the arrays in them are there and of characters, and no text in them
-- is long.
use mathlib.Core.Former.{Count}
use Rattle.std.proofs.Common.{◌≡◌, ℕ, true, false, List, [], ◌∷◌, ◌++◌, map, Some, None, refl, sym, subst}
use Rattle.std.specs.Prelude.{All, IfSome, filter_map, flat_map}
use Rattle.std.specs.List.{AllByRecursion, list_all, zip}
use Rattle.std.specs.Option.{option_map_or}
use Rattle.std.proofs.lemmas.List.Elements.{filter_map-append}
use Rattle.int_kinds.specs.declared.kinds.Kind.{Kind}
use Rattle.int_kinds.specs.declared.kinds.Kind.TheVariants as kind
use Rattle.write_format.specs.declared.argument.ArgKind.TheVariants as argument
use Rattle.write_format.specs.declared.code.Code.{Code}
use Rattle.write_format.specs.declared.code.Conversion.{Conversion}
use Rattle.write_format.specs.declared.code.Conversion.TheVariants as conversion
use Rattle.write_format.specs.declared.code.Field.{Field}
use Rattle.write_format.specs.declared.piece.Piece.{Piece}
use Rattle.write_format.specs.declared.piece.Piece.TheVariants as piece
use Rattle.write_format.specs.Line.{IsCharArray, cells_of, Element, FormatText, IsShortElement, array_of, char_arrays, element_of, format_elements, before_zero}
use Rattle.write_format.specs.Reading.{piece_at, codes_of, is_fit, pieces_of, pieces_within}
use Rattle.capl_tree.specs.declared.expr.Expr.{Expr, Row_of-Expr, end_of-Expr, more_of-Expr, items-the_row-Expr}
use Rattle.capl_tree.specs.declared.expr.Expr.TheVariants as expr
use Rattle.capl_tree.specs.declared.statement.Stmt.{Stmt, Row_of-Stmt, end_of-Stmt, more_of-Stmt}
use Rattle.capl_tree.specs.declared.statement.Stmt.TheBlock.{Row_of-Arm, end_of-Arm, more_of-Arm, Row_of-Group, end_of-Group, more_of-Group, Held-Stmt-If-1}
use Rattle.capl_tree.specs.declared.statement.Stmt.TheVariants as stmt
use Rattle.capl_tree.specs.Forms as tree
use Rattle.typed_tree.specs.declared.program.Typed.{Typed}
use Rattle.capl_meaning.specs.declared.builtin.Builtin.{Builtin}
use Rattle.capl_meaning.specs.declared.builtin.Builtin.TheVariants as builtin
use Rattle.capl_meaning.specs.declared.sort.Sort.{Sort}
use Rattle.capl_meaning.specs.declared.sort.Sort.TheVariants as sort
use Rattle.capl_meaning.specs.Names.{Callee, OfLanguage, OfProgram, Unknown, Scope, callee}
use Rattle.capl_meaning.specs.Constant.{elements_of}
use Rattle.capl_meaning.specs.Format.{argument_of as sort_argument, shows, quoted_text}
use Rattle.capl_meaning.specs.Message.{array_in}
use Rattle.capl_meaning.specs.Sort.{sort_of}
use Rattle.capl_meaning.specs.Store.{variable_key}
use Rattle.capl_meaning.specs.ExpressionRules.{builtin_rules, call_rules, integer_offences, offences, offences_of_row}
use Rattle.capl_meaning.specs.StatementRules as source
use Rattle.capl_meaning.specs.StatementRules.{alone_offences, in_body, in_loop, label_offences, labels_said, labels_rule, needed_offences, offences_of_arms, offences_of_else, offences_of_groups, offences_of_statements, statement_offences}
use Rattle.typed_laws.specs.Laid.{slot}
use Rattle.typed_laws.proofs.Declared.{all_append}
use Rattle.typed_source.specs.Sound.{HasTables}
use Rattle.typed_source.specs.Statement.{argument_by, argument_of, format_of, formats_of, formats_of_alone, formats_of_arms, formats_of_call, formats_of_else, formats_of_groups, formats_of_part, formats_of_row, formats_written, pieces_written, text_argument, text_written}
use Rattle.sound_programs.specs.Given.{HaveForms}
use Rattle.sound_programs.specs.Small.{AreSmallArms, AreSmallExprs, AreSmallGroups, AreSmallStmts, IsSmallElse, IsSmallExpr, IsSmallStmt}
use Rattle.sound_programs.proofs.Empty.{back, front}
use Rattle.sound_programs.proofs.Fine.{fine_row}
use Rattle.sound_programs.proofs.Named.{Names, names}
use Rattle.sound_programs.proofs.Written.{Fits, and_both, fits, shown_array}

-- ---- the formats of statements, by those of what stands alone

module _ (s : Scope) (P : FormatText → Type 0) (each : (e : Expr) → IsSmallExpr e → offences s e ≡ [] → AllByRecursion P (formats_of_alone s e)) where
  part_formats : (part : _) → IfSome part IsSmallExpr → alone_offences s part ≡ [] → AllByRecursion P (formats_of_part s part)
  part_formats None few none = tt
  part_formats (Some e) few none = each e few (front (offences s e) [] none)

  mutual
    -- a statement
    pub statement_formats : (around : source.Around) (x : Stmt) → IsSmallStmt x → statement_offences s around x ≡ [] → AllByRecursion P (formats_of s x)
    statement_formats around stmt.Empty few none = tt
    statement_formats around (stmt.Block' shape body) few none = row_formats around body few.1 none
    statement_formats around (stmt.Decl declaration) few none = tt
    statement_formats around (stmt.Expr e) few none = each e few none
    statement_formats around (stmt.If' shape arms other) few none =
        all_append P (formats_of_arms s arms) (formats_of_else s other) (arm_formats around arms few.1 (front (offences_of_arms s around arms) _ none)) (else_formats around other few.2 (back (offences_of_arms s around arms) _ none))
    statement_formats around (tree.While given body) few none = statement_formats in_loop body few.1 (back (integer_offences s given) _ none)
    statement_formats around (tree.Do body given) few none = statement_formats in_loop body few.0 (front (statement_offences s in_loop body) _ none)
    statement_formats around (tree.For init given step body) few none =
        let last = back (needed_offences s given) _ (back (alone_offences s init) _ none) in
        all_append P (formats_of_part s init) (formats_of_part s step ++ formats_of s body) (part_formats init few.0 (front (alone_offences s init) _ none))
        (all_append P (formats_of_part s step) (formats_of s body) (part_formats step few.2 (front (alone_offences s step) _ last)) (statement_formats in_loop body few.3 (back (alone_offences s step) _ last)))
    statement_formats around (stmt.Switch' on shape groups) few none =
        group_formats (source.in_switch around) groups few.2 (back (labels_rule s (sort_of s on) (labels_said groups)) _ (back (integer_offences s on) _ none))
    statement_formats around other few none = tt

    row_formats : (around : source.Around) {m : Count} (row : Row_of-Stmt m) → AreSmallStmts row → offences_of_statements s around row ≡ [] → AllByRecursion P (formats_of_row s row)
    row_formats around end_of-Stmt few none = tt
    row_formats around (more_of-Stmt first rest) few none =
        all_append P (formats_of s first) (formats_of_row s rest) (statement_formats around first few.0 (front (statement_offences s around first) _ none)) (row_formats around rest few.1 (back (statement_offences s around first) _ none))

    arm_formats : (around : source.Around) {m : Count} (arms : Row_of-Arm m) → AreSmallArms arms → offences_of_arms s around arms ≡ [] → AllByRecursion P (formats_of_arms s arms)
    arm_formats around end_of-Arm few none = tt
    arm_formats around (more_of-Arm given body rest) few none =
        let rules = back (integer_offences s given) _ none in
        all_append P (formats_of s body) (formats_of_arms s rest) (statement_formats around body few.1 (front (statement_offences s around body) _ rules)) (arm_formats around rest few.2 (back (statement_offences s around body) _ rules))

    else_formats : (around : source.Around) (other : Held-Stmt-If-1) → IsSmallElse other → offences_of_else s around other ≡ [] → AllByRecursion P (formats_of_else s other)
    else_formats around tree.NoElse few none = tt
    else_formats around (tree.Else body) few none = statement_formats around body few none

    group_formats : (around : source.Around) {m : Count} (groups : Row_of-Group m) → AreSmallGroups groups → offences_of_groups s around groups ≡ [] → AllByRecursion P (formats_of_groups s groups)
    group_formats around end_of-Group few none = tt
    group_formats around (more_of-Group labels shape body rest) few none =
        let rules = back (flat_map (label_offences s) labels) (offences_of_statements s around body ++ offences_of_groups s around rest) none in
        all_append P (formats_of_row s body) (formats_of_groups s rest) (row_formats around body few.2 (front (offences_of_statements s around body) _ rules)) (group_formats around rest few.3 (back (offences_of_statements s around body) _ rules))

  -- the statements of a body
  pub body_formats : (body : List Stmt) → AllByRecursion IsSmallStmt body → flat_map (statement_offences s in_body) body ≡ [] → AllByRecursion P (flat_map (formats_of s) body)
  body_formats [] few none = tt
  body_formats (first ∷ rest) few none =
      all_append P (formats_of s first) (flat_map (formats_of s) rest) (statement_formats in_body first few.0 (front (statement_offences s in_body first) _ none)) (body_formats rest few.1 (back (statement_offences s in_body first) _ none))

-- ---- what stands alone

module _ (s : Scope) (forms : HaveForms s.names) (P : FormatText → Type 0)
    (written : (format : Expr) (arguments : List Expr) (fit : Fits s format arguments) → IsSmallExpr format → AllByRecursion IsSmallExpr arguments → P (format_of s (text_written format) fit.pieces arguments)) where
  all_small : {m : Count} (row : Row_of-Expr m) → AreSmallExprs row → AllByRecursion IsSmallExpr (items-the_row-Expr m row)
  all_small end_of-Expr few = tt
  all_small (more_of-Expr first rest) few = (few.0, all_small rest few.1)

  write_format : (format : Expr) (arguments : List Expr) (fit : Fits s format arguments) → IsSmallExpr format → AllByRecursion IsSmallExpr arguments →
      AllByRecursion P (formats_written s (text_written format) (pieces_written s format arguments) arguments)
  write_format format arguments fit few others = subst (λ o. AllByRecursion P (formats_written s (text_written format) o arguments)) (sym fit.are) (written format arguments fit few others, tt)

  builtin_formats : (at : ℕ) (b : Builtin) {m : Count} (row : Row_of-Expr m) → AreSmallExprs row → offences_of_row s row ≡ [] → builtin_rules s at b (items-the_row-Expr m row) ≡ [] →
      AllByRecursion P (formats_of_call s (OfLanguage b) (items-the_row-Expr m row))
  builtin_formats at builtin.Write end_of-Expr few none rules = tt
  builtin_formats at builtin.Write (more_of-Expr format rest) few none rules =
      let good = fine_row s forms (more_of-Expr format rest) none in
      write_format format (items-the_row-Expr _ rest) (fits s format rest good.0 good.1 rules) few.0 (all_small rest few.1)
  builtin_formats at other row few none rules = tt

  call_formats : (at : ℕ) (c : Callee) {m : Count} (row : Row_of-Expr m) → AreSmallExprs row → offences_of_row s row ≡ [] → call_rules s at c (items-the_row-Expr m row) ≡ [] →
      AllByRecursion P (formats_of_call s c (items-the_row-Expr m row))
  call_formats at (OfLanguage b) row few none rules = builtin_formats at b row few none rules
  call_formats at (OfProgram f) row few none rules = tt
  call_formats at Unknown row few none rules = tt

  -- an expression that stands alone
  pub alone_formats : (e : Expr) → IsSmallExpr e → offences s e ≡ [] → AllByRecursion P (formats_of_alone s e)
  alone_formats (tree.Paren inner at) few none = alone_formats inner few none
  alone_formats (expr.Call' name shape args at) few none = call_formats at (callee s.names name) args few.1 (front (offences_of_row s args) _ none) (back (offences_of_row s args) _ none)
  alone_formats other few none = tt

-- ---- arrays

module _ (typed : Typed) (s : Scope) (tables : HasTables s.names typed) where
  -- the arrays of a part of a format are there
  abbrev Arrays : List Element → Type 0
  Arrays elements = AllByRecursion (IsCharArray typed.cells) (filter_map array_of elements)

  number_arrays : (field : Field) (c : Conversion) (k : Kind) → Arrays (element_of field c (argument.Number k))
  number_arrays field (conversion.Number j digits) k = tt
  number_arrays field conversion.Character k = tt
  number_arrays field conversion.Text k = tt

  text_arrays : (field : Field) (c : Conversion) (text : List ℕ) → Arrays (element_of field c (argument.Str text))
  text_arrays field (conversion.Number j digits) text = tt
  text_arrays field conversion.Character text = tt
  text_arrays field conversion.Text text = tt

  -- an array of characters is there
  array_there : (e : Expr) → Names s e (sort.Array kind.Char) → (field : Field) → Arrays (element_of field conversion.Text (text_argument s.names (quoted_text e) (array_in s e)))
  array_there e named field =
      let table = tables.arrays named.variable kind.Char named.fixed named.size named.form in
      subst (λ o. Arrays (element_of field conversion.Text (text_argument s.names o (array_in s e)))) (sym named.no_text)
      (subst (λ o. Arrays (element_of field conversion.Text (text_argument s.names None o))) (sym named.is) (
        record {
          there = table.0.there;
          characters = subst (λ j. All (λ k. k ≡ j) (cells_of (slot s.names (variable_key named.variable)) (elements_of s.names named.variable) typed.cells)) table.1 table.0.of_one_kind;
        },
        tt,
      ))

  -- the arrays of an argument that its code shows
  shown_arrays : (field : Field) (c : Conversion) (e : Expr) (g : Sort) → Names s e g → option_map_or (is_fit c) (sort_argument g) false ≡ true →
      Arrays (element_of field c (argument_by g (text_argument s.names (quoted_text e) (array_in s e))))
  shown_arrays field c e (sort.Number k) named is = number_arrays field c k
  shown_arrays field c e sort.Text named is =
      subst (λ o. Arrays (element_of field c (text_argument s.names o (array_in s e)))) (sym named.1) (text_arrays field c named.0)
  shown_arrays field c e (sort.Array k) named is =
      let fit = shown_array c k is in
      subst (λ d. Arrays (element_of field d (text_argument s.names (quoted_text e) (array_in s e)))) (sym fit.1)
      (array_there e (subst (λ j. Names s e (sort.Array j)) fit.0 named) field)
  shown_arrays field c e other named is = absurd (let f : false ≡ true = is in cc)

  -- all arrays of a format
  all_arrays : (pieces : List Piece) (es : List Expr) → list_all (λ (pair : Code × Sort). shows pair.0 pair.1) (zip (codes_of pieces) (map (sort_of s) es)) ≡ true →
      Arrays (format_elements pieces (map (argument_of s) es))
  all_arrays [] es all = tt
  all_arrays (piece.Byte byte ∷ pieces) es all = all_arrays pieces es all
  all_arrays (piece.Argument code ∷ pieces) [] all = all_arrays pieces [] (none_left (codes_of pieces))
    where
      none_left : (found : List Code) → list_all (λ (pair : Code × Sort). shows pair.0 pair.1) (zip found []) ≡ true
      none_left [] = refl
      none_left (code ∷ found) = refl
  all_arrays (piece.Argument code ∷ pieces) (e ∷ es) all =
      let both = and_both (shows code (sort_of s e)) _ all in
      subst (λ l. AllByRecursion (IsCharArray typed.cells) l) (sym (filter_map-append array_of (element_of code.field code.conversion (argument_of s e)) (format_elements pieces (map (argument_of s) es))))
      (all_append (IsCharArray typed.cells) (filter_map array_of (element_of code.field code.conversion (argument_of s e))) (filter_map array_of (format_elements pieces (map (argument_of s) es)))
      (shown_arrays code.field code.conversion e (sort_of s e) (names s e) both.0) (all_arrays pieces es both.1))

  -- the arrays of a format of a `write`
  pub written_arrays : (format : Expr) (arguments : List Expr) (fit : Fits s format arguments) → AllByRecursion (IsCharArray typed.cells) (char_arrays (format_of s (text_written format) fit.pieces arguments))
  written_arrays format arguments fit = all_arrays fit.pieces arguments fit.shown
