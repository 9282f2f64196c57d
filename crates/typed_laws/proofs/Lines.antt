-- The line of a format, with arrays in cells and with their texts.
use Rattle.std.proofs.Common.{◌≡◌, ℕ, Bool, true, false, List, [], ◌∷◌, ◌++◌, Some, refl, sym, ap, ◌∙◌}
use Rattle.std.specs.Prelude.{ℤ, cond, drop, filter, if◌then◌else◌, map, take, unsigned_abs, unwrap_or}
use Rattle.std.specs.List.{AllZip}
use Rattle.std.specs.Option.{option_map_or}
use Rattle.write_format.specs.declared.argument.ArgKind.{ArgKind}
use Rattle.write_format.specs.declared.argument.ArgKind.TheVariants as argument
use Rattle.write_format.specs.declared.code.Conversion.{Conversion}
use Rattle.write_format.specs.declared.code.Conversion.TheVariants as conversion
use Rattle.write_format.specs.declared.code.Field.{Field}
use Rattle.write_format.specs.declared.piece.Piece.{Piece}
use Rattle.write_format.specs.declared.piece.Piece.TheVariants as piece
use Rattle.write_format.specs.Line.{Element, element_of, format_elements, before_zero, character_of, filled, first_argument, line_of, number_text}
use Rattle.control_flow.specs.World.{World, and_then, run_map}
use Rattle.capl_tree.specs.declared.expr.Expr.{Expr}
use Rattle.typed_tree.specs.declared.expression.TExpr.{TExpr}
use Rattle.typed_tree.specs.Statement as typed_statement
use Rattle.capl_meaning.specs.declared.sort.Sort.{Sort}
use Rattle.capl_meaning.specs.declared.sort.Sort.TheVariants as sort
use Rattle.capl_meaning.specs.Variable.{Variable}
use Rattle.capl_meaning.specs.Names.{Scope}
use Rattle.capl_meaning.specs.Message.{array_in}
use Rattle.capl_meaning.specs.Sort.{is_number, sort_of}
use Rattle.capl_meaning.specs.Constant.{elements_of}
use Rattle.capl_meaning.specs.Store.{Store, This, variable_key}
use Rattle.capl_meaning.specs.Expression as source
use Rattle.capl_meaning.specs.Statement as source_statement
use Rattle.capl_meaning.specs.Statement.{argument_by, characters_of, text_of}
use Rattle.typed_laws.specs.Laid.{AreDistinct, laid, laid_run, slot}
use Rattle.typed_laws.specs.Agreement.{Beside, GivesAs, IsArgument, source_setting, typed_setting}
use Rattle.typed_laws.proofs.Cells.{all_cells, array_laid}
use Rattle.typed_laws.proofs.Places.{array_named}
use Rattle.typed_laws.proofs.Runs.{map_same, then_same}

-- an argument that is no number is its text
text_argument : (text : List ℕ) (given : Sort) → is_number given ≡ false → argument_by text given ≡ argument.Str text
text_argument text (sort.Number k) h = absurd (let e : true ≡ false = h in cc)
text_argument text (sort.Array k) h = refl
text_argument text sort.Message h = refl
text_argument text sort.Timer h = refl
text_argument text sort.Text h = refl
text_argument text sort.Nothing h = refl
text_argument text sort.Bad h = refl

module _ (s : source.Setting) (distinct : AreDistinct s.scope.names.variables) (this : This) (store : Store) where
  -- an argument, when the line is made
  abbrev when_made : Expr → ArgKind
  when_made e = argument_by (text_of s store e) (sort_of s.scope e)

  abbrev cells_now : List ℤ
  cells_now = all_cells s.scope.names this store

  -- the characters of an array are those in its cells
  characters_laid : (e : Expr) (v : Variable) → array_in s.scope e ≡ Some v → map unsigned_abs (take (elements_of s.scope.names v) (drop (slot s.scope.names (variable_key v)) cells_now)) ≡ characters_of s store v
  characters_laid e v is =
      let array = array_named s.scope e v is in
      ap (map unsigned_abs) (array_laid s.scope.names distinct this store v array.kind array.fixed array.size_given array.form)

  -- a code with an argument shows the same
  shown_same : (field : Field) (c : Conversion) (e : Expr) (k : ArgKind) → IsArgument s.scope e k → (rest rest' : List Element) → ((ns : List ℤ) → line_of rest ns cells_now ≡ line_of rest' ns []) → (ns : List ℤ) →
      line_of (element_of field c k ++ rest) ns cells_now ≡ line_of (element_of field c (when_made e) ++ rest') ns []
  shown_same field c e (argument.Number given) is rest rest' same ns =
      go c ∙ ap (λ a. line_of (element_of field c a ++ rest') ns []) (sym (ap (argument_by (text_of s store e)) is))
    where
      go : (c : Conversion) → line_of (element_of field c (argument.Number given) ++ rest) ns cells_now ≡ line_of (element_of field c (argument.Number given) ++ rest') ns []
      go (conversion.Number kind digits) = ap (λ l. number_text field kind digits (first_argument ns) ++ l) (same (drop 1 ns))
      go conversion.Character = ap (λ l. filled field (character_of (first_argument ns)) ++ l) (same (drop 1 ns))
      go conversion.Text = same ns
  shown_same field c e (argument.Str text) is rest rest' same ns =
      go c ∙ ap (λ a. line_of (element_of field c a ++ rest') ns []) (sym (text_argument (text_of s store e) (sort_of s.scope e) is.0 ∙ ap argument.Str known))
    where
      known : text_of s store e ≡ text
      known = ap (λ o. unwrap_or o (option_map_or (characters_of s store) (array_in s.scope e) [])) is.1

      go : (c : Conversion) → line_of (element_of field c (argument.Str text) ++ rest) ns cells_now ≡ line_of (element_of field c (argument.Str text) ++ rest') ns []
      go (conversion.Number kind digits) = same ns
      go conversion.Character = same ns
      go conversion.Text = ap (λ l. filled field (before_zero text) ++ l) (same ns)
  shown_same field c e (argument.Chars base len) is rest rest' same ns =
      go c ∙ ap (λ a. line_of (element_of field c a ++ rest') ns []) (sym (text_argument (text_of s store e) (sort_of s.scope e) is.2 ∙ ap argument.Str known))
    where
      v : Variable
      v = is.0

      text : List ℕ
      text = characters_of s store v

      known : text_of s store e ≡ text
      known = ap (λ o. unwrap_or o (option_map_or (characters_of s store) (array_in s.scope e) [])) is.3 ∙ ap (λ o. option_map_or (characters_of s store) o []) is.1

      in_cells : before_zero (map unsigned_abs (take len (drop base cells_now))) ≡ before_zero text
      in_cells = ap (λ n. before_zero (map unsigned_abs (take n (drop base cells_now)))) is.5 ∙ ap (λ n. before_zero (map unsigned_abs (take (elements_of s.scope.names v) (drop n cells_now)))) (is.4 distinct)
          ∙ ap before_zero (characters_laid e v is.1)

      go : (c : Conversion) → line_of (element_of field c (argument.Chars base len) ++ rest) ns cells_now ≡ line_of (element_of field c (argument.Str text) ++ rest') ns []
      go (conversion.Number kind digits) = same ns
      go conversion.Character = same ns
      go conversion.Text = ap (λ l. filled field l ++ line_of rest ns cells_now) in_cells ∙ ap (λ l. filled field (before_zero text) ++ l) (same ns)

  -- the line of a format
  pub line_same : (pieces : List Piece) (es : List Expr) (ks : List ArgKind) → AllZip (IsArgument s.scope) es ks → (ns : List ℤ) →
      line_of (format_elements pieces ks) ns cells_now ≡ line_of (format_elements pieces (map when_made es)) ns []
  line_same [] es ks h ns = refl
  line_same (piece.Byte byte ∷ pieces) es ks h ns = ap (λ l. byte ∷ l) (line_same pieces es ks h ns)
  line_same (piece.Argument code ∷ pieces) [] [] h ns = line_same pieces [] [] h ns
  line_same (piece.Argument code ∷ pieces) [] (k ∷ ks) h ns = elim h [ ]
  line_same (piece.Argument code ∷ pieces) (e ∷ es) [] h ns = elim h [ ]
  line_same (piece.Argument code ∷ pieces) (e ∷ es) (k ∷ ks) h ns =
      shown_same code.field code.conversion e k h.0 (format_elements pieces ks) (format_elements pieces (map when_made es)) (λ ns. line_same pieces es ks h.1 ns) ns

module _ (scope : Scope) (order : List ℕ) (b : Beside scope.names order) where
  -- the numbers of a line, from left to right
  pub numbers_same : (es : List Expr) (us : List TExpr) → AllZip (GivesAs scope order) (filter (λ e. is_number (sort_of scope e)) es) us → (w : World source.Memory) →
      typed_statement.numbers_of (typed_setting b) b.typed_call us (laid scope.names b.this w) ≡ laid_run scope.names b.this (source_statement.numbers_of (source_setting b scope) b.call es w)
  numbers_same [] [] h w = refl
  numbers_same [] (u ∷ us) h w = elim h [ ]
  numbers_same (e ∷ es) us h w = go (is_number (sort_of scope e)) us h (λ us h w. numbers_same es us h w)
    where
      go : (t : Bool) (us : List TExpr) → AllZip (GivesAs scope order) (cond t (e ∷ filter (λ e. is_number (sort_of scope e)) es) (filter (λ e. is_number (sort_of scope e)) es)) us →
          ((us : List TExpr) → AllZip (GivesAs scope order) (filter (λ e. is_number (sort_of scope e)) es) us → (w : World source.Memory) →
          typed_statement.numbers_of (typed_setting b) b.typed_call us (laid scope.names b.this w) ≡ laid_run scope.names b.this (source_statement.numbers_of (source_setting b scope) b.call es w)) →
          typed_statement.numbers_of (typed_setting b) b.typed_call us (laid scope.names b.this w) ≡
          laid_run scope.names b.this (if t then and_then (source.value_of (source_setting b scope) b.call e w) (λ n w. run_map (λ ns. n ∷ ns) (source_statement.numbers_of (source_setting b scope) b.call es w))
          else source_statement.numbers_of (source_setting b scope) b.call es w)
      go false us h rest = rest us h w
      go true [] h rest = elim h [ ]
      go true (u ∷ us) h rest =
          then_same scope.names b.this (λ n. n) (λ ns. ns) (source.value_of (source_setting b scope) b.call e w) _ _ (λ n w. run_map (λ ns. n ∷ ns) (typed_statement.numbers_of (typed_setting b) b.typed_call us w)) (h.0.same b w) (λ n w.
          map_same scope.names b.this (λ ns. n ∷ ns) (λ ns. n ∷ ns) _ _ (rest us h.1 w) (λ ns. refl))
