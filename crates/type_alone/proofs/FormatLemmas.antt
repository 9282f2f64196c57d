-- A format that shows the sorts of arguments fits the arguments.
use Rattle.std.proofs.Common.{◌≡◌, ◌∙◌, ℕ, Bool, true, false, List, [], ◌∷◌, Option, Some, None, length, map, refl, ap, sym, subst, arith}
use Rattle.std.specs.Prelude.{◌==◌, ◌&&◌, cond, if◌then◌else◌, not, nat_lt, position}
use Rattle.std.specs.List.{list_all, position_or_len, zip}
use Rattle.std.specs.Option.{option_and_then, option_map, option_map_or}
use Rattle.std.proofs.lemmas.Bool.{eqb-true, ltb-true}
use Rattle.std.proofs.lemmas.List.{length-map}
use Rattle.std.proofs.lemmas.Option.{none-some}
use Rattle.int_kinds.specs.declared.kinds.Kind.{Kind}
use Rattle.int_kinds.specs.declared.kinds.Kind.TheVariants.{Char}
use Rattle.write_format.specs.declared.argument.ArgKind.{ArgKind}
use Rattle.write_format.specs.declared.argument.ArgKind.TheVariants as argument
use Rattle.write_format.specs.declared.code.Code.{Code}
use Rattle.write_format.specs.declared.code.Conversion.{Conversion}
use Rattle.write_format.specs.declared.code.Conversion.TheVariants as conversion
use Rattle.write_format.specs.declared.piece.Piece.{Piece}
use Rattle.write_format.specs.Line.{FormatText, format_elements}
use Rattle.write_format.specs.Reading.{AreSpelled, HasCodesFor, IsFirstUnfit, codes_of, first_unfit, is_fit, pieces_of}
use Rattle.capl_tree.specs.declared.expr.Expr.{Expr}
use Rattle.capl_meaning.specs.declared.sort.Sort.{Sort}
use Rattle.capl_meaning.specs.declared.sort.Sort.TheVariants as sort
use Rattle.capl_meaning.specs.Format as meant
use Rattle.capl_meaning.specs.Format.{array_argument, format_codes, show_all, shows, quoted_text}
use Rattle.capl_meaning.specs.Message.{array_in}
use Rattle.capl_meaning.specs.Names.{Names, Scope}
use Rattle.capl_meaning.specs.Sort.{sort_of}
use Rattle.capl_meaning.specs.Variable.{Variable}
use Rattle.capl_meaning.specs.Statement.{fitting_pieces}
use Rattle.check_sorts.specs.Format.{shown}
use Rattle.typed_tree.specs.declared.statement.TStmt.TheVariants.{Empty, Write}
use Rattle.type_alone.specs.Write.{AreMadeOf, FitFor, IsRead, format_written}
use Rattle.typed_source.specs.Statement.{argument_by, argument_of, format_of, formats_written, numbers_of, pieces_written, text_argument, text_written, writing}

-- the code of a text shows what is no number
text_fits : (names : Names) (text : Option (List ℕ)) (array : Option Variable) → is_fit conversion.Text (text_argument names text array) ≡ true
text_fits names (Some text) array = refl
text_fits names None (Some v) = refl
text_fits names None None = refl

-- a code that shows an array or a text shows each argument that is no number
shows_texts : (names : Names) (text : Option (List ℕ)) (array : Option Variable) (c : Conversion) → is_fit c (argument.Str []) ≡ true →
    is_fit c (text_argument names text array) ≡ true
shows_texts names text array (conversion.Number kind digits) is = absurd (let f : false ≡ true = is in cc)
shows_texts names text array conversion.Character is = absurd (let f : false ≡ true = is in cc)
shows_texts names text array conversion.Text is = text_fits names text array

-- no code shows an array as an array alone
as_text : (c : Conversion) (k : Kind) → option_map_or (is_fit c) (array_argument k) false ≡ true → is_fit c (argument.Str []) ≡ true
as_text (conversion.Number kind digits) Char is = absurd (let f : false ≡ true = is in cc)
as_text conversion.Character Char is = absurd (let f : false ≡ true = is in cc)
as_text conversion.Text Char is = refl
as_text c k is = absurd (let f : false ≡ true = is in cc)

-- a code that shows an expression of a sort shows what is made of it
shows_made : (s : Scope) (code : Code) (e : Expr) → shows code (sort_of s e) ≡ true → is_fit code.conversion (argument_of s e) ≡ true
shows_made s code e is = by code.conversion (sort_of s e) is
  where
    text : ArgKind
    text = text_argument s.names (quoted_text e) (array_in s e)

    by : (c : Conversion) (given : Sort) → option_map_or (is_fit c) (meant.argument_of given) false ≡ true → is_fit c (argument_by given text) ≡ true
    by c (sort.Number k) is = is
    by c (sort.Array k) is = shows_texts s.names (quoted_text e) (array_in s e) c (as_text c k is)
    by c sort.Text is = shows_texts s.names (quoted_text e) (array_in s e) c is
    by c given is = absurd (let f : false ≡ true = is in cc)

both : (a b : Bool) → a && b ≡ true → (a ≡ true) × (b ≡ true)
both true b is = (refl, is)
both false b is = absurd (let f : false ≡ true = is in cc)

-- each code shows what is made
all_made : (s : Scope) (codes : List Code) (es : List Expr) → list_all (λ pair. shows pair.0 pair.1) (zip codes (map (sort_of s) es)) ≡ true →
    position_or_len (λ pair. not (is_fit (pair.0).conversion pair.1)) (zip codes (map (argument_of s) es))
    ≡ length (zip codes (map (argument_of s) es))
all_made s [] es is = refl
all_made s (code ∷ codes) [] is = refl
all_made s (code ∷ codes) (e ∷ es) is =
    let parts = both (shows code (sort_of s e)) (list_all (λ pair. shows pair.0 pair.1) (zip codes (map (sort_of s) es))) is in
    let more = all_made s codes es parts.1 in
    rw (shows_made s code e parts.0) (omega (arith, more))

-- nothing passes a test
no_position : {X : Type 0} (p : X → Bool) (xs : List X) → position_or_len p xs ≡ length xs → position p xs ≡ None
no_position p xs same = by (nat_lt (position_or_len p xs) (length xs)) refl
  where
    by : (b : Bool) → nat_lt (position_or_len p xs) (length xs) ≡ b → cond b (Some (position_or_len p xs)) None ≡ None
    by true e = absurd (omega (arith, same, ltb-true (position_or_len p xs) (length xs) e))
    by false e = refl

-- so none is unfit
none_unfit : (s : Scope) (codes : List Code) (es : List Expr) → list_all (λ pair. shows pair.0 pair.1) (zip codes (map (sort_of s) es)) ≡ true →
    first_unfit codes (map (argument_of s) es) ≡ None
none_unfit s codes es is =
    no_position (λ pair. not (is_fit (pair.0).conversion pair.1)) (zip codes (map (argument_of s) es)) (all_made s codes es is)

-- a text that shows all sorts fits what is made
pub fit_for : (s : Scope) (text : List ℕ) (es : List Expr) (sorts : List Sort) (kinds : List ArgKind) → sorts ≡ map (sort_of s) es →
    kinds ≡ map (argument_of s) es → option_map_or (λ found. show_all found sorts) (format_codes text) false ≡ true → FitFor text kinds
fit_for s text es sorts kinds sorts_are kinds_are shown =
    by (pieces_of text) refl
    (subst (λ (all : List Sort). option_map_or (λ found. show_all found all) (format_codes text) false ≡ true) sorts_are shown)
  where
    by : (found : Option (List Piece)) → pieces_of text ≡ found →
        option_map_or (λ codes. show_all codes (map (sort_of s) es)) (option_map codes_of found) false ≡ true → FitFor text kinds
    by None is all = absurd (let f : false ≡ true = all in cc)
    by (Some pieces) is all =
        let codes = codes_of pieces in
        let parts = both (length codes == length (map (sort_of s) es)) (list_all (λ pair. shows pair.0 pair.1) (zip codes (map (sort_of s) es))) all in
        record {
          pieces = pieces;
          read = is;
          count = eqb-true (length codes) (length (map (sort_of s) es)) parts.0 ∙ length-map es (sort_of s) ∙ sym (length-map es (argument_of s))
              ∙ sym (ap (λ (l : List ArgKind). length l) kinds_are);
          fit = ap (first_unfit codes) kinds_are ∙ none_unfit s codes es parts.1;
        }

-- one reading alone fits
none_wrong : (text : List ℕ) (arguments : List ArgKind) → FitFor text arguments →
    ((t : List ℕ) (pieces : List Piece) → AreSpelled t pieces → pieces_of t ≡ Some pieces) →
    (place : ℕ) → IsFirstUnfit text arguments place → ⊥
none_wrong text arguments fit found place unfit =
    let same : fit.pieces ≡ unfit.0 = let e : Some fit.pieces ≡ Some unfit.0 = sym fit.read ∙ found text unfit.0 unfit.1.spelled in cc in
    none-some place (sym fit.fit ∙ ap (λ (ps : List Piece). first_unfit (codes_of ps) arguments) same ∙ unfit.2)

-- and it has the codes
has_codes : (text : List ℕ) (arguments : List ArgKind) → FitFor text arguments →
    ((t : List ℕ) (pieces : List Piece) → pieces_of t ≡ Some pieces → AreSpelled t pieces) → HasCodesFor text arguments
has_codes text arguments fit spelled = (fit.pieces, record { spelled = spelled text fit.pieces fit.read; count = fit.count })

-- so nothing is wrong with it
pub never_wrong : (text : List ℕ) (arguments : List ArgKind) → FitFor text arguments →
    ((t : List ℕ) (pieces : List Piece) → AreSpelled t pieces → pieces_of t ≡ Some pieces) →
    ((t : List ℕ) (pieces : List Piece) → pieces_of t ≡ Some pieces → AreSpelled t pieces) → (arg : Option ℕ) →
    (arg ≡ None → ¬ (HasCodesFor text arguments)) → ((place : ℕ) → arg ≡ Some place → IsFirstUnfit text arguments place) → ⊥
never_wrong text arguments fit found spelled None wrong unfit = wrong refl (has_codes text arguments fit spelled)
never_wrong text arguments fit found spelled (Some place) wrong unfit = none_wrong text arguments fit found place (unfit place refl)

-- ---- the format of a `write`

-- without a text it has none
pub none_of_no_text : (s : Scope) (format : Expr) (all : List Expr) → quoted_text format ≡ None → None ≡ format_written s format all
none_of_no_text s format all is =
    sym (ap (λ text. option_map (λ pieces. format_of s (text_written format) pieces all) (fitting_pieces (map (sort_of s) all) text)) is)

-- nor where its text does not show its arguments
pub none_of_unshown : (s : Scope) (format : Expr) (all : List Expr) (kinds : List ArgKind) (sorts : List Sort) (text : List ℕ) →
    AreMadeOf s all kinds sorts → quoted_text format ≡ Some text → shown (format_codes text) sorts ≡ false → None ≡ format_written s format all
none_of_unshown s format all kinds sorts text made text_is unshown =
    by (pieces_of text) (sym (ap (shown (format_codes text)) made.sorts_are) ∙ unshown)
    ∙ sym (ap (λ text. option_map made_of (fitting_pieces (map (sort_of s) all) text)) text_is)
  where
    made_of : List Piece → FormatText
    made_of pieces = format_of s (text_written format) pieces all

    by : (found : Option (List Piece)) → option_map_or (λ codes. show_all codes (map (sort_of s) all)) (option_map codes_of found) false ≡ false →
        None ≡ option_map made_of (option_and_then (λ pieces. if show_all (codes_of pieces) (map (sort_of s) all) then Some pieces else None) found)
    by None h = refl
    by (Some pieces) h = sym (ap (λ b. option_map made_of (if b then Some pieces else None)) h)

-- it has the one that was read where its text shows its arguments
pub some_of_shown : (s : Scope) (format : Expr) (all : List Expr) (kinds : List ArgKind) (sorts : List Sort) (text : List ℕ) (read : FormatText) →
    AreMadeOf s all kinds sorts → quoted_text format ≡ Some text → shown (format_codes text) sorts ≡ true → IsRead text kinds read →
    Some read ≡ format_written s format all
some_of_shown s format all kinds sorts text read made text_is is_shown is =
    let here : List Sort = map (sort_of s) all in
    let by_parts : List ℕ → List ArgKind → FormatText = λ t ks. record { text = t; arguments = ks; elements = format_elements is.pieces ks } in
    let fits : show_all (codes_of is.pieces) here ≡ true =
    sym (ap (λ found. option_map_or (λ codes. show_all codes here) (option_map codes_of found) false) is.read)
    ∙ sym (ap (shown (format_codes text)) made.sorts_are) ∙ is_shown in
    let pieces : pieces_written s format all ≡ Some is.pieces =
    ap (fitting_pieces here) text_is
    ∙ ap (option_and_then (λ pieces. if show_all (codes_of pieces) here then Some pieces else None)) is.read
    ∙ ap (λ b. if b then Some is.pieces else None) fits in
    ap Some (is.same ∙ ap (by_parts text) made.kinds_are
    ∙ ap (λ t. by_parts t (map (argument_of s) all)) (sym (ap (λ t. option_map_or (λ text. text) t []) text_is)))
    ∙ sym (ap (option_map (λ pieces. format_of s (text_written format) pieces all)) pieces)

-- what is written where there is no format
pub record IsNothingWritten (s : Scope) (format : Expr) (all : List Expr) : Type 0 where
  pub none : formats_written s (text_written format) (pieces_written s format all) all ≡ []
  pub empty : (order : List ℕ) (number : ℕ) → writing s order number (pieces_written s format all) all ≡ Empty

-- nothing is written where there is no format
pub nothing_written : (s : Scope) (format : Expr) (all : List Expr) → None ≡ format_written s format all → IsNothingWritten s format all
nothing_written s format all is =
    let no_pieces = by (pieces_written s format all) is in
    record {
      none = ap (λ pieces. formats_written s (text_written format) pieces all) no_pieces;
      empty = λ order number. ap (λ pieces. writing s order number pieces all) no_pieces;
    }
  where
    by : (pieces : Option (List Piece)) → None ≡ option_map (λ pieces. format_of s (text_written format) pieces all) pieces → pieces ≡ None
    by None h = refl
    by (Some pieces) h = absurd (let f : None ≡ Some (format_of s (text_written format) pieces all) = h in cc)

-- what is written where there is one
pub record IsWritten (s : Scope) (format : Expr) (all : List Expr) (read : FormatText) : Type 0 where
  pub one : formats_written s (text_written format) (pieces_written s format all) all ≡ read ∷ []
  pub tree : (order : List ℕ) (number : ℕ) → writing s order number (pieces_written s format all) all ≡ Write number (numbers_of s order all)

-- its format is written where there is one
pub is_written : (s : Scope) (format : Expr) (all : List Expr) (read : FormatText) → Some read ≡ format_written s format all → IsWritten s format all read
is_written s format all read is = by (pieces_written s format all) refl is
  where
    by : (pieces : Option (List Piece)) → pieces_written s format all ≡ pieces →
        Some read ≡ option_map (λ pieces. format_of s (text_written format) pieces all) pieces → IsWritten s format all read
    by None known h = absurd (let f : Some read ≡ None = h in cc)
    by (Some pieces) known h =
        let same : format_of s (text_written format) pieces all ≡ read =
        let f : Some read ≡ Some (format_of s (text_written format) pieces all) = h in cc in
        record {
          one = ap (λ pieces. formats_written s (text_written format) pieces all) known ∙ ap (λ one. one ∷ []) same;
          tree = λ order number. ap (λ pieces. writing s order number pieces all) known;
        }
