-- Which expressions are of the sort of a text or an array: texts and names, in parentheses; and so an argument of
-- `write` that fits its code is a number, a text or the cells of an array.
use Rattle.std.proofs.Common.{◌≡◌, ℕ, Bool, true, false, ◌&&◌, List, [], ◌∷◌, length, Option, Some, None, refl, sym, ap, ◌∙◌, subst, arith}
use Rattle.std.specs.Prelude.{⊤, ◌==◌, if◌then◌else◌, map, nat_le}
use Rattle.std.specs.List.{AllZip, list_all, zip}
use Rattle.std.specs.Option.{option_and_then, option_map_or}
use Rattle.std.proofs.lemmas.Bool.{eqb-true}
use Rattle.int_kinds.specs.declared.kinds.Kind.{Kind}
use Rattle.int_kinds.specs.declared.kinds.Kind.TheVariants as kind
use Rattle.int_kinds.specs.declared.operators.BinOp.{BinOp}
use Rattle.int_kinds.specs.declared.operators.UnOp.{UnOp}
use Rattle.int_kinds.specs.declared.operators.UnOp.TheVariants as prefix
use Rattle.write_format.specs.declared.code.Code.{Code}
use Rattle.write_format.specs.declared.piece.Piece.{Piece}
use Rattle.write_format.specs.Reading.{codes_of, pieces_of}
use Rattle.texts.specs.declared.text.Text.{Text}
use Rattle.capl_tree.specs.declared.expr.Expr.{Expr}
use Rattle.capl_tree.specs.declared.expr.Expr.TheVariants as expr
use Rattle.capl_tree.specs.declared.expr.Field.{Field}
use Rattle.capl_tree.specs.declared.expr.Field.TheVariants.{Named}
use Rattle.capl_tree.specs.Forms as tree
use Rattle.capl_meaning.specs.declared.builtin.Builtin.{Builtin}
use Rattle.capl_meaning.specs.declared.builtin.Builtin.TheVariants as builtin
use Rattle.capl_meaning.specs.declared.sort.Sort.{Sort}
use Rattle.capl_meaning.specs.declared.sort.Sort.TheVariants as sort
use Rattle.capl_meaning.specs.Variable.{Form, Number, Array, Message, Timer, Misfit, Variable}
use Rattle.capl_meaning.specs.Names.{Callee, OfLanguage, OfProgram, Unknown, Scope, ThisForm, NoThis, ThisFrame, ThisKey, callee, direction, means}
use Rattle.capl_meaning.specs.Format.{first_text, format_codes, show_all, shows, quoted_text}
use Rattle.capl_meaning.specs.Message.{Held, NamedMember, IsField, IsSignal, IsUnusable, IsUnknown, array_by, array_in, is_number_place, is_open_number, member_named, message_in, signals_of}
use Rattle.capl_meaning.specs.Sort.{is_number, number_from, sort_given, sort_of, sort_of_assignment, sort_of_binary, sort_of_builtin, sort_of_call, sort_of_choice, sort_of_direction, sort_of_element, sort_of_form, sort_of_member, sort_of_name, sort_of_number, sort_of_part, sort_of_prefix, sort_of_step, sort_of_this, sorts_of}
use Rattle.capl_meaning.specs.Statement.{fitting_pieces}
use Rattle.typed_laws.specs.Agreement.{IsArgument}
use Rattle.typed_source.specs.Statement.{argument_by, argument_of, text_argument}

-- ---- sorts that are neither a text nor an array

abbrev IsPlain : Sort → Type 0
IsPlain sort.Text = ⊥
IsPlain (sort.Array k) = ⊥
IsPlain _ = ⊤

plain_if : (b : Bool) (one other : Sort) → IsPlain one → IsPlain other → IsPlain (if b then one else other)
plain_if true one other f g = f
plain_if false one other f g = g

plain_number : (value : Option ℕ) (extended : Bool) → IsPlain (sort_of_number value extended)
plain_number None extended = tt
plain_number (Some n) false = tt
plain_number (Some n) true = plain_if (nat_le n 0x1FFFFFFF) _ _ tt tt

plain_this : (form : ThisForm) → IsPlain (sort_of_this form)
plain_this NoThis = tt
plain_this (ThisFrame signals) = tt
plain_this ThisKey = tt

plain_from : (given : Sort) (k : Kind) → IsPlain (number_from given k)
plain_from (sort.Number j) k = tt
plain_from given k = tt

plain_element : (base index : Sort) → IsPlain (sort_of_element base index)
plain_element (sort.Array k) (sort.Number j) = tt
plain_element base index = tt

plain_binary : (operator : BinOp) (left right : Sort) → IsPlain (sort_of_binary operator left right)
plain_binary operator (sort.Number a) (sort.Number b) = tt
plain_binary operator left right = tt

plain_choice : (test one other : Sort) → IsPlain (sort_of_choice test one other)
plain_choice (sort.Number a) (sort.Number b) (sort.Number c) = tt
plain_choice given one other = tt

plain_assignment : (operator : Option BinOp) (is_place is_message : Bool) (left right : Sort) → IsPlain (sort_of_assignment operator is_place is_message left right)
plain_assignment None is_place true sort.Message sort.Message = tt
plain_assignment operator true is_message (sort.Number k) (sort.Number j) = tt
plain_assignment operator is_place is_message left right = tt

plain_member : (m : NamedMember) → IsPlain (sort_of_member m)
plain_member (IsField f) = tt
plain_member (IsSignal layout) = tt
plain_member IsUnusable = tt
plain_member (IsUnknown by_name) = tt

plain_builtin : (b : Builtin) (text : Option (List ℕ)) (sorts : List Sort) → IsPlain (sort_of_builtin b text sorts)
plain_builtin builtin.Output text (sort.Message ∷ []) = tt
plain_builtin builtin.Write (Some text) (sort.Text ∷ rest) = plain_if (option_map_or (λ found. show_all found rest) (format_codes text) false) _ _ tt tt
plain_builtin builtin.SetTimer text (sort.Timer ∷ sort.Number k ∷ []) = tt
plain_builtin builtin.SetTimerCyclic text (sort.Timer ∷ sort.Number k ∷ []) = tt
plain_builtin builtin.CancelTimer text (sort.Timer ∷ []) = tt
plain_builtin builtin.Stop text [] = tt
plain_builtin builtin.IsTimerActive text (sort.Timer ∷ []) = tt
plain_builtin builtin.TimeNow text [] = tt
plain_builtin builtin.ElCount text (sort.Array k ∷ []) = tt
plain_builtin b text sorts = tt

plain_given : (gives : Option Kind) → IsPlain (sort_given gives)
plain_given None = tt
plain_given (Some k) = tt

module _ (s : Scope) where
  plain_call : (c : Callee) (text : Option (List ℕ)) (sorts : List Sort) → IsPlain (sort_of_call s c text sorts)
  plain_call (OfLanguage b) text sorts = plain_builtin b text sorts
  plain_call (OfProgram f) text sorts = go _
    where
      go : (b : Bool) → IsPlain (if b then sort_given f.gives else sort.Bad)
      go true = plain_given f.gives
      go false = tt
  plain_call Unknown text sorts = tt

  plain_part : (signals : _) (field : Field) → IsPlain (sort_of_part s signals field)
  plain_part signals (Named name at) = plain_member (member_named signals name)
  plain_part signals (tree.Bytes k index at) = plain_from (sort_of s index) k

  plain_held : (field : Field) (o : Option Held) → IsPlain (option_map_or (λ message. sort_of_part s (signals_of message) field) o sort.Bad)
  plain_held field None = tt
  plain_held field (Some held) = plain_part (signals_of held) field

  open_form : (form : Form) → is_open_number form ≡ true → IsPlain (sort_of_form form)
  open_form (Number k fixed) h = tt
  open_form (Array k fixed size) h = absurd (let e : false ≡ true = h in cc)
  open_form other h = tt

  open_name : (name : List ℕ) (o : Option Variable) → option_map_or (λ v. is_open_number v.form) o false ≡ true → IsPlain (sort_of_name name o)
  open_name name None h = absurd (let e : false ≡ true = h in cc)
  open_name name (Some v) h = open_form v.form h

  -- an assignable place is a number
  plain_place : (e : Expr) → is_number_place s e ≡ true → IsPlain (sort_of s e)
  plain_place (tree.Paren inner at) h = plain_place inner h
  plain_place (expr.Name name at) h = open_name name (means s name at) h
  plain_place (tree.Index base index at) h = plain_element (sort_of s base) (sort_of s index)
  plain_place (tree.Member base field at) h = plain_held field (message_in s base)
  plain_place e h = absurd (let f : false ≡ true = h in cc)

  plain_step : (e : Expr) (b : Bool) → is_number_place s e ≡ b → IsPlain (sort_of_step b (sort_of s e))
  plain_step e true h = plain_place e h
  plain_step e false h = tt

  plain_prefix : (operator : UnOp) (e : Expr) → IsPlain (sort_of_prefix operator (is_number_place s e) (sort_of s e))
  plain_prefix prefix.Up e = plain_step e (is_number_place s e) refl
  plain_prefix prefix.Down e = plain_step e (is_number_place s e) refl
  plain_prefix prefix.Not e = plain_from (sort_of s e) kind.Long
  plain_prefix other e = plain_from (sort_of s e) _

  -- ---- texts and arrays

  -- an expression of a sort names what the sort says: a text, or an array
  abbrev pub Names : Expr → Sort → Type 0
  Names e sort.Text = (text : List ℕ) × (quoted_text e ≡ Some text)
  Names e (sort.Array k) = (v : Variable) × (array_in s e ≡ Some v) × (quoted_text e ≡ None)
  Names e _ = ⊤

  plain_names : (e : Expr) (given : Sort) → IsPlain given → Names e given
  plain_names e sort.Text h = elim h [ ]
  plain_names e (sort.Array k) h = elim h [ ]
  plain_names e given h = tt

  names_direction : (e : Expr) (o : Option ℕ) → Names e (sort_of_direction o)
  names_direction e None = tt
  names_direction e (Some n) = tt

  names_form : (name : Text) (at : ℕ) (v : Variable) → means s name at ≡ Some v → (form : Form) → v.form ≡ form → Names (expr.Name name at) (sort_of_form form)
  names_form name at v is (Number k fixed) e = tt
  names_form name at v is (Array k fixed size) e = (v, ap (λ o. option_and_then (λ v. array_by v.form v) o) is ∙ ap (λ form. array_by form v) e, refl)
  names_form name at v is other e = tt

  names_name : (name : Text) (at : ℕ) (o : Option Variable) → means s name at ≡ o → Names (expr.Name name at) (sort_of_name name o)
  names_name name at None is = names_direction (expr.Name name at) (direction name)
  names_name name at (Some v) is = names_form name at v is v.form refl

  names_paren : (inner : Expr) (at : ℕ) (given : Sort) → Names inner given → Names (tree.Paren inner at) given
  names_paren inner at sort.Text h = h
  names_paren inner at (sort.Array k) h = h
  names_paren inner at given h = tt

  pub names : (e : Expr) → Names e (sort_of s e)
  names (expr.Str text at) = (text, refl)
  names (tree.Paren inner at) = names_paren inner at (sort_of s inner) (names inner)
  names (expr.Name name at) = names_name name at (means s name at) refl
  names (expr.Num value extended at) = plain_names (expr.Num value extended at) _ (plain_number value extended)
  names (expr.Char value at) = tt
  names (expr.This at) = plain_names (expr.This at) _ (plain_this s.this)
  names (expr.Call' name shape args at) = plain_names (expr.Call' name shape args at) _ (plain_call (callee s.names name) (first_text args) (sorts_of s args))
  names (tree.Index base index at) = plain_names (tree.Index base index at) _ (plain_element (sort_of s base) (sort_of s index))
  names (tree.Member base field at) = plain_names (tree.Member base field at) _ (plain_held field (message_in s base))
  names (tree.Cast kind inner at) = plain_names (tree.Cast kind inner at) _ (plain_from (sort_of s inner) kind)
  names (tree.Unary operator inner at) = plain_names (tree.Unary operator inner at) _ (plain_prefix operator inner)
  names (tree.Post up inner at) = plain_names (tree.Post up inner at) _ (plain_step inner (is_number_place s inner) refl)
  names (tree.Binary operator left right at) = plain_names (tree.Binary operator left right at) _ (plain_binary operator (sort_of s left) (sort_of s right))
  names (tree.Cond test one other at) = plain_names (tree.Cond test one other at) _ (plain_choice (sort_of s test) (sort_of s one) (sort_of s other))
  names (tree.Assign operator left right at) =
      plain_names (tree.Assign operator left right at) _ (plain_assignment operator (is_number_place s left) _ (sort_of s left) (sort_of s right))

  -- ---- arguments of `write`

  -- an argument that a code shows is what it is said to be
  is_shown : (code : Code) (e : Expr) (given : Sort) → sort_of s e ≡ given → Names e given → shows code given ≡ true →
      IsArgument s e (argument_by given (text_argument s.names (quoted_text e) (array_in s e)))
  is_shown code e (sort.Number k) is named h = is
  is_shown code e sort.Text is named h =
      subst (λ o. IsArgument s e (text_argument s.names o (array_in s e))) (sym named.1) (ap is_number is, named.1)
  is_shown code e (sort.Array k) is named h =
      subst (λ o. IsArgument s e (text_argument s.names o (array_in s e))) (sym named.2)
      (subst (λ o. IsArgument s e (text_argument s.names None o)) (sym named.1)
      (named.0, named.1, ap is_number is, named.2, λ _. refl, refl))
  is_shown code e other is named h = absurd (let f : false ≡ true = h in cc)

  all_shown : (codes : List Code) (es : List Expr) → length codes ≡ length (map (sort_of s) es) → list_all (λ (pair : Code × Sort). shows pair.0 pair.1) (zip codes (map (sort_of s) es)) ≡ true →
      AllZip (IsArgument s) es (map (argument_of s) es)
  all_shown codes [] long h = tt
  all_shown [] (e ∷ es) long h = absurd (omega (arith, long))
  all_shown (code ∷ codes) (e ∷ es) long h =
      let both = and_both (shows code (sort_of s e)) _ h in
      (is_shown code e (sort_of s e) refl (names e) both.0, all_shown codes es (omega (arith, long)) both.1)
    where
      and_both : (a b : Bool) → a && b ≡ true → (a ≡ true) × (b ≡ true)
      and_both true b h = (refl, h)
      and_both false b h = absurd (let f : false ≡ true = h in cc)

  -- the arguments of a `write` whose format fits
  pub arguments_are : (text : Option (List ℕ)) (es : List Expr) (pieces : List Piece) → fitting_pieces (map (sort_of s) es) text ≡ Some pieces → AllZip (IsArgument s) es (map (argument_of s) es)
  arguments_are text es pieces e = go (option_and_then pieces_of text) e
    where
      both : (a b : Bool) → a && b ≡ true → (a ≡ true) × (b ≡ true)
      both true b h = (refl, h)
      both false b h = absurd (let f : false ≡ true = h in cc)

      fits : (found : List Piece) (b : Bool) → show_all (codes_of found) (map (sort_of s) es) ≡ b → (if b then Some found else None) ≡ Some pieces → AllZip (IsArgument s) es (map (argument_of s) es)
      fits found false is h = absurd (let f : None ≡ Some pieces = h in cc)
      fits found true is h =
          let parts = both (length (codes_of found) == length (map (sort_of s) es)) _ is in
          all_shown (codes_of found) es (eqb-true _ _ parts.0) parts.1

      go : (o : Option (List Piece)) → option_and_then (λ pieces. if show_all (codes_of pieces) (map (sort_of s) es) then Some pieces else None) o ≡ Some pieces → AllZip (IsArgument s) es (map (argument_of s) es)
      go None h = absurd (let f : None ≡ Some pieces = h in cc)
      go (Some found) h = fits found (show_all (codes_of found) (map (sort_of s) es)) refl h
