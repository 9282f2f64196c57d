-- Which expressions are of the sort of a text, an array, a message or a timer: texts, names and `this`, in
-- parentheses.
use Rattle.std.proofs.Common.{◌≡◌, ℕ, Bool, true, false, List, [], ◌∷◌, Option, Some, None, refl, ap, ◌∙◌}
use Rattle.std.specs.Prelude.{⊤, if◌then◌else◌, nat_le}
use Rattle.std.specs.Option.{option_and_then, option_map_or}
use Rattle.std.specs.Bool.{then_some}
use Rattle.texts.specs.declared.text.Text.{Text}
use Rattle.int_kinds.specs.declared.kinds.Kind.{Kind}
use Rattle.int_kinds.specs.declared.kinds.Kind.TheVariants as kind
use Rattle.int_kinds.specs.declared.operators.BinOp.{BinOp}
use Rattle.int_kinds.specs.declared.operators.UnOp.{UnOp}
use Rattle.int_kinds.specs.declared.operators.UnOp.TheVariants as prefix
use Rattle.capl_tree.specs.declared.expr.Expr.{Expr}
use Rattle.capl_tree.specs.declared.expr.Expr.TheVariants as expr
use Rattle.capl_tree.specs.declared.expr.Field.{Field}
use Rattle.capl_tree.specs.declared.expr.Field.TheVariants.{Named}
use Rattle.capl_tree.specs.Forms as tree
use Rattle.capl_meaning.specs.declared.builtin.Builtin.{Builtin}
use Rattle.capl_meaning.specs.declared.builtin.Builtin.TheVariants as builtin
use Rattle.capl_meaning.specs.declared.sort.Sort.{Sort}
use Rattle.capl_meaning.specs.declared.sort.Sort.TheVariants as sort
use Rattle.capl_meaning.specs.Variable.{Form, Number, Array, Message, Timer, Misfit, Variable, is_timer}
use Rattle.capl_meaning.specs.Names.{Callee, OfLanguage, OfProgram, Unknown, Scope, ThisForm, NoThis, ThisFrame, ThisKey, callee, direction, means}
use Rattle.capl_meaning.specs.Format.{first_text, format_codes, show_all, quoted_text}
use Rattle.capl_meaning.specs.Message.{Held, NamedMember, IsField, IsSignal, IsUnusable, IsUnknown, array_by, array_in, held_by, held_this, is_number_place, is_open_number, member_named, message_in, signals_of}
use Rattle.capl_meaning.specs.Sort.{number_from, sort_given, sort_of, sort_of_assignment, sort_of_binary, sort_of_builtin, sort_of_call, sort_of_choice, sort_of_direction, sort_of_element, sort_of_form, sort_of_member, sort_of_name, sort_of_number, sort_of_part, sort_of_prefix, sort_of_step, sort_of_this, sorts_of}
use Rattle.capl_meaning.specs.Expression.{timer_in}
use Rattle.typed_laws.specs.Laid.{HasForm}
use Rattle.typed_laws.proofs.Places.{means_among}

-- an array of a kind that is named, and no text
pub record IsArrayOf (s : Scope) (e : Expr) (k : Kind) : Type 0 where
  pub variable : Variable
  pub fixed : Bool
  pub size : Expr
  pub is : array_in s e ≡ Some variable
  pub form : HasForm s.names variable (Array k fixed size)
  pub no_text : quoted_text e ≡ None

-- an expression of a sort names what the sort says: a text, an array, a message, or a timer
abbrev pub Names : Scope → Expr → Sort → Type 0
Names s e sort.Text = (text : List ℕ) × (quoted_text e ≡ Some text)
Names s e (sort.Array k) = IsArrayOf s e k
Names s e sort.Message = (held : Held) × (message_in s e ≡ Some held)
Names s e sort.Timer = (v : Variable) × (timer_in s e ≡ Some v)
Names s e _ = ⊤

module _ (s : Scope) where
  -- a form that is none of these
  if_neither : (e : Expr) (b : Bool) (one other : Sort) → Names s e one → Names s e other → Names s e (if b then one else other)
  if_neither e true one other f g = f
  if_neither e false one other f g = g

  by_number : (e : Expr) (value : Option ℕ) (extended : Bool) → Names s e (sort_of_number value extended)
  by_number e None extended = tt
  by_number e (Some n) false = tt
  by_number e (Some n) true = if_neither e (nat_le n 0x1FFFFFFF) _ _ tt tt

  by_from : (e : Expr) (g : Sort) (k : Kind) → Names s e (number_from g k)
  by_from e (sort.Number j) k = tt
  by_from e (sort.Array j) k = tt
  by_from e sort.Message k = tt
  by_from e sort.Timer k = tt
  by_from e sort.Text k = tt
  by_from e sort.Nothing k = tt
  by_from e sort.Bad k = tt

  by_element : (e : Expr) (base index : Sort) → Names s e (sort_of_element base index)
  by_element e (sort.Array k) (sort.Number j) = tt
  by_element e base index = tt

  by_binary : (e : Expr) (operator : BinOp) (left right : Sort) → Names s e (sort_of_binary operator left right)
  by_binary e operator (sort.Number a) (sort.Number b) = tt
  by_binary e operator left right = tt

  by_choice : (e : Expr) (given one other : Sort) → Names s e (sort_of_choice given one other)
  by_choice e (sort.Number a) (sort.Number b) (sort.Number c) = tt
  by_choice e given one other = tt

  by_assignment : (e : Expr) (operator : Option BinOp) (is_place is_message : Bool) (left right : Sort) → Names s e (sort_of_assignment operator is_place is_message left right)
  by_assignment e None is_place true sort.Message sort.Message = tt
  by_assignment e operator true is_message (sort.Number k) (sort.Number j) = tt
  by_assignment e operator is_place is_message left right = tt

  by_member : (e : Expr) (m : NamedMember) → Names s e (sort_of_member m)
  by_member e (IsField f) = tt
  by_member e (IsSignal layout) = tt
  by_member e IsUnusable = tt
  by_member e (IsUnknown by_name) = tt

  by_part : (e : Expr) (field : Field) (o : Option Held) → Names s e (option_map_or (λ message. sort_of_part s (signals_of message) field) o sort.Bad)
  by_part e field None = tt
  by_part e (Named name at) (Some held) = by_member e (member_named (signals_of held) name)
  by_part e (tree.Bytes k index at) (Some held) = by_from e (sort_of s index) k

  by_builtin : (e : Expr) (b : Builtin) (text : Option (List ℕ)) (sorts : List Sort) → Names s e (sort_of_builtin b text sorts)
  by_builtin e builtin.Output text (sort.Message ∷ []) = tt
  by_builtin e builtin.Write (Some text) (sort.Text ∷ rest) = if_neither e (option_map_or (λ found. show_all found rest) (format_codes text) false) _ _ tt tt
  by_builtin e builtin.SetTimer text (sort.Timer ∷ sort.Number k ∷ []) = tt
  by_builtin e builtin.SetTimerCyclic text (sort.Timer ∷ sort.Number k ∷ []) = tt
  by_builtin e builtin.CancelTimer text (sort.Timer ∷ []) = tt
  by_builtin e builtin.Stop text [] = tt
  by_builtin e builtin.IsTimerActive text (sort.Timer ∷ []) = tt
  by_builtin e builtin.TimeNow text [] = tt
  by_builtin e builtin.ElCount text (sort.Array k ∷ []) = tt
  by_builtin e b text sorts = tt

  by_given : (e : Expr) (gives : Option Kind) → Names s e (sort_given gives)
  by_given e None = tt
  by_given e (Some k) = tt

  by_call : (e : Expr) (c : Callee) (text : Option (List ℕ)) (sorts : List Sort) → Names s e (sort_of_call s c text sorts)
  by_call e (OfLanguage b) text sorts = by_builtin e b text sorts
  by_call e (OfProgram f) text sorts = go _
    where
      go : (b : Bool) → Names s e (if b then sort_given f.gives else sort.Bad)
      go true = by_given e f.gives
      go false = tt
  by_call e Unknown text sorts = tt

  by_direction : (e : Expr) (o : Option ℕ) → Names s e (sort_of_direction o)
  by_direction e None = tt
  by_direction e (Some n) = tt

  by_form : (name : Text) (at : ℕ) (v : Variable) → means s name at ≡ Some v → (form : Form) → v.form ≡ form → Names s (expr.Name name at) (sort_of_form form)
  by_form name at v is (Number k fixed) e = tt
  by_form name at v is (Array k fixed size) e = record {
    variable = v;
    fixed = fixed;
    size = size;
    is = ap (λ o. option_and_then (λ v. array_by v.form v) o) is ∙ ap (λ form. array_by form v) e;
    form = record { among = means_among s name at v is; form_is = e };
    no_text = refl;
  }
  by_form name at v is (Message type_) e = (_, ap (λ o. option_and_then (λ v. held_by v v.form) o) is ∙ ap (held_by v) e)
  by_form name at v is (Timer unit) e = (v, ap (λ o. option_and_then (λ v. then_some (is_timer v.form) v) o) is ∙ ap (λ form. then_some (is_timer form) v) e)
  by_form name at v is Misfit e = tt

  by_name : (name : Text) (at : ℕ) (o : Option Variable) → means s name at ≡ o → Names s (expr.Name name at) (sort_of_name name o)
  by_name name at None is = by_direction (expr.Name name at) (direction name)
  by_name name at (Some v) is = by_form name at v is v.form refl

  by_this : (at : ℕ) (this : ThisForm) → s.this ≡ this → Names s (expr.This at) (sort_of_this this)
  by_this at NoThis is = tt
  by_this at (ThisFrame signals) is = (_, ap held_this is)
  by_this at ThisKey is = tt

  by_paren : (inner : Expr) (at : ℕ) (given : Sort) → Names s inner given → Names s (tree.Paren inner at) given
  by_paren inner at sort.Message h = h
  by_paren inner at sort.Timer h = h
  by_paren inner at sort.Text h = h
  by_paren inner at (sort.Array k) h = record { variable = h.variable; fixed = h.fixed; size = h.size; is = h.is; form = h.form; no_text = h.no_text }
  by_paren inner at given h = tt

  -- a place of a number is none of these
  by_place : (e place : Expr) → is_number_place s place ≡ true → Names s e (sort_of s place)
  by_place e (tree.Paren inner at) is = by_place e inner is
  by_place e (expr.Name name at) is = go (means s name at) is
    where
      by : (form : Form) → is_open_number form ≡ true → Names s e (sort_of_form form)
      by (Number k fixed) h = tt
      by (Array k fixed size) h = absurd (let f : false ≡ true = h in cc)
      by (Message type_) h = absurd (let f : false ≡ true = h in cc)
      by (Timer unit) h = absurd (let f : false ≡ true = h in cc)
      by Misfit h = tt

      go : (o : Option Variable) → option_map_or (λ v. is_open_number v.form) o false ≡ true → Names s e (sort_of_name name o)
      go None h = absurd (let f : false ≡ true = h in cc)
      go (Some v) h = by v.form h
  by_place e (tree.Index base index at) is = by_element e (sort_of s base) (sort_of s index)
  by_place e (tree.Member base field at) is = by_part e field (message_in s base)
  by_place e place is = absurd (let f : false ≡ true = is in cc)

  by_step : (e place : Expr) (b : Bool) → is_number_place s place ≡ b → Names s e (sort_of_step b (sort_of s place))
  by_step e place true is = by_place e place is
  by_step e place false is = tt

  by_prefix : (e : Expr) (operator : UnOp) (place : Expr) → Names s e (sort_of_prefix operator (is_number_place s place) (sort_of s place))
  by_prefix e prefix.Up place = by_step e place (is_number_place s place) refl
  by_prefix e prefix.Down place = by_step e place (is_number_place s place) refl
  by_prefix e prefix.Not place = by_from e (sort_of s place) kind.Long
  by_prefix e other place = by_from e (sort_of s place) _

  -- each expression names what its sort says
  pub names : (e : Expr) → Names s e (sort_of s e)
  names (expr.Num value extended at) = by_number (expr.Num value extended at) value extended
  names (expr.Char value at) = tt
  names (expr.Str text at) = (text, refl)
  names (expr.This at) = by_this at s.this refl
  names (expr.Name name at) = by_name name at (means s name at) refl
  names (tree.Paren inner at) = by_paren inner at (sort_of s inner) (names inner)
  names (expr.Call' name shape args at) = by_call (expr.Call' name shape args at) (callee s.names name) (first_text args) (sorts_of s args)
  names (tree.Index base index at) = by_element (tree.Index base index at) (sort_of s base) (sort_of s index)
  names (tree.Member base field at) = by_part (tree.Member base field at) field (message_in s base)
  names (tree.Cast k inner at) = by_from (tree.Cast k inner at) (sort_of s inner) k
  names (tree.Unary operator inner at) = by_prefix (tree.Unary operator inner at) operator inner
  names (tree.Post up inner at) = by_step (tree.Post up inner at) inner (is_number_place s inner) refl
  names (tree.Binary operator left right at) = by_binary (tree.Binary operator left right at) operator (sort_of s left) (sort_of s right)
  names (tree.Cond given one other at) = by_choice (tree.Cond given one other at) (sort_of s given) (sort_of s one) (sort_of s other)
  names (tree.Assign operator left right at) =
      by_assignment (tree.Assign operator left right at) operator (is_number_place s left) _ (sort_of s left) (sort_of s right)

  -- a message is one that is named
  pub message_there : (e : Expr) → sort_of s e ≡ sort.Message → (held : Held) × (message_in s e ≡ Some held)
  message_there e is = go (sort_of s e) is (names e)
    where
      go : (g : Sort) → g ≡ sort.Message → Names s e g → (held : Held) × (message_in s e ≡ Some held)
      go sort.Message is named = named
      go g is named = absurd (cc)

  -- and a timer is one
  pub timer_there : (e : Expr) → sort_of s e ≡ sort.Timer → (v : Variable) × (timer_in s e ≡ Some v)
  timer_there e is = go (sort_of s e) is (names e)
    where
      go : (g : Sort) → g ≡ sort.Timer → Names s e g → (v : Variable) × (timer_in s e ≡ Some v)
      go sort.Timer is named = named
      go g is named = absurd (cc)
