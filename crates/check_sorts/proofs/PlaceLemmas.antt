-- Places to assign to.
use Rattle.std.proofs.Common.{◌≡◌, ◌∙◌, ℕ, true, false, List, Option, Some, None, ap, refl, sym}
use Rattle.std.specs.Option.{option_and_then, option_map_or}
use Rattle.int_kinds.specs.declared.kinds.Kind.{Kind}
use Rattle.dbc_reader.specs.declared.signals.DbcSignal.{DbcSignal}
use Rattle.capl_tree.specs.declared.expr.Expr.{Expr}
use Rattle.capl_tree.specs.declared.expr.Expr.TheVariants as expr
use Rattle.capl_tree.specs.declared.expr.Field.{Field}
use Rattle.capl_tree.specs.declared.expr.Field.TheVariants as field
use Rattle.capl_tree.specs.Forms as tree
use Rattle.capl_tree.proofs.FormLemmas as form
use Rattle.capl_meaning.specs.Message.{array_in, held_by, is_message_place, is_number_place, is_open_array, is_open_field, is_open_number, is_open_part, is_variable, message_in}
use Rattle.capl_meaning.specs.Names.{Scope, means}
use Rattle.capl_meaning.specs.Variable.{Form, Number, Variable}
use Rattle.check_sorts.specs.declared.message.Places.{Places}
use Rattle.check_sorts.specs.declared.scope.Meaning.{Meaning}
use Rattle.check_sorts.specs.Form.{form_in}
use Rattle.check_sorts.specs.Message.{ArePlaces}
use Rattle.check_sorts.specs.Scope.{IsMeaning}

-- bytes of the payload are assignable
pub open_bytes : (signals : Option (List DbcSignal)) (f : Field) (kind : Kind) (index : Expr) (at : ℕ)
    → f ≡ field.Bytes kind index at → is_open_field signals f ≡ true
open_bytes signals f kind index at is = ap (is_open_field signals) (is ∙ form.bytes_form kind index at)

-- a place under parentheses
pub paren_place : (s : Scope) (e inner : Expr) (at : ℕ) → e ≡ expr.Paren inner at
    → is_number_place s e ≡ is_number_place s inner
paren_place s e inner at is = ap (is_number_place s) (is ∙ form.paren_form inner at)

-- an element as a place
pub index_place : (s : Scope) (e base index : Expr) (at : ℕ) → e ≡ expr.Index base index at
    → is_number_place s e ≡ option_map_or (λ v. is_open_array v.form) (array_in s base) false
index_place s e base index at is = ap (is_number_place s) (is ∙ form.index_form base index at)

-- a member as a place
pub member_place : (s : Scope) (e base : Expr) (f : Field) (at : ℕ) → e ≡ expr.Member base f at
    → is_number_place s e ≡ option_map_or (is_open_part f) (message_in s base) false
member_place s e base f at is = ap (is_number_place s) (is ∙ form.member_form base f at)

-- no number variable that can be assigned is a message
number_form : (v : Variable) (form : Form) → is_open_number form ≡ true →
    option_map_or is_variable (held_by v form) false ≡ false
number_form v (Number kind fixed) is = refl
number_form v form is = absurd (let e : false ≡ true = is in cc)

-- nor is what a name means
number_named : (o : Option Variable) → option_map_or (λ v. is_open_number v.form) o false ≡ true →
    option_map_or is_variable (option_and_then (λ v. held_by v v.form) o) false ≡ false
number_named None is = refl
number_named (Some v) is = number_form v v.form is

-- nor is any place of a number
pub no_message_place : (s : Scope) (e : Expr) → is_number_place s e ≡ true → is_message_place s e ≡ false
no_message_place s (tree.Paren inner at) is = no_message_place s inner is
no_message_place s (expr.Name name at) is = number_named (means s name at) is
no_message_place s (expr.This at) is = absurd (let e : false ≡ true = is in cc)
no_message_place s e is = refl

-- what means no variable is no place
pub none_places : (s : Scope) (name : List ℕ) (token : ℕ) → means s name token ≡ None →
    ArePlaces s (expr.Name name token) (record { number = false; message = false })
none_places s name token none = (
  sym (ap (λ (o : Option Variable). option_map_or (λ v. is_open_number v.form) o false) none),
  sym (ap (λ (o : Option Variable). option_map_or is_variable (option_and_then (λ v. held_by v v.form) o) false) none),
)

-- what means a variable is the place that the variable is
pub form_places : (s : Scope) (name : List ℕ) (token : ℕ) (m : Meaning) (p : Places) → IsMeaning s.names (means s name token) m →
    p.number ≡ is_open_number (form_in m.form) →
    ((v : Variable) → p.message ≡ option_map_or is_variable (held_by v (form_in m.form)) false) →
    ArePlaces s (expr.Name name token) p
form_places s name token m p meant number message = (
  number ∙ ap is_open_number meant.form
      ∙ sym (ap (λ (o : Option Variable). option_map_or (λ v. is_open_number v.form) o false) meant.is),
  message meant.variable ∙ ap (λ form. option_map_or is_variable (held_by meant.variable form) false) meant.form
      ∙ sym (ap (λ (o : Option Variable). option_map_or is_variable (option_and_then (λ v. held_by v v.form) o) false) meant.is),
)
