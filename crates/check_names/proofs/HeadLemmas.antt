-- Heads and types break the same wherever in a file they stand.
use Rattle.std.proofs.Common.{◌≡◌, [], ◌∷◌, ◌++◌, ◌∙◌, ℕ, Option, Some, None, ap, refl}
use Rattle.std.specs.Prelude.{flat_map}
use Rattle.std.specs.Option.{option_map_or}
use Rattle.capl_tree.specs.declared.declaration.Decl.{Decl}
use Rattle.capl_tree.specs.declared.declaration.DeclType.{DeclType}
use Rattle.capl_tree.specs.declared.declaration.DeclType.TheVariants as decl_type
use Rattle.capl_tree.specs.declared.procedure.Head.{Head}
use Rattle.capl_tree.specs.declared.procedure.Head.TheVariants as head
use Rattle.capl_tree.specs.declared.procedure.Proc.{Proc}
use Rattle.capl_tree.specs.declared.procedure.Sel.{Sel}
use Rattle.capl_tree.specs.declared.procedure.SelWhat.{SelWhat}
use Rattle.capl_tree.specs.declared.procedure.SelWhat.TheVariants as selected
use Rattle.capl_meaning.specs.DeclarationRules.{type_rules}
use Rattle.capl_meaning.specs.ExpressionRules.{offence}
use Rattle.capl_meaning.specs.Names.{Names, global, inside, outside}
use Rattle.capl_meaning.specs.ProcedureRules.{head_offences, selection_offences, selector_place, timer_form_rule}
use Rattle.capl_meaning.specs.Variable.{Form, Timer, Misfit, Number, Array, Message, Variable, declarations_in}
use Rattle.check_names.specs.Named.{procedure_head_and_types, selector_offences, types_offences}
use Rattle.check_names.proofs.IsIn.{flat_same}

-- a type
type_same : (names : Names) (number file : ℕ) (h : Head) (what : DeclType) → type_rules (outside names file) what ≡ type_rules (inside names number file h) what
type_same names number file h (decl_type.Number kind fixed) = refl
type_same names number file h decl_type.Any = refl
type_same names number file h (decl_type.ById value extended at) = refl
type_same names number file h (decl_type.ByName name at) = refl
type_same names number file h decl_type.Seconds = refl
type_same names number file h decl_type.Millis = refl

-- what is selected
selection_same : (names : Names) (number file : ℕ) (h : Head) (first : ℕ) (what : SelWhat)
    → selection_offences (outside names file) first what ≡ selection_offences (inside names number file h) first what
selection_same names number file h first (selected.Any at) = refl
selection_same names number file h first (selected.Name name at) = refl
selection_same names number file h first (selected.Ids low high at) = refl

-- a selector
selector_same : (names : Names) (number file : ℕ) (h : Head) (one : Sel) → selector_offences (outside names file) one ≡ selector_offences (inside names number file h) one
selector_same names number file h one = selection_same names number file h (selector_place one) one.what

-- a timer
timer_same : (names : Names) (number file : ℕ) (h : Head) (at : ℕ) (v : Option Variable)
    → option_map_or (λ v. timer_form_rule (outside names file) at v.form) v (offence (outside names file) at 9 ∷ [])
    ≡ option_map_or (λ v. timer_form_rule (inside names number file h) at v.form) v (offence (inside names number file h) at 9 ∷ [])
timer_same names number file h at None = refl
timer_same names number file h at (Some v) = by v.form
  where
    by : (form : Form) → timer_form_rule (outside names file) at form ≡ timer_form_rule (inside names number file h) at form
    by (Number k fixed) = refl
    by (Array k fixed size) = refl
    by (Message what) = refl
    by (Timer unit) = refl
    by Misfit = refl

-- a head
head_same : (names : Names) (number file : ℕ) (h one : Head) → head_offences (outside names file) one ≡ head_offences (inside names number file h) one
head_same names number file h (head.Message selectors) =
    flat_same (selector_offences (outside names file)) (selector_offences (inside names number file h)) selectors (selector_same names number file h)
head_same names number file h (head.Timer name at) = timer_same names number file h at (global names name)
head_same names number file h head.PreStart = refl
head_same names number file h head.Start = refl
head_same names number file h head.Stop = refl
head_same names number file h (head.Key value) = refl
head_same names number file h (head.Function kind name parameters at) = refl

-- a procedure
pub procedure_same : (names : Names) (number file : ℕ) (p : Proc)
    → procedure_head_and_types (outside names file) p ≡ procedure_head_and_types (inside names number file p.head) p
procedure_same names number file p =
    ap (λ l. l ++ types_offences (outside names file) (flat_map declarations_in p.body)) (head_same names number file p.head p.head)
    ∙ ap (λ l. head_offences (inside names number file p.head) p.head ++ l)
    (flat_same (λ (d : Decl). type_rules (outside names file) d.what) (λ (d : Decl). type_rules (inside names number file p.head) d.what)
    (flat_map declarations_in p.body) (λ d. type_same names number file p.head d.what))
