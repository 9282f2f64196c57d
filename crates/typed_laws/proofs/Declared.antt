-- What the names of each program have.
use Rattle.std.proofs.Common.{◌≡◌, ℕ, zero, suc, ◌≤◌, inl, inr, Bool, true, false, List, [], ◌∷◌, ◌++◌, Option, Some, None, refl, ap, ◌∙◌, subst, arith}
use Rattle.std.specs.Prelude.{⊤, ◌==◌, cond, filter_map, find, flat_map, map, slice_get}
use Rattle.std.specs.List.{AllByRecursion, cons_option}
use Rattle.std.specs.Option.{option_map_or}
use Rattle.std.specs.Str.{bytes_eq}
use Rattle.std.proofs.lemmas.Bool.{eqb-true}
use Rattle.std.proofs.lemmas.Cmp.{nat_eq_equiv}
use Rattle.run_effects.specs.declared.event.Event.{Event}
use Rattle.dbc_reader.specs.declared.message.DbcMessage.{DbcMessage}
use Rattle.capl_tree.specs.declared.file.FileTree.{FileTree}
use Rattle.capl_tree.specs.declared.file.Program.{Program}
use Rattle.capl_tree.specs.declared.file.TopItem.{TopItem}
use Rattle.capl_tree.specs.declared.file.TopItem.TheVariants as top
use Rattle.capl_tree.specs.declared.procedure.Head.{Head}
use Rattle.capl_tree.specs.declared.procedure.Head.TheVariants as head
use Rattle.capl_tree.specs.declared.procedure.Param.{Param}
use Rattle.capl_tree.specs.declared.statement.Stmt.{Stmt}
use Rattle.capl_meaning.specs.declared.builtin.Builtin.{Builtin}
use Rattle.capl_meaning.specs.Variable.{Part, Globals, Procedure, parameters_of, parts_of, parts_of_files, parts_of_items, variable_of_parameter, variables_of, variables_of_part}
use Rattle.capl_meaning.specs.Names.{Function, Names, OfLanguage, OfProgram, Unknown, builtin_named, callee, function_by, function_of_part, inside, names_of}
use Rattle.capl_meaning.specs.Statement.{Handler, event_of, handlers_of_part}
use Rattle.typed_laws.specs.Laid.{AreDistinct, IsAmong}
use Rattle.typed_laws.specs.Agreement.{ArePlain}
use Rattle.typed_laws.proofs.Places.{found_among}

-- the functions of parts
abbrev functions : List Part → List Function
functions parts = filter_map function_of_part parts

-- functions whose numbers rise from one on
abbrev Rising : ℕ → List Function → Type 0
Rising n [] = ⊤
Rising n (f ∷ fs) = (n ≤ f.number) × Rising (suc f.number) fs

rising_lower : (m n : ℕ) (fs : List Function) → m ≤ n → Rising n fs → Rising m fs
rising_lower m n [] le h = tt
rising_lower m n (f ∷ fs) le h = (omega (arith, le, h.0), h.1)

rising_procedure : (number file : ℕ) (form : Head) (body : List Stmt) (fs : List Function) → Rising (suc number) fs → Rising number (cons_option (function_by number file form body) fs)
rising_procedure number file (head.Function kind name parameters at) body fs h = (omega arith, h)
rising_procedure number file head.PreStart body fs h = rising_lower number (suc number) fs (omega arith) h
rising_procedure number file head.Start body fs h = rising_lower number (suc number) fs (omega arith) h
rising_procedure number file head.Stop body fs h = rising_lower number (suc number) fs (omega arith) h
rising_procedure number file (head.Message selectors) body fs h = rising_lower number (suc number) fs (omega arith) h
rising_procedure number file (head.Timer name at) body fs h = rising_lower number (suc number) fs (omega arith) h
rising_procedure number file (head.Key value) body fs h = rising_lower number (suc number) fs (omega arith) h

rising_items : (file : ℕ) (items : List TopItem) (number : ℕ) (others : ℕ → List Part) → ((n : ℕ) → Rising n (functions (others n))) → Rising number (functions (parts_of_items file items number others))
rising_items file [] number others h = h number
rising_items file (top.Includes names ∷ items) number others h = rising_items file items number others h
rising_items file (top.Variables declarations ∷ items) number others h = rising_items file items number others h
rising_items file (top.Proc procedure ∷ items) number others h =
    rising_procedure number file procedure.head procedure.body (functions (parts_of_items file items (suc number) others)) (rising_items file items (suc number) others h)

rising_files : (file : ℕ) (trees : List FileTree) (number : ℕ) → Rising number (functions (parts_of_files file trees number))
rising_files file [] number = tt
rising_files file (tree ∷ trees) number = rising_items file tree.items number (parts_of_files (suc file) trees) (λ n. rising_files (suc file) trees n)

-- a function among those whose numbers rise has a number from there on
among_least : (n : ℕ) (fs : List Function) (f : Function) → Rising n fs → IsAmong f fs → n ≤ f.number
among_least n [] f h x = elim x [ ]
among_least n (g ∷ fs) f h (inl e) = let same : g.number ≡ f.number = ap (λ (f : Function). f.number) e in omega (arith, h.0, same)
among_least n (g ∷ fs) f h (inr s) = omega (arith, h.0, among_least (suc g.number) fs f h.1 s)

-- it is the one of its number
found_by_number : (n : ℕ) (fs : List Function) (f : Function) → Rising n fs → IsAmong f fs → find (λ g. g.number == f.number) fs ≡ Some f
found_by_number n [] f h x = elim x [ ]
found_by_number n (g ∷ fs) f h (inl e) =
    let same : g.number == f.number ≡ true = subst (λ (x : Function). g.number == x.number ≡ true) e (nat_eq_equiv.refl g.number) in
    ap (λ b. cond b (Some g) (find (λ g. g.number == f.number) fs)) same ∙ ap (λ x. Some x) e
found_by_number n (g ∷ fs) f h (inr s) = go (among_least (suc g.number) fs f h.1 s) (found_by_number (suc g.number) fs f h.1 s) (g.number == f.number) refl
  where
    go : suc g.number ≤ f.number → find (λ g. g.number == f.number) fs ≡ Some f → (b : Bool) → g.number == f.number ≡ b → cond b (Some g) (find (λ g. g.number == f.number) fs) ≡ Some f
    go less further true e = absurd (let same : g.number ≡ f.number = eqb-true g.number f.number e in omega (arith, less, same))
    go less further false e = further

called_among : (names : Names) (name : List ℕ) (f : Function) → callee names name ≡ OfProgram f → IsAmong f names.functions
called_among names name f e = go (builtin_named name) e
  where
    found : (o : Option Function) → find (λ f. bytes_eq name f.name) names.functions ≡ o → option_map_or OfProgram o Unknown ≡ OfProgram f → IsAmong f names.functions
    found None is h = absurd (let e : Unknown ≡ OfProgram f = h in cc)
    found (Some g) is h = let e : OfProgram g ≡ OfProgram f = h in let same : g ≡ f = cc in found_among (λ f. bytes_eq name f.name) names.functions f (is ∙ ap (λ x. Some x) same)

    go : (o : Option Builtin) → option_map_or OfLanguage o (option_map_or OfProgram (find (λ f. bytes_eq name f.name) names.functions) Unknown) ≡ OfProgram f → IsAmong f names.functions
    go (Some b) h = absurd (let e : OfLanguage b ≡ OfProgram f = h in cc)
    go None h = found (find (λ f. bytes_eq name f.name) names.functions) refl h

-- ---- parameters

among_left : {A : Type 0} (x : A) (xs ys : List A) → IsAmong x xs → IsAmong x (xs ++ ys)
among_left x [] ys h = elim h [ ]
among_left x (y ∷ xs) ys (inl e) = inl e
among_left x (y ∷ xs) ys (inr s) = inr (among_left x xs ys s)

among_right : {A : Type 0} (x : A) (xs ys : List A) → IsAmong x ys → IsAmong x (xs ++ ys)
among_right x [] ys h = h
among_right x (y ∷ xs) ys h = inr (among_right x xs ys h)

among_map : {A B : Type 0} (g : A → B) (xs : List A) (i : ℕ) (x : A) → slice_get xs i ≡ Some x → IsAmong (g x) (map g xs)
among_map g [] i x e = absurd (let f : None ≡ Some x = e in cc)
among_map g (y ∷ xs) zero x e = let f : Some y ≡ Some x = e in let same : y ≡ x = cc in inl (ap g same)
among_map g (y ∷ xs) (suc i) x e = inr (among_map g xs i x e)

-- a parameter of a function is a variable
parameter_among : (base : List DbcMessage) (parts : List Part) (f : Function) → IsAmong f (functions parts) → (i : ℕ) (p : Param) → slice_get f.parameters i ≡ Some p →
    IsAmong (variable_of_parameter f.number f.file p) (flat_map (variables_of_part base) parts)
parameter_among base [] f h i p e = elim h [ ]
parameter_among base (Globals file declarations ∷ parts) f h i p e =
    among_right _ (variables_of_part base (Globals file declarations)) _ (parameter_among base parts f h i p e)
parameter_among base (Procedure number file procedure ∷ parts) f h i p e =
    go procedure.head refl h (λ s. among_right (variable_of_parameter f.number f.file p) (variables_of_part base (Procedure number file procedure)) (flat_map (variables_of_part base) parts) (parameter_among base parts f s i p e))
  where
    go : (form : Head) → procedure.head ≡ form → IsAmong f (cons_option (function_by number file form procedure.body) (functions parts)) →
        (IsAmong f (functions parts) → IsAmong (variable_of_parameter f.number f.file p) (variables_of_part base (Procedure number file procedure) ++ flat_map (variables_of_part base) parts)) →
        IsAmong (variable_of_parameter f.number f.file p) (variables_of_part base (Procedure number file procedure) ++ flat_map (variables_of_part base) parts)
    go (head.Function kind name parameters at) is (inr s) further = further s
    go (head.Function kind name parameters at) is (inl same) further =
        subst (λ (x : Function). slice_get x.parameters i ≡ Some p → IsAmong (variable_of_parameter x.number x.file p) (variables_of_part base (Procedure number file procedure) ++ flat_map (variables_of_part base) parts)) same
        (λ e. among_left _ (variables_of_part base (Procedure number file procedure)) _ (among_left _ (map (variable_of_parameter number file) (parameters_of procedure.head)) _
        (among_map (variable_of_parameter number file) (parameters_of procedure.head) i p (ap (λ form. slice_get (parameters_of form) i) is ∙ e)))) e
    go head.PreStart is s further = further s
    go head.Start is s further = further s
    go head.Stop is s further = further s
    go (head.Message selectors) is s further = further s
    go (head.Timer name at) is s further = further s
    go (head.Key value) is s further = further s

-- the names of a program in which no name is declared twice
pub plain_names : (base : List DbcMessage) (program : Program) → AreDistinct (variables_of base program) → ArePlain (names_of base program)
plain_names base program distinct = record {
  distinct = distinct;
  numbered = λ name f e. found_by_number 1 (functions (parts_of program)) f (rising_files 0 program.files 1) (called_among (names_of base program) name f e);
  parameters = λ number f e. parameter_among base (parts_of program) f (found_among (λ f. f.number == number) (functions (parts_of program)) f e);
}

-- ---- event procedures

-- what holds of each of two lists holds of each of both
pub all_append : {A : Type 0} (P : A → Type 0) (xs ys : List A) → AllByRecursion P xs → AllByRecursion P ys → AllByRecursion P (xs ++ ys)
all_append P [] ys f g = g
all_append P (x ∷ xs) ys f g = (f.0, all_append P xs ys f.1 g)

-- each event procedure stands among the names of its program
pub handlers_named : (names : Names) (parts : List Part) → AllByRecursion (λ (h : Handler). h.scope.names ≡ names) (flat_map (handlers_of_part names) parts)
handlers_named names [] = tt
handlers_named names (Globals file declarations ∷ parts) = handlers_named names parts
handlers_named names (Procedure number file procedure ∷ parts) =
    all_append (λ (h : Handler). h.scope.names ≡ names) (handlers_of_part names (Procedure number file procedure)) (flat_map (handlers_of_part names) parts)
    (go (event_of names procedure.head)) (handlers_named names parts)
  where
    go : (o : Option Event) → AllByRecursion (λ (h : Handler). h.scope.names ≡ names) (option_map_or (λ e. record {
      scope = inside names number file procedure.head;
      event = e;
      body = procedure.body;
      file = file;
      token = procedure.at;
    } ∷ []) o [])
    go None = tt
    go (Some e) = (refl, tt)
