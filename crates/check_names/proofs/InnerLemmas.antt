-- Parameters and locals that are declared for the second time, of all procedures at once and of each.
use Rattle.std.proofs.Common.{◌≡◌, ◌<◌, ℕ, suc, Bool, true, false, cond, List, [], ◌∷◌, ◌++◌, ◌∙◌, ◌||◌, ◌&&◌, nat_lt, ◌==◌, inl, inr, arith, refl, ap, sym, subst}
use Rattle.std.specs.Prelude.{⊤, if◌then◌else◌, map, flat_map, filter}
use Rattle.std.specs.List.{AllByRecursion, list_any}
use Rattle.std.specs.Str.{bytes_eq}
use Rattle.std.proofs.lemmas.Bool.Decides.{nat_tests}
use Rattle.dbc_reader.specs.declared.message.DbcMessage.{DbcMessage}
use Rattle.capl_tree.specs.declared.declaration.Decl.{Decl}
use Rattle.capl_tree.specs.declared.procedure.Param.{Param}
use Rattle.capl_tree.specs.declared.file.Program.{Program}
use Rattle.capl_tree.specs.declared.file.FileTree.{FileTree}
use Rattle.capl_tree.specs.declared.file.TopItem.{TopItem}
use Rattle.capl_tree.specs.declared.file.TopItem.TheVariants as top
use Rattle.capl_meaning.specs.declared.offence.Offence.{Offence}
use Rattle.capl_meaning.specs.Names.{Names, names_of}
use Rattle.capl_meaning.specs.ProcedureRules.{Declared, inner_name_offences, name_offence, same_name}
use Rattle.capl_meaning.specs.StatementRules.{repeated}
use Rattle.capl_meaning.specs.Variable.{Part, Globals, Procedure, Variable, declarations_in, parameters_of, parts_of, parts_of_files, parts_of_items, variable_of_parameter, variables_of, variables_of_declaration, variables_of_part}
use Rattle.check_names.specs.Inside.Inner.{inner_offence, same_inside}
use Rattle.check_names.specs.Inside.Table.{is_named}
use Rattle.check_names.specs.Named.{names_inside}
use Rattle.check_names.proofs.IsIn.{IsIn, IsWithin, from_flat_map, from_map, in_flat_map, in_map, in_one}

-- the name of a variable, and where it is declared
abbrev declared : Variable → Declared
declared v = record { file = v.file; token = v.token; name = v.name }

-- a variable is of the procedure of a number
abbrev is_of : ℕ → Variable → Bool
is_of number v = v.owner == number

-- what a filter keeps
pub in_filter : {A : Type 0} (p : A → Bool) (x : A) (xs : List A) → IsIn x xs → p x ≡ true → IsIn x (filter p xs)
in_filter p x [] is passes = absurd is
in_filter p x (y ∷ xs) (inl same) passes =
    subst (λ (b : Bool). IsIn x (cond b (y ∷ filter p xs) (filter p xs))) (sym (ap p same ∙ passes)) (inl same)
in_filter p x (y ∷ xs) (inr rest) passes = by (p y) (in_filter p x xs rest passes)
  where
    by : (b : Bool) → IsIn x (filter p xs) → IsIn x (cond b (y ∷ filter p xs) (filter p xs))
    by true kept = inr kept
    by false kept = kept

-- and where it comes from
pub from_filter : {A : Type 0} (p : A → Bool) (x : A) (xs : List A) → IsIn x (filter p xs) → IsIn x xs × (p x ≡ true)
from_filter p x [] is = absurd is
from_filter {A} p x (y ∷ xs) is = by (p y) refl is (λ rest. from_filter p x xs rest)
  where
    by : (b : Bool) → p y ≡ b → IsIn x (cond b (y ∷ filter p xs) (filter p xs))
        → (IsIn x (filter p xs) → IsIn x xs × (p x ≡ true)) → IsIn x (y ∷ xs) × (p x ≡ true)
    by true passes (inl same) others = (inl same, ap p (sym same) ∙ passes)
    by true passes (inr rest) others = (let r = others rest in (inr r.0, r.1))
    by false fails rest others = (let r = others rest in (inr r.0, r.1))

-- what is the same as an earlier one stands in the list, and passes the test with an earlier one
pub from_repeated : {A : Type 0} (same : A → A → Bool) (earlier xs : List A) (x : A) → IsIn x (repeated same earlier xs)
    → IsIn x xs × ((among : List A) × (list_any (same x) among ≡ true))
from_repeated same earlier [] x is = absurd is
from_repeated {A} same earlier (y ∷ xs) x is = by (list_any (same y) earlier) refl is (λ rest. from_repeated same (y ∷ earlier) xs x rest)
  where
    by : (b : Bool) → list_any (same y) earlier ≡ b → IsIn x ((if b then y ∷ [] else []) ++ repeated same (y ∷ earlier) xs)
        → (IsIn x (repeated same (y ∷ earlier) xs) → IsIn x xs × ((among : List A) × (list_any (same x) among ≡ true)))
        → IsIn x (y ∷ xs) × ((among : List A) × (list_any (same x) among ≡ true))
    by true some (inl here) others = (inl here, (earlier, ap (λ (z : A). list_any (same z) earlier) (sym here) ∙ some))
    by true some (inr rest) others = (let r = others rest in (inr r.0, r.1))
    by false none rest others = (let r = others rest in (inr r.0, r.1))

-- of no variable outside of procedures another one has the name
inside_only : (v : Variable) (among : List Variable) → list_any (same_inside v) among ≡ true → 0 < v.owner
inside_only v [] is = absurd (cc)
inside_only v (w ∷ among) is = by (nat_lt 0 v.owner) refl is (inside_only v among)
  where
    by : (b : Bool) → nat_lt 0 v.owner ≡ b → (b && is_named v.owner v.name w) || list_any (same_inside v) among ≡ true
        → (list_any (same_inside v) among ≡ true → 0 < v.owner) → 0 < v.owner
    by true inside some others = grind (arith, nat_tests, inside)
    by false outside some others = others some

-- the same name earlier in the procedure
same_earlier : (number : ℕ) (v : Variable) (earlier : List Variable) → 0 < number → v.owner ≡ number
    → list_any (same_name (declared v)) (map declared (filter (is_of number) earlier)) ≡ list_any (same_inside v) earlier
same_earlier number v [] above owner = refl
same_earlier number v (w ∷ earlier) above owner =
    by (w.owner == number) (ap (λ (n : ℕ). w.owner == n) owner) (same_earlier number v earlier above owner)
  where
    inside : nat_lt 0 v.owner ≡ true
    inside = grind (arith, nat_tests, above, owner)

    by : (b : Bool) → (w.owner == v.owner) ≡ b
        → list_any (same_name (declared v)) (map declared (filter (is_of number) earlier)) ≡ list_any (same_inside v) earlier
        → list_any (same_name (declared v)) (map declared (cond b (w ∷ filter (is_of number) earlier) (filter (is_of number) earlier)))
        ≡ (same_inside v w || list_any (same_inside v) earlier)
    by true here rest =
        ap (λ (b : Bool). bytes_eq v.name w.name || b) rest
        ∙ ap (λ (b : Bool). (b && bytes_eq v.name w.name) || list_any (same_inside v) earlier) (sym here)
        ∙ ap (λ (b : Bool). (b && (w.owner == v.owner && bytes_eq v.name w.name)) || list_any (same_inside v) earlier) (sym inside)
    by false other rest =
        rest
        ∙ ap (λ (b : Bool). (b && bytes_eq v.name w.name) || list_any (same_inside v) earlier) (sym other)
        ∙ ap (λ (b : Bool). (b && (w.owner == v.owner && bytes_eq v.name w.name)) || list_any (same_inside v) earlier) (sym inside)

-- those of one procedure among those of all
inner_of : (number : ℕ) (earlier vs : List Variable) → 0 < number
    → repeated same_name (map declared (filter (is_of number) earlier)) (map declared (filter (is_of number) vs))
    ≡ map declared (filter (is_of number) (repeated same_inside earlier vs))
inner_of number earlier [] above = refl
inner_of number earlier (v ∷ vs) above = by (v.owner == number) refl (inner_of number (v ∷ earlier) vs above)
  where
    here : (b : Bool) → (v.owner == number) ≡ true
        → repeated same_name (declared v ∷ map declared (filter (is_of number) earlier)) (map declared (filter (is_of number) vs))
        ≡ map declared (filter (is_of number) (repeated same_inside (v ∷ earlier) vs))
        → (if b then declared v ∷ [] else []) ++ repeated same_name (declared v ∷ map declared (filter (is_of number) earlier)) (map declared (filter (is_of number) vs))
        ≡ map declared (filter (is_of number) ((if b then v ∷ [] else []) ++ repeated same_inside (v ∷ earlier) vs))
    here true is rest =
        ap (λ l. declared v ∷ l) rest
        ∙ ap (λ (b : Bool). map declared (cond b (v ∷ filter (is_of number) (repeated same_inside (v ∷ earlier) vs))
        (filter (is_of number) (repeated same_inside (v ∷ earlier) vs)))) (sym is)
    here false is rest = rest

    there : (b : Bool) → (v.owner == number) ≡ false
        → filter (is_of number) (repeated same_inside (v ∷ earlier) vs)
        ≡ filter (is_of number) ((if b then v ∷ [] else []) ++ repeated same_inside (v ∷ earlier) vs)
    there true is = ap (λ (b : Bool). cond b (v ∷ filter (is_of number) (repeated same_inside (v ∷ earlier) vs))
        (filter (is_of number) (repeated same_inside (v ∷ earlier) vs))) (sym is)
    there false is = refl

    by : (b : Bool) → (v.owner == number) ≡ b
        → repeated same_name (map declared (cond b (v ∷ filter (is_of number) earlier) (filter (is_of number) earlier))) (map declared (filter (is_of number) vs))
        ≡ map declared (filter (is_of number) (repeated same_inside (v ∷ earlier) vs))
        → repeated same_name (map declared (filter (is_of number) earlier)) (map declared (cond b (v ∷ filter (is_of number) vs) (filter (is_of number) vs)))
        ≡ map declared (filter (is_of number) (repeated same_inside earlier (v ∷ vs)))
    by true is rest =
        let owner : v.owner ≡ number = grind (arith, nat_tests, is) in
        ap (λ (b : Bool). (if b then declared v ∷ [] else []) ++ repeated same_name (declared v ∷ map declared (filter (is_of number) earlier)) (map declared (filter (is_of number) vs)))
        (same_earlier number v earlier above owner)
        ∙ here (list_any (same_inside v) earlier) is rest
    by false is rest = rest ∙ ap (map declared) (there (list_any (same_inside v) earlier) is)

-- ---- numbers of procedures

-- a part is of a procedure with a number above 0, if it is one
abbrev IsNumbered : Part → Type 0
IsNumbered (Globals file declarations) = ⊤
IsNumbered (Procedure number file procedure) = 0 < number

-- those of a file's items, and behind them
numbered_items : (file : ℕ) (items : List TopItem) (number : ℕ) (others : ℕ → List Part) → 0 < number
    → ((n : ℕ) → 0 < n → AllByRecursion IsNumbered (others n)) → AllByRecursion IsNumbered (parts_of_items file items number others)
numbered_items file [] number others above rest = rest number above
numbered_items file (top.Includes names ∷ items) number others above rest = numbered_items file items number others above rest
numbered_items file (top.Variables declarations ∷ items) number others above rest = (tt, numbered_items file items number others above rest)
numbered_items file (top.Proc procedure ∷ items) number others above rest =
    (above, numbered_items file items (suc number) others (omega (arith, above)) rest)

-- those of files
numbered_files : (file : ℕ) (trees : List FileTree) (number : ℕ) → 0 < number → AllByRecursion IsNumbered (parts_of_files file trees number)
numbered_files file [] number above = tt
numbered_files file (tree ∷ trees) number above =
    numbered_items file tree.items number (parts_of_files (suc file) trees) above (λ n more. numbered_files (suc file) trees n more)

-- one of them
one_of : {A : Type 0} (P : A → Type 0) (xs : List A) (x : A) → AllByRecursion P xs → IsIn x xs → P x
one_of P [] x all is = absurd is
one_of P (y ∷ xs) x all (inl same) = subst P same all.0
one_of P (y ∷ xs) x all (inr rest) = one_of P xs x all.1 rest

-- ---- owners of variables

-- the owner of a variable of a declaration
declaration_owner : (base : List DbcMessage) (owner file : ℕ) (d : Decl) (v : Variable) → IsIn v (variables_of_declaration base owner file d) → v.owner ≡ owner
declaration_owner base owner file d v is =
    let r = from_map _ v d.items is in sym (ap (λ (w : Variable). w.owner) r.2)

-- of a parameter
parameter_owner : (owner file : ℕ) (parameters : List Param) (v : Variable) → IsIn v (map (variable_of_parameter owner file) parameters) → v.owner ≡ owner
parameter_owner owner file parameters v is =
    let r = from_map _ v parameters is in sym (ap (λ (w : Variable). w.owner) r.2)

-- of declarations
declarations_owner : (base : List DbcMessage) (owner file : ℕ) (ds : List Decl) (v : Variable)
    → IsIn v (flat_map (variables_of_declaration base owner file) ds) → v.owner ≡ owner
declarations_owner base owner file ds v is =
    let r = from_flat_map _ v ds is in declaration_owner base owner file r.0 v r.2

-- the part in whose procedure a variable is declared
inside_part : (base : List DbcMessage) (part : Part) (v : Variable) → IsIn v (variables_of_part base part) → 0 < v.owner
    → (names : Names) → names_inside names part ≡ inner_name_offences names v.owner
inside_part base (Globals file declarations) v is above names =
    let owner = declarations_owner base 0 file declarations v is in absurd (omega (arith, owner, above))
inside_part base (Procedure number file procedure) v is above names =
    elim (in_one v (map (variable_of_parameter number file) (parameters_of procedure.head))
    (flat_map (variables_of_declaration base number file) (flat_map declarations_in procedure.body)) is) [
      | inl here ↦ ap (inner_name_offences names) (sym (parameter_owner number file (parameters_of procedure.head) v here))
      | inr there ↦ ap (inner_name_offences names) (sym (declarations_owner base number file (flat_map declarations_in procedure.body) v there))
    ]

-- ---- all procedures at once and each

-- what a procedure breaks
of_number : (names : Names) (number : ℕ) → 0 < number
    → inner_name_offences names number ≡ map name_offence (map declared (filter (is_of number) (repeated same_inside [] names.variables)))
of_number names number above = ap (map name_offence) (inner_of number [] names.variables above)

-- what all break, each breaks
pub all_within_each : (base : List DbcMessage) (program : Program) →
    IsWithin (map inner_offence (repeated same_inside [] (variables_of base program)))
    (flat_map (names_inside (names_of base program)) (parts_of program))
all_within_each base program = λ offence is.
    let names = names_of base program in
    let v = from_map inner_offence offence (repeated same_inside [] names.variables) is in
    let from = from_repeated same_inside [] names.variables v.0 v.1 in
    let above = inside_only v.0 from.1.0 from.1.1 in
    let part = from_flat_map (variables_of_part base) v.0 (parts_of program) from.0 in
    let kept = in_filter (is_of v.0.owner) v.0 (repeated same_inside [] names.variables) v.1 (grind (arith, nat_tests)) in
    let here : IsIn offence (inner_name_offences names v.0.owner) =
    subst (λ l. IsIn offence l) (sym (of_number names v.0.owner above))
    (subst (λ (o : Offence). IsIn o (map name_offence (map declared (filter (is_of v.0.owner) (repeated same_inside [] names.variables))))) v.2
    (in_map name_offence (declared v.0) _ (in_map declared v.0 _ kept))) in
    in_flat_map (names_inside names) offence part.0 (parts_of program) part.1
    (subst (λ l. IsIn offence l) (sym (inside_part base part.0 v.0 part.2 above names)) here)

-- what each breaks, all break
pub each_within_all : (base : List DbcMessage) (program : Program) →
    IsWithin (flat_map (names_inside (names_of base program)) (parts_of program))
    (map inner_offence (repeated same_inside [] (variables_of base program)))
each_within_all base program = λ offence is.
    let part = from_flat_map (names_inside (names_of base program)) offence (parts_of program) is in
    by offence part.0 (one_of IsNumbered (parts_of program) part.0 (numbered_files 0 program.files 1 (omega arith)) part.1) part.2
  where
    by : (offence : Offence) (part : Part) → IsNumbered part → IsIn offence (names_inside (names_of base program) part)
        → IsIn offence (map inner_offence (repeated same_inside [] (variables_of base program)))
    by offence (Globals file declarations) above is = absurd is
    by offence (Procedure number file procedure) above is =
        let names = names_of base program in
        let d = from_map name_offence offence _ (subst (λ l. IsIn offence l) (of_number names number above) is) in
        let v = from_map declared d.0 _ d.1 in
        let kept = from_filter (is_of number) v.0 _ v.1 in
        subst (λ (o : Offence). IsIn o (map inner_offence (repeated same_inside [] names.variables)))
        (ap name_offence v.2 ∙ d.2) (in_map inner_offence v.0 _ kept.0)
