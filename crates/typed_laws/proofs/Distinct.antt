-- A program without offences declares no name twice.
use Rattle.std.proofs.Common.{◌≡◌, ℕ, zero, suc, ◌≤◌, ◌⊎◌, inl, inr, Bool, true, false, List, [], ◌∷◌, ◌++◌, refl, sym, ap, ◌∙◌, subst, arith}
use Rattle.std.specs.Prelude.{⊤, ◌==◌, cond, filter, flat_map, if◌then◌else◌, map}
use Rattle.std.specs.List.{AllByRecursion, list_any}
use Rattle.std.specs.Str.{bytes_eq}
use Rattle.std.proofs.lemmas.Bool.{eqb-true}
use Rattle.std.proofs.lemmas.Cmp.{nat_eq_equiv}
use Rattle.dbc_reader.specs.declared.message.DbcMessage.{DbcMessage}
use Rattle.capl_tree.specs.declared.declaration.Decl.{Decl}
use Rattle.capl_tree.specs.declared.declaration.Declr.{Declr}
use Rattle.capl_tree.specs.declared.file.FileTree.{FileTree}
use Rattle.capl_tree.specs.declared.file.Program.{Program}
use Rattle.capl_tree.specs.declared.file.TopItem.{TopItem}
use Rattle.capl_tree.specs.declared.file.TopItem.TheVariants as top
use Rattle.capl_tree.specs.declared.procedure.Proc.{Proc}
use Rattle.capl_meaning.specs.Variable.{Part, Globals, Procedure, Variable, declarations_in, form_of, parameters_of, parts_of, parts_of_files, parts_of_items, variable_of_parameter, variables_of, variables_of_declaration, variables_of_part}
use Rattle.capl_meaning.specs.Names.{Names, inside, names_of}
use Rattle.capl_meaning.specs.Offences.{offences_of, part_offences}
use Rattle.capl_meaning.specs.ProcedureRules.{Declared, head_offences, inner_name_offences, inner_names, name_offence, names_declared, outer_name_offences, outer_names, same_name}
use Rattle.capl_meaning.specs.StatementRules.{repeated}
use Rattle.capl_meaning.specs.Store.{variable_key, same_key}
use Rattle.typed_laws.specs.Laid.{AreDistinct, IsAmong}
use Rattle.typed_laws.proofs.Declared.{all_append}

-- ---- lists of names

-- no name is one before it
abbrev Different : List (List ℕ) → Type 0
Different [] = ⊤
Different (n ∷ ns) = AllByRecursion (λ m. bytes_eq m n ≡ false) ns × Different ns

-- some of the names, in order
abbrev Sub : List (List ℕ) → List (List ℕ) → Type 0
Sub xs [] = xs ≡ []
Sub [] (y ∷ ys) = ⊤
Sub (x ∷ xs) (y ∷ ys) = ((x ≡ y) × Sub xs ys) ⊎ Sub (x ∷ xs) ys

sub_none : (ys : List (List ℕ)) → Sub [] ys
sub_none [] = refl
sub_none (y ∷ ys) = tt

sub_all : (xs : List (List ℕ)) → Sub xs xs
sub_all [] = refl
sub_all (x ∷ xs) = inl (refl, sub_all xs)

sub_append : (xs ys xs' ys' : List (List ℕ)) → Sub xs ys → Sub xs' ys' → Sub (xs ++ xs') (ys ++ ys')
sub_append xs [] xs' ys' s t = subst (λ l. Sub (l ++ xs') ys') (sym s) t
sub_append [] (y ∷ ys) xs' ys' s t = skip xs' (sub_append [] ys xs' ys' (sub_none ys) t)
  where
    skip : (zs : List (List ℕ)) → Sub zs (ys ++ ys') → Sub zs (y ∷ ys ++ ys')
    skip [] h = tt
    skip (z ∷ zs) h = inr h
sub_append (x ∷ xs) (y ∷ ys) xs' ys' (inl s) t = inl (s.0, sub_append xs ys xs' ys' s.1 t)
sub_append (x ∷ xs) (y ∷ ys) xs' ys' (inr s) t = inr (sub_append (x ∷ xs) ys xs' ys' s t)

all_sub : (P : List ℕ → Type 0) (xs ys : List (List ℕ)) → Sub xs ys → AllByRecursion P ys → AllByRecursion P xs
all_sub P xs [] s all = subst (AllByRecursion P) (sym s) tt
all_sub P [] (y ∷ ys) s all = tt
all_sub P (x ∷ xs) (y ∷ ys) (inl s) all = (subst P (sym s.0) all.0, all_sub P xs ys s.1 all.1)
all_sub P (x ∷ xs) (y ∷ ys) (inr s) all = all_sub P (x ∷ xs) ys s all.1

different_sub : (xs ys : List (List ℕ)) → Sub xs ys → Different ys → Different xs
different_sub xs [] s h = subst Different (sym s) tt
different_sub [] (y ∷ ys) s h = tt
different_sub (x ∷ xs) (y ∷ ys) (inl s) h =
    (subst (λ n. AllByRecursion (λ m. bytes_eq m n ≡ false) xs) (sym s.0) (all_sub (λ m. bytes_eq m y ≡ false) xs ys s.1 h.0), different_sub xs ys s.1 h.1)
different_sub (x ∷ xs) (y ∷ ys) (inr s) h = different_sub (x ∷ xs) ys s h.1

-- ---- names that are not repeated

empty_left : {A : Type 0} (xs ys : List A) → xs ++ ys ≡ [] → xs ≡ []
empty_left [] ys e = refl
empty_left (x ∷ xs) ys e = absurd (let f : x ∷ xs ++ ys ≡ [] = e in cc)

empty_right : {A : Type 0} (xs ys : List A) → xs ++ ys ≡ [] → ys ≡ []
empty_right [] ys e = e
empty_right (x ∷ xs) ys e = absurd (let f : x ∷ xs ++ ys ≡ [] = e in cc)

empty_map : {A B : Type 0} (f : A → B) (xs : List A) → map f xs ≡ [] → xs ≡ []
empty_map f [] e = refl
empty_map f (x ∷ xs) e = absurd (let g : f x ∷ map f xs ≡ [] = e in cc)

-- the names of what is declared
abbrev declared_names : List Declared → List (List ℕ)
declared_names ds = map (λ (d : Declared). d.name) ds

-- none of these has the name of an earlier one
abbrev NoneEarlier : List Declared → List Declared → Type 0
NoneEarlier earlier ds = AllByRecursion (λ d. list_any (same_name d) earlier ≡ false) ds

-- what is the same as none of more is the same as none of them, nor as the first
none_split : (x : Declared) (earlier ds : List Declared) → NoneEarlier (x ∷ earlier) ds → NoneEarlier earlier ds × AllByRecursion (λ m. bytes_eq m x.name ≡ false) (declared_names ds)
none_split x earlier [] h = (tt, tt)
none_split x earlier (d ∷ ds) h = go (none_split x earlier ds h.1) (bytes_eq d.name x.name) refl h.0
  where
    go : NoneEarlier earlier ds × AllByRecursion (λ m. bytes_eq m x.name ≡ false) (declared_names ds) → (b : Bool) → bytes_eq d.name x.name ≡ b → list_any (same_name d) (x ∷ earlier) ≡ false →
        NoneEarlier earlier (d ∷ ds) × AllByRecursion (λ m. bytes_eq m x.name ≡ false) (declared_names (d ∷ ds))
    go rest true is e = absurd (let f : true ≡ false = sym (rw is refl) ∙ e in cc)
    go rest false is e = ((sym (rw is refl) ∙ e, rest.0), (is, rest.1))

repeated_first : (earlier : List Declared) (x : Declared) (xs : List Declared) → (if list_any (same_name x) earlier then x ∷ [] else []) ≡ [] →
    NoneEarlier (x ∷ earlier) xs × Different (declared_names xs) → NoneEarlier earlier (x ∷ xs) × Different (declared_names (x ∷ xs))
repeated_first earlier x xs first rest = go (list_any (same_name x) earlier) refl
  where
    go : (b : Bool) → list_any (same_name x) earlier ≡ b → NoneEarlier earlier (x ∷ xs) × Different (declared_names (x ∷ xs))
    go true is = absurd (let f : x ∷ [] ≡ [] = sym (ap (λ b. if b then x ∷ [] else []) is) ∙ first in cc)
    go false is = let split = none_split x earlier xs rest.0 in ((is, split.0), (split.1, rest.1))

repeated_none : (earlier ds : List Declared) → repeated same_name earlier ds ≡ [] → NoneEarlier earlier ds × Different (declared_names ds)
repeated_none earlier [] e = (tt, tt)
repeated_none earlier (x ∷ xs) e =
    repeated_first earlier x xs (empty_left (if list_any (same_name x) earlier then x ∷ [] else []) (repeated same_name (x ∷ earlier) xs) e)
    (repeated_none (x ∷ earlier) xs (empty_right (if list_any (same_name x) earlier then x ∷ [] else []) (repeated same_name (x ∷ earlier) xs) e))

-- ---- the variables of one owner

-- the variables of one owner, and the names of variables
abbrev own : ℕ → List Variable → List Variable
own k vs = filter (λ v. v.owner == k) vs

abbrev names_in : List Variable → List (List ℕ)
names_in vs = map (λ (v : Variable). v.name) vs

-- no variable has the name of one of its owner, where none of that owner has it
other_keys : (v : Variable) (us : List Variable) → AllByRecursion (λ m. bytes_eq m v.name ≡ false) (names_in (own v.owner us)) → AllByRecursion (λ u. same_key (variable_key u) (variable_key v) ≡ false) us
other_keys v [] all = tt
other_keys v (u ∷ us) all = go (u.owner == v.owner) refl all (other_keys v us)
  where
    go : (b : Bool) → u.owner == v.owner ≡ b → AllByRecursion (λ m. bytes_eq m v.name ≡ false) (names_in (cond b (u ∷ own v.owner us) (own v.owner us))) →
        (AllByRecursion (λ m. bytes_eq m v.name ≡ false) (names_in (own v.owner us)) → AllByRecursion (λ u. same_key (variable_key u) (variable_key v) ≡ false) us) →
        AllByRecursion (λ u. same_key (variable_key u) (variable_key v) ≡ false) (u ∷ us)
    go true is all further = (rw (is, all.0) refl, further all.1)
    go false is all further = (rw is refl, further all)

-- where those of each owner have different names, all variables are distinct
distinct_owners : (vs : List Variable) → ((k : ℕ) → Different (names_in (own k vs))) → AreDistinct vs
distinct_owners [] h = tt
distinct_owners (v ∷ vs) h =
    let self : v.owner == v.owner ≡ true = nat_eq_equiv.refl v.owner in
    let mine : Different (names_in (v ∷ own v.owner vs)) = subst (λ b. Different (names_in (cond b (v ∷ own v.owner vs) (own v.owner vs)))) self (h v.owner) in
    (other_keys v vs mine.0, distinct_owners vs (λ k. rest k (v.owner == k) (h k)))
  where
    rest : (k : ℕ) (b : Bool) → Different (names_in (cond b (v ∷ own k vs) (own k vs))) → Different (names_in (own k vs))
    rest k true h = h.1
    rest k false h = h

own_append : (k : ℕ) (xs ys : List Variable) → own k (xs ++ ys) ≡ own k xs ++ own k ys
own_append k [] ys = refl
own_append k (x ∷ xs) ys = go (x.owner == k) (own_append k xs ys)
  where
    go : (b : Bool) → own k (xs ++ ys) ≡ own k xs ++ own k ys → cond b (x ∷ own k (xs ++ ys)) (own k (xs ++ ys)) ≡ cond b (x ∷ own k xs) (own k xs) ++ own k ys
    go true e = ap (λ l. x ∷ l) e
    go false e = e

own_none : (n k : ℕ) (xs : List Variable) → AllByRecursion (λ (v : Variable). v.owner ≡ n) xs → n == k ≡ false → own k xs ≡ []
own_none n k [] all e = refl
own_none n k (x ∷ xs) all e = ap (λ m. cond (m == k) (x ∷ own k xs) (own k xs)) all.0 ∙ ap (λ b. cond b (x ∷ own k xs) (own k xs)) e ∙ own_none n k xs all.1 e

own_all : (k : ℕ) (xs : List Variable) → AllByRecursion (λ (v : Variable). v.owner ≡ k) xs → own k xs ≡ xs
own_all k [] all = refl
own_all k (x ∷ xs) all = ap (λ m. cond (m == k) (x ∷ own k xs) (own k xs)) all.0 ∙ ap (λ b. cond b (x ∷ own k xs) (own k xs)) (nat_eq_equiv.refl k) ∙ ap (λ l. x ∷ l) (own_all k xs all.1)

all_map : {A B : Type 0} (P : B → Type 0) (f : A → B) (xs : List A) → ((x : A) → P (f x)) → AllByRecursion P (map f xs)
all_map P f [] h = tt
all_map P f (x ∷ xs) h = (h x, all_map P f xs h)

all_flat : {A B : Type 0} (P : B → Type 0) (f : A → List B) (xs : List A) → ((x : A) → AllByRecursion P (f x)) → AllByRecursion P (flat_map f xs)
all_flat P f [] h = tt
all_flat P f (x ∷ xs) h = all_append P (f x) (flat_map f xs) (h x) (all_flat P f xs h)

-- the owner of the variables of a part
abbrev owner_of : Part → ℕ
owner_of (Globals file declarations) = 0
owner_of (Procedure number file procedure) = number

declared_owned : (base : List DbcMessage) (owner file : ℕ) (ds : List Decl) → AllByRecursion (λ (v : Variable). v.owner ≡ owner) (flat_map (variables_of_declaration base owner file) ds)
declared_owned base owner file ds =
    all_flat (λ (v : Variable). v.owner ≡ owner) (variables_of_declaration base owner file) ds (λ d. all_map (λ (v : Variable). v.owner ≡ owner) (variable_made d) d.items (λ x. refl))
  where
    variable_made : Decl → Declr → Variable
    variable_made d x = record {
      owner = owner;
      file = file;
      token = x.at;
      name = x.name;
      form = form_of base d.what x.size;
      init = x.init;
    }

part_owned : (base : List DbcMessage) (part : Part) → AllByRecursion (λ (v : Variable). v.owner ≡ owner_of part) (variables_of_part base part)
part_owned base (Globals file declarations) = declared_owned base 0 file declarations
part_owned base (Procedure number file procedure) =
    all_append (λ (v : Variable). v.owner ≡ number) (map (variable_of_parameter number file) (parameters_of procedure.head)) (flat_map (variables_of_declaration base number file) (flat_map declarations_in procedure.body))
    (all_map (λ (v : Variable). v.owner ≡ number) (variable_of_parameter number file) (parameters_of procedure.head) (λ p. refl)) (declared_owned base number file (flat_map declarations_in procedure.body))

-- ---- globals

-- the names that a declaration declares
item_names : (base : List DbcMessage) (file : ℕ) (ds : List Decl) → names_in (flat_map (variables_of_declaration base 0 file) ds) ≡ declared_names (flat_map (names_declared file) ds)
item_names base file [] = refl
item_names base file (d ∷ ds) = of_items d.items (item_names base file ds)
  where
    of_items : (items : List Declr) → names_in (flat_map (variables_of_declaration base 0 file) ds) ≡ declared_names (flat_map (names_declared file) ds) →
        names_in (map (λ x. record {
          owner = 0;
          file = file;
          token = x.at;
          name = x.name;
          form = form_of base d.what x.size;
          init = x.init;
        }) items ++ flat_map (variables_of_declaration base 0 file) ds) ≡
        declared_names (map (λ x. record { file = file; token = x.at; name = x.name }) items ++ flat_map (names_declared file) ds)
    of_items [] e = e
    of_items (x ∷ items) e = ap (λ l. x.name ∷ l) (of_items items e)

names_append : (xs ys : List Declared) → declared_names (xs ++ ys) ≡ declared_names xs ++ declared_names ys
names_append [] ys = refl
names_append (x ∷ xs) ys = ap (λ l. x.name ∷ l) (names_append xs ys)

variable_names_append : (xs ys : List Variable) → names_in (xs ++ ys) ≡ names_in xs ++ names_in ys
variable_names_append [] ys = refl
variable_names_append (x ∷ xs) ys = ap (λ l. x.name ∷ l) (variable_names_append xs ys)

-- procedures are numbered from 1 on
abbrev IsNumbered : Part → Type 0
IsNumbered (Globals file declarations) = ⊤
IsNumbered (Procedure number file procedure) = 1 ≤ number

numbered_items : (file : ℕ) (items : List TopItem) (number : ℕ) (others : ℕ → List Part) → 1 ≤ number → ((n : ℕ) → 1 ≤ n → AllByRecursion IsNumbered (others n)) → AllByRecursion IsNumbered (parts_of_items file items number others)
numbered_items file [] number others le h = h number le
numbered_items file (top.Includes names ∷ items) number others le h = numbered_items file items number others le h
numbered_items file (top.Variables declarations ∷ items) number others le h = (tt, numbered_items file items number others le h)
numbered_items file (top.Proc procedure ∷ items) number others le h = (le, numbered_items file items (suc number) others (omega arith) h)

numbered_files : (file : ℕ) (trees : List FileTree) (number : ℕ) → 1 ≤ number → AllByRecursion IsNumbered (parts_of_files file trees number)
numbered_files file [] number le = tt
numbered_files file (tree ∷ trees) number le = numbered_items file tree.items number (parts_of_files (suc file) trees) le (λ n le. numbered_files (suc file) trees n le)

-- the names of globals are some of the names that E10 compares
globals_sub : (base : List DbcMessage) (parts : List Part) → AllByRecursion IsNumbered parts → Sub (names_in (own 0 (flat_map (variables_of_part base) parts))) (declared_names (flat_map outer_names parts))
globals_sub base [] all = refl
globals_sub base (Globals file declarations ∷ parts) all =
    let here = variables_of_part base (Globals file declarations) in
    let rest = flat_map (variables_of_part base) parts in
    let mine : own 0 (here ++ rest) ≡ here ++ own 0 rest = own_append 0 here rest ∙ ap (λ l. l ++ own 0 rest) (own_all 0 here (part_owned base (Globals file declarations))) in
    subst (λ l. Sub l (declared_names (flat_map outer_names (Globals file declarations ∷ parts)))) (sym (ap names_in mine ∙ variable_names_append here (own 0 rest)))
    (subst (λ l. Sub (names_in here ++ names_in (own 0 rest)) l) (sym (names_append (flat_map (names_declared file) declarations) (flat_map outer_names parts)))
    (sub_append (names_in here) (declared_names (flat_map (names_declared file) declarations)) (names_in (own 0 rest)) (declared_names (flat_map outer_names parts))
    (subst (Sub (names_in here)) (item_names base file declarations) (sub_all (names_in here))) (globals_sub base parts all.1)))
globals_sub base (Procedure number file procedure ∷ parts) all =
    let here = variables_of_part base (Procedure number file procedure) in
    let rest = flat_map (variables_of_part base) parts in
    let mine : own 0 (here ++ rest) ≡ own 0 rest = own_append 0 here rest ∙ ap (λ l. l ++ own 0 rest) (own_none number 0 here (part_owned base (Procedure number file procedure)) (not_zero (number == 0) refl)) in
    subst (λ l. Sub (names_in l) (declared_names (outer_names (Procedure number file procedure) ++ flat_map outer_names parts))) (sym mine)
    (subst (Sub (names_in (own 0 rest))) (sym (names_append (outer_names (Procedure number file procedure)) (flat_map outer_names parts)))
    (sub_append [] (declared_names (outer_names (Procedure number file procedure))) (names_in (own 0 rest)) (declared_names (flat_map outer_names parts)) (sub_none _) (globals_sub base parts all.1)))
  where
    not_zero : (b : Bool) → number == 0 ≡ b → number == 0 ≡ false
    not_zero true e = absurd (let f : number ≡ 0 = eqb-true number 0 e in omega (arith, f, all.0))
    not_zero false e = e

-- ---- procedures

-- a procedure of a number stands among parts, or none of their variables is owned by it
owner_stands : (base : List DbcMessage) (k : ℕ) → 1 ≤ k → (parts : List Part) →
    ((file : ℕ) × (procedure : Proc) × IsAmong (Procedure k file procedure) parts) ⊎ (own k (flat_map (variables_of_part base) parts) ≡ [])
owner_stands base k le [] = inr refl
owner_stands base k le (part ∷ parts) = by_part part (owner_stands base k le parts)
  where
    rest : List Variable
    rest = flat_map (variables_of_part base) parts

    others : (part : Part) → owner_of part == k ≡ false → ((file : ℕ) × (procedure : Proc) × IsAmong (Procedure k file procedure) parts) ⊎ (own k rest ≡ []) →
        ((file : ℕ) × (procedure : Proc) × IsAmong (Procedure k file procedure) (part ∷ parts)) ⊎ (own k (variables_of_part base part ++ rest) ≡ [])
    others part e (inl found) = inl (found.0, found.1, inr found.2)
    others part e (inr none) =
        inr (own_append k (variables_of_part base part) rest ∙ ap (λ l. l ++ own k rest) (own_none (owner_of part) k (variables_of_part base part) (part_owned base part) e) ∙ none)

    by_number : (number file : ℕ) (procedure : Proc) (b : Bool) → number == k ≡ b → ((file : ℕ) × (procedure : Proc) × IsAmong (Procedure k file procedure) parts) ⊎ (own k rest ≡ []) →
        ((g : ℕ) × (q : Proc) × IsAmong (Procedure k g q) (Procedure number file procedure ∷ parts)) ⊎ (own k (variables_of_part base (Procedure number file procedure) ++ rest) ≡ [])
    by_number number file procedure true e further =
        let found : (g : ℕ) × (q : Proc) × IsAmong (Procedure k g q) (Procedure number file procedure ∷ parts) = (file, procedure, inl (ap (λ n. Procedure n file procedure) (eqb-true number k e))) in inl found
    by_number number file procedure false e further = others (Procedure number file procedure) e further

    no_global : (b : Bool) → 0 == k ≡ b → 0 == k ≡ false
    no_global true e = absurd (let f : 0 ≡ k = eqb-true 0 k e in omega (arith, f, le))
    no_global false e = e

    by_part : (part : Part) → ((file : ℕ) × (procedure : Proc) × IsAmong (Procedure k file procedure) parts) ⊎ (own k rest ≡ []) →
        ((file : ℕ) × (procedure : Proc) × IsAmong (Procedure k file procedure) (part ∷ parts)) ⊎ (own k (variables_of_part base part ++ rest) ≡ [])
    by_part (Globals file declarations) further = others (Globals file declarations) (no_global (0 == k) refl) further
    by_part (Procedure number file procedure) further = by_number number file procedure (number == k) refl further

-- a part among parts without offences has none
part_without : (names : Names) (parts : List Part) (part : Part) → flat_map (part_offences names) parts ≡ [] → IsAmong part parts → part_offences names part ≡ []
part_without names [] part e h = elim h [ ]
part_without names (p ∷ parts) part e (inl is) = subst (λ q. part_offences names q ≡ []) is (empty_left (part_offences names p) (flat_map (part_offences names) parts) e)
part_without names (p ∷ parts) part e (inr s) = part_without names parts part (empty_right (part_offences names p) (flat_map (part_offences names) parts) e) s

inner_names_are : (vs : List Variable) → declared_names (map (λ (v : Variable). record { file = v.file; token = v.token; name = v.name }) vs) ≡ names_in vs
inner_names_are [] = refl
inner_names_are (v ∷ vs) = ap (λ l. v.name ∷ l) (inner_names_are vs)

-- a program without offences declares no name twice
pub distinct_without_offences : (base : List DbcMessage) (program : Program) → offences_of base program ≡ [] → AreDistinct (variables_of base program)
distinct_without_offences base program none = distinct_owners (variables_of base program) owner
  where
    names : Names
    names = names_of base program

    outer : outer_name_offences (parts_of program) ≡ []
    outer = empty_left (outer_name_offences (parts_of program)) _ none

    inner : flat_map (part_offences names) (parts_of program) ≡ []
    inner = empty_right _ (flat_map (part_offences names) (parts_of program)) (empty_right (outer_name_offences (parts_of program)) _ none)

    outer_repeated : repeated same_name [] (flat_map outer_names (parts_of program)) ≡ []
    outer_repeated = empty_right _ (repeated same_name [] (flat_map outer_names (parts_of program))) (empty_map name_offence _ outer)

    global : Different (names_in (own 0 (variables_of base program)))
    global = different_sub _ _ (globals_sub base (parts_of program) (numbered_files 0 program.files 1 (omega arith))) (repeated_none [] (flat_map outer_names (parts_of program)) outer_repeated).1

    local : (k file : ℕ) (procedure : Proc) → IsAmong (Procedure k file procedure) (parts_of program) → Different (names_in (own k (variables_of base program)))
    local k file procedure among =
        let part = part_without names (parts_of program) (Procedure k file procedure) inner among in
        let told : inner_name_offences names k ≡ [] = empty_left (inner_name_offences names k) _ (empty_right (head_offences (inside names k file procedure.head) procedure.head) _ part) in
        subst Different (inner_names_are (own k (variables_of base program))) (repeated_none [] (inner_names names.variables k) (empty_map name_offence _ told)).1

    owner : (k : ℕ) → Different (names_in (own k (variables_of base program)))
    owner zero = global
    owner (suc k) = by_owner (owner_stands base (suc k) (omega arith) (parts_of program))
      where
        by_owner : ((file : ℕ) × (procedure : Proc) × IsAmong (Procedure (suc k) file procedure) (parts_of program)) ⊎ (own (suc k) (variables_of base program) ≡ []) →
            Different (names_in (own (suc k) (variables_of base program)))
        by_owner (inl found) = local (suc k) found.0 found.1 found.2
        by_owner (inr none) = subst (λ l. Different (names_in l)) (sym none) tt
