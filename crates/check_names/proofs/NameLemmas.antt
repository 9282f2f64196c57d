-- What the tables of names answer.
use Rattle.std.proofs.Common.{◌≡◌, ◌≢◌, ◌+◌, ◌<◌, ◌≤◌, get_or, length, ◌==◌, ◌&&◌, ◌∙◌, ℕ, zero, suc, Bool, true, false, cond, List, [], ◌∷◌, Option, None, Some, refl, ap, sym, arith, nat_lt}
use Rattle.std.specs.Prelude.{find, map, position, slice_get}
use Rattle.std.specs.List.{position_from}
use Rattle.std.specs.Option.{option_and_then, option_or}
use Rattle.std.specs.Str.{bytes_eq}
use Rattle.std.proofs.lemmas.Bool.Decides.{nat_tests}
use Rattle.std.proofs.lemmas.Option.{slice_get-get_or}
use Rattle.std.proofs.lemmas.Iterator.Adapters.{position_from-zero}
use Rattle.dbc_reader.specs.declared.message.DbcMessage.{DbcMessage}
use Rattle.capl_meaning.specs.Names.{Names, Scope, global, is_local, means}
use Rattle.capl_meaning.specs.Variable.{Variable}
use Rattle.capl_meaning.specs.Inside.Names.{is_global}
use Rattle.check_names.specs.declared.table.NameTable.{NameTable}
use Rattle.check_names.specs.declared.variable.Declared.{Declared}
use Rattle.check_names.specs.Inside.Table.{AreInOrder, AreTables, is_named, is_named_before, number_at}
use Rattle.check_names.specs.Variable.{variable_in, variables_in}
use Rattle.check_names.proofs.PositionLemmas.{at_first, find_position, passing, some_first}
use Rattle.check_names.proofs.ScopeLemmas.{by_name, none_before, none_weaker, row, same_first}

-- what no item passes is nowhere
nowhere-from : {X : Type 0} (p : X → Bool) (n : ℕ) (xs : List X) → ((x : X) → p x ≡ false) → position_from p n xs ≡ None
nowhere-from p n [] none = refl
nowhere-from p n (x ∷ xs) none =
    ap (λ (b : Bool). cond b (Some n) (position_from p (n + 1) xs)) (none x) ∙ nowhere-from p (n + 1) xs none

-- outside of procedures there are no locals
pub no_local : (procedure : ℕ) (name : List ℕ) (token : ℕ) (vs : List Variable) → procedure ≡ 0
    → None ≡ position (is_local procedure name token) vs
no_local procedure name token vs outside =
    let fails : nat_lt 0 procedure ≡ false = grind (arith, nat_tests, outside) in
    sym (nowhere-from (is_local procedure name token) 0 vs
    (λ v. ap (λ (b : Bool). b && (v.owner == procedure && (bytes_eq name v.name && nat_lt v.token token))) fails))
    ∙ sym (position_from-zero (is_local procedure name token) vs)

-- in a procedure a local is what has the name and is declared before
locals : (procedure : ℕ) (name : List ℕ) (token : ℕ) (vs : List Variable) → procedure ≢ 0
    → position (is_local procedure name token) vs ≡ position (is_named_before procedure name token) vs
locals procedure name token vs inside =
    let holds : nat_lt 0 procedure ≡ true = grind (arith, nat_tests, inside) in
    ap (λ (b : Bool). position (λ (v : Variable). b && is_named_before procedure name token v) vs) holds

-- a name that the table does not have is that of no local
pub local_missing : (tables : List NameTable) (vs : List Variable) (procedure : ℕ) (name : List ℕ) (token : ℕ)
    → AreTables tables vs → procedure ≢ 0 → number_at tables procedure name ≡ None
    → None ≡ position (is_local procedure name token) vs
local_missing tables vs procedure name token are inside missing =
    sym (locals procedure name token vs inside
    ∙ none_weaker (is_named procedure name) (is_named_before procedure name token) vs (by_name procedure name token)
    (sym (are procedure name) ∙ missing))

-- the first variable of a name, by its number in the table
first_named : (tables : List NameTable) (vs : List Variable) (procedure : ℕ) (name : List ℕ) (number : ℕ) (v : Variable)
    → AreTables tables vs → number_at tables procedure name ≡ Some number → slice_get vs number ≡ Some v
    → find (is_named procedure name) vs ≡ Some v
first_named tables vs procedure name number v are there at =
    sym (at_first (is_named procedure name) number vs (sym (are procedure name) ∙ there)) ∙ at

-- a name that the table has is that of its variable where that stands before
pub local_early : (tables : List NameTable) (vs : List Variable) (procedure : ℕ) (name : List ℕ) (token number : ℕ) (v : Variable)
    → AreTables tables vs → procedure ≢ 0 → number_at tables procedure name ≡ Some number → slice_get vs number ≡ Some v
    → v.token < token → Some number ≡ position (is_local procedure name token) vs
local_early tables vs procedure name token number v are inside there at early =
    let found = first_named tables vs procedure name number v are there at in
    let both = passing (is_named procedure name) vs v found in
    let before : nat_lt v.token token ≡ true = grind (arith, nat_tests, early) in
    let passes : is_named_before procedure name token v ≡ true =
    row (v.owner == procedure) (bytes_eq name v.name) (nat_lt v.token token)
    ∙ ap (λ (b : Bool). b && nat_lt v.token token) both ∙ before in
    sym (locals procedure name token vs inside
    ∙ sym (same_first (is_named procedure name) (is_named_before procedure name token) vs v (by_name procedure name token) found passes)
    ∙ sym (are procedure name) ∙ there)

-- and that of none where it does not and the variables are in order
pub local_late : (tables : List NameTable) (vs : List Variable) (procedure : ℕ) (name : List ℕ) (token number : ℕ) (v : Variable)
    → AreTables tables vs → procedure ≢ 0 → number_at tables procedure name ≡ Some number → slice_get vs number ≡ Some v
    → token ≤ v.token → AreInOrder vs → None ≡ position (is_local procedure name token) vs
local_late tables vs procedure name token number v are inside there at late order =
    let found = first_named tables vs procedure name number v are there at in
    sym (locals procedure name token vs inside ∙ none_before procedure name token vs v inside order found late)

-- the first one that stands before is that of the name
pub local_first : (vs : List Variable) (procedure : ℕ) (name : List ℕ) (token : ℕ) (place : Option ℕ) → procedure ≢ 0
    → place ≡ position (is_named_before procedure name token) vs → place ≡ position (is_local procedure name token) vs
local_first vs procedure name token place inside is = is ∙ sym (locals procedure name token vs inside)

-- an item of a list that each is made from
pub slice_get-map : {X Y : Type 0} (f : X → Y) (i : ℕ) (xs : List X) (x : X) → slice_get xs i ≡ Some x
    → slice_get (map f xs) i ≡ Some (f x)
slice_get-map f i [] x is = cc
slice_get-map f zero (y ∷ xs) x is = let same : y ≡ x = cc in ap (λ z. Some (f z)) same
slice_get-map f (suc i) (y ∷ xs) x is = slice_get-map f i xs x is

-- an item that was taken from a list
taken : {X : Type 0} (xs : List X) (i : ℕ) (x : X) → true ≡ nat_lt i (length xs) → x ≡ get_or xs i x
    → slice_get xs i ≡ Some x
taken xs i x within is =
    let inside : i < length xs = grind (arith, nat_tests, within) in
    slice_get-get_or xs i x inside ∙ ap (λ y. Some y) (sym is)

-- the variable of a number, among those that are listed
pub listed_at : (base : List DbcMessage) (all slice : List Declared) (number : ℕ) (d : Declared) → slice ≡ all
    → true ≡ nat_lt number (length slice) → d ≡ get_or slice number d
    → slice_get (variables_in base all) number ≡ Some (variable_in base d)
listed_at base all slice number d same within is =
    slice_get-map (variable_in base) number all d
    (ap (λ (l : List Declared). slice_get l number) (sym same) ∙ taken slice number d within is)

-- what a name means, by the names and the procedure
means_by : (s : Scope) (names : Names) (procedure : ℕ) (name : List ℕ) (token : ℕ) → s.names ≡ names → s.owner ≡ procedure
    → option_or (find (is_local procedure name token) names.variables) (global names name) ≡ means s name token
means_by s names procedure name token same owner =
    ap (λ (o : ℕ). option_or (find (is_local o name token) names.variables) (global names name)) (sym owner)
    ∙ ap (λ (n : Names). option_or (find (is_local s.owner name token) n.variables) (global n name)) (sym same)

-- the first of two, where it is there
first_of : {X : Type 0} (p : X → Bool) (xs : List X) (i : ℕ) (f other : Option X) → find p xs ≡ f → position p xs ≡ Some i
    → f ≡ option_or f other
first_of p xs i None other found is = let both = some_first p xs in cc
first_of p xs i (Some x) other found is = refl

-- the second of two, where the first is not there
second_of : {X : Type 0} (p : X → Bool) (xs : List X) (f other : Option X) → find p xs ≡ f → position p xs ≡ None
    → other ≡ option_or f other
second_of p xs None other found is = refl
second_of p xs (Some x) other found is = let both = some_first p xs in cc

-- a name is that of a local
pub means_local : (s : Scope) (names : Names) (procedure : ℕ) (name : List ℕ) (token number : ℕ)
    → s.names ≡ names → s.owner ≡ procedure → position (is_local procedure name token) names.variables ≡ Some number
    → slice_get names.variables number ≡ means s name token
means_local s names procedure name token number same owner is =
    let local = is_local procedure name token in
    at_first local number names.variables is
    ∙ first_of local names.variables number (find local names.variables) (global names name) refl is
    ∙ means_by s names procedure name token same owner

-- a name is that of no local
pub means_global : (s : Scope) (names : Names) (procedure : ℕ) (name : List ℕ) (token : ℕ)
    → s.names ≡ names → s.owner ≡ procedure → position (is_local procedure name token) names.variables ≡ None
    → option_and_then (slice_get names.variables) (position (is_global name) names.variables) ≡ means s name token
means_global s names procedure name token same owner is =
    let local = is_local procedure name token in
    find_position (is_global name) names.variables
    ∙ second_of local names.variables (find local names.variables) (global names name) refl is
    ∙ means_by s names procedure name token same owner
