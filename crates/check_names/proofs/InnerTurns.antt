-- One turn of the loop over the variables of a program.
use Rattle.std.proofs.Common.{◌≡◌, ◌<◌, ◌+◌, ◌∷◌, ◌∙◌, ◌&&◌, ◌||◌, ℕ, zero, suc, Bool, true, false, List, [], Option, ap, get_or, length, nat_lt, refl, sym, take}
use Rattle.std.specs.Prelude.{if◌then◌else◌, map}
use Rattle.std.specs.List.{list_any}
use Rattle.std.proofs.lemmas.List.Folds.{list_any-append}
use Rattle.texts.specs.Rule.{source_rule}
use Rattle.dbc_reader.specs.declared.message.DbcMessage.{DbcMessage}
use Rattle.capl_meaning.specs.declared.offence.Offence.{Offence}
use Rattle.capl_meaning.specs.Variable.{Variable}
use Rattle.check_names.specs.declared.variable.Declared.{Declared}
use Rattle.check_names.specs.declared.variable.Place.{Place}
use Rattle.check_names.specs.declared.variable.Source.{Source}
use Rattle.check_names.specs.declared.variable.Source.TheVariants as source
use Rattle.check_names.specs.First.{broken_at, noted}
use Rattle.check_names.specs.Inside.Inner.{inner_offence, same_inside}
use Rattle.check_names.specs.Inside.Table.{is_named}
use Rattle.check_names.specs.Variable.{variable_by, variable_in, variables_in}
use Rattle.check_names.proofs.TakeLemmas.{map_more}

-- the owner of a variable that is listed
pub owner_by : (base : List DbcMessage) (place : Place) (by : Source) → place.owner ≡ (variable_by base place by).owner
owner_by base place (source.Item what item) = refl
owner_by base place (source.Parameter parameter) = refl

-- its file
file_by : (base : List DbcMessage) (place : Place) (by : Source) → place.file ≡ (variable_by base place by).file
file_by base place (source.Item what item) = refl
file_by base place (source.Parameter parameter) = refl

-- the first ones of what is made
take_map : {X Y : Type 0} (f : X → Y) (i : ℕ) (xs : List X) → take i (map f xs) ≡ map f (take i xs)
take_map f zero xs = refl
take_map f (suc i) [] = refl
take_map f (suc i) (x ∷ xs) = ap (λ l. f x ∷ l) (take_map f i xs)

-- two tests the other way round, with one that fails
turned : (a b : Bool) → (a || b) ≡ (b || (a || false))
turned true true = refl
turned true false = refl
turned false true = refl
turned false false = refl

-- one more variable is among the first ones
pub among_more : (base : List DbcMessage) (all : List Declared) (i : ℕ) (d : Declared) (earlier : List Variable)
    → i < length all → d ≡ get_or all i d
    → ((p : Variable → Bool) → list_any p earlier ≡ list_any p (variables_in base (take i all)))
    → (p : Variable → Bool) → list_any p (variable_in base d ∷ earlier) ≡ list_any p (variables_in base (take (i + 1) all))
among_more base all i d earlier within is among p =
    ap (λ (b : Bool). p (variable_in base d) || b) (among p)
    ∙ turned (p (variable_in base d)) (list_any p (variables_in base (take i all)))
    ∙ sym (list_any-append p (variables_in base (take i all)) (variable_in base d ∷ []))
    ∙ ap (list_any p) (sym (map_more (variable_in base) i all d within is))

-- a variable of a procedure among some has the name
any_inside : (v : Variable) (vs : List Variable) → (nat_lt 0 v.owner && list_any (is_named v.owner v.name) vs) ≡ list_any (same_inside v) vs
any_inside v [] = by (nat_lt 0 v.owner)
  where
    by : (b : Bool) → (b && false) ≡ false
    by true = refl
    by false = refl
any_inside v (w ∷ vs) = by (nat_lt 0 v.owner) (is_named v.owner v.name w) (list_any (is_named v.owner v.name) vs) ∙ ap (λ (b : Bool). same_inside v w || b) (any_inside v vs)
  where
    by : (a b c : Bool) → (a && (b || c)) ≡ ((a && b) || (a && c))
    by true b c = refl
    by false b c = refl

-- what is known of a variable is whether an earlier one of its procedure has its name
pub known_inside : (base : List DbcMessage) (d : Declared) (all : List Declared) (vs earlier : List Variable) (name : List ℕ) (i number : ℕ) (known : Bool)
    → name ≡ (variable_in base d).name → number ≡ i → variables_in base all ≡ vs
    → ((p : Variable → Bool) → list_any p earlier ≡ list_any p (variables_in base (take i all)))
    → known ≡ (nat_lt 0 d.place.owner && list_any (is_named d.place.owner name) (take number vs))
    → known ≡ list_any (same_inside (variable_in base d)) earlier
known_inside base d all vs earlier name i number known named counted are among is =
    let v = variable_in base d in
    is
    ∙ ap (λ (o : ℕ). nat_lt 0 o && list_any (is_named o name) (take number vs)) (owner_by base d.place d.source)
    ∙ ap (λ (n : List ℕ). nat_lt 0 v.owner && list_any (is_named v.owner n) (take number vs)) named
    ∙ ap (λ (k : ℕ). nat_lt 0 v.owner && list_any (is_named v.owner v.name) (take k vs)) counted
    ∙ ap (λ (l : List Variable). nat_lt 0 v.owner && list_any (is_named v.owner v.name) (take i l)) (sym are)
    ∙ ap (λ (l : List Variable). nat_lt 0 v.owner && list_any (is_named v.owner v.name) l) (take_map (variable_in base) i all)
    ∙ ap (λ (b : Bool). nat_lt 0 v.owner && b) (sym (among (is_named v.owner v.name)))
    ∙ any_inside v earlier

-- what is noted of it
pub noted_inside : (base : List DbcMessage) (d : Declared) (token : ℕ) (first next : Option Offence) (known : Bool)
    → token ≡ (variable_in base d).token → next ≡ noted first (broken_at known d.place.file token (source_rule 10))
    → next ≡ noted first (if known then inner_offence (variable_in base d) ∷ [] else [])
noted_inside base d token first next known at is =
    is ∙ ap (λ (f : ℕ). noted first (broken_at known f token (source_rule 10))) (file_by base d.place d.source)
    ∙ ap (λ (t : ℕ). noted first (broken_at known (variable_in base d).file t (source_rule 10))) at
