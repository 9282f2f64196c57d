-- What a name of the program is, by its number among the variables.
use Rattle.std.proofs.Common.{◌≡◌, ◌==◌, ◌&&◌, ◌∙◌, ◌<◌, get_or, length, ℕ, Bool, true, false, cond, List, [], ◌∷◌, Some, None, inl, inr, ap, refl, sym, arith, eq-eqb}
use Rattle.std.specs.Prelude.{find, position, slice_get}
use Rattle.std.specs.Option.{option_map, option_map_or}
use Rattle.std.specs.Str.{bytes_eq}
use Rattle.std.proofs.lemmas.Bool.{false≢true}
use Rattle.std.proofs.lemmas.Bool.Decides.{nat_tests}
use Rattle.std.proofs.lemmas.List.{length-map}
use Rattle.std.proofs.lemmas.Option.{get_or_from_slice_get, none-some, same_Some, slice_get-get_or, slice_get-map, slice_get_read, slice_get_within}
use Rattle.std.proofs.lemmas.Slice.Eq.{bytes_eq-Decides}
use Rattle.capl_meaning.specs.Calls.{function_numbered}
use Rattle.capl_meaning.specs.Names.{Function, Names}
use Rattle.capl_meaning.specs.Statement.{timer_named}
use Rattle.capl_meaning.specs.Store.{variable_key, timer_number}
use Rattle.capl_meaning.specs.Variable.{Variable}
use Rattle.capl_meaning.specs.Inside.Names.{is_global}
use Rattle.typed_laws.specs.Laid.{IsAmong}
use Rattle.check_names.specs.declared.function.DeclaredFunction.{DeclaredFunction}
use Rattle.check_names.specs.Function.{function_in, functions_in}
use Rattle.check_calls.specs.declared.calls.Calls.{Calls}
use Rattle.check_calls.specs.Calls.{AreCallsOf, indices_of, order_of}
use Rattle.check_calls.proofs.PlaceLemmas.{at_first, no_first}
use Rattle.check_calls.proofs.ReachLemmas.{found_has}

-- both of two truths
both : (a b : Bool) → a && b ≡ true → (a ≡ true) × (b ≡ true)
both true b is = (refl, is)
both false b is = absurd (false≢true is)

-- the timer of a name
pub timer_at : (names : Names) (name : List ℕ) (number : ℕ) → position (is_global name) names.variables ≡ Some number →
    (v : Variable) × (slice_get names.variables number ≡ Some v) × (timer_number names v ≡ timer_named names name)
timer_at names name number is =
    let first = at_first (is_global name) number names.variables is in
    (first.0, first.1, sym (ap (λ o. option_map_or (timer_number names) o 0) first.2))

-- no timer has a name
pub no_timer : (names : Names) (name : List ℕ) → position (is_global name) names.variables ≡ None → 0 ≡ timer_named names name
no_timer names name is = sym (ap (λ o. option_map_or (timer_number names) o 0) (no_first (is_global name) names.variables is))

-- a variable of a procedure has a name
abbrev pub is_named : ℕ → List ℕ → Variable → Bool
is_named procedure name v = v.owner == procedure && bytes_eq name v.name

-- the first one
pub named_at : (names : Names) (procedure : ℕ) (name : List ℕ) (number : ℕ) →
    position (is_named procedure name) names.variables ≡ Some number →
    (v : Variable) × (slice_get names.variables number ≡ Some v) × (variable_key v ≡ record { owner = procedure; name = name })
named_at names procedure name number is =
    let first = at_first (is_named procedure name) number names.variables is in
    let v = first.0 in
    let passes = (found_has (is_named procedure name) names.variables v first.2).1 in
    let owner = both (v.owner == procedure) (bytes_eq name v.name) passes in
    let same_owner : v.owner ≡ procedure = grind (arith, nat_tests, owner.0) in
    let same_name : name ≡ v.name = (bytes_eq-Decides name v.name).0 owner.1 in
    (v, first.1, ap (λ (o : ℕ). record { owner = o; name = v.name }) same_owner ∙ ap (λ (n : List ℕ). record { owner = procedure; name = n }) (sym same_name))

-- something that passes is found
unfound : {A : Type 0} (p : A → Bool) (xs : List A) (x : A) → IsAmong x xs → p x ≡ true → find p xs ≡ None → ⊥
unfound p [] x among is none = absurd among
unfound p (y ∷ xs) x (inl same) is none =
    none-some y (sym none ∙ ap (λ b. cond b (Some y) (find p xs)) (ap p same ∙ is))
unfound {A} p (y ∷ xs) x (inr among) is none = by (p y) none (unfound p xs x among is)
  where
    by : (b : Bool) → cond b (Some y) (find p xs) ≡ None → (find p xs ≡ None → ⊥) → ⊥
    by true missing rest = none-some y (sym missing)
    by false missing rest = rest missing

-- so is a variable by its name
pub named_somewhere : (names : Names) (v : Variable) → IsAmong v names.variables →
    position (is_named v.owner v.name) names.variables ≡ None → ⊥
named_somewhere names v among none =
    let passes : is_named v.owner v.name v ≡ true =
    ap (λ (b : Bool). b && bytes_eq v.name v.name) (eq-eqb v.owner v.owner refl) ∙ (bytes_eq-Decides v.name v.name).1 refl in
    unfound (is_named v.owner v.name) names.variables v among passes (no_first (is_named v.owner v.name) names.variables none)

-- a function that is listed at a place
pub listed_at : (names : Names) (all : List DeclaredFunction) (place : ℕ) (f : Function) → functions_in all ≡ names.functions →
    slice_get names.functions place ≡ Some f → place < length all
listed_at names all place f are at =
    let long = length-map all function_in in
    let same = ap (λ (l : List Function). length l) are in
    let within = slice_get_within names.functions place f at in
    omega (arith, long, same, within)

-- is that function
pub listed_is : (names : Names) (all : List DeclaredFunction) (place : ℕ) (found : DeclaredFunction) (f : Function) → functions_in all ≡ names.functions →
    place < length all → found ≡ get_or all place found → slice_get names.functions place ≡ Some f → function_in found ≡ f
listed_is names all place found f are within is at =
    same_Some (function_in found) f
    (sym (ap (λ (l : List Function). slice_get l place) (sym are) ∙ slice_get-map function_in all place
    ∙ ap (option_map function_in) (slice_get_read all (length all) place found refl within is))
    ∙ at)

-- the function of a place in the order, as it is listed
pub record Ordered (names : Names) (calls : Calls) (all : List DeclaredFunction) (at : ℕ) : Type 0 where
  pub within : at < length (indices_of calls)
  pub place : ℕ
  pub function : Function
  pub place_is : get_or (indices_of calls) at 0 ≡ place
  pub there : slice_get names.functions place ≡ Some function
  pub number_is : function.number ≡ get_or (order_of calls) at 0
  pub inside : place < length all
  pub numbered : function_numbered names function.number ≡ Some function

-- each place in the order has one
pub ordered : (names : Names) (calls : Calls) (all : List DeclaredFunction) (at : ℕ) → AreCallsOf names calls →
    functions_in all ≡ names.functions → at < length (order_of calls) → Ordered names calls all at
ordered names calls all at are listed within =
    let order = order_of calls in
    let found = are.indices at (get_or order at 0) (slice_get-get_or order at 0 within) in
    record {
      within = slice_get_within (indices_of calls) at found.0 found.2;
      place = found.0;
      function = found.1;
      place_is = get_or_from_slice_get (indices_of calls) at found.0 0 found.2;
      there = found.3;
      number_is = found.4;
      inside = listed_at names all found.0 found.1 listed found.3;
      numbered = are.numbered found.0 found.1 found.3;
    }
