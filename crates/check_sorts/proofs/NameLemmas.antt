-- What calls are of.
use Rattle.std.proofs.Common.{◌≡◌, ◌≤◌, ◌∙◌, ℕ, Bool, true, false, cond, List, length, Option, None, Some, refl, ap, sym, arith, nat_lt}
use Rattle.std.specs.Prelude.{find, position, slice_get}
use Rattle.std.specs.List.{position_or_len}
use Rattle.std.specs.Option.{option_and_then, option_map_or}
use Rattle.std.specs.Str.{bytes_eq}
use Rattle.std.proofs.lemmas.Bool.Decides.{nat_tests}
use Rattle.std.proofs.lemmas.List.Folds.{find_at}
use Rattle.std.proofs.lemmas.Option.{slice_get_past}
use Rattle.capl_meaning.specs.declared.builtin.Builtin.{Builtin}
use Rattle.capl_meaning.specs.Names.{Callee, Function, Names, builtin_named, callee, OfLanguage, OfProgram, Unknown}

-- the first of some, by its place
pub find_position : {X : Type 0} (p : X → Bool) (xs : List X) → option_and_then (slice_get xs) (position p xs) ≡ find p xs
find_position {X} p xs = by (nat_lt (position_or_len p xs) (length xs)) refl
  where
    by : (b : Bool) → nat_lt (position_or_len p xs) (length xs) ≡ b
        → option_and_then (slice_get xs) (cond b (Some (position_or_len p xs)) None) ≡ find p xs
    by true is = sym (find_at p xs)
    by false is =
        let past : length xs ≤ position_or_len p xs = grind (arith, nat_tests, is) in
        sym (find_at p xs ∙ slice_get_past xs (position_or_len p xs) past)

-- a call of a name of no function of the language, by the place of the first function of the name
pub called : (names : Names) (name : List ℕ) (o : Option ℕ) → builtin_named name ≡ None
    → o ≡ position (λ (f : Function). bytes_eq name f.name) names.functions
    → option_map_or OfProgram (option_and_then (slice_get names.functions) o) Unknown ≡ callee names name
called names name o none at =
    ap (λ (o : Option ℕ). option_map_or OfProgram (option_and_then (slice_get names.functions) o) Unknown) at
    ∙ ap (λ (o : Option Function). option_map_or OfProgram o Unknown) (find_position (λ (f : Function). bytes_eq name f.name) names.functions)
    ∙ sym (ap (λ (b : Option Builtin). option_map_or OfLanguage b (option_map_or OfProgram (find (λ f. bytes_eq name f.name) names.functions) Unknown)) none)
