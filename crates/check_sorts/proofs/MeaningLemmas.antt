-- What names mean.
use Rattle.std.proofs.Common.{◌≡◌, ◌≤◌, ◌<◌, ◌∙◌, ℕ, List, length, Option, None, Some, inl, inr, refl, ap, sym, arith}
use Rattle.std.specs.Prelude.{map, slice_get}
use Rattle.std.specs.Option.{option_map_or}
use Rattle.std.proofs.lemmas.List.{length-map}
use Rattle.std.proofs.lemmas.Option.{slice_get_past, slice_get_cases}
use Rattle.dbc_reader.specs.declared.message.DbcMessage.{DbcMessage}
use Rattle.capl_meaning.specs.Names.{Names}
use Rattle.capl_meaning.specs.Variable.{Form, Misfit, Variable}
use Rattle.check_names.specs.Variable.{variables_in}
use Rattle.check_names.specs.declared.variable.Declared.{Declared}
use Rattle.check_sorts.specs.declared.form.Form as declared
use Rattle.check_sorts.specs.Form.{form_in}
use Rattle.check_sorts.specs.Scope.{IsMeaning}

-- there are as many variables as are listed
pub listed : (base : List DbcMessage) (ds : List Declared) (vs : List Variable) → variables_in base ds ≡ vs → length ds ≡ length vs
listed base ds vs same = sym (length-map ds _) ∙ ap length same

-- no variable has a number past them all
pub past : (vs : List Variable) (n : ℕ) (m : Option Variable) → slice_get vs n ≡ m → length vs ≤ n → m ≡ None
past vs n m is over = sym is ∙ slice_get_past vs n over

-- a number below has its variable
pub within : (names : Names) (n : ℕ) (m : Option Variable) (form : declared.Form) → slice_get names.variables n ≡ m
    → n < length names.variables → form_in form ≡ option_map_or (λ v. v.form) (slice_get names.variables n) Misfit
    → IsMeaning names m (record { number = n; form = form })
within names n m form is below what = by m is
  where
    by : (m : Option Variable) → slice_get names.variables n ≡ m → IsMeaning names m (record { number = n; form = form })
    by None none =
        elim (slice_get_cases names.variables n).1 [ inl w ↦ (let h = w.2 in cc) | inr w ↦ absurd (omega arith) ]
    by (Some v) some = record {
      variable = v;
      is = refl;
      at = some;
      form = what ∙ ap (λ (o : Option Variable). option_map_or (λ v. v.form) o Misfit) some;
    }
