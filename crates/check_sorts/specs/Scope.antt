-- Where parts of a program stand, and what calls are of, as the code has it.
use Rattle.std.specs.Prelude.{◌≡◌, Option, Some, slice_get}
use Rattle.std.specs.Option.{option_map_or}
use Rattle.capl_meaning.specs.Names as meant
use Rattle.capl_meaning.specs.Variable.{Variable}
use Rattle.check_sorts.specs.declared.scope.Callee.{Callee}
use Rattle.check_sorts.specs.declared.scope.Callee.TheVariants as callee
use Rattle.check_sorts.specs.declared.scope.Meaning.{Meaning}
use Rattle.check_sorts.specs.declared.scope.Scope.{Scope}
use Rattle.check_sorts.specs.declared.scope.ThisForm.{ThisForm}
use Rattle.check_sorts.specs.declared.scope.ThisForm.TheVariants as this
use Rattle.check_sorts.specs.Form.{form_in, signals_in}

-- what `this` is
abbrev pub this_in : ThisForm → meant.ThisForm
this_in this.NoThis = meant.NoThis
this_in (this.Frame signals) = meant.ThisFrame (signals_in signals)
this_in this.Key = meant.ThisKey

-- where a part of a program stands
abbrev pub scope_in : Scope → meant.Scope
scope_in s = record {
  names = s.names.now;
  owner = s.owner;
  file = s.file;
  this = this_in s.this;
  gives = s.gives;
}

-- what a call is of; a function of the program by its number among these
abbrev pub callee_in : meant.Names → Callee → meant.Callee
callee_in names (callee.Language b) = meant.OfLanguage b
callee_in names (callee.Program number) =
    option_map_or meant.OfProgram (slice_get names.functions number) meant.Unknown
callee_in names callee.Unknown = meant.Unknown

-- a variable of these names, which something means: it has this number, and is this
pub record IsMeaning (names : meant.Names) (means : Option Variable) (m : Meaning) : Type 0 where
  pub variable : Variable
  pub is : means ≡ Some variable
  pub at : slice_get names.variables m.number ≡ Some variable
  pub form : form_in m.form ≡ variable.form
