-- What variables and `this` are, as the code has it.
use Rattle.std.specs.Prelude.{List, Option, Some, None}
use Rattle.std.specs.Option.{option_copied}
use Rattle.dbc_reader.specs.declared.signals.DbcSignal.{DbcSignal}
use Rattle.capl_meaning.specs.Names.{signals_by}
use Rattle.capl_meaning.specs.Variable as meant
use Rattle.check_sorts.specs.declared.form.Form.{Form}
use Rattle.check_sorts.specs.declared.form.Form.TheVariants as form
use Rattle.check_sorts.specs.declared.form.MessageType.{MessageType}
use Rattle.check_sorts.specs.declared.form.MessageType.TheVariants as type_
use Rattle.check_sorts.specs.declared.signals.DeclaredSignals.{DeclaredSignals}
use Rattle.check_sorts.specs.declared.signals.DeclaredSignals.TheVariants as signals

-- the signals, where the message is declared by name
abbrev pub signals_in : DeclaredSignals → Option (List DbcSignal)
signals_in signals.Unnamed = None
signals_in (signals.Named m) = Some (signals_by (option_copied m))

-- how a message variable is declared
abbrev pub type_in : MessageType → meant.MessageType
type_in (type_.ByIdentifier id) = meant.ByIdentifier id
type_in (type_.ByName m) = meant.ByName (option_copied m)

-- what a variable is
abbrev pub form_in : Form → meant.Form
form_in (form.Number kind fixed) = meant.Number kind fixed
form_in (form.Array kind fixed size) = meant.Array kind fixed size.now
form_in (form.Message what) = meant.Message (type_in what)
form_in (form.Timer unit) = meant.Timer unit
form_in form.Misfit = meant.Misfit
