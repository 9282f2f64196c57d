-- What is known of a program by the names that were built of it.
use Rattle.std.proofs.Common.{◌≡◌, ◌≢◌, ◌<◌, ◌≤◌, ◌^◌, ◌++◌, ◌∙◌, ℕ, List, [], Option, None, Some, ap, length, subst, sym}
use Rattle.std.specs.Prelude.{AllPairs}
use Rattle.std.specs.Option.{IfSome}
use Rattle.dbc_reader.specs.declared.message.DbcMessage.{DbcMessage}
use Rattle.capl_tree.specs.declared.file.Program.{Program}
use Rattle.typed_tree.specs.declared.program.Typed.{Typed}
use Rattle.typed_tree.specs.Sound.{IsSound}
use Rattle.capl_meaning.specs.declared.offence.Offence.{Offence}
use Rattle.capl_meaning.specs.Names.{Names, names_of}
use Rattle.capl_meaning.specs.Offences.{IsFirstOffence, offences_of}
use Rattle.typed_laws.specs.Laid.{AreDistinct}
use Rattle.typed_laws.proofs.Distinct.{distinct_without_offences}
use Rattle.capl_meaning.specs.Store.{cells_of_program}
use Rattle.capl_meaning.specs.Inside.Procedure.{handlers_of}
use Rattle.sound_programs.specs.Given.{HasShortLists, IsReadable}
use Rattle.typed_source.specs.Program.{HasEach, HasNoOther, IsGoodOrder, formats_of_functions, formats_of_handlers, typed_program}
use Rattle.check_names.specs.First.{IsFirstOf}
use Rattle.check_names.specs.Named.{named_offences}
use Rattle.check_calls.specs.declared.calls.Calls.{Calls}
use Rattle.check_calls.specs.Calls.{AreCallsOf, GoForward, order_of}
use Rattle.type_expressions.specs.declared.layout.Layout.{Layout}
use Rattle.type_expressions.specs.Layout.{IsLaidOut, IsLayoutOf, size_in}
use Rattle.check_types.specs.Accepted.{IsTooLarge, IsTypedOf}
use Rattle.check_types.specs.Lines.{line_in}

-- names are those of their own database
pub of_own_base : (base : List DbcMessage) (program : Program) (names : Names) → names ≡ names_of base program →
    names ≡ names_of names.base program
of_own_base base program names built = built ∙ ap (λ b. names_of b program) (sym (ap (λ (n : Names). n.base) built))

-- the database is that of the names
same_base : (base : List DbcMessage) (program : Program) (names : Names) → names ≡ names_of base program → names.base ≡ base
same_base base program names built = ap (λ (n : Names). n.base) built

-- the first of what names break is that of their own database
pub first_of_own_base : (base : List DbcMessage) (program : Program) (names : Names) (first : Option Offence) →
    names ≡ names_of base program → IsFirstOf first (named_offences base program) →
    IsFirstOf first (named_offences names.base program)
first_of_own_base base program names first built is =
    subst (λ b. IsFirstOf first (named_offences b program)) (sym (same_base base program names built)) is

-- the first offence
pub first_refused : (base : List DbcMessage) (program : Program) (names : Names) → names ≡ names_of base program →
    (first : Option Offence) (offence : Offence) → IfSome first (IsFirstOffence names.base program) → first ≡ Some offence →
    IsFirstOffence base program offence
first_refused base program names built first offence found is =
    subst (λ (b : List DbcMessage). IsFirstOffence b program offence) (same_base base program names built)
    (subst (λ (o : Option Offence). IfSome o (IsFirstOffence names.base program)) is found)

-- no offence
pub none_refused : (base : List DbcMessage) (program : Program) (names : Names) → names ≡ names_of base program →
    offences_of names.base program ≡ [] → offences_of base program ≡ []
none_refused base program names built none =
    subst (λ (b : List DbcMessage). offences_of b program ≡ []) (same_base base program names built) none

-- too many cells
pub too_large : (base : List DbcMessage) (program : Program) (names : Names) → names ≡ names_of base program →
    offences_of names.base program ≡ [] → (layout : Option Layout) → layout ≡ None → IsLaidOut names layout → IsTooLarge base program
too_large base program names built none layout is laid = record {
  no_offence = none_refused base program names built none;
  many_cells =
      subst (λ (n : Names). 1000000 < size_in n n.variables) built
      (subst (IsLaidOut names) is laid);
}

-- no name is declared twice
pub distinct_names : (base : List DbcMessage) (program : Program) (names : Names) → names ≡ names_of base program →
    offences_of names.base program ≡ [] → AreDistinct names.variables
distinct_names base program names built none =
    subst (λ (n : Names). AreDistinct n.variables) (sym built)
    (distinct_without_offences base program (none_refused base program names built none))

-- few cells, and where the variables lie
pub laid_out : (names : Names) (layout : Option Layout) (laid : Layout) → layout ≡ Some laid → IsLaidOut names layout →
    (size_in names names.variables ≤ 1000000) × IsLayoutOf names laid
laid_out names layout laid is out = subst (IsLaidOut names) is out

-- few cells
pub cells_few : (base : List DbcMessage) (program : Program) (names : Names) → names ≡ names_of base program →
    size_in names names.variables ≤ 1000000 → cells_of_program base program ≤ 1000000
cells_few base program names built few = subst (λ (n : Names). size_in n n.variables ≤ 1000000) built few

-- few formats
pub formats_few : (base : List DbcMessage) (program : Program) (names : Names) (calls : Calls) → names ≡ names_of base program →
    AreCallsOf names calls →
    ((order : List ℕ) (line : ℕ → ℕ → ℕ) → HasNoOther (names_of base program) order → AllPairs (λ one other. one ≢ other) order →
    HasShortLists (typed_program base program order line)) →
    length (formats_of_functions names (order_of calls) ++ formats_of_handlers (handlers_of names program)) < 2 ^ 32
formats_few base program names calls built are short =
    subst (λ (n : Names). length (formats_of_functions n (order_of calls) ++ formats_of_handlers (handlers_of n program)) < 2 ^ 32) (sym built)
    (short (order_of calls) (λ file token. 0) (subst (λ (n : Names). HasNoOther n (order_of calls)) built are.has_no_other) are.once).formats

-- functions stand behind those that they call
pub good_calls : (base : List DbcMessage) (program : Program) (names : Names) (calls : Calls) → names ≡ names_of base program →
    offences_of names.base program ≡ [] → AreCallsOf names calls → IsReadable program →
    ((n : Names) (c : Calls) → AreCallsOf n c → GoForward n → IsGoodOrder n (order_of c)) →
    ((b : List DbcMessage) (p : Program) → IsReadable p → offences_of b p ≡ [] → GoForward (names_of b p)) →
    IsGoodOrder (names_of base program) (order_of calls)
good_calls base program names calls built none are readable orders forward =
    subst (λ (n : Names). IsGoodOrder n (order_of calls)) built
    (orders names calls are
    (subst GoForward (sym built) (forward base program readable (none_refused base program names built none))))

-- the typed program of a program without offences
pub typed_of : (base : List DbcMessage) (program : Program) (names : Names) (calls : Calls) (lines : List (List ℕ)) (typed : Typed) →
    names ≡ names_of base program → offences_of names.base program ≡ [] → size_in names names.variables ≤ 1000000 →
    AreCallsOf names calls → typed ≡ typed_program names.base program (order_of calls) (line_in lines) →
    IsTypedOf base program lines typed
typed_of base program names calls lines typed built none few are made = record {
  no_offence = none_refused base program names built none;
  few_cells = cells_few base program names built few;
  order = order_of calls;
  has_each = subst (λ (n : Names). HasEach n (order_of calls)) built are.has_each;
  has_no_other = subst (λ (n : Names). HasNoOther n (order_of calls)) built are.has_no_other;
  once = are.once;
  typed_is = made ∙ ap (λ (b : List DbcMessage). typed_program b program (order_of calls) (line_in lines)) (same_base base program names built);
}

-- it is sound where its order is good
pub typed_sound : (base : List DbcMessage) (program : Program) (names : Names) (calls : Calls) (lines : List (List ℕ)) (typed : Typed) →
    names ≡ names_of base program → typed ≡ typed_program names.base program (order_of calls) (line_in lines) →
    IsGoodOrder (names_of base program) (order_of calls) →
    ((line : ℕ → ℕ → ℕ) → IsGoodOrder (names_of base program) (order_of calls) → IsSound (typed_program base program (order_of calls) line)) →
    IsSound typed
typed_sound base program names calls lines typed built made good sound =
    let typed_is = made ∙ ap (λ (b : List DbcMessage). typed_program b program (order_of calls) (line_in lines)) (same_base base program names built) in
    subst IsSound (sym typed_is) (sound (line_in lines) good)
