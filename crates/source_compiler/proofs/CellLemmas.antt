-- A typed program has as many cells as are counted in its source.
use Rattle.std.proofs.Common.{◌≡◌, ◌≢◌, ◌≤◌, ◌<◌, ◌+◌, ℕ, List, [], ◌∷◌, length, Option, Some, None, sym, ap, subst, ◌∙◌, arith, length-append}
use Rattle.std.specs.Prelude.{sum_by}
use Rattle.std.specs.List.{AllPairs, flat_map, filter_map, cons_option}
use Rattle.std.proofs.lemmas.Bool.Decides.{nat_tests}
use Rattle.std.proofs.lemmas.List.{length-replicate}
use Rattle.std.proofs.lemmas.List.Concat.{flat_map-cons}
use Rattle.std.proofs.lemmas.List.Sums.{sum_by-cons}
use Rattle.dbc_reader.specs.declared.message.DbcMessage.{DbcMessage}
use Rattle.capl_tree.specs.declared.file.Program.{Program}
use Rattle.capl_tree.specs.Weight.{saturated, weight}
use Rattle.typed_tree.specs.Size.{size}
use Rattle.typed_tree.specs.Sound.{IsSound}
use Rattle.typed_tree.specs.declared.program.Typed.{Typed}
use Rattle.capl_meaning.specs.Constant.{elements_of}
use Rattle.capl_meaning.specs.Names.{Names, names_of}
use Rattle.capl_meaning.specs.Store.{cells_of_program, size_of_form, event_kinds, kinds_by, laid_kinds, unit_of}
use Rattle.capl_meaning.specs.Variable.{Form, Number, Array, Message, Timer, Misfit, Variable}
use Rattle.gen_stmt.specs.Cells.{cell_count}
use Rattle.typed_source.specs.Program.{HasNoOther, typed_program}
use Rattle.check_types.specs.Accepted.{IsAccepted}
use Rattle.check_types.specs.Lines.{line_in}
use Rattle.source_compiler.specs.Source.{most}

cons_counted : (unit : Option ℕ) (more : List ℕ) → length (cons_option unit more) ≡ length (cons_option unit []) + length more
cons_counted None more = omega arith
cons_counted (Some n) more = omega arith

form_counted : (elements : ℕ) (form : Form) → length (kinds_by elements form) + length (cons_option (unit_of form) []) ≡ size_of_form elements form
form_counted elements (Number kind fixed) = omega arith
form_counted elements (Array kind fixed size) = omega (arith, length-replicate elements kind)
form_counted elements (Message type_) = omega arith
form_counted elements (Timer unit) = omega arith
form_counted elements Misfit = omega arith

all_counted : (names : Names) (vs : List Variable) →
    length (flat_map (λ v. kinds_by (elements_of names v) v.form) vs) + length (filter_map (λ v. unit_of v.form) vs)
    ≡ sum_by (λ v. size_of_form (elements_of names v) v.form) vs
all_counted names [] = omega arith
all_counted names (v ∷ vs) =
    let kinds = λ (u : Variable). kinds_by (elements_of names u) u.form in
    let one = form_counted (elements_of names v) v.form in
    let rest = all_counted names vs in
    let laid : length (flat_map kinds (v ∷ vs)) ≡ length (kinds v) + length (flat_map kinds vs) =
    ap length (flat_map-cons kinds v vs) ∙ length-append (kinds v) (flat_map kinds vs) in
    let units = cons_counted (unit_of v.form) (filter_map (λ (u : Variable). unit_of u.form) vs) in
    let summed = sum_by-cons (λ (u : Variable). size_of_form (elements_of names u) u.form) v vs in
    omega arith

-- the cells of a typed program are those that are counted
cells_counted : (base : List DbcMessage) (program : Program) (order : List ℕ) (line : ℕ → ℕ → ℕ) →
    cell_count (typed_program base program order line) ≡ cells_of_program base program
cells_counted base program order line =
    let names = names_of base program in
    let all = all_counted names names.variables in
    let laid = length-append event_kinds (laid_kinds names) in
    omega arith

-- an accepted program has few enough cells for the compiler
pub few_cells : (base : List DbcMessage) (program : Program) (lines : List (List ℕ)) (typed : Typed) →
    IsAccepted base program lines typed → cell_count typed ≤ most
few_cells base program lines typed is =
    subst (λ (t : Typed). cell_count t ≤ most) (sym is.made.typed_is)
    (let counted = cells_counted base program is.made.order (line_in lines) in
    let few = is.made.few_cells in
    omega arith)

small_told : (told number : ℕ) → told ≡ saturated number → number ≤ most → told ≡ number
small_told told number is small = grind (arith, nat_tests)

-- the cells that are told of the typed program of an accepted one are the program's
pub cells_told : (base : List DbcMessage) (program : Program) (lines : List (List ℕ)) (typed : Typed) (told : ℕ) →
    IsAccepted base program lines typed → told ≡ saturated (cell_count typed) → told ≡ cells_of_program base program
cells_told base program lines typed told is said =
    let counted : cell_count typed ≡ cells_of_program base program =
    ap (λ (t : Typed). cell_count t) is.made.typed_is ∙ cells_counted base program is.made.order (line_in lines) in
    small_told told (cells_of_program base program) (said ∙ ap saturated counted) is.made.few_cells

-- a weight that is told within the limit is the program's
pub weight_within : (program : Program) (told : ℕ) → told ≡ saturated (weight program) → told ≤ most → told ≡ weight program
weight_within program told said small = grind (arith, nat_tests)

-- a weight that is told above the limit is one
pub weight_above : (program : Program) (told : ℕ) → told ≡ saturated (weight program) → most < told → most < weight program
weight_above program told said above = grind (arith, nat_tests)

-- the code of an accepted program is within the program's weight, as typed programs are
pub within_weight : (base : List DbcMessage) (program : Program) (lines : List (List ℕ)) (typed : Typed) → IsAccepted base program lines typed →
    ((order : List ℕ) (line : ℕ → ℕ → ℕ) → HasNoOther (names_of base program) order → AllPairs (λ one other. one ≢ other) order →
    IsSound (typed_program base program order line) → size (typed_program base program order line) ≤ weight program) → size typed ≤ weight program
within_weight base program lines typed is within =
    subst (λ (t : Typed). size t ≤ weight program) (sym is.made.typed_is)
    (within is.made.order (line_in lines) is.made.has_no_other is.made.once (subst IsSound is.made.typed_is is.sound))
