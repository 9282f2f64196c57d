-- The functions of a program stand in the order of their procedures' numbers.
use Rattle.std.proofs.Common.{◌≡◌, ◌+◌, ◌<◌, ◌≤◌, ◌∙◌, ℕ, zero, suc, List, [], ◌∷◌, Some, ap, sym, subst, arith, get_or, length}
use Rattle.std.specs.Prelude.{⊤, filter_map, map, slice_index}
use Rattle.std.specs.List.{cons_option}
use Rattle.std.specs.List.Sorted.{IsStrictlyIncreasing}
use Rattle.std.specs.Option.{option_map}
use Rattle.std.proofs.lemmas.List.{length-map}
use Rattle.std.proofs.lemmas.Option.{get_or_from_slice_get, slice_get-get_or, slice_get-map}
use Rattle.dbc_reader.specs.declared.message.DbcMessage.{DbcMessage}
use Rattle.capl_tree.specs.declared.file.FileTree.{FileTree}
use Rattle.capl_tree.specs.declared.file.Program.{Program}
use Rattle.capl_tree.specs.declared.file.TopItem.{TopItem}
use Rattle.capl_tree.specs.declared.file.TopItem.TheVariants as top
use Rattle.capl_tree.specs.declared.procedure.Head.{Head}
use Rattle.capl_tree.specs.declared.procedure.Head.TheVariants as head
use Rattle.capl_tree.specs.declared.statement.Stmt.{Stmt}
use Rattle.capl_meaning.specs.Names.{Function, function_by, function_of_part, names_of}
use Rattle.capl_meaning.specs.Variable.{Part, parts_of_files, parts_of_items}
use Rattle.check_names.specs.declared.function.DeclaredFunction.{DeclaredFunction}
use Rattle.check_names.specs.Function.{function_in, functions_in}

-- the numbers rise, from above one on
abbrev RiseAbove : ℕ → List ℕ → Type 0
RiseAbove low [] = ⊤
RiseAbove low (n ∷ ns) = (low < n) × RiseAbove n ns

-- the same from above a lower one on
rise_lower : (low high : ℕ) (ns : List ℕ) → low ≤ high → RiseAbove high ns → RiseAbove low ns
rise_lower low high [] under rise = tt
rise_lower low high (n ∷ ns) under rise = (omega (arith, under, rise.0), rise.1)

-- the numbers of functions
abbrev numbers_of : List Function → List ℕ
numbers_of functions = map (λ f. f.number) functions

-- the functions among parts
abbrev functions_among : List Part → List Function
functions_among parts = filter_map function_of_part parts

-- one more procedure
procedure_rises : (low number file : ℕ) (h : Head) (body : List Stmt) (rest : List Function) → low < number →
    RiseAbove number (numbers_of rest) → RiseAbove low (numbers_of (cons_option (function_by number file h body) rest))
procedure_rises low number file (head.Function kind name parameters at) body rest under rise = (under, rise)
procedure_rises low number file _ body rest under rise = rise_lower low number (numbers_of rest) (omega (arith, under)) rise

-- the functions among items, where those behind rise
items_rise : (low file : ℕ) (items : List TopItem) (number : ℕ) (others : ℕ → List Part) → low < number →
    ((next last : ℕ) → last < next → RiseAbove last (numbers_of (functions_among (others next)))) →
    RiseAbove low (numbers_of (functions_among (parts_of_items file items number others)))
items_rise low file [] number others under rise = rise number low under
items_rise low file (top.Includes names ∷ items) number others under rise = items_rise low file items number others under rise
items_rise low file (top.Variables declarations ∷ items) number others under rise = items_rise low file items number others under rise
items_rise low file (top.Proc procedure ∷ items) number others under rise =
    procedure_rises low number file procedure.head procedure.body (functions_among (parts_of_items file items (suc number) others))
    under (items_rise number file items (suc number) others (omega arith) rise)

-- those among files
files_rise : (low file : ℕ) (trees : List FileTree) (number : ℕ) → low < number →
    RiseAbove low (numbers_of (functions_among (parts_of_files file trees number)))
files_rise low file [] number under = tt
files_rise low file (tree ∷ trees) number under =
    items_rise low file tree.items number (parts_of_files (suc file) trees) under
    (λ next last below. files_rise last (suc file) trees next below)

-- numbers that rise from above one on, behind it
increasing : (low : ℕ) (ns : List ℕ) → RiseAbove low ns → IsStrictlyIncreasing (low ∷ ns)
increasing low [] rise k within = absurd (omega (arith, within))
increasing low (n ∷ ns) rise zero within = rise.0
increasing low (n ∷ ns) rise (suc k) within =
    let same : suc (k + 1) ≡ suc k + 1 = omega arith in
    subst (λ j. slice_index (n ∷ ns) k < slice_index (low ∷ n ∷ ns) j) same
    (increasing n ns rise.1 k (omega (arith, within)))

-- the functions of a program rise
pub functions_rise : (base : List DbcMessage) (program : Program) →
    IsStrictlyIncreasing (0 ∷ map (λ f. f.number) (names_of base program).functions)
functions_rise base program =
    increasing 0 (numbers_of (functions_among (parts_of_files 0 program.files 1))) (files_rise 0 0 program.files 1 (omega arith))

-- numbers that rise are at least as high as they stand
at_least : (numbers : List ℕ) (k : ℕ) → IsStrictlyIncreasing numbers → k < length numbers → k ≤ slice_index numbers k
at_least numbers zero rise within = omega arith
at_least numbers (suc k) rise within =
    let before = at_least numbers k rise (omega (arith, within)) in
    let same : k + 1 ≡ suc k = omega arith in
    let step = subst (λ j. slice_index numbers k < slice_index numbers j) same (rise k (omega (arith, within))) in
    omega (arith, before, step)

-- a function stands at a place below its procedure's number
pub place_below : (functions : List DeclaredFunction) (i : ℕ) (f : DeclaredFunction) →
    IsStrictlyIncreasing (0 ∷ map (λ g. g.number) (functions_in functions)) → i < length functions → f ≡ get_or functions i f →
    i < f.number
place_below functions i f rise within is =
    let numbers : List ℕ = map (λ g. g.number) (functions_in functions) in
    let many = length-map (functions_in functions) (λ (g : Function). g.number) in
    let listed = length-map functions function_in in
    let low = at_least (0 ∷ numbers) (suc i) rise (omega (arith, within, many, listed)) in
    let there = slice_get-map (λ (g : Function). g.number) (functions_in functions) i
    ∙ ap (option_map (λ (g : Function). g.number)) (slice_get-map function_in functions i
    ∙ ap (option_map function_in) (slice_get-get_or functions i f within ∙ ap (λ (g : DeclaredFunction). Some g) (sym is))) in
    let same = get_or_from_slice_get numbers i f.number 0 there in
    omega (arith, low, same)
