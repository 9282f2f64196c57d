-- The files of a program number those of its event procedures.
use Rattle.std.proofs.Common.{◌≡◌, ℕ, suc, ◌+◌, ◌<◌, ◌≤◌, Option, None, Some, List, [], ◌∷◌, All, length, arith, subst, sym, ◌∙◌}
use Rattle.std.specs.List.{AllByRecursion, AllZip, flat_map}
use Rattle.std.specs.Option.{option_map_or}
use Rattle.std.proofs.lemmas.List.Elements.{All-append, All-cons, All-head, All-nil, All-tail}
use Rattle.std.proofs.lemmas.List.{length-map}
use Rattle.std.proofs.lemmas.Slice.Zip.{AllZip-long}
use Rattle.bytecode.specs.declared.code.Handler as coded
use Rattle.capl_include.specs.declared.expanded.SourceFile.{SourceFile}
use Rattle.capl_meaning.specs.Names.{Names, inside, names_of}
use Rattle.capl_meaning.specs.Statement.{Handler, event_of, handlers_in, handlers_of_part}
use Rattle.capl_meaning.specs.Variable.{Part, Globals, Procedure, parts_of, parts_of_files, parts_of_items}
use Rattle.capl_tree.specs.declared.file.FileTree.{FileTree}
use Rattle.capl_tree.specs.declared.file.Program.{Program}
use Rattle.capl_tree.specs.declared.file.TopItem.{TopItem}
use Rattle.capl_tree.specs.declared.file.TopItem.TheVariants as top
use Rattle.capl_tree.specs.declared.procedure.Proc.{Proc}
use Rattle.dbc_reader.specs.declared.message.DbcMessage.{DbcMessage}
use Rattle.run_effects.specs.declared.event.Event.{Event}
use Rattle.source_compiler.specs.Source.{AreTreesOf, HasTree}
use Rattle.source_laws.specs.Code.{IsEntryOf}
use Rattle.sim_inputs.specs.Accepted.{NodeSource, file_names}

-- ---- the parts of a program

-- a part stands in one of so many files
abbrev IsIn : ℕ → Part → Type 0
IsIn count (Globals file declarations) = file < count
IsIn count (Procedure number file procedure) = file < count

parts_in_items : (count file : ℕ) (items : List TopItem) (number : ℕ) (others : ℕ → List Part) → file < count → ((next : ℕ) → AllByRecursion (IsIn count) (others next)) →
    AllByRecursion (IsIn count) (parts_of_items file items number others)
parts_in_items count file [] number others within rest = rest number
parts_in_items count file (top.Includes names ∷ items) number others within rest = parts_in_items count file items number others within rest
parts_in_items count file (top.Variables declarations ∷ items) number others within rest = (within, parts_in_items count file items number others within rest)
parts_in_items count file (top.Proc procedure ∷ items) number others within rest = (within, parts_in_items count file items (suc number) others within rest)

parts_in_files : (count file : ℕ) (trees : List FileTree) (number : ℕ) → file + length trees ≤ count → AllByRecursion (IsIn count) (parts_of_files file trees number)
parts_in_files count file [] number within = tt
parts_in_files count file (tree ∷ trees) number within =
    parts_in_items count file tree.items number (parts_of_files (suc file) trees) (omega (arith, within))
    (λ next. parts_in_files count (suc file) trees next (omega (arith, within)))

-- ---- its event procedures

-- an event procedure stands in one of so many files
abbrev HasFile : ℕ → Handler → Type 0
HasFile count handler = handler.file < count

-- the event procedure of a part, by what it reacts to
abbrev made : Names → ℕ → ℕ → Proc → Event → Handler
made names number file procedure event = record {
  scope = inside names number file procedure.head;
  event = event;
  body = procedure.body;
  file = file;
  token = procedure.at;
}

made_within : (names : Names) (count number file : ℕ) (procedure : Proc) (event : Option Event) → file < count → All (HasFile count) (option_map_or (λ e. made names number file procedure e ∷ []) event [])
made_within names count number file procedure None within = All-nil (HasFile count)
made_within names count number file procedure (Some event) within = All-cons (HasFile count) (made names number file procedure event) [] within (All-nil (HasFile count))

handlers_in_part : (names : Names) (count : ℕ) (part : Part) → IsIn count part → All (HasFile count) (handlers_of_part names part)
handlers_in_part names count (Globals file declarations) within = All-nil (HasFile count)
handlers_in_part names count (Procedure number file procedure) within = made_within names count number file procedure (event_of names procedure.head) within

handlers_in_parts : (names : Names) (count : ℕ) (parts : List Part) → AllByRecursion (IsIn count) parts → All (HasFile count) (flat_map (handlers_of_part names) parts)
handlers_in_parts names count [] all = All-nil (HasFile count)
handlers_in_parts names count (part ∷ parts) all =
    All-append (HasFile count) (handlers_of_part names part) (flat_map (handlers_of_part names) parts)
    (handlers_in_part names count part all.0) (handlers_in_parts names count parts all.1)

handlers_within : (base : List DbcMessage) (program : Program) → All (HasFile (length program.files)) (handlers_in base program)
handlers_within base program =
    handlers_in_parts (names_of base program) (length program.files) (parts_of program) (parts_in_files (length program.files) 0 program.files 1 (omega arith))

-- ---- those of its code

entries_within : (lines : List (List ℕ)) (count : ℕ) (handlers : List Handler) (entries : List coded.Handler) → AllZip (IsEntryOf lines) handlers entries → All (HasFile count) handlers →
    All (λ (entry : coded.Handler). entry.file < count) entries
entries_within lines count [] [] zip all = All-nil (λ (entry : coded.Handler). entry.file < count)
entries_within lines count [] (entry ∷ entries) zip all = elim zip [ ]
entries_within lines count (handler ∷ handlers) [] zip all = elim zip [ ]
entries_within lines count (handler ∷ handlers) (entry ∷ entries) zip all =
    All-cons (λ (e : coded.Handler). e.file < count) entry entries (subst (λ n. n < count) (sym (zip.0).file) (All-head (HasFile count) handler handlers all))
    (entries_within lines count handlers entries zip.1 (All-tail (HasFile count) handler handlers all))

-- the event procedures of code stand in the files of its source
pub files_number_entries : (base : List DbcMessage) (source : NodeSource) (lines : List (List ℕ)) (entries : List coded.Handler) →
    AreTreesOf source.files source.program → AllZip (IsEntryOf lines) (handlers_in base source.program) entries →
    All (λ (entry : coded.Handler). entry.file < length (file_names source)) entries
files_number_entries base source lines entries trees zip =
    let many : length source.program.files ≡ length source.files = AllZip-long HasTree source.files source.program.files trees in
    let names : length (file_names source) ≡ length source.files = length-map source.files (λ (file : SourceFile). file.name) in
    entries_within lines (length (file_names source)) (handlers_in base source.program) entries zip
    (subst (λ count. All (HasFile count) (handlers_in base source.program)) (many ∙ sym names) (handlers_within base source.program))
