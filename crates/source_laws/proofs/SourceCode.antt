-- What is known of an accepted source's typed program and of its code.
use Rattle.std.proofs.Common.{◌≡◌, ℕ, ◌+◌, ◌≤◌, List, [], ◌∷◌, length, replicate, refl, sym, ap, ◌∙◌, subst, pos}
use Rattle.std.specs.Prelude.{ℤ, slice_set}
use Rattle.std.specs.List.{AllZip}
use Rattle.std.proofs.lemmas.List.{length-map}
use Rattle.dbc_reader.specs.declared.message.DbcMessage.{DbcMessage}
use Rattle.capl_tree.specs.declared.file.Program.{Program}
use Rattle.capl_tree.specs.Weight.{weight}
use Rattle.int_kinds.specs.declared.kinds.Kind.{Kind}
use Rattle.bytecode.specs.declared.code.Code.{Code}
use Rattle.bytecode.specs.declared.instr.Instr.{Instr}
use Rattle.stack_vm.specs.Memory.{with_starts}
use Rattle.typed_tree.specs.declared.program.Typed.{Typed}
use Rattle.typed_tree.specs.Size.{size}
use Rattle.typed_tree.specs.Sound.{IsSound}
use Rattle.code_listing.specs.Program.{handler_table, program_code}
use Rattle.code_listing.proofs.ProgramSizes.{program_long}
use Rattle.capl_meaning.specs.Variable.{variables_of}
use Rattle.capl_meaning.specs.Names.{names_of}
use Rattle.capl_meaning.specs.Statement.{Handler, handlers_in}
use Rattle.typed_laws.specs.Laid.{AreDistinct}
use Rattle.typed_laws.specs.Agreement.{ProgramDoesAs}
use Rattle.typed_laws.specs.Starts.{started}
use Rattle.typed_laws.proofs.Distinct.{distinct_without_offences}
use Rattle.typed_source.specs.Program.{formats_of_body, formats_of_functions, typed_handlers}
use Rattle.typed_source.proofs.Programs.{program_does}
use Rattle.typed_source.proofs.ProgramSizes.{program_small}
use Rattle.check_types.specs.Accepted.{IsAccepted}
use Rattle.check_types.specs.Lines.{line_in}
use Rattle.source_laws.specs.Code.{HasSourceTables, IsEntryOf, IsSourceCode}

-- ---- the typed program of an accepted source

module _ (base : List DbcMessage) (program : Program) (lines : List (List ℕ)) (typed : Typed) (is : IsAccepted base program lines typed) where
  -- no name is declared twice
  pub distinct_names : AreDistinct (variables_of base program)
  distinct_names = distinct_without_offences base program is.made.no_offence

  -- it does what the source does
  pub typed_does : ProgramDoesAs base program typed
  typed_does = subst (λ (t : Typed). ProgramDoesAs base program t) (sym is.made.typed_is) (program_does base program is.made.order (line_in lines) is.made.has_each is.made.has_no_other)

  -- its code is within the source's weight
  pub typed_small : size typed ≤ weight program
  typed_small = subst (λ (t : Typed). size t ≤ weight program) (sym is.made.typed_is)
      (program_small base program is.made.order (line_in lines) is.made.has_no_other is.made.once (subst IsSound is.made.typed_is is.sound))

-- ---- the tables

-- the entries of typed event procedures are those of the source's
entries_of : (lines : List (List ℕ)) (order : List ℕ) (handlers : List Handler) (before number : ℕ) →
    AllZip (IsEntryOf lines) handlers (handler_table (typed_handlers order (line_in lines) before handlers) number)
entries_of lines order [] before number = tt
entries_of lines order (h ∷ rest) before number =
    (record { event = refl; file = refl; line = refl }, entries_of lines order rest (before + length (formats_of_body h.scope h.body)) (number + 1))

-- starts put in one after another
starts_same : (starts : List (ℕ × ℤ)) (cells : List ℤ) → with_starts cells starts ≡ started cells starts
starts_same [] cells = refl
starts_same (start ∷ starts) cells = starts_same starts (slice_set cells start.0 start.1)

-- the code of an accepted source has the source's tables
pub source_tables : (base : List DbcMessage) (program : Program) (lines : List (List ℕ)) (code : Code) → IsSourceCode base program lines code → HasSourceTables base program lines code
source_tables base program lines code is =
    let accepted = is.accepted in let typed = is.typed in
    let does = typed_does base program lines typed accepted in
    let functions : ℕ = length typed.functions in
    record {
      handlers =
          let listed : code.handlers ≡ handler_table (typed_handlers accepted.made.order (line_in lines) (length (formats_of_functions (names_of base program) accepted.made.order)) (handlers_in base program)) functions =
          is.code_is.handlers ∙ ap (λ (t : Typed). handler_table t.handlers functions) accepted.made.typed_is in
          subst (AllZip (IsEntryOf lines) (handlers_in base program)) (sym listed) (entries_of lines accepted.made.order (handlers_in base program) _ functions);
      cells = is.code_is.cells ∙ does.fits.kinds;
      starts =
          ap (λ (n : ℕ). with_starts (replicate n (pos 0)) code.starts) (ap (λ (xs : List Kind). length xs) is.code_is.cells)
          ∙ ap (with_starts (replicate (length typed.cells) (pos 0))) is.code_is.starts
          ∙ starts_same typed.starts (replicate (length typed.cells) (pos 0))
          ∙ does.starts.made;
      timers = is.code_is.timers ∙ does.fits.timers;
      few =
          let long : length code.instrs ≡ size typed =
          ap (λ (xs : List Instr). length xs) is.code_is.instrs ∙ length-map (program_code typed) (λ (x : Instr × ℕ). x.0) ∙ program_long typed in
          subst (λ n. n ≤ weight program) (sym long) (typed_small base program lines typed accepted);
    }
