-- The machine runs an event procedure as its source means it.
use Rattle.std.proofs.Common.{◌≡◌, ℕ, zero, suc, ◌≤◌, Bool, List, [], ◌∷◌, length, Some, None, refl, sym, ap, ◌∙◌, subst}
use Rattle.std.specs.Prelude.{slice_get}
use Rattle.std.specs.List.{AllZip}
use Rattle.dbc_reader.specs.declared.message.DbcMessage.{DbcMessage}
use Rattle.capl_tree.specs.declared.file.Program.{Program}
use Rattle.int_kinds.specs.declared.kinds.Kind.{Kind}
use Rattle.run_effects.specs.declared.outcome.Outcome.{Outcome}
use Rattle.bytecode.specs.declared.code.Code.{Code}
use Rattle.bytecode.specs.Machine.{Machine}
use Rattle.bytecode.specs.Runs.{EndsIn, HoldKinds}
use Rattle.typed_tree.specs.declared.program.THandler.{THandler}
use Rattle.typed_tree.specs.Memory as cells
use Rattle.typed_tree.specs.Program as typed_procedure
use Rattle.code_meaning.specs.Ending.{RunsAsMeant, ending_in, memory_in}
use Rattle.code_meaning.proofs.ProgramRuns.{code_means}
use Rattle.capl_meaning.specs.Names.{Names, names_of}
use Rattle.capl_meaning.specs.Store.{This}
use Rattle.capl_meaning.specs.Expression.{Memory}
use Rattle.capl_meaning.specs.Statement.{Ending, Handler, ending_of, handlers_in}
use Rattle.typed_laws.specs.Laid.{laid_memory}
use Rattle.typed_laws.specs.Agreement.{HandlerDoesAs, laid_ending}
use Rattle.typed_laws.proofs.Programs.{program_ends}
use Rattle.source_laws.specs.Code.{IsSourceCode}
use Rattle.source_laws.specs.Ends.{HasEndedAs, IsBegun, IsHeld, RunsAsSource, cells_with}
use Rattle.source_laws.proofs.SourceCode.{distinct_names, source_tables, typed_does}

-- what goes with an item of a list
pub zip_right : {A B : Type 0} (R : A → B → Type 0) (xs : List A) (ys : List B) (i : ℕ) (x : A) → AllZip R xs ys → slice_get xs i ≡ Some x → (y : B) × (slice_get ys i ≡ Some y) × R x y
zip_right R [] ys i x all e = absurd (let f : None ≡ Some x = e in cc)
zip_right R (a ∷ xs) [] i x all e = elim all [ ]
zip_right R (a ∷ xs) (b ∷ ys) zero x all e = let f : Some a ≡ Some x = e in let same : a ≡ x = cc in (b, refl, subst (λ z. R z b) same all.0)
zip_right R (a ∷ xs) (b ∷ ys) (suc i) x all e = zip_right R xs ys i x all.1 e

-- what an item of the other list goes with
pub zip_left : {A B : Type 0} (R : A → B → Type 0) (xs : List A) (ys : List B) (i : ℕ) (y : B) → AllZip R xs ys → slice_get ys i ≡ Some y → (x : A) × (slice_get xs i ≡ Some x) × R x y
zip_left R xs [] i y all e = absurd (let f : None ≡ Some y = e in cc)
zip_left R [] (b ∷ ys) i y all e = elim all [ ]
zip_left R (a ∷ xs) (b ∷ ys) zero y all e = let f : Some b ≡ Some y = e in let same : b ≡ y = cc in (a, refl, subst (R a) same all.0)
zip_left R (a ∷ xs) (b ∷ ys) (suc i) y all e = zip_left R xs ys i y all.1 e

-- an ending by its parts
ended_as : (names : Names) (turns : ℕ) (this : This) (ending : Ending) (outcome : Outcome) (last : Machine) → ending_in turns outcome last ≡ laid_ending names this ending →
    HasEndedAs names turns this ending outcome last
ended_as names turns this ending outcome last e = record {
  cells = ap (λ (x : typed_procedure.Ending). x.memory.cells) e;
  active = ap (λ (x : typed_procedure.Ending). x.memory.active) e;
  effects = ap (λ (x : typed_procedure.Ending). x.effects) e;
  taken = ap (λ (x : typed_procedure.Ending). x.turns_taken) e;
  outcome_is = ap (λ (x : typed_procedure.Ending). x.outcome) e;
}

module _ (base : List DbcMessage) (program : Program) (lines : List (List ℕ)) (code : Code) (is : IsSourceCode base program lines code) where
  -- the typed event procedure of one of the source
  typed_handler : (number : ℕ) (handler : Handler) → slice_get (handlers_in base program) number ≡ Some handler → (t : THandler) × (slice_get is.typed.handlers number ≡ Some t)
  typed_handler number handler e =
      let does = typed_does base program lines is.typed is.accepted in
      let found = zip_right (HandlerDoesAs does.order is.typed.formats) (handlers_in base program) is.typed.handlers number handler does.handlers e in
      (found.0, found.1)

  -- the code of an event procedure runs as its typed tree means
  meant : (number : ℕ) (handler : Handler) → slice_get (handlers_in base program) number ≡ Some handler → (t : THandler) × (slice_get is.typed.handlers number ≡ Some t) × RunsAsMeant is.typed code number t
  meant number handler e =
      let found = typed_handler number handler e in
      (found.0, found.1, (code_means is.typed code is.accepted.sound is.code_is).each number found.0 found.1)

  -- where a run of an event procedure ends, it has ended as the source does
  pub ends_as_source : (number : ℕ) (handler : Handler) → slice_get (handlers_in base program) number ≡ Some handler → (this : This) (closed : Bool) (moment turns : ℕ) (memory : Memory)
      (start : Machine) → IsBegun code (names_of base program) number turns this memory start → (outcome : Outcome) (last : Machine) → EndsIn code closed moment start outcome last →
      HasEndedAs (names_of base program) turns this (ending_of handler this closed moment turns memory) outcome last
  ends_as_source number handler e this closed moment turns memory start begun outcome last ends =
      let names = names_of base program in
      let found = meant number handler e in
      let one : ending_in start.turns outcome last ≡ typed_procedure.ending_of (record { typed = is.typed; closed = closed; moment = moment }) found.0 start.turns (memory_in start) =
      found.2.as_meant closed moment start begun.is_start begun.no_effects outcome last ends in
      let where_begun : memory_in start ≡ laid_memory names this memory = let a = begun.cells in let b = begun.active in cc in
      let given = begun.turns_given in
      ended_as names turns this (ending_of handler this closed moment turns memory) outcome last
      (subst (λ n. ending_in n outcome last ≡ typed_procedure.ending_of (record { typed = is.typed; closed = closed; moment = moment }) found.0 n (memory_in start)) given one
      ∙ ap (λ (m : cells.Memory). typed_procedure.ending_of (record { typed = is.typed; closed = closed; moment = moment }) found.0 turns m) where_begun
      ∙ program_ends base program is.typed (typed_does base program lines is.typed is.accepted) (distinct_names base program lines is.typed is.accepted) number handler found.0 e found.1
      this closed moment turns memory)

  -- a state in which the machine begins an event procedure
  begun : (number : ℕ) (handler : Handler) → slice_get (handlers_in base program) number ≡ Some handler → (turns : ℕ) (this : This) (memory : Memory) → IsHeld (names_of base program) this memory →
      (start : Machine) × IsBegun code (names_of base program) number turns this memory start
  begun number handler e turns this memory held =
      let names = names_of base program in
      let tables = source_tables base program lines code is in
      let listed = (meant number handler e).2.listed in (
        record {
          place = listed.function.start;
          stack = [];
          calls = [];
          cells = cells_with names this memory;
          turns = turns;
          active = memory.active;
          effects = [];
        },
        record {
          is_start = record {
            handler = listed.entry;
            function = listed.function;
            is_handler = listed.is_entry;
            is_function = listed.is_function;
            at_start = refl;
            no_numbers = refl;
            no_calls = refl;
            cells_held = subst (λ (kinds : List Kind). HoldKinds kinds (cells_with names this memory)) (sym tables.cells) held.cells;
            timers_exist = subst (λ (units : List ℕ). length units ≤ length memory.active) (sym tables.timers) held.timers;
          };
          cells = refl;
          active = refl;
          turns_given = refl;
          no_effects = refl;
        },
      )

  -- the machine runs an event procedure as its source means it
  pub runs_as_source : (number : ℕ) (handler : Handler) → slice_get (handlers_in base program) number ≡ Some handler → (this : This) (closed : Bool) (moment turns : ℕ) (memory : Memory) →
      IsHeld (names_of base program) this memory → RunsAsSource code (names_of base program) number handler this closed moment turns memory
  runs_as_source number handler e this closed moment turns memory held = record {
    begins = begun number handler e turns this memory held;
    ends = λ start begins. (meant number handler e).2.ends closed moment start begins.is_start;
    only_so = λ start begins outcome last ends. ends_as_source number handler e this closed moment turns memory start begins outcome last ends;
  }
