-- Calls, by induction on the turns that are left at most, and how event procedures end.
use Rattle.std.proofs.Common.{◌≡◌, ℕ, zero, suc, Bool, List, [], Option, Some, refl, sym, ap, ◌∙◌}
use Rattle.std.specs.Prelude.{slice_get}
use Rattle.std.specs.List.{AllZip}
use Rattle.std.specs.Option.{option_map_or}
use Rattle.int_kinds.specs.declared.kinds.Kind.{Kind}
use Rattle.control_flow.specs.World.{World, Run, Gives, Fails}
use Rattle.control_flow.specs.Control.{End, number_given}
use Rattle.capl_tree.specs.declared.statement.Stmt.{Stmt}
use Rattle.typed_tree.specs.declared.program.Typed.{Typed}
use Rattle.typed_tree.specs.declared.statement.TStmt.{TStmt}
use Rattle.typed_tree.specs.Expression as typed
use Rattle.typed_tree.specs.Program.{body_of}
use Rattle.typed_tree.specs.Program as typed_procedure
use Rattle.capl_meaning.specs.Names.{Names, Scope, ThisForm, inside_function}
use Rattle.capl_meaning.specs.Store.{This}
use Rattle.capl_meaning.specs.Inside.Procedure.{runs_numbered}
use Rattle.capl_meaning.specs.Expression as source
use Rattle.capl_meaning.specs.Statement as source_procedure
use Rattle.typed_laws.specs.Laid.{laid, laid_memory, laid_run}
use Rattle.typed_laws.specs.Agreement.{ArePlain, Beside, DoesAs, Fits, FunctionsDoAs, SameCalls, laid_ending}
use Rattle.typed_laws.proofs.Runs.{map_same, turn_same}
use Rattle.typed_laws.proofs.Statements.{body_same}

module _ (names : Names) (order : List ℕ) (plain : ArePlain names) (program : Typed) (fits : Fits names order program) (functions : FunctionsDoAs names order program)
    (this : This) (closed : Bool) (moment : ℕ) where
  abbrev typed_now : typed.Setting
  typed_now = record { typed = program; closed = closed; moment = moment }

  module _ (owner : ℕ) (file : ℕ) (form : ThisForm) (gives : Option Kind) where
    -- where an event procedure stands
    abbrev here : Scope
    here = record { names = names; owner = owner; file = file; this = form; gives = gives }

    abbrev source_now : source.Setting
    source_now = record { scope = here; this = this; closed = closed; moment = moment }

    -- the run of a source beside that of its typed program, with so many turns left at most
    abbrev beside : (n : ℕ) → SameCalls names order this (source_procedure.calls_of source_now n) (typed_procedure.calls_of typed_now n) → Beside names order
    beside n same = record {
      plain = plain;
      program = program;
      fits = fits;
      this = this;
      closed = closed;
      moment = moment;
      call = source_procedure.calls_of source_now n;
      typed_call = typed_procedure.calls_of typed_now n;
      same_calls = same;
    }

    -- the body of a function
    function_same : (n k number : ℕ) → SameCalls names order this (source_procedure.calls_of source_now n) (typed_procedure.calls_of typed_now n) → slice_get order k ≡ Some number → (w : World source.Memory) →
        typed_procedure.runs typed_now (typed_procedure.calls_of typed_now n) n (body_of program k) (laid names this w) ≡
        laid_run names this (runs_numbered source_now (source_procedure.calls_of source_now n) n number w)
    function_same n k number same at w =
        let found = fits.functions k number at in
        let f = found.0 in
        let s = source_now in
        let call = source_procedure.calls_of s n in
        body_same (inside_function names f) order program.formats (beside n same) (λ i a e. e) n f.body (body_of program k) (functions.bodies k number f at found.1) w
        ∙ ap (laid_run names this) (sym (ap (λ o. option_map_or (source_procedure.function_runs s call n) o (source_procedure.runs s call n []) w) found.1))

    -- calls do the same, whatever turns are left at most
    pub calls_same : (n : ℕ) → SameCalls names order this (source_procedure.calls_of source_now n) (typed_procedure.calls_of typed_now n)
    calls_same zero k number at w = refl
    calls_same (suc n) k number at w =
        turn_same names this w.turns w _ _ (λ w. map_same names this number_given number_given _ _ (function_same n k number (calls_same n) at w) (λ end. refl))

    -- an event procedure ends in the cells that the source's memory is laid out in
    pub ending_same : (body : List Stmt) (typed_body : List TStmt) (turns : ℕ) (memory : source.Memory) → AllZip (DoesAs here order program.formats) body typed_body →
        typed_procedure.ending turns (typed_procedure.runs typed_now (typed_procedure.calls_of typed_now turns) turns typed_body
        (record { memory = laid_memory names this memory; turns = turns; effects = [] })) ≡
        laid_ending names this (source_procedure.ending turns (source_procedure.runs source_now (source_procedure.calls_of source_now turns) turns body
        (record { memory = memory; turns = turns; effects = [] })))
    ending_same body typed_body turns memory h =
        ap (typed_procedure.ending turns)
        (body_same here order program.formats (beside turns (calls_same turns)) (λ i a e. e) turns body typed_body h (record { memory = memory; turns = turns; effects = [] }))
        ∙ ended (source_procedure.runs source_now (source_procedure.calls_of source_now turns) turns body (record { memory = memory; turns = turns; effects = [] }))
      where
        ended : (r : Run source.Memory End) → typed_procedure.ending turns (laid_run names this r) ≡ laid_ending names this (source_procedure.ending turns r)
        ended (Gives end w) = refl
        ended (Fails outcome w) = refl
