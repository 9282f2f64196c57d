-- The run of an event procedure's code ends, and only as the typed tree says.
use Rattle.std.proofs.Common.{◌≡◌, ℕ, ◌+◌, ◌-◌, Bool, false, [], length, Some, slice_get, sym, ap, ◌∙◌, subst, arith, refl}
use Rattle.std.proofs.lemmas.Option.{get_or_from_slice_get, slice_get_within}
use Rattle.run_effects.specs.declared.outcome.Outcome.{Outcome}
use Rattle.run_effects.specs.declared.outcome.Outcome.TheVariants.{Done}
use Rattle.bytecode.specs.declared.code.Code.{Code}
use Rattle.bytecode.specs.declared.code.Fun.{Fun}
use Rattle.bytecode.specs.declared.code.Handler.{Handler}
use Rattle.bytecode.specs.Machine.{Machine}
use Rattle.bytecode.specs.Runs.{EndsIn, IsStartOf}
use Rattle.bytecode.proofs.RunLemmas.{one_end}
use Rattle.control_flow.specs.World.{Fails, Gives, Run, World}
use Rattle.control_flow.specs.Control.{End, number_given}
use Rattle.typed_tree.specs.declared.program.TFun.{TFun}
use Rattle.typed_tree.specs.declared.program.THandler.{THandler}
use Rattle.typed_tree.specs.declared.program.Typed.{Typed}
use Rattle.typed_tree.specs.Expression.{Setting}
use Rattle.typed_tree.specs.Memory.{Memory}
use Rattle.typed_tree.specs.Program.{Ending, calls_of, ending, ending_of, runs}
use Rattle.typed_tree.specs.Sound.{IsSound, IsSoundHandler}
use Rattle.code_listing.specs.Program.{IsCodeOf}
use Rattle.code_meaning.specs.Ending.{DoesWhatItMeans, EndsOnlyAs, IsListed, ending_in}
use Rattle.code_meaning.proofs.ProcedureRuns.{IsThere, functions_mean, procedure_runs, set_for}
use Rattle.code_listing.proofs.ProgramStands.{entry_of, function_listed, handler_entry, handler_listed, handlers_long}
use Rattle.code_listing.specs.Runs.{Follows, IsFit, machine_at, world_of}
use Rattle.code_meaning.specs.Statement.{HasReturned, IsSetForStatements}

-- a run of code from a state ends, with an ending
record EndsAs (code : Code) (closed : Bool) (moment : ℕ) (start : Machine) (wanted : Ending) : Type 0 where
  outcome : Outcome
  last : Machine
  ends : EndsIn code closed moment start outcome last
  same : ending_in start.turns outcome last ≡ wanted

-- what a run of an event procedure comes to, where it returns to no call
ended : (code : Code) (closed : Bool) (moment : ℕ) (m : Machine) (run : Run Memory End) →
    Follows code closed moment m (λ e after. HasReturned code closed moment false [] m [] (number_given e) after) run →
    EndsAs code closed moment m (ending m.turns run)
ended code closed moment m (Gives e w) h = record {
  outcome = Done;
  last = h.after;
  ends = (h.steps, h.ends);
  same = ap (λ (w : World Memory). record {
    memory = w.memory;
    turns_taken = m.turns - w.turns;
    effects = w.effects;
    outcome = Done;
  }) h.world;
}
ended code closed moment m (Fails o w) h = record {
  outcome = o;
  last = h.after;
  ends = (h.steps, h.ends);
  same = ap (λ (w : World Memory). record {
    memory = w.memory;
    turns_taken = m.turns - w.turns;
    effects = w.effects;
    outcome = o;
  }) h.world;
}

-- a machine with nothing on its stack and no open call
bare_machine : (m : Machine) (place : ℕ) → m.place ≡ place → m.stack ≡ [] → m.calls ≡ [] → machine_at place [] [] (world_of m) ≡ m
bare_machine m place at stack calls = sym (
    ap (λ p. machine_at p m.stack m.calls (world_of m)) at ∙ ap (λ xs. machine_at place xs m.calls (world_of m)) stack ∙
    ap (λ cs. machine_at place [] cs (world_of m)) calls)

module _ (typed : Typed) (code : Code) (sound : IsSound typed) (is : IsCodeOf typed code) where
  -- an event procedure that the program has is sound
  handler_sound : (number : ℕ) (handler : THandler) → slice_get typed.handlers number ≡ Some handler → IsSoundHandler typed handler
  handler_sound number handler e =
      subst (λ (h : THandler). IsSoundHandler typed h) (get_or_from_slice_get typed.handlers number handler handler e)
      (sound.handlers number handler (slice_get_within typed.handlers number handler e))

  module _ (closed : Bool) (moment : ℕ) where
    -- the setting of the tree's meaning
    abbrev setting : Setting
    setting = record { typed = typed; closed = closed; moment = moment }

    functions_there : (f : ℕ) (function : TFun) → slice_get typed.functions f ≡ Some function → IsThere code setting is sound f function
    functions_there f function e =
        let listed = function_listed code typed is f function e in
        record { start = listed.start; end = listed.end; listed = listed.listed; stands = listed.stands }

    -- the code is set for the statements of procedures that may call each function below a number
    pub calls_set : (n number : ℕ) → IsSetForStatements code setting (calls_of setting n) n number
    calls_set n number = set_for code setting is sound n number (functions_mean code setting is sound functions_there n number)

    -- what an event procedure's statements do from a state
    abbrev run_from : THandler → Machine → Run Memory End
    run_from handler m = runs setting (calls_of setting m.turns) m.turns handler.body (world_of m)

    -- from where an event procedure begins its run ends, as its statements do
    starts_end : (number : ℕ) (handler : THandler) (m : Machine) → slice_get typed.handlers number ≡ Some handler → IsStartOf code number m →
        EndsAs code closed moment m (ending m.turns (run_from handler m))
    starts_end number handler m e start =
        let w = world_of m in
        let n = m.turns in
        let count = length typed.functions in
        let listed = handler_listed code typed is number handler e in
        let entry = handler_entry code typed is number handler e in
        let same_entry : start.handler ≡ entry_of code typed is handler (count + number) =
        (let both : Some start.handler ≡ Some (entry_of code typed is handler (count + number)) = sym start.is_handler ∙ entry in cc) in
        let named : start.handler.function ≡ count + number = ap (λ (h : Handler). h.function) same_entry in
        let found : slice_get code.functions (count + number) ≡ Some start.function = ap (λ f. slice_get code.functions f) (sym named) ∙ start.is_function in
        let same : record { start = listed.start; end = listed.end; gives = false } ≡ start.function =
        (let both : Some (record { start = listed.start; end = listed.end; gives = false }) ≡ Some start.function = sym listed.listed ∙ found in cc) in
        let place : m.place ≡ listed.start = start.at_start ∙ sym (ap (λ (f : Fun). f.start) same) in
        let fit : IsFit code n w =
        record { turns = omega arith; cells_held = start.cells_held; timers = start.timers_exist } in
        let bare = bare_machine m listed.start place start.no_numbers start.no_calls in
        let runs_so = procedure_runs code setting is sound (calls_of setting n) n count
        (calls_set n count) false [] [] handler.body listed.start w
        (handler_sound number handler e).statements fit listed.stands in
        ended code closed moment m (run_from handler m)
        (subst (λ (z : Machine). Follows code closed moment z (λ e after. HasReturned code closed moment false [] z [] (number_given e) after)
        (run_from handler m)) bare runs_so)

    -- the end of the run is the one that is meant
    starts_only : (number : ℕ) (handler : THandler) (m : Machine) → slice_get typed.handlers number ≡ Some handler → IsStartOf code number m →
        m.effects ≡ [] → EndsOnlyAs code closed moment m (ending_of setting handler m.turns (record { cells = m.cells; active = m.active }))
    starts_only number handler m e start none outcome last ends =
        let there = starts_end number handler m e start in
        let one = one_end code closed moment m outcome there.outcome last there.last ends there.ends in
        ap (λ o. ending_in m.turns o last) one.0 ∙ ap (λ (z : Machine). ending_in m.turns there.outcome z) one.1 ∙ there.same ∙
        ap (λ effects. ending m.turns (runs setting (calls_of setting m.turns) m.turns handler.body
        (record { memory = record { cells = m.cells; active = m.active }; turns = m.turns; effects = effects }))) none

  -- the code lists the event procedure
  handler_is_listed : (number : ℕ) (handler : THandler) → slice_get typed.handlers number ≡ Some handler → IsListed code number handler
  handler_is_listed number handler e =
      let count = length typed.functions in
      let listed = handler_listed code typed is number handler e in
      record {
        entry = entry_of code typed is handler (count + number);
        function = record { start = listed.start; end = listed.end; gives = false };
        is_entry = handler_entry code typed is number handler e;
        is_function = listed.listed;
        event = refl;
        file = refl;
        line = refl;
        gives_nothing = refl;
      }

  -- the code of the program does what the program means
  pub code_means : DoesWhatItMeans typed code
  code_means = record {
    as_many = handlers_long code typed is;
    each = λ number handler e. record {
      listed = handler_is_listed number handler e;
      ends = λ closed moment start begins.
          let there = starts_end closed moment number handler start e begins in (there.outcome, there.last, there.ends);
      as_meant = λ closed moment start begins none. starts_only closed moment number handler start e begins none;
    };
  }
