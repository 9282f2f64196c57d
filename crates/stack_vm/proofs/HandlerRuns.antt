-- The run of a handler in a memory: how it begins, what it leaves, and how it is refused.
use Rattle.std.proofs.Common.{◌≡◌, ◌<◌, ◌≤◌, ◌-◌, ℕ, List, [], ◌∷◌, ◌++◌, length, get_or, slice_get, Option, Some, None, Result, Ok, Err, OnErr, refl, sym, ap, ◌∙◌, subst}
use Rattle.std.specs.Prelude.{IsSomeAnd, false, ℤ}
use Rattle.std.proofs.lemmas.Option.{get_or_from_slice_get, slice_get_within}
use Rattle.vm_host.specs.Host.{HostMeaning}
use Rattle.run_effects.specs.declared.outcome.Outcome.{Outcome}
use Rattle.bytecode.specs.declared.code.Code.{Code}
use Rattle.bytecode.specs.declared.code.Fun.{Fun}
use Rattle.bytecode.specs.declared.code.Handler.{Handler}
use Rattle.bytecode.specs.Runs.{HoldKinds}
use Rattle.bytecode.specs.Verified.{IsVerified}
use Rattle.bytecode.proofs.RunLemmas.{effects_stay}
use Rattle.stack_vm.specs.Cases.{IsIndexOf}
use Rattle.stack_vm.specs.Inside.Runs.{EndsWith, HasRoomOn, IsRefused, machine_on}
use Rattle.stack_vm.specs.Inside.State.{HasSameRoom, RunState}
use Rattle.stack_vm.specs.Memory.{IsMemoryOf, MemoryState}
use Rattle.stack_vm.specs.Meter.{AddsRun}
use Rattle.stack_vm.specs.Runs.{BeginsIn, IsRunRefused, Runs}
use Rattle.stack_vm.specs.declared.meter.MeterRow.{MeterRow}
use Rattle.stack_vm.proofs.ListLemmas.{item_read}
use Rattle.stack_vm.proofs.MemoryLemmas.{memory_of}

-- no function
abbrev pub none : Fun
none = record { start = 0; end = 0; gives = false }

-- a state with these cells and this room, in which a function begins
abbrev pub at_start : RunState → Fun → ℕ → RunState
at_start s function turns = record s { place = function.start; stack = []; calls = []; turns = turns }

there_when : {X : Type 0} (xs : List X) (i : ℕ) (P : X → Type 0) (o : Option X) → slice_get xs i ≡ o → IsSomeAnd o P → i < length xs
there_when xs i P None e h = absurd h
there_when xs i P (Some x) e h = slice_get_within xs i x e

-- the function of a handler exists
pub function_there : (code : Code) → IsVerified code → (number : ℕ) (handler : Handler) → slice_get code.handlers number ≡ Some handler →
    handler.function < length code.functions
function_there code verified number handler is =
    let e = get_or_from_slice_get code.handlers number handler handler is in
    let h = verified.tables.handlers.give_nothing number handler (slice_get_within code.handlers number handler is) in
    there_when code.functions handler.function (λ function. function.gives ≡ false) (slice_get code.functions handler.function) refl
    (subst (λ (x : Handler). IsSomeAnd (slice_get code.functions x.function) (λ function. function.gives ≡ false)) e h)

-- a handler of code begins in a state, in the memory that the state belongs to
pub record StartsIn {S : Type 0} (host : HostMeaning S) (code : Code) (number turns : ℕ) (memory : MemoryState) (before : S) (start : RunState) : Type 0 where
  pub begins : BeginsIn host code number turns memory before (machine_on host start before [])
  pub numbers : start.numbers_room ≡ memory.numbers_room
  pub calls : start.calls_room ≡ memory.calls_room

starts_in : {S : Type 0} (host : HostMeaning S) (code : Code) (number : ℕ) (handler : Handler) (function : Fun) (turns : ℕ)
    (s : RunState) (cases : List (List (ℤ × ℕ))) (memory : MemoryState) (before : S) (start : RunState) →
    slice_get code.handlers number ≡ Some handler → slice_get code.functions handler.function ≡ Some function →
    memory_of s cases ≡ memory → IsMemoryOf code memory → length code.timers ≤ length (host.active_timers before) → start ≡ at_start s function turns →
    StartsIn host code number turns memory before start
starts_in host code number handler function turns s cases memory before start eh ef view is exist e =
    let cells : start.cells ≡ memory.cells = ap (λ (z : RunState). z.cells) e ∙ ap (λ (m : MemoryState). m.cells) view in
    record {
      begins = record {
        is_start = record {
          handler = handler;
          function = function;
          is_handler = eh;
          is_function = ef;
          at_start = ap (λ (z : RunState). z.place) e;
          no_numbers = ap (λ (z : RunState). z.stack) e;
          no_calls = ap (λ (z : RunState). z.calls) e;
          cells_held = subst (HoldKinds code.cells) (sym cells) is.cells_held;
          timers_exist = exist;
        };
        cells = cells;
        timers = refl;
        turns_given = ap (λ (z : RunState). z.turns) e;
        no_effects = refl;
      };
      numbers = ap (λ (z : RunState). z.numbers_room) e ∙ ap (λ (m : MemoryState). m.numbers_room) view;
      calls = ap (λ (z : RunState). z.calls_room) e ∙ ap (λ (m : MemoryState). m.calls_room) view;
    }

-- so it does where the code was read from a verified one, and the handler and its function from its lists
pub starts : {S : Type 0} (host : HostMeaning S) (before : S) (s : RunState) {read code : Code} → read ≡ code → IsVerified read →
    (number turns : ℕ) {cases : List (List (ℤ × ℕ))} {memory : MemoryState} {start : RunState} → number < length code.handlers →
    {handlers : List Handler} → handlers ≡ read.handlers → (d : Handler) → {functions : List Fun} → functions ≡ read.functions →
    memory_of s cases ≡ memory → IsMemoryOf code memory → length code.timers ≤ length (host.active_timers before) →
    start ≡ at_start s (get_or functions (get_or handlers number d).function none) turns →
    StartsIn host code number turns memory before start
starts host before s {read} {code} same verified number turns {cases} {memory} {start} h {handlers} eh d {functions} ef view is exist e =
    let handler : Handler = get_or handlers number d in
    let there : slice_get code.handlers number ≡ Some handler = item_read code.handlers (eh ∙ ap (λ (z : Code). z.handlers) same) refl h d in
    let within = function_there code (subst IsVerified same verified) number handler there in
    starts_in host code number handler (get_or functions handler.function none) turns s cases memory before start there
    (item_read code.functions (ef ∙ ap (λ (z : Code). z.functions) same) refl within none) view is exist e

module _ {S : Type 0} {host : HostMeaning S} {read code : Code} (same : read ≡ code) {number turns : ℕ} {memory : MemoryState} {before : S} {start : RunState}
    (starts : StartsIn host code number turns memory before start) where
  -- the index is one of the code that was read
  pub index_there : {cases : List (List (ℤ × ℕ))} → cases ≡ memory.cases → IsMemoryOf code memory → IsIndexOf read cases
  index_there {cases} indexed is = subst (λ (z : Code). IsIndexOf z cases) (sym same) (subst (IsIndexOf code) (sym indexed) is.indexed)

  -- there is room for every state that the run reaches
  pub room_there : IsMemoryOf code memory → HasRoomOn host read start before
  room_there is reached comes =
      let there = subst (λ (z : Code). HasRoomOn host z start before) (sym same) (λ reached comes.
      let room = is.room number (machine_on host start before []) reached (host.is_closed before) (host.moment before) starts.begins.is_start comes in
      record { numbers = rw (starts.numbers) room.numbers; calls = rw (starts.calls) room.calls }) in
      there reached comes

  -- the state that the run leaves belongs to a memory of the same code
  pub memory_left : {after : RunState} {cases : List (List (ℤ × ℕ))} → cases ≡ memory.cases → IsMemoryOf code memory → HasSameRoom start after →
      HoldKinds read.cells after.cells → IsMemoryOf code (memory_of after cases)
  memory_left {after} {cases} indexed is room held =
      let numbers : after.numbers_room ≡ memory.numbers_room = room.numbers ∙ starts.numbers in
      let calls : after.calls_room ≡ memory.calls_room = room.calls ∙ starts.calls in
      record {
        cells_held = subst (λ (z : Code). HoldKinds z.cells after.cells) same held;
        room = λ handler from reached closed moment begins comes.
            let room = is.room handler from reached closed moment begins comes in record { numbers = rw (numbers) room.numbers; calls = rw (calls) room.calls };
        indexed = subst (IsIndexOf code) (sym indexed) is.indexed;
      }

  -- the handler runs to the outcome
  pub runs_to : {row left : ℕ} {meter meter_after : List MeterRow} {outcome : Outcome} {s_after : RunState} {cases : List (List (ℤ × ℕ))} {after : S} →
      EndsWith host read start before outcome s_after after → AddsRun row left meter meter_after → left ≡ turns - s_after.turns →
      Runs host code number turns row memory before meter outcome (memory_of s_after cases) after meter_after
  runs_to {row} {left} {meter} {meter_after} {outcome} {s_after} {cases} {after} ends metered e =
      let there = subst (λ (z : Code). EndsWith host z start before outcome s_after after) same ends in
      record {
        start = machine_on host start before [];
        end = machine_on host s_after after there.effects;
        begins = starts.begins;
        ends = there.ended;
        cells = refl;
        timers = refl;
        taken = there.taken;
        metered = subst (λ (n : ℕ). AddsRun row n meter meter_after) e metered;
      }

  -- where the run was refused, the handler's run was
  pub refused_run : {X E : Type 0} (r : Result X E) {after : S} → IsRefused host read start before after →
      OnErr r (IsRunRefused host code number turns memory before after)
  refused_run (Ok x) refused = tt
  refused_run (Err e) {after} refused =
      let there = subst (λ (z : Code). IsRefused host z start before after) same refused in
      record {
        start = machine_on host start before [];
        at = machine_on host there.at there.between there.comes.effects;
        between = there.between;
        effect = there.effect;
        begins = starts.begins;
        comes = there.comes.reached;
        timers = refl;
        taken = there.comes.taken;
        next_effect = λ outcome end ends. effects_stay code (host.is_closed before) (host.moment before) (machine_on host start before [])
            (machine_on host there.next there.between (there.comes.effects ++ there.effect ∷ [])) end outcome there.goes_on ends;
        may_be = there.may_be;
        refusal = there.refusal;
      }
