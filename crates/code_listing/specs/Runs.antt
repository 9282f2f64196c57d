-- What it is that code does what a part of a typed program means. The machine is at the place where the code
-- of the part begins, in the world in which the part begins. Where the part gives something, the run comes to
-- the end of the code with it; where the part fails, the run ends with the same outcome, in the same world.
use Rattle.std.specs.Prelude.{◌≡◌, ℕ, ◌+◌, ◌<◌, ◌≤◌, Bool, true, false, not, if◌then◌else◌, List, [], ◌∷◌, length, slice_get, Option, Some, None, ℤ, pos, ⊤}
use Rattle.std.specs.Ordering.{int_eq}
use Rattle.int_kinds.specs.declared.kinds.Kind.{Kind}
use Rattle.run_effects.specs.declared.outcome.Outcome.{Outcome}
use Rattle.bytecode.specs.declared.code.Code.{Code}
use Rattle.bytecode.specs.declared.instr.Instr.TheVariants as instr
use Rattle.bytecode.specs.Machine.{Machine, Goes, Ends}
use Rattle.bytecode.specs.Runs.{HoldKinds}
use Rattle.bytecode.specs.Step.{go}
use Rattle.control_flow.specs.World.{World, Run, Gives, Fails, and_then, taking_turn}
use Rattle.control_flow.specs.Control.{Calls}
use Rattle.typed_tree.specs.declared.expression.TExpr.{TExpr}
use Rattle.typed_tree.specs.declared.program.TFun.{TFun}
use Rattle.typed_tree.specs.declared.statement.TStmt.TheVariants.{Eval}
use Rattle.typed_tree.specs.Expression.{Setting, value_of}
use Rattle.typed_tree.specs.Memory.{Memory}
use Rattle.typed_tree.specs.Size.{stmt_size, test_size, value_size}
use Rattle.code_listing.specs.Exit.{Backward, Exit, Forward, own_truth, same_truth}
use Rattle.code_listing.specs.Expression.{test_code, value_code}
use Rattle.code_listing.specs.Listing.{Listing}
use Rattle.code_listing.specs.Statement.{Exits, stmt_code}

-- code has a listing from a place on: its instructions and their depths
abbrev pub StandsAt : Code → ℕ → Listing → Type 0
StandsAt code place [] = ⊤
StandsAt code place (x ∷ rest) =
    ((slice_get code.instrs place ≡ Some x.0) × (slice_get code.depths place ≡ Some x.1)) ×
    StandsAt code (place + 1) rest

-- the machine at a place with a stack and open calls, in a world
abbrev pub machine_at : ℕ → List ℤ → List ℕ → World Memory → Machine
machine_at place stack calls w = record {
  place = place;
  stack = stack;
  calls = calls;
  cells = w.memory.cells;
  turns = w.turns;
  active = w.memory.active;
  effects = w.effects;
}

-- the world of a machine
abbrev pub world_of : Machine → World Memory
world_of m = record {
  memory = record { cells = m.cells; active = m.active };
  turns = m.turns;
  effects = m.effects;
}

-- a world in which code may run: at most so many turns are left, the cells are held by their kinds, and there
-- is each timer
pub record IsFit (code : Code) (most : ℕ) (w : World Memory) : Type 0 where
  pub turns : w.turns ≤ most
  pub cells_held : HoldKinds code.cells w.memory.cells
  pub timers : length code.timers ≤ length w.memory.active

-- The run from one state comes to another. There are no more turns then, the cells are held by their kinds if
-- they were before, and there are as many timers.
pub record Comes (code : Code) (closed : Bool) (moment : ℕ) (m after : Machine) : Type 0 where
  pub steps : ℕ
  pub goes : go code closed moment steps m ≡ Goes after
  pub turns : after.turns ≤ m.turns
  pub cells_held : HoldKinds code.cells m.cells → HoldKinds code.cells after.cells
  pub timers : length after.active ≡ length m.active

-- the run from a state ends with an outcome in a world
pub record Stops
    (code : Code) (closed : Bool) (moment : ℕ) (m : Machine) (outcome : Outcome) (w : World Memory)
    : Type 0 where
  pub steps : ℕ
  pub after : Machine
  pub ends : go code closed moment steps m ≡ Ends outcome after
  pub world : world_of after ≡ w

-- The machine does from a state on what a part of a program does: where the part gives something, `IsSo` is
-- true of it and of the world then; where the part fails, the machine's run ends with its outcome and world.
abbrev pub Follows : Code → Bool → ℕ → {A : Type 0} → Machine → (A → World Memory → Type 0) → Run Memory A →
    Type 0
Follows code closed moment m IsSo (Gives a w) = IsSo a w
Follows code closed moment m IsSo (Fails outcome w) = Stops code closed moment m outcome w

-- the same, where the machine comes to a state that is made of what the part gives and of the world then
abbrev pub Arrives : Code → Bool → ℕ → {A : Type 0} → Machine → (A → World Memory → Machine) →
    Run Memory A → Type 0
Arrives code closed moment m there run =
    Follows code closed moment m (λ a w. Comes code closed moment m (there a w)) run

-- the machine goes from a place to an end with the number that a part of a program gives on top of the stack,
-- and all below as it was
abbrev pub Leaves : Code → Bool → ℕ → ℕ → List ℤ → List ℕ → World Memory → ℕ → Run Memory ℤ → Type 0
Leaves code closed moment place stack calls w end run =
    Arrives code closed moment (machine_at place stack calls w)
    (λ n after. machine_at end (n ∷ stack) calls after) run

-- the place that an exit goes to
abbrev pub target_of : Exit → ℕ
target_of (Forward target) = target
target_of (Backward target) = target

-- going to an exit, which takes a turn where it goes back
abbrev pub going : Exit → World Memory → Run Memory Bool
going (Forward target) w = Gives true w
going (Backward target) w = taking_turn w (Gives true)

-- where a test goes that goes to an exit for a truth, by the number that decides: whether it goes there
abbrev pub branch : Bool → Exit → ℤ → World Memory → Run Memory Bool
branch when exit n w = if same_truth when (not (int_eq n (pos 0))) then going exit w else Gives false w

-- the machine goes from a state to an exit where a run gives true, and else to an end, with this stack
abbrev pub GoesBy : Code → Bool → ℕ → Machine → Exit → List ℤ → List ℕ → ℕ → Run Memory Bool → Type 0
GoesBy code closed moment m exit stack calls end run =
    Arrives code closed moment m
    (λ taken after. machine_at (if taken then target_of exit else end) stack calls after) run

-- the machine goes from a place to an exit or to an end by the number that a part of a program gives, with
-- the stack as it was
abbrev pub Decides : Code → Bool → ℕ → Bool → Exit → ℕ → List ℤ → List ℕ → World Memory → ℕ →
    Run Memory ℤ → Type 0
Decides code closed moment when exit place stack calls w end run =
    GoesBy code closed moment (machine_at place stack calls w) exit stack calls end
    (and_then run (branch when exit))

-- the stack once a function has returned: with its number on top, where it gives one
abbrev pub stack_after : Option Kind → ℤ → List ℤ → List ℤ
stack_after None n stack = stack
stack_after (Some k) n stack = n ∷ stack

-- wherever code calls a function, which gives a number of a kind or nothing, it does what the call means
abbrev pub FunctionMeans : Code → Setting → Calls Memory → ℕ → Option Kind → ℕ → Type 0
FunctionMeans code s call most gives f =
    (place : ℕ) (stack : List ℤ) (calls : List ℕ) (w : World Memory) → IsFit code most w →
    slice_get code.instrs place ≡ Some (instr.Call f) →
    Arrives code s.closed s.moment (machine_at place stack calls w)
    (λ n after. machine_at (place + 1) (stack_after gives n stack) calls after) (call f w)

-- code does what the calls of the functions below a number mean
abbrev pub FunctionsMean : Code → Setting → Calls Memory → ℕ → ℕ → Type 0
FunctionsMean code s call most number =
    (f : ℕ) (function : TFun) → f < number → slice_get s.typed.functions f ≡ Some function →
    FunctionMeans code s call most function.gives f

-- code is set for the expressions in the procedure of a number: it has the program's cells and timers, and
-- each function below the number does what its calls mean
pub record IsSetFor (code : Code) (s : Setting) (call : Calls Memory) (most number : ℕ) : Type 0 where
  pub cells : code.cells ≡ s.typed.cells
  pub timers : code.timers ≡ s.typed.timers
  pub functions : FunctionsMean code s call most number

-- wherever the code of an expression's value stands, from any stack, open calls and fit world, it leaves the
-- expression's number
abbrev pub RunsAsValue : Code → Setting → Calls Memory → ℕ → TExpr → Type 0
RunsAsValue code s call most e =
    (place depth : ℕ) (stack : List ℤ) (calls : List ℕ) (w : World Memory) → IsFit code most w →
    StandsAt code place (value_code s.typed e place depth) →
    Leaves code s.closed s.moment place stack calls w (place + value_size s.typed e) (value_of s call e w)

-- wherever its code as a test stands, it goes where the expression's number says
abbrev pub RunsAsTest : Code → Setting → Calls Memory → ℕ → TExpr → Type 0
RunsAsTest code s call most e =
    (when : Bool) (exit : Exit) (place depth : ℕ) (stack : List ℤ) (calls : List ℕ) (w : World Memory) →
    IsFit code most w → StandsAt code place (test_code s.typed when exit e place depth) →
    Decides code s.closed s.moment when exit place stack calls w
    (place + test_size s.typed when (own_truth exit) e) (value_of s call e w)

-- wherever its code as a statement stands, it does the same and comes to its end with the stack as it was
abbrev pub RunsAlone : Code → Setting → Calls Memory → ℕ → TExpr → Type 0
RunsAlone code s call most e =
    (exits : Exits) (place : ℕ) (stack : List ℤ) (calls : List ℕ) (w : World Memory) → IsFit code most w →
    StandsAt code place (stmt_code s.typed exits (Eval e) place) →
    Arrives code s.closed s.moment (machine_at place stack calls w)
    (λ n after. machine_at (place + stmt_size s.typed (Eval e)) stack calls after) (value_of s call e w)
