-- What the expressions of a typed program mean (CAPL manual, operators and expressions): operands from left
-- to right.
use Rattle.std.specs.Prelude.{ℕ, ◌+◌, ◌-◌, ◌/◌, Bool, false, not, if◌then◌else◌, nat_lt, List, [], ◌∷◌, slice_get, slice_index_or, Option, Some, None, ℤ, pos, negsuc}
use Rattle.std.specs.Option.{option_map_or}
use Rattle.std.specs.Ordering.{int_eq}
use Rattle.int_kinds.specs.declared.kinds.Kind.{Kind}
use Rattle.int_kinds.specs.declared.kinds.Kind.TheVariants.{Dword}
use Rattle.int_kinds.specs.declared.operators.BinOp.{BinOp}
use Rattle.int_kinds.specs.declared.operators.BinOp.TheVariants.{Add, Sub}
use Rattle.int_kinds.specs.declared.operators.UnOp.{UnOp}
use Rattle.int_kinds.specs.declared.operators.UnOp.TheVariants.{Minus, Plus, Not, Inv, Up, Down}
use Rattle.int_kinds.specs.Kind.{wrap}
use Rattle.int_kinds.specs.Arithmetic.{inverted, negated, truth, value}
use Rattle.run_effects.specs.declared.outcome.Outcome.TheVariants.{Trapped}
use Rattle.run_effects.specs.declared.outcome.TrapKind.TheVariants.{Index, ZeroDivisor}
use Rattle.message_cells.specs.Message.{size}
use Rattle.control_flow.specs.World.{World, Run, Gives, Fails, and_then, run_map}
use Rattle.control_flow.specs.Control.{Calls, Computes, deciding}
use Rattle.typed_tree.specs.declared.expression.Place.{Place}
use Rattle.typed_tree.specs.declared.expression.Place.TheVariants.{Cell, Set, Signal}
use Rattle.typed_tree.specs.declared.expression.TExpr.{TExpr, Row_of-TExpr, end_of-TExpr, more_of-TExpr}
use Rattle.typed_tree.specs.declared.expression.TExpr.TheVariants.{Const, Load, Bump, Call', Active, Now}
use Rattle.typed_tree.specs.declared.program.Typed.{Typed}
use Rattle.typed_tree.specs.Forms.{Binary, Both, Bytes, Cond, Convert, Either, Elem, Store, Unary, Update}
use Rattle.typed_tree.specs.Memory.{InBytes, InCell, InField, InSignal, Memory, Spot, read, with_cells, write}

-- where and when a part of a program runs: in which program, after the measurement has ended or not, and at
-- which moment in microseconds
pub record Setting : Type 0 where
  pub typed : Typed
  pub closed : Bool
  pub moment : ℕ

-- a number as an index of so many things, numbered from 0 on; it traps where it is none
abbrev pub indexing : {A : Type 0} → ℕ → ℤ → World Memory → (ℕ → A) → Run Memory A
indexing len (pos i) w spot = if nat_lt i len then Gives (spot i) w else Fails (Trapped Index) w
indexing len (negsuc i) w spot = Fails (Trapped Index) w

-- 1 for every number but 0
abbrev pub truth_of : ℤ → ℤ
truth_of n = truth (not (int_eq n (pos 0)))

-- gives a number, or traps where there is none since a divisor was zero
abbrev pub gives_or_traps : Option ℤ → Computes Memory
gives_or_traps None w = Fails (Trapped ZeroDivisor) w
gives_or_traps (Some n) w = Gives n w

-- the value of a binary operator in a kind, with the trap of a zero divisor
abbrev pub operates : BinOp → Kind → ℤ → ℤ → Computes Memory
operates op k a b w = gives_or_traps (value op k a b) w

-- the value of a prefix operator in a kind; `++` and `--` are none
abbrev pub prefix_value : UnOp → Kind → ℤ → ℤ
prefix_value Minus k n = negated k n
prefix_value Plus k n = wrap k n
prefix_value Not k n = truth (int_eq n (pos 0))
prefix_value Inv k n = inverted k n
prefix_value Up k n = n
prefix_value Down k n = n

-- the number at a spot
abbrev pub reads : Spot → World Memory → Run Memory ℤ
reads spot w = Gives (read spot w.memory.cells) w

-- stores a number at a spot, and gives what a read of it then gives
abbrev pub stores : Setting → Spot → ℤ → World Memory → Run Memory ℤ
stores s spot n w =
    let cells = write s.typed.cells spot n w.memory.cells in Gives (read spot cells) (with_cells cells w)

-- the parameters of a function
abbrev pub params_of : Typed → ℕ → List ℕ
params_of typed f = option_map_or (λ function. function.params) (slice_get typed.functions f) []

-- the cells once the parameters, which are different ones, hold the arguments
abbrev pub with_arguments : List Kind → List ℕ → List ℤ → List ℤ → List ℤ
with_arguments kinds (param ∷ params) (n ∷ ns) cells =
    write kinds (InCell param) n (with_arguments kinds params ns cells)
with_arguments kinds params ns cells = cells

-- stores arguments in the parameters of a function, and calls it
abbrev pub calling : Setting → Calls Memory → ℕ → List ℤ → Computes Memory
calling s call f ns w =
    call f (with_cells (with_arguments s.typed.cells (params_of s.typed f) ns w.memory.cells) w)

abbrev mutual
  -- the number that an expression gives
  pub value_of : Setting → Calls Memory → TExpr → Computes Memory
  value_of s call (Const n) w = Gives n w
  value_of s call (Load place) w = and_then (spot_of s call place w) reads
  value_of s call (Store place e) w =
      and_then (spot_of s call place w) (λ spot w. and_then (value_of s call e w) (stores s spot))
  value_of s call (Update op k back place e) w =
      and_then (spot_of s call place w) (λ spot w. and_then (reads spot w) (λ old w.
      and_then (value_of s call e w) (λ n w. and_then (operates op k old n w) (λ new w.
      stores s spot (wrap back new) w))))
  value_of s call (Bump place k up post) w =
      and_then (spot_of s call place w) (λ spot w. and_then (reads spot w) (λ old w.
      and_then (operates (if up then Add else Sub) k old (pos 1) w) (λ new w.
      run_map (λ now. if post then old else now) (stores s spot new w))))
  value_of s call (Unary op k e) w = run_map (prefix_value op k) (value_of s call e w)
  value_of s call (Binary op k a b) w =
      and_then (value_of s call a w) (λ m w. and_then (value_of s call b w) (λ n w. operates op k m n w))
  value_of s call (Both a b) w =
      deciding (value_of s call a w) (λ w. run_map truth_of (value_of s call b w)) (Gives (pos 0))
  value_of s call (Either a b) w =
      deciding (value_of s call a w) (Gives (pos 1)) (λ w. run_map truth_of (value_of s call b w))
  value_of s call (Cond test a b) w =
      deciding (value_of s call test w) (value_of s call a) (value_of s call b)
  value_of s call (Convert k e) w = run_map (wrap k) (value_of s call e w)
  value_of s call (Call' f shape args) w = and_then (values_of s call args w) (calling s call f)
  value_of s call (Active timer) w = Gives (truth (slice_index_or w.memory.active timer false)) w
  value_of s call Now w = Gives (wrap Dword (pos (s.moment / 10))) w

  -- the spot that a place is, with the check of its index
  pub spot_of : Setting → Calls Memory → Place → World Memory → Run Memory Spot
  spot_of s call (Cell cell) w = Gives (InCell cell) w
  spot_of s call (Elem base len index) w =
      and_then (value_of s call index w) (λ i w. indexing len i w (λ i. InCell (base + i)))
  spot_of s call (Set at field) w = Gives (InField at field) w
  spot_of s call (Bytes at k index) w =
      and_then (value_of s call index w) (λ i w. indexing (9 - size k) i w (InBytes at k))
  spot_of s call (Signal at l) w = Gives (InSignal at l) w

  -- the numbers that arguments give
  pub values_of : Setting → Calls Memory → {m : _} → Row_of-TExpr m → World Memory → Run Memory (List ℤ)
  values_of s call end_of-TExpr w = Gives [] w
  values_of s call (more_of-TExpr e rest) w =
      and_then (value_of s call e w) (λ n w. run_map (λ ns. n ∷ ns) (values_of s call rest w))
