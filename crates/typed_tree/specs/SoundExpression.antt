-- What the compiler asks of the expressions of a typed program.
use Rattle.std.specs.Prelude.{◌≡◌, ℕ, ◌+◌, ◌<◌, ◌≤◌, ◌^◌, true, List, length, slice_get, IsSome, IsSomeAnd, All, ⊤}
use Rattle.int_kinds.specs.declared.kinds.Kind.{Kind}
use Rattle.int_kinds.specs.declared.operators.BinOp.{BinOp}
use Rattle.int_kinds.specs.declared.operators.BinOp.TheVariants.{OrElse, AndAlso}
use Rattle.int_kinds.specs.declared.operators.UnOp.{UnOp}
use Rattle.int_kinds.specs.declared.operators.UnOp.TheVariants.{Up, Down}
use Rattle.int_kinds.specs.Kind.{IsNumber, width}
use Rattle.signal_codec.specs.Signal.{IsUsable}
use Rattle.write_format.specs.Line.{cells_of}
use Rattle.message_cells.specs.Message.{IsMessage}
use Rattle.typed_tree.specs.declared.expression.Place.{Place}
use Rattle.typed_tree.specs.declared.expression.Place.TheVariants.{Cell, Set, Signal}
use Rattle.typed_tree.specs.declared.expression.TExpr.{TExpr, Row_of-TExpr, end_of-TExpr, more_of-TExpr, items-the_row-TExpr}
use Rattle.typed_tree.specs.declared.expression.TExpr.TheVariants.{Const, Load, Bump, Call', Active, Now}
use Rattle.typed_tree.specs.declared.program.Typed.{Typed}
use Rattle.typed_tree.specs.Forms.{Binary, Both, Bytes, Cond, Convert, Either, Elem, Store, Unary, Update}
use Rattle.typed_tree.specs.Memory.{kind_of}

-- an array: at least one cell, and all its cells of one kind
pub record IsUniformArray (kinds : List Kind) (base len : ℕ) : Type 0 where
  pub at_least_one : 1 ≤ len
  pub there : base + len ≤ length kinds
  pub of_one_kind : All (λ k. k ≡ kind_of kinds base) (cells_of base len kinds)

-- all that a place names exists
abbrev pub PlaceExists : Typed → Place → Type 0
PlaceExists typed (Cell cell) = cell < length typed.cells
PlaceExists typed (Elem base len index) = IsUniformArray typed.cells base len
PlaceExists typed (Set at field) = (field ≤ 3) × IsMessage typed.cells at
PlaceExists typed (Bytes at k index) = IsMessage typed.cells at
PlaceExists typed (Signal at l) = IsUsable l × IsMessage typed.cells at

-- all that an expression names, but for the function of a call, exists
abbrev pub NamesWhatExists : Typed → TExpr → Type 0
NamesWhatExists typed (Load place) = PlaceExists typed place
NamesWhatExists typed (Store place e) = PlaceExists typed place
NamesWhatExists typed (Update op k back place e) = PlaceExists typed place
NamesWhatExists typed (Bump place k up post) = PlaceExists typed place
NamesWhatExists typed (Active timer) = timer < length typed.timers
NamesWhatExists typed _ = ⊤

-- a constant lies from -2^63 to 2^64 - 1
abbrev pub HasConstantInRange : TExpr → Type 0
HasConstantInRange (Const n) = IsNumber n
HasConstantInRange _ = ⊤

-- an operator on two numbers, which `||` and `&&` are not
abbrev pub IsOperation : BinOp → Type 0
IsOperation OrElse = ⊥
IsOperation AndAlso = ⊥
IsOperation _ = ⊤

-- an operator on one number, which `++` and `--` are not
abbrev pub IsPrefixOperation : UnOp → Type 0
IsPrefixOperation Up = ⊥
IsPrefixOperation Down = ⊥
IsPrefixOperation _ = ⊤

-- the operator of an expression is one on numbers
abbrev pub HasOperation : TExpr → Type 0
HasOperation (Update op k back place e) = IsOperation op
HasOperation (Unary op k e) = IsPrefixOperation op
HasOperation (Binary op k a b) = IsOperation op
HasOperation _ = ⊤

-- a call in the procedure of a number is of a function of a smaller number, with as many arguments as it has
-- parameters
abbrev pub CallsEarlier : Typed → ℕ → TExpr → Type 0
CallsEarlier typed number (Call' f shape args) = (f < number) × IsSomeAnd (slice_get typed.functions f)
    (λ function. length (items-the_row-TExpr _ args) ≡ length function.params)
CallsEarlier typed number _ = ⊤

-- a function of a number gives a number
abbrev pub GivesNumber : Typed → ℕ → Type 0
GivesNumber typed f = IsSomeAnd (slice_get typed.functions f) (λ function. IsSome function.gives)

-- a call has fewer than 2^32 arguments
abbrev pub HasFewArguments : TExpr → Type 0
HasFewArguments (Call' f shape args) = length (items-the_row-TExpr _ args) < 2 ^ 32
HasFewArguments _ = ⊤

-- What 1 is added to at an index is no wider than the kind in which it is added, so that the number as it was
-- can be had from what is stored.
abbrev pub IsNoWider : Typed → Place → Kind → Type 0
IsNoWider typed (Elem base len index) k = width (kind_of typed.cells base) ≤ width k
IsNoWider typed (Bytes at of index) k = width of ≤ width k
IsNoWider typed _ k = ⊤

-- where the number as it was is given at an index, it can be had from what is stored
abbrev pub CanGiveBack : Typed → TExpr → Type 0
CanGiveBack typed (Bump place k up true) = IsNoWider typed place k
CanGiveBack typed _ = ⊤

-- what is asked of an expression itself, in the procedure of a number
pub record IsSoundNode (typed : Typed) (number : ℕ) (e : TExpr) : Type 0 where
  pub names_exist : NamesWhatExists typed e
  pub constant_in_range : HasConstantInRange e
  pub operation : HasOperation e
  pub calls_earlier : CallsEarlier typed number e
  pub few_arguments : HasFewArguments e
  pub can_give_back : CanGiveBack typed e

abbrev mutual
  -- an expression, in the procedure of a number, whose own number is used: it is sound itself, and so is each
  -- in it
  pub IsSoundExpr : Typed → ℕ → TExpr → Type 0
  IsSoundExpr typed number (Const n) = IsSoundNode typed number (Const n)
  IsSoundExpr typed number (Load place) =
      IsSoundNode typed number (Load place) × HasSoundIndex typed number place
  IsSoundExpr typed number (Store place e) =
      IsSoundNode typed number (Store place e) ×
      HasSoundIndex typed number place × IsSoundExpr typed number e
  IsSoundExpr typed number (Update op k back place e) =
      IsSoundNode typed number (Update op k back place e) ×
      HasSoundIndex typed number place × IsSoundExpr typed number e
  IsSoundExpr typed number (Bump place k up post) =
      IsSoundNode typed number (Bump place k up post) × HasSoundIndex typed number place
  IsSoundExpr typed number (Unary op k e) =
      IsSoundNode typed number (Unary op k e) × IsSoundExpr typed number e
  IsSoundExpr typed number (Binary op k a b) =
      IsSoundNode typed number (Binary op k a b) ×
      IsSoundExpr typed number a × IsSoundExpr typed number b
  IsSoundExpr typed number (Both a b) =
      IsSoundNode typed number (Both a b) ×
      IsSoundExpr typed number a × IsSoundExpr typed number b
  IsSoundExpr typed number (Either a b) =
      IsSoundNode typed number (Either a b) ×
      IsSoundExpr typed number a × IsSoundExpr typed number b
  IsSoundExpr typed number (Cond test a b) =
      IsSoundNode typed number (Cond test a b) ×
      IsSoundExpr typed number test × IsSoundExpr typed number a × IsSoundExpr typed number b
  IsSoundExpr typed number (Convert k e) =
      IsSoundNode typed number (Convert k e) × IsSoundExpr typed number e
  IsSoundExpr typed number (Call' f shape args) =
      IsSoundNode typed number (Call' f shape args) ×
      GivesNumber typed f × AreSoundArguments typed number args
  IsSoundExpr typed number (Active timer) = IsSoundNode typed number (Active timer)
  IsSoundExpr typed number Now = IsSoundNode typed number Now

  -- the index of a place, if it has one
  pub HasSoundIndex : Typed → ℕ → Place → Type 0
  HasSoundIndex typed number (Cell cell) = ⊤
  HasSoundIndex typed number (Elem base len index) = IsSoundExpr typed number index
  HasSoundIndex typed number (Set at field) = ⊤
  HasSoundIndex typed number (Bytes at k index) = IsSoundExpr typed number index
  HasSoundIndex typed number (Signal at l) = ⊤

  -- the arguments of a call
  pub AreSoundArguments : Typed → ℕ → {m : _} → Row_of-TExpr m → Type 0
  AreSoundArguments typed number end_of-TExpr = ⊤
  AreSoundArguments typed number (more_of-TExpr e rest) =
      IsSoundExpr typed number e × AreSoundArguments typed number rest

-- an expression that stands alone in a statement, where a call of a function that gives nothing may stand
abbrev pub IsSoundAlone : Typed → ℕ → TExpr → Type 0
IsSoundAlone typed number (Call' f shape args) =
    IsSoundNode typed number (Call' f shape args) × AreSoundArguments typed number args
IsSoundAlone typed number e = IsSoundExpr typed number e
