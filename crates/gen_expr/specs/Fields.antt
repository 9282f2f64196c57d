-- The cells of message fields, which instructions hold as numbers of 32 bits.
use Rattle.std.specs.Prelude.{◌+◌, ◌<◌, ◌^◌, ⊤}
use Rattle.typed_tree.specs.declared.expression.Place.{Place}
use Rattle.typed_tree.specs.declared.expression.Place.TheVariants.{Cell, Set, Signal}
use Rattle.typed_tree.specs.declared.expression.TExpr.{TExpr, Row_of-TExpr, end_of-TExpr, more_of-TExpr}
use Rattle.typed_tree.specs.declared.expression.TExpr.TheVariants.{Const, Load, Bump, Call', Active, Now}
use Rattle.typed_tree.specs.Forms.{Binary, Both, Bytes, Cond, Convert, Either, Elem, Store, Unary, Update}

abbrev mutual
  -- the cell of each message field in an expression has a number of 32 bits
  pub HasFieldCells : TExpr → Type 0
  HasFieldCells (Const n) = ⊤
  HasFieldCells (Load place) = PlaceHasFieldCells place
  HasFieldCells (Store place e) = PlaceHasFieldCells place × HasFieldCells e
  HasFieldCells (Update op k back place e) = PlaceHasFieldCells place × HasFieldCells e
  HasFieldCells (Bump place k up post) = PlaceHasFieldCells place
  HasFieldCells (Unary op k e) = HasFieldCells e
  HasFieldCells (Binary op k a b) = HasFieldCells a × HasFieldCells b
  HasFieldCells (Both a b) = HasFieldCells a × HasFieldCells b
  HasFieldCells (Either a b) = HasFieldCells a × HasFieldCells b
  HasFieldCells (Cond test a b) = HasFieldCells test × HasFieldCells a × HasFieldCells b
  HasFieldCells (Convert k e) = HasFieldCells e
  HasFieldCells (Call' f shape args) = ArgumentsHaveFieldCells args
  HasFieldCells (Active timer) = ⊤
  HasFieldCells Now = ⊤

  -- the cell of each message field in a place, its index included, has one
  pub PlaceHasFieldCells : Place → Type 0
  PlaceHasFieldCells (Cell cell) = ⊤
  PlaceHasFieldCells (Elem base len index) = HasFieldCells index
  PlaceHasFieldCells (Set at field) = at + field < 2 ^ 32
  PlaceHasFieldCells (Bytes at k index) = HasFieldCells index
  PlaceHasFieldCells (Signal at l) = ⊤

  -- the cell of each message field in the arguments of a call has one
  pub ArgumentsHaveFieldCells : {m : _} → Row_of-TExpr m → Type 0
  ArgumentsHaveFieldCells end_of-TExpr = ⊤
  ArgumentsHaveFieldCells (more_of-TExpr e rest) = HasFieldCells e × ArgumentsHaveFieldCells rest
