-- The cells of message fields in statements.
use Rattle.std.specs.Prelude.{List, Option, IfSome, All, ⊤}
use Rattle.typed_tree.specs.declared.expression.TExpr.{TExpr}
use Rattle.typed_tree.specs.declared.statement.TArm.{TArm}
use Rattle.typed_tree.specs.declared.statement.TGroup.{TGroup}
use Rattle.typed_tree.specs.declared.statement.TStmt.{TStmt, Row_of-TStmt, end_of-TStmt, more_of-TStmt}
use Rattle.typed_tree.specs.declared.statement.TStmt.TheVariants.{Empty, Block', If', Switch', Break, Continue, Return, Eval, Write, Send, Copy, Halt, Set, Cancel}
use Rattle.typed_tree.specs.declared.statement.TStmt.TheBlock.{Held-TStmt-If-1, Row_of-TArm, end_of-TArm, more_of-TArm, Row_of-TGroup, end_of-TGroup, more_of-TGroup}
use Rattle.typed_tree.specs.Forms.{Do, For, NoPart, Part, While}
use Rattle.gen_expr.specs.Fields.{HasFieldCells}

-- the cell of each message field in an expression that may be missing has a number of 32 bits
abbrev pub OptionHasFieldCells : Option TExpr → Type 0
OptionHasFieldCells value = IfSome value HasFieldCells

abbrev mutual
  -- the cell of each message field in a statement has a number of 32 bits
  pub StmtHasFieldCells : TStmt → Type 0
  StmtHasFieldCells Empty = ⊤
  StmtHasFieldCells (Block' shape all) = StmtsHaveFieldCells all
  StmtHasFieldCells (If' shape arms other) = ArmsHaveFieldCells arms × PartHasFieldCells other
  StmtHasFieldCells (While test body) = HasFieldCells test × StmtHasFieldCells body
  StmtHasFieldCells (Do body test) = StmtHasFieldCells body × HasFieldCells test
  StmtHasFieldCells (For init test step body) =
      PartHasFieldCells init × OptionHasFieldCells test × PartHasFieldCells step × StmtHasFieldCells body
  StmtHasFieldCells (Switch' on shape groups) = HasFieldCells on × GroupsHaveFieldCells groups
  StmtHasFieldCells Break = ⊤
  StmtHasFieldCells Continue = ⊤
  StmtHasFieldCells (Return value) = OptionHasFieldCells value
  StmtHasFieldCells (Eval e) = HasFieldCells e
  StmtHasFieldCells (Write format args) = All HasFieldCells args
  StmtHasFieldCells (Send at) = ⊤
  StmtHasFieldCells (Copy to from) = ⊤
  StmtHasFieldCells Halt = ⊤
  StmtHasFieldCells (Set timer cyclic e) = HasFieldCells e
  StmtHasFieldCells (Cancel timer) = ⊤

  -- the cell of each message field in statements in a row has one
  pub StmtsHaveFieldCells : {m : _} → Row_of-TStmt m → Type 0
  StmtsHaveFieldCells end_of-TStmt = ⊤
  StmtsHaveFieldCells (more_of-TStmt s rest) = StmtHasFieldCells s × StmtsHaveFieldCells rest

  -- the cell of each message field in the arms of an `if` has one
  pub ArmsHaveFieldCells : {m : _} → Row_of-TArm m → Type 0
  ArmsHaveFieldCells end_of-TArm = ⊤
  ArmsHaveFieldCells (more_of-TArm test body rest) =
      HasFieldCells test × StmtHasFieldCells body × ArmsHaveFieldCells rest

  -- the cell of each message field in a part that may be missing has one
  pub PartHasFieldCells : Held-TStmt-If-1 → Type 0
  PartHasFieldCells NoPart = ⊤
  PartHasFieldCells (Part part) = StmtHasFieldCells part

  -- the cell of each message field in the groups of a `switch` has one
  pub GroupsHaveFieldCells : {m : _} → Row_of-TGroup m → Type 0
  GroupsHaveFieldCells end_of-TGroup = ⊤
  GroupsHaveFieldCells (more_of-TGroup labels shape body rest) =
      StmtsHaveFieldCells body × GroupsHaveFieldCells rest

-- the cell of each message field in the statements of a body has a number of 32 bits
abbrev pub BodyHasFieldCells : List TStmt → Type 0
BodyHasFieldCells body = All StmtHasFieldCells body

-- the cell of each message field in an arm of an `if` has a number of 32 bits
abbrev pub ArmHasFieldCells : TArm → Type 0
ArmHasFieldCells arm = HasFieldCells arm.test × StmtHasFieldCells arm.body

-- the cell of each message field in a group of a `switch` has a number of 32 bits
abbrev pub GroupHasFieldCells : TGroup → Type 0
GroupHasFieldCells group = BodyHasFieldCells group.body
