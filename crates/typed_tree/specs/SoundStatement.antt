-- What the compiler asks of the statements of a typed program.
use Rattle.std.specs.Prelude.{◌≡◌, ◌≢◌, ℕ, ◌<◌, ◌^◌, Bool, true, false, IsTrue, List, length, slice_get, flat_map, Option, Some, None, IfSome, IsSomeAnd, All, AllPairs, ℤ, ⊤}
use Rattle.std.specs.List.{AllByRecursion}
use Rattle.int_kinds.specs.Kind.{IsNumber}
use Rattle.write_format.specs.Line.{numbers_taken}
use Rattle.message_cells.specs.Message.{IsMessage}
use Rattle.typed_tree.specs.declared.expression.TExpr.{TExpr}
use Rattle.typed_tree.specs.declared.statement.TStmt.{TStmt, Row_of-TStmt, end_of-TStmt, more_of-TStmt, items-the_row-TStmt}
use Rattle.typed_tree.specs.declared.statement.TStmt.TheVariants.{Empty, Block', If', Switch', Break, Continue, Return, Eval, Write, Send, Copy, Halt, Set, Cancel}
use Rattle.typed_tree.specs.declared.statement.TStmt.TheBlock.{Held-TStmt-If-1, Row_of-TArm, end_of-TArm, more_of-TArm, Row_of-TGroup, end_of-TGroup, more_of-TGroup, items-the_row-TArm}
use Rattle.typed_tree.specs.declared.program.Typed.{Typed}
use Rattle.typed_tree.specs.Forms.{Do, For, NoPart, Part, While}
use Rattle.typed_tree.specs.Statement.{labels_of}
use Rattle.typed_tree.specs.SoundExpression.{IsSoundAlone, IsSoundExpr}

-- what a statement stands in: a procedure with its number, which gives a number or not; a loop or a `switch`,
-- so that a `break` may stand here; a loop, so that a `continue` may
pub record Around : Type 0 where
  pub number : ℕ
  pub gives : Bool
  pub breakable : Bool
  pub continuable : Bool

-- what the body of a loop stands in
abbrev pub in_loop : Around → Around
in_loop around = record around { breakable = true; continuable = true }

-- what the groups of a `switch` stand in
abbrev pub in_switch : Around → Around
in_switch around = record around { breakable = true }

-- all that a statement names itself exists
abbrev pub StmtNamesWhatExists : Typed → TStmt → Type 0
StmtNamesWhatExists typed (Write format args) = format < length typed.formats
StmtNamesWhatExists typed (Send at) = IsMessage typed.cells at
StmtNamesWhatExists typed (Copy to from) = IsMessage typed.cells to × IsMessage typed.cells from
StmtNamesWhatExists typed (Set timer cyclic e) = timer < length typed.timers
StmtNamesWhatExists typed (Cancel timer) = timer < length typed.timers
StmtNamesWhatExists typed _ = ⊤

-- all labels of groups
abbrev pub all_labels : {m : _} → Row_of-TGroup m → List (Option ℤ)
all_labels groups = flat_map (λ labels. labels) (labels_of groups)

-- the labels of a `switch` differ, and one of them at most is `default`
abbrev pub HasDifferentLabels : TStmt → Type 0
HasDifferentLabels (Switch' on shape groups) = AllPairs (λ a b. a ≢ b) (all_labels groups)
HasDifferentLabels _ = ⊤

-- the labels of a `switch` lie from -2^63 to 2^64 - 1
abbrev pub HasLabelsInRange : TStmt → Type 0
HasLabelsInRange (Switch' on shape groups) = All (λ label. IfSome label IsNumber) (all_labels groups)
HasLabelsInRange _ = ⊤

-- a statement that may be the first or the third part of a `for`
abbrev pub IsPlainStmt : TStmt → Type 0
IsPlainStmt (Eval e) = ⊤
IsPlainStmt (Write format args) = ⊤
IsPlainStmt (Send at) = ⊤
IsPlainStmt (Copy to from) = ⊤
IsPlainStmt Halt = ⊤
IsPlainStmt (Set timer cyclic e) = ⊤
IsPlainStmt (Cancel timer) = ⊤
IsPlainStmt _ = ⊥

-- a part that may be missing is such a statement
abbrev pub IsPlainPart : Held-TStmt-If-1 → Type 0
IsPlainPart NoPart = ⊤
IsPlainPart (Part part) = IsPlainStmt part

-- the first and the third part of a `for` are such statements
abbrev pub HasPlainParts : TStmt → Type 0
HasPlainParts (For init test step body) = IsPlainPart init × IsPlainPart step
HasPlainParts _ = ⊤

-- a `return` has a value exactly where its procedure gives a number
abbrev pub ReturnsWhatIsGiven : Bool → TStmt → Type 0
ReturnsWhatIsGiven gives (Return None) = gives ≡ false
ReturnsWhatIsGiven gives (Return (Some e)) = IsTrue gives
ReturnsWhatIsGiven gives _ = ⊤

-- a `break` stands in a loop or a `switch`, and a `continue` in a loop
abbrev pub LeavesWhatIsAround : Around → TStmt → Type 0
LeavesWhatIsAround around Break = IsTrue around.breakable
LeavesWhatIsAround around Continue = IsTrue around.continuable
LeavesWhatIsAround around _ = ⊤

-- a line has as many numbers as its format takes
abbrev pub WritesWhatIsTaken : Typed → TStmt → Type 0
WritesWhatIsTaken typed (Write format args) =
    IsSomeAnd (slice_get typed.formats format) (λ format. length args ≡ numbers_taken format)
WritesWhatIsTaken typed _ = ⊤

-- the lists of a statement itself have fewer than 2^32 items
abbrev pub HasShortLists : TStmt → Type 0
HasShortLists (Block' shape all) = length (items-the_row-TStmt _ all) < 2 ^ 32
HasShortLists (If' shape arms other) = length (items-the_row-TArm _ arms) < 2 ^ 32
HasShortLists (Switch' on shape groups) =
    (length (labels_of groups) < 2 ^ 32) × All (λ labels. length labels < 2 ^ 32) (labels_of groups)
HasShortLists (Write format args) = length args < 2 ^ 32
HasShortLists _ = ⊤

-- what is asked of a statement itself
pub record IsSoundStmtNode (typed : Typed) (around : Around) (s : TStmt) : Type 0 where
  pub names_exist : StmtNamesWhatExists typed s
  pub labels_differ : HasDifferentLabels s
  pub labels_in_range : HasLabelsInRange s
  pub plain_parts : HasPlainParts s
  pub returns : ReturnsWhatIsGiven around.gives s
  pub leaves : LeavesWhatIsAround around s
  pub writes : WritesWhatIsTaken typed s
  pub short_lists : HasShortLists s

-- an expression that may be missing
abbrev pub IsSoundOption : Typed → ℕ → Option TExpr → Type 0
IsSoundOption typed number value = IfSome value (IsSoundExpr typed number)

abbrev mutual
  -- a statement is sound itself, and so is all in it
  pub IsSoundStmt : Typed → Around → TStmt → Type 0
  IsSoundStmt typed around Empty = ⊤
  IsSoundStmt typed around (Block' shape all) =
      IsSoundStmtNode typed around (Block' shape all) × AreSoundStmts typed around all
  IsSoundStmt typed around (If' shape arms other) =
      IsSoundStmtNode typed around (If' shape arms other) ×
      AreSoundArms typed around arms × IsSoundPart typed around other
  IsSoundStmt typed around (While test body) =
      IsSoundExpr typed around.number test × IsSoundStmt typed (in_loop around) body
  IsSoundStmt typed around (Do body test) =
      IsSoundStmt typed (in_loop around) body × IsSoundExpr typed around.number test
  IsSoundStmt typed around (For init test step body) =
      IsSoundStmtNode typed around (For init test step body) ×
      IsSoundPart typed around init × IsSoundOption typed around.number test ×
      IsSoundPart typed around step × IsSoundStmt typed (in_loop around) body
  IsSoundStmt typed around (Switch' on shape groups) =
      IsSoundStmtNode typed around (Switch' on shape groups) ×
      IsSoundExpr typed around.number on × AreSoundGroups typed (in_switch around) groups
  IsSoundStmt typed around Break = IsSoundStmtNode typed around Break
  IsSoundStmt typed around Continue = IsSoundStmtNode typed around Continue
  IsSoundStmt typed around (Return value) =
      IsSoundStmtNode typed around (Return value) × IsSoundOption typed around.number value
  IsSoundStmt typed around (Eval e) = IsSoundAlone typed around.number e
  IsSoundStmt typed around (Write format args) =
      IsSoundStmtNode typed around (Write format args) × AllByRecursion (IsSoundExpr typed around.number) args
  IsSoundStmt typed around (Send at) = IsSoundStmtNode typed around (Send at)
  IsSoundStmt typed around (Copy to from) = IsSoundStmtNode typed around (Copy to from)
  IsSoundStmt typed around Halt = ⊤
  IsSoundStmt typed around (Set timer cyclic e) =
      IsSoundStmtNode typed around (Set timer cyclic e) × IsSoundExpr typed around.number e
  IsSoundStmt typed around (Cancel timer) = IsSoundStmtNode typed around (Cancel timer)

  -- statements in a row
  pub AreSoundStmts : Typed → Around → {m : _} → Row_of-TStmt m → Type 0
  AreSoundStmts typed around end_of-TStmt = ⊤
  AreSoundStmts typed around (more_of-TStmt s rest) =
      IsSoundStmt typed around s × AreSoundStmts typed around rest

  -- the arms of an `if`
  pub AreSoundArms : Typed → Around → {m : _} → Row_of-TArm m → Type 0
  AreSoundArms typed around end_of-TArm = ⊤
  AreSoundArms typed around (more_of-TArm test body rest) =
      IsSoundExpr typed around.number test × IsSoundStmt typed around body × AreSoundArms typed around rest

  -- a part that may be missing
  pub IsSoundPart : Typed → Around → Held-TStmt-If-1 → Type 0
  IsSoundPart typed around NoPart = ⊤
  IsSoundPart typed around (Part part) = IsSoundStmt typed around part

  -- the groups of a `switch`, each of fewer than 2^32 statements
  pub AreSoundGroups : Typed → Around → {m : _} → Row_of-TGroup m → Type 0
  AreSoundGroups typed around end_of-TGroup = ⊤
  AreSoundGroups typed around (more_of-TGroup labels shape body rest) =
      (length (items-the_row-TStmt _ body) < 2 ^ 32) ×
      AreSoundStmts typed around body × AreSoundGroups typed around rest
