-- In a sound program of few cells each field of a message has a cell of 32 bits.
use mathlib.Core.Former.{Count}
use Rattle.std.specs.Prelude.{ℕ, ◌<◌, ◌^◌, List, length, Option, Some, None, All}
use Rattle.std.specs.List.{AllByRecursion}
use Rattle.std.proofs.Common.{arith, get_or}
use Rattle.std.proofs.lemmas.List.Elements.{All-from_recursion, All-weaker}
use Rattle.std.proofs.lemmas.Option.{slice_get-get_or}
use Rattle.message_cells.proofs.MessageLemmas.{message_within}
use Rattle.typed_tree.specs.declared.expression.Place.{Place}
use Rattle.typed_tree.specs.declared.expression.Place.TheVariants.{Cell, Signal}
use Rattle.typed_tree.specs.declared.expression.Place.TheVariants as place
use Rattle.typed_tree.specs.declared.expression.TExpr.{TExpr, Row_of-TExpr, end_of-TExpr, more_of-TExpr}
use Rattle.typed_tree.specs.declared.expression.TExpr.TheVariants.{Const, Load, Bump, Call', Active, Now}
use Rattle.typed_tree.specs.declared.program.TFun.{TFun}
use Rattle.typed_tree.specs.declared.program.THandler.{THandler}
use Rattle.typed_tree.specs.declared.program.Typed.{Typed}
use Rattle.typed_tree.specs.declared.statement.TStmt.{TStmt, Row_of-TStmt, end_of-TStmt, more_of-TStmt}
use Rattle.typed_tree.specs.declared.statement.TStmt.TheVariants.{Empty, Block', If', Switch', Break, Continue, Return, Eval, Write, Send, Copy, Halt, Set, Cancel}
use Rattle.typed_tree.specs.declared.statement.TStmt.TheBlock.{Held-TStmt-If-1, Row_of-TArm, end_of-TArm, more_of-TArm, Row_of-TGroup, end_of-TGroup, more_of-TGroup}
use Rattle.typed_tree.specs.Forms.{Binary, Both, Bytes, Cond, Convert, Do, Either, Elem, For, NoPart, Part, Store, Unary, Update, While}
use Rattle.typed_tree.specs.Sound.{IsSound, in_function, in_handler}
use Rattle.typed_tree.specs.SoundExpression.{AreSoundArguments, HasSoundIndex, IsSoundAlone, IsSoundExpr, PlaceExists}
use Rattle.typed_tree.specs.SoundStatement.{AreSoundArms, AreSoundGroups, AreSoundStmts, Around, IsSoundOption, IsSoundPart, IsSoundStmt, in_loop, in_switch}
use Rattle.gen_expr.specs.Fields.{ArgumentsHaveFieldCells, HasFieldCells, PlaceHasFieldCells}
use Rattle.gen_stmt.specs.Inside.Fields.{ArmsHaveFieldCells, BodyHasFieldCells, GroupsHaveFieldCells, OptionHasFieldCells, PartHasFieldCells, StmtHasFieldCells, StmtsHaveFieldCells}

module _ (typed : Typed) (few : length typed.cells < 2 ^ 32) where
  mutual
    -- a sound expression
    expression_fields : (number : ℕ) (e : TExpr) → IsSoundExpr typed number e → HasFieldCells e
    expression_fields number (Const n) h = tt
    expression_fields number (Load at) h = place_fields number at h.0.names_exist h.1
    expression_fields number (Store at e) h = (place_fields number at h.0.names_exist h.1, expression_fields number e h.2)
    expression_fields number (Update op k back at e) h =
        (place_fields number at h.0.names_exist h.1, expression_fields number e h.2)
    expression_fields number (Bump at k up post) h = place_fields number at h.0.names_exist h.1
    expression_fields number (Unary op k e) h = expression_fields number e h.1
    expression_fields number (Binary op k a b) h = (expression_fields number a h.1, expression_fields number b h.2)
    expression_fields number (Both a b) h = (expression_fields number a h.1, expression_fields number b h.2)
    expression_fields number (Either a b) h = (expression_fields number a h.1, expression_fields number b h.2)
    expression_fields number (Cond test a b) h =
        (expression_fields number test h.1, expression_fields number a h.2, expression_fields number b h.3)
    expression_fields number (Convert k e) h = expression_fields number e h.1
    expression_fields number (Call' f shape args) h = arguments_fields number args h.2
    expression_fields number (Active timer) h = tt
    expression_fields number Now h = tt

    -- a place that exists, with a sound index
    place_fields : (number : ℕ) (at : Place) → PlaceExists typed at → HasSoundIndex typed number at → PlaceHasFieldCells at
    place_fields number (Cell cell) there h = tt
    place_fields number (Elem base len index) there h = expression_fields number index h
    place_fields number (place.Set at field) there h = omega (arith, few, there.0, message_within typed.cells at there.1)
    place_fields number (Bytes at k index) there h = expression_fields number index h
    place_fields number (Signal at l) there h = tt

    -- sound arguments
    arguments_fields : (number : ℕ) {m : Count} (args : Row_of-TExpr m) → AreSoundArguments typed number args → ArgumentsHaveFieldCells args
    arguments_fields number end_of-TExpr h = tt
    arguments_fields number (more_of-TExpr e rest) h = (expression_fields number e h.0, arguments_fields number rest h.1)

  -- an expression that stands alone
  alone_fields : (number : ℕ) (e : TExpr) → IsSoundAlone typed number e → HasFieldCells e
  alone_fields number (Const n) h = tt
  alone_fields number (Load at) h = expression_fields number (Load at) h
  alone_fields number (Store at e) h = expression_fields number (Store at e) h
  alone_fields number (Update op k back at e) h = expression_fields number (Update op k back at e) h
  alone_fields number (Bump at k up post) h = expression_fields number (Bump at k up post) h
  alone_fields number (Unary op k e) h = expression_fields number (Unary op k e) h
  alone_fields number (Binary op k a b) h = expression_fields number (Binary op k a b) h
  alone_fields number (Both a b) h = expression_fields number (Both a b) h
  alone_fields number (Either a b) h = expression_fields number (Either a b) h
  alone_fields number (Cond test a b) h = expression_fields number (Cond test a b) h
  alone_fields number (Convert k e) h = expression_fields number (Convert k e) h
  alone_fields number (Call' f shape args) h = arguments_fields number args h.1
  alone_fields number (Active timer) h = tt
  alone_fields number Now h = tt

  -- an expression that may be missing
  option_fields : (number : ℕ) (value : Option TExpr) → IsSoundOption typed number value → OptionHasFieldCells value
  option_fields number None h = tt
  option_fields number (Some e) h = expression_fields number e h

  -- the numbers of a line
  values_fields : (number : ℕ) (args : List TExpr) → AllByRecursion (IsSoundExpr typed number) args → All HasFieldCells args
  values_fields number args h =
      All-weaker (IsSoundExpr typed number) HasFieldCells (expression_fields number) args
      (All-from_recursion (IsSoundExpr typed number) args h)

  mutual
    -- a sound statement
    pub statement_fields : (around : Around) (s : TStmt) → IsSoundStmt typed around s → StmtHasFieldCells s
    statement_fields around Empty h = tt
    statement_fields around (Block' shape all) h = statements_fields around all h.1
    statement_fields around (If' shape arms other) h = (arms_fields around arms h.1, part_fields around other h.2)
    statement_fields around (While test body) h =
        (expression_fields around.number test h.0, statement_fields (in_loop around) body h.1)
    statement_fields around (Do body test) h =
        (statement_fields (in_loop around) body h.0, expression_fields around.number test h.1)
    statement_fields around (For init test step body) h =
        (part_fields around init h.1, option_fields around.number test h.2, part_fields around step h.3, statement_fields (in_loop around) body h.4)
    statement_fields around (Switch' on shape groups) h =
        (expression_fields around.number on h.1, groups_fields (in_switch around) groups h.2)
    statement_fields around Break h = tt
    statement_fields around Continue h = tt
    statement_fields around (Return value) h = option_fields around.number value h.1
    statement_fields around (Eval e) h = alone_fields around.number e h
    statement_fields around (Write format args) h = values_fields around.number args h.1
    statement_fields around (Send at) h = tt
    statement_fields around (Copy to from) h = tt
    statement_fields around Halt h = tt
    statement_fields around (Set timer cyclic e) h = expression_fields around.number e h.1
    statement_fields around (Cancel timer) h = tt

    -- statements in a row
    statements_fields : (around : Around) {m : Count} (row : Row_of-TStmt m) → AreSoundStmts typed around row → StmtsHaveFieldCells row
    statements_fields around end_of-TStmt h = tt
    statements_fields around (more_of-TStmt s rest) h = (statement_fields around s h.0, statements_fields around rest h.1)

    -- the arms of an `if`
    arms_fields : (around : Around) {m : Count} (row : Row_of-TArm m) → AreSoundArms typed around row → ArmsHaveFieldCells row
    arms_fields around end_of-TArm h = tt
    arms_fields around (more_of-TArm test body rest) h =
        (expression_fields around.number test h.0, statement_fields around body h.1, arms_fields around rest h.2)

    -- a part that may be missing
    part_fields : (around : Around) (part : Held-TStmt-If-1) → IsSoundPart typed around part → PartHasFieldCells part
    part_fields around NoPart h = tt
    part_fields around (Part part) h = statement_fields around part h

    -- the groups of a `switch`
    groups_fields : (around : Around) {m : Count} (row : Row_of-TGroup m) → AreSoundGroups typed around row → GroupsHaveFieldCells row
    groups_fields around end_of-TGroup h = tt
    groups_fields around (more_of-TGroup labels shape body rest) h =
        (statements_fields around body h.1, groups_fields around rest h.2)

  -- the statements of a body
  body_fields : (around : Around) (body : List TStmt) → AllByRecursion (IsSoundStmt typed around) body → BodyHasFieldCells body
  body_fields around body h =
      All-weaker (IsSoundStmt typed around) StmtHasFieldCells (statement_fields around) body
      (All-from_recursion (IsSoundStmt typed around) body h)

-- the functions of a sound program
pub functions_fields : (typed : Typed) → IsSound typed → All (λ (function : TFun). BodyHasFieldCells function.body) typed.functions
functions_fields typed sound = λ number default within.
    let function : TFun = get_or typed.functions number default in
    body_fields typed sound.short.cells (in_function number function) function.body
    (sound.functions number function (slice_get-get_or typed.functions number default within)).statements

-- the event procedures of a sound program
pub handlers_fields : (typed : Typed) → IsSound typed → All (λ (handler : THandler). BodyHasFieldCells handler.body) typed.handlers
handlers_fields typed sound = λ number default within.
    body_fields typed sound.short.cells (in_handler (length typed.functions)) (get_or typed.handlers number default).body
    (sound.handlers number default within).statements
