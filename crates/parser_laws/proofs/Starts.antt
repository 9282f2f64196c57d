-- With which tokens each part begins.
use Rattle.std.proofs.Common.{◌≡◌, ℕ, suc, ◌<◌, Bool, true, false, not, List, [], ◌∷◌, length, Option, Some, None, is_some, refl, arith}
use Rattle.int_kinds.specs.declared.kinds.Kind.{Kind}
use Rattle.int_kinds.specs.declared.kinds.Kind.TheVariants as kind
use Rattle.int_kinds.specs.declared.operators.UnOp.{UnOp}
use Rattle.int_kinds.specs.declared.operators.UnOp.TheVariants as un
use Rattle.capl_lexer.specs.declared.token.Tok.{Tok}
use Rattle.capl_lexer.specs.declared.token.Tok.TheVariants as tok
use Rattle.capl_lexer.specs.declared.token.Word.TheVariants as word
use Rattle.capl_lexer.specs.declared.token.Sign.TheVariants as sign
use Rattle.capl_tree.specs.declared.expr.Expr.{Expr}
use Rattle.capl_tree.specs.declared.expr.Expr.TheVariants as expr
use Rattle.capl_tree.specs.declared.declaration.Decl.{Decl}
use Rattle.capl_tree.specs.declared.declaration.DeclType.{DeclType}
use Rattle.capl_tree.specs.declared.declaration.DeclType.TheVariants as type
use Rattle.capl_tree.specs.declared.statement.Stmt.{Stmt}
use Rattle.capl_tree.specs.declared.statement.Stmt.TheBlock.{Row_of-Arm, end_of-Arm, more_of-Arm, Held-Stmt-If-1}
use Rattle.capl_tree.specs.declared.statement.Stmt.TheVariants as stmt
use Rattle.capl_tree.specs.Forms as form
use Rattle.capl_tree.specs.Grammar.{AreArms, IsBodyPart, IsStatement}
use Rattle.capl_tree.specs.Binding.{kind_word}
use Rattle.capl_tree.specs.Spelling.{expression, declared_type, declaration}
use Rattle.capl_tree.specs.FileSpelling.{statement, first_arm}
use Rattle.expr_parser.specs.Operators.{kind_at}
use Rattle.expr_parser.specs.Reading.{Read, begins, begins_word}
use Rattle.parser_laws.specs.Statement.{Parts, begins_declaration, begins_label, ends_body, evaluation, jump, repeat, statement_by}

-- an expression may begin so
abbrev pub starts_value : List Tok → Bool
starts_value (tok.Name text ∷ ts) = true
starts_value (tok.Num ext value ∷ ts) = true
starts_value (tok.Char value ∷ ts) = true
starts_value (tok.Str text ∷ ts) = true
starts_value (tok.Word word.This ∷ ts) = true
starts_value (tok.Sign sign.OpenParen ∷ ts) = true
starts_value (tok.Sign sign.Minus ∷ ts) = true
starts_value (tok.Sign sign.Plus ∷ ts) = true
starts_value (tok.Sign sign.Bang ∷ ts) = true
starts_value (tok.Sign sign.Tilde ∷ ts) = true
starts_value (tok.Sign sign.PlusPlus ∷ ts) = true
starts_value (tok.Sign sign.MinusMinus ∷ ts) = true
starts_value _ = false

-- each expression does
pub value_starts : (e : Expr) (ts : List Tok) → starts_value (expression e ts) ≡ true
value_starts (expr.Num value ext at) ts = refl
value_starts (expr.Char value at) ts = refl
value_starts (expr.Str text at) ts = refl
value_starts (expr.This at) ts = refl
value_starts (expr.Name name at) ts = refl
value_starts (form.Paren inner at) ts = refl
value_starts (expr.Call' name shape args at) ts = refl
value_starts (form.Index base index at) ts = value_starts base _
value_starts (form.Member base field at) ts = value_starts base _
value_starts (form.Cast kind inner at) ts = refl
value_starts (form.Unary un.Minus inner at) ts = refl
value_starts (form.Unary un.Plus inner at) ts = refl
value_starts (form.Unary un.Not inner at) ts = refl
value_starts (form.Unary un.Inv inner at) ts = refl
value_starts (form.Unary un.Up inner at) ts = refl
value_starts (form.Unary un.Down inner at) ts = refl
value_starts (form.Post up inner at) ts = value_starts inner _
value_starts (form.Binary op left right at) ts = value_starts left _
value_starts (form.Cond test one other at) ts = value_starts test _
value_starts (form.Assign op left right at) ts = value_starts left _

-- a declaration begins so
kind_declares : (kind : Kind) (ts : List Tok) → begins_declaration (tok.Word (kind_word kind) ∷ ts) ≡ true
kind_declares kind.Byte ts = refl
kind_declares kind.Word ts = refl
kind_declares kind.Dword ts = refl
kind_declares kind.Qword ts = refl
kind_declares kind.Int ts = refl
kind_declares kind.Long ts = refl
kind_declares kind.Int64 ts = refl
kind_declares kind.Char ts = refl

type_declares : (what : DeclType) (ts : List Tok) → begins_declaration (declared_type what ts) ≡ true
type_declares (type.Number kind true) ts = refl
type_declares (type.Number kind false) ts = kind_declares kind ts
type_declares type.Any ts = refl
type_declares (type.ById value ext at) ts = refl
type_declares (type.ByName name at) ts = refl
type_declares type.Seconds ts = refl
type_declares type.Millis ts = refl

-- so does each
pub declaration_declares : (declared : Decl) (ts : List Tok) → begins_declaration (declaration declared ts) ≡ true
declaration_declares declared ts = type_declares declared.what _

-- neither `else` nor a label nor a closing brace begins
abbrev pub starts_part : List Tok → Bool
starts_part [] = false
starts_part (tok.Word word.Else ∷ ts) = false
starts_part (tok.Word word.Case ∷ ts) = false
starts_part (tok.Word word.Default ∷ ts) = false
starts_part (tok.Sign sign.CloseBrace ∷ ts) = false
starts_part _ = true

-- such tokens do not begin with `else`
pub no_else : (ts : List Tok) → starts_part ts ≡ true → begins_word word.Else ts ≡ false
no_else [] starts = refl
no_else (tok.Word word.Else ∷ ts) starts = absurd cc
no_else (tok.Word _ ∷ ts) starts = refl
no_else (_ ∷ ts) starts = refl

-- nor do they end a body
pub no_end : (ts : List Tok) → starts_part ts ≡ true → ends_body ts ≡ false
no_end [] starts = absurd cc
no_end (tok.Word word.Case ∷ ts) starts = absurd cc
no_end (tok.Word word.Default ∷ ts) starts = absurd cc
no_end (tok.Word _ ∷ ts) starts = refl
no_end (tok.Sign sign.CloseBrace ∷ ts) starts = absurd cc
no_end (tok.Sign _ ∷ ts) starts = refl
no_end (_ ∷ ts) starts = refl

-- nor begin with a label
pub no_label : (ts : List Tok) → starts_part ts ≡ true → begins_label ts ≡ false
no_label [] starts = absurd cc
no_label (tok.Word word.Case ∷ ts) starts = absurd cc
no_label (tok.Word word.Default ∷ ts) starts = absurd cc
no_label (tok.Word _ ∷ ts) starts = refl
no_label (_ ∷ ts) starts = refl

-- there is one
pub some_token : (ts : List Tok) → starts_part ts ≡ true → 0 < length ts
some_token [] starts = absurd cc
some_token (t ∷ ts) starts = omega arith

value_starts_part : (ts : List Tok) → starts_value ts ≡ true → starts_part ts ≡ true
value_starts_part [] starts = absurd cc
value_starts_part (tok.Word word.This ∷ ts) starts = refl
value_starts_part (tok.Word _ ∷ ts) starts = absurd cc
value_starts_part (tok.Sign sign.CloseBrace ∷ ts) starts = absurd cc
value_starts_part (tok.Sign _ ∷ ts) starts = refl
value_starts_part (_ ∷ ts) starts = refl

declaration_starts_part : (ts : List Tok) → begins_declaration ts ≡ true → starts_part ts ≡ true
declaration_starts_part [] starts = absurd cc
declaration_starts_part (tok.Word word.Else ∷ ts) starts = absurd cc
declaration_starts_part (tok.Word word.Case ∷ ts) starts = absurd cc
declaration_starts_part (tok.Word word.Default ∷ ts) starts = absurd cc
declaration_starts_part (tok.Word _ ∷ ts) starts = refl
declaration_starts_part (tok.Sign _ ∷ ts) starts = absurd cc
declaration_starts_part (_ ∷ ts) starts = refl

-- what an expression may begin with begins no declaration
value_no_declaration : (ts : List Tok) → starts_value ts ≡ true → begins_declaration ts ≡ false
value_no_declaration [] starts = absurd cc
value_no_declaration (tok.Word word.This ∷ ts) starts = refl
value_no_declaration (tok.Word _ ∷ ts) starts = absurd cc
value_no_declaration (_ ∷ ts) starts = refl

-- and no other statement than an expression
pub only_evaluation : (parts : Parts) (inner : List Tok → Read Stmt) (ts : List Tok) → starts_value ts ≡ true
    → statement_by parts inner ts ≡ evaluation parts ts
unfolding statement_by repeat jump
only_evaluation parts inner [] starts = absurd cc
only_evaluation parts inner (tok.Name text ∷ ts) starts = refl
only_evaluation parts inner (tok.Num ext value ∷ ts) starts = refl
only_evaluation parts inner (tok.Char value ∷ ts) starts = refl
only_evaluation parts inner (tok.Str text ∷ ts) starts = refl
only_evaluation parts inner (tok.Word word.This ∷ ts) starts = refl
only_evaluation parts inner (tok.Word _ ∷ ts) starts = absurd cc
only_evaluation parts inner (tok.Sign sign.Semi ∷ ts) starts = absurd cc
only_evaluation parts inner (tok.Sign sign.OpenBrace ∷ ts) starts = absurd cc
only_evaluation parts inner (tok.Sign _ ∷ ts) starts = refl
only_evaluation parts inner (_ ∷ ts) starts = absurd cc

-- arms begin with `if`
arms_start : {m : _} (row : Row_of-Arm m) (other : Held-Stmt-If-1) (ts : List Tok) → AreArms row other → starts_part (first_arm row ts) ≡ true
arms_start end_of-Arm other ts well = absurd well
arms_start (more_of-Arm test body others) other ts well = refl

arms_no_declaration : {m : _} (row : Row_of-Arm m) (other : Held-Stmt-If-1) (ts : List Tok) → AreArms row other → begins_declaration (first_arm row ts) ≡ false
arms_no_declaration end_of-Arm other ts well = absurd well
arms_no_declaration (more_of-Arm test body others) other ts well = refl

-- a statement or a declaration begins with a token of its own
pub part_starts : (s : Stmt) (ts : List Tok) → IsBodyPart s → starts_part (statement s ts) ≡ true
part_starts stmt.Empty ts well = refl
part_starts (stmt.Block' shape body) ts well = refl
part_starts (stmt.Decl declared) ts well = declaration_starts_part _ (declaration_declares declared ts)
part_starts (stmt.Expr value) ts well = value_starts_part _ (value_starts value _)
part_starts (stmt.If' shape arms other) ts well = arms_start arms other _ well.0
part_starts (form.While test body) ts well = refl
part_starts (form.Do body test) ts well = refl
part_starts (form.For init test step body) ts well = refl
part_starts (stmt.Switch' on shape groups) ts well = refl
part_starts (stmt.Break at) ts well = refl
part_starts (stmt.Continue at) ts well = refl
part_starts (stmt.Return value at) ts well = refl

-- a statement begins no declaration
pub no_declaration : (s : Stmt) (ts : List Tok) → IsStatement s → begins_declaration (statement s ts) ≡ false
no_declaration stmt.Empty ts well = refl
no_declaration (stmt.Block' shape body) ts well = refl
no_declaration (stmt.Decl declared) ts well = absurd well
no_declaration (stmt.Expr value) ts well = value_no_declaration _ (value_starts value _)
no_declaration (stmt.If' shape arms other) ts well = arms_no_declaration arms other _ well.0
no_declaration (form.While test body) ts well = refl
no_declaration (form.Do body test) ts well = refl
no_declaration (form.For init test step body) ts well = refl
no_declaration (stmt.Switch' on shape groups) ts well = refl
no_declaration (stmt.Break at) ts well = refl
no_declaration (stmt.Continue at) ts well = refl
no_declaration (stmt.Return value at) ts well = refl
