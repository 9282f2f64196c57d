-- A well formed and placed expression is read from its spelling.
--
-- By induction on the tree. What is read from a spelling is the tree, and then as many operators behind it as
-- bind strongly enough: so a tree whose left operand is a tree of the same kind needs no list of its operands.
use Rattle.std.proofs.Common.{◌≡◌, ℕ, zero, suc, ◌+◌, ◌-◌, ◌≤◌, ◌<◌, true, List, ◌∷◌, length, Option, Some, None, refl, ap, ◌∙◌, arith}
use borrow.Author.Tests.{lt-ltb, le-ltb}
use Rattle.int_kinds.specs.declared.operators.UnOp.{UnOp}
use Rattle.int_kinds.specs.declared.operators.UnOp.TheVariants as un
use Rattle.capl_lexer.specs.declared.token.Tok.{Tok}
use Rattle.capl_lexer.specs.declared.token.Tok.TheVariants as tok
use Rattle.capl_lexer.specs.declared.token.Word.TheVariants as word
use Rattle.capl_lexer.specs.declared.token.Sign.TheVariants as sign
use Rattle.capl_tree.specs.declared.expr.Expr.{Expr, Row_of-Expr, end_of-Expr, more_of-Expr, items-the_row-Expr}
use Rattle.capl_tree.specs.declared.expr.Expr.TheVariants as expr
use Rattle.capl_tree.specs.declared.expr.Field.{Field}
use Rattle.capl_tree.specs.declared.expr.Field.TheVariants.{Named}
use Rattle.capl_tree.specs.Forms as form
use Rattle.capl_tree.specs.Binding.{level, operator_level, kind_word, prefix_sign, postfix_sign, operator_sign, assignment_sign}
use Rattle.capl_tree.specs.Grammar.{IsExpression, IsField, AreExpressions}
use Rattle.capl_tree.specs.Place.{expression_place}
use Rattle.capl_tree.specs.Spelling as spelled
use Rattle.capl_tree.specs.Spelling.{further_arguments, separated, further}
use Rattle.capl_tree.specs.Placed.{IsPlaced, IsFieldPlaced, ArePlaced}
use Rattle.expr_parser.specs.declared.operator.Operator.{Operator}
use Rattle.expr_parser.specs.declared.operator.Operator.TheVariants as behind
use Rattle.expr_parser.specs.Operators.{operator_at, binding, binding_of}
use Rattle.expr_parser.specs.Reading.{and_then, behind, after}
use Rattle.expr_parser.specs.Expression as read
use Rattle.expr_parser.specs.Expression.{Reader}
use Rattle.expr_parser.proofs.Lists.{EachRead, items_complete}
use Rattle.expr_parser.proofs.Rows.{call_form}
use Rattle.expr_parser.proofs.Starts.{operator_found, assignment_found, postfix_found, kind_found, operator_bounds, starts, spelled_starts, starts_no_kind, starts_no_other}

-- the strongest operator that may stand behind an expression and does not go on with it
abbrev pub reach : Expr → ℕ
reach (form.Assign of left right at) = 0
reach (form.Cond test one other at) = 1
reach (form.Binary of left right at) = operator_level of
reach (form.Unary of inner at) = 13
reach (form.Cast of inner at) = 13
reach (expr.Name name at) = 14
reach _ = 15

-- how many tokens an expression has
abbrev mutual
  -- an expression
  pub size : Expr → ℕ
  size (form.Paren inner at) = size inner + 2
  size (expr.Call' name shape args at) = sizes args + 3
  size (form.Index base index at) = size base + size index + 2
  size (form.Member base field at) = size base + field_size field + 1
  size (form.Cast of inner at) = size inner + 3
  size (form.Unary of inner at) = size inner + 1
  size (form.Post up inner at) = size inner + 1
  size (form.Binary of left right at) = size left + size right + 1
  size (form.Cond test one other at) = size test + size one + size other + 2
  size (form.Assign of left right at) = size left + size right + 1
  size (expr.Num value ext at) = 1
  size (expr.Char value at) = 1
  size (expr.Str text at) = 1
  size (expr.This at) = 1
  size (expr.Name name at) = 1

  -- a field
  pub field_size : Field → ℕ
  field_size (Named name at) = 1
  field_size (form.Bytes of index at) = size index + 3

  -- expressions in a row
  pub sizes : {m : _} → Row_of-Expr m → ℕ
  sizes end_of-Expr = 0
  sizes (more_of-Expr first others) = size first + sizes others

-- a spelling has the tokens of the tree, and the rest
abbrev mutual
  spelled_size : (e : Expr) (rest : List Tok) → size e + length rest ≤ length (spelled.expression e rest)
  spelled_size (expr.Num value ext at) rest = omega arith
  spelled_size (expr.Char value at) rest = omega arith
  spelled_size (expr.Str text at) rest = omega arith
  spelled_size (expr.This at) rest = omega arith
  spelled_size (expr.Name name at) rest = omega arith
  spelled_size (form.Paren inner at) rest = omega (arith, spelled_size inner (tok.Sign sign.CloseParen ∷ rest))
  spelled_size (expr.Call' name shape args at) rest = omega (arith, arguments_size args (tok.Sign sign.CloseParen ∷ rest))
  spelled_size (form.Index base index at) rest =
      omega (
        arith,
        spelled_size base (tok.Sign sign.OpenBracket ∷ spelled.expression index (tok.Sign sign.CloseBracket ∷ rest)),
        spelled_size index (tok.Sign sign.CloseBracket ∷ rest),
      )
  spelled_size (form.Member base field at) rest =
      omega (arith, spelled_size base (tok.Sign sign.Dot ∷ spelled.field field rest), spelled_field_size field rest)
  spelled_size (form.Cast of inner at) rest = omega (arith, spelled_size inner rest)
  spelled_size (form.Unary of inner at) rest = omega (arith, spelled_size inner rest)
  spelled_size (form.Post up inner at) rest = omega (arith, spelled_size inner (tok.Sign (postfix_sign up) ∷ rest))
  spelled_size (form.Binary of left right at) rest =
      omega (arith, spelled_size left (tok.Sign (operator_sign of) ∷ spelled.expression right rest), spelled_size right rest)
  spelled_size (form.Cond test one other at) rest =
      omega (
        arith,
        spelled_size test (tok.Sign sign.Question ∷ spelled.expression one (tok.Sign sign.Colon ∷ spelled.expression other rest)),
        spelled_size one (tok.Sign sign.Colon ∷ spelled.expression other rest),
        spelled_size other rest,
      )
  spelled_size (form.Assign of left right at) rest =
      omega (arith, spelled_size left (tok.Sign (assignment_sign of) ∷ spelled.expression right rest), spelled_size right rest)

  spelled_field_size : (f : Field) (rest : List Tok) → field_size f + length rest ≤ length (spelled.field f rest)
  spelled_field_size (Named name at) rest = omega arith
  spelled_field_size (form.Bytes of index at) rest = omega (arith, spelled_size index (tok.Sign sign.CloseParen ∷ rest))

  arguments_size : {m : _} (row : Row_of-Expr m) (rest : List Tok) → sizes row + length rest ≤ length (spelled.arguments row rest)
  arguments_size end_of-Expr rest = omega arith
  arguments_size (more_of-Expr first others) rest =
      omega (arith, spelled_size first (further_arguments others rest), further_size others rest)

  further_size : {m : _} (row : Row_of-Expr m) (rest : List Tok) → sizes row + length rest ≤ length (further_arguments row rest)
  further_size end_of-Expr rest = omega arith
  further_size (more_of-Expr first others) rest =
      omega (arith, spelled_size first (further_arguments others rest), further_size others rest)

size_some : (e : Expr) → 1 ≤ size e
size_some (expr.Num value ext at) = omega arith
size_some (expr.Char value at) = omega arith
size_some (expr.Str text at) = omega arith
size_some (expr.This at) = omega arith
size_some (expr.Name name at) = omega arith
size_some (form.Paren inner at) = omega arith
size_some (expr.Call' name shape args at) = omega arith
size_some (form.Index base index at) = omega arith
size_some (form.Member base field at) = omega arith
size_some (form.Cast of inner at) = omega arith
size_some (form.Unary of inner at) = omega arith
size_some (form.Post up inner at) = omega arith
size_some (form.Binary of left right at) = omega arith
size_some (form.Cond test one other at) = omega arith
size_some (form.Assign of left right at) = omega arith

-- an expression has a token
pub longer : (e : Expr) (rest : List Tok) → length rest < length (spelled.expression e rest)
longer e rest = omega (arith, size_some e, spelled_size e rest)

-- the level of an expression is at most one above its reach
level_reach : (e : Expr) → level e ≤ reach e + 1
level_reach (expr.Num value ext at) = omega arith
level_reach (expr.Char value at) = omega arith
level_reach (expr.Str text at) = omega arith
level_reach (expr.This at) = omega arith
level_reach (expr.Name name at) = omega arith
level_reach (form.Paren inner at) = omega arith
level_reach (expr.Call' name shape args at) = omega arith
level_reach (form.Index base index at) = omega arith
level_reach (form.Member base field at) = omega arith
level_reach (form.Cast of inner at) = omega arith
level_reach (form.Unary of inner at) = omega arith
level_reach (form.Post up inner at) = omega arith
level_reach (form.Binary of left right at) = omega arith
level_reach (form.Cond test one other at) = omega arith
level_reach (form.Assign of left right at) = omega arith

-- what may stand to the left of an operator reaches as far
left_reach : (e : Expr) (b : ℕ) → 3 ≤ b → b ≤ 14 → b ≤ level e → b ≤ reach e
left_reach (expr.Num value ext at) b low high above = omega arith
left_reach (expr.Char value at) b low high above = omega arith
left_reach (expr.Str text at) b low high above = omega arith
left_reach (expr.This at) b low high above = omega arith
left_reach (expr.Name name at) b low high above = omega arith
left_reach (form.Paren inner at) b low high above = omega arith
left_reach (expr.Call' name shape args at) b low high above = omega arith
left_reach (form.Index base index at) b low high above = omega arith
left_reach (form.Member base field at) b low high above = omega arith
left_reach (form.Cast of inner at) b low high above = omega arith
left_reach (form.Unary of inner at) b low high above = omega arith
left_reach (form.Post up inner at) b low high above = omega arith
left_reach (form.Binary of left right at) b low high above = omega arith
left_reach (form.Cond test one other at) b low high above = omega arith
left_reach (form.Assign of left right at) b low high above = omega arith

-- every expression binds at least as strongly as an assignment
pub level_least : (e : Expr) → 1 ≤ level e
level_least (expr.Num value ext at) = omega arith
level_least (expr.Char value at) = omega arith
level_least (expr.Str text at) = omega arith
level_least (expr.This at) = omega arith
level_least (expr.Name name at) = omega arith
level_least (form.Paren inner at) = omega arith
level_least (expr.Call' name shape args at) = omega arith
level_least (form.Index base index at) = omega arith
level_least (form.Member base field at) = omega arith
level_least (form.Cast of inner at) = omega arith
level_least (form.Unary of inner at) = omega arith
level_least (form.Post up inner at) = omega arith
level_least (form.Binary of left right at) = omega (arith, operator_bounds of)
level_least (form.Cond test one other at) = omega arith
level_least (form.Assign of left right at) = omega arith

-- no operator behind an operand binds as a prefix operator does
not_prefix : (o : Option Operator) → binding_of o ≤ 13 → binding_of o < 13
not_prefix None low = omega arith
not_prefix (Some (behind.Assign of)) low = omega arith
not_prefix (Some behind.Choice) low = omega arith
not_prefix (Some (behind.Binary of)) low = omega (arith, operator_bounds of)
not_prefix (Some behind.Index) low = absurd (omega arith)
not_prefix (Some behind.Member) low = absurd (omega arith)
not_prefix (Some (behind.Post up)) low = absurd (omega arith)
not_prefix (Some behind.Call) low = absurd (omega arith)

-- the place of an expression is that of its first token
pub place_first : (total : ℕ) (e : Expr) (rest : List Tok) → IsPlaced total e rest → expression_place e + length (spelled.expression e rest) ≡ total
place_first total (expr.Num value ext at) rest placed = placed
place_first total (expr.Char value at) rest placed = placed
place_first total (expr.Str text at) rest placed = placed
place_first total (expr.This at) rest placed = placed
place_first total (expr.Name name at) rest placed = placed
place_first total (form.Paren inner at) rest placed = placed.0
place_first total (expr.Call' name shape args at) rest placed = placed.0
place_first total (form.Index base index at) rest placed = placed.0
place_first total (form.Member base field at) rest placed = placed.0
place_first total (form.Cast of inner at) rest placed = placed.0
place_first total (form.Unary of inner at) rest placed = placed.0
place_first total (form.Post up inner at) rest placed = placed.0
place_first total (form.Binary of left right at) rest placed = placed.0
place_first total (form.Cond test one other at) rest placed = placed.0
place_first total (form.Assign of left right at) rest placed = placed.0

-- an operator that does not bind so strongly ends the climb
stops : (total : ℕ) (inner : Reader) (least n : ℕ) (e : Expr) (ts : List Tok) → binding ts < least → read.climb total inner least n e ts ≡ Some (e, ts)
unfolding read.climb
stops total inner least zero e ts below = refl
stops total inner least (suc n) e ts below = rw (lt-ltb (binding ts) least below) refl

-- another goes on with it
goes_on : (total : ℕ) (inner : Reader) (least n : ℕ) (e : Expr) (ts : List Tok) → least ≤ binding ts
    → read.climb total inner least (suc n) e ts ≡ and_then (read.operated total inner e (operator_at ts) (behind ts)) (λ e rest. read.climb total inner least n e rest)
unfolding read.climb
goes_on total inner least n e ts above = rw (le-ltb (binding ts) least above) refl

-- what is read from the whole is the expression, and then as many operators as bind at this level
record Climbs (total depth least : ℕ) (e : Expr) (rest whole : List Tok) : Type 0 where
  turns : ℕ
  enough : length rest ≤ turns
  same : read.expression total (suc depth) least whole ≡ read.climb total (read.expression total depth) least turns e rest

-- an operand
starts_climb : (total depth least : ℕ) (e : Expr) (rest whole : List Tok)
    → read.operand (read.expression total depth) (total - length whole) whole ≡ Some (e, rest) → Climbs total depth least e rest whole
unfolding read.expression read.climbs
starts_climb total depth least e rest whole operand = record { turns = length rest; enough = omega arith; same = rw operand refl }

-- the expression that one more operator makes
grows_by : (total depth least n : ℕ) (e made : Expr) (ts rest whole : List Tok) → length ts ≤ n
    → read.expression total (suc depth) least whole ≡ read.climb total (read.expression total depth) least n e ts
    → length rest < length ts → least ≤ binding ts
    → read.operated total (read.expression total depth) e (operator_at ts) (behind ts) ≡ Some (made, rest) → Climbs total depth least made rest whole
grows_by total depth least zero e made ts rest whole enough same shorter above operated = absurd (omega arith)
grows_by total depth least (suc n) e made ts rest whole enough same shorter above operated =
    record { turns = n; enough = omega arith; same = same ∙ goes_on total (read.expression total depth) least n e ts above ∙ rw operated refl }

grows : (total depth least : ℕ) (e made : Expr) (ts rest whole : List Tok) → Climbs total depth least e ts whole
    → length rest < length ts → least ≤ binding ts
    → read.operated total (read.expression total depth) e (operator_at ts) (behind ts) ≡ Some (made, rest) → Climbs total depth least made rest whole
grows total depth least e made ts rest whole climbs shorter above operated =
    grows_by total depth least climbs.turns e made ts rest whole climbs.enough climbs.same shorter above operated

-- what is read where the next operator binds less
settles : (total depth least : ℕ) (e : Expr) (rest whole : List Tok) → binding rest < least → Climbs total depth least e rest whole
    → read.expression total (suc depth) least whole ≡ Some (e, rest)
settles total depth least e rest whole below climbs = climbs.same ∙ stops total (read.expression total depth) least climbs.turns e rest below

-- an expression is read from its spelling, and then what stands behind it goes on
abbrev Holds : ℕ → Expr → Type 0
Holds total e = (depth least : ℕ) (rest : List Tok) → least ≤ level e → size e ≤ depth → binding rest ≤ reach e → IsPlaced total e rest
    → Climbs total depth least e rest (spelled.expression e rest)

nested : (total : ℕ) (e : Expr) → Holds total e → (depth least : ℕ) (rest : List Tok) → least ≤ level e → size e < depth → binding rest < least → IsPlaced total e rest
    → read.expression total depth least (spelled.expression e rest) ≡ Some (e, rest)
nested total e holds zero least rest low small below placed = absurd (omega arith)
nested total e holds (suc depth) least rest low small below placed =
    settles total depth least e rest (spelled.expression e rest) below (holds depth least rest low (omega arith) (omega (arith, level_reach e)) placed)

-- a name with no parenthesis behind it
name_alone : (inner : Reader) (at : ℕ) (name : List ℕ) (rest : List Tok) → binding rest ≤ 14 → read.named inner at name rest ≡ Some (expr.Name name at, rest)
unfolding read.named
name_alone inner at name (tok.Sign sign.OpenParen ∷ rest) low = absurd (omega arith)
name_alone inner at name (tok.Sign _ ∷ rest) low = refl
name_alone inner at name _ low = refl

-- an operand with a prefix operator
unary_read : (inner : Reader) (at : ℕ) (of : UnOp) (ts : List Tok) → read.operand inner at (tok.Sign (prefix_sign of) ∷ ts) ≡ read.unary inner at (Some of) ts
unfolding read.operand
unary_read inner at un.Minus ts = refl
unary_read inner at un.Plus ts = refl
unary_read inner at un.Not ts = refl
unary_read inner at un.Inv ts = refl
unary_read inner at un.Up ts = refl
unary_read inner at un.Down ts = refl

-- a row of arguments is spelled as its list
pub row_list : {m : _} (row : Row_of-Expr m) (rest : List Tok) → further_arguments row rest ≡ further spelled.expression (items-the_row-Expr _ row) rest
row_list end_of-Expr rest = refl
row_list (more_of-Expr first others) rest = ap (λ (ts : List Tok). tok.Sign sign.Comma ∷ spelled.expression first ts) (row_list others rest)

-- no operator stands behind an argument
further_binding : {m : _} (row : Row_of-Expr m) (rest : List Tok) → binding rest ≡ 0 → binding (further_arguments row rest) ≡ 0
further_binding end_of-Expr rest ends = ends
further_binding (more_of-Expr first others) rest ends = refl

-- arguments, once each of them is read
arguments_read : (inner : Reader) {m : _} (row : Row_of-Expr m) (rest : List Tok)
    → EachRead (inner 1) spelled.expression (items-the_row-Expr _ row) (tok.Sign sign.CloseParen ∷ rest)
    → read.arguments inner (spelled.arguments row (tok.Sign sign.CloseParen ∷ rest)) ≡ Some (items-the_row-Expr _ row, rest)
unfolding read.arguments after
arguments_read inner end_of-Expr rest each = refl
arguments_read inner (more_of-Expr first others) rest each =
    let close = tok.Sign sign.CloseParen ∷ rest in
    let list = items-the_row-Expr _ others in
    let begin : starts (spelled.expression first (further_arguments others close)) ≡ true = spelled_starts first _ in
    let some = starts_no_other sign.CloseParen (spelled.expression first (further_arguments others close)) refl begin in
    let all = items_complete (inner 1) spelled.expression first list close each longer refl in
    rw (some, row_list others close, all) refl

abbrev mutual
  unfolding read.operand read.named read.enclosed read.unary read.operated read.assign read.choice read.binary read.index read.member read.field read.field_at read.named_field read.bytes after Rattle.capl_tree.specs.declared.expr.Expr.TheBlock.hidden-the_row-Expr-0 denote.Hole.Carrier.hidden

  holds : (total : ℕ) (e : Expr) → IsExpression e → Holds total e
  holds total (expr.Num value ext at) well depth least rest low small follows placed =
      let here : at ≡ total - length (tok.Num ext value ∷ rest) = omega (arith, placed) in
      starts_climb total depth least (expr.Num value ext at) rest _ (rw here refl)
  holds total (expr.Char value at) well depth least rest low small follows placed =
      let here : at ≡ total - length (tok.Char value ∷ rest) = omega (arith, placed) in
      starts_climb total depth least (expr.Char value at) rest _ (rw here refl)
  holds total (expr.Str text at) well depth least rest low small follows placed =
      let here : at ≡ total - length (tok.Str text ∷ rest) = omega (arith, placed) in
      starts_climb total depth least (expr.Str text at) rest _ (rw here refl)
  holds total (expr.This at) well depth least rest low small follows placed =
      let here : at ≡ total - length (tok.Word word.This ∷ rest) = omega (arith, placed) in
      starts_climb total depth least (expr.This at) rest _ (rw here refl)
  holds total (expr.Name name at) well depth least rest low small follows placed =
      let here : at ≡ total - length (tok.Name name ∷ rest) = omega (arith, placed) in
      starts_climb total depth least (expr.Name name at) rest _ (rw here (name_alone (read.expression total depth) _ name rest follows))
  holds total (form.Paren inner at) well depth least rest low small follows placed =
      let close = tok.Sign sign.CloseParen ∷ rest in
      let here : at ≡ total - length (spelled.expression (form.Paren inner at) rest) = omega (arith, placed.0) in
      let no_kind = starts_no_kind (spelled.expression inner close) (spelled_starts inner close) in
      let inside = nested total inner (holds total inner well) depth 1 close (level_least inner) (omega arith) (omega arith) placed.1 in
      starts_climb total depth least (form.Paren inner at) rest _ (rw (here, no_kind, inside) refl)
  holds total (expr.Call' name shape args at) well depth least rest low small follows placed =
      let close = tok.Sign sign.CloseParen ∷ rest in
      let here : at ≡ total - length (spelled.expression (expr.Call' name shape args at) rest) = omega (arith, placed.0) in
      let all = arguments_read (read.expression total depth) args rest (each_argument total args well depth close (omega arith) refl placed.1) in
      starts_climb total depth least (expr.Call' name shape args at) rest _
      (rw all (ap (λ (e : Expr). Some (e, rest)) (rw (← here) (call_form name shape args at))))
  holds total (form.Index base index at) well depth least rest low small follows placed =
      let close = tok.Sign sign.CloseBracket ∷ rest in
      let here : at ≡ expression_place base = omega (arith, placed.0, place_first total base _ placed.1) in
      let inside = nested total index (holds total index well.2) depth 1 close (level_least index) (omega arith) (omega arith) placed.2 in
      grows total depth least base (form.Index base index at) (tok.Sign sign.OpenBracket ∷ spelled.expression index close) rest _
      (holds total base well.0 depth least _ (omega arith) (omega arith) (left_reach base 14 (omega arith) (omega arith) well.1) placed.1)
      (omega (arith, spelled_size index close)) low (rw (inside, here) refl)
  holds total (form.Member base field at) well depth least rest low small follows placed =
      let here : at ≡ expression_place base = omega (arith, placed.0, place_first total base _ placed.1) in
      let inside = field_read total field well.2 depth rest (omega arith) placed.2 in
      grows total depth least base (form.Member base field at) (tok.Sign sign.Dot ∷ spelled.field field rest) rest _
      (holds total base well.0 depth least _ (omega arith) (omega arith) (left_reach base 14 (omega arith) (omega arith) well.1) placed.1)
      (omega (arith, spelled_field_size field rest)) low (rw (inside, here) refl)
  holds total (form.Cast of inner at) well depth least rest low small follows placed =
      let here : at ≡ total - length (spelled.expression (form.Cast of inner at) rest) = omega (arith, placed.0) in
      let inside = nested total inner (holds total inner well.0) depth 13 rest well.1 (omega arith) (not_prefix (operator_at rest) follows) placed.1 in
      starts_climb total depth least (form.Cast of inner at) rest _ (rw (here, kind_found of, inside) refl)
  holds total (form.Unary of inner at) well depth least rest low small follows placed =
      let here : at ≡ total - length (spelled.expression (form.Unary of inner at) rest) = omega (arith, placed.0) in
      let inside = nested total inner (holds total inner well.0) depth 13 rest well.1 (omega arith) (not_prefix (operator_at rest) follows) placed.1 in
      starts_climb total depth least (form.Unary of inner at) rest _ (unary_read (read.expression total depth) _ of _ ∙ rw (here, inside) refl)
  holds total (form.Post up inner at) well depth least rest low small follows placed =
      let here : at ≡ expression_place inner = omega (arith, placed.0, place_first total inner _ placed.1) in
      let found = postfix_found up in
      grows total depth least inner (form.Post up inner at) (tok.Sign (postfix_sign up) ∷ rest) rest _
      (holds total inner well.0 depth least _ (omega arith) (omega arith) (rw found (left_reach inner 14 (omega arith) (omega arith) well.1)) placed.1)
      (omega arith) (rw found low) (rw (found, here) refl)
  holds total (form.Binary of left right at) well depth least rest low small follows placed =
      let here : at ≡ expression_place left = omega (arith, placed.0, place_first total left _ placed.1) in
      let found = operator_found of in
      let bounds = operator_bounds of in
      let inside = nested total right (holds total right well.2) depth (operator_level of + 1) rest (omega arith) (omega arith) (omega arith) placed.2 in
      grows total depth least left (form.Binary of left right at) (tok.Sign (operator_sign of) ∷ spelled.expression right rest) rest _
      (holds total left well.0 depth least _ (omega arith) (omega arith) (rw found (left_reach left (operator_level of) bounds.0 (omega arith) well.1)) placed.1)
      (omega (arith, spelled_size right rest)) (rw found low) (rw (found, inside, here) refl)
  holds total (form.Cond test one other at) well depth least rest low small follows placed =
      let colon = tok.Sign sign.Colon ∷ spelled.expression other rest in
      let here : at ≡ expression_place test = omega (arith, placed.0, place_first total test _ placed.1) in
      let first = nested total one (holds total one well.2) depth 1 colon (level_least one) (omega arith) (omega arith) placed.2 in
      let second = nested total other (holds total other well.3) depth 2 rest well.4 (omega arith) (omega arith) placed.3 in
      grows total depth least test (form.Cond test one other at) (tok.Sign sign.Question ∷ spelled.expression one colon) rest _
      (holds total test well.0 depth least _ (omega arith) (omega arith) (omega (arith, well.1, level_reach test)) placed.1)
      (omega (arith, spelled_size one colon, spelled_size other rest)) low (rw (first, second, here) refl)
  holds total (form.Assign of left right at) well depth least rest low small follows placed =
      let here : at ≡ expression_place left = omega (arith, placed.0, place_first total left _ placed.1) in
      let found = assignment_found of well.0 in
      let inside = nested total right (holds total right well.3) depth 1 rest (level_least right) (omega arith) (omega arith) placed.2 in
      grows total depth least left (form.Assign of left right at) (tok.Sign (assignment_sign of) ∷ spelled.expression right rest) rest _
      (holds total left well.1 depth least _ (omega arith) (omega arith) (rw found (omega (arith, well.2, level_reach left))) placed.1)
      (omega (arith, spelled_size right rest)) (rw found low) (rw (found, inside, here) refl)

  field_read : (total : ℕ) (f : Field) → IsField f → (depth : ℕ) (rest : List Tok) → field_size f < suc depth → IsFieldPlaced total f rest
      → read.field total (read.expression total depth) (spelled.field f rest) ≡ Some (f, rest)
  field_read total (Named name at) well depth rest small placed =
      let here : at ≡ total - length (tok.Name name ∷ rest) = omega (arith, placed) in rw here refl
  field_read total (form.Bytes of index at) well depth rest small placed =
      let close = tok.Sign sign.CloseParen ∷ rest in
      let here : at ≡ total - length (spelled.field (form.Bytes of index at) rest) = omega (arith, placed.0) in
      let inside = nested total index (holds total index well) depth 1 close (level_least index) (omega arith) (omega arith) placed.1 in
      rw (here, kind_found of, inside) refl

  each_argument : (total : ℕ) {m : _} (row : Row_of-Expr m) → AreExpressions row → (depth : ℕ) (rest : List Tok) → sizes row < depth → binding rest ≡ 0 → ArePlaced total row rest
      → EachRead (read.expression total depth 1) spelled.expression (items-the_row-Expr _ row) rest
  each_argument total end_of-Expr well depth rest small ends placed = tt
  each_argument total (more_of-Expr first others) well depth rest small ends placed =
      let one = nested total first (holds total first well.0) depth 1 (further_arguments others rest) (level_least first) (omega arith)
      (omega (arith, further_binding others rest ends)) placed.0 in
      (rw row_list at one, each_argument total others well.1 depth rest (omega arith) ends placed.1)

-- A well formed and placed expression is read from its spelling, where no operator behind it goes on with it.
pub complete : (total : ℕ) (e : Expr) (least depth : ℕ) (rest : List Tok) → IsExpression e → IsPlaced total e rest → least ≤ level e → binding rest < least
    → length (spelled.expression e rest) < depth → read.expression total depth least (spelled.expression e rest) ≡ Some (e, rest)
complete total e least depth rest well placed low below deep =
    nested total e (holds total e well) depth least rest low (omega (arith, spelled_size e rest)) below placed

-- the same of a field
pub field_complete : (total : ℕ) (f : Field) (depth : ℕ) (rest : List Tok) → IsField f → IsFieldPlaced total f rest
    → length (spelled.field f rest) ≤ depth → read.field total (read.expression total depth) (spelled.field f rest) ≡ Some (f, rest)
field_complete total f depth rest well placed deep = field_read total f well depth rest (omega (arith, spelled_field_size f rest)) placed
