-- What is read is a well formed and placed expression, and the tokens are its spelling.
--
-- Each operator keeps this of all that was read before it.
use Rattle.std.proofs.Common.{◌≡◌, ℕ, zero, suc, ◌+◌, ◌-◌, ◌≤◌, ◌<◌, Bool, true, false, nat_lt, if◌then◌else◌, List, [], ◌∷◌, length, Option, Some, None, refl, ap, sym, subst, ◌∙◌, arith}
use Rattle.std.proofs.lemmas.Bool.{ltb-true, ltb-false}
use Rattle.int_kinds.specs.declared.kinds.Kind.{Kind}
use Rattle.int_kinds.specs.declared.operators.BinOp.{BinOp}
use Rattle.int_kinds.specs.declared.operators.UnOp.{UnOp}
use Rattle.capl_lexer.specs.declared.token.Tok.{Tok}
use Rattle.capl_lexer.specs.declared.token.Tok.TheVariants as tok
use Rattle.capl_lexer.specs.declared.token.Word.TheVariants as word
use Rattle.capl_lexer.specs.declared.token.Sign.{Sign}
use Rattle.capl_lexer.specs.declared.token.Sign.TheVariants as sign
use Rattle.capl_tree.specs.declared.expr.Expr.{Expr, Row_of-Expr, end_of-Expr, more_of-Expr, items-the_row-Expr, items_hidden-the_row-Expr-1}
use Rattle.capl_tree.specs.declared.expr.Expr.TheVariants as expr
use Rattle.capl_tree.specs.declared.expr.Field.{Field}
use Rattle.capl_tree.specs.declared.expr.Field.TheVariants.{Named, Bytes}
use Rattle.capl_tree.specs.Forms as form
use Rattle.capl_tree.specs.Binding.{level, operator_level, kind_word, prefix_sign, postfix_sign, operator_sign, assignment_sign}
use Rattle.capl_tree.specs.Grammar.{IsExpression, IsField, AreExpressions}
use Rattle.capl_tree.specs.Place.{expression_place}
use Rattle.capl_tree.specs.Spelling as spelled
use Rattle.capl_tree.specs.Spelling.{further_arguments, separated, further}
use Rattle.capl_tree.specs.Placed.{IsPlaced, IsFieldPlaced, ArePlaced, EachBefore}
use Rattle.expr_parser.specs.declared.operator.Operator.{Operator}
use Rattle.expr_parser.specs.declared.operator.Operator.TheVariants as behind
use Rattle.expr_parser.specs.Operators.{operator_at, binding, binding_of, prefix_operator, kind_at}
use Rattle.expr_parser.specs.Reading.{Read, and_then, begins, after, items}
use Rattle.expr_parser.specs.Reading as reading
use Rattle.expr_parser.specs.Expression as read
use Rattle.expr_parser.specs.Expression.{Reader}
use Rattle.expr_parser.specs.Laws.{Reads}
use Rattle.expr_parser.proofs.Steps.{and_then_some, given, moved, begins_next, after_some}
use Rattle.expr_parser.proofs.ListsSound.{IsSoundFor, items_sound}
use Rattle.expr_parser.proofs.Starts.{operator_bounds}
use Rattle.expr_parser.proofs.Back.{behind_sign, operator_next, IsAssignable, assignable, prefix_back, kind_next, binding_most, not_called}
use Rattle.expr_parser.proofs.Complete.{reach, longer, place_first, row_list}

-- a reader gives only what the tokens spell
abbrev pub IsSound : ℕ → Reader → Type 0
IsSound total inner = (least : ℕ) (ts : List Tok) (e : Expr) (rest : List Tok) → 1 ≤ least → least ≤ 13 → length ts ≤ total → inner least ts ≡ Some (e, rest)
    → Reads total least ts e rest

-- an expression stands before the rest
record Stands (total : ℕ) (whole : List Tok) (e : Expr) (rest : List Tok) : Type 0 where
  spelled : whole ≡ spelled.expression e rest
  well : IsExpression e
  placed : IsPlaced total e rest

-- it binds strongly enough, and the next token may go on with it
record Before (total least : ℕ) (whole : List Tok) (e : Expr) (rest : List Tok) : Type 0 where
  stands : Stands total whole e rest
  low : least ≤ level e
  follows : binding rest ≤ reach e

-- the same, and fewer tokens are left
abbrev Made : ℕ → ℕ → List Tok → List Tok → Expr → List Tok → Type 0
Made total least whole tail e rest = Before total least whole e rest × (length rest ≤ length tail)

-- what an operator reaches stands at the level that the operator wants on its left
level_1 : (e : Expr) → 1 ≤ reach e → 2 ≤ level e
level_1 (form.Assign of left right at) above = absurd (omega arith)
level_1 (form.Binary of left right at) above = omega (arith, operator_bounds of)
level_1 (expr.Num value ext at) above = omega arith
level_1 (expr.Char value at) above = omega arith
level_1 (expr.Str text at) above = omega arith
level_1 (expr.This at) above = omega arith
level_1 (expr.Name name at) above = omega arith
level_1 (form.Paren inner at) above = omega arith
level_1 (expr.Call' name shape args at) above = omega arith
level_1 (form.Index base index at) above = omega arith
level_1 (form.Member base field at) above = omega arith
level_1 (form.Cast of inner at) above = omega arith
level_1 (form.Unary of inner at) above = omega arith
level_1 (form.Post up inner at) above = omega arith
level_1 (form.Cond test one other at) above = omega arith

level_2 : (e : Expr) → 2 ≤ reach e → 3 ≤ level e
level_2 (form.Assign of left right at) above = absurd (omega arith)
level_2 (form.Cond test one other at) above = absurd (omega arith)
level_2 (form.Binary of left right at) above = omega (arith, operator_bounds of)
level_2 (expr.Num value ext at) above = omega arith
level_2 (expr.Char value at) above = omega arith
level_2 (expr.Str text at) above = omega arith
level_2 (expr.This at) above = omega arith
level_2 (expr.Name name at) above = omega arith
level_2 (form.Paren inner at) above = omega arith
level_2 (expr.Call' name shape args at) above = omega arith
level_2 (form.Index base index at) above = omega arith
level_2 (form.Member base field at) above = omega arith
level_2 (form.Cast of inner at) above = omega arith
level_2 (form.Unary of inner at) above = omega arith
level_2 (form.Post up inner at) above = omega arith

level_from_3 : (e : Expr) (b : ℕ) → 3 ≤ b → b ≤ 14 → b ≤ reach e → b ≤ level e
level_from_3 (form.Assign of left right at) b low high above = absurd (omega arith)
level_from_3 (form.Cond test one other at) b low high above = absurd (omega arith)
level_from_3 (expr.Num value ext at) b low high above = omega arith
level_from_3 (expr.Char value at) b low high above = omega arith
level_from_3 (expr.Str text at) b low high above = omega arith
level_from_3 (expr.This at) b low high above = omega arith
level_from_3 (expr.Name name at) b low high above = omega arith
level_from_3 (form.Paren inner at) b low high above = omega arith
level_from_3 (expr.Call' name shape args at) b low high above = omega arith
level_from_3 (form.Index base index at) b low high above = omega arith
level_from_3 (form.Member base field at) b low high above = omega arith
level_from_3 (form.Cast of inner at) b low high above = omega arith
level_from_3 (form.Unary of inner at) b low high above = omega arith
level_from_3 (form.Post up inner at) b low high above = omega arith
level_from_3 (form.Binary of left right at) b low high above = omega arith

-- what stands behind an operand and a sign
further_on : (total : ℕ) (whole : List Tok) (left : Expr) (s : Sign) (tail other : List Tok) → tail ≡ other → Stands total whole left (tok.Sign s ∷ tail)
    → Stands total whole left (tok.Sign s ∷ other)
further_on total whole left s tail other is stands = subst (λ ts. Stands total whole left (tok.Sign s ∷ ts)) is stands

-- the tail is shorter than the whole
tail_below : (total : ℕ) (whole : List Tok) (left : Expr) (s : Sign) (tail : List Tok) → Stands total whole left (tok.Sign s ∷ tail) → length whole ≤ total → length tail ≤ total
tail_below total whole left s tail stands below = omega (arith, ap length stands.spelled, longer left (tok.Sign s ∷ tail))

left_over : (ts : List Tok) (e : Expr) (rest : List Tok) → ts ≡ spelled.expression e rest → length rest ≤ length ts
left_over ts e rest is = omega (arith, ap length is, longer e rest)

-- An operator behind an operand.
assigned : (total : ℕ) (inner : Reader) → IsSound total inner → (least : ℕ) (whole : List Tok) (left : Expr) (of : Option BinOp) (tail : List Tok)
    → IsAssignable (Some (behind.Assign of)) → Stands total whole left (tok.Sign (assignment_sign of) ∷ tail)
    → least ≤ 1 → 1 ≤ reach left → length whole ≤ total → (made : Expr) (rest : List Tok)
    → read.operated total inner left (Some (behind.Assign of)) tail ≡ Some (made, rest) → Made total least whole tail made rest
unfolding read.operated read.assign read.index read.member Rattle.capl_tree.specs.declared.expr.Expr.TheBlock.hidden-the_row-Expr-0 denote.Hole.Carrier.hidden
assigned total inner sound least whole left of tail fine stands low above below made rest e =
    let right = and_then_some (inner 1 tail) (λ right rest. Some (expr.Assign of left right (expression_place left), rest)) (made, rest) e in
    let read = sound 1 tail right.0 right.1 (omega arith) (omega arith) (tail_below total whole left _ tail stands below) right.2 in
    let here = further_on total whole left _ tail _ read.spelled stands in
    moved (Made total least whole tail) (expr.Assign of left right.0 (expression_place left)) made right.1 rest right.3 (
      record {
        stands = record {
          spelled = here.spelled;
          well = (fine, here.well, level_1 left above, read.well);
          placed = (place_first total left _ here.placed, here.placed, read.placed);
        };
        low = low;
        follows = omega (arith, read.ends);
      },
      left_over tail right.0 right.1 read.spelled,
    )

chosen : (total : ℕ) (inner : Reader) → IsSound total inner → (least : ℕ) (whole : List Tok) (left : Expr) (tail : List Tok)
    → Stands total whole left (tok.Sign sign.Question ∷ tail)
    → least ≤ 2 → 2 ≤ reach left → length whole ≤ total → (made : Expr) (rest : List Tok)
    → read.choice inner left tail ≡ Some (made, rest) → Made total least whole tail made rest
unfolding read.choice Rattle.capl_tree.specs.declared.expr.Expr.TheBlock.hidden-the_row-Expr-0 denote.Hole.Carrier.hidden
chosen total inner sound least whole left tail stands low above below made rest e =
    let one = and_then_some (inner 1 tail) (λ one rest. and_then (after sign.Colon rest) (λ _ rest. and_then (inner 2 rest) (λ other rest. Some (expr.Cond left one other (expression_place left), rest)))) (made, rest) e in
    let colon = and_then_some (after sign.Colon one.1) (λ _ rest. and_then (inner 2 rest) (λ other rest. Some (expr.Cond left one.0 other (expression_place left), rest))) (made, rest) one.3 in
    let other = and_then_some (inner 2 colon.1) (λ other rest. Some (expr.Cond left one.0 other (expression_place left), rest)) (made, rest) colon.3 in
    let tail_small = tail_below total whole left _ tail stands below in
    let first = sound 1 tail one.0 one.1 (omega arith) (omega arith) tail_small one.2 in
    let at_colon = after_some sign.Colon one.1 colon.0 colon.1 colon.2 in
    let middle = left_over tail one.0 one.1 first.spelled in
    let second = sound 2 colon.1 other.0 other.1 (omega arith) (omega arith) (omega (arith, ap length at_colon)) other.2 in
    let end = left_over colon.1 other.0 other.1 second.spelled in
    let colon_is : one.1 ≡ tok.Sign sign.Colon ∷ spelled.expression other.0 other.1 = at_colon ∙ ap (λ (ts : List Tok). tok.Sign sign.Colon ∷ ts) second.spelled in
    let tail_is : tail ≡ spelled.expression one.0 (tok.Sign sign.Colon ∷ spelled.expression other.0 other.1) = first.spelled ∙ ap (λ (ts : List Tok). spelled.expression one.0 ts) colon_is in
    let here = further_on total whole left _ tail _ tail_is stands in
    moved (Made total least whole tail) (expr.Cond left one.0 other.0 (expression_place left)) made other.1 rest other.3 (
      record {
        stands = record {
          spelled = here.spelled;
          well = (here.well, level_2 left above, first.well, second.well, second.low);
          placed = (place_first total left _ here.placed, here.placed, subst (λ ts. IsPlaced total one.0 ts) colon_is first.placed, second.placed);
        };
        low = low;
        follows = omega (arith, second.ends);
      },
      omega (arith, ap length at_colon),
    )

operated : (total : ℕ) (inner : Reader) → IsSound total inner → (least : ℕ) (whole : List Tok) (left : Expr) (of : BinOp) (tail : List Tok)
    → Stands total whole left (tok.Sign (operator_sign of) ∷ tail)
    → least ≤ operator_level of → operator_level of ≤ reach left → length whole ≤ total → (made : Expr) (rest : List Tok)
    → read.binary inner left of tail ≡ Some (made, rest) → Made total least whole tail made rest
unfolding read.binary Rattle.capl_tree.specs.declared.expr.Expr.TheBlock.hidden-the_row-Expr-0 denote.Hole.Carrier.hidden
operated total inner sound least whole left of tail stands low above below made rest e =
    let bounds = operator_bounds of in
    let right = and_then_some (inner (operator_level of + 1) tail) (λ right rest. Some (expr.Binary of left right (expression_place left), rest)) (made, rest) e in
    let read = sound (operator_level of + 1) tail right.0 right.1 (omega arith) (omega arith) (tail_below total whole left _ tail stands below) right.2 in
    let here = further_on total whole left _ tail _ read.spelled stands in
    moved (Made total least whole tail) (expr.Binary of left right.0 (expression_place left)) made right.1 rest right.3 (
      record {
        stands = record {
          spelled = here.spelled;
          well = (here.well, level_from_3 left (operator_level of) bounds.0 (omega arith) above, read.well, omega (arith, read.low));
          placed = (place_first total left _ here.placed, here.placed, read.placed);
        };
        low = low;
        follows = omega (arith, read.ends);
      },
      left_over tail right.0 right.1 read.spelled,
    )

indexed : (total : ℕ) (inner : Reader) → IsSound total inner → (least : ℕ) (whole : List Tok) (left : Expr) (tail : List Tok)
    → Stands total whole left (tok.Sign sign.OpenBracket ∷ tail)
    → least ≤ 14 → 14 ≤ reach left → length whole ≤ total → (made : Expr) (rest : List Tok)
    → read.operated total inner left (Some behind.Index) tail ≡ Some (made, rest) → Made total least whole tail made rest
unfolding read.operated read.assign read.index read.member Rattle.capl_tree.specs.declared.expr.Expr.TheBlock.hidden-the_row-Expr-0 denote.Hole.Carrier.hidden
indexed total inner sound least whole left tail stands low above below made rest e =
    let index = and_then_some (inner 1 tail) (λ index rest. and_then (after sign.CloseBracket rest) (λ _ rest. Some (expr.Index left index (expression_place left), rest))) (made, rest) e in
    let close = and_then_some (after sign.CloseBracket index.1) (λ _ rest. Some (expr.Index left index.0 (expression_place left), rest)) (made, rest) index.3 in
    let read = sound 1 tail index.0 index.1 (omega arith) (omega arith) (tail_below total whole left _ tail stands below) index.2 in
    let at_close = after_some sign.CloseBracket index.1 close.0 close.1 close.2 in
    let end = left_over tail index.0 index.1 read.spelled in
    let tail_is = read.spelled ∙ ap (λ (ts : List Tok). spelled.expression index.0 ts) at_close in
    let here = further_on total whole left _ tail _ tail_is stands in
    moved (Made total least whole tail) (expr.Index left index.0 (expression_place left)) made close.1 rest close.3 (
      record {
        stands = record {
          spelled = here.spelled;
          well = (here.well, level_from_3 left 14 (omega arith) (omega arith) above, read.well);
          placed = (place_first total left _ here.placed, here.placed, subst (λ ts. IsPlaced total index.0 ts) at_close read.placed);
        };
        low = low;
        follows = binding_most (operator_at close.1);
      },
      omega (arith, ap length at_close),
    )

-- a field
pub record ReadsField (total : ℕ) (ts : List Tok) (f : Field) (rest : List Tok) : Type 0 where
  pub spelled : ts ≡ spelled.field f rest
  pub well : IsField f
  pub placed : IsFieldPlaced total f rest
  pub shorter : length rest ≤ length ts

bytes_read : (total : ℕ) (inner : Reader) → IsSound total inner → (of : Kind) (ts : List Tok) → kind_at ts ≡ Some of → length ts ≤ total → (f : Field) (rest : List Tok)
    → read.bytes inner (total - length ts) of (reading.behind ts) ≡ Some (f, rest) → ReadsField total ts f rest
unfolding read.bytes Rattle.capl_tree.specs.declared.expr.Expr.TheBlock.hidden-the_row-Expr-0 denote.Hole.Carrier.hidden
bytes_read total inner sound of ts is below f rest e =
    let at = total - length ts in
    let tail = reading.behind ts in
    let open_step = and_then_some (after sign.OpenParen tail) (λ _ rest. and_then (inner 1 rest) (λ index rest. and_then (after sign.CloseParen rest) (λ _ rest. Some (Bytes of index at, rest)))) (f, rest) e in
    let index = and_then_some (inner 1 open_step.1) (λ index rest. and_then (after sign.CloseParen rest) (λ _ rest. Some (Bytes of index at, rest))) (f, rest) open_step.3 in
    let close = and_then_some (after sign.CloseParen index.1) (λ _ rest. Some (Bytes of index.0 at, rest)) (f, rest) index.3 in
    let first = kind_next ts of is in
    let at_open = after_some sign.OpenParen tail open_step.0 open_step.1 open_step.2 in
    let read = sound 1 open_step.1 index.0 index.1 (omega arith) (omega arith) (omega (arith, ap length first, ap length at_open)) index.2 in
    let at_close = after_some sign.CloseParen index.1 close.0 close.1 close.2 in
    let end = left_over open_step.1 index.0 index.1 read.spelled in
    let inside : open_step.1 ≡ spelled.expression index.0 (tok.Sign sign.CloseParen ∷ close.1) = read.spelled ∙ ap (λ (ts : List Tok). spelled.expression index.0 ts) at_close in
    let all : ts ≡ spelled.field (form.Bytes of index.0 at) close.1 =
    first ∙ ap (λ (ts : List Tok). tok.Word (kind_word of) ∷ ts) (at_open ∙ ap (λ (ts : List Tok). tok.Sign sign.OpenParen ∷ ts) inside) in
    moved (ReadsField total ts) (Bytes of index.0 at) f close.1 rest close.3
    (record {
      spelled = all;
      well = read.well;
      placed = (omega (arith, ap length all), subst (λ ts. IsPlaced total index.0 ts) at_close read.placed);
      shorter = omega (arith, ap length first, ap length at_open, ap length at_close);
    })

name_read : (total : ℕ) (ts : List Tok) → length ts ≤ total → (f : Field) (rest : List Tok) → read.named_field (total - length ts) ts ≡ Some (f, rest) → ReadsField total ts f rest
unfolding read.named_field
name_read total (tok.Name name ∷ ts) below f rest e =
    moved (ReadsField total (tok.Name name ∷ ts)) (Named name (total - length (tok.Name name ∷ ts))) f ts rest e
    (record { spelled = refl; well = tt; placed = omega arith; shorter = omega arith })
name_read total _ below f rest e = absurd cc

field_read : (total : ℕ) (inner : Reader) → IsSound total inner → (of : Option Kind) (ts : List Tok) → kind_at ts ≡ of → length ts ≤ total → (f : Field) (rest : List Tok)
    → read.field_at inner (total - length ts) of ts ≡ Some (f, rest) → ReadsField total ts f rest
unfolding read.field_at
field_read total inner sound None ts is below f rest e = name_read total ts below f rest e
field_read total inner sound (Some of) ts is below f rest e = bytes_read total inner sound of ts is below f rest e

-- What is read as a field is one, and the tokens are its spelling.
pub field_sound : (total : ℕ) (inner : Reader) → IsSound total inner → (ts : List Tok) → length ts ≤ total → (f : Field) (rest : List Tok)
    → read.field total inner ts ≡ Some (f, rest) → ReadsField total ts f rest
unfolding read.field
field_sound total inner sound ts below f rest e = field_read total inner sound (kind_at ts) ts refl below f rest e

member : (total : ℕ) (inner : Reader) → IsSound total inner → (least : ℕ) (whole : List Tok) (left : Expr) (tail : List Tok)
    → Stands total whole left (tok.Sign sign.Dot ∷ tail)
    → least ≤ 14 → 14 ≤ reach left → length whole ≤ total → (made : Expr) (rest : List Tok)
    → read.operated total inner left (Some behind.Member) tail ≡ Some (made, rest) → Made total least whole tail made rest
unfolding read.operated read.assign read.index read.member Rattle.capl_tree.specs.declared.expr.Expr.TheBlock.hidden-the_row-Expr-0 denote.Hole.Carrier.hidden
member total inner sound least whole left tail stands low above below made rest e =
    let field = and_then_some (read.field total inner tail) (λ of rest. Some (expr.Member left of (expression_place left), rest)) (made, rest) e in
    let read = field_sound total inner sound tail (tail_below total whole left _ tail stands below) field.0 field.1 field.2 in
    let here = further_on total whole left _ tail _ read.spelled stands in
    moved (Made total least whole tail) (expr.Member left field.0 (expression_place left)) made field.1 rest field.3 (
      record {
        stands = record {
          spelled = here.spelled;
          well = (here.well, level_from_3 left 14 (omega arith) (omega arith) above, read.well);
          placed = (place_first total left _ here.placed, here.placed, read.placed);
        };
        low = low;
        follows = binding_most (operator_at field.1);
      },
      read.shorter,
    )

posted : (total : ℕ) (inner : Reader) (least : ℕ) (whole : List Tok) (left : Expr) (up : Bool) (tail : List Tok)
    → Stands total whole left (tok.Sign (postfix_sign up) ∷ tail)
    → least ≤ 14 → 14 ≤ reach left → (made : Expr) (rest : List Tok)
    → read.operated total inner left (Some (behind.Post up)) tail ≡ Some (made, rest) → Made total least whole tail made rest
unfolding read.operated read.assign read.index read.member Rattle.capl_tree.specs.declared.expr.Expr.TheBlock.hidden-the_row-Expr-0 denote.Hole.Carrier.hidden
posted total inner least whole left up tail stands low above made rest e =
    moved (Made total least whole tail) (expr.Post up left (expression_place left)) made tail rest e (
      record {
        stands = record {
          spelled = stands.spelled;
          well = (stands.well, level_from_3 left 14 (omega arith) (omega arith) above);
          placed = (place_first total left _ stands.placed, stands.placed);
        };
        low = low;
        follows = binding_most (operator_at tail);
      },
      omega arith,
    )

made_by : (total : ℕ) (inner : Reader) → IsSound total inner → (least : ℕ) (whole : List Tok) (left : Expr) (of : Operator) (tail : List Tok)
    → IsAssignable (Some of) → Stands total whole left (tok.Sign (behind_sign of) ∷ tail)
    → least ≤ binding_of (Some of) → binding_of (Some of) ≤ reach left → length whole ≤ total → (made : Expr) (rest : List Tok)
    → read.operated total inner left (Some of) tail ≡ Some (made, rest) → Made total least whole tail made rest
unfolding read.operated
made_by total inner sound least whole left (behind.Assign of) tail fine stands low above below made rest e =
    assigned total inner sound least whole left of tail fine stands low above below made rest e
made_by total inner sound least whole left behind.Choice tail fine stands low above below made rest e =
    chosen total inner sound least whole left tail stands low above below made rest e
made_by total inner sound least whole left (behind.Binary of) tail fine stands low above below made rest e =
    operated total inner sound least whole left of tail stands low above below made rest e
made_by total inner sound least whole left behind.Index tail fine stands low above below made rest e =
    indexed total inner sound least whole left tail stands low above below made rest e
made_by total inner sound least whole left behind.Member tail fine stands low above below made rest e =
    member total inner sound least whole left tail stands low above below made rest e
made_by total inner sound least whole left (behind.Post up) tail fine stands low above below made rest e =
    posted total inner least whole left up tail stands low above made rest e
made_by total inner sound least whole left behind.Call tail fine stands low above below made rest e = absurd cc

-- an operator keeps what was read before it
made_next : (total : ℕ) (inner : Reader) → IsSound total inner → (least : ℕ) (whole : List Tok) (left : Expr) (ts : List Tok) (of : Option Operator) → operator_at ts ≡ of
    → Before total least whole left ts → 1 ≤ least → least ≤ binding_of of → length whole ≤ total → (made : Expr) (rest : List Tok)
    → read.operated total inner left of (reading.behind ts) ≡ Some (made, rest) → Before total least whole made rest × (length rest < length ts)
unfolding read.operated
made_next total inner sound least whole left ts None is before one low below made rest e = absurd cc
made_next total inner sound least whole left ts (Some of) is before one low below made rest e =
    let next = operator_next ts of is in
    let stands = subst (λ all. Stands total whole left all) next before.stands in
    let fine = subst IsAssignable is (assignable ts) in
    let follows = subst (λ o. binding_of o ≤ reach left) is before.follows in
    let all = made_by total inner sound least whole left of (reading.behind ts) fine stands low follows below made rest e in
    (all.0, omega (arith, all.1, ap length next))

ended : (total least : ℕ) (whole : List Tok) (left : Expr) (ts : List Tok) → Before total least whole left ts → binding ts < least
    → (made : Expr) (rest : List Tok) → given left ts ≡ given made rest → Reads total least whole made rest
ended total least whole left ts before below made rest e =
    moved (Reads total least whole) left made ts rest e
    (record { spelled = before.stands.spelled; well = before.stands.well; placed = before.stands.placed; low = before.low; ends = below })

no_tokens : (ts : List Tok) → length ts ≤ 0 → binding ts ≡ 0
no_tokens [] none = refl
no_tokens (first ∷ ts) none = absurd (omega arith)

climbed : (total : ℕ) (inner : Reader) → IsSound total inner → (least n : ℕ) (whole : List Tok) (left : Expr) (ts : List Tok) → Before total least whole left ts → length ts ≤ n
    → 1 ≤ least → length whole ≤ total → (made : Expr) (rest : List Tok) → read.climb total inner least n left ts ≡ Some (made, rest) → Reads total least whole made rest
unfolding read.climb
climbed total inner sound least zero whole left ts before enough one below made rest e = ended total least whole left ts before (omega (arith, no_tokens ts enough)) made rest e
climbed total inner sound least (suc n) whole left ts before enough one below made rest e =
    turn (nat_lt (binding ts) least)
    (λ next later stands fewer f. climbed total inner sound least n whole next later stands fewer one below made rest f) refl e
  where
    turn : (ends : Bool)
        → ((next : Expr) (later : List Tok) → Before total least whole next later → length later ≤ n → read.climb total inner least n next later ≡ Some (made, rest) → Reads total least whole made rest)
        → nat_lt (binding ts) least ≡ ends
        → (if ends then Some (left, ts) else and_then (read.operated total inner left (operator_at ts) (reading.behind ts)) (λ next later. read.climb total inner least n next later)) ≡ Some (made, rest)
        → Reads total least whole made rest
    turn true again is e = ended total least whole left ts before (ltb-true _ _ is) made rest e
    turn false again is e =
        let step = and_then_some (read.operated total inner left (operator_at ts) (reading.behind ts)) (λ next later. read.climb total inner least n next later) (made, rest) e in
        let all = made_next total inner sound least whole left ts (operator_at ts) refl before one (ltb-false _ _ is) below step.0 step.1 step.2 in
        again step.0 step.1 all.0 (omega (arith, all.1)) step.3

-- An operand.

-- an operand that nothing but a call's parenthesis could go on with, or one that no operator goes on with
alone : (total least : ℕ) (ts : List Tok) (e made : Expr) (rest left : List Tok) → given e rest ≡ given made left → ts ≡ spelled.expression e rest → IsExpression e → IsPlaced total e rest
    → least ≤ level e → binding rest ≤ reach e → Before total least ts made left
alone total least ts e made rest left is spelled well placed low follows =
    moved (Before total least ts) e made rest left is
    (record { stands = record { spelled = spelled; well = well; placed = placed }; low = low; follows = follows })

-- the arguments of a call
record ReadsArguments (total : ℕ) (ts : List Tok) (found : List Expr) (rest : List Tok) : Type 0 where
  written : ts ≡ separated spelled.expression found (tok.Sign sign.CloseParen ∷ rest)
  each : EachBefore spelled.expression (λ e rest. IsExpression e × IsPlaced total e rest) found (tok.Sign sign.CloseParen ∷ rest)

arguments_read : (total : ℕ) (inner : Reader) → IsSound total inner → (ts : List Tok) → length ts ≤ total → (found : List Expr) (rest : List Tok) (none : Bool) → begins sign.CloseParen ts ≡ none
    → (if none then Some ([], reading.behind ts) else and_then (items (inner 1) ts) (λ found rest. and_then (after sign.CloseParen rest) (λ _ rest. Some (found, rest)))) ≡ Some (found, rest)
    → ReadsArguments total ts found rest
arguments_read total inner sound ts below found rest true is e =
    let no_arguments : List Expr = [] in
    moved (ReadsArguments total ts) no_arguments found (reading.behind ts) rest e (record { written = begins_next sign.CloseParen ts is; each = tt })
arguments_read total inner sound ts below found rest false is e =
    let all = and_then_some (items (inner 1) ts) (λ found rest. and_then (after sign.CloseParen rest) (λ _ rest. Some (found, rest))) (found, rest) e in
    let close = and_then_some (after sign.CloseParen all.1) (λ _ rest. Some (all.0, rest)) (found, rest) all.3 in
    let at_close = after_some sign.CloseParen all.1 close.0 close.1 close.2 in
    let one : IsSoundFor total (inner 1) spelled.expression (λ e rest. IsExpression e × IsPlaced total e rest) =
    λ ts e rest small f. let r = sound 1 ts e rest (omega arith) (omega arith) small f in (r.spelled, (r.well, r.placed)) in
    let read = items_sound total (inner 1) spelled.expression (λ e rest. IsExpression e × IsPlaced total e rest) one longer ts all.0 all.1 below all.2 in
    moved (ReadsArguments total ts) all.0 found close.1 rest close.3
    (record {
      written = read.spelled ∙ ap (λ (ts : List Tok). separated spelled.expression all.0 ts) at_close;
      each = subst (λ ts. EachBefore spelled.expression (λ e rest. IsExpression e × IsPlaced total e rest) all.0 ts) at_close read.each;
    })

-- a row is spelled as its list is
row_spelled : {m : _} (row : Row_of-Expr m) (rest : List Tok) → spelled.arguments row rest ≡ separated spelled.expression (items-the_row-Expr _ row) rest
row_spelled end_of-Expr rest = refl
row_spelled (more_of-Expr first others) rest = ap (λ (ts : List Tok). spelled.expression first ts) (row_list others rest)

row_each : (total : ℕ) {m : _} (row : Row_of-Expr m) (rest : List Tok) → EachBefore spelled.expression (λ e rest. IsExpression e × IsPlaced total e rest) (items-the_row-Expr _ row) rest
    → AreExpressions row × ArePlaced total row rest
row_each total end_of-Expr rest each = (tt, tt)
row_each total (more_of-Expr first others) rest each =
    let later = row_each total others rest each.1 in
    let placed = subst (λ ts. IsPlaced total first ts) (sym (row_list others rest)) each.0.1 in
    ((each.0.0, later.0), (placed, later.1))

-- the row in a call
abbrev row_in : Expr → (n : _) × Row_of-Expr n
row_in (expr.Call' name shape row at) = (_, row)
row_in _ = (_, end_of-Expr)

called : (total least : ℕ) → least ≤ 13 → (name : List ℕ) (ts : List Tok) (found : List Expr) (rest : List Tok) → length (tok.Name name ∷ ts) ≤ total
    → ts ≡ tok.Sign sign.OpenParen ∷ separated spelled.expression found (tok.Sign sign.CloseParen ∷ rest)
    → EachBefore spelled.expression (λ e rest. IsExpression e × IsPlaced total e rest) found (tok.Sign sign.CloseParen ∷ rest)
    → Before total least (tok.Name name ∷ ts) (expr.Call name found (total - length (tok.Name name ∷ ts))) rest
called total least low name ts found rest below is each =
    let at = total - length (tok.Name name ∷ ts) in
    let row = row_in (expr.Call name found at) in
    let list : items-the_row-Expr row.0 row.1 ≡ found = items_hidden-the_row-Expr-1 found in
    let close = tok.Sign sign.CloseParen ∷ rest in
    let parts = row_each total row.1 close (subst (λ all. EachBefore spelled.expression (λ e rest. IsExpression e × IsPlaced total e rest) all close) (sym list) each) in
    let same = row_spelled row.1 close ∙ ap (λ (all : List Expr). separated spelled.expression all close) list in
    let whole : tok.Name name ∷ ts ≡ spelled.expression (expr.Call name found at) rest =
    ap (λ (ts : List Tok). tok.Name name ∷ ts) (is ∙ ap (λ (ts : List Tok). tok.Sign sign.OpenParen ∷ ts) (sym same)) in
    record {
      stands = record { spelled = whole; well = parts.0; placed = (omega (arith, ap length whole), parts.1) };
      low = omega arith;
      follows = binding_most (operator_at rest);
    }

named_read : (total : ℕ) (inner : Reader) → IsSound total inner → (least : ℕ) → least ≤ 13 → (name : List ℕ) (ts : List Tok) → length (tok.Name name ∷ ts) ≤ total → (e : Expr) (rest : List Tok)
    (is_call : Bool) → begins sign.OpenParen ts ≡ is_call
    → (if is_call then and_then (read.arguments inner (reading.behind ts)) (λ found rest. Some (expr.Call name found (total - length (tok.Name name ∷ ts)), rest))
    else Some (expr.Name name (total - length (tok.Name name ∷ ts)), ts)) ≡ Some (e, rest)
    → Before total least (tok.Name name ∷ ts) e rest
unfolding read.arguments
named_read total inner sound least low name ts below e rest true is f =
    let at = total - length (tok.Name name ∷ ts) in
    let args = and_then_some (read.arguments inner (reading.behind ts)) (λ found rest. Some (expr.Call name found at, rest)) (e, rest) f in
    let next = begins_next sign.OpenParen ts is in
    let all = arguments_read total inner sound (reading.behind ts) (omega (arith, ap length next)) args.0 args.1 (begins sign.CloseParen (reading.behind ts)) refl args.2 in
    moved (Before total least (tok.Name name ∷ ts)) (expr.Call name args.0 at) e args.1 rest args.3
    (called total least low name ts args.0 args.1 below (next ∙ ap (λ (ts : List Tok). tok.Sign sign.OpenParen ∷ ts) all.written) all.each)
named_read total inner sound least low name ts below e rest false is f =
    alone total least (tok.Name name ∷ ts) (expr.Name name (total - length (tok.Name name ∷ ts))) e ts rest f refl tt (omega arith) (omega arith) (not_called ts is)

enclosed_read : (total : ℕ) (inner : Reader) → IsSound total inner → (least : ℕ) → least ≤ 13 → (ts : List Tok) → length (tok.Sign sign.OpenParen ∷ ts) ≤ total
    → (of : Option Kind) → kind_at ts ≡ of → (e : Expr) (rest : List Tok)
    → read.enclosed inner (total - length (tok.Sign sign.OpenParen ∷ ts)) of ts ≡ Some (e, rest) → Before total least (tok.Sign sign.OpenParen ∷ ts) e rest
unfolding read.enclosed Rattle.capl_tree.specs.declared.expr.Expr.TheBlock.hidden-the_row-Expr-0 denote.Hole.Carrier.hidden
enclosed_read total inner sound least low ts below None is e rest f =
    let at = total - length (tok.Sign sign.OpenParen ∷ ts) in
    let inside = and_then_some (inner 1 ts) (λ e rest. and_then (after sign.CloseParen rest) (λ _ rest. Some (expr.Paren e at, rest))) (e, rest) f in
    let close = and_then_some (after sign.CloseParen inside.1) (λ _ rest. Some (expr.Paren inside.0 at, rest)) (e, rest) inside.3 in
    let read = sound 1 ts inside.0 inside.1 (omega arith) (omega arith) (omega arith) inside.2 in
    let at_close = after_some sign.CloseParen inside.1 close.0 close.1 close.2 in
    let whole = ap (λ (ts : List Tok). tok.Sign sign.OpenParen ∷ ts) (read.spelled ∙ ap (λ (ts : List Tok). spelled.expression inside.0 ts) at_close) in
    alone total least (tok.Sign sign.OpenParen ∷ ts) (expr.Paren inside.0 at) e close.1 rest close.3 whole read.well
    (omega (arith, ap length whole), subst (λ ts. IsPlaced total inside.0 ts) at_close read.placed) (omega arith) (binding_most (operator_at close.1))
enclosed_read total inner sound least low ts below (Some of) is e rest f =
    let at = total - length (tok.Sign sign.OpenParen ∷ ts) in
    let close = and_then_some (after sign.CloseParen (reading.behind ts)) (λ _ rest. and_then (inner 13 rest) (λ e rest. Some (expr.Cast of e at, rest))) (e, rest) f in
    let inside = and_then_some (inner 13 close.1) (λ e rest. Some (expr.Cast of e at, rest)) (e, rest) close.3 in
    let first = kind_next ts of is in
    let at_close = after_some sign.CloseParen (reading.behind ts) close.0 close.1 close.2 in
    let read = sound 13 close.1 inside.0 inside.1 (omega arith) (omega arith) (omega (arith, ap length first, ap length at_close)) inside.2 in
    let whole = ap (λ (ts : List Tok). tok.Sign sign.OpenParen ∷ ts)
    (first ∙ ap (λ (ts : List Tok). tok.Word (kind_word of) ∷ ts) (at_close ∙ ap (λ (ts : List Tok). tok.Sign sign.CloseParen ∷ ts) read.spelled)) in
    alone total least (tok.Sign sign.OpenParen ∷ ts) (expr.Cast of inside.0 at) e inside.1 rest inside.3 whole (read.well, read.low)
    (omega (arith, ap length whole), read.placed) low (omega (arith, read.ends))

unary_read : (total : ℕ) (inner : Reader) → IsSound total inner → (least : ℕ) → least ≤ 13 → (s : Sign) (ts : List Tok) → length (tok.Sign s ∷ ts) ≤ total
    → (of : Option UnOp) → prefix_operator s ≡ of → (e : Expr) (rest : List Tok)
    → read.unary inner (total - length (tok.Sign s ∷ ts)) of ts ≡ Some (e, rest) → Before total least (tok.Sign s ∷ ts) e rest
unfolding read.unary Rattle.capl_tree.specs.declared.expr.Expr.TheBlock.hidden-the_row-Expr-0 denote.Hole.Carrier.hidden
unary_read total inner sound least low s ts below None is e rest f = absurd cc
unary_read total inner sound least low s ts below (Some of) is e rest f =
    let at = total - length (tok.Sign s ∷ ts) in
    let inside = and_then_some (inner 13 ts) (λ e rest. Some (expr.Unary of e at, rest)) (e, rest) f in
    let read = sound 13 ts inside.0 inside.1 (omega arith) (omega arith) (omega arith) inside.2 in
    let sign_is = ap (λ found. tok.Sign found ∷ ts) (prefix_back s of is) in
    let whole = sign_is ∙ ap (λ (ts : List Tok). tok.Sign (prefix_sign of) ∷ ts) read.spelled in
    alone total least (tok.Sign s ∷ ts) (expr.Unary of inside.0 at) e inside.1 rest inside.3 whole (read.well, read.low)
    (omega (arith, ap length whole), read.placed) low (omega (arith, read.ends))

operand_read : (total : ℕ) (inner : Reader) → IsSound total inner → (least : ℕ) → least ≤ 13 → (ts : List Tok) → length ts ≤ total → (e : Expr) (rest : List Tok)
    → read.operand inner (total - length ts) ts ≡ Some (e, rest) → Before total least ts e rest
unfolding read.operand read.named
operand_read total inner sound least low (tok.Name name ∷ ts) below e rest f =
    named_read total inner sound least low name ts below e rest (begins sign.OpenParen ts) refl f
operand_read total inner sound least low (tok.Num ext value ∷ ts) below e rest f =
    alone total least (tok.Num ext value ∷ ts) (expr.Num value ext (total - length (tok.Num ext value ∷ ts))) e ts rest f refl tt (omega arith) (omega arith) (binding_most (operator_at ts))
operand_read total inner sound least low (tok.Char value ∷ ts) below e rest f =
    alone total least (tok.Char value ∷ ts) (expr.Char value (total - length (tok.Char value ∷ ts))) e ts rest f refl tt (omega arith) (omega arith) (binding_most (operator_at ts))
operand_read total inner sound least low (tok.Str text ∷ ts) below e rest f =
    alone total least (tok.Str text ∷ ts) (expr.Str text (total - length (tok.Str text ∷ ts))) e ts rest f refl tt (omega arith) (omega arith) (binding_most (operator_at ts))
operand_read total inner sound least low (tok.Word word.This ∷ ts) below e rest f =
    alone total least (tok.Word word.This ∷ ts) (expr.This (total - length (tok.Word word.This ∷ ts))) e ts rest f refl tt (omega arith) (omega arith) (binding_most (operator_at ts))
operand_read total inner sound least low (tok.Sign sign.OpenParen ∷ ts) below e rest f =
    enclosed_read total inner sound least low ts below (kind_at ts) refl e rest f
operand_read total inner sound least low (tok.Sign s ∷ ts) below e rest f =
    unary_read total inner sound least low s ts below (prefix_operator s) refl e rest f
operand_read total inner sound least low _ below e rest f = absurd cc

-- What is read at a level is a well formed and placed expression that binds so strongly, the tokens are its
-- spelling, and no operator that binds so strongly stands behind it.
pub sound : (total depth : ℕ) → IsSound total (read.expression total depth)
unfolding read.expression read.climbs
sound total zero least ts e rest one low below f = absurd cc
sound total (suc depth) least ts e rest one low below f =
    let inner = read.expression total depth in
    let first = and_then_some (read.operand inner (total - length ts) ts) (λ e rest. read.climbs total inner least e rest) (e, rest) f in
    let before = operand_read total inner (sound total depth) least low ts below first.0 first.1 first.2 in
    climbed total inner (sound total depth) least (length first.1) ts first.0 first.1 before (omega arith) one below e rest first.3
