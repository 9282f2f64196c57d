-- Of which sort each form of expression is and what it breaks, as code makes it.
use mathlib.Core.Former.{Count}
use Rattle.std.proofs.Common.{◌≡◌, ◌++◌, ◌∙◌, ℕ, Bool, List, [], ◌∷◌, Option, Some, ap, refl, sym}
use Rattle.std.specs.Prelude.{flat_map, unwrap_or}
use Rattle.std.specs.Option.{option_map_or}
use Rattle.texts.specs.declared.text.Text.{Text}
use Rattle.int_kinds.specs.declared.kinds.Kind.{Kind}
use Rattle.int_kinds.specs.declared.operators.BinOp.{BinOp}
use Rattle.int_kinds.specs.declared.operators.UnOp.{UnOp}
use Rattle.capl_tree.specs.declared.expr.Expr.{Expr, Row_of-Expr, end_of-Expr, more_of-Expr, items-the_row-Expr, items_hidden-the_row-Expr-1}
use Rattle.capl_tree.specs.declared.expr.Expr.TheVariants as expr
use Rattle.capl_tree.specs.declared.expr.Field.{Field}
use Rattle.capl_tree.specs.declared.expr.Field.TheVariants as field
use Rattle.capl_tree.proofs.FormLemmas as form
use Rattle.capl_meaning.specs.declared.offence.Offence.{Offence}
use Rattle.capl_meaning.specs.declared.sort.Sort.{Sort}
use Rattle.capl_meaning.specs.declared.sort.Sort.TheVariants as sort
use Rattle.capl_meaning.specs.ExpressionRules.{call_rules, index_needed, index_rule, integer_needed, left_rule, member_rules, offences, offences_of_field, offences_of_row, part_rules, prefix_rule, right_rule, sides_rule, step_rule}
use Rattle.capl_meaning.specs.Format.{first_text}
use Rattle.dbc_reader.specs.declared.signals.DbcSignal.{DbcSignal}
use Rattle.capl_meaning.specs.Message.{Held, is_message_place, is_number_place, message_in, signals_of}
use Rattle.capl_meaning.specs.Names.{Scope, callee}
use Rattle.capl_meaning.specs.Sort.{number_from, sort_of, sort_of_assignment, sort_of_binary, sort_of_call, sort_of_choice, sort_of_element, sort_of_part, sort_of_prefix, sort_of_step, sorts_of}
use Rattle.check_names.specs.First.{noted}
use Rattle.check_expressions.specs.Judged.{index_sort, sorts_in, text_in_first}
use Rattle.check_expressions.proofs.NotedLemmas.{noted_both}

-- ---- what an expression breaks

-- an expression between parentheses
pub paren_noted : (s : Scope) (e inner : Expr) (at : ℕ) (start one : Option Offence) →
    one ≡ noted start (offences s inner) → e ≡ expr.Paren inner at → one ≡ noted start (offences s e)
paren_noted s e inner at start one parts is =
    parts ∙ sym (ap (λ x. noted start (offences s x)) (is ∙ form.paren_form inner at))

-- an element
pub index_noted : (s : Scope) (e base index : Expr) (at : ℕ) (start one two all : Option Offence) →
    one ≡ noted start (offences s base) → two ≡ noted one (offences s index) →
    all ≡ noted two (index_rule s at (sort_of s base) ++ integer_needed s index) →
    e ≡ expr.Index base index at → all ≡ noted start (offences s e)
index_noted s e base index at start one two all is_one is_two is_all is =
    noted_both start one all (offences s base) (offences s index ++ (index_rule s at (sort_of s base) ++ integer_needed s index)) is_one (noted_both one two all (offences s index) (index_rule s at (sort_of s base) ++ integer_needed s index) is_two is_all)
    ∙ sym (ap (λ x. noted start (offences s x)) (is ∙ form.index_form base index at))

-- a member
pub member_noted : (s : Scope) (e base : Expr) (part : Field) (at : ℕ) (start one two all : Option Offence) →
    one ≡ noted start (offences s base) → two ≡ noted one (offences_of_field s part) →
    all ≡ noted two (index_needed s part ++ member_rules s at base part) →
    e ≡ expr.Member base part at → all ≡ noted start (offences s e)
member_noted s e base part at start one two all is_one is_two is_all is =
    noted_both start one all (offences s base) (offences_of_field s part ++ (index_needed s part ++ member_rules s at base part)) is_one (noted_both one two all (offences_of_field s part) (index_needed s part ++ member_rules s at base part) is_two is_all)
    ∙ sym (ap (λ x. noted start (offences s x)) (is ∙ form.member_form base part at))

-- bytes of the payload
pub bytes_noted : (s : Scope) (part : Field) (kind : Kind) (index : Expr) (at : ℕ) (start one : Option Offence) →
    one ≡ noted start (offences s index) → part ≡ field.Bytes kind index at →
    one ≡ noted start (offences_of_field s part)
bytes_noted s part kind index at start one parts is =
    parts ∙ sym (ap (λ x. noted start (offences_of_field s x)) (is ∙ form.bytes_form kind index at))

-- a cast
pub cast_noted : (s : Scope) (e : Expr) (kind : Kind) (inner : Expr) (at : ℕ) (start one all : Option Offence) →
    one ≡ noted start (offences s inner) → all ≡ noted one (integer_needed s inner) →
    e ≡ expr.Cast kind inner at → all ≡ noted start (offences s e)
cast_noted s e kind inner at start one all is_one is_all is =
    noted_both start one all (offences s inner) (integer_needed s inner) is_one is_all
    ∙ sym (ap (λ x. noted start (offences s x)) (is ∙ form.cast_form kind inner at))

-- a prefix operator
pub unary_noted : (s : Scope) (e : Expr) (op : UnOp) (inner : Expr) (at : ℕ) (start one all : Option Offence) →
    one ≡ noted start (offences s inner) → all ≡ noted one (prefix_rule s op inner) →
    e ≡ expr.Unary op inner at → all ≡ noted start (offences s e)
unary_noted s e op inner at start one all is_one is_all is =
    noted_both start one all (offences s inner) (prefix_rule s op inner) is_one is_all
    ∙ sym (ap (λ x. noted start (offences s x)) (is ∙ form.unary_form op inner at))

-- a postfix operator
pub post_noted : (s : Scope) (e : Expr) (up : Bool) (inner : Expr) (at : ℕ) (start one all : Option Offence) →
    one ≡ noted start (offences s inner) → all ≡ noted one (step_rule s inner) →
    e ≡ expr.Post up inner at → all ≡ noted start (offences s e)
post_noted s e up inner at start one all is_one is_all is =
    noted_both start one all (offences s inner) (step_rule s inner) is_one is_all
    ∙ sym (ap (λ x. noted start (offences s x)) (is ∙ form.post_form up inner at))

-- a binary operator
pub binary_noted : (s : Scope) (e : Expr) (op : BinOp) (left right : Expr) (at : ℕ) (start one two all : Option Offence) →
    one ≡ noted start (offences s left) → two ≡ noted one (offences s right) →
    all ≡ noted two (integer_needed s left ++ integer_needed s right) →
    e ≡ expr.Binary op left right at → all ≡ noted start (offences s e)
binary_noted s e op left right at start one two all is_one is_two is_all is =
    noted_both start one all (offences s left) (offences s right ++ (integer_needed s left ++ integer_needed s right)) is_one (noted_both one two all (offences s right) (integer_needed s left ++ integer_needed s right) is_two is_all)
    ∙ sym (ap (λ x. noted start (offences s x)) (is ∙ form.binary_form op left right at))

-- a choice
pub cond_noted : (s : Scope) (e test one other : Expr) (at : ℕ) (start first second third all : Option Offence) →
    first ≡ noted start (offences s test) → second ≡ noted first (offences s one) →
    third ≡ noted second (offences s other) →
    all ≡ noted third (integer_needed s test ++ (integer_needed s one ++ integer_needed s other)) →
    e ≡ expr.Cond test one other at → all ≡ noted start (offences s e)
cond_noted s e test one other at start first second third all is_first is_second is_third is_all is =
    noted_both start first all (offences s test) (offences s one ++ (offences s other ++ (integer_needed s test ++ (integer_needed s one ++ integer_needed s other)))) is_first
    (noted_both first second all (offences s one) (offences s other ++ (integer_needed s test ++ (integer_needed s one ++ integer_needed s other))) is_second
    (noted_both second third all (offences s other) (integer_needed s test ++ (integer_needed s one ++ integer_needed s other)) is_third is_all))
    ∙ sym (ap (λ x. noted start (offences s x)) (is ∙ form.cond_form test one other at))

-- an assignment
pub assign_noted : (s : Scope) (e : Expr) (op : Option BinOp) (left right : Expr) (at : ℕ)
    (start one two all : Option Offence) →
    one ≡ noted start (offences s left) → two ≡ noted one (offences s right) →
    all ≡ noted two (left_rule s op left
    ++ (sides_rule s at (sort_of s left) (sort_of s right) ++ right_rule s left right)) →
    e ≡ expr.Assign op left right at → all ≡ noted start (offences s e)
assign_noted s e op left right at start one two all is_one is_two is_all is =
    noted_both start one all (offences s left) (offences s right ++ (left_rule s op left ++ (sides_rule s at (sort_of s left) (sort_of s right) ++ right_rule s left right))) is_one (noted_both one two all (offences s right) (left_rule s op left ++ (sides_rule s at (sort_of s left) (sort_of s right) ++ right_rule s left right)) is_two is_all)
    ∙ sym (ap (λ x. noted start (offences s x)) (is ∙ form.assign_form op left right at))

-- a row of expressions breaks what its list does
row_offences : (s : Scope) (n : _) (row : Row_of-Expr n) →
    offences_of_row s row ≡ flat_map (offences s) (items-the_row-Expr n row)
row_offences s n end_of-Expr = refl
row_offences s n (more_of-Expr e row) = ap (λ rest. offences s e ++ rest) (row_offences s _ row)

-- the row in a call
abbrev arguments_of : Expr → (n : Count) × Row_of-Expr n
arguments_of (expr.Call' _ _ row _) = (_, row)
arguments_of _ = (_, end_of-Expr)

-- what a call breaks
call_offences : (s : Scope) (name : Text) (args : List Expr) (at : ℕ) →
    offences s (expr.Call name args at)
    ≡ flat_map (offences s) args ++ call_rules s at (callee s.names name) args
call_offences s name args at =
    let row = arguments_of (expr.Call name args at) in
    let same = items_hidden-the_row-Expr-1 args in
    ap (λ os. os ++ call_rules s at (callee s.names name) (items-the_row-Expr row.0 row.1))
    (row_offences s row.0 row.1)
    ∙ ap (λ es. flat_map (offences s) es ++ call_rules s at (callee s.names name) es) same

-- a call
pub call_noted : (s : Scope) (e : Expr) (name : Text) (args : List Expr) (at : ℕ) (start one all : Option Offence) →
    one ≡ noted start (flat_map (offences s) args) → all ≡ noted one (call_rules s at (callee s.names name) args) →
    e ≡ expr.Call name args at → all ≡ noted start (offences s e)
call_noted s e name args at start one all is_one is_all is =
    noted_both start one all (flat_map (offences s) args) (call_rules s at (callee s.names name) args) is_one is_all
    ∙ sym (ap (λ x. noted start (offences s x)) is ∙ ap (noted start) (call_offences s name args at))

-- ---- of which sort an expression is

-- an expression between parentheses
pub paren_sort : (s : Scope) (e inner : Expr) (at : ℕ) (k : Sort) → k ≡ sort_of s inner →
    e ≡ expr.Paren inner at → k ≡ sort_of s e
paren_sort s e inner at k parts is = parts ∙ sym (ap (sort_of s) (is ∙ form.paren_form inner at))

-- an element
pub index_is : (s : Scope) (e base index : Expr) (at : ℕ) (k : Sort) →
    k ≡ sort_of_element (sort_of s base) (sort_of s index) → e ≡ expr.Index base index at → k ≡ sort_of s e
index_is s e base index at k parts is = parts ∙ sym (ap (sort_of s) (is ∙ form.index_form base index at))

-- a member
pub member_sort : (s : Scope) (e base : Expr) (part : Field) (at : ℕ) (k : Sort) →
    k ≡ option_map_or (λ message. sort_of_part s (signals_of message) part) (message_in s base) sort.Bad →
    e ≡ expr.Member base part at → k ≡ sort_of s e
member_sort s e base part at k parts is = parts ∙ sym (ap (sort_of s) (is ∙ form.member_form base part at))

-- the index of payload bytes
pub bytes_sort : (s : Scope) (part : Field) (kind : Kind) (index : Expr) (at : ℕ) (k : Sort) → k ≡ sort_of s index →
    part ≡ field.Bytes kind index at → Some k ≡ index_sort s part
bytes_sort s part kind index at k parts is =
    ap (λ x. Some x) parts ∙ sym (ap (index_sort s) (is ∙ form.bytes_form kind index at))

-- a cast
pub cast_sort : (s : Scope) (e : Expr) (kind : Kind) (inner : Expr) (at : ℕ) (k : Sort) →
    k ≡ number_from (sort_of s inner) kind → e ≡ expr.Cast kind inner at → k ≡ sort_of s e
cast_sort s e kind inner at k parts is = parts ∙ sym (ap (sort_of s) (is ∙ form.cast_form kind inner at))

-- a prefix operator
pub unary_sort : (s : Scope) (e : Expr) (op : UnOp) (inner : Expr) (at : ℕ) (k : Sort) →
    k ≡ sort_of_prefix op (is_number_place s inner) (sort_of s inner) → e ≡ expr.Unary op inner at → k ≡ sort_of s e
unary_sort s e op inner at k parts is = parts ∙ sym (ap (sort_of s) (is ∙ form.unary_form op inner at))

-- a postfix operator
pub post_sort : (s : Scope) (e : Expr) (up : Bool) (inner : Expr) (at : ℕ) (k : Sort) →
    k ≡ sort_of_step (is_number_place s inner) (sort_of s inner) → e ≡ expr.Post up inner at → k ≡ sort_of s e
post_sort s e up inner at k parts is = parts ∙ sym (ap (sort_of s) (is ∙ form.post_form up inner at))

-- a binary operator
pub binary_sort : (s : Scope) (e : Expr) (op : BinOp) (left right : Expr) (at : ℕ) (k : Sort) →
    k ≡ sort_of_binary op (sort_of s left) (sort_of s right) → e ≡ expr.Binary op left right at → k ≡ sort_of s e
binary_sort s e op left right at k parts is =
    parts ∙ sym (ap (sort_of s) (is ∙ form.binary_form op left right at))

-- a choice
pub cond_sort : (s : Scope) (e test one other : Expr) (at : ℕ) (k : Sort) →
    k ≡ sort_of_choice (sort_of s test) (sort_of s one) (sort_of s other) → e ≡ expr.Cond test one other at →
    k ≡ sort_of s e
cond_sort s e test one other at k parts is =
    parts ∙ sym (ap (sort_of s) (is ∙ form.cond_form test one other at))

-- an assignment
pub assign_sort : (s : Scope) (e : Expr) (op : Option BinOp) (left right : Expr) (at : ℕ) (k : Sort) →
    k ≡ sort_of_assignment op (is_number_place s left) (is_message_place s left) (sort_of s left) (sort_of s right) →
    e ≡ expr.Assign op left right at → k ≡ sort_of s e
assign_sort s e op left right at k parts is =
    parts ∙ sym (ap (sort_of s) (is ∙ form.assign_form op left right at))

-- the sorts in a row are those of its list
row_sorts : (s : Scope) (n : _) (row : Row_of-Expr n) → sorts_of s row ≡ sorts_in s (items-the_row-Expr n row)
row_sorts s n end_of-Expr = refl
row_sorts s n (more_of-Expr e row) = ap (λ rest. sort_of s e ∷ rest) (row_sorts s _ row)

-- the first text of a row is that of its list
row_text : (n : _) (row : Row_of-Expr n) → first_text row ≡ text_in_first (items-the_row-Expr n row)
row_text n end_of-Expr = refl
row_text n (more_of-Expr e row) = refl

-- a call
pub call_sort : (s : Scope) (e : Expr) (name : Text) (args : List Expr) (at : ℕ) (k : Sort) →
    k ≡ sort_of_call s (callee s.names name) (text_in_first args) (sorts_in s args) →
    e ≡ expr.Call name args at → k ≡ sort_of s e
call_sort s e name args at k parts is =
    let row = arguments_of (expr.Call name args at) in
    let same = items_hidden-the_row-Expr-1 args in
    parts ∙ sym (ap (sort_of s) is
    ∙ ap (λ ks. sort_of_call s (callee s.names name) (first_text row.1) ks) (row_sorts s row.0 row.1)
    ∙ ap (λ text. sort_of_call s (callee s.names name) text (sorts_in s (items-the_row-Expr row.0 row.1))) (row_text row.0 row.1)
    ∙ ap (λ es. sort_of_call s (callee s.names name) (text_in_first es) (sorts_in s es)) same)

-- the sort of the index in payload bytes
pub bytes_index : (s : Scope) (part : Field) (kind : Kind) (index : Expr) (at : ℕ) → part ≡ field.Bytes kind index at →
    index_sort s part ≡ Some (sort_of s index)
bytes_index s part kind index at is = ap (index_sort s) (is ∙ form.bytes_form kind index at)

-- what payload bytes break by themselves
pub bytes_needed : (s : Scope) (part : Field) (kind : Kind) (index : Expr) (at : ℕ) → part ≡ field.Bytes kind index at →
    index_needed s part ≡ integer_needed s index
bytes_needed s part kind index at is = ap (index_needed s) (is ∙ form.bytes_form kind index at)

-- of which sort payload bytes are
pub bytes_part : (s : Scope) (signals : Option (List DbcSignal)) (part : Field) (kind : Kind) (index : Expr) (at : ℕ) →
    part ≡ field.Bytes kind index at → sort_of_part s signals part ≡ number_from (sort_of s index) kind
bytes_part s signals part kind index at is = ap (sort_of_part s signals) (is ∙ form.bytes_form kind index at)

-- payload bytes break no rule of members
pub bytes_rules : (s : Scope) (place : ℕ) (m : Held) (part : Field) (kind : Kind) (index : Expr) (at : ℕ) →
    part ≡ field.Bytes kind index at → part_rules s place part m ≡ []
bytes_rules s place m part kind index at is = ap (λ p. part_rules s place p m) (is ∙ form.bytes_form kind index at)

-- payload bytes, as code makes them
pub ruleset bytes = (bytes_index, bytes_needed, bytes_part, bytes_rules)

-- the sort of an index is what was given for it
pub index_judged : (s : Scope) (part : Field) (kind : Kind) (index : Expr) (at : ℕ) (given : Option Sort) (k : Sort) (e : Expr) →
    given ≡ index_sort s part → part ≡ field.Bytes kind index at → k ≡ unwrap_or given sort.Bad → e ≡ index → k ≡ sort_of s e
index_judged s part kind index at given k e known is k_is e_is =
    k_is ∙ ap (λ o. unwrap_or o sort.Bad) (known ∙ bytes_index s part kind index at is) ∙ ap (sort_of s) (sym e_is)

-- what an index breaks by itself
pub index_noted_needed : (s : Scope) (part : Field) (kind : Kind) (index : Expr) (at : ℕ) (e : Expr) (start all : Option Offence) →
    part ≡ field.Bytes kind index at → e ≡ index → all ≡ noted start (integer_needed s e) → all ≡ noted start (index_needed s part)
index_noted_needed s part kind index at e start all is e_is all_is =
    all_is ∙ ap (λ x. noted start (integer_needed s x)) e_is ∙ ap (noted start) (sym (bytes_needed s part kind index at is))

-- of which sort payload bytes are, by what was given for their index
pub bytes_judged : (s : Scope) (signals : Option (List DbcSignal)) (part : Field) (kind : Kind) (index : Expr) (at : ℕ)
    (given : Option Sort) (k result : Sort) → given ≡ index_sort s part → part ≡ field.Bytes kind index at →
    k ≡ unwrap_or given sort.Bad → result ≡ number_from k kind → result ≡ sort_of_part s signals part
bytes_judged s signals part kind index at given k result known is k_is result_is =
    result_is ∙ ap (λ x. number_from x kind) (index_judged s part kind index at given k index known is k_is refl)
    ∙ sym (bytes_part s signals part kind index at is)

-- payload bytes note nothing by themselves
pub bytes_rules_noted : (s : Scope) (place : ℕ) (m : Held) (part : Field) (kind : Kind) (index : Expr) (at : ℕ) (start : Option Offence) →
    part ≡ field.Bytes kind index at → start ≡ noted start (part_rules s place part m)
bytes_rules_noted s place m part kind index at start is =
    ap (noted start) (sym (bytes_rules s place m part kind index at is))

-- ---- the boxes of a form are what their references lend

-- an expression between parentheses
pub paren_of : (e inner lent : Expr) (at : ℕ) → e ≡ expr.Paren inner at → lent ≡ inner → e ≡ expr.Paren lent at
paren_of e inner lent at is same = is ∙ ap (λ x. expr.Paren x at) (sym same)

-- an element
pub index_of : (e base index lent_base lent_index : Expr) (at : ℕ) → e ≡ expr.Index base index at →
    lent_base ≡ base → lent_index ≡ index → e ≡ expr.Index lent_base lent_index at
index_of e base index lent_base lent_index at is same_base same_index =
    is ∙ ap (λ x. expr.Index x index at) (sym same_base) ∙ ap (λ x. expr.Index lent_base x at) (sym same_index)

-- a member
pub member_of : (e base lent : Expr) (part : Field) (at : ℕ) → e ≡ expr.Member base part at → lent ≡ base →
    e ≡ expr.Member lent part at
member_of e base lent part at is same = is ∙ ap (λ x. expr.Member x part at) (sym same)

-- bytes of the payload
pub bytes_of : (part : Field) (kind : Kind) (index lent : Expr) (at : ℕ) → part ≡ field.Bytes kind index at →
    lent ≡ index → part ≡ field.Bytes kind lent at
bytes_of part kind index lent at is same = is ∙ ap (λ x. field.Bytes kind x at) (sym same)

-- a cast
pub cast_of : (e : Expr) (kind : Kind) (inner lent : Expr) (at : ℕ) → e ≡ expr.Cast kind inner at → lent ≡ inner →
    e ≡ expr.Cast kind lent at
cast_of e kind inner lent at is same = is ∙ ap (λ x. expr.Cast kind x at) (sym same)

-- a prefix operator
pub unary_of : (e : Expr) (op : UnOp) (inner lent : Expr) (at : ℕ) → e ≡ expr.Unary op inner at → lent ≡ inner →
    e ≡ expr.Unary op lent at
unary_of e op inner lent at is same = is ∙ ap (λ x. expr.Unary op x at) (sym same)

-- a postfix operator
pub post_of : (e : Expr) (up : Bool) (inner lent : Expr) (at : ℕ) → e ≡ expr.Post up inner at → lent ≡ inner →
    e ≡ expr.Post up lent at
post_of e up inner lent at is same = is ∙ ap (λ x. expr.Post up x at) (sym same)

-- a binary operator
pub binary_of : (e : Expr) (op : BinOp) (left right lent_left lent_right : Expr) (at : ℕ) →
    e ≡ expr.Binary op left right at → lent_left ≡ left → lent_right ≡ right →
    e ≡ expr.Binary op lent_left lent_right at
binary_of e op left right lent_left lent_right at is same_left same_right =
    is ∙ ap (λ x. expr.Binary op x right at) (sym same_left) ∙ ap (λ x. expr.Binary op lent_left x at) (sym same_right)

-- a choice
pub cond_of : (e test one other lent_test lent_one lent_other : Expr) (at : ℕ) → e ≡ expr.Cond test one other at →
    lent_test ≡ test → lent_one ≡ one → lent_other ≡ other → e ≡ expr.Cond lent_test lent_one lent_other at
cond_of e test one other lent_test lent_one lent_other at is same_test same_one same_other =
    is ∙ ap (λ x. expr.Cond x one other at) (sym same_test) ∙ ap (λ x. expr.Cond lent_test x other at) (sym same_one)
    ∙ ap (λ x. expr.Cond lent_test lent_one x at) (sym same_other)

-- an assignment
pub assign_of : (e : Expr) (op : Option BinOp) (left right lent_left lent_right : Expr) (at : ℕ) →
    e ≡ expr.Assign op left right at → lent_left ≡ left → lent_right ≡ right →
    e ≡ expr.Assign op lent_left lent_right at
assign_of e op left right lent_left lent_right at is same_left same_right =
    is ∙ ap (λ x. expr.Assign op x right at) (sym same_left) ∙ ap (λ x. expr.Assign op lent_left x at) (sym same_right)

-- a call
pub call_of : (e : Expr) (name : Text) (args : List Expr) (at : ℕ) (lent_name : List ℕ) (lent_args : List Expr) →
    e ≡ expr.Call name args at → lent_name ≡ name → lent_args ≡ args → e ≡ expr.Call lent_name lent_args at
call_of e name args at lent_name lent_args is same_name same_args =
    is ∙ ap (λ x. expr.Call x args at) (sym same_name) ∙ ap (λ x. expr.Call lent_name x at) (sym same_args)
