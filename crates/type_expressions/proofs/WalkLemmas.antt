-- What is made of an expression, by what is made of its parts.
use Rattle.std.proofs.Common.{◌≡◌, ℕ, Bool, false, true, IfOk, List, Option, Result, Some, None, refl, subst, sym, ap, ◌∙◌}
use Rattle.std.specs.Prelude.{map}
use Rattle.std.specs.Option.{option_and_then, option_map, option_map_or}
use Rattle.std.proofs.lemmas.Result.{IfOk-weaker}
use Rattle.int_kinds.specs.declared.kinds.Kind.{Kind}
use Rattle.int_kinds.specs.declared.operators.BinOp.{BinOp}
use Rattle.int_kinds.specs.declared.operators.UnOp.{UnOp}
use Rattle.int_kinds.specs.declared.operators.UnOp.TheVariants as prefix
use Rattle.int_kinds.specs.Kind.{join}
use Rattle.capl_tree.specs.declared.expr.Expr.{Expr}
use Rattle.capl_tree.specs.declared.expr.Expr.TheVariants as expr
use Rattle.capl_tree.specs.declared.expr.Field.{Field}
use Rattle.capl_tree.specs.declared.expr.Field.TheVariants as field
use Rattle.capl_tree.specs.Forms as tree
use Rattle.capl_tree.proofs.FormLemmas.{assign_form, binary_form, bytes_form, cond_form, member_form, paren_form, post_form, unary_form}
use Rattle.typed_tree.specs.declared.expression.Place.{Place}
use Rattle.typed_tree.specs.declared.expression.TExpr.{TExpr}
use Rattle.typed_tree.specs.declared.expression.TExpr.TheVariants.{Call}
use Rattle.typed_tree.specs.Forms.{Bytes, Cond, Convert}
use Rattle.capl_meaning.specs.declared.sort.Sort.{Sort}
use Rattle.capl_meaning.specs.declared.sort.Sort.TheVariants as sort
use Rattle.capl_meaning.specs.Names.{Scope, callee}
use Rattle.capl_meaning.specs.Message as meant
use Rattle.capl_meaning.specs.Message.{is_message_place, is_number_place, member_named, message_in, signals_of}
use Rattle.capl_meaning.specs.Sort.{kind_in, number_from, sort_of, sort_of_assignment, sort_of_binary, sort_of_call, sort_of_choice, sort_of_member, sort_of_part, sort_of_prefix, sort_of_step, working_kind}
use Rattle.typed_laws.specs.Laid.{message_slot}
use Rattle.typed_source.specs.Expression.{assigned, expression_of, loaded, of_call, operation, place_of, place_of_member, place_of_part, stepping}
use Rattle.check_sorts.specs.declared.message.Held.{Held}
use Rattle.check_sorts.specs.Message.{held_in}
use Rattle.type_expressions.specs.declared.made.Shape.TheVariants as shape
use Rattle.type_expressions.specs.declared.made.Walked.{Walked}
use Rattle.type_expressions.specs.Made.{assigning, place_in, prefix_tree, text_of_first, value_in}
use Rattle.type_expressions.proofs.CallLemmas.{call_place, call_sort, call_value}

-- ---- calls

-- the tree of a call
pub call_tree_made : (s : Scope) (order : List ℕ) (e : Expr) (name other : List ℕ) (args one two : List Expr) (at : ℕ) (trees : List TExpr) (tree : TExpr) →
    e ≡ expr.Call name args at → other ≡ name → one ≡ args → two ≡ args → trees ≡ map (expression_of s order) one →
    tree ≡ of_call s order (callee s.names other) two (λ f. Call f trees) → tree ≡ expression_of s order e
call_tree_made s order e name other args one two at trees tree is name_is one_is two_is trees_are made =
    made
    ∙ ap (λ l. of_call s order (callee s.names other) two (λ f. Call f l)) (trees_are ∙ ap (map (expression_of s order)) one_is)
    ∙ ap (λ l. of_call s order (callee s.names other) l (λ f. Call f (map (expression_of s order) args))) two_is
    ∙ ap (λ n. of_call s order (callee s.names n) args (λ f. Call f (map (expression_of s order) args))) name_is
    ∙ sym (call_value s order e name args at is)

-- the sort of a call
pub call_sort_made : (s : Scope) (e : Expr) (name other : List ℕ) (args one two : List Expr) (at : ℕ) (sorts : List Sort) (found : Sort) →
    e ≡ expr.Call name args at → other ≡ name → one ≡ args → two ≡ args → sorts ≡ map (sort_of s) one →
    found ≡ sort_of_call s (callee s.names other) (text_of_first two) sorts → found ≡ sort_of s e
call_sort_made s e name other args one two at sorts found is name_is one_is two_is sorts_are made =
    made
    ∙ ap (λ l. sort_of_call s (callee s.names other) (text_of_first two) l) (sorts_are ∙ ap (map (sort_of s)) one_is)
    ∙ ap (λ l. sort_of_call s (callee s.names other) (text_of_first l) (map (sort_of s) args)) two_is
    ∙ ap (λ n. sort_of_call s (callee s.names n) (text_of_first args) (map (sort_of s) args)) name_is
    ∙ sym (call_sort s e name args at is)

-- ---- results

-- an expression was walked over
pub record IsWalked (s : Scope) (order : List ℕ) (e : Expr) (w : Walked) : Type 0 where
  pub value : value_in w.shape ≡ expression_of s order e
  pub place : place_in w.shape ≡ place_of s order e
  pub sort : w.sort ≡ sort_of s e

-- an expression was walked over, if there was room
pub record WasWalked {E : Type 0} (s : Scope) (order : List ℕ) (e : Expr) (made : Result Walked E) : Type 0 where
  pub value : IfOk made (λ w. value_in w.shape ≡ expression_of s order e)
  pub place : IfOk made (λ w. place_in w.shape ≡ place_of s order e)
  pub sort : IfOk made (λ w. w.sort ≡ sort_of s e)

-- what is known of each result holds of the one that there is
was_walked : {E : Type 0} (s : Scope) (order : List ℕ) (e : Expr) (made : Result Walked E) (known : Walked) →
    IfOk made (λ w. w ≡ known) → ((w : Walked) → w ≡ known → IsWalked s order e w) → WasWalked s order e made
was_walked s order e made known is by = record {
  value = IfOk-weaker made (λ w. w ≡ known) (λ w. value_in w.shape ≡ expression_of s order e) (λ w same. (by w same).value) is;
  place = IfOk-weaker made (λ w. w ≡ known) (λ w. place_in w.shape ≡ place_of s order e) (λ w same. (by w same).place) is;
  sort = IfOk-weaker made (λ w. w ≡ known) (λ w. w.sort ≡ sort_of s e) (λ w same. (by w same).sort) is;
}

-- what stands under parentheses was walked over
pub paren_walked : {E : Type 0} (s : Scope) (order : List ℕ) (e inner given : Expr) (at : ℕ) (made : Result Walked E) →
    e ≡ expr.Paren inner at → given ≡ inner → IfOk made (λ w. value_in w.shape ≡ expression_of s order given) →
    IfOk made (λ w. place_in w.shape ≡ place_of s order given) → IfOk made (λ w. w.sort ≡ sort_of s given) → WasWalked s order e made
paren_walked s order e inner given at made is given_is value place sort =
    let whole = is ∙ paren_form inner at in
    record {
      value = subst (λ x. IfOk made (λ w. value_in w.shape ≡ x)) (ap (expression_of s order) given_is ∙ sym (ap (expression_of s order) whole)) value;
      place = subst (λ x. IfOk made (λ w. place_in w.shape ≡ x)) (ap (place_of s order) given_is ∙ sym (ap (place_of s order) whole)) place;
      sort = subst (λ x. IfOk made (λ w. w.sort ≡ x)) (ap (sort_of s) given_is ∙ sym (ap (sort_of s) whole)) sort;
    }

-- ---- members

-- the message that is held
pub record There (s : Scope) (held : Held) (base : Expr) : Type 0 where
  pub message : meant.Held
  pub held_is : held_in s.names held ≡ Some message
  pub named : message_in s base ≡ Some message

-- the message is there
pub there : (s : Scope) (held : Held) (base : Expr) → Some (held_in s.names held) ≡ option_map Some (message_in s base) → There s held base
there s held base e = by (message_in s base) refl e
  where
    by : (m : Option meant.Held) → message_in s base ≡ m → Some (held_in s.names held) ≡ option_map Some m → There s held base
    by None is h = absurd (let f : Some (held_in s.names held) ≡ None = h in cc)
    by (Some message) is h =
        let same : held_in s.names held ≡ Some message = let f : Some (held_in s.names held) ≡ Some (Some message) = h in cc in
        record { message = message; held_is = same; named = is }

-- a part of a message, as the definitions have it
part_made : (s : Scope) (order : List ℕ) (e base : Expr) (what : Field) (at : ℕ) (message : meant.Held) (w : Walked) →
    e ≡ tree.Member base what at → message_in s base ≡ Some message →
    w ≡ record { shape = shape.Place (place_of_part s order what message); sort = sort_of_part s (signals_of message) what } →
    IsWalked s order e w
part_made s order e base what at message w is named made = record {
  value = ap (λ (w : Walked). value_in w.shape) made
      ∙ sym (ap (expression_of s order) is ∙ ap (λ m. loaded (option_and_then (place_of_part s order what) m)) named);
  place = ap (λ (w : Walked). place_in w.shape) made
      ∙ sym (ap (place_of s order) is ∙ ap (λ m. option_and_then (place_of_part s order what) m) named);
  sort = ap (λ (w : Walked). w.sort) made
      ∙ sym (ap (sort_of s) is ∙ ap (λ m. option_map_or (λ message. sort_of_part s (signals_of message) what) m sort.Bad) named);
}

-- a member by its name
pub named_made : (s : Scope) (order : List ℕ) (e base other : Expr) (what : Field) (at : ℕ) (name known : List ℕ) (name_at : ℕ) (held : Held) (w : Walked) →
    e ≡ expr.Member base what at → what ≡ field.Named name name_at → other ≡ base → known ≡ name →
    Some (held_in s.names held) ≡ option_map Some (message_in s other) →
    ((message : meant.Held) → held_in s.names held ≡ Some message → w ≡ record {
      shape = shape.Place (place_of_member (message_slot s.names message) (member_named (signals_of message) known));
      sort = sort_of_member (member_named (signals_of message) known);
    }) → IsWalked s order e w
named_made s order e base other what at name known name_at held w is what_is other_is known_is found made =
    let t = there s held base (found ∙ ap (λ b. option_map Some (message_in s b)) other_is) in
    let shape_by : List ℕ → Walked = λ n. record {
      shape = shape.Place (place_of_member (message_slot s.names t.message) (member_named (signals_of t.message) n));
      sort = sort_of_member (member_named (signals_of t.message) n);
    } in
    part_made s order e base (field.Named name name_at) at t.message w
    (is ∙ ap (λ f. expr.Member base f at) what_is ∙ member_form base (field.Named name name_at) at) t.named
    (made t.message t.held_is ∙ ap shape_by known_is)

-- payload bytes
pub bytes_made : (s : Scope) (order : List ℕ) (e base other : Expr) (what : Field) (at : ℕ) (kind : Kind) (index walked : Expr) (index_at : ℕ) (held : Held)
    (made_tree : TExpr) (found_sort : Sort) (w : Walked) →
    e ≡ expr.Member base what at → what ≡ field.Bytes kind index index_at → other ≡ base → walked ≡ index →
    made_tree ≡ expression_of s order walked → found_sort ≡ sort_of s walked →
    Some (held_in s.names held) ≡ option_map Some (message_in s other) →
    ((message : meant.Held) → held_in s.names held ≡ Some message → w ≡ record {
      shape = shape.Place (Some (Bytes (message_slot s.names message) kind made_tree));
      sort = number_from found_sort kind;
    }) → IsWalked s order e w
bytes_made s order e base other what at kind index walked index_at held made_tree found_sort w is what_is other_is walked_is tree_is sort_is found made =
    let t = there s held base (found ∙ ap (λ b. option_map Some (message_in s b)) other_is) in
    let by_tree : TExpr → Walked = λ x. record {
      shape = shape.Place (Some (Bytes (message_slot s.names t.message) kind x));
      sort = number_from found_sort kind;
    } in
    let by_sort : Sort → Walked = λ x. record {
      shape = shape.Place (Some (Bytes (message_slot s.names t.message) kind (expression_of s order index)));
      sort = number_from x kind;
    } in
    part_made s order e base (tree.Bytes kind index index_at) at t.message w
    (is ∙ ap (λ f. expr.Member base f at) (what_is ∙ bytes_form kind index index_at) ∙ member_form base (tree.Bytes kind index index_at) at) t.named
    (made t.message t.held_is ∙ ap by_tree (tree_is ∙ ap (expression_of s order) walked_is) ∙ ap by_sort (sort_is ∙ ap (sort_of s) walked_is))

-- ---- calls that are made

-- a call was walked over
pub call_walked : {E : Type 0} (s : Scope) (order : List ℕ) (e : Expr) (name other : List ℕ) (args one two : List Expr) (at : ℕ) (trees : List TExpr)
    (sorts : List Sort) (made : Result Walked E) →
    e ≡ expr.Call name args at → other ≡ name → one ≡ args → two ≡ args → trees ≡ map (expression_of s order) one → sorts ≡ map (sort_of s) one →
    IfOk made (λ w. value_in w.shape ≡ of_call s order (callee s.names other) two (λ f. Call f trees)) → IfOk made (λ w. place_in w.shape ≡ None) →
    IfOk made (λ w. w.sort ≡ sort_of_call s (callee s.names other) (text_of_first two) sorts) → WasWalked s order e made
call_walked s order e name other args one two at trees sorts made is name_is one_is two_is trees_are sorts_are value place sort = record {
  value = IfOk-weaker made (λ w. value_in w.shape ≡ of_call s order (callee s.names other) two (λ f. Call f trees))
      (λ w. value_in w.shape ≡ expression_of s order e)
      (λ w same. call_tree_made s order e name other args one two at trees (value_in w.shape) is name_is one_is two_is trees_are same) value;
  place = subst (λ p. IfOk made (λ w. place_in w.shape ≡ p)) (sym (call_place s order e name args at is)) place;
  sort = IfOk-weaker made (λ w. w.sort ≡ sort_of_call s (callee s.names other) (text_of_first two) sorts) (λ w. w.sort ≡ sort_of s e)
      (λ w same. call_sort_made s e name other args one two at sorts w.sort is name_is one_is two_is sorts_are same) sort;
}

-- ---- operators

prefix_of : (s : Scope) (order : List ℕ) (op : UnOp) (inner : Expr) (at : ℕ) →
    prefix_tree op (sort_of s inner) (assigned (is_number_place s inner) (place_of s order inner)) (expression_of s order inner)
    ≡ expression_of s order (tree.Unary op inner at)
prefix_of s order prefix.Up inner at = refl
prefix_of s order prefix.Down inner at = refl
prefix_of s order prefix.Minus inner at = refl
prefix_of s order prefix.Plus inner at = refl
prefix_of s order prefix.Not inner at = refl
prefix_of s order prefix.Inv inner at = refl

-- what a step or a prefix operator makes of what stands before or behind it
pub inner_walked : {E : Type 0} (s : Scope) (order : List ℕ) (e : Expr) (is_place : Bool) (i : Walked) (by : Sort → Bool → Option Place → TExpr → Walked)
    (made : Result Walked E) → is_place ≡ is_number_place s e → IsWalked s order e i →
    IfOk made (λ w. w ≡ by i.sort is_place (place_in i.shape) (value_in i.shape)) →
    IfOk made (λ w. w ≡ by (sort_of s e) (is_number_place s e) (place_of s order e) (expression_of s order e))
inner_walked s order e is_place i by made place_known known there =
    subst (λ x. IfOk made (λ w. w ≡ x))
    (ap (λ k. by k is_place (place_in i.shape) (value_in i.shape)) known.sort
    ∙ ap (λ b. by (sort_of s e) b (place_in i.shape) (value_in i.shape)) place_known
    ∙ ap (λ p. by (sort_of s e) (is_number_place s e) p (value_in i.shape)) known.place
    ∙ ap (by (sort_of s e) (is_number_place s e) (place_of s order e)) known.value)
    there

-- a prefix operator
pub prefix_walked : {E : Type 0} (s : Scope) (order : List ℕ) (e : Expr) (op : UnOp) (inner one : Expr) (at : ℕ) (made : Result Walked E) →
    e ≡ expr.Unary op inner at → one ≡ inner →
    IfOk made (λ w. w ≡ record {
      shape = shape.Value (prefix_tree op (sort_of s one) (assigned (is_number_place s one) (place_of s order one)) (expression_of s order one));
      sort = sort_of_prefix op (is_number_place s one) (sort_of s one);
    }) → WasWalked s order e made
prefix_walked s order e op inner one at made is one_is there =
    let whole = is ∙ unary_form op inner at in
    was_walked s order e made _ there (λ w same. record {
      value = ap (λ (w : Walked). value_in w.shape) same
          ∙ ap (λ x. prefix_tree op (sort_of s x) (assigned (is_number_place s x) (place_of s order x)) (expression_of s order x)) one_is
          ∙ prefix_of s order op inner at
          ∙ sym (ap (expression_of s order) whole);
      place = ap (λ (w : Walked). place_in w.shape) same ∙ sym (ap (place_of s order) whole);
      sort = ap (λ (w : Walked). w.sort) same
          ∙ ap (λ x. sort_of_prefix op (is_number_place s x) (sort_of s x)) one_is
          ∙ sym (ap (sort_of s) whole);
    })

-- `++` or `--` behind a place
pub step_walked : {E : Type 0} (s : Scope) (order : List ℕ) (e : Expr) (up : Bool) (inner one : Expr) (at : ℕ) (made : Result Walked E) →
    e ≡ expr.Post up inner at → one ≡ inner →
    IfOk made (λ w. w ≡ record {
      shape = shape.Value (stepping (kind_in (sort_of s one)) up true (assigned (is_number_place s one) (place_of s order one)));
      sort = sort_of_step (is_number_place s one) (sort_of s one);
    }) → WasWalked s order e made
step_walked s order e up inner one at made is one_is there =
    let whole = is ∙ post_form up inner at in
    was_walked s order e made _ there (λ w same. record {
      value = ap (λ (w : Walked). value_in w.shape) same
          ∙ ap (λ x. stepping (kind_in (sort_of s x)) up true (assigned (is_number_place s x) (place_of s order x))) one_is
          ∙ sym (ap (expression_of s order) whole);
      place = ap (λ (w : Walked). place_in w.shape) same ∙ sym (ap (place_of s order) whole);
      sort = ap (λ (w : Walked). w.sort) same
          ∙ ap (λ x. sort_of_step (is_number_place s x) (sort_of s x)) one_is
          ∙ sym (ap (sort_of s) whole);
    })

assignment_of : (s : Scope) (order : List ℕ) (op : Option BinOp) (left right : Expr) (at : ℕ) →
    assigning op (sort_of s left) (sort_of s right) (assigned (is_number_place s left) (place_of s order left)) (expression_of s order right)
    ≡ expression_of s order (tree.Assign op left right at)
assignment_of s order None left right at = refl
assignment_of s order (Some op) left right at = refl

-- an assignment
pub assignment_walked : {E : Type 0} (s : Scope) (order : List ℕ) (e : Expr) (op : Option BinOp) (left right one two : Expr) (at : ℕ) (value : TExpr) (found : Sort)
    (made : Result Walked E) →
    e ≡ expr.Assign op left right at → one ≡ left → two ≡ right → value ≡ expression_of s order two → found ≡ sort_of s two →
    IfOk made (λ w. w ≡ record {
      shape = shape.Value (assigning op (sort_of s one) found (assigned (is_number_place s one) (place_of s order one)) value);
      sort = sort_of_assignment op (is_number_place s one) (is_message_place s one) (sort_of s one) found;
    }) → WasWalked s order e made
assignment_walked s order e op left right one two at value found made is one_is two_is value_is found_is there =
    let whole = is ∙ assign_form op left right at in
    let value_known : value ≡ expression_of s order right = value_is ∙ ap (expression_of s order) two_is in
    let found_known : found ≡ sort_of s right = found_is ∙ ap (sort_of s) two_is in
    was_walked s order e made _ there (λ w same. record {
      value = ap (λ (w : Walked). value_in w.shape) same
          ∙ ap (λ l. assigning op (sort_of s l) found (assigned (is_number_place s l) (place_of s order l)) value) one_is
          ∙ ap (λ v. assigning op (sort_of s left) found (assigned (is_number_place s left) (place_of s order left)) v) value_known
          ∙ ap (λ k. assigning op (sort_of s left) k (assigned (is_number_place s left) (place_of s order left)) (expression_of s order right)) found_known
          ∙ assignment_of s order op left right at
          ∙ sym (ap (expression_of s order) whole);
      place = ap (λ (w : Walked). place_in w.shape) same ∙ sym (ap (place_of s order) whole);
      sort = ap (λ (w : Walked). w.sort) same
          ∙ ap (λ l. sort_of_assignment op (is_number_place s l) (is_message_place s l) (sort_of s l) found) one_is
          ∙ ap (sort_of_assignment op (is_number_place s left) (is_message_place s left) (sort_of s left)) found_known
          ∙ sym (ap (sort_of s) whole);
    })

-- the left side of an assignment
pub left_walked : {E : Type 0} (s : Scope) (order : List ℕ) (e : Expr) (op : Option BinOp) (is_place is_message : Bool) (l : Walked) (value : TExpr) (found : Sort)
    (made : Result Walked E) →
    is_place ≡ is_number_place s e → is_message ≡ is_message_place s e → place_in l.shape ≡ place_of s order e → l.sort ≡ sort_of s e →
    IfOk made (λ w. w ≡ record {
      shape = shape.Value (assigning op l.sort found (assigned is_place (place_in l.shape)) value);
      sort = sort_of_assignment op is_place is_message l.sort found;
    }) →
    IfOk made (λ w. w ≡ record {
      shape = shape.Value (assigning op (sort_of s e) found (assigned (is_number_place s e) (place_of s order e)) value);
      sort = sort_of_assignment op (is_number_place s e) (is_message_place s e) (sort_of s e) found;
    })
left_walked s order e op is_place is_message l value found made place_known message_known place_is sort_is there =
    let by : Sort → Bool → Bool → Option Place → Walked = λ k b m p. record {
      shape = shape.Value (assigning op k found (assigned b p) value);
      sort = sort_of_assignment op b m k found;
    } in
    subst (λ x. IfOk made (λ w. w ≡ x))
    (ap (λ k. by k is_place is_message (place_in l.shape)) sort_is
    ∙ ap (λ b. by (sort_of s e) b is_message (place_in l.shape)) place_known
    ∙ ap (λ m. by (sort_of s e) (is_number_place s e) m (place_in l.shape)) message_known
    ∙ ap (by (sort_of s e) (is_number_place s e) (is_message_place s e)) place_is)
    there

-- a binary operator
pub binary_walked : {E : Type 0} (s : Scope) (order : List ℕ) (e : Expr) (op : BinOp) (left right one two : Expr) (at : ℕ) (value : TExpr) (found : Sort)
    (made : Result Walked E) →
    e ≡ expr.Binary op left right at → one ≡ left → two ≡ right → value ≡ expression_of s order one → found ≡ sort_of s one →
    IfOk made (λ w. w ≡ record {
      shape = shape.Value (operation op (working_kind op (kind_in found) (kind_in (sort_of s two))) value (expression_of s order two));
      sort = sort_of_binary op found (sort_of s two);
    }) → WasWalked s order e made
binary_walked s order e op left right one two at value found made is one_is two_is value_is found_is there =
    let whole = is ∙ binary_form op left right at in
    let value_known : value ≡ expression_of s order left = value_is ∙ ap (expression_of s order) one_is in
    let found_known : found ≡ sort_of s left = found_is ∙ ap (sort_of s) one_is in
    was_walked s order e made _ there (λ w same. record {
      value = ap (λ (w : Walked). value_in w.shape) same
          ∙ ap (λ r. operation op (working_kind op (kind_in found) (kind_in (sort_of s r))) value (expression_of s order r)) two_is
          ∙ ap (λ v. operation op (working_kind op (kind_in found) (kind_in (sort_of s right))) v (expression_of s order right)) value_known
          ∙ ap (λ k. operation op (working_kind op (kind_in k) (kind_in (sort_of s right))) (expression_of s order left) (expression_of s order right)) found_known
          ∙ sym (ap (expression_of s order) whole);
      place = ap (λ (w : Walked). place_in w.shape) same ∙ sym (ap (place_of s order) whole);
      sort = ap (λ (w : Walked). w.sort) same
          ∙ ap (λ r. sort_of_binary op found (sort_of s r)) two_is
          ∙ ap (λ k. sort_of_binary op k (sort_of s right)) found_known
          ∙ sym (ap (sort_of s) whole);
    })

-- one of the parts of `?:`
pub record IsPart (s : Scope) (order : List ℕ) (e : Expr) (tree : TExpr) (found : Sort) : Type 0 where
  pub tree_is : tree ≡ expression_of s order e
  pub sort_is : found ≡ sort_of s e

-- a part that is walked over through a reference
pub part_of : (s : Scope) (order : List ℕ) (e walked : Expr) (tree : TExpr) (found : Sort) → walked ≡ e → tree ≡ expression_of s order walked →
    found ≡ sort_of s walked → IsPart s order e tree found
part_of s order e walked tree found is tree_is found_is = record {
  tree_is = tree_is ∙ ap (expression_of s order) is;
  sort_is = found_is ∙ ap (sort_of s) is;
}

-- `?:`
choice_made : (s : Scope) (order : List ℕ) (e test first second : Expr) (at : ℕ) (t y n : TExpr) (a b c : Sort) (w : Walked) →
    e ≡ expr.Cond test first second at → IsPart s order test t a → IsPart s order first y b → IsPart s order second n c →
    w ≡ record {
      shape = shape.Value (Cond t (Convert (join (kind_in b) (kind_in c)) y) (Convert (join (kind_in b) (kind_in c)) n));
      sort = sort_of_choice a b c;
    } → IsWalked s order e w
choice_made s order e test first second at t y n a b c w is test_is yes_is no_is made =
    let whole = is ∙ cond_form test first second at in
    let tree_by : TExpr → TExpr → TExpr → Sort → Sort → TExpr = λ t y n b c. Cond t (Convert (join (kind_in b) (kind_in c)) y) (Convert (join (kind_in b) (kind_in c)) n) in
    record {
      value = ap (λ (w : Walked). value_in w.shape) made
          ∙ ap (λ x. tree_by x y n b c) test_is.tree_is
          ∙ ap (λ x. tree_by (expression_of s order test) x n b c) yes_is.tree_is
          ∙ ap (λ x. tree_by (expression_of s order test) (expression_of s order first) x b c) no_is.tree_is
          ∙ ap (λ k. tree_by (expression_of s order test) (expression_of s order first) (expression_of s order second) k c) yes_is.sort_is
          ∙ ap (λ k. tree_by (expression_of s order test) (expression_of s order first) (expression_of s order second) (sort_of s first) k) no_is.sort_is
          ∙ sym (ap (expression_of s order) whole);
      place = ap (λ (w : Walked). place_in w.shape) made ∙ sym (ap (place_of s order) whole);
      sort = ap (λ (w : Walked). w.sort) made
          ∙ ap (λ k. sort_of_choice k b c) test_is.sort_is
          ∙ ap (λ k. sort_of_choice (sort_of s test) k c) yes_is.sort_is
          ∙ ap (λ k. sort_of_choice (sort_of s test) (sort_of s first) k) no_is.sort_is
          ∙ sym (ap (sort_of s) whole);
    }

-- `?:` was walked over
pub choice_walked : {E : Type 0} (s : Scope) (order : List ℕ) (e test first second : Expr) (at : ℕ) (t y n : TExpr) (a b c : Sort) (made : Result Walked E) →
    e ≡ expr.Cond test first second at → IsPart s order test t a → IsPart s order first y b → IsPart s order second n c →
    IfOk made (λ w. w ≡ record {
      shape = shape.Value (Cond t (Convert (join (kind_in b) (kind_in c)) y) (Convert (join (kind_in b) (kind_in c)) n));
      sort = sort_of_choice a b c;
    }) → WasWalked s order e made
choice_walked s order e test first second at t y n a b c made is test_is yes_is no_is there =
    was_walked s order e made _ there (λ w same. choice_made s order e test first second at t y n a b c w is test_is yes_is no_is same)
