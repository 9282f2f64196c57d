-- The code of a sound typed expression is shorter than the expression's weight.
use mathlib.Core.Former.{Count}
use Rattle.std.proofs.Common.{◌≡◌, ℕ, ◌+◌, ◌*◌, ◌≤◌, Bool, true, false, not, List, [], ◌∷◌, length, Option, Some, None, arith}
use Rattle.std.specs.Prelude.{⊤, pos, if◌then◌else◌, IsSomeAnd, slice_get}
use Rattle.std.specs.Option.{option_and_then, option_map_or}
use Rattle.int_kinds.specs.declared.kinds.Kind.{Kind}
use Rattle.int_kinds.specs.declared.operators.BinOp.{BinOp}
use Rattle.int_kinds.specs.declared.operators.BinOp.TheVariants as op
use Rattle.int_kinds.specs.declared.operators.UnOp.TheVariants as prefix
use Rattle.capl_tree.specs.declared.expr.Expr.{Expr, Row_of-Expr, end_of-Expr, more_of-Expr, items-the_row-Expr}
use Rattle.capl_tree.specs.declared.expr.Expr.TheVariants as expr
use Rattle.capl_tree.specs.declared.expr.Field.{Field}
use Rattle.capl_tree.specs.declared.expr.Field.TheVariants.{Named}
use Rattle.capl_tree.specs.Forms as tree
use Rattle.capl_tree.specs.Weight.{expression_weight, expressions_weight, field_weight}
use Rattle.typed_tree.specs.declared.expression.Place.{Place}
use Rattle.typed_tree.specs.declared.expression.TExpr.{TExpr, items-the_row-TExpr}
use Rattle.typed_tree.specs.declared.expression.TExpr.TheVariants.{Const, Call', Active}
use Rattle.typed_tree.specs.declared.program.TFun.{TFun}
use Rattle.typed_tree.specs.declared.program.Typed.{Typed}
use Rattle.typed_tree.specs.Forms as form
use Rattle.typed_tree.specs.Expression.{params_of}
use Rattle.typed_tree.specs.Shape.{has_index, is_checked_first, is_comparison, is_truth, is_wrapped_first}
use Rattle.typed_tree.specs.Size.{Sizes, args_size, both_sizes, bump_size, by_value, either_sizes, exit_size, index_size, negation_sizes, one_if, operator_sizes, sizes_of, truth_size}
use Rattle.typed_tree.specs.SoundExpression.{AreSoundArguments, HasSoundIndex, IsSoundAlone, IsSoundExpr}
use Rattle.capl_meaning.specs.declared.builtin.Builtin.{Builtin}
use Rattle.capl_meaning.specs.declared.builtin.Builtin.TheVariants as builtin
use Rattle.capl_meaning.specs.declared.field.MessageField.{MessageField}
use Rattle.capl_meaning.specs.declared.field.MessageField.TheVariants.{Id, Dlc, Rtr, Can, Dir, Time}
use Rattle.capl_meaning.specs.Variable.{Form, Number, Array, Message, Timer, Misfit, Variable}
use Rattle.capl_meaning.specs.Names.{Callee, OfLanguage, OfProgram, Scope, ThisForm, NoThis, ThisFrame, ThisKey, Unknown, callee, means}
use Rattle.capl_meaning.specs.Message.{Held, NamedMember, IsField, IsSignal, IsUnusable, IsUnknown, array_in, is_number_place, member_named, message_in, signals_of}
use Rattle.capl_meaning.specs.Sort.{kind_in, sort_of}
use Rattle.capl_meaning.specs.Constant.{branches_kind, elements_of, operands_kind}
use Rattle.capl_meaning.specs.Store.{timer_number}
use Rattle.capl_meaning.specs.Expression.{timer_in}
use Rattle.capl_meaning.specs.Inside.Expression.{step_operator}
use Rattle.typed_laws.specs.Laid.{message_slot}
use Rattle.typed_source.specs.Expression.{assigned, expression_of, loaded, of_builtin, of_call, of_name, of_this, operation, place_in, place_of, place_of_element, place_of_form, place_of_member, place_of_name, place_of_part, row_of, stepping, storing, updating}

-- ---- weights

-- each expression weighs 8 at least
pub at_least : (e : Expr) → 8 ≤ expression_weight e
at_least (expr.Num value extended at) = omega arith
at_least (expr.Char value at) = omega arith
at_least (expr.Str text at) = omega arith
at_least (expr.This at) = omega arith
at_least (expr.Name name at) = omega arith
at_least (tree.Paren inner at) = omega arith
at_least (expr.Call' name shape args at) = omega arith
at_least (tree.Index base index at) = omega arith
at_least (tree.Member base field at) = omega arith
at_least (tree.Cast kind inner at) = omega arith
at_least (tree.Unary operator inner at) = omega arith
at_least (tree.Post up inner at) = omega arith
at_least (tree.Binary operator left right at) = omega arith
at_least (tree.Cond test one other at) = omega arith
at_least (tree.Assign operator left right at) = omega arith

-- ---- sizes

-- as a value, and as a test, it is so much shorter than a weight
pub record Light (z : Sizes) (weight : ℕ) : Type 0 where
  pub value : z.value + 7 ≤ weight
  pub test : (when fires : Bool) → z.test when fires + 5 ≤ weight

exit_short : (when fires : Bool) → exit_size when fires ≤ 2
exit_short true true = omega arith
exit_short true false = omega arith
exit_short false true = omega arith
exit_short false false = omega arith

-- 1 or nothing is at most 1
pub one_short : (b : Bool) → one_if b ≤ 1
one_short true = omega arith
one_short false = omega arith

-- an expression that is a test by its value
pub by_value_light : (n weight : ℕ) → n + 7 ≤ weight → Light (by_value n) weight
by_value_light n weight h = record { value = h; test = λ when fires. let e : exit_size when fires ≤ 2 = exit_short when fires in omega (arith, h, e) }

heavier : (z : Sizes) (weight more : ℕ) → weight ≤ more → Light z weight → Light z more
heavier z weight more h f = record {
  value = let e : z.value + 7 ≤ weight = f.value in omega (arith, h, e);
  test = λ when fires. let e : z.test when fires + 5 ≤ weight = f.test when fires in omega (arith, h, e);
}

operator_light : (operator : BinOp) (n weight : ℕ) → n + 7 ≤ weight → Light (operator_sizes operator n) weight
operator_light operator n weight h = record { value = h; test = λ when fires. go (is_comparison operator) when fires }
  where
    go : (b when fires : Bool) → (if b then n + 1 else n + exit_size when fires) + 5 ≤ weight
    go true when fires = omega (arith, h)
    go false when fires = let e : exit_size when fires ≤ 2 = exit_short when fires in omega (arith, h, e)

truth_short : (b : Bool) → (if b then 0 else 2) ≤ 2
truth_short true = omega arith
truth_short false = omega arith

both_light : (a b : Sizes) (m n truth : ℕ) → truth ≤ 2 → Light a m → Light b n → Light (both_sizes a b truth) (8 + m + n)
both_light a b m n truth t f g = record {
  value = let p : a.test false false + 5 ≤ m = f.test false false in let q : b.value + 7 ≤ n = g.value in omega (arith, t, p, q);
  test = λ when fires. go when fires;
}
  where
    go : (when fires : Bool) → a.test false (if when then false else fires) + b.test when fires + 5 ≤ 8 + m + n
    go when fires =
        let p : a.test false (if when then false else fires) + 5 ≤ m = f.test false (if when then false else fires) in
        let q : b.test when fires + 5 ≤ n = g.test when fires in omega (arith, p, q)

either_light : (a b : Sizes) (m n truth : ℕ) → truth ≤ 2 → Light a m → Light b n → Light (either_sizes a b truth) (8 + m + n)
either_light a b m n truth t f g = record {
  value = let p : a.test false false + 5 ≤ m = f.test false false in let q : b.value + 7 ≤ n = g.value in omega (arith, t, p, q);
  test = λ when fires. go when fires;
}
  where
    go : (when fires : Bool) → a.test true (if when then fires else false) + b.test when fires + 5 ≤ 8 + m + n
    go when fires =
        let p : a.test true (if when then fires else false) + 5 ≤ m = f.test true (if when then fires else false) in
        let q : b.test when fires + 5 ≤ n = g.test when fires in omega (arith, p, q)

module _ (typed : Typed) (number : ℕ) where
  abbrev pub IsLight : TExpr → ℕ → Type 0
  IsLight t weight = Light (sizes_of typed t) weight

  -- an expression whose number is used may stand alone
  pub weaken : (t : TExpr) → IsSoundExpr typed number t → IsSoundAlone typed number t
  weaken (Call' f shape args) sound = (sound.0, sound.2)
  weaken t sound = sound

  -- ---- places

  -- the index of a place, if there is a place and it has one
  abbrev IsSoundPlace : Option Place → Type 0
  IsSoundPlace None = ⊤
  IsSoundPlace (Some place) = HasSoundIndex typed number place

  -- the index of a place is so much shorter than a weight
  abbrev IsLightPlace : Option Place → ℕ → Type 0
  IsLightPlace None weight = ⊤
  IsLightPlace (Some place) weight = index_size typed place + 8 ≤ weight

  heavier_place : (o : Option Place) (weight more : ℕ) → weight ≤ more → IsLightPlace o weight → IsLightPlace o more
  heavier_place None weight more h f = tt
  heavier_place (Some place) weight more h f = omega (arith, h, f)

  light_form : (names : _) (v : Variable) (f : Form) → IsLightPlace (place_of_form names v f) 8
  light_form names v (Number k fixed) = omega arith
  light_form names v other = tt

  light_name : (names : _) (o : Option Variable) → IsLightPlace (place_of_name names o) 8
  light_name names None = tt
  light_name names (Some v) = light_form names v v.form

  light_element : (names : _) (o : Option Variable) (t : TExpr) (weight : ℕ) → (IsSoundAlone typed number t → IsLight t weight) → IsSoundPlace (place_of_element names o t) →
      IsLightPlace (place_of_element names o t) (8 + weight)
  light_element names None t weight f sound = tt
  light_element names (Some v) t weight f sound = let e : (sizes_of typed t).value + 7 ≤ weight = (f (weaken t sound)).value in omega (arith, e)

  light_field : (at : ℕ) (f : MessageField) → IsLightPlace (place_of_member at (IsField f)) 8
  light_field at Id = omega arith
  light_field at Dlc = omega arith
  light_field at Rtr = omega arith
  light_field at Can = omega arith
  light_field at Dir = omega arith
  light_field at Time = omega arith

  light_member : (at : ℕ) (m : NamedMember) → IsLightPlace (place_of_member at m) 8
  light_member at (IsField f) = light_field at f
  light_member at (IsSignal layout) = omega arith
  light_member at IsUnusable = tt
  light_member at (IsUnknown by_name) = tt

  light_load : (o : Option Place) (weight : ℕ) → 8 ≤ weight → (IsSoundPlace o → IsLightPlace o weight) → IsSoundAlone typed number (loaded o) → IsLight (loaded o) weight
  light_load None weight h f sound = by_value_light 1 weight (omega (arith, h))
  light_load (Some place) weight h f sound = by_value_light (index_size typed place + 1) weight (let e : index_size typed place + 8 ≤ weight = f sound.1 in omega (arith, e))

  light_of_name : (names : _) (name : List ℕ) (o : Option Variable) → IsSoundAlone typed number (of_name names name o) → IsLight (of_name names name o) 8
  light_of_name names name None sound = by_value_light 1 8 (omega arith)
  light_of_name names name (Some v) sound = light_load (place_of_form names v v.form) 8 (omega arith) (λ _. light_form names v v.form) sound

  light_this : (f : ThisForm) → IsLight (of_this f) 8
  light_this ThisKey = by_value_light 1 8 (omega arith)
  light_this NoThis = by_value_light 1 8 (omega arith)
  light_this (ThisFrame signals) = by_value_light 1 8 (omega arith)

  -- ---- assignments and operators

  light_assigned : (b : Bool) (o : Option Place) (weight : ℕ) → (IsSoundPlace o → IsLightPlace o weight) → IsSoundPlace (assigned b o) → IsLightPlace (assigned b o) weight
  light_assigned true o weight f sound = f sound
  light_assigned false o weight f sound = tt

  light_store : (o : Option Place) (t : TExpr) (m n : ℕ) → (IsSoundPlace o → IsLightPlace o m) → (IsSoundAlone typed number t → IsLight t n) → IsSoundAlone typed number (storing o t) → IsLight (storing o t) (8 + m + n)
  light_store None t m n f g sound = heavier (sizes_of typed t) n (8 + m + n) (omega arith) (g sound)
  light_store (Some place) t m n f g sound =
      let p : index_size typed place + 8 ≤ m = f sound.1 in
      let q : (sizes_of typed t).value + 7 ≤ n = (g (weaken t sound.2)).value in
      let r : one_if (is_checked_first place t) ≤ 1 = one_short (is_checked_first place t) in
      by_value_light (index_size typed place + (one_if (is_checked_first place t) + ((sizes_of typed t).value + 1))) (8 + m + n) (omega (arith, p, q, r))

  light_update : (operator : BinOp) (k : Kind) (o : Option Place) (t : TExpr) (m n : ℕ) → (IsSoundPlace o → IsLightPlace o m) → (IsSoundAlone typed number t → IsLight t n) →
      IsSoundAlone typed number (updating operator k o t) → IsLight (updating operator k o t) (8 + m + n)
  light_update operator k None t m n f g sound =
      let q : (sizes_of typed t).value + 7 ≤ n = (g (weaken t sound.2)).value in
      operator_light operator (1 + ((sizes_of typed t).value + 1)) (8 + m + n) (omega (arith, q))
  light_update operator k (Some place) t m n f g sound =
      let p : index_size typed place + 8 ≤ m = f sound.1 in
      let q : (sizes_of typed t).value + 7 ≤ n = (g (weaken t sound.2)).value in
      let r : one_if (has_index place) ≤ 1 = one_short (has_index place) in
      let u : one_if (is_wrapped_first typed place k) ≤ 1 = one_short (is_wrapped_first typed place k) in
      by_value_light (index_size typed place + (one_if (has_index place) + (1 + ((sizes_of typed t).value + (1 + (one_if (is_wrapped_first typed place k) + 1)))))) (8 + m + n) (omega (arith, p, q, r, u))

  light_step : (k : Kind) (up post : Bool) (o : Option Place) (m : ℕ) → 8 ≤ m → (IsSoundPlace o → IsLightPlace o m) → IsSoundAlone typed number (stepping k up post o) → IsLight (stepping k up post o) (8 + m)
  light_step k up false None m h f sound = operator_light (step_operator up) (1 + (1 + 1)) (8 + m) (omega (arith, h))
  light_step k up true None m h f sound = by_value_light 1 (8 + m) (omega arith)
  light_step k up false (Some place) m h f sound =
      let p : index_size typed place + 8 ≤ m = f sound.1 in
      let r : one_if (has_index place) ≤ 1 = one_short (has_index place) in
      by_value_light (index_size typed place + bump_size place false) (8 + m) (omega (arith, p, r))
  light_step k up true (Some place) m h f sound =
      let p : index_size typed place + 8 ≤ m = f sound.1 in
      let r : one_if (has_index place) ≤ 1 = one_short (has_index place) in
      by_value_light (index_size typed place + bump_size place true) (8 + m) (omega (arith, p, r))

  light_operation : (operator : BinOp) (k : Kind) (t u : TExpr) (m n : ℕ) → (IsSoundAlone typed number t → IsLight t m) → (IsSoundAlone typed number u → IsLight u n) →
      IsSoundAlone typed number (operation operator k t u) → IsLight (operation operator k t u) (8 + m + n)
  light_operation op.AndAlso k t u m n f g sound = both_light (sizes_of typed t) (sizes_of typed u) m n (truth_size u) (truth_short (is_truth u)) (f (weaken t sound.1)) (g (weaken u sound.2))
  light_operation op.OrElse k t u m n f g sound = either_light (sizes_of typed t) (sizes_of typed u) m n (truth_size u) (truth_short (is_truth u)) (f (weaken t sound.1)) (g (weaken u sound.2))
  light_operation operator k t u m n f g sound =
      let p : (sizes_of typed t).value + 7 ≤ m = (f (weaken t sound.1)).value in
      let q : (sizes_of typed u).value + 7 ≤ n = (g (weaken u sound.2)).value in
      operator_light operator ((sizes_of typed t).value + ((sizes_of typed u).value + 1)) (8 + m + n) (omega (arith, p, q))

  light_one_more : (t : TExpr) (n : ℕ) → IsLight t n → Light (by_value ((sizes_of typed t).value + 1)) (8 + n)
  light_one_more t n f = let q : (sizes_of typed t).value + 7 ≤ n = f.value in by_value_light ((sizes_of typed t).value + 1) (8 + n) (omega (arith, q))

  light_not : (t : TExpr) (n : ℕ) → IsLight t n → Light (negation_sizes (sizes_of typed t)) (8 + n)
  light_not t n f = record {
    value = let q : (sizes_of typed t).value + 7 ≤ n = f.value in omega (arith, q);
    test = λ when fires. let q : (sizes_of typed t).test (not when) fires + 5 ≤ n = f.test (not when) fires in omega (arith, q);
  }

  light_choice : (k : Kind) (t u v : TExpr) (l m n : ℕ) → IsLight t l → IsLight u m → IsLight v n → IsLight (form.Cond t (form.Convert k u) (form.Convert k v)) (8 + l + m + n)
  light_choice k t u v l m n f g h =
      let p : (sizes_of typed t).test false false + 5 ≤ l = f.test false false in
      let q : (sizes_of typed u).value + 7 ≤ m = g.value in
      let r : (sizes_of typed v).value + 7 ≤ n = h.value in
      by_value_light ((sizes_of typed t).test false false + (((sizes_of typed u).value + 1) + (1 + ((sizes_of typed v).value + 1)))) (8 + l + m + n) (omega (arith, p, q, r))

  -- ---- calls

  light_builtin : (s : Scope) (b : Builtin) (arguments : List Expr) → IsLight (of_builtin s b arguments) 8
  light_builtin s builtin.IsTimerActive [] = by_value_light 1 8 (omega arith)
  light_builtin s builtin.IsTimerActive (timer ∷ []) = go (timer_in s timer)
    where
      go : (o : Option Variable) → IsLight (option_map_or (λ v. Active (timer_number s.names v)) o (Const (pos 0))) 8
      go None = by_value_light 1 8 (omega arith)
      go (Some v) = by_value_light 1 8 (omega arith)
  light_builtin s builtin.IsTimerActive (timer ∷ other ∷ rest) = by_value_light 1 8 (omega arith)
  light_builtin s builtin.ElCount [] = by_value_light 1 8 (omega arith)
  light_builtin s builtin.ElCount (array ∷ []) = go (array_in s array)
    where
      go : (o : Option Variable) → IsLight (option_map_or (λ v. Const (pos (elements_of s.names v))) o (Const (pos 0))) 8
      go None = by_value_light 1 8 (omega arith)
      go (Some v) = by_value_light 1 8 (omega arith)
  light_builtin s builtin.ElCount (array ∷ other ∷ rest) = by_value_light 1 8 (omega arith)
  light_builtin s builtin.TimeNow arguments = by_value_light 1 8 (omega arith)
  light_builtin s builtin.Output arguments = by_value_light 1 8 (omega arith)
  light_builtin s builtin.Write arguments = by_value_light 1 8 (omega arith)
  light_builtin s builtin.SetTimer arguments = by_value_light 1 8 (omega arith)
  light_builtin s builtin.SetTimerCyclic arguments = by_value_light 1 8 (omega arith)
  light_builtin s builtin.CancelTimer arguments = by_value_light 1 8 (omega arith)
  light_builtin s builtin.Stop arguments = by_value_light 1 8 (omega arith)

  light_call : (s : Scope) (order : List ℕ) (c : Callee) (arguments : List Expr) (called : ℕ → TExpr) (weight : ℕ) → 8 ≤ weight →
      ((k : ℕ) → IsSoundAlone typed number (called k) → IsLight (called k) weight) → IsSoundAlone typed number (of_call s order c arguments called) → IsLight (of_call s order c arguments called) weight
  light_call s order (OfLanguage b) arguments called weight h f sound = heavier (sizes_of typed (of_builtin s b arguments)) 8 weight h (light_builtin s b arguments)
  light_call s order (OfProgram g) arguments called weight h f sound = go (place_in order g.number) sound
    where
      go : (o : Option ℕ) → IsSoundAlone typed number (option_map_or called o (Const (pos 0))) → IsLight (option_map_or called o (Const (pos 0))) weight
      go None sound = by_value_light 1 weight (omega (arith, h))
      go (Some k) sound = f k sound
  light_call s order Unknown arguments called weight h f sound = by_value_light 1 weight (omega (arith, h))

  -- a call has as many arguments as its function has parameters
  as_many : (n : ℕ) (o : Option TFun) → IsSomeAnd o (λ function. n ≡ length function.params) → n ≡ length (option_map_or (λ (f : TFun). f.params) o [])
  as_many n None h = elim h [ ]
  as_many n (Some function) h = h

  module _ (s : Scope) (order : List ℕ) where
    mutual
      -- each expression, which may stand alone
      pub light : (e : Expr) → IsSoundAlone typed number (expression_of s order e) → IsLight (expression_of s order e) (expression_weight e)
      light (expr.Num value extended at) sound = by_value_light 1 8 (omega arith)
      light (expr.Char value at) sound = by_value_light 1 8 (omega arith)
      light (expr.Str text at) sound = by_value_light 1 8 (omega arith)
      light (expr.This at) sound = light_this s.this
      light (expr.Name name at) sound = light_of_name s.names name (means s name at) sound
      light (tree.Paren inner at) sound = heavier (sizes_of typed (expression_of s order inner)) (expression_weight inner) (8 + expression_weight inner) (omega arith) (light inner sound)
      light (expr.Call' name shape args at) sound =
          light_call s order (callee s.names name) (items-the_row-Expr _ args) (λ f. Call' f shape (row_of s order args)) (8 + expressions_weight args) (omega arith)
          (λ k sound.
          let few : args_size typed (row_of s order args) + 2 * length (items-the_row-TExpr _ (row_of s order args)) ≤ expressions_weight args = light_row args sound.1 in
          let same : length (items-the_row-TExpr _ (row_of s order args)) ≡ length (params_of typed k) =
          as_many (length (items-the_row-TExpr _ (row_of s order args))) (slice_get typed.functions k) sound.0.calls_earlier.1 in
          by_value_light (args_size typed (row_of s order args) + (2 * length (params_of typed k) + 1)) (8 + expressions_weight args) (omega (arith, few, same))) sound
      light (tree.Index base index at) sound =
          light_load (place_of_element s.names (array_in s base) (expression_of s order index)) (8 + expression_weight base + expression_weight index) (omega arith)
          (λ place. heavier_place (place_of_element s.names (array_in s base) (expression_of s order index)) (8 + expression_weight index) (8 + expression_weight base + expression_weight index) (omega arith) (light_element s.names (array_in s base) (expression_of s order index) (expression_weight index) (light index) place)) sound
      light (tree.Member base field at) sound =
          light_load (option_and_then (place_of_part s order field) (message_in s base)) (8 + expression_weight base + field_weight field) (omega arith)
          (λ place. heavier_place (option_and_then (place_of_part s order field) (message_in s base)) (8 + field_weight field) (8 + expression_weight base + field_weight field) (omega arith) (light_part field (message_in s base) place)) sound
      light (tree.Cast kind inner at) sound = light_one_more (expression_of s order inner) (expression_weight inner) (light inner (weaken (expression_of s order inner) sound.1))
      light (tree.Unary prefix.Up inner at) sound =
          light_step (kind_in (sort_of s inner)) true false (assigned (is_number_place s inner) (place_of s order inner)) (expression_weight inner) (at_least inner) (light_assigned (is_number_place s inner) (place_of s order inner) (expression_weight inner) (light_place inner)) sound
      light (tree.Unary prefix.Down inner at) sound =
          light_step (kind_in (sort_of s inner)) false false (assigned (is_number_place s inner) (place_of s order inner)) (expression_weight inner) (at_least inner) (light_assigned (is_number_place s inner) (place_of s order inner) (expression_weight inner) (light_place inner)) sound
      light (tree.Unary prefix.Minus inner at) sound = light_one_more (expression_of s order inner) (expression_weight inner) (light inner (weaken (expression_of s order inner) sound.1))
      light (tree.Unary prefix.Plus inner at) sound = light_one_more (expression_of s order inner) (expression_weight inner) (light inner (weaken (expression_of s order inner) sound.1))
      light (tree.Unary prefix.Not inner at) sound = light_not (expression_of s order inner) (expression_weight inner) (light inner (weaken (expression_of s order inner) sound.1))
      light (tree.Unary prefix.Inv inner at) sound = light_one_more (expression_of s order inner) (expression_weight inner) (light inner (weaken (expression_of s order inner) sound.1))
      light (tree.Post up inner at) sound =
          light_step (kind_in (sort_of s inner)) up true (assigned (is_number_place s inner) (place_of s order inner)) (expression_weight inner) (at_least inner) (light_assigned (is_number_place s inner) (place_of s order inner) (expression_weight inner) (light_place inner)) sound
      light (tree.Binary operator left right at) sound =
          light_operation operator (operands_kind s operator left right) (expression_of s order left) (expression_of s order right) (expression_weight left) (expression_weight right) (light left) (light right) sound
      light (tree.Cond test one other at) sound =
          light_choice (branches_kind s one other) (expression_of s order test) (expression_of s order one) (expression_of s order other) (expression_weight test) (expression_weight one) (expression_weight other) (light test (weaken (expression_of s order test) sound.1)) (light one (weaken (expression_of s order one) sound.2.1)) (light other (weaken (expression_of s order other) sound.3.1))
      light (tree.Assign None left right at) sound =
          light_store (assigned (is_number_place s left) (place_of s order left)) (expression_of s order right) (expression_weight left) (expression_weight right) (light_assigned (is_number_place s left) (place_of s order left) (expression_weight left) (light_place left)) (light right) sound
      light (tree.Assign (Some operator) left right at) sound =
          light_update operator (operands_kind s operator left right) (assigned (is_number_place s left) (place_of s order left)) (expression_of s order right) (expression_weight left) (expression_weight right) (light_assigned (is_number_place s left) (place_of s order left) (expression_weight left) (light_place left)) (light right) sound

      -- each place
      light_place : (e : Expr) → IsSoundPlace (place_of s order e) → IsLightPlace (place_of s order e) (expression_weight e)
      light_place (tree.Paren inner at) sound = heavier_place (place_of s order inner) (expression_weight inner) (8 + expression_weight inner) (omega arith) (light_place inner sound)
      light_place (expr.Name name at) sound = light_name s.names (means s name at)
      light_place (tree.Index base index at) sound =
          heavier_place (place_of_element s.names (array_in s base) (expression_of s order index)) (8 + expression_weight index) (8 + expression_weight base + expression_weight index) (omega arith)
          (light_element s.names (array_in s base) (expression_of s order index) (expression_weight index) (light index) sound)
      light_place (tree.Member base field at) sound =
          heavier_place (option_and_then (place_of_part s order field) (message_in s base)) (8 + field_weight field) (8 + expression_weight base + field_weight field) (omega arith) (light_part field (message_in s base) sound)
      light_place e sound = tt

      light_part : (field : Field) (o : Option Held) → IsSoundPlace (option_and_then (place_of_part s order field) o) → IsLightPlace (option_and_then (place_of_part s order field) o) (8 + field_weight field)
      light_part field None sound = tt
      light_part (Named name at) (Some held) sound = light_member (message_slot s.names held) (member_named (signals_of held) name)
      light_part (tree.Bytes kind index at) (Some held) sound =
          let e : (sizes_of typed (expression_of s order index)).value + 7 ≤ expression_weight index = (light index (weaken (expression_of s order index) sound)).value in omega (arith, e)

      -- arguments, with two instructions for each
      pub light_row : {m : Count} (row : Row_of-Expr m) → AreSoundArguments typed number (row_of s order row) →
          args_size typed (row_of s order row) + 2 * length (items-the_row-TExpr m (row_of s order row)) ≤ expressions_weight row
      light_row end_of-Expr sound = omega arith
      light_row (more_of-Expr first rest) sound =
          let p : (sizes_of typed (expression_of s order first)).value + 7 ≤ expression_weight first = (light first (weaken (expression_of s order first) sound.0)).value in
          let q : args_size typed (row_of s order rest) + 2 * length (items-the_row-TExpr _ (row_of s order rest)) ≤ expressions_weight rest = light_row rest sound.1 in
          omega (arith, p, q)
