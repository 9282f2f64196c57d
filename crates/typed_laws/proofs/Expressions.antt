-- Each form of a typed expression gives what its form of expressions gives.
use Rattle.std.proofs.Common.{◌≡◌, ℕ, Bool, true, false, List, Option, Some, None, refl, sym, ap, ◌∙◌, subst}
use Rattle.std.specs.Prelude.{ℤ, pos, bit_and, bit_or, bit_xor, if◌then◌else◌}
use Rattle.std.specs.Option.{option_map, option_map_or}
use Rattle.run_effects.specs.declared.outcome.Outcome.TheVariants.{Trapped}
use Rattle.run_effects.specs.declared.outcome.TrapKind.TheVariants.{ZeroDivisor}
use Rattle.int_kinds.specs.declared.kinds.Kind.{Kind}
use Rattle.int_kinds.specs.declared.kinds.Kind.TheVariants as kind
use Rattle.int_kinds.specs.declared.operators.BinOp.{BinOp}
use Rattle.int_kinds.specs.declared.operators.BinOp.TheVariants as op
use Rattle.int_kinds.specs.declared.operators.UnOp.{UnOp}
use Rattle.int_kinds.specs.declared.operators.UnOp.TheVariants as prefix
use Rattle.int_kinds.specs.Kind.{join, wrap}
use Rattle.int_kinds.specs.Arithmetic.{quotient, remainder, residue, truth, value}
use Rattle.int_kinds.proofs.Wrapping.{wrap-wrap}
use Rattle.texts.specs.declared.text.Text.{Text}
use Rattle.control_flow.specs.World.{World, Run, Gives, Fails, and_then, run_map}
use Rattle.capl_tree.specs.declared.expr.Expr.{Expr}
use Rattle.capl_tree.specs.declared.expr.Expr.TheVariants as expr
use Rattle.capl_tree.specs.declared.expr.Field.{Field}
use Rattle.capl_tree.specs.Forms as tree
use Rattle.typed_tree.specs.declared.expression.Place.{Place}
use Rattle.typed_tree.specs.declared.expression.Place.TheVariants.{Cell}
use Rattle.typed_tree.specs.declared.expression.TExpr.{TExpr}
use Rattle.typed_tree.specs.declared.expression.TExpr.TheVariants.{Const, Load, Bump}
use Rattle.typed_tree.specs.Forms.{Binary, Both, Cond, Convert, Either, Store, Unary, Update}
use Rattle.typed_tree.specs.SoundExpression.{IsOperation, IsPrefixOperation}
use Rattle.typed_tree.specs.Expression as typed
use Rattle.typed_tree.specs.Memory as cells
use Rattle.capl_meaning.specs.Variable.{Variable, identifier}
use Rattle.capl_meaning.specs.Names.{Names, Scope, ThisKey, direction, means}
use Rattle.capl_meaning.specs.Sort.{kind_in, sort_of}
use Rattle.capl_meaning.specs.Operator.{prefix_value, truth_of}
use Rattle.capl_meaning.specs.Constant.{branches_kind, operands_kind, prefix_kind}
use Rattle.capl_meaning.specs.Store.{This}
use Rattle.capl_meaning.specs.Expression.{Nowhere, InNumber, builtin_value, call_value, calling, operates, place_spot, reads, spot_of, step_by_one, stores, timer_in, value_of, value_of_this, values_of, with_arguments, with_store}
use Rattle.capl_meaning.specs.Inside.Expression.{step_operator, spot_of_name, value_of_name}
use Rattle.capl_meaning.specs.Expression as source
use Rattle.typed_laws.specs.Laid.{GivesOnly, IsOpen, IsReal, laid, laid_run, laid_spot}
use Rattle.typed_laws.specs.Agreement.{AssignsAs, Beside, GivesAs, StandsAs, source_setting, typed_setting}
use Rattle.typed_laws.proofs.Cells.{all_cells, read_laid, write_laid}
use Rattle.typed_laws.proofs.Runs.{deciding_same, map_same, then_only, then_same}

-- ---- reading and storing

module _ (names : Names) (order : List ℕ) (b : Beside names order) where
  -- the number at a place that is there
  pub reads_same : (scope : Scope) (spot : source.Spot) (w : World source.Memory) → IsReal names spot →
      typed.reads (laid_spot names spot) (laid names b.this w) ≡ laid_run names b.this (reads (source_setting b scope) spot w)
  reads_same scope spot w real = ap (λ n. Gives n (laid names b.this w)) (read_laid names b.plain.distinct b.this w.memory.store spot real)

  -- a number is stored at a place that is there and can be stored to
  pub stores_same : (scope : Scope) (spot : source.Spot) (n : ℤ) (w : World source.Memory) → IsReal names spot → IsOpen spot →
      typed.stores (typed_setting b) (laid_spot names spot) n (laid names b.this w) ≡ laid_run names b.this (stores (source_setting b scope) spot n w)
  stores_same scope spot n w real stored =
      ap (λ kinds. given (cells.write kinds (laid_spot names spot) n (all_cells names b.this w.memory.store))) b.fits.kinds
      ∙ ap given (write_laid names b.plain.distinct b.this w.memory.store spot n real stored)
      ∙ ap (λ m. Gives m (laid names b.this (with_store (source.write spot n w.memory.store) w))) (read_laid names b.plain.distinct b.this (source.write spot n w.memory.store) spot real)
      ∙ ap (laid_run names b.this) (sym (there spot stored))
    where
      given : List ℤ → Run cells.Memory ℤ
      given all = Gives (cells.read (laid_spot names spot) all) (cells.with_cells all (laid names b.this w))

      there : (spot : source.Spot) → IsOpen spot → stores (source_setting b scope) spot n w ≡ Gives (source.read b.this spot (source.write spot n w.memory.store)) (with_store (source.write spot n w.memory.store) w)
      there Nowhere h = elim h [ ]
      there spot h = refl

-- ---- operators

-- a truth is a number of every kind
truth_held : (k : Kind) (t : Bool) → wrap k (truth t) ≡ truth t
truth_held kind.Byte true = refl
truth_held kind.Byte false = refl
truth_held kind.Word true = refl
truth_held kind.Word false = refl
truth_held kind.Dword true = refl
truth_held kind.Dword false = refl
truth_held kind.Qword true = refl
truth_held kind.Qword false = refl
truth_held kind.Int true = refl
truth_held kind.Int false = refl
truth_held kind.Long true = refl
truth_held kind.Long false = refl
truth_held kind.Int64 true = refl
truth_held kind.Int64 false = refl
truth_held kind.Char true = refl
truth_held kind.Char false = refl

wrapped : (k : Kind) (m n : ℤ) → Some (wrap k m) ≡ Some n → wrap k n ≡ n
wrapped k m n e = let f : wrap k m ≡ n = let g : Some (wrap k m) ≡ Some n = e in cc in subst (λ z. wrap k z ≡ z) f (wrap-wrap k m)

tested : (k : Kind) (t : Bool) (n : ℤ) → Some (truth t) ≡ Some n → wrap k n ≡ n
tested k t n e = let f : truth t ≡ n = let g : Some (truth t) ≡ Some n = e in cc in subst (λ z. wrap k z ≡ z) f (truth_held k t)

divided : (k : Kind) (o : Option ℤ) (n : ℤ) → option_map (wrap k) o ≡ Some n → wrap k n ≡ n
divided k None n e = absurd (let f : None ≡ Some n = e in cc)
divided k (Some m) n e = wrapped k m n e

-- what an operator gives is a number of its kind
pub value_held : (operator : BinOp) (k : Kind) (a c n : ℤ) → value operator k a c ≡ Some n → wrap k n ≡ n
value_held op.OrElse k a c n e = absurd (let f : None ≡ Some n = e in cc)
value_held op.AndAlso k a c n e = absurd (let f : None ≡ Some n = e in cc)
value_held op.Or k a c n e = wrapped k (pos (bit_or (residue k a) (residue k c))) n e
value_held op.Xor k a c n e = wrapped k (pos (bit_xor (residue k a) (residue k c))) n e
value_held op.And k a c n e = wrapped k (pos (bit_and (residue k a) (residue k c))) n e
value_held op.Equal k a c n e = tested k _ n e
value_held op.NotEqual k a c n e = tested k _ n e
value_held op.Less k a c n e = tested k _ n e
value_held op.LessEqual k a c n e = tested k _ n e
value_held op.Greater k a c n e = tested k _ n e
value_held op.GreaterEqual k a c n e = tested k _ n e
value_held op.Shl k a c n e = wrapped k _ n e
value_held op.Shr k a c n e = wrapped k _ n e
value_held op.Add k a c n e = wrapped k _ n e
value_held op.Sub k a c n e = wrapped k _ n e
value_held op.Mul k a c n e = wrapped k _ n e
value_held op.Div k a c n e = divided k (quotient (wrap k a) (wrap k c)) n e
value_held op.Rem k a c n e = divided k (remainder (wrap k a) (wrap k c)) n e

-- an operator gives the same, or traps for the same cause
pub operates_same : (names : Names) (this : This) (operator : BinOp) (k : Kind) (m n : ℤ) (w : World source.Memory) →
    typed.operates operator k m n (laid names this w) ≡ laid_run names this (operates operator k m n w)
operates_same names this operator k m n w = go (value operator k m n)
  where
    go : (o : Option ℤ) → typed.gives_or_traps o (laid names this w) ≡ laid_run names this (option_map_or (λ n. Gives n w) o (Fails (Trapped ZeroDivisor) w))
    go None = refl
    go (Some n) = refl

-- what an operator gives is a number of its kind, where it gives something
operates_held : (operator : BinOp) (k : Kind) (m n : ℤ) (w : World source.Memory) → GivesOnly (λ new. wrap k new ≡ new) (operates operator k m n w)
operates_held operator k m n w = go (value operator k m n) refl
  where
    go : (o : Option ℤ) → value operator k m n ≡ o → GivesOnly (λ new. wrap k new ≡ new) (option_map_or (λ n. Gives n w) o (Fails (Trapped ZeroDivisor) w))
    go None e = tt
    go (Some new) e = value_held operator k m n new e

prefix_same : (operator : UnOp) (k : Kind) (n : ℤ) → typed.prefix_value operator k n ≡ prefix_value operator k n
prefix_same prefix.Minus k n = refl
prefix_same prefix.Plus k n = refl
prefix_same prefix.Not k n = refl
prefix_same prefix.Inv k n = refl
prefix_same prefix.Up k n = refl
prefix_same prefix.Down k n = refl

gives_all : {A : Type 0} (r : Run source.Memory A) → and_then r (λ a w. Gives a w) ≡ r
gives_all (Gives a w) = refl
gives_all (Fails o w) = refl

module _ (scope : Scope) (order : List ℕ) where
  -- ---- constants and places

  -- an expression that gives a number that is known before the run
  pub constant_as : (e : Expr) (n : ℤ) → ((b : Beside scope.names order) (w : World source.Memory) → value_of (source_setting b scope) b.call e w ≡ Gives n w) → GivesAs scope order e (Const n)
  constant_as e n f = record { same = λ b w. ap (laid_run scope.names b.this) (sym (f b w)) }

  pub number_as : (value : Option ℕ) (extended : Bool) (at : ℕ) → GivesAs scope order (expr.Num value extended at) (Const (option_map_or (λ n. pos (identifier n extended)) value (pos 0)))
  number_as value extended at = constant_as _ _ (λ b w. refl)

  pub character_as : (value at : ℕ) → GivesAs scope order (expr.Char value at) (Const (pos value))
  character_as value at = constant_as _ _ (λ b w. refl)

  pub text_as : (text : Text) (at : ℕ) → GivesAs scope order (expr.Str text at) (Const (pos 0))
  text_as text at = constant_as _ _ (λ b w. refl)

  -- RX, TX, and a name that means nothing
  pub unknown_name_as : (name : Text) (at : ℕ) → means scope name at ≡ None → GivesAs scope order (expr.Name name at) (Const (option_map_or pos (direction name) (pos 0)))
  unknown_name_as name at is = constant_as _ _ (λ b w. ap (λ o. value_of_name (source_setting b scope) name o w) is)

  -- the key of a key procedure
  pub key_as : (at : ℕ) → scope.this ≡ ThisKey → GivesAs scope order (expr.This at) (Load (Cell 14))
  key_as at is = record { same = λ b w. ap (λ f. Gives (value_of_this b.this f) (laid scope.names b.this w)) (sym is) }

  -- `this` elsewhere
  pub this_as : (at : ℕ) → ((this : This) → value_of_this this scope.this ≡ pos 0) → GivesAs scope order (expr.This at) (Const (pos 0))
  this_as at is = constant_as _ _ (λ b w. ap (λ n. Gives n w) (is b.this))

  pub paren_as : (inner : Expr) (at : ℕ) (t : TExpr) → GivesAs scope order inner t → GivesAs scope order (tree.Paren inner at) t
  paren_as inner at t f = record { same = λ b w. f.same b w }

  -- the number at a place
  load : (e : Expr) (place : Place) → ((b : Beside scope.names order) (w : World source.Memory) → GivesOnly (IsReal scope.names) (spot_of (source_setting b scope) b.call e w) →
      value_of (source_setting b scope) b.call e w ≡ and_then (spot_of (source_setting b scope) b.call e w) (reads (source_setting b scope))) →
      StandsAs scope order e (Some place) → GivesAs scope order e (Load place)
  load e place read f = record {
    same = λ b w.
        then_only scope.names b.this (IsReal scope.names) (laid_spot scope.names) (λ n. n) (spot_of (source_setting b scope) b.call e w) _ (reads (source_setting b scope)) typed.reads
        (f.same b w).0 (f.same b w).1 (λ spot w real. reads_same scope.names order b scope spot w real)
        ∙ ap (laid_run scope.names b.this) (sym (read b w (f.same b w).1));
  }

  -- where there is no place, 0
  nowhere : (e : Expr) → ((b : Beside scope.names order) (w : World source.Memory) →
      value_of (source_setting b scope) b.call e w ≡ and_then (spot_of (source_setting b scope) b.call e w) (reads (source_setting b scope))) →
      StandsAs scope order e None → GivesAs scope order e (Const (pos 0))
  nowhere e read f = constant_as e (pos 0) (λ b w. read b w ∙ ap (λ r. and_then r (reads (source_setting b scope))) (f.same b w))

  pub name_as : (name : Text) (at : ℕ) (place : Place) → StandsAs scope order (expr.Name name at) (Some place) → GivesAs scope order (expr.Name name at) (Load place)
  name_as name at place f = load (expr.Name name at) place (λ b w real. go b w (means scope name at) real) f
    where
      go : (b : Beside scope.names order) (w : World source.Memory) (o : Option Variable) → IsReal scope.names (spot_of_name o) →
          value_of_name (source_setting b scope) name o w ≡ reads (source_setting b scope) (spot_of_name o) w
      go b w None real = elim real [ ]
      go b w (Some v) real = refl

  -- a variable that is no number
  pub other_name_as : (name : Text) (at : ℕ) (v : Variable) → means scope name at ≡ Some v → StandsAs scope order (expr.Name name at) None → GivesAs scope order (expr.Name name at) (Const (pos 0))
  other_name_as name at v is f =
      nowhere (expr.Name name at) (λ b w. ap (λ o. value_of_name (source_setting b scope) name o w) is ∙ ap (λ o. reads (source_setting b scope) (spot_of_name o) w) (sym is)) f

  pub element_as : (base index : Expr) (at : ℕ) (place : Place) → StandsAs scope order (tree.Index base index at) (Some place) → GivesAs scope order (tree.Index base index at) (Load place)
  element_as base index at place f = load _ place (λ b w real. refl) f

  pub no_element_as : (base index : Expr) (at : ℕ) → StandsAs scope order (tree.Index base index at) None → GivesAs scope order (tree.Index base index at) (Const (pos 0))
  no_element_as base index at f = nowhere _ (λ b w. refl) f

  pub member_as : (base : Expr) (field : Field) (at : ℕ) (place : Place) → StandsAs scope order (tree.Member base field at) (Some place) → GivesAs scope order (tree.Member base field at) (Load place)
  member_as base field at place f = load _ place (λ b w real. refl) f

  pub no_member_as : (base : Expr) (field : Field) (at : ℕ) → StandsAs scope order (tree.Member base field at) None → GivesAs scope order (tree.Member base field at) (Const (pos 0))
  no_member_as base field at f = nowhere _ (λ b w. refl) f

  -- ---- operators

  pub cast_as : (k : Kind) (inner : Expr) (at : ℕ) (t : TExpr) → GivesAs scope order inner t → GivesAs scope order (tree.Cast k inner at) (Convert k t)
  cast_as k inner at t f = record { same = λ b w. map_same scope.names b.this (wrap k) (wrap k) _ _ (f.same b w) (λ n. refl) }

  pub prefix_as : (operator : UnOp) (inner : Expr) (at : ℕ) (k : Kind) (t : TExpr) → IsPrefixOperation operator → k ≡ prefix_kind scope inner → GivesAs scope order inner t →
      GivesAs scope order (tree.Unary operator inner at) (Unary operator k t)
  prefix_as operator inner at k t is kind f = record {
    same = λ b w.
        map_same scope.names b.this (prefix_value operator (prefix_kind scope inner)) (typed.prefix_value operator k) (value_of (source_setting b scope) b.call inner w) _ (f.same b w)
        (λ n. prefix_same operator k n ∙ ap (λ j. prefix_value operator j n) kind)
        ∙ ap (laid_run scope.names b.this) (sym (whole b w operator is));
  }
    where
      whole : (b : Beside scope.names order) (w : World source.Memory) (operator : UnOp) → IsPrefixOperation operator → value_of (source_setting b scope) b.call (tree.Unary operator inner at) w ≡
          run_map (prefix_value operator (prefix_kind scope inner)) (value_of (source_setting b scope) b.call inner w)
      whole b w prefix.Up h = elim h [ ]
      whole b w prefix.Down h = elim h [ ]
      whole b w operator h = refl

  pub binary_as : (operator : BinOp) (left right : Expr) (at : ℕ) (k : Kind) (t u : TExpr) → IsOperation operator → k ≡ operands_kind scope operator left right →
      GivesAs scope order left t → GivesAs scope order right u → GivesAs scope order (tree.Binary operator left right at) (Binary operator k t u)
  binary_as operator left right at k t u is kind f g = record {
    same = λ b w.
        ap (λ j. typed.value_of (typed_setting b) b.typed_call (Binary operator j t u) (laid scope.names b.this w)) kind
        ∙ then_same scope.names b.this (λ n. n) (λ n. n) (value_of (source_setting b scope) b.call left w) _ _ _ (f.same b w) (λ m w.
        then_same scope.names b.this (λ n. n) (λ n. n) (value_of (source_setting b scope) b.call right w) _ _ _ (g.same b w) (λ n w.
        operates_same scope.names b.this operator (operands_kind scope operator left right) m n w))
        ∙ ap (laid_run scope.names b.this) (sym (whole b w operator is));
  }
    where
      whole : (b : Beside scope.names order) (w : World source.Memory) (operator : BinOp) → IsOperation operator → value_of (source_setting b scope) b.call (tree.Binary operator left right at) w ≡
          and_then (value_of (source_setting b scope) b.call left w) (λ m w. and_then (value_of (source_setting b scope) b.call right w) (λ n w.
          operates operator (operands_kind scope operator left right) m n w))
      whole b w op.OrElse h = elim h [ ]
      whole b w op.AndAlso h = elim h [ ]
      whole b w operator h = refl

  pub both_as : (left right : Expr) (at : ℕ) (t u : TExpr) → GivesAs scope order left t → GivesAs scope order right u → GivesAs scope order (tree.Binary op.AndAlso left right at) (Both t u)
  both_as left right at t u f g = record {
    same = λ b w. deciding_same scope.names b.this (value_of (source_setting b scope) b.call left w) _ _ _ _ _ (f.same b w)
        (λ w. map_same scope.names b.this truth_of typed.truth_of _ _ (g.same b w) (λ n. refl)) (λ w. refl);
  }

  pub either_as : (left right : Expr) (at : ℕ) (t u : TExpr) → GivesAs scope order left t → GivesAs scope order right u → GivesAs scope order (tree.Binary op.OrElse left right at) (Either t u)
  either_as left right at t u f g = record {
    same = λ b w. deciding_same scope.names b.this (value_of (source_setting b scope) b.call left w) _ _ _ _ _ (f.same b w)
        (λ w. refl) (λ w. map_same scope.names b.this truth_of typed.truth_of _ _ (g.same b w) (λ n. refl));
  }

  pub choice_as : (test one other : Expr) (at : ℕ) (k : Kind) (t u v : TExpr) → k ≡ branches_kind scope one other →
      GivesAs scope order test t → GivesAs scope order one u → GivesAs scope order other v → GivesAs scope order (tree.Cond test one other at) (Cond t (Convert k u) (Convert k v))
  choice_as test one other at k t u v kind f g h = record {
    same = λ b w.
        deciding_same scope.names b.this (value_of (source_setting b scope) b.call test w) _ _ _ _ _ (f.same b w)
        (λ w. map_same scope.names b.this (wrap (branches_kind scope one other)) (wrap k) _ _ (g.same b w) (λ n. ap (λ j. wrap j n) kind))
        (λ w. map_same scope.names b.this (wrap (branches_kind scope one other)) (wrap k) _ _ (h.same b w) (λ n. ap (λ j. wrap j n) kind));
  }

  -- ---- assignments

  pub store_as : (left right : Expr) (at : ℕ) (place : Place) (t : TExpr) → AssignsAs scope order left (Some place) → GivesAs scope order right t →
      GivesAs scope order (tree.Assign None left right at) (Store place t)
  store_as left right at place t f g = record {
    same = λ b w. then_only scope.names b.this (λ spot. IsReal scope.names spot × IsOpen spot) (laid_spot scope.names) (λ n. n) _ _ _ _ (f.same b w).0 (f.same b w).1 (λ spot w real.
        then_same scope.names b.this (λ n. n) (λ n. n) (value_of (source_setting b scope) b.call right w) _ _ _ (g.same b w) (λ n w.
        stores_same scope.names order b scope spot n w real.0 real.1));
  }

  -- an assignment to what is no place gives its right side
  pub store_nowhere_as : (left right : Expr) (at : ℕ) (t : TExpr) → AssignsAs scope order left None → GivesAs scope order right t → GivesAs scope order (tree.Assign None left right at) t
  store_nowhere_as left right at t f g = record {
    same = λ b w.
        g.same b w ∙ ap (laid_run scope.names b.this) (sym (ap (λ r. and_then r (λ spot w. and_then (value_of (source_setting b scope) b.call right w) (stores (source_setting b scope) spot))) (f.same b w)
        ∙ gives_all (value_of (source_setting b scope) b.call right w)));
  }

  pub update_as : (operator : BinOp) (left right : Expr) (at : ℕ) (k : Kind) (place : Place) (t : TExpr) → k ≡ operands_kind scope operator left right →
      AssignsAs scope order left (Some place) → GivesAs scope order right t → GivesAs scope order (tree.Assign (Some operator) left right at) (Update operator k k place t)
  update_as operator left right at k place t kind f g = record {
    same = λ b w.
        let names = scope.names in
        let s = source_setting b scope in
        let j = operands_kind scope operator left right in
        ap (λ i. typed.value_of (typed_setting b) b.typed_call (Update operator i i place t) (laid names b.this w)) kind
        ∙ then_only names b.this (λ spot. IsReal names spot × IsOpen spot) (laid_spot names) (λ n. n) _ _ _ _ (f.same b w).0 (f.same b w).1 (λ spot w real.
        then_same names b.this (λ n. n) (λ n. n) (reads s spot w) _ _ (working b (laid_spot names spot)) (reads_same names order b scope spot w real.0) (λ old w.
        then_same names b.this (λ n. n) (λ n. n) (value_of s b.call right w) _ _ (operating b (laid_spot names spot) old) (g.same b w) (λ n w.
        then_only names b.this (λ new. wrap j new ≡ new) (λ n. n) (λ n. n) (operates operator j old n w) _ _ (storing b (laid_spot names spot)) (operates_same names b.this operator j old n w) (operates_held operator j old n w) (λ new w held.
        ap (λ m. typed.stores (typed_setting b) (laid_spot names spot) m (laid names b.this w)) held ∙ stores_same names order b scope spot new w real.0 real.1))));
  }
    where
      storing : (b : Beside scope.names order) → cells.Spot → ℤ → World cells.Memory → Run cells.Memory ℤ
      storing b spot new w = typed.stores (typed_setting b) spot (wrap (operands_kind scope operator left right) new) w

      operating : (b : Beside scope.names order) → cells.Spot → ℤ → ℤ → World cells.Memory → Run cells.Memory ℤ
      operating b spot old n w = and_then (typed.operates operator (operands_kind scope operator left right) old n w) (storing b spot)

      working : (b : Beside scope.names order) → cells.Spot → ℤ → World cells.Memory → Run cells.Memory ℤ
      working b spot old w = and_then (typed.value_of (typed_setting b) b.typed_call t w) (operating b spot old)

  -- one to what is no place works on 0, and gives what the operator gives
  pub update_nowhere_as : (operator : BinOp) (left right : Expr) (at : ℕ) (k : Kind) (t : TExpr) → k ≡ operands_kind scope operator left right →
      AssignsAs scope order left None → GivesAs scope order right t → GivesAs scope order (tree.Assign (Some operator) left right at) (Binary operator k (Const (pos 0)) t)
  update_nowhere_as operator left right at k t kind f g = record {
    same = λ b w.
        let names = scope.names in
        let s = source_setting b scope in
        let j = operands_kind scope operator left right in
        ap (λ i. typed.value_of (typed_setting b) b.typed_call (Binary operator i (Const (pos 0)) t) (laid names b.this w)) kind
        ∙ then_same names b.this (λ n. n) (λ n. n) (value_of s b.call right w) _ _ _ (g.same b w) (λ n w. operates_same names b.this operator j (pos 0) n w ∙ ap (laid_run names b.this) (sym (gives_all (operates operator j (pos 0) n w))))
        ∙ ap (laid_run names b.this) (sym (ap (λ r. and_then r (λ spot w. and_then (reads s spot w) (λ old w. and_then (value_of s b.call right w) (λ n w. and_then (operates operator j old n w) (stores s spot))))) (f.same b w)));
  }

  -- ---- `++` and `--`

  steps_same : (b : Beside scope.names order) (e : Expr) (place : Place) (up behind : Bool) (k : Kind) (w : World source.Memory) → AssignsAs scope order e (Some place) →
      typed.value_of (typed_setting b) b.typed_call (Bump place (join k kind.Long) up behind) (laid scope.names b.this w) ≡
      laid_run scope.names b.this (and_then (place_spot (source_setting b scope) e (spot_of (source_setting b scope) b.call e) w) (step_by_one (source_setting b scope) (step_operator up) behind k))
  steps_same b e place up behind k w f =
      let names = scope.names in
      let s = source_setting b scope in
      let last : Bool → cells.Spot → ℤ → ℤ → World cells.Memory → Run cells.Memory ℤ =
      λ behind spot old new w. run_map (λ now. if behind then old else now) (typed.stores (typed_setting b) spot new w) in
      let further : Bool → cells.Spot → ℤ → World cells.Memory → Run cells.Memory ℤ =
      λ behind spot old w. and_then (typed.operates (step_operator up) (join k kind.Long) old (pos 1) w) (last behind spot old) in
      then_only names b.this (λ spot. IsReal names spot × IsOpen spot) (laid_spot names) (λ n. n) _ _ _ _ (f.same b w).0 (f.same b w).1 (λ spot w real.
      then_same names b.this (λ n. n) (λ n. n) (reads s spot w) _ _ (further behind (laid_spot names spot)) (reads_same names order b scope spot w real.0) (λ old w.
      then_same names b.this (λ n. n) (λ n. n) (operates (step_operator up) (join k kind.Long) old (pos 1) w) _ _ (last behind (laid_spot names spot) old)
      (operates_same names b.this (step_operator up) (join k kind.Long) old (pos 1) w) (λ new w.
      map_same names b.this (λ now. if behind then old else now) (λ now. if behind then old else now) (stores s spot new w) _ (stores_same names order b scope spot new w real.0 real.1) (λ n. refl))))

  -- before a place
  pub step_as : (up : Bool) (inner : Expr) (at : ℕ) (k : Kind) (place : Place) → k ≡ join (kind_in (sort_of scope inner)) kind.Long → AssignsAs scope order inner (Some place) →
      GivesAs scope order (tree.Unary (if up then prefix.Up else prefix.Down) inner at) (Bump place k up false)
  step_as true inner at k place kind f = record {
    same = λ b w. ap (λ j. typed.value_of (typed_setting b) b.typed_call (Bump place j true false) (laid scope.names b.this w)) kind ∙ steps_same b inner place true false (kind_in (sort_of scope inner)) w f;
  }
  step_as false inner at k place kind f = record {
    same = λ b w. ap (λ j. typed.value_of (typed_setting b) b.typed_call (Bump place j false false) (laid scope.names b.this w)) kind ∙ steps_same b inner place false false (kind_in (sort_of scope inner)) w f;
  }

  -- behind a place
  pub step_behind_as : (up : Bool) (inner : Expr) (at : ℕ) (k : Kind) (place : Place) → k ≡ join (kind_in (sort_of scope inner)) kind.Long → AssignsAs scope order inner (Some place) →
      GivesAs scope order (tree.Post up inner at) (Bump place k up true)
  step_behind_as up inner at k place kind f = record {
    same = λ b w. ap (λ j. typed.value_of (typed_setting b) b.typed_call (Bump place j up true) (laid scope.names b.this w)) kind ∙ steps_same b inner place up true (kind_in (sort_of scope inner)) w f;
  }

  -- where there is no place 1 is added to 0, or taken from it, and behind it gives 0
  nowhere_steps : (b : Beside scope.names order) (e : Expr) (up behind : Bool) (k : Kind) (w : World source.Memory) → AssignsAs scope order e None →
      and_then (place_spot (source_setting b scope) e (spot_of (source_setting b scope) b.call e) w) (step_by_one (source_setting b scope) (step_operator up) behind k) ≡
      and_then (operates (step_operator up) (join k kind.Long) (pos 0) (pos 1) w) (λ new w. Gives (if behind then pos 0 else new) w)
  nowhere_steps b e up behind k w f = ap (λ r. and_then r (step_by_one (source_setting b scope) (step_operator up) behind k)) (f.same b w)

  nowhere_step : (b : Beside scope.names order) (e : Expr) (up : Bool) (k : Kind) (w : World source.Memory) → AssignsAs scope order e None →
      typed.operates (step_operator up) (join k kind.Long) (pos 0) (pos 1) (laid scope.names b.this w) ≡
      laid_run scope.names b.this (and_then (place_spot (source_setting b scope) e (spot_of (source_setting b scope) b.call e) w) (step_by_one (source_setting b scope) (step_operator up) false k))
  nowhere_step b e up k w f =
      operates_same scope.names b.this (step_operator up) (join k kind.Long) (pos 0) (pos 1) w
      ∙ ap (laid_run scope.names b.this) (sym (nowhere_steps b e up false k w f ∙ gives_all (operates (step_operator up) (join k kind.Long) (pos 0) (pos 1) w)))

  pub step_nowhere_as : (up : Bool) (inner : Expr) (at : ℕ) (k : Kind) → k ≡ join (kind_in (sort_of scope inner)) kind.Long → AssignsAs scope order inner None →
      GivesAs scope order (tree.Unary (if up then prefix.Up else prefix.Down) inner at) (Binary (step_operator up) k (Const (pos 0)) (Const (pos 1)))
  step_nowhere_as true inner at k kind f = record {
    same = λ b w. ap (λ j. typed.operates op.Add j (pos 0) (pos 1) (laid scope.names b.this w)) kind ∙ nowhere_step b inner true (kind_in (sort_of scope inner)) w f;
  }
  step_nowhere_as false inner at k kind f = record {
    same = λ b w. ap (λ j. typed.operates op.Sub j (pos 0) (pos 1) (laid scope.names b.this w)) kind ∙ nowhere_step b inner false (kind_in (sort_of scope inner)) w f;
  }

  pub step_behind_nowhere_as : (up : Bool) (inner : Expr) (at : ℕ) → AssignsAs scope order inner None → GivesAs scope order (tree.Post up inner at) (Const (pos 0))
  step_behind_nowhere_as true inner at f = constant_as _ _ (λ b w. nowhere_steps b inner true true (kind_in (sort_of scope inner)) w f)
  step_behind_nowhere_as false inner at f = constant_as _ _ (λ b w. nowhere_steps b inner false true (kind_in (sort_of scope inner)) w f)
