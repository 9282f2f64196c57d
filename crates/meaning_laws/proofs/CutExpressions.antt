-- Where an expression is cut, no turn is left.
use mathlib.Core.Former.{Count}
use Rattle.std.specs.Prelude.{ℕ, ◌≤◌, Bool, true, false, if◌then◌else◌, nat_lt, List, ◌∷◌, Option, Some, None, ℤ, pos, negsuc}
use Rattle.std.proofs.Common.{arith}
use Rattle.std.specs.Option.{option_map_or}
use Rattle.int_kinds.specs.declared.kinds.Kind.{Kind}
use Rattle.int_kinds.specs.declared.kinds.Kind.TheVariants.{Long}
use Rattle.int_kinds.specs.declared.operators.BinOp.{BinOp}
use Rattle.int_kinds.specs.declared.operators.BinOp.TheVariants as op
use Rattle.int_kinds.specs.declared.operators.UnOp.TheVariants as prefix
use Rattle.int_kinds.specs.Kind.{join, wrap}
use Rattle.int_kinds.specs.Arithmetic.{value}
use Rattle.run_effects.specs.declared.outcome.Outcome.TheVariants.{Trapped}
use Rattle.run_effects.specs.declared.outcome.TrapKind.TheVariants.{Index, ZeroDivisor}
use Rattle.control_flow.specs.World.{World, Run, Gives, Fails}
use Rattle.control_flow.specs.Control.{Calls, Computes}
use Rattle.capl_tree.specs.declared.expr.Expr.{Expr, Row_of-Expr, end_of-Expr, more_of-Expr}
use Rattle.capl_tree.specs.declared.expr.Expr.TheVariants as expr
use Rattle.capl_tree.specs.declared.expr.Field.{Field}
use Rattle.capl_tree.specs.declared.expr.Field.TheVariants.{Named}
use Rattle.capl_tree.specs.Forms as tree
use Rattle.capl_meaning.specs.Variable.{Variable}
use Rattle.capl_meaning.specs.Names.{Callee, OfLanguage, OfProgram, Unknown}
use Rattle.capl_meaning.specs.Message.{Held, array_in, is_number_place, message_in}
use Rattle.capl_meaning.specs.Sort.{kind_in, sort_of}
use Rattle.capl_meaning.specs.Operator.{prefix_value, truth_of}
use Rattle.capl_meaning.specs.Constant.{branches_kind, elements_of, operands_kind, prefix_kind}
use Rattle.capl_meaning.specs.Expression.{Memory, Setting, Spot, Nowhere, InBytes, call_value, calling, element_spot, field_spot, indexing, operates, part_spot, place_spot, reads, spot_of, step_by_one, stores, value_of, values_of}
use Rattle.capl_meaning.specs.Inside.Expression.{step_operator, value_of_name}
use Rattle.meaning_laws.proofs.Cuts.{EndsWithin, IsCutLast, either_cut, map_cut, test_cut, then_cut}

module _ (n : ℕ) where
  -- an index that is checked
  indexing_cut : {A : Type 0} (len : ℕ) (i : ℤ) (spot : ℕ → A) → IsCutLast n (λ w. indexing len i w spot)
  indexing_cut len (pos i) spot = record {
    cut = (either_cut n (nat_lt i len) (Gives (spot i)) (Fails (Trapped Index)) (record { cut = λ w le. omega arith }) (record { cut = λ w le. omega arith })).cut;
  }
  indexing_cut len (negsuc i) spot = record { cut = λ w le. omega arith }

  -- an operator
  operates_cut : (operator : BinOp) (k : Kind) (a b : ℤ) → IsCutLast n (operates operator k a b)
  operates_cut operator k a b = record { cut = value_given (value operator k a b) }
    where
      value_given : (v : Option ℤ) (w : World Memory) → w.turns ≤ n → EndsWithin w.turns (option_map_or (λ n. Gives n w) v (Fails (Trapped ZeroDivisor) w))
      value_given None w le = omega arith
      value_given (Some v) w le = omega arith

  -- a read of a spot
  reads_cut : (s : Setting) (spot : Spot) → IsCutLast n (reads s spot)
  reads_cut s spot = record { cut = λ w le. omega arith }

  -- a store at a spot
  stores_cut : (s : Setting) (spot : Spot) (v : ℤ) → IsCutLast n (stores s spot v)
  stores_cut s Nowhere v = record { cut = λ w le. omega arith }
  stores_cut s spot v = record { cut = λ w le. omega arith }

  -- a step by 1
  steps_cut : (s : Setting) (operator : BinOp) (is_behind : Bool) (k : Kind) (spot : Spot) → IsCutLast n (step_by_one s operator is_behind k spot)
  steps_cut s operator is_behind k spot = record {
    cut = (then_cut n _ _ (reads_cut s spot) (λ old.
        then_cut n _ _ (operates_cut operator (join k Long) old (pos 1)) (λ new.
        map_cut n (λ now. if is_behind then old else now) _ (stores_cut s spot new)))).cut;
  }

  -- the value of a name
  name_cut : (s : Setting) (name : List ℕ) (found : Option Variable) → IsCutLast n (value_of_name s name found)
  name_cut s name None = record { cut = λ w le. omega arith }
  name_cut s name (Some v) = record { cut = λ w le. omega arith }

  -- an element, where its index is so
  pub element_cut : (s : Setting) (array : Option Variable) (index : Computes Memory) → IsCutLast n index → IsCutLast n (element_spot s array index)
  element_cut s None index h = record { cut = λ w le. omega arith }
  element_cut s (Some v) index h = record { cut = (then_cut n index _ h (λ i. indexing_cut (elements_of s.scope.names v) i _)).cut }

  -- a part of what may be a message
  pub part_cut : (found : Option Held) (spot : Held → World Memory → Run Memory Spot) → ((held : Held) → IsCutLast n (spot held)) → IsCutLast n (part_spot found spot)
  part_cut None spot h = record { cut = λ w le. omega arith }
  part_cut (Some held) spot h = record { cut = (h held).cut }

  -- a place that can be assigned to
  pub place_cut : (s : Setting) (e : Expr) (spot : World Memory → Run Memory Spot) → IsCutLast n spot → IsCutLast n (place_spot s e spot)
  place_cut s e spot h = record { cut = (either_cut n (is_number_place s.scope e) spot (Gives Nowhere) h (record { cut = λ w le. omega arith })).cut }

module _ (n : ℕ) (s : Setting) (call : Calls Memory) (calls : (f : ℕ) → IsCutLast n (call f)) where
  call_cut : (found : Callee) (arguments : List Expr) (numbers : World Memory → Run Memory (List ℤ)) → IsCutLast n numbers →
      IsCutLast n (call_value s call found arguments numbers)
  call_cut (OfLanguage b) arguments numbers h = record { cut = λ w le. omega arith }
  call_cut (OfProgram f) arguments numbers h = record { cut = (then_cut n numbers (calling call f) h (λ ns. record { cut = λ w le. (calls f.number).cut _ le })).cut }
  call_cut Unknown arguments numbers h = record { cut = λ w le. omega arith }

  mutual
    -- where an expression is cut, no turn is left, if that is so of calls
    pub value_cut : (e : Expr) → IsCutLast n (value_of s call e)
    value_cut (expr.Num number extended at) = record { cut = λ w le. omega arith }
    value_cut (expr.Char character at) = record { cut = λ w le. omega arith }
    value_cut (expr.Str text at) = record { cut = λ w le. omega arith }
    value_cut (expr.This at) = record { cut = λ w le. omega arith }
    value_cut (expr.Name name at) = record { cut = (name_cut n s name _).cut }
    value_cut (tree.Paren inner at) = record { cut = (value_cut inner).cut }
    value_cut (expr.Call' name shape args at) = record { cut = (call_cut _ _ _ (values_cut args)).cut }
    value_cut (tree.Index base index at) = record {
      cut = (then_cut n _ _ (element_cut n s (array_in s.scope base) _ (value_cut index)) (reads_cut n s)).cut;
    }
    value_cut (tree.Member base field at) = record {
      cut = (then_cut n _ _ (part_cut n (message_in s.scope base) _ (field_cut field)) (reads_cut n s)).cut;
    }
    value_cut (tree.Cast kind inner at) = record { cut = (map_cut n (wrap kind) _ (value_cut inner)).cut }
    value_cut (tree.Unary prefix.Up inner at) = record {
      cut = (then_cut n _ _ (place_cut n s inner _ (spot_cut inner)) (steps_cut n s op.Add false (kind_in (sort_of s.scope inner)))).cut;
    }
    value_cut (tree.Unary prefix.Down inner at) = record {
      cut = (then_cut n _ _ (place_cut n s inner _ (spot_cut inner)) (steps_cut n s op.Sub false (kind_in (sort_of s.scope inner)))).cut;
    }
    value_cut (tree.Unary operator inner at) = record { cut = (map_cut n (prefix_value operator (prefix_kind s.scope inner)) _ (value_cut inner)).cut }
    value_cut (tree.Post up inner at) = record {
      cut = (then_cut n _ _ (place_cut n s inner _ (spot_cut inner)) (steps_cut n s (step_operator up) true (kind_in (sort_of s.scope inner)))).cut;
    }
    value_cut (tree.Binary op.AndAlso left right at) = record {
      cut = (test_cut n _ _ (Gives (pos 0)) (value_cut left) (map_cut n truth_of _ (value_cut right)) (record { cut = λ w le. omega arith })).cut;
    }
    value_cut (tree.Binary op.OrElse left right at) = record {
      cut = (test_cut n _ (Gives (pos 1)) _ (value_cut left) (record { cut = λ w le. omega arith }) (map_cut n truth_of _ (value_cut right))).cut;
    }
    value_cut (tree.Binary operator left right at) = record {
      cut = (then_cut n _ _ (value_cut left) (λ l. then_cut n _ _ (value_cut right) (λ r.
          operates_cut n operator (operands_kind s.scope operator left right) l r))).cut;
    }
    value_cut (tree.Cond test one other at) = record {
      cut = (test_cut n _ _ _ (value_cut test) (map_cut n (wrap (branches_kind s.scope one other)) _ (value_cut one))
          (map_cut n (wrap (branches_kind s.scope one other)) _ (value_cut other))).cut;
    }
    value_cut (tree.Assign None left right at) = record {
      cut = (then_cut n _ _ (place_cut n s left _ (spot_cut left)) (λ spot.
          then_cut n _ _ (value_cut right) (stores_cut n s spot))).cut;
    }
    value_cut (tree.Assign (Some operator) left right at) = record {
      cut = (then_cut n _ _ (place_cut n s left _ (spot_cut left)) (λ spot.
          then_cut n _ _ (reads_cut n s spot) (λ old. then_cut n _ _ (value_cut right) (λ v.
          then_cut n _ _ (operates_cut n operator (operands_kind s.scope operator left right) old v) (stores_cut n s spot))))).cut;
    }

    -- a place
    pub spot_cut : (e : Expr) → IsCutLast n (spot_of s call e)
    spot_cut (tree.Paren inner at) = record { cut = (spot_cut inner).cut }
    spot_cut (expr.Name name at) = record { cut = λ w le. omega arith }
    spot_cut (tree.Index base index at) = record { cut = (element_cut n s (array_in s.scope base) _ (value_cut index)).cut }
    spot_cut (tree.Member base field at) = record { cut = (part_cut n (message_in s.scope base) _ (field_cut field)).cut }
    spot_cut e = record { cut = λ w le. omega arith }

    -- a part of a message
    pub field_cut : (field : Field) (held : Held) → IsCutLast n (field_spot s call field held)
    field_cut (Named name at) held = record { cut = λ w le. omega arith }
    field_cut (tree.Bytes kind index at) held = record { cut = (then_cut n _ _ (value_cut index) (λ i. indexing_cut n _ i (InBytes held kind))).cut }

    -- arguments
    pub values_cut : {m : Count} (args : Row_of-Expr m) → IsCutLast n (values_of s call args)
    values_cut end_of-Expr = record { cut = λ w le. omega arith }
    values_cut (more_of-Expr first rest) = record {
      cut = (then_cut n _ _ (value_cut first) (λ v. map_cut n (λ vs. v ∷ vs) _ (values_cut rest))).cut;
    }
