-- No expression adds turns.
use mathlib.Core.Former.{Count}
use Rattle.std.specs.Prelude.{ℕ, Bool, true, false, if◌then◌else◌, nat_lt, List, ◌∷◌, Option, Some, None, ℤ, pos, negsuc}
use Rattle.std.proofs.Common.{arith}
use Rattle.std.specs.Option.{option_map_or}
use Rattle.int_kinds.specs.declared.kinds.Kind.{Kind}
use Rattle.int_kinds.specs.declared.kinds.Kind.TheVariants.{Long}
use Rattle.int_kinds.specs.declared.operators.BinOp.{BinOp}
use Rattle.int_kinds.specs.declared.operators.BinOp.TheVariants as op
use Rattle.int_kinds.specs.declared.operators.UnOp.TheVariants as prefix
use Rattle.int_kinds.specs.Kind.{join, wrap}
use Rattle.int_kinds.specs.Arithmetic.{value}
use Rattle.run_effects.specs.declared.outcome.Outcome.TheVariants.{Trapped}
use Rattle.run_effects.specs.declared.outcome.TrapKind.TheVariants.{Index, ZeroDivisor}
use Rattle.control_flow.specs.World.{World, Run, Gives, Fails}
use Rattle.control_flow.specs.Control.{Calls, Computes}
use Rattle.control_flow.specs.Turns.{AddsNoTurns, LeavesAtMost}
use Rattle.capl_tree.specs.declared.expr.Expr.{Expr, Row_of-Expr, end_of-Expr, more_of-Expr}
use Rattle.capl_tree.specs.declared.expr.Expr.TheVariants as expr
use Rattle.capl_tree.specs.declared.expr.Field.{Field}
use Rattle.capl_tree.specs.declared.expr.Field.TheVariants.{Named}
use Rattle.capl_tree.specs.Forms as tree
use Rattle.capl_meaning.specs.Variable.{Variable}
use Rattle.capl_meaning.specs.Names.{Callee, OfLanguage, OfProgram, Unknown}
use Rattle.capl_meaning.specs.Message.{Held, array_in, is_number_place, message_in}
use Rattle.capl_meaning.specs.Sort.{kind_in, sort_of}
use Rattle.capl_meaning.specs.Operator.{prefix_value, truth_of}
use Rattle.capl_meaning.specs.Constant.{branches_kind, elements_of, operands_kind, prefix_kind}
use Rattle.capl_meaning.specs.Expression.{Memory, Setting, Spot, Nowhere, InBytes, call_value, calling, element_spot, field_spot, indexing, operates, part_spot, place_spot, reads, spot_of, step_by_one, stores, value_of, values_of}
use Rattle.capl_meaning.specs.Inside.Expression.{step_operator, value_of_name}
use Rattle.meaning_laws.proofs.Parts.{either_adds_none, map_adds_none, test_adds_none, then_adds_none}

-- an index that is checked
indexing_adds_none : {A : Type 0} (len : ℕ) (i : ℤ) (spot : ℕ → A) → AddsNoTurns (λ w. indexing len i w spot)
indexing_adds_none len (pos i) spot = record {
  turns = (either_adds_none (nat_lt i len) (Gives (spot i)) (Fails (Trapped Index)) (record { turns = λ w. omega arith }) (record { turns = λ w. omega arith })).turns;
}
indexing_adds_none len (negsuc i) spot = record { turns = λ w. omega arith }

-- an operator
operates_adds_none : (operator : BinOp) (k : Kind) (a b : ℤ) → AddsNoTurns (operates operator k a b)
operates_adds_none operator k a b = record { turns = at_most_value (value operator k a b) }
  where
    at_most_value : (n : Option ℤ) (w : World Memory) → LeavesAtMost w.turns (option_map_or (λ v. Gives v w) n (Fails (Trapped ZeroDivisor) w))
    at_most_value None w = omega arith
    at_most_value (Some n) w = omega arith

-- a read of a spot
reads_add_none : (s : Setting) (spot : Spot) → AddsNoTurns (reads s spot)
reads_add_none s spot = record { turns = λ w. omega arith }

-- a store at a spot
stores_add_none : (s : Setting) (spot : Spot) (n : ℤ) → AddsNoTurns (stores s spot n)
stores_add_none s Nowhere n = record { turns = λ w. omega arith }
stores_add_none s spot n = record { turns = λ w. omega arith }

-- a step by 1
steps_add_none : (s : Setting) (operator : BinOp) (is_behind : Bool) (k : Kind) (spot : Spot) → AddsNoTurns (step_by_one s operator is_behind k spot)
steps_add_none s operator is_behind k spot = record {
  turns = (then_adds_none _ _ (reads_add_none s spot) (λ old.
      then_adds_none _ _ (operates_adds_none operator (join k Long) old (pos 1)) (λ new.
      map_adds_none (λ now. if is_behind then old else now) _ (stores_add_none s spot new)))).turns;
}

-- the value of a name
name_adds_none : (s : Setting) (name : List ℕ) (found : Option Variable) → AddsNoTurns (value_of_name s name found)
name_adds_none s name None = record { turns = λ w. omega arith }
name_adds_none s name (Some v) = record { turns = λ w. omega arith }

-- an element, where its index adds none
pub element_adds_none : (s : Setting) (array : Option Variable) (index : Computes Memory) → AddsNoTurns index → AddsNoTurns (element_spot s array index)
element_adds_none s None index h = record { turns = λ w. omega arith }
element_adds_none s (Some v) index h = record { turns = (then_adds_none index _ h (λ i. indexing_adds_none (elements_of s.scope.names v) i _)).turns }

-- a part of what may be a message
pub part_adds_none : (found : Option Held) (spot : Held → World Memory → Run Memory Spot) → ((held : Held) → AddsNoTurns (spot held)) → AddsNoTurns (part_spot found spot)
part_adds_none None spot h = record { turns = λ w. omega arith }
part_adds_none (Some held) spot h = record { turns = (h held).turns }

-- a place that can be assigned to
pub place_adds_none : (s : Setting) (e : Expr) (spot : World Memory → Run Memory Spot) → AddsNoTurns spot → AddsNoTurns (place_spot s e spot)
place_adds_none s e spot h = record { turns = (either_adds_none (is_number_place s.scope e) spot (Gives Nowhere) h (record { turns = λ w. omega arith })).turns }

module _ (s : Setting) (call : Calls Memory) (calls : (f : ℕ) → AddsNoTurns (call f)) where
  call_adds_none : (found : Callee) (arguments : List Expr) (numbers : World Memory → Run Memory (List ℤ)) → AddsNoTurns numbers →
      AddsNoTurns (call_value s call found arguments numbers)
  call_adds_none (OfLanguage b) arguments numbers h = record { turns = λ w. omega arith }
  call_adds_none (OfProgram f) arguments numbers h = record { turns = (then_adds_none numbers (calling call f) h (λ ns. record { turns = λ w. (calls f.number).turns _ })).turns }
  call_adds_none Unknown arguments numbers h = record { turns = λ w. omega arith }

  mutual
    -- an expression adds no turns, where calls add none
    pub value_adds_none : (e : Expr) → AddsNoTurns (value_of s call e)
    value_adds_none (expr.Num number extended at) = record { turns = λ w. omega arith }
    value_adds_none (expr.Char character at) = record { turns = λ w. omega arith }
    value_adds_none (expr.Str text at) = record { turns = λ w. omega arith }
    value_adds_none (expr.This at) = record { turns = λ w. omega arith }
    value_adds_none (expr.Name name at) = record { turns = (name_adds_none s name _).turns }
    value_adds_none (tree.Paren inner at) = record { turns = (value_adds_none inner).turns }
    value_adds_none (expr.Call' name shape args at) = record { turns = (call_adds_none _ _ _ (values_add_none args)).turns }
    value_adds_none (tree.Index base index at) = record {
      turns = (then_adds_none _ _ (element_adds_none s (array_in s.scope base) _ (value_adds_none index)) (reads_add_none s)).turns;
    }
    value_adds_none (tree.Member base field at) = record {
      turns = (then_adds_none _ _ (part_adds_none (message_in s.scope base) _ (field_adds_none field)) (reads_add_none s)).turns;
    }
    value_adds_none (tree.Cast kind inner at) = record { turns = (map_adds_none (wrap kind) _ (value_adds_none inner)).turns }
    value_adds_none (tree.Unary prefix.Up inner at) = record {
      turns = (then_adds_none _ _ (place_adds_none s inner _ (spot_adds_none inner)) (steps_add_none s op.Add false (kind_in (sort_of s.scope inner)))).turns;
    }
    value_adds_none (tree.Unary prefix.Down inner at) = record {
      turns = (then_adds_none _ _ (place_adds_none s inner _ (spot_adds_none inner)) (steps_add_none s op.Sub false (kind_in (sort_of s.scope inner)))).turns;
    }
    value_adds_none (tree.Unary operator inner at) = record { turns = (map_adds_none (prefix_value operator (prefix_kind s.scope inner)) _ (value_adds_none inner)).turns }
    value_adds_none (tree.Post up inner at) = record {
      turns = (then_adds_none _ _ (place_adds_none s inner _ (spot_adds_none inner)) (steps_add_none s (step_operator up) true (kind_in (sort_of s.scope inner)))).turns;
    }
    value_adds_none (tree.Binary op.AndAlso left right at) = record {
      turns = (test_adds_none _ _ (Gives (pos 0)) (value_adds_none left) (map_adds_none truth_of _ (value_adds_none right)) (record { turns = λ w. omega arith })).turns;
    }
    value_adds_none (tree.Binary op.OrElse left right at) = record {
      turns = (test_adds_none _ (Gives (pos 1)) _ (value_adds_none left) (record { turns = λ w. omega arith }) (map_adds_none truth_of _ (value_adds_none right))).turns;
    }
    value_adds_none (tree.Binary operator left right at) = record {
      turns = (then_adds_none _ _ (value_adds_none left) (λ l. then_adds_none _ _ (value_adds_none right) (λ r.
          operates_adds_none operator (operands_kind s.scope operator left right) l r))).turns;
    }
    value_adds_none (tree.Cond test one other at) = record {
      turns = (test_adds_none _ _ _ (value_adds_none test) (map_adds_none (wrap (branches_kind s.scope one other)) _ (value_adds_none one))
          (map_adds_none (wrap (branches_kind s.scope one other)) _ (value_adds_none other))).turns;
    }
    value_adds_none (tree.Assign None left right at) = record {
      turns = (then_adds_none _ _ (place_adds_none s left _ (spot_adds_none left)) (λ spot.
          then_adds_none _ _ (value_adds_none right) (stores_add_none s spot))).turns;
    }
    value_adds_none (tree.Assign (Some operator) left right at) = record {
      turns = (then_adds_none _ _ (place_adds_none s left _ (spot_adds_none left)) (λ spot.
          then_adds_none _ _ (reads_add_none s spot) (λ old. then_adds_none _ _ (value_adds_none right) (λ n.
          then_adds_none _ _ (operates_adds_none operator (operands_kind s.scope operator left right) old n) (stores_add_none s spot))))).turns;
    }

    -- a place adds none
    pub spot_adds_none : (e : Expr) → AddsNoTurns (spot_of s call e)
    spot_adds_none (tree.Paren inner at) = record { turns = (spot_adds_none inner).turns }
    spot_adds_none (expr.Name name at) = record { turns = λ w. omega arith }
    spot_adds_none (tree.Index base index at) = record { turns = (element_adds_none s (array_in s.scope base) _ (value_adds_none index)).turns }
    spot_adds_none (tree.Member base field at) = record { turns = (part_adds_none (message_in s.scope base) _ (field_adds_none field)).turns }
    spot_adds_none e = record { turns = λ w. omega arith }

    -- a part of a message adds none
    pub field_adds_none : (field : Field) (held : Held) → AddsNoTurns (field_spot s call field held)
    field_adds_none (Named name at) held = record { turns = λ w. omega arith }
    field_adds_none (tree.Bytes kind index at) held = record { turns = (then_adds_none _ _ (value_adds_none index) (λ i. indexing_adds_none _ i (InBytes held kind))).turns }

    -- arguments add none
    pub values_add_none : {m : Count} (args : Row_of-Expr m) → AddsNoTurns (values_of s call args)
    values_add_none end_of-Expr = record { turns = λ w. omega arith }
    values_add_none (more_of-Expr first rest) = record {
      turns = (then_adds_none _ _ (value_adds_none first) (λ n. map_adds_none (λ ns. n ∷ ns) _ (values_add_none rest))).turns;
    }
