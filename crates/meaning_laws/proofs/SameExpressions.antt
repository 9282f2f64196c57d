-- An expression does the same with calls that do.
use mathlib.Core.Former.{Count}
use Rattle.std.specs.Prelude.{ℕ, true, false, List, ◌∷◌, Option, Some, None, ℤ, pos}
use Rattle.std.proofs.Common.{refl}
use Rattle.int_kinds.specs.declared.operators.BinOp.TheVariants as op
use Rattle.int_kinds.specs.declared.operators.UnOp.TheVariants as prefix
use Rattle.int_kinds.specs.Kind.{wrap}
use Rattle.control_flow.specs.World.{World, Run, Gives, and_then}
use Rattle.control_flow.specs.Control.{Calls, Computes}
use Rattle.control_flow.specs.Turns.{AddsNoTurns, Agree}
use Rattle.capl_tree.specs.declared.expr.Expr.{Expr, Row_of-Expr, end_of-Expr, more_of-Expr, items-the_row-Expr}
use Rattle.capl_tree.specs.declared.expr.Expr.TheVariants as expr
use Rattle.capl_tree.specs.declared.expr.Field.{Field}
use Rattle.capl_tree.specs.declared.expr.Field.TheVariants.{Named}
use Rattle.capl_tree.specs.Forms as tree
use Rattle.capl_meaning.specs.Variable.{Variable}
use Rattle.capl_meaning.specs.Names.{Callee, OfLanguage, OfProgram, Unknown, callee}
use Rattle.capl_meaning.specs.Message.{Held, array_in, is_number_place, message_in}
use Rattle.capl_meaning.specs.Sort.{kind_in, sort_of}
use Rattle.capl_meaning.specs.Operator.{prefix_value, truth_of}
use Rattle.capl_meaning.specs.Constant.{branches_kind, elements_of, operands_kind, prefix_kind}
use Rattle.capl_meaning.specs.Expression.{Memory, Setting, Spot, Nowhere, InBytes, InElement, call_value, calling, element_spot, field_spot, indexing, kind_of_elements, operates, part_spot, place_spot, reads, spot_of, step_by_one, stores, value_of, values_of}
use Rattle.capl_meaning.specs.Inside.Expression.{step_operator}
use Rattle.meaning_laws.proofs.Parts.{same_either, same_map, same_next, same_self, same_test}
use Rattle.meaning_laws.proofs.Expressions.{element_adds_none, field_adds_none, part_adds_none, place_adds_none, spot_adds_none, value_adds_none, values_add_none}

module _ (n : ℕ) (s : Setting) where
  -- an element, where its index does the same
  same_element : (array : Option Variable) (index index' : Computes Memory) → AddsNoTurns index' → Agree n index index' →
      Agree n (element_spot s array index) (element_spot s array index')
  same_element None index index' adds h = record { same = λ w le. refl }
  same_element (Some v) index index' adds h =
      same_next n index index' _ _ adds h (λ i. same_self n (λ w. indexing (elements_of s.scope.names v) i w (InElement (kind_of_elements v.form) v)))

  -- a part of a message
  same_part : (found : Option Held) (spot spot' : Held → World Memory → Run Memory Spot) → ((held : Held) → Agree n (spot held) (spot' held)) →
      Agree n (part_spot found spot) (part_spot found spot')
  same_part None spot spot' h = record { same = λ w le. refl }
  same_part (Some held) spot spot' h = record { same = (h held).same }

  -- a place
  same_place : (e : Expr) (spot spot' : World Memory → Run Memory Spot) → Agree n spot spot' → Agree n (place_spot s e spot) (place_spot s e spot')
  same_place e spot spot' h = record { same = (same_either n (is_number_place s.scope e) spot spot' (Gives Nowhere) (Gives Nowhere) h (same_self n (Gives Nowhere))).same }

module _ (n : ℕ) (s : Setting) (call call' : Calls Memory) (calls : (f : ℕ) → AddsNoTurns (call' f)) (same : (f : ℕ) → Agree n (call f) (call' f)) where
  same_call : (found : Callee) (arguments : List Expr) (numbers numbers' : World Memory → Run Memory (List ℤ)) → AddsNoTurns numbers' →
      Agree n numbers numbers' → Agree n (call_value s call found arguments numbers) (call_value s call' found arguments numbers')
  same_call (OfLanguage b) arguments numbers numbers' adds h = record { same = λ w le. refl }
  same_call (OfProgram f) arguments numbers numbers' adds h =
      record { same = (same_next n numbers numbers' (calling call f) (calling call' f) adds h (λ ns. record { same = λ w le. (same f.number).same _ le })).same }
  same_call Unknown arguments numbers numbers' adds h = record { same = λ w le. refl }

  mutual
    -- an expression does the same
    pub same_value : (e : Expr) → Agree n (value_of s call e) (value_of s call' e)
    same_value (expr.Num number extended at) = record { same = λ w le. refl }
    same_value (expr.Char character at) = record { same = λ w le. refl }
    same_value (expr.Str text at) = record { same = λ w le. refl }
    same_value (expr.This at) = record { same = λ w le. refl }
    same_value (expr.Name name at) = record { same = λ w le. refl }
    same_value (tree.Paren inner at) = record { same = (same_value inner).same }
    same_value (expr.Call' name shape args at) = record {
      same = (same_call (callee s.scope.names name) (items-the_row-Expr _ args) _ _ (values_add_none s call' calls args) (same_values args)).same;
    }
    same_value (tree.Index base index at) = record {
      same = (same_next n _ _ _ _ (element_adds_none s (array_in s.scope base) _ (value_adds_none s call' calls index))
          (same_element n s (array_in s.scope base) _ _ (value_adds_none s call' calls index) (same_value index)) (λ spot. same_self n (reads s spot))).same;
    }
    same_value (tree.Member base field at) = record {
      same = (same_next n _ _ _ _ (part_adds_none (message_in s.scope base) _ (field_adds_none s call' calls field))
          (same_part n s (message_in s.scope base) _ _ (same_field field)) (λ spot. same_self n (reads s spot))).same;
    }
    same_value (tree.Cast kind inner at) = record { same = (same_map n (wrap kind) _ _ (same_value inner)).same }
    same_value (tree.Unary prefix.Up inner at) = record {
      same = (same_next n _ _ _ _ (place_adds_none s inner _ (spot_adds_none s call' calls inner)) (same_place n s inner _ _ (same_spot inner))
          (λ spot. same_self n (step_by_one s op.Add false (kind_in (sort_of s.scope inner)) spot))).same;
    }
    same_value (tree.Unary prefix.Down inner at) = record {
      same = (same_next n _ _ _ _ (place_adds_none s inner _ (spot_adds_none s call' calls inner)) (same_place n s inner _ _ (same_spot inner))
          (λ spot. same_self n (step_by_one s op.Sub false (kind_in (sort_of s.scope inner)) spot))).same;
    }
    same_value (tree.Unary operator inner at) = record { same = (same_map n (prefix_value operator (prefix_kind s.scope inner)) _ _ (same_value inner)).same }
    same_value (tree.Post up inner at) = record {
      same = (same_next n _ _ _ _ (place_adds_none s inner _ (spot_adds_none s call' calls inner)) (same_place n s inner _ _ (same_spot inner))
          (λ spot. same_self n (step_by_one s (step_operator up) true (kind_in (sort_of s.scope inner)) spot))).same;
    }
    same_value (tree.Binary op.AndAlso left right at) = record {
      same = (same_test n _ _ _ _ (Gives (pos 0)) (Gives (pos 0)) (value_adds_none s call' calls left) (same_value left)
          (same_map n truth_of _ _ (same_value right)) (same_self n _)).same;
    }
    same_value (tree.Binary op.OrElse left right at) = record {
      same = (same_test n _ _ (Gives (pos 1)) (Gives (pos 1)) _ _ (value_adds_none s call' calls left) (same_value left)
          (same_self n _) (same_map n truth_of _ _ (same_value right))).same;
    }
    same_value (tree.Binary operator left right at) = record {
      same = (same_next n _ _ _ _ (value_adds_none s call' calls left) (same_value left) (λ l.
          same_next n _ _ _ _ (value_adds_none s call' calls right) (same_value right) (λ r.
          same_self n (operates operator (operands_kind s.scope operator left right) l r)))).same;
    }
    same_value (tree.Cond test one other at) = record {
      same = (same_test n _ _ _ _ _ _ (value_adds_none s call' calls test) (same_value test)
          (same_map n (wrap (branches_kind s.scope one other)) _ _ (same_value one)) (same_map n (wrap (branches_kind s.scope one other)) _ _ (same_value other))).same;
    }
    same_value (tree.Assign None left right at) = record {
      same = (same_next n _ _ _ _ (place_adds_none s left _ (spot_adds_none s call' calls left)) (same_place n s left _ _ (same_spot left)) (λ spot.
          same_next n _ _ _ _ (value_adds_none s call' calls right) (same_value right) (λ r. same_self n (stores s spot r)))).same;
    }
    same_value (tree.Assign (Some operator) left right at) = record {
      same = (same_next n _ _ _ _ (place_adds_none s left _ (spot_adds_none s call' calls left)) (same_place n s left _ _ (same_spot left)) (λ spot.
          record {
            same = λ w le. (same_next n _ _ _ _ (value_adds_none s call' calls right) (same_value right) (λ r.
                same_self n (λ w'. and_then (operates operator (operands_kind s.scope operator left right) _ r w') (stores s spot)))).same w le;
          })).same;
    }

    -- a place does the same
    pub same_spot : (e : Expr) → Agree n (spot_of s call e) (spot_of s call' e)
    same_spot (tree.Paren inner at) = record { same = (same_spot inner).same }
    same_spot (expr.Name name at) = record { same = λ w le. refl }
    same_spot (tree.Index base index at) = record {
      same = (same_element n s (array_in s.scope base) _ _ (value_adds_none s call' calls index) (same_value index)).same;
    }
    same_spot (tree.Member base field at) = record { same = (same_part n s (message_in s.scope base) _ _ (same_field field)).same }
    same_spot e = record { same = λ w le. refl }

    -- a part of a message does the same
    same_field : (field : Field) (held : Held) → Agree n (field_spot s call field held) (field_spot s call' field held)
    same_field (Named name at) held = record { same = λ w le. refl }
    same_field (tree.Bytes kind index at) held = record {
      same = (same_next n _ _ _ _ (value_adds_none s call' calls index) (same_value index) (λ i.
          same_self n (λ w. indexing _ i w (InBytes held kind)))).same;
    }

    -- arguments do the same
    same_values : {m : Count} (args : Row_of-Expr m) → Agree n (values_of s call args) (values_of s call' args)
    same_values end_of-Expr = record { same = λ w le. refl }
    same_values (more_of-Expr first rest) = record {
      same = (same_next n _ _ _ _ (value_adds_none s call' calls first) (same_value first) (λ v.
          same_map n (λ vs. v ∷ vs) _ _ (same_values rest))).same;
    }
