-- What breaks a rule among operands has a tree.
use Rattle.std.proofs.Common.{refl}
use Rattle.typed_laws.proofs.Places.{no_element_place, no_message_place, no_number_place, not_assignable}
use Rattle.typed_laws.proofs.Expressions.{no_element_as, no_member_as, other_name_as, step_behind_nowhere_as, store_nowhere_as, update_nowhere_as}
use Rattle.typed_laws.proofs.Calls.{builtin_zero_as, unknown_call_as}
use Rattle.typed_laws.proofs.laws.broken_expressions_have_trees.Goals as goal

pub returns-clause-no_number : goal.returns-clause-no_number
returns-clause-no_number c = λ scope order name at v is none. other_name_as scope order name at v is (no_number_place scope order name at none)

pub returns-clause-no_array : goal.returns-clause-no_array
returns-clause-no_array c = λ scope order base index at none. no_element_as scope order base index at (no_element_place scope order base index at none)

pub returns-clause-no_message : goal.returns-clause-no_message
returns-clause-no_message c = λ scope order base field at none. no_member_as scope order base field at (no_message_place scope order base field at none)

pub returns-clause-no_place : goal.returns-clause-no_place
returns-clause-no_place c = λ scope order left right at t none f. store_nowhere_as scope order left right at t (not_assignable scope order left none) f

pub returns-clause-no_place_with_operator : goal.returns-clause-no_place_with_operator
returns-clause-no_place_with_operator c = λ scope order op left right at t none f.
    update_nowhere_as scope order op left right at _ t refl (not_assignable scope order left none) f

pub returns-clause-no_place_before : goal.returns-clause-no_place_before
returns-clause-no_place_before c = λ scope order up inner at none. step_behind_nowhere_as scope order up inner at (not_assignable scope order inner none)

pub returns-clause-no_function : goal.returns-clause-no_function
returns-clause-no_function c = λ scope order name args at is. unknown_call_as scope order name args at is

pub returns-clause-no_value : goal.returns-clause-no_value
returns-clause-no_value c = λ scope order name args at found is zero. builtin_zero_as scope order name args at found is zero
