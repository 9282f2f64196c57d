-- The arguments of calls, by the sorts that are needed.
use Rattle.std.specs.Prelude.{ℕ, Bool, List, [], ◌∷◌, ◌++◌}
use Rattle.write_format.specs.declared.code.Code.{Code}
use Rattle.capl_tree.specs.declared.expr.Expr.{Expr}
use Rattle.capl_meaning.specs.declared.offence.Offence.{Offence}
use Rattle.capl_meaning.specs.declared.sort.Sort.{Sort}
use Rattle.capl_meaning.specs.ExpressionRules.{argument_rule, format_rules, integer_needed, is_array, is_message_sort, is_timer_sort, offence, shown_rule}
use Rattle.capl_meaning.specs.Format.{quoted_text}
use Rattle.capl_meaning.specs.Names.{Scope}
use Rattle.check_expressions.specs.declared.argument.Needed.{Needed}
use Rattle.check_expressions.specs.declared.argument.Needed.TheVariants as needed

-- a sort is what is needed
abbrev pub is_needed : Needed → Sort → Bool
is_needed needed.Array given = is_array given
is_needed needed.Message given = is_message_sort given
is_needed needed.Timer given = is_timer_sort given

-- the rules of a call of a function without arguments
abbrev pub none_rules : Scope → ℕ → List Expr → List Offence
none_rules s at [] = []
none_rules s at _ = offence s at 16 ∷ []

-- the rules of a call of a function with one argument, of which this is needed
abbrev pub one_rules : Scope → ℕ → Needed → List Expr → List Offence
one_rules s at which (e ∷ []) = argument_rule s at (is_needed which) e
one_rules s at which _ = offence s at 16 ∷ []

-- the rules of a call of a function that sets a timer
abbrev pub set_rules : Scope → ℕ → List Expr → List Offence
set_rules s at (timer ∷ duration ∷ []) = argument_rule s at is_timer_sort timer ++ integer_needed s duration
set_rules s at _ = offence s at 16 ∷ []

-- the rules of a call of `write`
abbrev pub write_rules : Scope → ℕ → List Expr → List Offence
write_rules s at (format ∷ arguments) = format_rules s format (quoted_text format) arguments
write_rules s at [] = offence s at 16 ∷ []

-- what an argument of `write` breaks, by its code
abbrev pub shown_pair : Scope → Code × Expr → List Offence
shown_pair s pair = shown_rule s pair.0 pair.1
