-- What labels say, as the code has it.
use Rattle.std.specs.Prelude.{◌≡◌, ℕ, Bool, false, List, Option, Some, None, ℤ}
use Rattle.std.specs.Borrow.{Bor}
use Rattle.std.specs.BTreeSet.{contains}
use Rattle.std.specs.List.{list_any}
use Rattle.std.specs.Option.{option_map}
use Rattle.std.specs.Ordering.{int_cmp}
use Rattle.capl_meaning.specs.Constant.{constant_at}
use Rattle.capl_meaning.specs.StatementRules.{same_label}
use Rattle.int_kinds.specs.Kind.{join, wrap}
use Rattle.capl_tree.specs.declared.expr.Expr.{Expr}
use Rattle.capl_tree.specs.declared.statement.Label.{Label}
use Rattle.capl_meaning.specs.declared.offence.Offence.{Offence}
use Rattle.capl_meaning.specs.declared.sort.Sort.{Sort}
use Rattle.capl_meaning.specs.declared.sort.Sort.TheVariants as sort
use Rattle.capl_meaning.specs.ExpressionRules.{offence}
use Rattle.capl_meaning.specs.Names.{Scope}
use Rattle.check_statements.specs.declared.label.Saying.{Saying}
use Rattle.check_statements.specs.declared.label.Saying.TheVariants as saying
use Rattle.check_statements.specs.declared.label.Seen.{Seen}

-- what a label says: a label, or nothing
abbrev pub saying_in : Saying → Option (Option ℤ)
saying_in saying.Default = Some None
saying_in (saying.Case n) = Some (Some n)
saying_in saying.Unclear = None

-- two labels are the same; nothing is the same as nothing
abbrev pub same_saying : Option (Option ℤ) → Option (Option ℤ) → Bool
same_saying (Some a) (Some b) = same_label a b
same_saying _ _ = false

-- what a `case` says in a `switch` over an expression of this sort
abbrev pub saying_of_case : Sort → Option ℤ → Option (Option ℤ)
saying_of_case (sort.Number k) value = option_map (λ n. Some (wrap (join k k) n)) value
saying_of_case _ value = None

-- what a label says
abbrev pub saying_of_value : Scope → ℕ → Sort → Option Expr → Option (Option ℤ)
saying_of_value s at on None = Some None
saying_of_value s at on (Some value) = saying_of_case on (constant_at s at value)

-- a label, by its token and what it says
pub record SaidLabel : Type 0 where
  pub at : ℕ
  pub saying : Option (Option ℤ)

-- a label of a `switch` over an expression of this sort
abbrev pub said_by : Scope → Sort → Label → SaidLabel
said_by s on label = record { at = label.at; saying = saying_of_value s label.at on label.value }

-- what was seen is what these labels say
pub record Has (seen : Seen) (earlier : List SaidLabel) : Type 0 where
  pub numbers : (n : ℤ) → contains int_cmp seen.numbers n ≡
      list_any (λ said. same_saying (Some (Some n)) said.saying) earlier
  pub default : seen.default ≡ list_any (λ said. same_saying (Some None) said.saying) earlier

-- two labels say the same
abbrev pub same_said : SaidLabel → SaidLabel → Bool
same_said a b = same_saying a.saying b.saying

-- E20 at a label
abbrev pub label_offence : Scope → SaidLabel → Offence
label_offence s said = offence s said.at 20

-- a label that is lent
abbrev pub said_of : Scope → Sort → Bor Label → SaidLabel
said_of s on label = said_by s on label.now
