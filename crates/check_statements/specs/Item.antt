-- What payload bytes in an initialiser of a message break.
use Rattle.std.specs.Prelude.{ℕ, false, not, List, ◌++◌}
use Rattle.std.specs.Option.{option_map_or}
use Rattle.int_kinds.specs.declared.kinds.Kind.{Kind}
use Rattle.capl_tree.specs.declared.expr.Expr.{Expr}
use Rattle.capl_meaning.specs.declared.offence.Offence.{Offence}
use Rattle.capl_meaning.specs.Constant.{constant_at}
use Rattle.capl_meaning.specs.ExpressionRules.{broken_where}
use Rattle.capl_meaning.specs.DeclarationRules.{constant_offences, is_payload_index}
use Rattle.capl_meaning.specs.Names.{Scope}

-- their index is a constant, and in range
abbrev pub payload_offences : Scope → ℕ → ℕ → Kind → Expr → List Offence
payload_offences s token at k index =
    constant_offences s token index
    ++ broken_where (option_map_or (λ i. not (is_payload_index k i))
    (constant_at s token index) false) s at 27
