-- Payload bytes in an initialiser of a message, as code makes them.
use Rattle.std.proofs.Common.{◌≡◌, ◌∙◌, ℕ, List, Option, ap}
use Rattle.int_kinds.specs.declared.kinds.Kind.{Kind}
use Rattle.dbc_reader.specs.declared.signals.DbcSignal.{DbcSignal}
use Rattle.capl_tree.specs.declared.expr.Expr.{Expr}
use Rattle.capl_tree.specs.declared.expr.Field.{Field}
use Rattle.capl_tree.specs.declared.expr.Field.TheVariants as field
use Rattle.capl_tree.proofs.FormLemmas as shape
use Rattle.capl_meaning.specs.DeclarationRules.{field_item_rules}
use Rattle.capl_meaning.specs.Names.{Scope}
use Rattle.check_statements.specs.Item.{payload_offences}

-- the rules of payload bytes
pub bytes_rules : (s : Scope) (token at : ℕ) (signals : Option (List DbcSignal)) (f : Field) (k : Kind) (index : Expr) (kind_at : ℕ)
    → f ≡ field.Bytes k index kind_at → field_item_rules s token at signals f ≡ payload_offences s token at k index
bytes_rules s token at signals f k index kind_at is = ap (field_item_rules s token at signals) (is ∙ shape.bytes_form k index kind_at)
