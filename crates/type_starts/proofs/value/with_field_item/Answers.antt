-- Payload bytes.
use Rattle.std.proofs.Common.{◌≡◌, ℕ, List, Option, sym, ap, subst, ◌∙◌}
use Rattle.std.specs.Prelude.{ℤ}
use Rattle.int_kinds.specs.declared.kinds.Kind.{Kind}
use Rattle.dbc_reader.specs.declared.signals.DbcSignal.{DbcSignal}
use Rattle.capl_tree.specs.declared.expr.Expr.{Expr}
use Rattle.capl_tree.specs.declared.expr.Field.{Field}
use Rattle.capl_tree.specs.declared.expr.Field.TheVariants as field
use Rattle.capl_tree.proofs.FormLemmas.{bytes_form}
use Rattle.capl_meaning.specs.Initial.{constant_number, with_bytes_at, with_field_item}
use Rattle.capl_meaning.specs.Names.{Scope}
use Rattle.capl_meaning.specs.Store.{MessageRecord}
use Rattle.check_sorts.specs.Scope.{scope_in}
use Rattle.type_starts.specs.Message.{IsMessage}
use Rattle.check_sorts.specs.Form.{signals_in}
use Rattle.type_starts.proofs.MessageLemmas.{usable_member}
use Rattle.type_starts.proofs.StartLemmas.{passed}
use Rattle.type_starts.proofs.value.with_field_item.Goals as goal

bytes_item : (s : Scope) (token : ℕ) (signals : Option (List DbcSignal)) (what : Field) (kind : Kind) (index other : Expr) (at : ℕ) (from n raw_from raw_n : ℤ) (m : MessageRecord) →
    what ≡ field.Bytes kind index at → other ≡ index → raw_from ≡ from → raw_n ≡ n → from ≡ constant_number s token other →
    with_bytes_at kind raw_from raw_n m ≡ with_field_item s token signals what n m
bytes_item s token signals what kind index other at from n raw_from raw_n m is same back back_n found =
    ap (λ (z : ℤ). with_bytes_at kind z raw_n m) (back ∙ found ∙ ap (constant_number s token) same)
    ∙ ap (λ (z : ℤ). with_bytes_at kind (constant_number s token index) z m) back_n
    ∙ sym (ap (λ f. with_field_item s token signals f n m) (is ∙ bytes_form kind index at))

pub returns-in-Bytes : goal.returns-in-Bytes
returns-in-Bytes c = λ m held.
    subst (IsMessage c.with_bytes.result)
    (bytes_item (scope_in c.args.spot.now.scope) c.args.spot.now.token _ c.args.field.now c.in-Bytes.kind c.in-Bytes.index _ _ _ c.args.n _ _ m
    c.in-Bytes.is c.get.ensures (passed c.number_at.result (record { sfits = c.number_at.type_inv })) (passed c.args.n c.ranges.n) c.number_at.ensures.same)
    (c.with_bytes.ensures m held)

pub with_member-requires-clause-usable : goal.with_member-requires-clause-usable
with_member-requires-clause-usable c = λ layout is.
    usable_member (signals_in c.args.signals) c.bytes.result.now layout (sym c.member_named.ensures ∙ is)
