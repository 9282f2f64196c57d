-- A `switch` is sound with its groups as a list.
use Rattle.std.proofs.Common.{◌≡◌, List, true, subst}
use Rattle.std.specs.Prelude.{IsTrue, ◌↔◌}
use Rattle.std.specs.List.{AllByRecursion}
use Rattle.typed_tree.specs.declared.statement.TGroup.{TGroup}
use Rattle.typed_tree.specs.SoundExpression.{IsSoundExpr}
use Rattle.typed_tree.specs.SoundStatement.{Around, in_switch}
use Rattle.sound_check.specs.Around.{around_of}
use Rattle.sound_check.specs.Rows.{AreFew, IsSoundGroup, KeepsLabels}
use Rattle.sound_check.proofs.StatementRows.{switch_sound}
use Rattle.sound_check.proofs.statement.+statement.Goals as goal

pub is_sound_stmt-returns-then-kept : goal.is_sound_stmt-returns-then-kept
is_sound_stmt-returns-then-kept t c =
    let typed = c.args.typed.now in
    let around : Around = around_of c.args.around in
    let groups : List TGroup = c.in-Switch.groups in
    let Kept : List TGroup → Type 0 = λ l. IsTrue c.in_ok-kept-in-Switch.kept ↔
    (KeepsLabels l × AreFew l × IsSoundExpr typed around.number c.in-Switch.on) in
    let given : Kept c.as_slice-groups.result.now = c.in_ok-kept-in-Switch.ensures in
    let kept : Kept groups = subst Kept c.as_slice-groups.ensures given in
    let Sound : Around → List TGroup → Type 0 = λ a l.
    IsTrue c.in_ok-groups_sound-in-Switch.groups_sound ↔ AllByRecursion (IsSoundGroup typed a) l in
    let told : Sound (around_of c.in_switch.result) c.as_slice-groups.result.now = c.in_ok-groups_sound-in-Switch.ensures in
    let inner : Sound (in_switch around) groups =
    subst (λ l. Sound (in_switch around) l) c.as_slice-groups.ensures
    (subst (λ a. Sound a c.as_slice-groups.result.now) c.in_switch.ensures told) in
    let whole = switch_sound typed around c.args.s.now c.in-Switch.on groups c.in-Switch.is in (
      λ h.
          let parts = kept.0 c.if-kept.true in
          whole.1 (parts.0, parts.1, parts.2, inner.0 h),
      λ h. inner.1 (whole.0 h).3,
    )

pub is_sound_stmt-returns-else-kept : goal.is_sound_stmt-returns-else-kept
is_sound_stmt-returns-else-kept t c =
    let typed = c.args.typed.now in
    let around : Around = around_of c.args.around in
    let groups : List TGroup = c.in-Switch.groups in
    let Kept : List TGroup → Type 0 = λ l. IsTrue c.in_ok-kept-in-Switch.kept ↔
    (KeepsLabels l × AreFew l × IsSoundExpr typed around.number c.in-Switch.on) in
    let given : Kept c.as_slice-groups.result.now = c.in_ok-kept-in-Switch.ensures in
    let kept : Kept groups = subst Kept c.as_slice-groups.ensures given in
    let whole = switch_sound typed around c.args.s.now c.in-Switch.on groups c.in-Switch.is in (
      λ h. absurd (let e : c.in_ok-kept-in-Switch.kept ≡ true = h in cc),
      λ h. let parts = whole.0 h in kept.1 (parts.0, parts.1, parts.2),
    )
