-- What is noted is a long.
use Rattle.std.proofs.Common.{Some, map, subst, sym}
use Rattle.std.specs.Prelude.{ℤ, is_some, slice_set}
use Rattle.std.proofs.lemmas.Int.{to_z-of_z}
use mir.Syntax.{w128}
use Rattle.sys_vars.specs.Table.{IsShared, Shared}
use Rattle.sys_vars.proofs.TableLemmas.{offered_shared}
use Rattle.sys_vars.proofs.table.SysTable.offer.Goals as goal

pub invariant_of-self : goal.invariant_of-self
invariant_of-self c =
    let inside = c.self.inside in
    let shared : Shared = record { values = inside.values.items; notes = inside.notes.items; changed = map (is_some {T = ℤ}) inside.last.items } in
    subst (λ (n : ℤ). IsShared (record shared { notes = slice_set shared.notes c.args.number (Some n) })) (sym (to_z-of_z w128 c.args.value c.ranges.value))
    (offered_shared shared c.args.number c.args.value c.self.invariant c.requires.long)
