-- Notes are values, and none is left.
use Rattle.std.proofs.Common.{◌∙◌, List, Option, ap, length, map, subst, sym}
use Rattle.std.specs.Global.{Vec}
use Rattle.std.specs.Prelude.{ℤ, is_some}
use Rattle.std.proofs.lemmas.List.{length-map}
use Rattle.sys_vars.specs.Table.{IsShared, Shared, merged, noted}
use Rattle.sys_vars.proofs.TableLemmas.{merged_is, merged_shared}
use Rattle.sys_vars.proofs.table.SysTable.close.Goals as goal

pub take_notes-requires : goal.take_notes-requires
take_notes-requires c =
    ap (λ (notes : List (Option ℤ)). length notes) c.as_slice.ensures.value
    ∙ ap (λ (v : Vec (Option ℤ)). length v.items) c.swap.ensures.y_after ∙ c.self.invariant.notes

pub returns : goal.returns
returns c =
    let inside = c.self.inside in
    let shared : Shared = record { values = inside.values.items; notes = inside.notes.items; changed = map (is_some {T = ℤ}) inside.last.items } in
    let last = ap (λ (v : Vec (Option ℤ)). v.items) c.swap.ensures.y_after in
    merged_is shared c.take_notes.new.values.items c.forget.new.notes.items c.swap.new.y.items (length c.swap.new.x.items) c.self.invariant
    (c.take_notes.ensures ∙ ap (λ (notes : List (Option ℤ)). noted inside.values.items notes) (c.as_slice.ensures.value ∙ last))
    c.forget.ensures
    (ap (λ (v : Vec (Option ℤ)). length v.items) c.swap.ensures.x_after ∙ sym (length-map inside.last.items (is_some {T = ℤ})) ∙ c.self.invariant.changed
    ∙ sym c.self.invariant.notes)
    last
    ∙ ap merged c.self.view_is

pub invariant_of-self : goal.invariant_of-self
invariant_of-self c =
    let inside = c.self.inside in
    let shared : Shared = record { values = inside.values.items; notes = inside.notes.items; changed = map (is_some {T = ℤ}) inside.last.items } in
    let last = ap (λ (v : Vec (Option ℤ)). v.items) c.swap.ensures.y_after in
    subst IsShared
    (sym (merged_is shared c.take_notes.new.values.items c.forget.new.notes.items c.swap.new.y.items (length c.swap.new.x.items) c.self.invariant
    (c.take_notes.ensures ∙ ap (λ (notes : List (Option ℤ)). noted inside.values.items notes) (c.as_slice.ensures.value ∙ last))
    c.forget.ensures
    (ap (λ (v : Vec (Option ℤ)). length v.items) c.swap.ensures.x_after ∙ sym (length-map inside.last.items (is_some {T = ℤ})) ∙ c.self.invariant.changed
    ∙ sym c.self.invariant.notes)
    last))
    (merged_shared shared c.self.invariant)
