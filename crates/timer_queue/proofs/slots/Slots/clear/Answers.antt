-- A slot is emptied, and its timer has no place.
use Rattle.std.proofs.Common.{◌<◌, length, None, arith, ap, sym, subst, ◌∙◌}
use Rattle.std.proofs.Math.ListN.{set}
use Rattle.std.proofs.lemmas.List.{length-set}
use Rattle.timer_queue.specs.declared.minima.TheConstants.{NEVER}
use Rattle.timer_queue.specs.Inside.Slots.{SlotList, AreMoments}
use Rattle.timer_queue.proofs.SlotLemmas.{slot_read, setting_known, place_within, cleared_linked, set_moments, cleared_count}
use Rattle.timer_queue.proofs.slots.Slots.clear.Goals as goal

pub index_mut-requires-2 : goal.index_mut-requires-2
index_mut-requires-2 c =
    let slots = c.self.inside.slots.items in
    let places = c.self.inside.places.items in
    let within : c.args.place < length slots = omega (arith, c.requires, ap (λ (v : SlotList). length v.slots) c.self.view_is) in
    let here = slot_read slots c.args.place c.index.result.now within c.index.ensures ∙ c.in-Some.is in
    let known = setting_known slots places c.self.invariant.linked c.args.place c.in-Some.setting here in
    omega (arith, place_within places c.in-Some.setting.timer c.args.place known.0, c.self.inside.places.ok.0)

pub invariant_of-self : goal.invariant_of-self
invariant_of-self c =
    let slots = c.self.inside.slots.items in
    let places = c.self.inside.places.items in
    let moments = c.self.inside.moments in
    let inv = c.self.invariant in
    let s = c.in-Some.setting in
    let within : c.args.place < length slots = omega (arith, c.requires, ap (λ (v : SlotList). length v.slots) c.self.view_is) in
    let here = slot_read slots c.args.place c.index.result.now within c.index.ensures ∙ c.in-Some.is in
    let known = setting_known slots places inv.linked c.args.place s here in
    let exists = place_within places s.timer c.args.place known.0 in
    let inside : c.args.place < length moments = omega (arith, within, inv.within, inv.moments_room) in
    record {
      linked = cleared_linked slots places c.args.place s inv.linked within here;
      moments = subst (AreMoments (set slots c.args.place None)) (sym c.set.ensures.set)
          (set_moments slots moments c.args.place None inv.moments within inside (omega arith));
      filled = record {
        in_slots = cleared_count slots c.args.place s c.self.inside.filled within here inv.filled.in_slots;
        in_places = cleared_count places s.timer c.args.place c.self.inside.filled exists known.0 inv.filled.in_places;
      };
      within = simp length-set inv.within;
      room = simp length-set inv.room;
      moments_room = omega (arith, inv.moments_room, length-set places s.timer None, ap length c.set.ensures.set, length-set moments c.args.place NEVER);
    }
