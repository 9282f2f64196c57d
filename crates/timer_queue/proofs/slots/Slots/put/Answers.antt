-- A setting of a timer without one is put into an empty slot.
use Rattle.std.proofs.Common.{◌≡◌, ◌<◌, ◌≤◌, length, Some, None, arith, ap, sym, subst, ◌∙◌}
use Rattle.std.proofs.Math.ListN.{set}
use Rattle.std.proofs.lemmas.List.{length-set}
use Rattle.timer_queue.specs.declared.minima.TheConstants.{NEVER}
use Rattle.timer_queue.specs.Inside.Slots.{SlotList, slot_at, HasNone, AreMoments}
use Rattle.timer_queue.proofs.SlotLemmas.{no_place, put_linked, set_moments, put_count}
use Rattle.timer_queue.proofs.slots.Slots.put.Goals as goal

pub invariant_of-self : goal.invariant_of-self
invariant_of-self c =
    let slots = c.self.inside.slots.items in
    let places = c.self.inside.places.items in
    let moments = c.self.inside.moments in
    let inv = c.self.invariant in
    let s = c.args.setting in
    let same = ap (λ (v : SlotList). v.slots) c.self.view_is in
    let within : c.args.place < length slots = omega (arith, c.requires.within, ap length same) in
    let exists : s.timer < length places = omega (arith, c.requires.exists, ap (λ (v : SlotList). v.timers) c.self.view_is) in
    let empty : slot_at slots c.args.place ≡ None = ap (λ ss. slot_at ss c.args.place) same ∙ c.requires.empty in
    let inactive : HasNone slots s.timer = subst (λ ss. HasNone ss s.timer) (sym same) c.requires.inactive in
    let inside : c.args.place < length moments = omega (arith, within, inv.within, inv.moments_room) in
    let fits : s.due ≤ NEVER = c.set.ensures.in_range in
    record {
      linked = put_linked slots places c.args.place s inv.linked within exists empty inactive;
      moments = subst (AreMoments (set slots c.args.place (Some s))) (sym c.set.ensures.set)
          (set_moments slots moments c.args.place (Some s) inv.moments within inside fits);
      filled = record {
        in_slots = put_count slots c.args.place s c.self.inside.filled within empty inv.filled.in_slots;
        in_places = put_count places s.timer c.args.place c.self.inside.filled exists (no_place slots places s.timer inv.linked inactive) inv.filled.in_places;
      };
      within = simp length-set inv.within;
      room = simp length-set inv.room;
      moments_room = omega (arith, inv.moments_room, length-set places s.timer (Some c.args.place), ap length c.set.ensures.set, length-set moments c.args.place s.due);
    }
