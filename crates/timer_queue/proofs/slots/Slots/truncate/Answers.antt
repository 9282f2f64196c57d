-- Empty slots at the end are removed.
use Rattle.std.proofs.Common.{◌≡◌, ℕ, length, take, is_some, arith, ap, sym, subst, ◌∙◌}
use Rattle.std.proofs.Math.ListN.{length-take}
use Rattle.std.proofs.lemmas.List.Sums.{count_by-le-length}
use Rattle.timer_queue.specs.Inside.Slots.{SlotList, slot_at, settings_in, IsPacked}
use Rattle.timer_queue.proofs.SlotLemmas.{packed_empty, packed_count, taken_slots, same_linked, same_moments, same_count, same_settings, filled_settings}
use Rattle.timer_queue.proofs.slots.Slots.truncate.Goals as goal

pub invariant_of-self : goal.invariant_of-self
invariant_of-self c =
    let slots = c.self.inside.slots.items in
    let inv = c.self.invariant in
    let kept = ap (λ (v : SlotList). v.slots) c.self.view_is in
    let packed = subst (λ ss. IsPacked ss c.args.filled (length ss)) (sym kept) c.requires in
    let new = c.truncate.new.self.items in
    let items : new ≡ take c.args.filled slots = c.truncate.ensures.items in
    let same : (p : ℕ) → slot_at new p ≡ slot_at slots p =
    λ p. ap (λ ss. slot_at ss p) items ∙ taken_slots slots c.args.filled (packed_empty slots c.args.filled packed) p in
    record {
      linked = same_linked new slots c.self.inside.places.items same inv.linked;
      moments = same_moments new slots c.self.inside.moments same inv.moments;
      filled = record { in_slots = same_count new slots c.self.inside.filled same inv.filled.in_slots; in_places = inv.filled.in_places };
      within = omega (arith, ap length items, length-take c.args.filled slots, inv.within);
      room = omega (arith, inv.room, c.truncate.ensures.capacity);
      moments_room = inv.moments_room;
    }

pub returns-clause-same : goal.returns-clause-same
returns-clause-same c =
    let slots = c.self.inside.slots.items in
    let kept = ap (λ (v : SlotList). v.slots) c.self.view_is in
    let packed = subst (λ ss. IsPacked ss c.args.filled (length ss)) (sym kept) c.requires in
    let new = c.truncate.new.self.items in
    let items : new ≡ take c.args.filled slots = c.truncate.ensures.items in
    let same : (p : ℕ) → slot_at new p ≡ slot_at slots p =
    λ p. ap (λ ss. slot_at ss p) items ∙ taken_slots slots c.args.filled (packed_empty slots c.args.filled packed) p in
    same_settings new slots same ∙ ap settings_in kept

pub returns-clause-room : goal.returns-clause-room
returns-clause-room c =
    let slots = c.self.inside.slots.items in
    let places = c.self.inside.places.items in
    let kept = ap (λ (v : SlotList). v.slots) c.self.view_is in
    let packed = subst (λ ss. IsPacked ss c.args.filled (length ss)) (sym kept) c.requires in
    let items : c.truncate.new.self.items ≡ take c.args.filled slots = c.truncate.ensures.items in
    let count = packed_count slots c.args.filled packed.settings (packed_empty slots c.args.filled packed) in
    let filled = c.self.invariant.filled in
    omega (arith, ap length items, length-take c.args.filled slots, count, filled_settings slots, filled.in_slots, filled.in_places, count_by-le-length is_some places)
