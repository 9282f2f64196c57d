-- An empty slot is added.
use Rattle.std.proofs.Common.{◌≡◌, ◌++◌, [], ◌∷◌, ℕ, cond, is_ok, length, None, arith, ap, ◌∙◌}
use Rattle.std.proofs.Math.ListN.{length-append}
use Rattle.timer_queue.specs.Inside.Slots.{SlotList, slot_at}
use Rattle.timer_queue.proofs.SlotLemmas.{pushed_slots, same_linked, same_moments, same_count}
use Rattle.timer_queue.proofs.slots.Slots.push.Goals as goal

pub invariant_of-self : goal.invariant_of-self
invariant_of-self c =
    let slots = c.self.inside.slots.items in
    let inv = c.self.invariant in
    let items : c.push.new.self.items ≡ slots ++ None ∷ [] =
    c.push.ensures.items ∙ ap (λ b. cond b (slots ++ None ∷ []) slots) (ap is_ok c.unwrap.ensures) in
    let same : (p : ℕ) → slot_at c.push.new.self.items p ≡ slot_at slots p = λ p. ap (λ ss. slot_at ss p) items ∙ pushed_slots slots p in
    record {
      linked = same_linked c.push.new.self.items slots c.self.inside.places.items same inv.linked;
      moments = same_moments c.push.new.self.items slots c.self.inside.moments same inv.moments;
      filled = record { in_slots = same_count c.push.new.self.items slots c.self.inside.filled same inv.filled.in_slots; in_places = inv.filled.in_places };
      within = omega (arith, ap length items, length-append slots (None ∷ []), c.requires, ap (λ (v : SlotList). length v.slots) c.self.view_is, ap (λ (v : SlotList). v.timers) c.self.view_is);
      room = omega (arith, inv.room, c.push.ensures.capacity);
      moments_room = inv.moments_room;
    }
