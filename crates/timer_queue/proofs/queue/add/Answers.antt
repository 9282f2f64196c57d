-- A setting put into a new slot is the newest.
use Rattle.std.proofs.Common.{◌≡◌, [], ◌∷◌, ◌++◌, Some, None, ap, ◌∙◌}
use Rattle.std.proofs.Math.ListN.{set}
use Rattle.timer_queue.specs.Timers.{is_active}
use Rattle.timer_queue.specs.Inside.Slots.{SlotList, settings_in}
use Rattle.timer_queue.proofs.SlotLemmas.{same_settings, pushed_slots}
use Rattle.timer_queue.proofs.QueueLemmas.{inactive_none, added}
use Rattle.timer_queue.proofs.queue.add.Goals as goal

pub put-requires-clause-inactive : goal.put-requires-clause-inactive
put-requires-clause-inactive c =
    let made = c.make_room.new.slots.slots in
    let pushed : settings_in c.push.new.self.slots ≡ settings_in c.args.slots.now.slots =
    ap (λ (v : SlotList). settings_in v.slots) c.push.ensures ∙ same_settings (made ++ None ∷ []) made (pushed_slots made) ∙ c.make_room.ensures.same in
    inactive_none c.push.new.self.slots c.args.setting.timer (ap (λ ss. is_active ss c.args.setting.timer) pushed ∙ c.requires.inactive)

pub returns-clause-added : goal.returns-clause-added
returns-clause-added c =
    let made = c.make_room.new.slots.slots in
    let s = c.args.setting in
    let pushed : c.push.new.self.slots ≡ made ++ None ∷ [] = ap (λ (v : SlotList). v.slots) c.push.ensures in
    ap (λ (v : SlotList). settings_in v.slots) c.put.ensures
    ∙ ap (λ ss. settings_in (set ss c.len-place.result (Some s))) pushed
    ∙ ap (λ n. settings_in (set (made ++ None ∷ []) n (Some s))) c.len-place.ensures.count
    ∙ added made s
    ∙ ap (λ ss. ss ++ s ∷ []) c.make_room.ensures.same
