-- The settings so far stand at the front, and all in their order.
use Rattle.std.proofs.Common.{◌≡◌, length}
use Rattle.timer_queue.specs.Inside.Slots.{settings_in, IsPacked}
use Rattle.timer_queue.proofs.queue.pack.Given as goal

abbrev pub invariant-loop-place : goal.invariant-loop-place
invariant-loop-place l = record {
  packed : IsPacked l.slots.slots l.filled l.place;
  same : settings_in l.slots.slots ≡ settings_in l.fn.slots.slots;
  timers : l.slots.timers ≡ l.fn.slots.timers;
  end : length l.slots.slots ≡ l.place-end;
}
