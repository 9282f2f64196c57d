-- A pair to whose channel 2 no frame is given.
use Rattle.std.proofs.Common.{◌≡◌, ℕ, false, cond, eqb, refl, sym, ap, ◌∙◌, arith}
use Rattle.std.specs.Prelude.{Option, None, Some}
use Rattle.std.specs.Option.{option_or}
use Rattle.std.specs.FinMap.{len-empty}
use Rattle.std.proofs.lemmas.Bool.Decides.{nat_tests}
use Rattle.can_frame.specs.Frame.{FrameFields}
use Rattle.can_bus.specs.declared.bus.Ended.{Ended}
use Rattle.can_bus.specs.Waiting.{name_cmp}
use Rattle.can_bus.specs.Bus.{BusState, new_bus}
use Rattle.can_bus.specs.Bus as channel
use Rattle.can_bus.proofs.Arbitration.{after_arbitration-nothing}
use Rattle.can_bus.proofs.SoundStays.{bit-after_request, bit-after_finish, bit-after_arbitration}
use Rattle.channel_pair.specs.Pair.{PairState, lesser_moment, second_of_both}
use Rattle.channel_pair.specs.Laws.{ActsAsOneChannel}

lesser-none : (o : Option ℕ) → lesser_moment o None ≡ o
lesser-none None = refl
lesser-none (Some m) = refl

or-none : (o : Option Ended) → option_or o None ≡ o
or-none None = refl
or-none (Some e) = refl

both-none : (o : Option Ended) → second_of_both o None ≡ None
both-none None = refl
both-none (Some e) = refl

-- ---- a bus on which nothing was requested
due-new : (bit : ℕ) → channel.next_moment (new_bus bit) ≡ None
due-new bit = ap (λ n. cond (eqb n 0) None (Some 0)) (len-empty name_cmp FrameFields)

arbitration-new : (bit now : ℕ) → channel.after_arbitration (new_bus bit) now ≡ new_bus bit
arbitration-new bit now = after_arbitration-nothing (new_bus bit) now (len-empty name_cmp FrameFields)

-- beside it the other channel acts as it does alone
pub acts_as_one_channel : (s : BusState) → ActsAsOneChannel s
acts_as_one_channel s = record {
  request = λ node f other.
      let one : eqb f.can 2 ≡ false = grind (arith, nat_tests) in
      let t = channel.after_request s node f in
      ap (λ b. cond {A = PairState} b (record { one = s; two = channel.after_request (new_bus s.bit) node f; held = None }) (record { one = t; two = new_bus s.bit; held = None })) one
      ∙ (λ i. record { one = t; two = new_bus (sym (bit-after_request s node f) i); held = None });
  next_moment = ap (lesser_moment (channel.next_moment s)) (due-new s.bit) ∙ lesser-none (channel.next_moment s);
  ended = λ now. or-none (channel.ended s now);
  finish = λ now i. record {
    one = channel.after_finish s now;
    two = new_bus (sym (bit-after_finish s now) i);
    held = both-none (channel.ended s now) i;
  };
  arbitrate = λ now i. record {
    one = channel.after_arbitration s now;
    two = (arbitration-new s.bit now ∙ ap new_bus (sym (bit-after_arbitration s now))) i;
    held = None;
  };
}
