-- What two calls of `finish` at one moment leave, and what they give.
use Rattle.std.proofs.Common.{◌≡◌, ℕ, true, false, cond, ◌++◌, refl, sym, ap, subst, ◌∙◌}
use Rattle.std.specs.Prelude.{Option, None, Some, IfSome, is_some}
use Rattle.std.specs.Option.{option_or, option_to_list}
use Rattle.can_bus.specs.declared.bus.Ended.{Ended}
use Rattle.can_bus.specs.Bus.{BusState, ended_on}
use Rattle.can_bus.specs.Bus as channel
use Rattle.can_bus.proofs.Wire.{wire_empty-after_finish}
use Rattle.channel_pair.specs.Pair.{PairState, IsSoundPair, second_of_both, after_finish}
use Rattle.channel_pair.specs.Laws.{HoldsNothingAfterTwo, GivesBoth}

-- on one channel no frame ends after the first call
ended_again : (s : BusState) (now : ℕ) → channel.ended (channel.after_finish s now) now ≡ None
ended_again s now =
    elim (channel.ended s now) as (λ o. channel.ended s now ≡ o → channel.ended (channel.after_finish s now) now ≡ None) [
      | None ↦ λ e. ap (λ o. channel.ended (cond (is_some o) (record s { wire = None }) s) now) e ∙ e
      | Some d ↦ λ e. ap (λ w. ended_on w now) (wire_empty-after_finish s now d e)
    ] refl

-- behind a call nothing is held where no frame ends on channel 1
held_behind : (s : PairState) (now : ℕ) → channel.ended s.one now ≡ None → (after_finish s now).held ≡ None
held_behind s now none =
    elim (is_some s.held) as (λ b. (cond b (record s { held = None }) (record {
      one = channel.after_finish s.one now;
      two = channel.after_finish s.two now;
      held = second_of_both (channel.ended s.one now) (channel.ended s.two now);
    })).held ≡ None) [
      | true ↦ refl
      | false ↦ ap (λ o. second_of_both o (channel.ended s.two now)) none
    ]

-- after a call on a sound pair no frame ends on channel 1
ended_behind : (s : PairState) (now : ℕ) → IsSoundPair s → channel.ended (after_finish s now).one now ≡ None
ended_behind s now h =
    elim (s.held) as (λ o. IfSome o (λ _. (s.one.wire ≡ None) × (s.two.wire ≡ None))
    → channel.ended (cond (is_some o) (record s { held = None }) (record {
      one = channel.after_finish s.one now;
      two = channel.after_finish s.two now;
      held = second_of_both (channel.ended s.one now) (channel.ended s.two now);
    })).one now ≡ None) [
      | None ↦ λ _. ended_again s.one now
      | Some e ↦ λ empty. ap (λ w. ended_on w now) empty.0
    ] h.wires_empty

-- after two calls of `finish` nothing is held
pub holds_nothing : (s : PairState) (now : ℕ) → IsSoundPair s → HoldsNothingAfterTwo s now
holds_nothing s now h = held_behind (after_finish s now) now (ended_behind s now h)

-- ---- what two calls give
lists : (a b : Option Ended) → option_to_list (option_or a b) ++ option_to_list (option_or (second_of_both a b) None) ≡ option_to_list a ++ option_to_list b
lists None None = refl
lists None (Some e) = refl
lists (Some e) None = refl
lists (Some e) (Some d) = refl

nothing_more : (one two : BusState) (now : ℕ) → option_or (channel.ended (channel.after_finish one now) now) (channel.ended (channel.after_finish two now) now) ≡ None
nothing_more one two now = (λ i. option_or (ended_again one now i) (channel.ended (channel.after_finish two now) now)) ∙ ended_again two now

from_nothing : (one two : BusState) (now : ℕ) → GivesBoth (record { one = one; two = two; held = None }) now
from_nothing one two now none =
    let a = channel.ended one now in
    let b = channel.ended two now in
    ap (λ o. option_to_list (option_or a b) ++ option_to_list (option_or (second_of_both a b) o)) (nothing_more one two now)
    ∙ lists a b

-- where nothing is held, they give the frame that ends on channel 1, then the one on channel 2
pub gives_both : (s : PairState) (now : ℕ) → GivesBoth s now
gives_both s now none =
    subst (λ o. GivesBoth (record s { held = o }) now) (sym none) (from_nothing s.one s.two now) none
