-- The timeline of requests that keep to the streams, from instant to instant.
use Rattle.std.proofs.Common.{◌≡◌, ◌≢◌, ℕ, zero, suc, ◌+◌, ◌/◌, ◌<◌, ◌≤◌, true, false, cond, List, [], ◌∷◌, length, get_or, refl, sym, subst, ◌∙◌, inl, inr, arith}
use Rattle.std.specs.Prelude.{Option, None, Some, IfSome, min, is_some, remove}
use Rattle.std.specs.List.{All, Contains}
use Rattle.std.specs.Option.{option_map_or}
use Rattle.std.proofs.lemmas.Bool.Decides.{eqb_tells}
use Rattle.std.proofs.lemmas.List.Elements.{All-nil, All-cons, All-head, All-tail, All-weaker, All-filter, All-contains}
use Rattle.can_frame.specs.Frame.{FrameFields, IsIdent}
use Rattle.can_bus.specs.declared.waiting.Waiting.{Waiting}
use Rattle.can_bus.specs.Bus.{time_on_wire, intermission, BusState, new_bus, BitTakesTime, after_request, ended, after_finish, winner_at, with_transmission, after_arbitration, next_moment, one_channel}
use Rattle.can_bus.specs.Laws.{Follows}
use Rattle.can_bus.specs.Laws.Follows.{nothing, request}
use Rattle.can_bus.proofs.SoundStays.{bit-after_request}
use Rattle.can_bus.proofs.DueLater.{DueLater-bus}
use Rattle.arbitration.proofs.ArbitrationLemmas.{All-remove}
use Rattle.load_bound.specs.declared.stream.Stream.{Stream}
use Rattle.load_bound.specs.Streams.{IsStream, frame_time, blocking, is_stronger}
use Rattle.load_bound.specs.Waits.{most_frames, interference, IsGood, StrongerHaveWaits, IsAccepted}
use Rattle.load_bound.specs.Timeline.{FrameAt, Line, new_line, first_moment, earlier, next_instant, with_end, with_request, with_requests, begins_at, with_instant, with_next, line_after}
use Rattle.load_bound.specs.Kept.{same_ident, of_stream, ComeApart, KeepStreams, AreInTime, IsDuring, WaitsAreKept}
use Rattle.load_bound.proofs.NumberLemmas.{le_through, eq_le, le_eq, le_same, zero_le, leb_from, soon_later, limit_in_time, limit_moves, limit_covers, taken_soon, le_plus, no_earlier, lt_le}
use Rattle.load_bound.proofs.TimeLemmas.{frame_time-le-blocking}
use Rattle.load_bound.proofs.PairLemmas.{IsGiven, Contains-given, of_given, all_given, given_wait}
use Rattle.load_bound.proofs.IdentLemmas.{same_ident-yes, same_ident-only, goes_before-stronger}
use Rattle.load_bound.proofs.BusLists.{IsListed, IsListed-new, listed-request, IsWinnerIn, winner_in, waits_in, IsListed-start, arbitration-start, arbitration-none, due_when_waiting}
use Rattle.load_bound.proofs.CountLemmas.{CameApart, count_from, count-le, taken, taken-le}
use Rattle.load_bound.proofs.TrackLemmas.{waits_of, waits_of-some, waiting_one, IsOfStreams, frames-added, free-after_request, ends-after_request, time-le, limit, IsPending, IsTracked, tracked-request, tracked-start, taken-more}

-- what holds of the bus and of the requests to come
pub record IsSound (bit : ℕ) (streams : List Stream) (bus : BusState) (now : ℕ) (to_come made : List FrameAt) (rs : List Waiting) : Type 0 where
  pub listed : IsListed bus rs
  pub same_bit : bus.bit ≡ bit
  pub ends_first : IfSome bus.wire (λ t. t.end ≤ bus.free)
  pub free_soon : bus.free ≤ now + blocking bit streams
  pub frames : All (λ r. IsOfStreams streams r.frame) rs
  pub coming : All (λ r. IsOfStreams streams r.frame) to_come
  pub in_order : ComeApart 0 to_come
  pub later : All (λ r. now ≤ r.moment) to_come
  pub made_before : All (λ r. r.moment ≤ now) made

-- and each stream with a given wait is tracked
pub record IsAt (bit : ℕ) (streams : List Stream) (waits : List (Option ℕ)) (bus : BusState) (now : ℕ) (to_come made begun : List FrameAt) : Type 0 where
  pub rs : List Waiting
  pub sound : IsSound bit streams bus now to_come made rs
  pub tracked : (s : Stream) (w : ℕ) → IsGiven streams waits s w → IsTracked bit streams s w now bus.free to_come made begun rs

-- the line after the requests of the moment
pub record IsAsked (bit : ℕ) (streams : List Stream) (waits : List (Option ℕ)) (base : BusState) (t : ℕ) (line : Line) : Type 0 where
  pub at : IsAt bit streams waits line.bus t line.to_come line.made line.begun
  pub now_is : line.now ≡ t
  pub follows : Follows one_channel t base line.bus

-- what holds of the line after an instant
pub record IsKept (bit : ℕ) (streams : List Stream) (waits : List (Option ℕ)) (line : Line) : Type 0 where
  pub at : IsAt bit streams waits line.bus line.now line.to_come line.made line.begun
  pub due : IfSome (next_moment line.bus) (λ d. line.now ≤ d)

-- ---- the earlier of two moments
earlier-first : (a b : Option ℕ) (t : ℕ) → earlier a b ≡ Some t → IfSome a (λ x. t ≤ x)
earlier-first None b t e = tt
earlier-first (Some x) None t e = let same : x ≡ t = cc in omega arith
earlier-first (Some x) (Some y) t e = let same : min x y ≡ t = cc in omega arith

earlier-second : (a b : Option ℕ) (t : ℕ) → earlier a b ≡ Some t → IfSome b (λ y. t ≤ y)
earlier-second a None t e = tt
earlier-second None (Some y) t e = let same : y ≡ t = cc in omega arith
earlier-second (Some x) (Some y) t e = let same : min x y ≡ t = cc in omega arith

earlier-either : (a b : Option ℕ) (t n : ℕ) → earlier a b ≡ Some t → IfSome a (λ x. n ≤ x) → IfSome b (λ y. n ≤ y) → n ≤ t
earlier-either None None t n e h g = absurd (cc)
earlier-either None (Some y) t n e h g = let same : y ≡ t = cc in omega arith
earlier-either (Some x) None t n e h g = let same : x ≡ t = cc in omega arith
earlier-either (Some x) (Some y) t n e h g = let same : min x y ≡ t = cc in omega arith

earlier-reached : (a b : Option ℕ) (due n : ℕ) → a ≡ Some due → IfSome (earlier a b) (λ x. n ≤ x) → n ≤ due
earlier-reached None b due n e h = absurd (cc)
earlier-reached (Some x) None due n e h = let same : x ≡ due = cc in omega arith
earlier-reached (Some x) (Some y) due n e h = let same : x ≡ due = cc in omega arith

first_after : (n : ℕ) (rs : List FrameAt) → All (λ r. n ≤ r.moment) rs → IfSome (first_moment rs) (λ x. n ≤ x)
first_after n [] h = tt
first_after n (r ∷ rs) h = All-head (λ (q : FrameAt). n ≤ q.moment) r rs h

all_after : (n : ℕ) (rs : List FrameAt) → IfSome (first_moment rs) (λ x. n ≤ x) → ComeApart 0 rs → All (λ r. n ≤ r.moment) rs
all_after n [] h apart = All-nil (λ (q : FrameAt). n ≤ q.moment)
all_after n (r ∷ rs) h apart =
    All-cons (λ (q : FrameAt). n ≤ q.moment) r rs h
    (All-weaker (λ (q : FrameAt). r.moment + 0 ≤ q.moment) (λ q. n ≤ q.moment) (λ q g. no_earlier n r.moment q.moment h g) rs apart.0)

module _ (bit : ℕ) (streams : List Stream) (waits : List (Option ℕ)) (bit_time : 1 ≤ bit) (in_range : All IsStream streams) (accepted : IsAccepted bit streams waits) where
  accepted_at : (s : Stream) (w : ℕ) → IsGiven streams waits s w → IsGood bit streams s w × StrongerHaveWaits streams waits s
  accepted_at = of_given (λ s w. IsGood bit streams s w × StrongerHaveWaits streams waits s) streams waits accepted

  good_at : (s : Stream) (w : ℕ) → IsGiven streams waits s w → IsGood bit streams s w
  good_at s w given = (accepted_at s w given).0

  -- ---- a pending frame is in time
  begun_few : (bus : BusState) (now m w : ℕ) (to_come made begun : List FrameAt) (rs : List Waiting) (r : Stream) (v : ℕ) → v < r.apart → All (λ q. q.moment ≤ now) made
      → now ≤ m + w → IsTracked bit streams r v now bus.free to_come made begun rs → count_from m (of_stream r begun) ≤ w / r.apart + 2
  begun_few bus now m w to_come made begun rs r v short before late h =
      let P : FrameAt → Type 0 = λ q. q.moment ≤ now in
      let own : All P (of_stream r made) = All-filter (λ (q : FrameAt). same_ident q.frame.ident r.ident) P made before in
      elim (h.kept) [
        | inl idle ↦ count-le r.apart v m now w (of_stream r made) (of_stream r begun) short h.made_apart own idle.began late
        | inr pending ↦
            let apart = subst (CameApart r.apart) pending.made_is h.made_apart in
            let older = All-tail P pending.request pending.served (subst (All P) pending.made_is own) in
            count-le r.apart v m now w pending.served (of_stream r begun) short apart.1 older pending.began late
      ]

  -- its limit is not behind its wait
  limit-le : (bus : BusState) (now : ℕ) (to_come made begun : List FrameAt) (h : IsAt bit streams waits bus now to_come made begun) (s : Stream) (w m : ℕ) → IsGiven streams waits s w → now ≤ m + w
      → limit bit streams s m begun ≤ m + w
  limit-le bus now to_come made begun h s w m given late =
      let good = accepted_at s w given in
      let few : (r : Stream) → Contains streams r → is_stronger r s ≡ true → count_from m (of_stream r begun) ≤ most_frames w r = λ r in' stronger.
      let other = given_wait (λ q. is_stronger q s) streams waits good.1 r in' stronger in
      begun_few bus now m w to_come made begun h.rs r other.0 (good_at r other.0 other.1).before_next h.sound.made_before late (h.tracked r other.0 other.1) in
      limit_in_time m (blocking bit streams) (interference bit streams s w) (taken bit streams s m begun) w good.0.enough (taken-le bit streams s m w begun few)

  -- where one of its frames waits, the bus is free by then
  free_in_time : (bus : BusState) (now : ℕ) (to_come made begun : List FrameAt) (h : IsAt bit streams waits bus now to_come made begun) (s : Stream) (w : ℕ) (given : IsGiven streams waits s w)
      (p : IsPending bit streams s w now bus.free made begun h.rs) → bus.free ≤ p.request.moment + w
  free_in_time bus now to_come made begun h s w given p =
      le_through bus.free (limit bit streams s p.request.moment begun) (p.request.moment + w) p.free_covered
      (limit-le bus now to_come made begun h s w p.request.moment given p.in_time)

  -- ---- what ends leaves the wire
  module _ (bus : BusState) (now t : ℕ) (to_come made begun : List FrameAt) (h : IsAt bit streams waits bus now to_come made begun) (passed : now ≤ t) (still : All (λ r. t ≤ r.moment) to_come)
      (before_free : length h.rs ≢ 0 → t ≤ bus.free) where
    moved : (other : BusState) → IsListed other h.rs → other.bit ≡ bus.bit → IfSome other.wire (λ u. u.end ≤ other.free) → other.free ≡ bus.free
        → IsAt bit streams waits other t to_come made begun
    moved other listed bits ends free =
        let k : IsSound bit streams bus now to_come made h.rs = h.sound in
        record {
          rs = h.rs;
          sound = record {
            listed = listed;
            same_bit = bits ∙ k.same_bit;
            ends_first = ends;
            free_soon = soon_later other.free bus.free now t (blocking bit streams) free k.free_soon passed;
            frames = k.frames;
            coming = k.coming;
            in_order = k.in_order;
            later = still;
            made_before = All-weaker (λ (r : FrameAt). r.moment ≤ now) (λ r. r.moment ≤ t) (λ r g. le_through r.moment now t g passed) made k.made_before;
          };
          tracked = λ s w given.
              let u : IsTracked bit streams s w now bus.free to_come made begun h.rs = h.tracked s w given in
              record {
                coming_apart = u.coming_apart;
                coming_after = u.coming_after;
                made_apart = u.made_apart;
                kept = elim (u.kept) [
                  | inl idle ↦ inl idle
                  | inr pending ↦
                      let reached = before_free (waits_of-some s h.rs _ pending.waits) in
                      let in_time = free_in_time bus now to_come made begun h s w given pending in
                      let m : ℕ = pending.request.moment in
                      let last : ℕ = limit bit streams s m begun in
                      inr (record {
                        request = pending.request;
                        served = pending.served;
                        made_is = pending.made_is;
                        waits = pending.waits;
                        began = pending.began;
                        asked = le_through m now t pending.asked passed;
                        in_time = le_through t bus.free (m + w) reached in_time;
                        now_covered = le_through t bus.free last reached pending.free_covered;
                        free_covered = eq_le other.free bus.free last free pending.free_covered;
                      })
                ];
              };
        }

    pub at_end : IsAt bit streams waits (after_finish bus t) t to_come made begun
    at_end =
        let k : IsListed bus h.rs = h.sound.listed in
        elim (is_some (ended bus t)) as (λ b. IsAt bit streams waits (cond b (record bus { wire = None }) bus) t to_come made begun) [
          | true ↦ moved (record bus { wire = None }) (record { set = k.set; order = k.order; below = k.below; wire_below = tt }) refl tt refl
          | false ↦ moved bus k refl h.sound.ends_first refl
        ]

  -- ---- a request is made
  pub at_request : (bus : BusState) (t : ℕ) (r : FrameAt) (to_come made begun : List FrameAt) → r.moment ≡ t → IsAt bit streams waits bus t (r ∷ to_come) made begun
      → IsAt bit streams waits (after_request bus r.node r.frame) t to_come (r ∷ made) begun
  at_request bus t r to_come made begun at h =
      let k : IsSound bit streams bus t (r ∷ to_come) made h.rs = h.sound in
      let added = listed-request bus h.rs r.node r.frame k.listed in
      let free = free-after_request bus r.node r.frame in
      let after : BusState = after_request bus r.node r.frame in
      let P : FrameAt → Type 0 = λ q. IsOfStreams streams q.frame in
      record {
        rs = added.0;
        sound = record {
          listed = added.1;
          same_bit = bit-after_request bus r.node r.frame ∙ k.same_bit;
          ends_first = ends-after_request bus r.node r.frame k.ends_first;
          free_soon = eq_le after.free bus.free (t + blocking bit streams) free k.free_soon;
          frames = frames-added streams h.rs added.0 r.node r.frame added.2 (All-head P r to_come k.coming) k.frames;
          coming = All-tail P r to_come k.coming;
          in_order = k.in_order.1;
          later = All-tail (λ (q : FrameAt). t ≤ q.moment) r to_come k.later;
          made_before = All-cons (λ (q : FrameAt). q.moment ≤ t) r made (le_same r.moment t at) k.made_before;
        };
        tracked = λ s w given.
            let good = good_at s w given in
            let F : ℕ → Type 0 = λ n. IsTracked bit streams s w t n to_come (r ∷ made) begun added.0 in
            subst F (sym free) (tracked-request bit streams s w t bus.free r to_come made begun h.rs added.0 at good.before_next k.free_soon added.2 (h.tracked s w given));
      }

  -- ---- arbitration
  module _ (bus : BusState) (t : ℕ) (to_come made begun : List FrameAt) (h : IsAt bit streams waits bus t to_come made begun) (r : Waiting) (win : IsWinnerIn bus h.rs r) where
    abbrev duration : ℕ
    duration = time_on_wire r.frame bus.bit

    abbrev after : BusState
    after = with_transmission bus t duration r

    of : IsOfStreams streams r.frame
    of = All-contains (λ (q : Waiting). IsOfStreams streams q.frame) h.rs r h.sound.frames (win.place, win.within, sym win.is)

    takes : duration + intermission bus.bit ≤ frame_time bit of.0
    takes = time-le of.0 r.frame bit bus.bit of.2 h.sound.same_bit

    stronger_than : (s : Stream) (w : ℕ) → IsGiven streams waits s w → (z : ℕ × FrameFields) → waits_of s h.rs ≡ z ∷ [] → same_ident r.frame.ident s.ident ≡ false → is_stronger of.0 s ≡ true
    stronger_than s w given z one other =
        let x = waiting_one s h.rs z one in
        let own : x.0.frame.ident ≡ s.ident = same_ident-only x.0.frame.ident s.ident x.2 in
        let of_x = All-contains (λ (q : Waiting). IsOfStreams streams q.frame) h.rs x.0 h.sound.frames x.1 in
        let waits_x = waits_in bus h.rs x.0 h.sound.listed x.1 in
        let ident_in : (q : Stream) → Contains streams q → IsIdent q.ident = λ q in'. (All-contains IsStream streams q in_range in').ident_in_range in
        elim (goes_before-stronger of.0 s x.0 r of.2.ident of.2.data_frame own of_x.2.data_frame (ident_in of.0 of.1) (ident_in s (Contains-given streams waits s w given)) (win.wins.before x.0 waits_x) bus.waiting win.wins.waits waits_x) [
          | inl stronger ↦ stronger
          | inr same ↦ absurd (let holds = same_ident-yes r.frame.ident s.ident (of.2.ident ∙ same) in let e : false ≡ true = sym other ∙ holds in cc)
        ]

    at_winner : IsAt bit streams waits after t to_come made (begins_at t r ∷ begun)
    at_winner =
        let k : IsSound bit streams bus t to_come made h.rs = h.sound in
        let longest = frame_time-le-blocking bit streams of.0 of.1 in
        record {
          rs = remove h.rs win.place;
          sound = record {
            listed = IsListed-start bus h.rs t duration r k.listed win;
            same_bit = k.same_bit;
            ends_first = le_plus (t + duration) (intermission bus.bit);
            free_soon = taken_soon t (blocking bit streams) (frame_time bit of.0) duration (intermission bus.bit) takes longest;
            frames = All-remove (λ q. IsOfStreams streams q.frame) h.rs (remove h.rs win.place) win.place refl k.frames;
            coming = k.coming;
            in_order = k.in_order;
            later = k.later;
            made_before = k.made_before;
          };
          tracked = λ s w given.
              tracked-start bit streams s w t bus.free after.free r to_come made begun h.rs win.place win.within win.is
              (λ other q asked one covered.
              let from = leb_from q.moment t asked in
              let more = taken-more bit streams s of.0 q.moment (begins_at t r) begun of.1 (stronger_than s w given (q.node, q.frame) one other)
              (same_ident-yes r.frame.ident of.0.ident of.2.ident) from in
              let m : ℕ = q.moment in
              let used : ℕ = taken bit streams s m begun in
              let later_used : ℕ = taken bit streams s m (begins_at t r ∷ begun) in
              let time : ℕ = frame_time bit of.0 in
              (limit_moves t m (blocking bit streams) used later_used time covered more, limit_covers t m (blocking bit streams) used later_used time duration (intermission bus.bit) covered more takes))
              (h.tracked s w given);
        }

  -- arbitration leaves all tracked
  pub at_start : (bus : BusState) (t : ℕ) (to_come made begun : List FrameAt) → IsAt bit streams waits bus t to_come made begun
      → IsAt bit streams waits (after_arbitration bus t) t to_come made (option_map_or (λ r. begins_at t r ∷ begun) (winner_at bus t) begun)
  at_start bus t to_come made begun h =
      elim (winner_at bus t) as (λ o. winner_at bus t ≡ o → IsAt bit streams waits (after_arbitration bus t) t to_come made (option_map_or (λ r. begins_at t r ∷ begun) o begun)) [
        | None ↦ λ e. let Q : BusState → Type 0 = λ u. IsAt bit streams waits u t to_come made begun in subst Q (sym (arbitration-none bus t e)) h
        | Some r ↦ λ e.
            let Q : BusState → Type 0 = λ u. IsAt bit streams waits u t to_come made (begins_at t r ∷ begun) in
            subst Q (sym (arbitration-start bus t r e)) (at_winner bus t to_come made begun h r (winner_in bus h.rs t r h.sound.listed e))
      ] refl

  -- ---- an instant
  asked : (base : BusState) (t : ℕ) (requests : List FrameAt) (line : Line) → IsAt bit streams waits line.bus t requests line.made line.begun → line.now ≡ t
      → Follows one_channel t base line.bus → IsAsked bit streams waits base t (with_requests t requests line)
  asked base t [] line h now_is follows = record { at = h; now_is = now_is; follows = follows }
  asked base t (r ∷ requests) line h now_is follows =
      elim (eqb_tells r.moment t) [
        | inl due ↦
            let rest = asked base t requests (with_request r line) (at_request line.bus t r requests line.made line.begun due.1 h) now_is (request line.bus r.node r.frame follows) in
            subst (λ b. IsAsked bit streams waits base t (cond b (with_requests t requests (with_request r line)) (record line { to_come = r ∷ requests }))) (sym due.0) rest
        | inr not_yet ↦
            let rest : IsAsked bit streams waits base t (record line { to_come = r ∷ requests }) = record { at = h; now_is = now_is; follows = follows } in
            subst (λ b. IsAsked bit streams waits base t (cond b (with_requests t requests (with_request r line)) (record line { to_come = r ∷ requests }))) (sym not_yet.0) rest
      ]

  later_due : (t : ℕ) (o : Option ℕ) → IfSome o (λ d. t < d) → IfSome o (λ d. t ≤ d)
  later_due t None h = tt
  later_due t (Some d) h = lt_le t d h

  kept_instant : (line : Line) (t : ℕ) → IsKept bit streams waits line → next_instant line ≡ Some t → IsKept bit streams waits (with_instant t line)
  kept_instant line t h e =
      let bus : BusState = line.bus in
      let at : IsAt bit streams waits bus line.now line.to_come line.made line.begun = h.at in
      let k : IsSound bit streams bus line.now line.to_come line.made at.rs = at.sound in
      let due_first = earlier-first (next_moment bus) (first_moment line.to_come) t e in
      let comes_first = earlier-second (next_moment bus) (first_moment line.to_come) t e in
      let passed = earlier-either (next_moment bus) (first_moment line.to_come) t line.now e h.due (first_after line.now line.to_come k.later) in
      let before_free : length at.rs ≢ 0 → t ≤ bus.free = λ some.
      let d = due_when_waiting bus at.rs k.listed k.ends_first some in
      let D : Option ℕ → Type 0 = λ o. IfSome o (λ x. t ≤ x) in
      le_through t d.0 bus.free (subst D d.1 due_first) d.2 in
      let ends = at_end bus line.now t line.to_come line.made line.begun at passed (all_after t line.to_come comes_first k.in_order) before_free in
      let mid = asked (after_finish bus t) t line.to_come (with_end t line) ends refl nothing in
      let asked_line : Line = with_requests t line.to_come (with_end t line) in
      let after : IsAt bit streams waits (after_arbitration asked_line.bus t) t asked_line.to_come asked_line.made (option_map_or (λ r. begins_at t r ∷ asked_line.begun) (winner_at asked_line.bus t) asked_line.begun) =
      at_start asked_line.bus t asked_line.to_come asked_line.made asked_line.begun mid.at in
      let takes_time : BitTakesTime bus = le_eq 1 bit bus.bit bit_time k.same_bit in
      let later = later_due t (next_moment (after_arbitration asked_line.bus t)) (DueLater-bus bus asked_line.bus t takes_time due_first mid.follows) in
      let N : ℕ → Type 0 = λ n. IsAt bit streams waits (after_arbitration asked_line.bus t) n asked_line.to_come asked_line.made (option_map_or (λ r. begins_at t r ∷ asked_line.begun) (winner_at asked_line.bus t) asked_line.begun) in
      let M : ℕ → Type 0 = λ n. IfSome (next_moment (after_arbitration asked_line.bus t)) (λ d. n ≤ d) in
      record { at = subst N (sym mid.now_is) after; due = subst M (sym mid.now_is) later }

  kept_next : (line : Line) → IsKept bit streams waits line → IsKept bit streams waits (with_next line)
  kept_next line h =
      elim (next_instant line) as (λ o. next_instant line ≡ o → IsKept bit streams waits (option_map_or (λ now. with_instant now line) o line)) [
        | None ↦ λ e. h
        | Some t ↦ λ e. kept_instant line t h e
      ] refl

  -- ---- the whole timeline
  apart_of : (requests : List FrameAt) → KeepStreams streams requests → (s : Stream) → Contains streams s → ComeApart s.apart (of_stream s requests)
  apart_of requests keep s in' = All-contains (λ q. ComeApart q.apart (of_stream q requests)) streams s keep.apart in'

  kept_new : (requests : List FrameAt) → KeepStreams streams requests → IsKept bit streams waits (new_line bit requests)
  kept_new requests keep = record {
    at = record {
      rs = [];
      sound = record {
        listed = IsListed-new bit;
        same_bit = refl;
        ends_first = tt;
        free_soon = zero_le (0 + blocking bit streams);
        frames = All-nil (λ (q : Waiting). IsOfStreams streams q.frame);
        coming = keep.of_streams;
        in_order = keep.in_order;
        later = λ k d low. zero_le (get_or requests k d).moment;
        made_before = All-nil (λ (q : FrameAt). q.moment ≤ 0);
      };
      tracked = λ s w given. record {
        coming_apart = apart_of requests keep s (Contains-given streams waits s w given);
        coming_after = All-nil (λ (q : FrameAt). All (λ (r : FrameAt). q.moment + s.apart ≤ r.moment) (of_stream s requests));
        made_apart = tt;
        kept = inl (record { waits = refl; began = tt });
      };
    };
    due = nothing_due;
  }
    where
      nothing_due : IfSome (next_moment (new_bus bit)) (λ d. 0 ≤ d)
      nothing_due = elim (next_moment (new_bus bit)) as (λ o. IfSome o (λ d. 0 ≤ d)) [ None ↦ tt | Some d ↦ zero_le d ]

  kept_after : (requests : List FrameAt) → KeepStreams streams requests → (n : ℕ) → IsKept bit streams waits (line_after bit requests n)
  kept_after requests keep zero = kept_new requests keep
  kept_after requests keep (suc n) = kept_next (line_after bit requests n) (kept_after requests keep n)

  in_time : (line : Line) (now : ℕ) → IsKept bit streams waits line → IsDuring line now → (s : Stream) (w : ℕ) → IsGiven streams waits s w
      → AreInTime w now (of_stream s line.made) (of_stream s line.begun)
  in_time line now h during s w given =
      let at : IsAt bit streams waits line.bus line.now line.to_come line.made line.begun = h.at in
      let k : IsSound bit streams line.bus line.now line.to_come line.made at.rs = at.sound in
      let P : FrameAt → Type 0 = λ r. now ≤ r.moment + w in
      let u : IsTracked bit streams s w line.now line.bus.free line.to_come line.made line.begun at.rs = at.tracked s w given in
      elim (u.kept) [
        | inl idle ↦ record {
          waiting = [];
          served = of_stream s line.made;
          parts = refl;
          still_in_time = All-nil P;
          began_in_time = idle.began;
        }
        | inr pending ↦
            let d = due_when_waiting line.bus at.rs k.listed k.ends_first (waits_of-some s at.rs _ pending.waits) in
            let reached = earlier-reached (next_moment line.bus) (first_moment line.to_come) d.0 now d.1 during.up_to_next in
            let last = free_in_time line.bus line.now line.to_come line.made line.begun at s w given pending in
            record {
              waiting = pending.request ∷ [];
              served = pending.served;
              parts = pending.made_is;
              still_in_time = All-cons P pending.request [] (le_through now d.0 (pending.request.moment + w) reached (le_through d.0 line.bus.free (pending.request.moment + w) d.2 last)) (All-nil P);
              began_in_time = pending.began;
            }
      ]

  -- accepted waits are kept
  pub waits_are_kept : length waits ≡ length streams → WaitsAreKept bit streams waits
  waits_are_kept same =
      λ requests n now keep during.
      let line : Line = line_after bit requests n in
      all_given (λ s w. AreInTime w now (of_stream s line.made) (of_stream s line.begun)) streams waits same
      (in_time line now (kept_after requests keep n) during)
