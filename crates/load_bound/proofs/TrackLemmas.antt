-- Requests that keep to the streams: what holds at each moment of the bus, and of a stream with a good wait.
use Rattle.std.proofs.Common.{◌≡◌, ◌≢◌, ℕ, ◌+◌, ◌*◌, ◌<◌, ◌≤◌, Bool, true, false, cond, List, [], ◌∷◌, length, map, get_or, eqb, leb, refl, sym, ap, subst, ◌∙◌, inl, inr, arith, ◌⊎◌}
use Rattle.std.specs.Prelude.{Option, None, Some, IfSome, insert, remove}
use Rattle.std.specs.List.{All, AllZip, Contains, filter}
use Rattle.std.specs.Option.{option_map}
use Rattle.std.proofs.Math.Nat.{mul-le-mul_right}
use Rattle.std.proofs.lemmas.List.Elements.{All-cons, All-head, All-tail, All-weaker, All-map}
use Rattle.can_frame.specs.Frame.{FrameFields, data_len_of}
use Rattle.frame_bits.specs.Length.{is_extended, unstuffed_len, worst_length, frame_length}
use Rattle.frame_bits.proofs.Lengths.{BoundsLengths-worst, IsFrameLength-frame_length}
use Rattle.can_bus.specs.declared.waiting.Waiting.{Waiting}
use Rattle.can_bus.specs.declared.transmission.Transmission.{Transmission}
use Rattle.can_bus.specs.Bus.{time_on_wire, intermission, BusState, next_number, last_number, with_ranks, with_request, transmission_with_rank, after_request}
use Rattle.can_bus.proofs.RankLemmas.{with_ranks-is}
use Rattle.can_bus.proofs.Wire.{wire_request, wire-after_request}
use Rattle.can_bus.proofs.Requests.{Contains-first, Contains-later, Contains-cons, not_Contains-nil}
use Rattle.arbitration.proofs.RequestLemmas.{new_request, All-insert}
use Rattle.load_bound.specs.declared.stream.Stream.{Stream}
use Rattle.load_bound.specs.Streams.{frame_time, blocking, is_stronger}
use Rattle.load_bound.specs.Timeline.{FrameAt, begins_at}
use Rattle.load_bound.specs.Kept.{same_ident, of_stream, IsFrameOf, ComeApart, BeginsWithin}
use Rattle.load_bound.proofs.FilterLemmas.{filter-cons, filter-insert_other, filter-insert_own, filter-remove_other, filter-remove_own, filter-map, filter-nonempty}
use Rattle.load_bound.proofs.BusLists.{Adds}
use Rattle.load_bound.proofs.CountLemmas.{CameApart, count_from, taken_by, taken, sum-more}
use Rattle.load_bound.proofs.NumberLemmas.{le_same, at_plus, at_limit, free_limit, too_early, more_time, both_later}

-- ---- waiting requests of a stream
-- whether a waiting request has the identifier of the stream
abbrev pub is_of : Stream → Waiting → Bool
is_of s r = same_ident r.frame.ident s.ident

-- the node and the frame of a request
abbrev pub sent_by : Waiting → ℕ × FrameFields
sent_by r = (r.node, r.frame)

-- the nodes and frames of the stream that wait
abbrev pub waits_of : Stream → List Waiting → List (ℕ × FrameFields)
waits_of s rs = map sent_by (filter (is_of s) rs)

same_sent : (g : Waiting → Waiting) → ((r : Waiting) → (g r).node ≡ r.node) → ((r : Waiting) → (g r).frame ≡ r.frame) → (rs : List Waiting) → map sent_by (map g rs) ≡ map sent_by rs
same_sent g node frame [] = refl
same_sent g node frame (r ∷ rs) = λ i. (node r i, frame r i) ∷ same_sent g node frame rs i

map_none : (rs : List Waiting) → map sent_by rs ≡ [] → rs ≡ []
map_none [] e = refl
map_none (r ∷ rs) e = absurd (cc)

map_one : (rs : List Waiting) (z : ℕ × FrameFields) → map sent_by rs ≡ z ∷ [] → (y : Waiting) × (rs ≡ y ∷ []) × (sent_by y ≡ z)
map_one [] z e = absurd (cc)
map_one (y ∷ []) z e = (y, refl, cc)
map_one (y ∷ x ∷ rs) z e = absurd (cc)

added_waits : (s : Stream) (rs after : List Waiting) (node : ℕ) (f : FrameFields) (adds : Adds rs after node f)
    → waits_of s after ≡ map sent_by (filter (is_of s) (insert rs adds.place (new_request node adds.number f)))
added_waits s rs after node f adds =
    let longer : List Waiting = insert rs adds.place (new_request node adds.number f) in
    ap (waits_of s) adds.is
    ∙ ap (map sent_by) (filter-map (is_of s) adds.renumber (λ r. ap (λ (g : FrameFields). same_ident g.ident s.ident) (adds.frame_kept r)) longer)
    ∙ same_sent adds.renumber adds.node_kept adds.frame_kept (filter (is_of s) longer)

-- a request of another identifier leaves those of the stream
pub waits_of-other : (s : Stream) (rs after : List Waiting) (node : ℕ) (f : FrameFields) → Adds rs after node f → same_ident f.ident s.ident ≡ false
    → waits_of s after ≡ waits_of s rs
waits_of-other s rs after node f adds fails =
    added_waits s rs after node f adds
    ∙ ap (map sent_by) (filter-insert_other (is_of s) rs adds.place (new_request node adds.number f) fails)

-- where none of the stream waits, a request of it is the one that waits
pub waits_of-own : (s : Stream) (rs after : List Waiting) (node : ℕ) (f : FrameFields) → Adds rs after node f → same_ident f.ident s.ident ≡ true → waits_of s rs ≡ []
    → waits_of s after ≡ (node, f) ∷ []
waits_of-own s rs after node f adds holds none =
    added_waits s rs after node f adds
    ∙ ap (map sent_by) (filter-insert_own (is_of s) rs adds.place (new_request node adds.number f) holds (map_none (filter (is_of s) rs) none))

-- where one of the stream waits, something waits
pub waits_of-some : (s : Stream) (rs : List Waiting) (z : ℕ × FrameFields) → waits_of s rs ≡ z ∷ [] → length rs ≢ 0
waits_of-some s [] z e = absurd (cc)
waits_of-some s (r ∷ rs) z e = λ none. absurd (omega arith)

kept_in : (s : Stream) (rs : List Waiting) (y : Waiting) → Contains (filter (is_of s) rs) y → Contains rs y × (is_of s y ≡ true)
kept_in s [] y in' = absurd (not_Contains-nil y in')
kept_in s (r ∷ rs) y in' =
    elim (is_of s r) as (λ b. is_of s r ≡ b → Contains (cond b (r ∷ filter (is_of s) rs) (filter (is_of s) rs)) y → Contains (r ∷ rs) y × (is_of s y ≡ true)) [
      | true ↦ λ holds here. elim (Contains-cons r y (filter (is_of s) rs) here) [
        | inl same ↦ (subst (Contains (r ∷ rs)) same (Contains-first r rs), ap (is_of s) (sym same) ∙ holds)
        | inr later ↦ let rest = kept_in s rs y later in (Contains-later r y rs rest.0, rest.1)
      ]
      | false ↦ λ fails here. let rest = kept_in s rs y here in (Contains-later r y rs rest.0, rest.1)
    ] refl in'

-- where one of the stream waits, it stands in the list
pub waiting_one : (s : Stream) (rs : List Waiting) (z : ℕ × FrameFields) → waits_of s rs ≡ z ∷ [] → (x : Waiting) × Contains rs x × (is_of s x ≡ true)
waiting_one s rs z e =
    let one = map_one (filter (is_of s) rs) z e in
    let in' = kept_in s rs one.0 (subst (λ xs. Contains xs one.0) (sym one.1) (Contains-first one.0 [])) in
    (one.0, in'.0, in'.1)

-- ---- the frames of the list
-- the frame is of one of the streams
abbrev pub IsOfStreams : List Stream → FrameFields → Type 0
IsOfStreams streams f = (s : Stream) × Contains streams s × IsFrameOf s f

-- a request of a stream leaves all frames of streams
pub frames-added : (streams : List Stream) (rs after : List Waiting) (node : ℕ) (f : FrameFields) → Adds rs after node f → IsOfStreams streams f
    → All (λ r. IsOfStreams streams r.frame) rs → All (λ r. IsOfStreams streams r.frame) after
frames-added streams rs after node f adds of all =
    let P : Waiting → Type 0 = λ r. IsOfStreams streams r.frame in
    let longer : List Waiting = insert rs adds.place (new_request node adds.number f) in
    let more : All P longer = All-insert P rs adds.place (new_request node adds.number f) all of in
    let Q : FrameFields → Type 0 = IsOfStreams streams in
    subst (All P) (sym adds.is) (All-map P adds.renumber longer (All-weaker P (λ r. P (adds.renumber r)) (λ r h. subst Q (sym (adds.frame_kept r)) h) longer more))

-- ---- what a request leaves of the bus
-- the moment from which it is free
pub free-after_request : (s : BusState) (node : ℕ) (f : FrameFields) → (after_request s node f).free ≡ s.free
free-after_request s node f =
    elim (eqb (next_number s node) last_number) as (λ b. (with_request (cond b (with_ranks s node) s) node f).free ≡ s.free) [
      | true ↦ ap (λ (u : BusState). u.free) (with_ranks-is s node)
      | false ↦ refl
    ]

end_kept : (s : BusState) (node free : ℕ) (wire : Option Transmission) → IfSome wire (λ t. t.end ≤ free) → IfSome (option_map (wire_request s node) wire) (λ t. t.end ≤ free)
end_kept s node free None h = tt
end_kept s node free (Some t) h =
    elim (eqb (next_number s node) last_number) as (λ b. (cond b (transmission_with_rank s node t) t).end ≤ free) [ true ↦ h | false ↦ h ]

-- the end on the wire
pub ends-after_request : (s : BusState) (node : ℕ) (f : FrameFields) → IfSome s.wire (λ t. t.end ≤ s.free)
    → IfSome (after_request s node f).wire (λ t. t.end ≤ (after_request s node f).free)
ends-after_request s node f h =
    let P : Option Transmission → Type 0 = λ w. IfSome w (λ t. t.end ≤ s.free) in
    let Q : ℕ → Type 0 = λ n. IfSome (after_request s node f).wire (λ t. t.end ≤ n) in
    subst Q (sym (free-after_request s node f)) (subst P (sym (wire-after_request s node f)) (end_kept s node s.free s.wire h))

-- ---- how long a frame keeps the bus
few_bytes : (remote : Bool) (dlc bytes : ℕ) → dlc ≤ bytes → data_len_of remote dlc ≤ bytes
few_bytes true dlc bytes h = omega arith
few_bytes false dlc bytes h = h

-- at most the time of its stream
pub time-le : (j : Stream) (f : FrameFields) (bit b : ℕ) → IsFrameOf j f → b ≡ bit → time_on_wire f b + intermission b ≤ frame_time bit j
time-le j f bit b of is =
    let short = BoundsLengths-worst (is_extended j.ident) j.bytes f (frame_length f) (ap is_extended of.ident) (few_bytes f.remote f.dlc j.bytes of.bytes) (IsFrameLength-frame_length f) in
    let worst : ℕ = worst_length (unstuffed_len (is_extended j.ident) j.bytes) in
    let P : ℕ → Type 0 = λ n. time_on_wire f n + intermission n ≤ frame_time bit j in
    subst P (sym is) (both_later (frame_length f * bit) (worst * bit) (intermission bit) (mul-le-mul_right bit short))

-- ---- the frames of one stream
-- one of the stream comes first
pub of_stream-yes : (s : Stream) (r : FrameAt) (rs : List FrameAt) → same_ident r.frame.ident s.ident ≡ true → of_stream s (r ∷ rs) ≡ r ∷ of_stream s rs
of_stream-yes s r rs holds = filter-cons (λ (q : FrameAt). same_ident q.frame.ident s.ident) true r rs holds

-- one of another stream does
pub of_stream-no : (s : Stream) (r : FrameAt) (rs : List FrameAt) → same_ident r.frame.ident s.ident ≡ false → of_stream s (r ∷ rs) ≡ of_stream s rs
of_stream-no s r rs fails = filter-cons (λ (q : FrameAt). same_ident q.frame.ident s.ident) false r rs fails

-- ---- what holds of a stream with a good wait
-- the moment up to which a frame that was requested at m waits at the latest, by what has begun since
abbrev pub limit : ℕ → List Stream → Stream → ℕ → List FrameAt → ℕ
limit bit streams s m begun = m + blocking bit streams + taken bit streams s m begun

-- none of its frames waits
pub record IsIdle (s : Stream) (w : ℕ) (made begun : List FrameAt) (rs : List Waiting) : Type 0 where
  pub waits : waits_of s rs ≡ []
  pub began : AllZip (BeginsWithin w) (of_stream s made) (of_stream s begun)

-- the newest one waits, and is in time
pub record IsPending (bit : ℕ) (streams : List Stream) (s : Stream) (w now free : ℕ) (made begun : List FrameAt) (rs : List Waiting) : Type 0 where
  pub request : FrameAt
  pub served : List FrameAt
  pub made_is : of_stream s made ≡ request ∷ served
  pub waits : waits_of s rs ≡ (request.node, request.frame) ∷ []
  pub began : AllZip (BeginsWithin w) served (of_stream s begun)
  pub asked : request.moment ≤ now
  pub in_time : now ≤ request.moment + w
  pub now_covered : now ≤ limit bit streams s request.moment begun
  pub free_covered : free ≤ limit bit streams s request.moment begun

-- its requests come apart, and it is idle or pending
pub record IsTracked (bit : ℕ) (streams : List Stream) (s : Stream) (w now free : ℕ) (to_come made begun : List FrameAt) (rs : List Waiting) : Type 0 where
  pub coming_apart : ComeApart s.apart (of_stream s to_come)
  pub coming_after : All (λ q. All (λ r. q.moment + s.apart ≤ r.moment) (of_stream s to_come)) (of_stream s made)
  pub made_apart : CameApart s.apart (of_stream s made)
  pub kept : IsIdle s w made begun rs ⊎ IsPending bit streams s w now free made begun rs

-- ---- a request is made
module _ (bit : ℕ) (streams : List Stream) (s : Stream) (w now free : ℕ) (r : FrameAt) (to_come made begun : List FrameAt) (rs after : List Waiting) where
  request_own : same_ident r.frame.ident s.ident ≡ true → r.moment ≡ now → w < s.apart → free ≤ now + blocking bit streams → Adds rs after r.node r.frame
      → IsTracked bit streams s w now free (r ∷ to_come) made begun rs → IsTracked bit streams s w now free to_come (r ∷ made) begun after
  request_own holds at short soon adds h =
      let T : ℕ = s.apart in
      let coming : List FrameAt = of_stream s to_come in
      let A : List FrameAt → Type 0 = ComeApart T in
      let apart = subst A (of_stream-yes s r to_come holds) h.coming_apart in
      let B : List FrameAt → Type 0 = λ xs. All (λ q. All (λ x. q.moment + T ≤ x.moment) xs) (of_stream s made) in
      let follows = subst B (of_stream-yes s r to_come holds) h.coming_after in
      let made_is = of_stream-yes s r made holds in
      let P : FrameAt → Type 0 = λ q. All (λ x. q.moment + T ≤ x.moment) coming in
      let Q : FrameAt → Type 0 = λ q. All (λ x. q.moment + T ≤ x.moment) (r ∷ coming) in
      let later : All P (of_stream s made) = All-weaker Q P (λ q g. All-tail (λ (x : FrameAt). q.moment + T ≤ x.moment) r coming g) (of_stream s made) follows in
      let before : All (λ q. q.moment + T ≤ r.moment) (of_stream s made) =
      All-weaker Q (λ q. q.moment + T ≤ r.moment) (λ q g. All-head (λ (x : FrameAt). q.moment + T ≤ x.moment) r coming g) (of_stream s made) follows in
      record {
        coming_apart = apart.1;
        coming_after = subst (All P) (sym made_is) (All-cons P r (of_stream s made) apart.0 later);
        made_apart = subst (CameApart T) (sym made_is) (before, h.made_apart);
        kept = elim (h.kept) [
          | inl idle ↦ inr (record {
            request = r;
            served = of_stream s made;
            made_is = made_is;
            waits = waits_of-own s rs after r.node r.frame adds holds idle.waits;
            began = idle.began;
            asked = le_same r.moment now at;
            in_time = at_plus r.moment now w at;
            now_covered = at_limit r.moment now (blocking bit streams) (taken bit streams s r.moment begun) at;
            free_covered = free_limit r.moment now (blocking bit streams) (taken bit streams s r.moment begun) free at soon;
          })
          | inr pending ↦
              let q : FrameAt = pending.request in
              let G : FrameAt → Type 0 = λ x. x.moment + T ≤ r.moment in
              let gap = All-head G q pending.served (subst (All G) pending.made_is before) in
              absurd (too_early q.moment r.moment now w T gap at pending.in_time short)
        ];
      }

  request_other : same_ident r.frame.ident s.ident ≡ false → Adds rs after r.node r.frame
      → IsTracked bit streams s w now free (r ∷ to_come) made begun rs → IsTracked bit streams s w now free to_come (r ∷ made) begun after
  request_other fails adds h =
      let T : ℕ = s.apart in
      let coming_is = of_stream-no s r to_come fails in
      let made_is = of_stream-no s r made fails in
      let waits_is = waits_of-other s rs after r.node r.frame adds fails in
      let A : List FrameAt → Type 0 = ComeApart T in
      let B : List FrameAt → List FrameAt → Type 0 = λ xs ys. All (λ q. All (λ x. q.moment + T ≤ x.moment) xs) ys in
      let C : List FrameAt → Type 0 = CameApart T in
      let D : List FrameAt → Type 0 = λ ys. AllZip (BeginsWithin w) ys (of_stream s begun) in
      record {
        coming_apart = subst A coming_is h.coming_apart;
        coming_after = subst (λ ys. B (of_stream s to_come) ys) (sym made_is) (subst (λ xs. B xs (of_stream s made)) coming_is h.coming_after);
        made_apart = subst C (sym made_is) h.made_apart;
        kept = elim (h.kept) [
          | inl idle ↦ inl (record { waits = waits_is ∙ idle.waits; began = subst D (sym made_is) idle.began })
          | inr pending ↦ inr (record {
            request = pending.request;
            served = pending.served;
            made_is = made_is ∙ pending.made_is;
            waits = waits_is ∙ pending.waits;
            began = pending.began;
            asked = pending.asked;
            in_time = pending.in_time;
            now_covered = pending.now_covered;
            free_covered = pending.free_covered;
          })
        ];
      }

  -- a request that keeps to the streams leaves the stream tracked
  pub tracked-request : r.moment ≡ now → w < s.apart → free ≤ now + blocking bit streams → Adds rs after r.node r.frame
      → IsTracked bit streams s w now free (r ∷ to_come) made begun rs → IsTracked bit streams s w now free to_come (r ∷ made) begun after
  tracked-request at short soon adds h =
      elim (same_ident r.frame.ident s.ident) as (λ b. same_ident r.frame.ident s.ident ≡ b → IsTracked bit streams s w now free to_come (r ∷ made) begun after) [
        | true ↦ λ holds. request_own holds at short soon adds h
        | false ↦ λ fails. request_other fails adds h
      ] refl

-- ---- a frame begins
count-grows : (x : Stream) (m : ℕ) (b : FrameAt) (begun : List FrameAt) → count_from m (of_stream x begun) ≤ count_from m (of_stream x (b ∷ begun))
count-grows x m b begun =
    elim (same_ident b.frame.ident x.ident) as (λ t. count_from m (of_stream x begun) ≤ count_from m (cond t (b ∷ of_stream x begun) (of_stream x begun))) [
      | true ↦ omega arith
      | false ↦ omega arith
    ]

counted : (x : Stream) (m : ℕ) (b : FrameAt) (begun : List FrameAt) → same_ident b.frame.ident x.ident ≡ true → leb m b.moment ≡ true
    → count_from m (of_stream x (b ∷ begun)) ≡ 1 + count_from m (of_stream x begun)
counted x m b begun holds from = ap (count_from m) (of_stream-yes x b begun holds) ∙ ap (λ t. cond t 1 0 + count_from m (of_stream x begun)) from

-- a frame of a stronger stream that begins adds its stream's time at least
pub taken-more : (bit : ℕ) (streams : List Stream) (s j : Stream) (m : ℕ) (b : FrameAt) (begun : List FrameAt) → Contains streams j → is_stronger j s ≡ true
    → same_ident b.frame.ident j.ident ≡ true → leb m b.moment ≡ true → taken bit streams s m begun + frame_time bit j ≤ taken bit streams s m (b ∷ begun)
taken-more bit streams s j m b begun in' stronger holds from =
    sum-more (λ r. is_stronger r s) (taken_by bit m begun) (taken_by bit m (b ∷ begun)) streams j (frame_time bit j) in' stronger
    (λ x. mul-le-mul_right (frame_time bit x) (count-grows x m b begun))
    (more_time (count_from m (of_stream j begun)) (count_from m (of_stream j (b ∷ begun))) (frame_time bit j) (counted j m b begun holds from))

module _ (bit : ℕ) (streams : List Stream) (s : Stream) (w now free after_free : ℕ) (r : Waiting) (to_come made begun : List FrameAt) (rs : List Waiting) (place : ℕ)
    (within : place < length rs) (is : r ≡ get_or rs place r) where
  start_own : same_ident r.frame.ident s.ident ≡ true → IsTracked bit streams s w now free to_come made begun rs
      → IsTracked bit streams s w now after_free to_come made (begins_at now r ∷ begun) (remove rs place)
  start_own holds h = record {
    coming_apart = h.coming_apart;
    coming_after = h.coming_after;
    made_apart = h.made_apart;
    kept = elim (h.kept) [
      | inl idle ↦ absurd (filter-nonempty (is_of s) rs place r within is holds (map_none (filter (is_of s) rs) idle.waits))
      | inr pending ↦
          let q : FrameAt = pending.request in
          let one = map_one (filter (is_of s) rs) (q.node, q.frame) pending.waits in
          let gone = filter-remove_own (is_of s) rs place r one.0 within is holds one.1 in
          let same : sent_by r ≡ (q.node, q.frame) = ap sent_by (sym gone.0) ∙ one.2 in
          let starts : BeginsWithin w q (begins_at now r) = record {
            node = ap (λ (p : ℕ × FrameFields). p.0) same;
            frame = ap (λ (p : ℕ × FrameFields). p.1) same;
            not_before = pending.asked;
            within = pending.in_time;
          } in
          let D : List FrameAt → List FrameAt → Type 0 = AllZip (BeginsWithin w) in
          let pairs : D (q ∷ pending.served) (begins_at now r ∷ of_stream s begun) = (starts, pending.began) in
          inl (record {
            waits = ap (map sent_by) gone.1;
            began = subst (λ xs. D xs (of_stream s (begins_at now r ∷ begun))) (sym pending.made_is)
                (subst (D (q ∷ pending.served)) (sym (of_stream-yes s (begins_at now r) begun holds)) pairs);
          })
    ];
  }

  -- what has to be known of a pending frame where another begins: the time of the other is added
  abbrev pub IsCovered : Type 0
  IsCovered = (q : FrameAt) → q.moment ≤ now → waits_of s rs ≡ (q.node, q.frame) ∷ [] → now ≤ limit bit streams s q.moment begun
      → (now ≤ limit bit streams s q.moment (begins_at now r ∷ begun)) × (after_free ≤ limit bit streams s q.moment (begins_at now r ∷ begun))

  start_other : same_ident r.frame.ident s.ident ≡ false → IsCovered → IsTracked bit streams s w now free to_come made begun rs
      → IsTracked bit streams s w now after_free to_come made (begins_at now r ∷ begun) (remove rs place)
  start_other fails covered h =
      let begun_is = of_stream-no s (begins_at now r) begun fails in
      let waits_is : waits_of s (remove rs place) ≡ waits_of s rs = ap (map sent_by) (filter-remove_other (is_of s) rs place r within is fails) in
      record {
        coming_apart = h.coming_apart;
        coming_after = h.coming_after;
        made_apart = h.made_apart;
        kept = elim (h.kept) [
          | inl idle ↦ inl (record {
            waits = waits_is ∙ idle.waits;
            began = subst (AllZip (BeginsWithin w) (of_stream s made)) (sym begun_is) idle.began;
          })
          | inr pending ↦
              let cover = covered pending.request pending.asked pending.waits pending.now_covered in
              inr (record {
                request = pending.request;
                served = pending.served;
                made_is = pending.made_is;
                waits = waits_is ∙ pending.waits;
                began = subst (AllZip (BeginsWithin w) pending.served) (sym begun_is) pending.began;
                asked = pending.asked;
                in_time = pending.in_time;
                now_covered = cover.0;
                free_covered = cover.1;
              })
        ];
      }

  -- a frame that begins leaves the stream tracked
  pub tracked-start : (same_ident r.frame.ident s.ident ≡ false → IsCovered) → IsTracked bit streams s w now free to_come made begun rs
      → IsTracked bit streams s w now after_free to_come made (begins_at now r ∷ begun) (remove rs place)
  tracked-start covered h =
      elim (same_ident r.frame.ident s.ident) as (λ b. same_ident r.frame.ident s.ident ≡ b → IsTracked bit streams s w now after_free to_come made (begins_at now r ∷ begun) (remove rs place)) [
        | true ↦ λ holds. start_own holds h
        | false ↦ λ fails. start_other fails (covered fails) h
      ] refl
