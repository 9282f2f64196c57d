-- How many frames of a stream begin from a moment on, and how long they keep the bus.
use Rattle.std.proofs.Common.{◌≡◌, ℕ, ◌+◌, ◌*◌, ◌/◌, ◌<◌, ◌≤◌, Bool, true, false, cond, List, [], ◌∷◌, leb, refl, sym, ap, subst, ◌∙◌, inl, inr, arith}
use Rattle.std.specs.Prelude.{⊤}
use Rattle.std.specs.List.{All, AllZip, Contains, filter, sum_by}
use Rattle.std.proofs.Math.Nat.{mul-le-mul_right}
use Rattle.std.proofs.lemmas.Bool.{cases_lt}
use Rattle.std.proofs.lemmas.Bool.Decides.{leb_tells}
use Rattle.std.proofs.lemmas.List.Elements.{All-head, All-weaker}
use Rattle.std.proofs.lemmas.List.Sums.{sum_by-cons, sum_by-le-sum_by}
use Rattle.can_bus.proofs.Requests.{Contains-first, Contains-later, Contains-cons, not_Contains-nil}
use Rattle.load_bound.specs.declared.stream.Stream.{Stream}
use Rattle.load_bound.specs.Streams.{frame_time, is_stronger}
use Rattle.load_bound.specs.Waits.{most_frames, interference}
use Rattle.load_bound.specs.Timeline.{FrameAt}
use Rattle.load_bound.specs.Kept.{of_stream, BeginsWithin}
use Rattle.load_bound.proofs.NumberLemmas.{le_through, zero_le, more_than_none, none_left, not_some, both_later, positive, room_more, room_same, room_one, room_of_wait, quotient}

-- ---- how many begin from a moment on
-- how many of the frames have a moment from m on
abbrev pub count_from : ℕ → List FrameAt → ℕ
count_from m [] = 0
count_from m (b ∷ bs) = cond (leb m b.moment) 1 0 + count_from m bs

-- each came at least so long after each older one; the newest stands first
abbrev pub CameApart : ℕ → List FrameAt → Type 0
CameApart apart [] = ⊤
CameApart apart (r ∷ rs) = All (λ older. older.moment + apart ≤ r.moment) rs × CameApart apart rs

-- where starts answer requests that come apart within less than this time, n of them from m on need n - 2
-- such times before the last
count_room : (apart wait m end : ℕ) (rs bs : List FrameAt) → wait < apart → CameApart apart rs → All (λ r. r.moment + apart ≤ end) rs → AllZip (BeginsWithin wait) rs bs
    → 1 ≤ count_from m bs → count_from m bs * apart + m < end + apart
count_room apart wait m end [] [] short came before begun some = absurd (omega arith)
count_room apart wait m end [] (b ∷ bs) short came before begun some = absurd begun
count_room apart wait m end (r ∷ rs) [] short came before begun some = absurd begun
count_room apart wait m end (r ∷ rs) (b ∷ bs) short came before begun some =
    let here : r.moment + apart ≤ end = All-head (λ (q : FrameAt). q.moment + apart ≤ end) r rs before in
    let starts : BeginsWithin wait r b = begun.0 in
    elim (cases_lt 0 (count_from m bs)) [
      | inl more ↦
          let rest = count_room apart wait m r.moment rs bs short came.1 came.0 begun.1 (more_than_none (count_from m bs) more) in
          elim (leb m b.moment) as (λ t. (cond t 1 0 + count_from m bs) * apart + m < end + apart) [
            | true ↦ room_more (count_from m bs) apart m r.moment end rest here
            | false ↦ room_same (count_from m bs) apart m r.moment end rest here
          ]
      | inr none ↦
          let rest : count_from m bs ≡ 0 = none_left (count_from m bs) none in
          elim (leb_tells m b.moment) [
            | inl from ↦
                let one : count_from m (b ∷ bs) ≡ 1 = (λ i. cond (from.0 i) 1 0 + rest i) in
                room_one (count_from m (b ∷ bs)) apart m r.moment end b.moment wait one from.1 starts.within short here
            | inr earlier ↦
                let nothing : count_from m (b ∷ bs) ≡ 0 = (λ i. cond (earlier.0 i) 1 0 + rest i) in
                absurd (not_some (count_from m (b ∷ bs)) nothing some)
          ]
    ]

-- so within a wait no more begin than it has whole times, and two more
pub count-le : (apart wait m now w : ℕ) (rs bs : List FrameAt) → wait < apart → CameApart apart rs → All (λ r. r.moment ≤ now) rs → AllZip (BeginsWithin wait) rs bs → now ≤ m + w
    → count_from m bs ≤ w / apart + 2
count-le apart wait m now w rs bs short came before begun late =
    elim (cases_lt 0 (count_from m bs)) [
      | inl some ↦
          let ends : All (λ r. r.moment + apart ≤ now + apart) rs = All-weaker (λ (r : FrameAt). r.moment ≤ now) (λ r. r.moment + apart ≤ now + apart) (λ r h. both_later r.moment now apart h) rs before in
          let room = count_room apart wait m (now + apart) rs bs short came ends begun (more_than_none (count_from m bs) some) in
          quotient (count_from m bs) w apart (positive wait apart short) (room_of_wait (count_from m bs) now m w apart room late)
      | inr none ↦ le_through (count_from m bs) 0 (w / apart + 2) none (zero_le (w / apart + 2))
    ]

-- ---- sums over streams
module _ (p : Stream → Bool) (f g : Stream → ℕ) where
  -- terms of streams of the list that pass are no greater
  pub sum-le : (xs : List Stream) → ((x : Stream) → Contains xs x → p x ≡ true → f x ≤ g x) → sum_by f (filter p xs) ≤ sum_by g (filter p xs)
  sum-le [] h = omega arith
  sum-le (x ∷ xs) h =
      let rest = sum-le xs (λ y in' holds. h y (Contains-later x y xs in') holds) in
      elim (p x) as (λ b. p x ≡ b → sum_by f (cond b (x ∷ filter p xs) (filter p xs)) ≤ sum_by g (cond b (x ∷ filter p xs) (filter p xs))) [
        | true ↦ λ holds. let here = h x (Contains-first x xs) holds in omega (arith, sum_by-cons f x (filter p xs), sum_by-cons g x (filter p xs))
        | false ↦ λ fails. rest
      ] refl

  -- where no term falls and one rises by c, the sum rises by c
  pub sum-more : (xs : List Stream) (j : Stream) (c : ℕ) → Contains xs j → p j ≡ true → ((x : Stream) → f x ≤ g x) → f j + c ≤ g j
      → sum_by f (filter p xs) + c ≤ sum_by g (filter p xs)
  sum-more [] j c in' holds h more = absurd (not_Contains-nil j in')
  sum-more (x ∷ xs) j c in' holds h more =
      let all = sum_by-le-sum_by f g (filter p xs) h in
      elim (Contains-cons x j xs in') [
        | inl same ↦
            let here : p x ≡ true = ap p same ∙ holds in
            let rises : f x + c ≤ g x = subst (λ y. f y + c ≤ g y) (sym same) more in
            subst (λ b. sum_by f (cond b (x ∷ filter p xs) (filter p xs)) + c ≤ sum_by g (cond b (x ∷ filter p xs) (filter p xs))) (sym here)
            (omega (arith, sum_by-cons f x (filter p xs), sum_by-cons g x (filter p xs)))
        | inr later ↦
            let rest = sum-more xs j c later holds h more in
            let here = h x in
            elim (p x) as (λ b. sum_by f (cond b (x ∷ filter p xs) (filter p xs)) + c ≤ sum_by g (cond b (x ∷ filter p xs) (filter p xs))) [
              | true ↦ omega (arith, sum_by-cons f x (filter p xs), sum_by-cons g x (filter p xs))
              | false ↦ rest
            ]
      ]

-- ---- the time that begun frames of stronger streams take from a moment on
-- of one stream
abbrev pub taken_by : ℕ → ℕ → List FrameAt → Stream → ℕ
taken_by bit m begun r = count_from m (of_stream r begun) * frame_time bit r

-- of all that are stronger
abbrev pub taken : ℕ → List Stream → Stream → ℕ → List FrameAt → ℕ
taken bit streams s m begun = sum_by (taken_by bit m begun) (filter (λ r. is_stronger r s) streams)

-- where no stronger stream has more frames than can begin within the wait, that is no more than interference
pub taken-le : (bit : ℕ) (streams : List Stream) (s : Stream) (m w : ℕ) (begun : List FrameAt)
    → ((r : Stream) → Contains streams r → is_stronger r s ≡ true → count_from m (of_stream r begun) ≤ most_frames w r)
    → taken bit streams s m begun ≤ interference bit streams s w
taken-le bit streams s m w begun h =
    sum-le (λ r. is_stronger r s) (taken_by bit m begun) (λ r. most_frames w r * frame_time bit r) streams
    (λ r in' holds. mul-le-mul_right (frame_time bit r) (h r in' holds))
