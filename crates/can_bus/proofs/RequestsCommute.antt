-- Requests of two different nodes commute.
use Rattle.std.proofs.Common.{◌≡◌, ◌≢◌, ℕ, ◌+◌, Bool, true, false, cond, ◌&&◌, List, [], ◌∷◌, map, eqb, ltb, refl, sym, ap, subst, ◌∙◌, inl, inr, arith}
use Rattle.std.specs.Prelude.{Option, None, Some, unwrap_or}
use Rattle.std.specs.Option.{option_map}
use Rattle.std.specs.Ordering.{nat_cmp, ordering_then, eq_by_cmp, is_eq}
use Rattle.std.specs.Cmp.{nat_cmp_total}
use Rattle.std.specs.FinMap.{get, find, entries, retain_keys, len, get-entries, get-insert, get-from_entries, get-retain_keys, same_map, nat_cmp-IsAntisymmetric}
use Rattle.std.specs.FinMap.Entries.{where_key}
use Rattle.std.proofs.lemmas.Bool.Decides.{nat_tests, eqb_tells}
use Rattle.can_frame.specs.Frame.{FrameFields}
use Rattle.can_bus.specs.declared.waiting.Waiting.{Waiting}
use Rattle.can_bus.specs.declared.transmission.Transmission.{Transmission}
use Rattle.can_bus.specs.Waiting.{RequestName, name_cmp, request_name, entry_of, request_at, members}
use Rattle.can_bus.specs.Bus.{BusState, next_number, last_number, rank, with_rank, transmission_with_rank, with_ranks, after_request, one_channel}
use Rattle.can_bus.specs.Laws.{RequestsCommute}
use Rattle.can_bus.proofs.Requests.{name_cmp_total, name_cmp-IsAntisymmetric, ties, entries-retain_keys}
use Rattle.can_bus.proofs.NextNumbers.{get-insert_same, get-insert_other}
use Rattle.can_bus.proofs.RankLemmas.{count_on_wire, with_ranks-is}
use Rattle.can_bus.proofs.Wire.{wire_request, wire-after_request}
use Rattle.can_bus.proofs.SoundStays.{bit-after_request}

-- ---- tests of names
other_node : (m n p q : ℕ) → m ≢ n → is_eq (ordering_then (nat_cmp m n) (nat_cmp p q)) ≡ false
other_node m n p q e = grind (arith, nat_tests)

other_name : (a b : RequestName) → a.0 ≢ b.0 → eq_by_cmp name_cmp a b ≡ false
other_name a b e = other_node a.0 b.0 a.1 b.1 e

-- ---- the state without the last number used up
-- a request of the node is added to this state
abbrev base : BusState → ℕ → BusState
base s node = cond (eqb (next_number s node) last_number) (with_ranks s node) s

-- what was said of the state, and of the state numbered with_rank, is so of the base
by_base : (P : BusState → Type 0) (s : BusState) (node : ℕ) → P s → P (with_ranks s node) → P (base s node)
by_base P s node h g = elim (eqb (next_number s node) last_number) as (λ b. P (cond b (with_ranks s node) s)) [ true ↦ g | false ↦ h ]

-- ---- the requests of the other nodes stay
module _ (s : BusState) (m : ℕ) where
  with_rank_other : (r : Waiting) → r.node ≢ m → with_rank s m r ≡ r
  with_rank_other r e = let apart : eqb r.node m ≡ false = grind (arith, nat_tests) in ap (λ b. cond b (record r { number = rank s m r.number }) r) apart

  with_rank_node : (r : Waiting) → (with_rank s m r).node ≡ r.node
  with_rank_node r = elim (eqb r.node m) as (λ b. (cond b (record r { number = rank s m r.number }) r).node ≡ r.node) [ true ↦ refl | false ↦ refl ]

  find-with_rank_other : (q : RequestName) (es : List (RequestName × FrameFields)) → q.0 ≢ m → find name_cmp q (map entry_of (map (with_rank s m) (map request_at es))) ≡ find name_cmp q es
  find-with_rank_other q [] e = refl
  find-with_rank_other q (d ∷ es) e =
      let rest = find-with_rank_other q es e in
      elim (eqb_tells d.0.0 m) [
        | inl own ↦
            let left : eq_by_cmp name_cmp q (request_name (with_rank s m (request_at d))) ≡ false = other_name q (request_name (with_rank s m (request_at d))) (λ same. e (same ∙ with_rank_node (request_at d) ∙ own.1)) in
            let right : eq_by_cmp name_cmp q d.0 ≡ false = other_name q d.0 (λ same. e (same ∙ own.1)) in
            ap (λ b. cond b (Some (with_rank s m (request_at d)).frame) (find name_cmp q (map entry_of (map (with_rank s m) (map request_at es))))) left
            ∙ rest
            ∙ sym (ap (λ b. cond b (Some d.1) (find name_cmp q es)) right)
        | inr other ↦
            ap (λ (r : Waiting). cond (eq_by_cmp name_cmp q (request_name r)) (Some r.frame) (find name_cmp q (map entry_of (map (with_rank s m) (map request_at es))))) (with_rank_other (request_at d) other.1)
            ∙ ap (cond (eq_by_cmp name_cmp q d.0) (Some d.1)) rest
      ]

  waits-with_ranks_other : (q : RequestName) → q.0 ≢ m → get (with_ranks s m).waiting q ≡ get s.waiting q
  waits-with_ranks_other q e =
      ap (λ (t : BusState). get t.waiting q) (with_ranks-is s m)
      ∙ get-from_entries name_cmp_total (map entry_of (map (with_rank s m) (members s.waiting))) q
      ∙ find-with_rank_other q (entries s.waiting) e
      ∙ sym (get-entries s.waiting q)

  next-with_ranks_other : (q : ℕ) → q ≢ m → get (with_ranks s m).next q ≡ get s.next q
  next-with_ranks_other q e = ap (λ (t : BusState). get t.next q) (with_ranks-is s m) ∙ get-insert_other s.next m (rank s m (next_number s m)) q e

  other_waits : (f : FrameFields) (q : RequestName) → q.0 ≢ m → get (after_request s m f).waiting q ≡ get s.waiting q
  other_waits f q e =
      let t : BusState = base s m in
      get-insert name_cmp_total t.waiting (m, next_number t m) f q
      ∙ ap (λ b. cond b (Some f) (get t.waiting q)) (other_name q (m, next_number t m) e)
      ∙ by_base (λ u. get u.waiting q ≡ get s.waiting q) s m refl (waits-with_ranks_other q e)

  other_next : (f : FrameFields) (q : ℕ) → q ≢ m → get (after_request s m f).next q ≡ get s.next q
  other_next f q e =
      let t : BusState = base s m in
      get-insert_other t.next m (next_number t m + 1) q e
      ∙ by_base (λ u. get u.next q ≡ get s.next q) s m refl (next-with_ranks_other q e)

  other_number : (f : FrameFields) (q : ℕ) → q ≢ m → next_number (after_request s m f) q ≡ next_number s q
  other_number f q e = ap (λ o. unwrap_or o 0) (other_next f q e)

  -- ---- what is on the wire
  wire_request_other : (t : Transmission) → t.request.node ≢ m → wire_request s m t ≡ t
  wire_request_other t e =
      elim (eqb (next_number s m) last_number) as (λ b. cond b (transmission_with_rank s m t) t ≡ t) [
        | true ↦ λ i. record { request = with_rank_other t.request e i; end = t.end }
        | false ↦ refl
      ]

  wire_request_node : (t : Transmission) → (wire_request s m t).request.node ≡ t.request.node
  wire_request_node t = elim (eqb (next_number s m) last_number) as (λ b. (cond b (transmission_with_rank s m t) t).request.node ≡ t.request.node) [ true ↦ with_rank_node t.request | false ↦ refl ]

  -- ---- the ranks of another node
  module _ (f : FrameFields) (n : ℕ) (apart : n ≢ m) (number : ℕ) where
    uncounted : (node k : ℕ) → node ≡ m → cond {A = ℕ} (eqb node n && ltb k number) 1 0 ≡ 0
    uncounted node k e = let other : node ≢ n = λ same. apart (sym same ∙ e) in grind (arith, nat_tests)

    counted_on_wire : (w : Option Transmission) → count_on_wire (option_map (wire_request s m) w) n number ≡ count_on_wire w n number
    counted_on_wire None = refl
    counted_on_wire (Some t) =
        elim (eqb_tells t.request.node m) [
          | inl own ↦ uncounted (wire_request s m t).request.node (wire_request s m t).request.number (wire_request_node t ∙ own.1) ∙ sym (uncounted t.request.node t.request.number own.1)
          | inr other ↦ ap (λ (u : Transmission). cond {A = ℕ} (eqb u.request.node n && ltb u.request.number number) 1 0) (wire_request_other t other.1)
        ]

    retained_other : retain_keys (after_request s m f).waiting (λ name. eqb name.0 n && ltb name.1 number) ≡ retain_keys s.waiting (λ name. eqb name.0 n && ltb name.1 number)
    retained_other =
        let p : RequestName → Bool = λ name. eqb name.0 n && ltb name.1 number in
        same_map name_cmp_total name_cmp-IsAntisymmetric _ _
        (λ q. get-retain_keys (after_request s m f).waiting p q (ties p q)
        ∙ elim (eqb_tells q.0 m) [
          | inl own ↦
              let fails : p q ≡ false = let other : q.0 ≢ n = λ same. apart (sym same ∙ own.1) in grind (arith, nat_tests) in
              ap (λ b. cond b (get (after_request s m f).waiting q) None) fails ∙ sym (ap (λ b. cond b (get s.waiting q) None) fails)
          | inr other ↦ ap (λ o. cond (p q) o None) (other_waits f q other.1)
        ]
        ∙ sym (get-retain_keys s.waiting p q (ties p q)))

    other_rank : rank (after_request s m f) n number ≡ rank s n number
    other_rank =
        (λ i. len (retained_other i) + count_on_wire (wire-after_request s m f i) n number)
        ∙ ap (λ k. len (retain_keys s.waiting (λ name. eqb name.0 n && ltb name.1 number)) + k) (counted_on_wire s.wire)

  same_free : (f : FrameFields) → (after_request s m f).free ≡ s.free
  same_free f = by_base (λ u. u.free ≡ s.free) s m refl (ap (λ (u : BusState). u.free) (with_ranks-is s m))

-- ---- a request's effect on its own node follows from what the state has of the node
find-own : (s : BusState) (n k : ℕ) (es : List (RequestName × FrameFields))
    → find name_cmp (n, k) (map entry_of (map (with_rank s n) (map request_at es))) ≡ find name_cmp (n, k) (map entry_of (map (with_rank s n) (map request_at (where_key name_cmp (λ name. eqb name.0 n) es))))
find-own s n k [] = refl
find-own s n k (d ∷ es) =
    let rest = find-own s n k es in
    let whole : List (RequestName × FrameFields) = map entry_of (map (with_rank s n) (map request_at es)) in
    let kept : List (RequestName × FrameFields) = where_key name_cmp (λ name. eqb name.0 n) es in
    let entry : RequestName × FrameFields = entry_of (with_rank s n (request_at d)) in
    elim (eqb_tells d.0.0 n) [
      | inl own ↦
          ap (cond (eq_by_cmp name_cmp (n, k) entry.0) (Some entry.1)) rest
          ∙ sym (ap (λ b. find name_cmp (n, k) (map entry_of (map (with_rank s n) (map request_at (cond b (d ∷ kept) kept))))) own.0)
      | inr other ↦
          let apart : eq_by_cmp name_cmp (n, k) entry.0 ≡ false =
          other_name (n, k) entry.0 (λ same. other.1 (sym (same ∙ ap (λ (r : Waiting). r.node) (with_rank_other s n (request_at d) other.1)))) in
          ap (λ b. cond b (Some entry.1) (find name_cmp (n, k) whole)) apart
          ∙ rest
          ∙ sym (ap (λ b. find name_cmp (n, k) (map entry_of (map (with_rank s n) (map request_at (cond b (d ∷ kept) kept))))) other.0)
    ]

module _ (s t : BusState) (n : ℕ) (waits : (k : ℕ) → get s.waiting (n, k) ≡ get t.waiting (n, k)) (number : next_number s n ≡ next_number t n) (ranks : (k : ℕ) → rank s n k ≡ rank t n k) where
  same_with_rank : (r : Waiting) → with_rank s n r ≡ with_rank t n r
  same_with_rank r = ap (λ k. cond (eqb r.node n) (record r { number = k }) r) (ranks r.number)

  own_retained : retain_keys s.waiting (λ name. eqb name.0 n) ≡ retain_keys t.waiting (λ name. eqb name.0 n)
  own_retained =
      let p : RequestName → Bool = λ name. eqb name.0 n in
      same_map name_cmp_total name_cmp-IsAntisymmetric _ _
      (λ q. get-retain_keys s.waiting p q (ties p q)
      ∙ elim (eqb_tells q.0 n) [
        | inl own ↦ let P : ℕ → Type 0 = λ j. cond (p q) (get s.waiting (j, q.1)) None ≡ cond (p q) (get t.waiting (j, q.1)) None in subst P (sym own.1) (ap (λ o. cond (p q) o None) (waits q.1))
        | inr other ↦ ap (λ b. cond b (get s.waiting q) None) other.0 ∙ sym (ap (λ b. cond b (get t.waiting q) None) other.0)
      ]
      ∙ sym (get-retain_keys t.waiting p q (ties p q)))

  with_ranks_waits : (k : ℕ) → get (with_ranks s n).waiting (n, k) ≡ get (with_ranks t n).waiting (n, k)
  with_ranks_waits k =
      let p : RequestName → Bool = λ name. eqb name.0 n in
      ap (λ (u : BusState). get u.waiting (n, k)) (with_ranks-is s n)
      ∙ get-from_entries name_cmp_total (map entry_of (map (with_rank s n) (members s.waiting))) (n, k)
      ∙ find-own s n k (entries s.waiting)
      ∙ ap (λ es. find name_cmp (n, k) (map entry_of (map (with_rank s n) (map request_at es)))) (sym (entries-retain_keys s.waiting p) ∙ ap entries own_retained ∙ entries-retain_keys t.waiting p)
      ∙ (λ i. find name_cmp (n, k) (map entry_of (map (λ r. same_with_rank r i) (map request_at (where_key name_cmp p (entries t.waiting))))))
      ∙ sym (find-own t n k (entries t.waiting))
      ∙ sym (get-from_entries name_cmp_total (map entry_of (map (with_rank t n) (members t.waiting))) (n, k))
      ∙ sym (ap (λ (u : BusState). get u.waiting (n, k)) (with_ranks-is t n))

  number-with_ranks : (u : BusState) → next_number (with_ranks u n) n ≡ rank u n (next_number u n)
  number-with_ranks u = ap (λ (v : BusState). next_number v n) (with_ranks-is u n) ∙ ap (λ o. unwrap_or o 0) (get-insert_same u.next n (rank u n (next_number u n)))

  with_ranks_number : next_number (with_ranks s n) n ≡ next_number (with_ranks t n) n
  with_ranks_number = number-with_ranks s ∙ ranks (next_number s n) ∙ ap (rank t n) number ∙ sym (number-with_ranks t)

  bases : (Q : BusState → BusState → Type 0) → Q s t → Q (with_ranks s n) (with_ranks t n) → Q (base s n) (base t n)
  bases Q h g =
      subst (λ k. Q (base s n) (cond (eqb k last_number) (with_ranks t n) t)) number
      (elim (eqb (next_number s n) last_number) as (λ b. Q (cond b (with_ranks s n) s) (cond b (with_ranks t n) t)) [ true ↦ g | false ↦ h ])

  base_number : next_number (base s n) n ≡ next_number (base t n) n
  base_number = bases (λ u v. next_number u n ≡ next_number v n) number with_ranks_number

  own_waits : (f : FrameFields) (k : ℕ) → get (after_request s n f).waiting (n, k) ≡ get (after_request t n f).waiting (n, k)
  own_waits f k =
      get-insert name_cmp_total (base s n).waiting (n, next_number (base s n) n) f (n, k)
      ∙ ap (λ j. cond (eq_by_cmp name_cmp (n, k) (n, j)) (Some f) (get (base s n).waiting (n, k))) base_number
      ∙ ap (cond (eq_by_cmp name_cmp (n, k) (n, next_number (base t n) n)) (Some f)) (bases (λ u v. get u.waiting (n, k) ≡ get v.waiting (n, k)) (waits k) (with_ranks_waits k))
      ∙ sym (get-insert name_cmp_total (base t n).waiting (n, next_number (base t n) n) f (n, k))

  own_next : (f : FrameFields) → get (after_request s n f).next n ≡ get (after_request t n f).next n
  own_next f =
      get-insert_same (base s n).next n (next_number (base s n) n + 1)
      ∙ ap (λ j. Some (j + 1)) base_number
      ∙ sym (get-insert_same (base t n).next n (next_number (base t n) n + 1))

  same_wire_request : (w : Transmission) → wire_request s n w ≡ wire_request t n w
  same_wire_request w =
      ap (λ r. cond (eqb (next_number s n) last_number) (record { request = r; end = w.end }) w) (same_with_rank w.request)
      ∙ ap (λ k. cond (eqb k last_number) (transmission_with_rank t n w) w) number

-- ---- both orders
module _ (s : BusState) (m n : ℕ) (f g : FrameFields) (apart : m ≢ n) where
  -- the second request acts as it does on the state before the first
  second_waits : (k : ℕ) → get (after_request (after_request s m f) n g).waiting (n, k) ≡ get (after_request s n g).waiting (n, k)
  second_waits k =
      let back : n ≢ m = λ e. apart (sym e) in
      own_waits (after_request s m f) s n (λ j. other_waits s m f (n, j) back) (other_number s m f n back) (λ j. other_rank s m f n back j) g k

  second_next : get (after_request (after_request s m f) n g).next n ≡ get (after_request s n g).next n
  second_next =
      let back : n ≢ m = λ e. apart (sym e) in
      own_next (after_request s m f) s n (λ j. other_waits s m f (n, j) back) (other_number s m f n back) (λ j. other_rank s m f n back j) g

  second_wire_request : (w : Transmission) → wire_request (after_request s m f) n w ≡ wire_request s n w
  second_wire_request w =
      let back : n ≢ m = λ e. apart (sym e) in
      same_wire_request (after_request s m f) s n (λ j. other_waits s m f (n, j) back) (other_number s m f n back) (λ j. other_rank s m f n back j) w

  waits_alike : (q : RequestName) → q.0 ≡ n → get (after_request (after_request s m f) n g).waiting q ≡ get (after_request (after_request s n g) m f).waiting q
  waits_alike q own =
      let P : ℕ → Type 0 = λ j. get (after_request (after_request s m f) n g).waiting (j, q.1) ≡ get (after_request (after_request s n g) m f).waiting (j, q.1) in
      subst P (sym own) (second_waits q.1 ∙ sym (other_waits (after_request s n g) m f (n, q.1) (λ e. apart (sym e))))

  next_alike : (q : ℕ) → q ≡ n → get (after_request (after_request s m f) n g).next q ≡ get (after_request (after_request s n g) m f).next q
  next_alike q own =
      let P : ℕ → Type 0 = λ j. get (after_request (after_request s m f) n g).next j ≡ get (after_request (after_request s n g) m f).next j in
      subst P (sym own) (second_next ∙ sym (other_next (after_request s n g) m f n (λ e. apart (sym e))))

  wire_requests_commute : (w : Transmission) → wire_request s n (wire_request s m w) ≡ wire_request s m (wire_request s n w)
  wire_requests_commute w =
      elim (eqb_tells w.request.node m) [
        | inl own ↦
            wire_request_other s n (wire_request s m w) (λ e. apart (sym (wire_request_node s m w ∙ own.1) ∙ e))
            ∙ ap (wire_request s m) (sym (wire_request_other s n w (λ e. apart (sym own.1 ∙ e))))
        | inr other ↦
            ap (wire_request s n) (wire_request_other s m w other.1)
            ∙ sym (wire_request_other s m (wire_request s n w) (λ e. other.1 (sym (wire_request_node s n w) ∙ e)))
      ]

wires : (a b c d : Transmission → Transmission) → ((w : Transmission) → a (b w) ≡ c (d w)) → (o : Option Transmission) → option_map a (option_map b o) ≡ option_map c (option_map d o)
wires a b c d same None = refl
wires a b c d same (Some w) = ap Some (same w)

-- the law of the bus
pub RequestsCommute-bus : RequestsCommute one_channel
RequestsCommute-bus s m n f g apart =
    let back : n ≢ m = λ e. apart (sym e) in
    let one : BusState = after_request (after_request s m f) n g in
    let two : BusState = after_request (after_request s n g) m f in
    let waiting : one.waiting ≡ two.waiting =
    same_map name_cmp_total name_cmp-IsAntisymmetric one.waiting two.waiting
    (λ q. elim (eqb_tells q.0 n) [
      | inl own ↦ waits_alike s m n f g apart q own.1
      | inr other ↦ elim (eqb_tells q.0 m) [
        | inl own ↦ sym (waits_alike s n m g f back q own.1)
        | inr neither ↦
            other_waits (after_request s m f) n g q other.1 ∙ other_waits s m f q neither.1
            ∙ sym (other_waits (after_request s n g) m f q neither.1 ∙ other_waits s n g q other.1)
      ]
    ]) in
    let next : one.next ≡ two.next =
    same_map nat_cmp_total nat_cmp-IsAntisymmetric one.next two.next
    (λ q. elim (eqb_tells q n) [
      | inl own ↦ next_alike s m n f g apart q own.1
      | inr other ↦ elim (eqb_tells q m) [
        | inl own ↦ sym (next_alike s n m g f back q own.1)
        | inr neither ↦
            other_next (after_request s m f) n g q other.1 ∙ other_next s m f q neither.1
            ∙ sym (other_next (after_request s n g) m f q neither.1 ∙ other_next s n g q other.1)
      ]
    ]) in
    let wire : one.wire ≡ two.wire =
    wire-after_request (after_request s m f) n g ∙ ap (option_map (wire_request (after_request s m f) n)) (wire-after_request s m f)
    ∙ wires (wire_request (after_request s m f) n) (wire_request s m) (wire_request (after_request s n g) m) (wire_request s n)
    (λ w. second_wire_request s m n f g apart (wire_request s m w) ∙ wire_requests_commute s m n f g apart w ∙ sym (second_wire_request s n m g f back (wire_request s n w)))
    s.wire
    ∙ sym (wire-after_request (after_request s n g) m f ∙ ap (option_map (wire_request (after_request s n g) m)) (wire-after_request s n g)) in
    let free : one.free ≡ two.free = same_free (after_request s m f) n g ∙ same_free s m f ∙ sym (same_free (after_request s n g) m f ∙ same_free s n g) in
    let bit : one.bit ≡ two.bit =
    bit-after_request (after_request s m f) n g ∙ bit-after_request s m f
    ∙ sym (bit-after_request (after_request s n g) m f ∙ bit-after_request s n g) in
    λ i. record { waiting = waiting i; wire = wire i; free = free i; next = next i; bit = bit i }
