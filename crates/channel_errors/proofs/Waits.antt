-- What the plain bus's requests leave of other nodes, and names of requests.
use Rattle.std.proofs.Common.{◌≡◌, ◌≢◌, ℕ, Bool, true, false, cond, List, [], ◌∷◌, map, eqb, refl, sym, ap, subst, ◌∙◌, inl, inr, arith}
use Rattle.std.specs.Prelude.{Option, None, Some, IfSome}
use Rattle.std.specs.Option.{option_map}
use Rattle.std.specs.Ordering.{nat_cmp, ordering_then, eq_by_cmp, is_eq}
use Rattle.std.specs.Cmp.{tied_itself}
use Rattle.std.specs.FinMap.{get, find, entries, get-entries, get-insert, get-from_entries}
use Rattle.std.proofs.lemmas.Bool.Decides.{nat_tests, eqb_tells}
use Rattle.can_frame.specs.Frame.{FrameFields}
use Rattle.can_bus.specs.declared.waiting.Waiting.{Waiting}
use Rattle.can_bus.specs.declared.transmission.Transmission.{Transmission}
use Rattle.can_bus.specs.Waiting.{RequestName, name_cmp, request_name, entry_of, request_at, members}
use Rattle.can_bus.specs.Bus.{BusState, next_number, last_number, rank, with_rank, with_ranks, transmission_with_rank, after_request}
use Rattle.can_bus.proofs.Requests.{name_cmp_total}
use Rattle.can_bus.proofs.RankLemmas.{with_ranks-is}
use Rattle.can_bus.proofs.Wire.{wire_request, wire-after_request}

-- ---- names
other_node : (m n p q : ℕ) → m ≢ n → is_eq (ordering_then (nat_cmp m n) (nat_cmp p q)) ≡ false
other_node m n p q e = grind (arith, nat_tests)

-- names of different nodes do not tie
pub other_name : (a b : RequestName) → a.0 ≢ b.0 → eq_by_cmp name_cmp a b ≡ false
other_name a b e = other_node a.0 b.0 a.1 b.1 e

-- a name ties with itself
pub own_name : (a : RequestName) → eq_by_cmp name_cmp a a ≡ true
own_name a = ap is_eq (tied_itself name_cmp_total a)

-- ---- a request of the node m
not_first : (b : Bool) (f : FrameFields) (o : Option FrameFields) → cond b (Some f) o ≡ None → (b ≡ false) × (o ≡ None)
not_first true f o e = absurd (cc)
not_first false f o e = (refl, e)

module _ (s : BusState) (m : ℕ) where
  with_rank_node : (r : Waiting) → (with_rank s m r).node ≡ r.node
  with_rank_node r = elim (eqb r.node m) as (λ b. (cond b (record r { number = rank s m r.number }) r).node ≡ r.node) [ true ↦ refl | false ↦ refl ]

  -- under a name of another node nothing stands that did not stand there
  none_ranked : (q : RequestName) → q.0 ≢ m → (es : List (RequestName × FrameFields)) → find name_cmp q es ≡ None
      → find name_cmp q (map entry_of (map (with_rank s m) (map request_at es))) ≡ None
  none_ranked q apart [] none = refl
  none_ranked q apart (d ∷ es) none =
      let parts = not_first (eq_by_cmp name_cmp q d.0) d.1 (find name_cmp q es) none in
      let r : Waiting = with_rank s m (request_at d) in
      let differs : eq_by_cmp name_cmp q (request_name r) ≡ false =
      elim (eqb_tells d.0.0 m) [
        | inl own ↦ other_name q (request_name r) (λ same. apart (same ∙ with_rank_node (request_at d) ∙ own.1))
        | inr other ↦
            ap (λ b. eq_by_cmp name_cmp q (request_name (cond b (record (request_at d) { number = rank s m d.0.1 }) (request_at d)))) other.0
            ∙ parts.0
      ] in
      ap (λ b. cond b (Some r.frame) (find name_cmp q (map entry_of (map (with_rank s m) (map request_at es))))) differs
      ∙ none_ranked q apart es parts.1

  none_with_ranks : (q : RequestName) → q.0 ≢ m → get s.waiting q ≡ None → get (with_ranks s m).waiting q ≡ None
  none_with_ranks q apart none =
      ap (λ (t : BusState). get t.waiting q) (with_ranks-is s m)
      ∙ get-from_entries name_cmp_total (map entry_of (map (with_rank s m) (members s.waiting))) q
      ∙ none_ranked q apart (entries s.waiting) (sym (get-entries s.waiting q) ∙ none)

  none_base : (b : Bool) (f : FrameFields) (q : RequestName) → q.0 ≢ m → get s.waiting q ≡ None → get (cond b (with_ranks s m) s).waiting q ≡ None
  none_base true f q apart none = none_with_ranks q apart none
  none_base false f q apart none = none

  -- what does not wait of another node does not wait after it
  pub none-after_request : (f : FrameFields) (q : RequestName) → q.0 ≢ m → get s.waiting q ≡ None → get (after_request s m f).waiting q ≡ None
  none-after_request f q apart none =
      let t : BusState = cond (eqb (next_number s m) last_number) (with_ranks s m) s in
      get-insert name_cmp_total t.waiting (m, next_number t m) f q
      ∙ ap (λ b. cond b (Some f) (get t.waiting q)) (other_name q (m, next_number t m) apart)
      ∙ none_base (eqb (next_number s m) last_number) f q apart none

  wire_request_node : (t : Transmission) → (wire_request s m t).request.node ≡ t.request.node
  wire_request_node t = elim (eqb (next_number s m) last_number) as (λ b. (cond b (transmission_with_rank s m t) t).request.node ≡ t.request.node) [ true ↦ with_rank_node t.request | false ↦ refl ]

  of_node : (P : ℕ → Type 0) (wire : Option Transmission) → IfSome wire (λ t. P t.request.node) → IfSome (option_map (wire_request s m) wire) (λ t. P t.request.node)
  of_node P None h = tt
  of_node P (Some t) h = subst P (sym (wire_request_node t)) h

  -- what is said of the node of the one on the wire is so after it
  pub node_on_wire-after_request : (P : ℕ → Type 0) (f : FrameFields) → IfSome s.wire (λ t. P t.request.node) → IfSome (after_request s m f).wire (λ t. P t.request.node)
  node_on_wire-after_request P f h = subst (λ w. IfSome w (λ t. P t.request.node)) (sym (wire-after_request s m f)) (of_node P s.wire h)
