-- The winner of a set of requests.
use Rattle.std.proofs.Common.{◌≡◌, ℕ, Bool, true, false, not, cond, List, [], ◌∷◌, length, take, take_all, get_or, ◌+◌, ◌<◌, ◌≤◌, map, refl, sym, ap, subst, ◌∙◌, inl, inr}
use Rattle.std.specs.Prelude.{None, Some, MatchOption, find}
use Rattle.std.specs.List.{Contains, All, HoldsAt, list_all}
use Rattle.std.specs.FinMap.{empty, empty_of_len, len, len-entries, entries, get, get-empty}
use Rattle.can_frame.specs.Frame.{FrameFields}
use Rattle.std.proofs.lemmas.List.Elements.{All-contains, All-nil, All-cons, All-more, at_read}
use Rattle.std.proofs.lemmas.List.Sums.{AllPass-from_list_all, list_all-from_AllPass}
use Rattle.can_bus.specs.declared.waiting.Waiting.{Waiting}
use Rattle.can_bus.specs.Waiting.{goes_before, Requests, name_cmp, request_name, entry_of, Waits, IsWinner, members, winner}
use Rattle.can_bus.proofs.Precedence.{goes_before-decides, goes_before-trans, goes_before-self, one_goes_first}
use Rattle.can_bus.proofs.Requests.{Contains-first, Contains-later, Contains-cons, not_Contains-nil, Contains-members, Waits-members, map-forth}

-- no request of the list goes before r
abbrev pub NoneBefore : List Waiting → Waiting → Type 0
NoneBefore rs r = All (λ other. goes_before other r ≡ false) rs

abbrev is_first : List Waiting → Waiting → Bool
is_first rs r = list_all (λ other. not (goes_before other r)) rs

not_true : (b : Bool) → not b ≡ true → b ≡ false
not_true true e = absurd (cc)
not_true false e = refl

NoneBefore-is_first : (rs : List Waiting) (r : Waiting) → is_first rs r ≡ true → NoneBefore rs r
NoneBefore-is_first rs r e k d low = not_true _ (AllPass-from_list_all (λ other. not (goes_before other r)) rs e k d low)

is_first-NoneBefore : (rs : List Waiting) (r : Waiting) → NoneBefore rs r → is_first rs r ≡ true
is_first-NoneBefore rs r h = list_all-from_AllPass (λ other. not (goes_before other r)) rs (λ k d low. ap not (h k d low))

-- a list with a request has a first one
module _ (a b : Waiting) where
  kept_out : (o : Waiting) → goes_before a b ≡ true → goes_before o b ≡ false → goes_before o a ≡ false
  kept_out o h g =
      elim (goes_before o a) as (λ t. goes_before o a ≡ t → t ≡ false) [
        | true ↦ λ e. let t = goes_before-trans o a b e h in absurd (cc)
        | false ↦ λ _. refl
      ] refl

first_of : (r : Waiting) (rs : List Waiting) → (first : Waiting) × Contains (r ∷ rs) first × NoneBefore (r ∷ rs) first
first_of r [] = (r, Contains-first r [], All-cons (λ other. goes_before other r ≡ false) r [] (goes_before-self r) (All-nil _))
first_of r (s ∷ rs) =
    let rest = first_of s rs in
    elim (goes_before r rest.0) as (λ b. goes_before r rest.0 ≡ b → (first : Waiting) × Contains (r ∷ s ∷ rs) first × NoneBefore (r ∷ s ∷ rs) first) [
      | true ↦ λ e. (
        r,
        Contains-first r (s ∷ rs),
        All-cons (λ other. goes_before other r ≡ false) r (s ∷ rs) (goes_before-self r)
            (λ k d low. kept_out r rest.0 _ e (rest.2 k d low)),
      )
      | false ↦ λ e. (rest.0, Contains-later r rest.0 (s ∷ rs) rest.1, All-cons (λ other. goes_before other rest.0 ≡ false) r (s ∷ rs) e rest.2)
    ] refl

-- what `find` finds
module _ {X : Type 0} (p : X → Bool) where
  found : (x : X) (xs : List X) → find p xs ≡ Some x → Contains xs x × (p x ≡ true)
  found x [] e = absurd (cc)
  found x (y ∷ xs) e =
      elim (p y) as (λ b. p y ≡ b → cond b (Some y) (find p xs) ≡ Some x → Contains (y ∷ xs) x × (p x ≡ true)) [
        | true ↦ λ t is. let same : y ≡ x = cc in (subst (Contains (y ∷ xs)) same (Contains-first y xs), ap p (sym same) ∙ t)
        | false ↦ λ t is. let rest = found x xs is in (Contains-later y x xs rest.0, rest.1)
      ] refl e

  none_found : (x : X) (xs : List X) → find p xs ≡ None → Contains xs x → p x ≡ false
  none_found x [] e in' = absurd (not_Contains-nil x in')
  none_found x (y ∷ xs) e in' =
      elim (p y) as (λ b. p y ≡ b → cond b (Some y) (find p xs) ≡ None → p x ≡ false) [
        | true ↦ λ t is. absurd (cc)
        | false ↦ λ t is. elim (Contains-cons y x xs in') [ inl same ↦ ap p (sym same) ∙ t | inr later ↦ none_found x xs is later ]
      ] refl e

-- ---- the winner
winner-is : (w : Requests) → winner w ≡ find (is_first (members w)) (members w)
unfolding winner
winner-is w = refl

-- a member that none goes before is the winner
pub IsWinner-from : (w : Requests) (r : Waiting) → Contains (members w) r → NoneBefore (members w) r → IsWinner w r
IsWinner-from w r in' first = record {
  waits = Waits-members w r in';
  before = λ other waits.
      let none : goes_before other r ≡ false = All-contains (λ o. goes_before o r ≡ false) (members w) other first (Contains-members w other waits) in
      elim (one_goes_first other r none) [ inl same ↦ inl same | inr before ↦ inr ((goes_before-decides r other).0 before) ];
}

empty_from : (w : Requests) (rs : List Waiting) → members w ≡ rs → winner w ≡ None → w ≡ empty
empty_from w [] is none = empty_of_len w (len-entries w ∙ ap length (sym (map-forth (entries w)) ∙ ap (map entry_of) is))
empty_from w (r ∷ rs) is none =
    let first = first_of r rs in
    let p : is_first (r ∷ rs) first.0 ≡ true = is_first-NoneBefore (r ∷ rs) first.0 first.2 in
    let q : is_first (r ∷ rs) first.0 ≡ false =
    none_found (is_first (r ∷ rs)) first.0 (r ∷ rs) (ap (λ ms. find (is_first ms) ms) (sym is) ∙ sym (winner-is w) ∙ none) first.1 in
    absurd (cc)

-- what is found is the winner, and where nothing is found the set is empty
pub winner_law : (w : Requests) → MatchOption (winner w) (w ≡ empty) (IsWinner w)
winner_law w =
    elim (winner w) as (λ o. winner w ≡ o → MatchOption o (w ≡ empty) (IsWinner w)) [
      | None ↦ λ e. empty_from w (members w) refl e
      | Some r ↦ λ e.
          let h = found (is_first (members w)) r (members w) (sym (winner-is w) ∙ e) in
          IsWinner-from w r h.0 (NoneBefore-is_first (members w) r h.1)
    ] refl

-- what is found waits
pub waits_winner : (b : Bool) (w : Requests) (r : Waiting) → cond b (winner w) None ≡ Some r → Waits w r
waits_winner true w r e = let wins : IsWinner w r = subst (λ o. MatchOption o (w ≡ empty) (IsWinner w)) e (winner_law w) in wins.waits
waits_winner false w r e = absurd (cc)

-- two members with one name are one
pub same_request : (w : Requests) (r s : Waiting) → Waits w r → Waits w s → request_name s ≡ request_name r → r ≡ s
same_request w r s h g name =
    let frame : r.frame ≡ s.frame = let e : get w (request_name s) ≡ Some r.frame = ap (get w) name ∙ h in cc in
    λ i. record { node = (sym name i).0; number = (sym name i).1; frame = frame i }

-- no two requests win
same_winner : (w : Requests) (r s : Waiting) → IsWinner w r → IsWinner w s → r ≡ s
same_winner w r s h g =
    elim (h.before s g.waits) [
      | inl name ↦ same_request w r s h.waits g.waits name
      | inr before ↦ elim (g.before r h.waits) [
        | inl name ↦ same_request w r s h.waits g.waits (sym name)
        | inr after ↦
            let loops = goes_before-trans r s r ((goes_before-decides r s).1 before) ((goes_before-decides s r).1 after) in
            let never = goes_before-self r in
            absurd (cc)
      ]
    ]

-- a winner is found
pub winner-from : (w : Requests) (r : Waiting) → IsWinner w r → winner w ≡ Some r
winner-from w r h =
    elim (winner w) as (λ o. MatchOption o (w ≡ empty) (IsWinner w) → o ≡ Some r) [
      | None ↦ λ e. let none = get-empty {X = FrameFields} name_cmp (request_name r) in let waits = h.waits in let same = ap (λ m. get m (request_name r)) e in absurd (cc)
      | Some s ↦ λ g. ap Some (same_winner w s r g h)
    ] (winner_law w)

-- where nothing waits, nothing wins
pub winner-nil : (w : Requests) → len w ≡ 0 → winner w ≡ None
winner-nil w none =
    elim (winner w) as (λ o. MatchOption o (w ≡ empty) (IsWinner w) → o ≡ None) [
      | None ↦ λ _. refl
      | Some r ↦ λ h. let waits = h.waits in let e = empty_of_len w none in let gone = get-empty {X = FrameFields} name_cmp (request_name r) in let at = ap (λ m. get m (request_name r)) e in absurd (cc)
    ] (winner_law w)

-- ---- the place of the first request so far
abbrev pub IsFirstAt : List Waiting → ℕ → ℕ → Type 0
IsFirstAt rs place best = HoldsAt (λ r. NoneBefore (take place rs) r) rs best

first_at : (rs : List Waiting) (place best : ℕ) (b : Waiting) → b ≡ get_or rs best b → IsFirstAt rs place best → NoneBefore (take place rs) b
first_at rs place best b e h = let P : Waiting → Type 0 = λ r. NoneBefore (take place rs) r in subst P (sym e) (h b)

-- a request that does not go before the best leaves it
pub first_passed : (rs : List Waiting) (place best : ℕ) (r b : Waiting) → place < length rs → best < length rs → r ≡ get_or rs place r → b ≡ get_or rs best b
    → goes_before r b ≡ false → IsFirstAt rs place best → IsFirstAt rs (place + 1) best
first_passed rs place best r b low within e f later h =
    let P : Waiting → Type 0 = λ other. goes_before other b ≡ false in
    at_read rs (λ s. NoneBefore (take (place + 1) rs) s) best b within f (All-more P rs place r low (first_at rs place best b f h) (subst P e later))

-- one that does takes its place
pub first_moved : (rs : List Waiting) (place best : ℕ) (r b : Waiting) → place < length rs → r ≡ get_or rs place r → b ≡ get_or rs best b
    → goes_before r b ≡ true → IsFirstAt rs place best → IsFirstAt rs (place + 1) place
first_moved rs place best r b low e f before h =
    let P : Waiting → Type 0 = λ other. goes_before other r ≡ false in
    let earlier = first_at rs place best b f h in
    at_read rs (λ s. NoneBefore (take (place + 1) rs) s) place r low e
    (All-more P rs place r low (λ k d in'. kept_out r b _ before (earlier k d in')) (subst P e (goes_before-self r)))

-- past the last request the best is the first of all
pub first_of_all : (rs : List Waiting) (place best : ℕ) → length rs ≤ place → IsFirstAt rs place best → HoldsAt (NoneBefore rs) rs best
first_of_all rs place best past h =
    let P : List Waiting → Type 0 = λ front. HoldsAt (NoneBefore front) rs best in subst P (take_all place rs past) h
