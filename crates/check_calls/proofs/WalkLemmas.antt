-- A depth-first walk that goes on.
use Rattle.std.proofs.Common.{append_assoc, ◌≡◌, ◌⊎◌, ◌+◌, ◌-◌, ◌<◌, ◌≤◌, ◌∙◌, ℕ, zero, suc, Bool, true, false, List, [], ◌∷◌, ◌++◌, Some, inl, inr, refl, ap, sym, subst, arith, length, length-append, set, replicate}
use Rattle.std.specs.Prelude.{slice_get}
use Rattle.std.specs.Option.{option_map_or}
use Rattle.std.proofs.lemmas.Bool.{cases_lt}
use Rattle.std.proofs.lemmas.List.{length-replicate, length-set, map-append}
use Rattle.std.proofs.lemmas.Option.{none-some, same_Some, slice_get_within}
use Rattle.check_calls.specs.Graph.{AreApart, Has, Leads, Reaches, StandsBefore}
use Rattle.check_calls.specs.Inside.Search.{AreOnce}
use Rattle.check_calls.specs.Inside.Walk.{GoesOn, IsCall, IsEntered, IsWalk, KeepsEntered, WasEntered, calls_at, opened, steps_of, to_enter, to_leave}
use Rattle.check_calls.specs.declared.depth.Walk.{Walk}
use Rattle.check_calls.proofs.SearchLemmas.{none_flagged, none_once, once_more, push_has, push_kept, set_kept, set_only, set_same}

-- ---- one more behind a list

-- the one behind a list stands at its end
push_at : {X : Type 0} (xs : List X) (x : X) → slice_get (xs ++ x ∷ []) (length xs) ≡ Some x
push_at [] x = refl
push_at (y ∷ xs) x = push_at xs x

-- what stands in a list with one more behind it stood there, or is the one at the end
push_split : {X : Type 0} (xs : List X) (x : X) (k : ℕ) (y : X) → slice_get (xs ++ x ∷ []) k ≡ Some y →
    (slice_get xs k ≡ Some y) ⊎ ((y ≡ x) × (k ≡ length xs))
push_split [] x zero y at = inr (sym (same_Some x y at), refl)
push_split [] x (suc k) y at = cc
push_split (z ∷ xs) x zero y at = inl at
push_split {X} (z ∷ xs) x (suc k) y at = by (push_split xs x k y at)
  where
    by : (slice_get xs k ≡ Some y) ⊎ ((y ≡ x) × (k ≡ length xs)) → (slice_get xs k ≡ Some y) ⊎ ((y ≡ x) × (suc k ≡ suc (length xs)))
    by (inl before) = inl before
    by (inr same) = inr (same.0, ap suc same.1)

-- one more that did not stand there
apart_more : (found : List ℕ) (i : ℕ) → AreApart found → (Has found i → ⊥) → AreApart (found ++ i ∷ [])
apart_more found i are new j k place one other = by (push_split found i j place one) (push_split found i k place other)
  where
    by : (slice_get found j ≡ Some place) ⊎ ((place ≡ i) × (j ≡ length found)) → (slice_get found k ≡ Some place) ⊎ ((place ≡ i) × (k ≡ length found)) → j ≡ k
    by (inl a) (inl b) = are j k place a b
    by (inl a) (inr same) = absurd (new (j, a ∙ ap (λ (n : ℕ). Some n) same.0))
    by (inr same) (inl b) = absurd (new (k, b ∙ ap (λ (n : ℕ). Some n) same.0))
    by (inr a) (inr b) = a.1 ∙ sym b.1

-- ---- open places

-- one more is open
opened_more : (stack : List (ℕ × ℕ)) (i c : ℕ) → opened (stack ++ (i, c) ∷ []) ≡ opened stack ++ i ∷ []
opened_more stack i c = map-append (λ (o : ℕ × ℕ). o.0) stack ((i, c) ∷ [])

-- the next call of an open place does not count for where it stands
opened_same : (before after : List (ℕ × ℕ)) (f c d : ℕ) → opened (before ++ (f, c) ∷ after) ≡ opened (before ++ (f, d) ∷ after)
opened_same [] after f c d = refl
opened_same (o ∷ before) after f c d = ap (λ (l : List ℕ). o.0 ∷ l) (opened_same before after f c d)

-- the open place in the middle
middle_at : (before after : List (ℕ × ℕ)) (o : ℕ × ℕ) → slice_get (before ++ o ∷ after) (length before) ≡ Some o
middle_at [] after o = refl
middle_at (p ∷ before) after o = middle_at before after o

-- what is open beside another next call was open, or is the one
middle_only : (before after : List (ℕ × ℕ)) (o p : ℕ × ℕ) (k : ℕ) (q : ℕ × ℕ) → slice_get (before ++ p ∷ after) k ≡ Some q →
    (slice_get (before ++ o ∷ after) k ≡ Some q) ⊎ (q ≡ p)
middle_only [] after o p zero q at = inr (sym (same_Some p q at))
middle_only [] after o p (suc k) q at = inl at
middle_only (b ∷ before) after o p zero q at = inl at
middle_only (b ∷ before) after o p (suc k) q at = middle_only before after o p k q at

-- ---- a walk

-- nothing was entered
pub walk_new : (rows : List (List ℕ)) (n : ℕ) → length rows ≡ n → IsWalk rows (replicate n false) [] []
walk_new rows n same = record {
  count = length-replicate n false ∙ sym same;
  known = λ place at. absurd (none-some place (none_flagged n place at).1);
  left_once = none_once (replicate n false);
  open_once = none_once (replicate n false);
  apart = λ place one other. absurd (none-some place one.1);
  path = λ i j from to most one other. absurd (none-some from one);
  followed = λ k o at row there c to less called most. absurd (none-some o at);
  behind = λ k from to at leads most. absurd (none-some from at);
}

-- the last open place
last_open : (rest : List (ℕ × ℕ)) (f c : ℕ) → slice_get (opened (rest ++ (f, c) ∷ [])) (length (opened rest)) ≡ Some f
last_open rest f c = ap (λ (l : List ℕ). slice_get l (length (opened rest))) (opened_more rest f c) ∙ push_at (opened rest) f

-- no place is open above the last
last_above : (rest : List (ℕ × ℕ)) (f c k from : ℕ) → slice_get (opened (rest ++ (f, c) ∷ [])) k ≡ Some from → k ≤ length (opened rest)
last_above rest f c k from at =
    let here = ap (λ (l : List ℕ). slice_get l k) (sym (opened_more rest f c)) ∙ at in
    let most = slice_get_within (opened rest ++ f ∷ []) k from here in
    omega (arith, most, length-append (opened rest) (f ∷ []))

-- each open place reaches what the last one leads to
pub open_reach : (rows : List (List ℕ)) (entered : List Bool) (rest : List (ℕ × ℕ)) (f c : ℕ) (left : List ℕ) (next : ℕ) →
    IsWalk rows entered (rest ++ (f, c) ∷ []) left → Leads rows f next →
    (k from : ℕ) → slice_get (opened (rest ++ (f, c) ∷ [])) k ≡ Some from → Reaches rows from next
open_reach rows entered rest f c left next walk leads k from at = λ test keeps is.
    keeps f next leads (walk.path k (length (opened rest)) from f (last_above rest f c k from at) at (last_open rest f c) test keeps is)

-- one more place is entered
pub walk_entered : (rows : List (List ℕ)) (entered : List Bool) (stack : List (ℕ × ℕ)) (left : List ℕ) (i : ℕ) →
    i < length entered → (slice_get entered i ≡ Some true → ⊥) → ((k from : ℕ) → slice_get (opened stack) k ≡ Some from → Reaches rows from i) →
    IsWalk rows entered stack left → IsWalk rows (set entered i true) (stack ++ (i, 0) ∷ []) left
walk_entered rows entered stack left i within new reach walk = record {
  count = length-set entered i true ∙ walk.count;
  known = λ place at. known place (set_only entered i place at);
  left_once = record { known = λ k place at. set_kept entered i place (walk.left_once.known k place at); apart = walk.left_once.apart };
  open_once = subst (AreOnce (set entered i true)) (sym (opened_more stack i 0)) (once_more entered (opened stack) i within new walk.open_once);
  apart = λ place l o. apart place l (push_split (opened stack) i o.0 place (read o.0 place o.1));
  path = λ k j from to most one other. path k j from to most (push_split (opened stack) i k from (read k from one)) (push_split (opened stack) i j to (read j to other));
  followed = λ k o at row there c to less called most. followed k o row there c to less called most (push_split stack (i, 0) k o at);
  behind = walk.behind;
}
  where
    read : (k place : ℕ) → slice_get (opened (stack ++ (i, 0) ∷ [])) k ≡ Some place → slice_get (opened stack ++ i ∷ []) k ≡ Some place
    read k place at = ap (λ (l : List ℕ). slice_get l k) (sym (opened_more stack i 0)) ∙ at

    known : (place : ℕ) → (slice_get entered place ≡ Some true) ⊎ (place ≡ i) → Has left place ⊎ Has (opened (stack ++ (i, 0) ∷ [])) place
    known place (inl before) = old (walk.known place before)
      where
        old : Has left place ⊎ Has (opened stack) place → Has left place ⊎ Has (opened (stack ++ (i, 0) ∷ [])) place
        old (inl has) = inl has
        old (inr has) = inr (subst (λ (l : List ℕ). Has l place) (sym (opened_more stack i 0)) (has.0, push_kept (opened stack) i has.0 place has.1))
    known place (inr same) = inr (subst (Has (opened (stack ++ (i, 0) ∷ []))) (sym same) (subst (λ (l : List ℕ). Has l i) (sym (opened_more stack i 0)) (push_has (opened stack) i)))

    apart : (place : ℕ) → (l : Has left place) → {k : ℕ} → (slice_get (opened stack) k ≡ Some place) ⊎ ((place ≡ i) × (k ≡ length (opened stack))) → ⊥
    apart place l {k} (inl before) = walk.apart place l (k, before)
    apart place l {k} (inr same) = new (ap (slice_get entered) (sym same.0) ∙ walk.left_once.known l.0 place l.1)

    path : (k j from to : ℕ) → k ≤ j → (slice_get (opened stack) k ≡ Some from) ⊎ ((from ≡ i) × (k ≡ length (opened stack)))
        → (slice_get (opened stack) j ≡ Some to) ⊎ ((to ≡ i) × (j ≡ length (opened stack))) → Reaches rows from to
    path k j from to most (inl a) (inl b) = walk.path k j from to most a b
    path k j from to most (inl a) (inr same) = subst (Reaches rows from) (sym same.0) (reach k from a)
    path k j from to most (inr same) (inl b) = let less = slice_get_within (opened stack) j to b in absurd (omega (arith, most, same.1, less))
    path k j from to most (inr a) (inr b) = λ test keeps is. ap test (b.0 ∙ sym a.0) ∙ is

    followed : (k : ℕ) (o : ℕ × ℕ) (row : List ℕ) → slice_get rows o.0 ≡ Some row → (c to : ℕ) → c < o.1 → slice_get row c ≡ Some to → to < length rows
        → (slice_get stack k ≡ Some o) ⊎ ((o ≡ (i, 0)) × (k ≡ length stack)) → slice_get (set entered i true) to ≡ Some true
    followed k o row there c to less called most (inl before) = set_kept entered i to (walk.followed k o before row there c to less called most)
    followed k o row there c to less called most (inr same) = let none : o.1 ≡ 0 = ap (λ (p : ℕ × ℕ). p.1) same.0 in absurd (omega (arith, less, none))

-- one more call of an open place was followed
pub walk_followed : (rows : List (List ℕ)) (entered : List Bool) (before after : List (ℕ × ℕ)) (f c next : ℕ) (left : List ℕ) →
    IsCall rows f c next → (next < length rows → slice_get entered next ≡ Some true) →
    IsWalk rows entered (before ++ (f, c) ∷ after) left → IsWalk rows entered (before ++ (f, c + 1) ∷ after) left
walk_followed rows entered before after f c next left call done walk = record {
  count = walk.count;
  known = λ place at. subst (λ (l : List ℕ). Has left place ⊎ Has l place) same (walk.known place at);
  left_once = walk.left_once;
  open_once = subst (AreOnce entered) same walk.open_once;
  apart = λ place l o. walk.apart place l (subst (λ (l : List ℕ). Has l place) (sym same) o);
  path = λ i j from to most one other.
      walk.path i j from to most (ap (λ (l : List ℕ). slice_get l i) same ∙ one) (ap (λ (l : List ℕ). slice_get l j) same ∙ other);
  followed = λ k o at row there d to less called most. followed k o row there d to less called most (middle_only before after (f, c) (f, c + 1) k o at);
  behind = walk.behind;
}
  where
    same : opened (before ++ (f, c) ∷ after) ≡ opened (before ++ (f, c + 1) ∷ after)
    same = opened_same before after f c (c + 1)

    last : (row : List ℕ) (d to : ℕ) → slice_get rows f ≡ Some row → slice_get row d ≡ Some to → to < length rows → (d < c) ⊎ (c ≤ d) → d < c + 1 → slice_get entered to ≡ Some true
    last row d to there called most (inl earlier) less = walk.followed (length before) (f, c) (middle_at before after (f, c)) row there d to earlier called most
    last row d to there called most (inr later) less =
        let it : d ≡ c = omega (arith, later, less) in
        let same_row : call.0 ≡ row = same_Some call.0 row (sym call.1 ∙ there) in
        let here : next ≡ to = same_Some next to (sym call.2 ∙ ap (λ (l : List ℕ). slice_get l c) same_row ∙ ap (slice_get row) (sym it) ∙ called) in
        ap (slice_get entered) (sym here) ∙ done (subst (λ (n : ℕ). n < length rows) (sym here) most)

    followed : (k : ℕ) (o : ℕ × ℕ) (row : List ℕ) → slice_get rows o.0 ≡ Some row → (d to : ℕ) → d < o.1 → slice_get row d ≡ Some to → to < length rows
        → (slice_get (before ++ (f, c) ∷ after) k ≡ Some o) ⊎ (o ≡ (f, c + 1)) → slice_get entered to ≡ Some true
    followed k o row there d to less called most (inl old) = walk.followed k o old row there d to less called most
    followed k o row there d to less called most (inr it) =
        last row d to (ap (λ (p : ℕ × ℕ). slice_get rows p.0) (sym it) ∙ there) called most (cases_lt d c) (subst (λ (p : ℕ × ℕ). d < p.1) it less)

-- the last open place is left
pub walk_left : (rows : List (List ℕ)) (entered : List Bool) (rest : List (ℕ × ℕ)) (f c : ℕ) (left : List ℕ) →
    calls_at rows f ≤ c → IsWalk rows entered (rest ++ (f, c) ∷ []) left → IsWalk rows entered rest (left ++ f ∷ [])
walk_left rows entered rest f c left none walk = record {
  count = walk.count;
  known = λ place at. known place (walk.known place at);
  left_once = record {
    known = λ k place at. flagged place (push_split left f k place at);
    apart = apart_more left f walk.left_once.apart (λ has. walk.apart f has (end, last));
  };
  open_once = record {
    known = λ k place at. walk.open_once.known k place (more k place at);
    apart = λ i j place one other. walk.open_once.apart i j place (more i place one) (more j place other);
  };
  apart = λ place l o. apart place o (push_split left f l.0 place l.1);
  path = λ i j from to most one other. walk.path i j from to most (more i from one) (more j to other);
  followed = λ k o at. walk.followed k o (push_kept rest (f, c) k o at);
  behind = λ k from to at leads most. behind k from to leads most (push_split left f k from at);
}
  where
    end : ℕ
    end = length (opened rest)

    last : slice_get (opened (rest ++ (f, c) ∷ [])) end ≡ Some f
    last = last_open rest f c

    more : (k place : ℕ) → slice_get (opened rest) k ≡ Some place → slice_get (opened (rest ++ (f, c) ∷ [])) k ≡ Some place
    more k place at = ap (λ (l : List ℕ). slice_get l k) (opened_more rest f c) ∙ push_kept (opened rest) f k place at

    known : (place : ℕ) → Has left place ⊎ Has (opened (rest ++ (f, c) ∷ [])) place → Has (left ++ f ∷ []) place ⊎ Has (opened rest) place
    known place (inl has) = inl (has.0, push_kept left f has.0 place has.1)
    known place (inr has) = by (push_split (opened rest) f has.0 place (ap (λ (l : List ℕ). slice_get l has.0) (sym (opened_more rest f c)) ∙ has.1))
      where
        by : (slice_get (opened rest) has.0 ≡ Some place) ⊎ ((place ≡ f) × (has.0 ≡ length (opened rest))) → Has (left ++ f ∷ []) place ⊎ Has (opened rest) place
        by (inl before) = inr (has.0, before)
        by (inr same) = inl (subst (Has (left ++ f ∷ [])) (sym same.0) (push_has left f))

    flagged : (place : ℕ) → {k : ℕ} → (slice_get left k ≡ Some place) ⊎ ((place ≡ f) × (k ≡ length left)) → slice_get entered place ≡ Some true
    flagged place {k} (inl before) = walk.left_once.known k place before
    flagged place {k} (inr same) = ap (slice_get entered) same.0 ∙ walk.open_once.known end f last

    apart : (place : ℕ) → Has (opened rest) place → {k : ℕ} → (slice_get left k ≡ Some place) ⊎ ((place ≡ f) × (k ≡ length left)) → ⊥
    apart place o {k} (inl before) = walk.apart place (k, before) (o.0, more o.0 place o.1)
    apart place o {k} (inr same) =
        let it = walk.open_once.apart o.0 end f (more o.0 place o.1 ∙ ap (λ (n : ℕ). Some n) same.0) last in
        let within = slice_get_within (opened rest) o.0 place o.1 in
        omega (arith, it, within)

    row_short : (row : List ℕ) → slice_get rows f ≡ Some row → length row ≤ c
    row_short row there = let is = ap (λ p. option_map_or length p 0) there in omega (arith, is, none)

    behind : (k from to : ℕ) → Leads rows from to → to < length rows → (slice_get left k ≡ Some from) ⊎ ((from ≡ f) × (k ≡ length left))
        → StandsBefore (left ++ f ∷ []) k to ⊎ Reaches rows to from
    behind k from to leads most (inl before) = old (walk.behind k from to before leads most)
      where
        old : StandsBefore left k to ⊎ Reaches rows to from → StandsBefore (left ++ f ∷ []) k to ⊎ Reaches rows to from
        old (inl earlier) = inl (earlier.0, earlier.1, push_kept left f earlier.0 to earlier.2)
        old (inr reach) = inr reach
    behind k from to leads most (inr same) = new (walk.known to (walk.followed (length rest) (f, c) (push_at rest (f, c)) leads.0 there leads.2.0 to less leads.2.1 most))
      where
        there : slice_get rows f ≡ Some leads.0
        there = ap (slice_get rows) (sym same.0) ∙ leads.1

        less : leads.2.0 < c
        less = let within = slice_get_within leads.0 leads.2.0 to leads.2.1 in let short = row_short leads.0 there in omega (arith, within, short)

        new : Has left to ⊎ Has (opened (rest ++ (f, c) ∷ [])) to → StandsBefore (left ++ f ∷ []) k to ⊎ Reaches rows to from
        new (inl has) = let within = slice_get_within left has.0 to has.1 in inl (has.0, omega (arith, within, same.1), push_kept left f has.0 to has.1)
        new (inr has) =
            inr (subst (Reaches rows to) (sym same.0) (walk.path has.0 end to f (last_above rest f c has.0 to has.1) has.1 last))

-- ---- the steps that are left

-- a place that is entered takes no steps to enter any more
pub entered_steps : (rows : List (List ℕ)) (n : ℕ) (flags : List Bool) (i : ℕ) → i < length flags → (slice_get flags i ≡ Some true → ⊥) →
    to_enter rows n flags ≡ suc (calls_at rows (n + i)) + to_enter rows n (set flags i true)
entered_steps rows n [] i within new = absurd (omega (arith, within))
entered_steps rows n (true ∷ flags) zero within new = absurd (new refl)
entered_steps rows n (false ∷ flags) zero within new =
    let same : n ≡ n + 0 = omega arith in ap (λ (m : ℕ). suc (calls_at rows m) + to_enter rows (suc n) flags) same
entered_steps rows n (true ∷ flags) (suc i) within new =
    let same : suc n + i ≡ n + suc i = omega arith in
    entered_steps rows (suc n) flags i (omega (arith, within)) new ∙ ap (λ (m : ℕ). suc (calls_at rows m) + to_enter rows (suc n) (set flags i true)) same
entered_steps rows n (false ∷ flags) (suc i) within new =
    let same : suc n + i ≡ n + suc i = omega arith in
    let rest = entered_steps rows (suc n) flags i (omega (arith, within)) new ∙ ap (λ (m : ℕ). suc (calls_at rows m) + to_enter rows (suc n) (set flags i true)) same in
    omega (arith, rest)

-- one more open place
pub leave_more : (rows : List (List ℕ)) (stack : List (ℕ × ℕ)) (o : ℕ × ℕ) → to_leave rows (stack ++ o ∷ []) ≡ to_leave rows stack + suc (calls_at rows o.0 - o.1)
leave_more rows [] o = omega arith
leave_more rows (p ∷ stack) o = omega (arith, leave_more rows stack o)

-- ---- steps of a walk

-- a walk of equal lists
moved : (rows : List (List ℕ)) (e f : List Bool) (s t : List (ℕ × ℕ)) (l m : List ℕ) → e ≡ f → s ≡ t → l ≡ m → IsWalk rows e s l → IsWalk rows f t m
moved rows e f s t l m one two three walk =
    subst (λ x. IsWalk rows x t m) one (subst (λ x. IsWalk rows e x m) two (subst (λ x. IsWalk rows e s x) three walk))

-- what was entered stays so
pub enter_keeps : (before after : Walk) (i : ℕ) → WasEntered before after i ⊎ IsEntered before after i → KeepsEntered before after
enter_keeps before after i (inl was) place at = ap (λ (l : List Bool). slice_get l place) was.entered ∙ at
enter_keeps before after i (inr is) place at =
    ap (λ (l : List Bool). slice_get l place) is.entered ∙ set_kept before.entered.items i place at

-- what is entered is so
pub enter_here : (before after : Walk) (i : ℕ) → WasEntered before after i ⊎ IsEntered before after i → i < length before.entered.items →
    slice_get after.entered.items i ≡ Some true
enter_here before after i (inl was) within = ap (λ (l : List Bool). slice_get l i) was.entered ∙ was.old within
enter_here before after i (inr is) within =
    ap (λ (l : List Bool). slice_get l i) is.entered ∙ set_same before.entered.items i within

-- a place is entered where none is open
pub enter_walks : (rows : List (List ℕ)) (before after : Walk) (i : ℕ) → WasEntered before after i ⊎ IsEntered before after i →
    before.stack.items ≡ [] → GoesOn rows before → GoesOn rows after
enter_walks rows before after i (inl was) none walk =
    moved rows before.entered.items after.entered.items before.stack.items after.stack.items before.left.items after.left.items
    (sym was.entered) (sym was.stack) (sym was.left) walk
enter_walks rows before after i (inr is) none walk =
    moved rows (set before.entered.items i true) after.entered.items (before.stack.items ++ (i, 0) ∷ []) after.stack.items before.left.items after.left.items
    (sym is.entered) (sym is.stack) (sym is.left)
    (walk_entered rows before.entered.items before.stack.items before.left.items i is.within is.new
    (λ k from at. absurd (none-some from (ap (λ (l : List (ℕ × ℕ)). slice_get (opened l) k) (sym none) ∙ at))) walk)

-- a call is followed
pub call_walks : (rows : List (List ℕ)) (before mid after : Walk) (rest : List (ℕ × ℕ)) (f c next : ℕ) → IsCall rows f c next →
    before.stack.items ≡ rest ++ (f, c) ∷ [] → mid.stack.items ≡ rest ++ (f, c + 1) ∷ [] → mid.entered.items ≡ before.entered.items →
    mid.left.items ≡ before.left.items → WasEntered mid after next ⊎ IsEntered mid after next → GoesOn rows before → GoesOn rows after
call_walks rows before mid after rest f c next call first second entered left (inl was) walk =
    moved rows before.entered.items after.entered.items (rest ++ (f, c + 1) ∷ []) after.stack.items before.left.items after.left.items
    (sym entered ∙ sym was.entered) (sym second ∙ sym was.stack) (sym left ∙ sym was.left)
    (walk_followed rows before.entered.items rest [] f c next before.left.items call
    (λ within. ap (λ (l : List Bool). slice_get l next) (sym entered)
    ∙ was.old (subst (λ (n : ℕ). next < n) (sym walk.count ∙ ap length (sym entered)) within))
    (subst (λ (l : List (ℕ × ℕ)). IsWalk rows before.entered.items l before.left.items) first walk))
call_walks rows before mid after rest f c next call first second entered left (inr is) walk =
    moved rows (set before.entered.items next true) after.entered.items (rest ++ (f, c + 1) ∷ (next, 0) ∷ []) after.stack.items before.left.items after.left.items
    (ap (λ (l : List Bool). set l next true) (sym entered) ∙ sym is.entered)
    (sym (append_assoc rest ((f, c + 1) ∷ []) ((next, 0) ∷ [])) ∙ ap (λ (l : List (ℕ × ℕ)). l ++ (next, 0) ∷ []) (sym second) ∙ sym is.stack)
    (sym left ∙ sym is.left)
    (walk_followed rows (set before.entered.items next true) rest ((next, 0) ∷ []) f c next before.left.items call
    (λ most. set_same before.entered.items next within)
    (subst (λ (l : List (ℕ × ℕ)). IsWalk rows (set before.entered.items next true) l before.left.items)
    (append_assoc rest ((f, c) ∷ []) ((next, 0) ∷ []))
    (walk_entered rows before.entered.items (rest ++ (f, c) ∷ []) before.left.items next within
    (λ at. is.new (ap (λ (l : List Bool). slice_get l next) entered ∙ at))
    (open_reach rows before.entered.items rest f c before.left.items next here (call.0, call.1, (c, call.2))) here)))
  where
    within : next < length before.entered.items
    within = subst (λ (l : List Bool). next < length l) entered is.within

    here : IsWalk rows before.entered.items (rest ++ (f, c) ∷ []) before.left.items
    here = subst (λ (l : List (ℕ × ℕ)). IsWalk rows before.entered.items l before.left.items) first walk

-- fewer steps are left when a call is followed
pub call_falls : (graph : List (List ℕ)) (before mid after : Walk) (rest : List (ℕ × ℕ)) (f c next : ℕ) → IsCall graph f c next →
    before.stack.items ≡ rest ++ (f, c) ∷ [] → mid.stack.items ≡ rest ++ (f, c + 1) ∷ [] → mid.entered.items ≡ before.entered.items →
    WasEntered mid after next ⊎ IsEntered mid after next → steps_of graph after < steps_of graph before
call_falls graph before mid after rest f c next call first second entered how = by how
  where
    less : c < calls_at graph f
    less = let within = slice_get_within call.0 c next call.2 in let is = ap (λ p. option_map_or length p 0) call.1 in omega (arith, within, is)

    old : to_leave graph before.stack.items ≡ to_leave graph rest + suc (calls_at graph f - c)
    old = ap (to_leave graph) first ∙ leave_more graph rest (f, c)

    new : to_leave graph mid.stack.items ≡ to_leave graph rest + suc (calls_at graph f - (c + 1))
    new = ap (to_leave graph) second ∙ leave_more graph rest (f, c + 1)

    by : WasEntered mid after next ⊎ IsEntered mid after next → steps_of graph after < steps_of graph before
    by (inl was) =
        let same = ap (to_enter graph 0) (was.entered ∙ entered) in
        let same_stack = ap (to_leave graph) was.stack in
        omega (arith, less, old, new, same, same_stack)
    by (inr is) =
        let more = ap (to_leave graph) is.stack ∙ leave_more graph mid.stack.items (next, 0) in
        let fewer = entered_steps graph 0 mid.entered.items next is.within is.new in
        let same = ap (to_enter graph 0) is.entered in
        let same_entered = ap (to_enter graph 0) entered in
        let zero_plus : 0 + next ≡ next = omega arith in
        let same_calls = ap (calls_at graph) zero_plus in
        omega (arith, less, old, new, more, fewer, same, same_entered, same_calls)

-- fewer steps are left when a place is left
pub left_falls : (rows : List (List ℕ)) (stack rest : List (ℕ × ℕ)) (f c : ℕ) → stack ≡ rest ++ (f, c) ∷ [] → to_leave rows rest < to_leave rows stack
left_falls rows stack rest f c same = let is = ap (to_leave rows) same ∙ leave_more rows rest (f, c) in omega (arith, is)
