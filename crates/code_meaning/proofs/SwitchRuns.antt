-- The cases of a `switch` lead to the group that its value leads to.
use Rattle.std.proofs.Common.{◌≡◌, ℕ, suc, ◌+◌, Bool, true, false, List, [], ◌∷◌, ◌++◌, length, take, Option, Some, None, refl, sym, ap, ◌∙◌, subst, arith}
use Rattle.std.specs.Prelude.{ℤ, ◌||◌, if◌then◌else◌, count_by, is_some, nat_lt, not, option_map, position, sum, unwrap_or}
use Rattle.std.specs.List.{list_any, position_or_len}
use Rattle.std.specs.Ordering.{int_eq}
use Rattle.std.proofs.lemmas.Bool.{le-ltb, lt-ltb, ltb-false, ltb-true}
use Rattle.std.proofs.lemmas.List.Sums.{sum_by-cons}
use Rattle.bytecode.specs.declared.code.Code.{Code}
use Rattle.bytecode.specs.declared.instr.Instr.TheVariants as instr
use Rattle.bytecode.specs.Machine.{Machine}
use Rattle.bytecode.specs.Step.{goes_on, goes_to}
use Rattle.control_flow.specs.World.{World}
use Rattle.typed_tree.specs.Memory.{Memory}
use Rattle.typed_tree.specs.Size.{case_count, jump_size}
use Rattle.typed_tree.specs.Statement.{default_group, group_for, same_label}
use Rattle.code_listing.specs.Listing.{Listing, jump_code}
use Rattle.code_listing.specs.Statement.{cases_code, labels_code, switch_code}
use Rattle.code_listing.proofs.MachineRuns.{at_place, comes_on, one_moves, stands_back, stands_front, stays}
use Rattle.code_listing.proofs.StatementSizes.{cases_long, jump_long, labels_long, sum-cons}
use Rattle.code_meaning.proofs.LoopRuns.{jump_over}
use Rattle.code_listing.specs.Runs.{Comes, StandsAt, machine_at}

-- where the first item passes a test, it is the first that does
position_here : {A : Type 0} (p : A → Bool) (x : A) (xs : List A) → p x ≡ true → position p (x ∷ xs) ≡ Some 0
position_here p x xs e =
    let after = 1 + position_or_len p xs in
    let found : ℕ → Option ℕ = λ n. if nat_lt n (suc (length xs)) then Some n else None in
    ap (λ b. found (if not b then after else 0)) e ∙ ap (λ b. if b then Some 0 else None) (lt-ltb 0 (suc (length xs)) (omega arith))

-- where it does not, it is the first of the others that does
position_later : {A : Type 0} (p : A → Bool) (x : A) (xs : List A) → p x ≡ false → position p (x ∷ xs) ≡ option_map (λ k. suc k) (position p xs)
position_later p x xs e =
    ap (λ b. found (if not b then 1 + position_or_len p xs else 0)) e ∙ by_less (nat_lt (position_or_len p xs) (length xs)) refl
  where
    found : ℕ → Option ℕ
    found = λ n. if nat_lt n (suc (length xs)) then Some n else None

    by_less : (z : Bool) → nat_lt (position_or_len p xs) (length xs) ≡ z →
        found (1 + position_or_len p xs) ≡ option_map (λ k. suc k) (if z then Some (position_or_len p xs) else None)
    by_less true e =
        let k = position_or_len p xs in
        let less = ltb-true k (length xs) e in
        ap (λ b. if b then Some (1 + k) else None) (lt-ltb (1 + k) (suc (length xs)) (omega (arith, less))) ∙
        ap (λ n. Some n) (let same : 1 + k ≡ suc k = omega arith in same)
    by_less false e =
        let k = position_or_len p xs in
        ap (λ b. if b then Some (1 + k) else None) (le-ltb (1 + k) (suc (length xs)) (omega (arith, ltb-false k (length xs) e)))

module _ (code : Code) (closed : Bool) (moment : ℕ) (gives : Bool) (stack : List ℤ) (calls : List ℕ) where
  -- the cases of a group lead to it where the value is one of its labels
  labels_run : (labels : List (Option ℤ)) (target place : ℕ) (v : ℤ) (w : World Memory) → StandsAt code place (labels_code labels target) →
      Comes code closed moment (machine_at place (v ∷ stack) calls w) (if list_any (same_label (Some v)) labels
      then machine_at target stack calls w else machine_at (place + count_by is_some labels) (v ∷ stack) calls w)
  labels_run [] target place v w h = at_place code closed moment place (place + 0) (omega arith) (stays code closed moment _)
  labels_run (None ∷ labels) target place v w h = labels_run labels target place v w h
  labels_run (Some n ∷ labels) target place v w h = by_match (int_eq v n) refl (labels_run labels target (place + 1) v w h.1)
    where
      m : Machine
      m = machine_at place (v ∷ stack) calls w

      further : ℕ → Machine
      further = λ past. if list_any (same_label (Some v)) labels then machine_at target stack calls w else machine_at past (v ∷ stack) calls w

      by_match : (z : Bool) → int_eq v n ≡ z →
          Comes code closed moment (machine_at (place + 1) (v ∷ stack) calls w) (further (place + 1 + count_by is_some labels)) →
          Comes code closed moment m (if z || list_any (same_label (Some v)) labels
          then machine_at target stack calls w else machine_at (place + count_by is_some (Some n ∷ labels)) (v ∷ stack) calls w)
      by_match true e next = one_moves code closed moment place target (v ∷ stack) stack calls w (instr.Case target n) h.0.0
          (ap (λ z. if z then goes_to target m stack else goes_on m (v ∷ stack)) e)
      by_match false e next =
          let len : place + 1 + count_by is_some labels ≡ place + count_by is_some (Some n ∷ labels) =
          omega (arith, sum_by-cons (λ (label : Option ℤ). if is_some label then 1 else 0) (Some n) labels) in
          subst (λ p. Comes code closed moment m (further p)) len
          (comes_on code closed moment (one_moves code closed moment place (place + 1) (v ∷ stack) (v ∷ stack) calls w (instr.Case target n) h.0.0
          (ap (λ z. if z then goes_to target m stack else goes_on m (v ∷ stack)) e)) next)

  -- where cases lead: to a group, the value being dropped; or past them, with the value still there
  abbrev led : Option ℕ → List ℕ → ℕ → ℕ → ℤ → World Memory → Machine
  led (Some k) sizes at past v w = machine_at (at + sum (take k sizes)) stack calls w
  led None sizes at past v w = machine_at past (v ∷ stack) calls w

  -- a later group
  led_later : (o : Option ℕ) (size : ℕ) (sizes : List ℕ) (at past : ℕ) (v : ℤ) (w : World Memory) →
      led o sizes (at + size) past v w ≡ led (option_map (λ k. suc k) o) (size ∷ sizes) at past v w
  led_later (Some k) size sizes at past v w =
      ap (λ p. machine_at p stack calls w) (let e : at + size + sum (take k sizes) ≡ at + sum (size ∷ take k sizes) = omega (arith, sum-cons size (take k sizes)) in e)
  led_later None size sizes at past v w = refl

  -- the cases lead to the first group that has the value as a label
  cases_run : (labels : List (List (Option ℤ))) (sizes : List ℕ) (at place : ℕ) (v : ℤ) (w : World Memory) → length labels ≡ length sizes →
      StandsAt code place (cases_code labels sizes at) →
      Comes code closed moment (machine_at place (v ∷ stack) calls w)
      (led (position (list_any (same_label (Some v))) labels) sizes at (place + case_count labels) v w)
  cases_run [] sizes at place v w same h = at_place code closed moment place (place + 0) (omega arith) (stays code closed moment _)
  cases_run (ls ∷ groups) [] at place v w same h = absurd (omega (arith, same))
  cases_run (ls ∷ groups) (size ∷ sizes) at place v w same h =
      by_group (list_any (same_label (Some v)) ls) refl
      (labels_run ls at place v w (stands_front code place (labels_code ls at) (cases_code groups sizes (at + size)) h))
      (cases_run groups sizes (at + size) (place + count_by is_some ls) v w (omega (arith, same))
      (stands_back code place (count_by is_some ls) (labels_code ls at) (cases_code groups sizes (at + size)) (labels_long ls at) h))
    where
      m : Machine
      m = machine_at place (v ∷ stack) calls w

      by_group : (z : Bool) → list_any (same_label (Some v)) ls ≡ z →
          Comes code closed moment m (if z then machine_at at stack calls w else machine_at (place + count_by is_some ls) (v ∷ stack) calls w) →
          Comes code closed moment (machine_at (place + count_by is_some ls) (v ∷ stack) calls w)
          (led (position (list_any (same_label (Some v))) groups) sizes (at + size) (place + count_by is_some ls + case_count groups) v w) →
          Comes code closed moment m (led (position (list_any (same_label (Some v))) (ls ∷ groups)) (size ∷ sizes) at (place + case_count (ls ∷ groups)) v w)
      by_group true e r next =
          subst (λ o. Comes code closed moment m (led o (size ∷ sizes) at (place + case_count (ls ∷ groups)) v w))
          (sym (position_here (list_any (same_label (Some v))) ls groups e))
          (at_place code closed moment at (at + 0) (omega arith) r)
      by_group false e r next =
          let q = place + count_by is_some ls in
          let len : q + case_count groups ≡ place + case_count (ls ∷ groups) = omega (arith, sum_by-cons (count_by is_some) ls groups) in
          subst (λ o. Comes code closed moment m (led o (size ∷ sizes) at (place + case_count (ls ∷ groups)) v w))
          (sym (position_later (list_any (same_label (Some v))) ls groups e))
          (subst (λ p. Comes code closed moment m (led (option_map (λ k. suc k) (position (list_any (same_label (Some v))) groups)) (size ∷ sizes) at p v w)) len
          (subst (λ after. Comes code closed moment m after)
          (led_later (position (list_any (same_label (Some v))) groups) size sizes at (q + case_count groups) v w)
          (comes_on code closed moment r next)))

  -- behind its value, a `switch` leads to the group that the value leads to, or behind the last one
  pub switch_leads : (labels : List (List (Option ℤ))) (sizes : List ℕ) (groups : ℕ → Listing) (place : ℕ) (v : ℤ) (w : World Memory) →
      length labels ≡ length sizes → StandsAt code place (switch_code labels sizes groups place) →
      Comes code closed moment (machine_at place (v ∷ stack) calls w)
      (machine_at (place + case_count labels + (1 + jump_size (sum (take (default_group labels) sizes))) + sum (take (group_for v labels) sizes)) stack calls w)
  switch_leads labels sizes groups place v w same h =
      by_group (position (list_any (same_label (Some v))) labels)
      (cases_run labels sizes groups_at place v w same (stands_front code place cases _ h))
    where
      over : ℕ
      over = sum (take (default_group labels) sizes)

      drop_at : ℕ
      drop_at = place + case_count labels

      groups_at : ℕ
      groups_at = drop_at + (1 + jump_size over)

      cases : Listing
      cases = cases_code labels sizes groups_at

      m : Machine
      m = machine_at place (v ∷ stack) calls w

      by_group : (o : Option ℕ) → Comes code closed moment m (led o sizes groups_at drop_at v w) →
          Comes code closed moment m (machine_at (groups_at + sum (take (unwrap_or o (default_group labels)) sizes)) stack calls w)
      by_group (Some k) r = r
      by_group None r =
          let h1 = stands_back code place (case_count labels) cases _ (cases_long labels sizes groups_at same) h in
          let len : drop_at + 1 + (jump_size over + over) ≡ groups_at + over = omega arith in
          at_place code closed moment (drop_at + 1 + (jump_size over + over)) (groups_at + over) len
          (comes_on code closed moment r
          (comes_on code closed moment
          (one_moves code closed moment drop_at (drop_at + 1) (v ∷ stack) stack calls w instr.Drop h1.0.0 refl)
          (jump_over code closed moment gives stack calls over (drop_at + 1) w
          (stands_front code (drop_at + 1) (jump_code over (drop_at + 1)) (groups groups_at) h1.1))))

  -- the groups stand behind the cases
  pub groups_stand : (labels : List (List (Option ℤ))) (sizes : List ℕ) (groups : ℕ → Listing) (place : ℕ) → length labels ≡ length sizes →
      StandsAt code place (switch_code labels sizes groups place) →
      StandsAt code (place + case_count labels + (1 + jump_size (sum (take (default_group labels) sizes))))
      (groups (place + case_count labels + (1 + jump_size (sum (take (default_group labels) sizes)))))
  groups_stand labels sizes groups place same h =
      let over = sum (take (default_group labels) sizes) in
      let drop_at = place + case_count labels in
      let groups_at = drop_at + (1 + jump_size over) in
      let js = jump_code over (drop_at + 1) in
      let here : drop_at + 1 + jump_size over ≡ groups_at = omega arith in
      let h1 = stands_back code place (case_count labels) (cases_code labels sizes groups_at) ((instr.Drop, 1) ∷ (js ++ groups groups_at))
      (cases_long labels sizes groups_at same) h in
      subst (λ p. StandsAt code p (groups groups_at)) here
      (stands_back code (drop_at + 1) (jump_size over) js (groups groups_at) (jump_long over (drop_at + 1)) h1.1)
