-- A depth that a run reaches in a function is below the number of the function's places: depths begin at 0 and rise by at
-- most 1 a step, so each lesser depth stands at some place of the function.
use Rattle.std.proofs.Common.{◌≡◌, ◌≢◌, ◌≤◌, ◌<◌, ◌+◌, ℕ, zero, suc, Bool, List, [], ◌∷◌, length, slice_get, Option, Some, refl, sym, ap, ◌∙◌, subst, arith, inl, inr}
use Rattle.std.specs.List.{AllByRecursion}
use Rattle.std.proofs.lemmas.Bool.{cases_lt}
use Rattle.std.proofs.lemmas.Option.{slice_get_within}
use Rattle.bytecode.specs.declared.code.Code.{Code}
use Rattle.bytecode.specs.declared.code.Fun.{Fun}
use Rattle.bytecode.specs.Machine.{Machine, Next, Goes, Ends, Stuck}
use Rattle.bytecode.specs.Rule.{IsIn, IsReached, Target}
use Rattle.bytecode.specs.Runs.{IsStartOf}
use Rattle.bytecode.specs.Step.{continuing, go, step}
use Rattle.bytecode.specs.Verified.{IsVerified}
use Rattle.bytecode.proofs.CoverLemmas.{Cover-once}
use Rattle.bytecode.proofs.MachineStates.{IsAt, Stands}
use Rattle.bytecode.proofs.PlaceRules.{begins, rule_here}
use Rattle.bytecode.proofs.RunLemmas.{step_is_row}
use Rattle.bytecode.proofs.VerifiedRuns.{start_stands, stands_after}
use Rattle.stack_vm.proofs.RowMoves.{GoesOn, Steps, Steps-row, enters, leaves, moves}

-- ---- so many different items

-- a list without one of its items
record Without (xs : List ℕ) (d : ℕ) : Type 0 where
  rest : List ℕ
  shorter : suc (length rest) ≡ length xs
  kept : (e j : ℕ) → e ≢ d → slice_get xs j ≡ Some e → (k : ℕ) × (slice_get rest k ≡ Some e)

longer : (x : ℕ) (xs : List ℕ) (d : ℕ) → Without xs d → Without (x ∷ xs) d
longer x xs d r = record { rest = x ∷ r.rest; shorter = omega (arith, r.shorter); kept = others }
  where
    others : (e j : ℕ) → e ≢ d → slice_get (x ∷ xs) j ≡ Some e → (k : ℕ) × (slice_get (x ∷ r.rest) k ≡ Some e)
    others e zero ne at = (0, at)
    others e (suc j) ne at = let k = r.kept e j ne at in (suc k.0, k.1)

without : (xs : List ℕ) (i d : ℕ) → slice_get xs i ≡ Some d → Without xs d
without [] i d h = absurd (cc)
without (x ∷ xs) zero d h = record { rest = xs; shorter = omega arith; kept = others }
  where
    others : (e j : ℕ) → e ≢ d → slice_get (x ∷ xs) j ≡ Some e → (k : ℕ) × (slice_get xs k ≡ Some e)
    others e zero ne at = absurd (ne (let same : Some e ≡ Some d = sym at ∙ h in cc))
    others e (suc j) ne at = (j, at)
without (x ∷ xs) (suc i) d h = longer x xs d (without xs i d h)

-- a list with all numbers up to one has more items than that
pub more_items : (xs : List ℕ) (d : ℕ) → ((e : ℕ) → e ≤ d → (i : ℕ) × (slice_get xs i ≡ Some e)) → d < length xs
more_items xs zero h = let at = h 0 (omega arith) in let within = slice_get_within xs at.0 0 at.1 in omega (arith, within)
more_items xs (suc d) h =
    let at = h (suc d) (omega arith) in
    let w = without xs at.0 (suc d) at.1 in
    let fewer = more_items w.rest d (λ e le. let there = h e (omega (arith, le)) in w.kept e there.0 (λ same. omega (arith, same, le)) there.1) in
    omega (arith, fewer, w.shorter)

-- ---- lesser depths

-- a depth stands at a place of a function
pub record StandsIn (code : Code) (function : Fun) (depth : ℕ) : Type 0 where
  pub place : ℕ
  pub inside : IsIn function place
  pub has_depth : slice_get code.depths place ≡ Some depth

-- each depth up to that of a place stands at a place of its function
abbrev pub HasLesserDepths : Code → ℕ → Type 0
HasLesserDepths code place = (number : ℕ) (function : Fun) (depth : ℕ) → IsAt code number function place depth →
    (lesser : ℕ) → lesser ≤ depth → StandsIn code function lesser

-- so it is of the place of a state, and of where its open calls return to
pub record HasClimbed (code : Code) (m : Machine) : Type 0 where
  pub here : HasLesserDepths code m.place
  pub callers : AllByRecursion (HasLesserDepths code) m.calls

same_item : {A : Type 0} (o : Option A) (x y : A) → o ≡ Some x → o ≡ Some y → x ≡ y
same_item o x y e e' = let same : Some x ≡ Some y = sym e ∙ e' in cc

-- a function begins with depth 0
begins_lowest : (code : Code) → IsVerified code → (number : ℕ) (function : Fun) → slice_get code.functions number ≡ Some function →
    HasLesserDepths code function.start
begins_lowest code verified number function there i f depth at lesser h =
    let low = begins code verified number function there in
    let none : depth ≡ 0 = same_item (slice_get code.depths function.start) depth 0 at.has_depth low.has_depth in
    let same : depth ≡ lesser = omega (arith, none, h) in
    record { place = function.start; inside = at.inside; has_depth = at.has_depth ∙ ap Some same }

module _ (code : Code) (verified : IsVerified code) (m : Machine) (s : Stands code m) (climbed : HasClimbed code m) where
  -- a place of the same function that is at most one deeper
  climbs : (target : Target) → IsReached code s.function target → target.depth ≤ s.depth + 1 → HasLesserDepths code target.place
  climbs target reached h i f depth at lesser le =
      let number : i ≡ s.number = Cover-once 0 code.functions (length code.instrs) verified.laid_out.covered i s.number f s.function at.is_there s.at.is_there
      target.place at.inside reached.inside in
      let function : f ≡ s.function = same_item (slice_get code.functions s.number) f s.function (ap (slice_get code.functions) (sym number) ∙ at.is_there) s.at.is_there in
      let deep : depth ≡ target.depth = same_item (slice_get code.depths target.place) depth target.depth at.has_depth reached.depth in
      elim (cases_lt s.depth lesser) [
        | inl above ↦ record {
          place = target.place;
          inside = at.inside;
          has_depth = at.has_depth ∙ ap Some (let same : depth ≡ lesser = omega (arith, deep, h, le, above) in same);
        }
        | inr below ↦ subst (λ (g : Fun). StandsIn code g lesser) (sym function) (climbed.here s.number s.function s.depth s.at lesser below)
      ]

  -- where a step goes on
  along : (after : Machine) → GoesOn code s.function s.depth m after → HasClimbed code after
  along after (moves g) = record {
    here = subst (HasLesserDepths code) (sym g.place) (climbs g.target g.reached g.rises);
    callers = subst (AllByRecursion (HasLesserDepths code)) (sym g.calls) climbed.callers;
  }
  along after (enters g) = record {
    here = subst (HasLesserDepths code) (sym g.place) (begins_lowest code verified g.entered g.callee g.is_function);
    callers = subst (AllByRecursion (HasLesserDepths code)) (sym g.calls)
        (climbs (record { place = m.place + 1; depth = g.back }) g.reached g.rises, climbed.callers);
  }
  along after (leaves e) =
      let all = subst (AllByRecursion (HasLesserDepths code)) e climbed.callers in
      record { here = all.0; callers = all.1 }

  -- after a step
  climbed_after : (closed : Bool) (moment : ℕ) (after : Machine) → step code closed moment m ≡ Goes after → HasClimbed code after
  climbed_after closed moment after e =
      let rule = rule_here code verified m s in
      along after (subst (Steps code s.function s.depth m) (sym (step_is_row code closed moment m rule.instr rule.is_instr) ∙ e)
      (Steps-row code s.function s.depth m closed moment rule.instr m.stack rule.is_instr rule.keeps.takes_what_is_there rule.keeps.targets_agree))

-- what follows from a step that went on, and then from the rest
pub continues : {P : Type 0} (next : Next) (further : Machine → Next) (reached : Machine) → continuing next further ≡ Goes reached →
    ((after : Machine) → next ≡ Goes after → further after ≡ Goes reached → P) → P
continues (Goes after) further reached e f = f after refl e
continues (Ends outcome after) further reached e f = absurd (cc)
continues Stuck further reached e f = absurd (cc)

-- after so many steps
climbed_go : (code : Code) → IsVerified code → (closed : Bool) (moment n : ℕ) (m : Machine) → Stands code m → HasClimbed code m → (reached : Machine) →
    go code closed moment n m ≡ Goes reached → HasClimbed code reached
climbed_go code verified closed moment zero m s h reached e = subst (HasClimbed code) (let same : m ≡ reached = cc in same) h
climbed_go code verified closed moment (suc n) m s h reached e =
    continues (step code closed moment m) (λ after. go code closed moment n after) reached e
    (λ after goes rest. climbed_go code verified closed moment n after (stands_after code verified closed moment m s after goes)
    (climbed_after code verified m s h closed moment after goes) reached rest)

-- in each state that a run of a handler reaches
pub climbed_reached : (code : Code) → IsVerified code → (handler : ℕ) (start : Machine) → IsStartOf code handler start → (closed : Bool) (moment steps : ℕ)
    (reached : Machine) → go code closed moment steps start ≡ Goes reached → HasClimbed code reached
climbed_reached code verified handler start is closed moment steps reached e =
    climbed_go code verified closed moment steps start (start_stands code verified handler start is) (record {
      here = subst (HasLesserDepths code) (sym is.at_start) (begins_lowest code verified is.handler.function is.function is.is_function);
      callers = subst (AllByRecursion (HasLesserDepths code)) (sym is.no_calls) tt;
    }) reached e
