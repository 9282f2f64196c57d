-- Runs of any code: steps after steps, one end, and effects that stay.
use Rattle.std.proofs.Common.{◌≡◌, ◌≤◌, ◌+◌, ◌-◌, ℕ, zero, suc, Bool, List, ◌++◌, slice_get, Option, Some, refl, sym, ap, ◌∙◌, subst, arith, inl, inr}
use Rattle.std.proofs.lemmas.Bool.{cases_lt}
use Rattle.std.proofs.lemmas.List.{append_assoc}
use Rattle.run_effects.specs.Effect.{Effect}
use Rattle.run_effects.specs.declared.outcome.Outcome.{Outcome}
use Rattle.bytecode.specs.declared.code.Code.{Code}
use Rattle.bytecode.specs.declared.instr.Instr.{Instr}
use Rattle.bytecode.specs.Laws.{BeginsWith, HasOneEnd, KeepsEffects}
use Rattle.bytecode.specs.Machine.{Machine, Next, Goes, Ends, Stuck}
use Rattle.bytecode.specs.Step.{continuing, go, needing, row, step}
use Rattle.bytecode.proofs.RowEffects.{BeginsWith-self, ExtendsEffects, ExtendsEffects-row}

-- ---- steps after steps

-- the step at a place is the row of its instruction
pub step_is_row : (code : Code) (closed : Bool) (moment : ℕ) (m : Machine) (instr : Instr) → slice_get code.instrs m.place ≡ Some instr →
    step code closed moment m ≡ row code closed moment m instr m.stack
step_is_row code closed moment m instr e = ap (λ (o : Option Instr). needing o (λ (i : Instr). row code closed moment m i m.stack)) e

-- what comes after a step that goes on
continuing-goes : (next : Next) → continuing next (λ after. Goes after) ≡ next
continuing-goes (Goes m) = refl
continuing-goes (Ends outcome m) = refl
continuing-goes Stuck = refl

-- what comes after two steps, where the first of them is the same
continuing-two : (next : Next) (whole first : Machine → Next) (second : Machine → Next) →
    ((after : Machine) → whole after ≡ continuing (first after) second) → continuing next whole ≡ continuing (continuing next first) second
continuing-two (Goes after) whole first second h = h after
continuing-two (Ends outcome after) whole first second h = refl
continuing-two Stuck whole first second h = refl

-- so many steps are the first of them, and then the others
pub go-sum : (code : Code) (closed : Bool) (moment n k total : ℕ) (m : Machine) → total ≡ n + k →
    go code closed moment total m ≡ continuing (go code closed moment n m) (λ after. go code closed moment k after)
go-sum code closed moment zero k total m e = ap (λ t. go code closed moment t m) (let same : total ≡ k = omega arith in same)
go-sum code closed moment (suc n) k zero m e = absurd (omega arith)
go-sum code closed moment (suc n) k (suc total) m e =
    continuing-two (step code closed moment m) (λ after. go code closed moment total after) (λ after. go code closed moment n after)
    (λ after. go code closed moment k after) (λ after. go-sum code closed moment n k total after (omega arith))

-- the steps after those that lead to a state
pub go-further : (code : Code) (closed : Bool) (moment n k total : ℕ) (start m : Machine) → total ≡ n + k → go code closed moment n start ≡ Goes m →
    go code closed moment total start ≡ go code closed moment k m
go-further code closed moment n k total start m e at =
    go-sum code closed moment n k total start e ∙ ap (λ (next : Next). continuing next (λ after. go code closed moment k after)) at

-- one step after those that lead to a state
pub go_one_more : (code : Code) (closed : Bool) (moment n : ℕ) (start m : Machine) → go code closed moment n start ≡ Goes m →
    go code closed moment (suc n) start ≡ step code closed moment m
go_one_more code closed moment n start m at =
    go-further code closed moment n 1 (suc n) start m (omega arith) at ∙ continuing-goes (step code closed moment m)

-- ---- one end

-- a run that has ended stays as it is
pub end_stays : (code : Code) (closed : Bool) (moment n k : ℕ) (start m : Machine) (outcome : Outcome) → n ≤ k →
    go code closed moment n start ≡ Ends outcome m → go code closed moment k start ≡ Ends outcome m
end_stays code closed moment n k start m outcome h ends =
    go-sum code closed moment n (k - n) k start (omega arith)
    ∙ ap (λ (next : Next). continuing next (λ after. go code closed moment (k - n) after)) ends

same_end : (first second : Outcome) (m m' : Machine) → Ends first m ≡ Ends second m' → (first ≡ second) × (m ≡ m')
same_end first second m m' e = (cc, cc)

-- a run has one end
pub one_end : (code : Code) (closed : Bool) (moment : ℕ) (start : Machine) → HasOneEnd code closed moment start
one_end code closed moment start first second m m' a b =
    same_end first second m m' (elim (cases_lt a.0 b.0) [
      | inl below ↦ sym (end_stays code closed moment a.0 b.0 start m first (omega arith) a.1) ∙ b.1
      | inr above ↦ sym a.1 ∙ end_stays code closed moment b.0 a.0 start m' second above b.1
    ])

-- ---- effects

-- what begins with a list that begins with another begins with that
BeginsWith-again : (xs ys zs : List Effect) → BeginsWith xs ys → BeginsWith ys zs → BeginsWith xs zs
BeginsWith-again xs ys zs (more, e) (rest, e') = (rest ++ more, e ∙ ap (λ ws. ws ++ more) e' ∙ append_assoc zs rest more)

ExtendsEffects-continuing : (m : Machine) (next : Next) (further : Machine → Next) → ExtendsEffects m next →
    ((after : Machine) → ExtendsEffects after (further after)) → ExtendsEffects m (continuing next further)
ExtendsEffects-continuing m (Goes after) further w f = later (further after) (f after)
  where
    later : (next : Next) → ExtendsEffects after next → ExtendsEffects m next
    later (Goes end) h = BeginsWith-again end.effects after.effects m.effects h w
    later (Ends outcome end) h = BeginsWith-again end.effects after.effects m.effects h w
    later Stuck h = tt
ExtendsEffects-continuing m (Ends outcome after) further w f = w
ExtendsEffects-continuing m Stuck further w f = tt

ExtendsEffects-step : (code : Code) (closed : Bool) (moment : ℕ) (m : Machine) (o : Option Instr) →
    ExtendsEffects m (needing o (λ instr. row code closed moment m instr m.stack))
ExtendsEffects-step code closed moment m (Some instr) = ExtendsEffects-row code closed moment m instr m.stack
ExtendsEffects-step code closed moment m _ = tt

-- the effects before steps begin those after them
pub ExtendsEffects-go : (code : Code) (closed : Bool) (moment n : ℕ) (m : Machine) → ExtendsEffects m (go code closed moment n m)
ExtendsEffects-go code closed moment zero m = BeginsWith-self m.effects
ExtendsEffects-go code closed moment (suc n) m =
    ExtendsEffects-continuing m (step code closed moment m) (λ after. go code closed moment n after)
    (ExtendsEffects-step code closed moment m (slice_get code.instrs m.place)) (λ after. ExtendsEffects-go code closed moment n after)

-- the effects of the end begin with those of each state that the run comes to
pub effects_stay : (code : Code) (closed : Bool) (moment : ℕ) (start : Machine) → KeepsEffects code closed moment start
effects_stay code closed moment start m end outcome a b =
    elim (cases_lt b.0 a.0) [
      | inl ended ↦ absurd (
          let e : Ends outcome end ≡ Goes m = sym (end_stays code closed moment b.0 a.0 start end outcome (omega arith) b.1) ∙ a.1 in cc)
      | inr further ↦ (
          let e : go code closed moment (b.0 - a.0) m ≡ Ends outcome end =
          sym (go-further code closed moment a.0 (b.0 - a.0) b.0 start m (omega arith) a.1) ∙ b.1 in
          subst (ExtendsEffects m) e (ExtendsEffects-go code closed moment (b.0 - a.0) m))
    ]
