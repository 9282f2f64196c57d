-- Whichever picks are given, the steps of rounds have the same frames, and those of each node in order.
use Rattle.std.proofs.Common.{◌≡◌, inl, inr, ℕ, Bool, cond, List, [], ◌∷◌, ◌++◌, Option, None, Some, refl, ap, sym, ◌∙◌}
use Rattle.std.specs.Prelude.{◌==◌, map}
use Rattle.std.specs.List.{filter}
use Rattle.std.proofs.lemmas.Bool.Decides.{eqb_tells}
use Rattle.std.proofs.lemmas.List.{append-nil}
use Rattle.std.proofs.lemmas.List.Elements.{filter-append}
use Rattle.can_bus.specs.declared.bus.Ended.{Ended}
use Rattle.node_rounds.specs.Round.{Task}
use Rattle.run_meaning.specs.Steps.{tasks_in_order, picks_after, Step, ended_steps, steps, task_done, task_steps}
use Rattle.run_meaning.specs.Run.{Passed}
use Rattle.run_meaning.proofs.Counts.{order_parts}
use Rattle.task_orders.specs.Values.{DifferInOrder, frames_in, frames_of, is_frame, is_of, own_steps, steps_in, steps_of}

-- ---- frames

no_frames : (now : ℕ) (list : List (ℕ × Task)) → frames_in (map (λ one. task_done now one.0 one.1) list) ≡ []
no_frames now [] = refl
no_frames now (one ∷ list) = no_frames now list

ended_frames : (now : ℕ) (ended : Option Ended) → frames_in (ended_steps now ended) ≡ ended_steps now ended
ended_frames now None = refl
ended_frames now (Some ended) = refl

-- the frames of the steps of rounds are those of the rounds
pub same_frames : (rounds : List Passed) (picks : List ℕ) → frames_in (steps rounds picks) ≡ frames_of rounds
same_frames [] picks = refl
same_frames (passed ∷ rounds) picks =
    let ended : List Step = ended_steps passed.moment passed.ended in
    let tasks : List Step = task_steps passed.moment passed.tasks picks in
    let rest : List ℕ = picks_after passed.tasks picks in
    filter-append is_frame (ended ++ tasks) (steps rounds rest)
    ∙ ap (λ (l : List Step). l ++ frames_in (steps rounds rest))
    (filter-append is_frame ended tasks ∙ ap (λ (l : List Step). l ++ frames_in tasks) (ended_frames passed.moment passed.ended)
    ∙ ap (λ (l : List Step). ended ++ l) (no_frames passed.moment (tasks_in_order passed.tasks picks)) ∙ append-nil ended)
    ∙ ap (λ (l : List Step). ended ++ l) (same_frames rounds rest)

-- ---- the steps of a node

no_own : (number now : ℕ) (ended : Option Ended) → steps_in number (ended_steps now ended) ≡ []
no_own number now None = refl
no_own number now (Some ended) = refl

own_tasks : (number now : ℕ) (list : List (ℕ × Task))
    → steps_in number (map (λ one. task_done now one.0 one.1) list) ≡ map (λ task. task_done now number task) (map (λ one. one.1) (filter (λ one. one.0 == number) list))
own_tasks number now [] = refl
own_tasks number now (one ∷ list) =
    let more : List Step = steps_in number (map (λ (o : ℕ × Task). task_done now o.0 o.1) list) in
    let others : List (ℕ × Task) = filter (λ (o : ℕ × Task). o.0 == number) list in
    let known = own_tasks number now list in
    let by : Bool → List Step = λ b. map (λ (task : Task). task_done now number task) (map (λ (o : ℕ × Task). o.1) (cond b (one ∷ others) others)) in
    elim (eqb_tells one.0 number) [
      | inl same ↦ ap (λ b. cond b (task_done now one.0 one.1 ∷ more) more) same.0 ∙ ap (λ (n : ℕ). task_done now n one.1 ∷ more) same.1
          ∙ ap (λ (l : List Step). task_done now number one.1 ∷ l) known ∙ ap by (sym same.0)
      | inr other ↦ ap (λ b. cond b (task_done now one.0 one.1 ∷ more) more) other.0 ∙ known ∙ ap by (sym other.0)
    ]

-- the steps of a node are what it did in the rounds
pub same_own : (number : ℕ) (rounds : List Passed) (picks : List ℕ) → steps_in number (steps rounds picks) ≡ steps_of number rounds
same_own number [] picks = refl
same_own number (passed ∷ rounds) picks =
    let now : ℕ = passed.moment in
    let ended : List Step = ended_steps now passed.ended in
    let tasks : List Step = task_steps now passed.tasks picks in
    let rest : List ℕ = picks_after passed.tasks picks in
    filter-append (is_of number) (ended ++ tasks) (steps rounds rest)
    ∙ ap (λ (l : List Step). l ++ steps_in number (steps rounds rest))
    (filter-append (is_of number) ended tasks ∙ ap (λ (l : List Step). l ++ steps_in number tasks) (no_own number now passed.ended)
    ∙ own_tasks number now (tasks_in_order passed.tasks picks)
    ∙ ap (λ (ts : List Task). map (λ (task : Task). task_done now number task) ts) (order_parts passed.tasks picks number))
    ∙ ap (λ (l : List Step). own_steps number passed ++ l) (same_own number rounds rest)

-- steps of the same rounds differ in order alone
pub differ : (rounds : List Passed) (picks others : List ℕ) → DifferInOrder (steps rounds picks) (steps rounds others)
differ rounds picks others = record {
  frames = same_frames rounds others ∙ sym (same_frames rounds picks);
  nodes = λ number. same_own number rounds others ∙ sym (same_own number rounds picks);
}
