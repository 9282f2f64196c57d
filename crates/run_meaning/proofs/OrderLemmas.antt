-- The order of the tasks of a round, as they are done one by one: what stands if a node has one task more in
-- front of those that it has left.
use Rattle.std.proofs.Common.{◌≡◌, ◌≢◌, ℕ, zero, suc, ◌+◌, ◌<◌, Bool, true, false, ◌||◌, List, [], ◌∷◌, ◌++◌, length, arith, refl, ap, sym, subst, ◌∙◌}
use Rattle.std.specs.Prelude.{drop, take, map, slice_set}
use Rattle.std.specs.List.{list_any}
use Rattle.std.proofs.lemmas.List.Sums.{sum_by-cons}
use Rattle.can_frame.specs.Frame.{FrameFields}
use Rattle.can_bus.specs.Laws.{RequestsCommute}
use Rattle.can_bus.specs.Meaning.{BusMeaning}
use Rattle.node_rounds.specs.Effects.{after_requests}
use Rattle.node_rounds.specs.Round.{Task}
use Rattle.run_meaning.specs.Run.{after_all_tasks, after_tasks, ask_stop}
use Rattle.run_meaning.specs.Steps.{first_tasks, tasks_in_order, next_pick, nodes_with_tasks, picked, picks_after, task_count, tasks_of, task_done, task_steps}

-- tasks of nodes, with one more in front of those of the node of a number
abbrev pub put_task : ℕ → Task → List (List Task) → List (List Task)
put_task number task [] = []
put_task zero task (own ∷ others) = (task ∷ own) ∷ others
put_task (suc number) task (own ∷ others) = own ∷ put_task number task others

-- tasks of one more node
pub count_cons : (own : List Task) (tasks : List (List Task)) → task_count (own ∷ tasks) ≡ length own + task_count tasks
count_cons own tasks = sum_by-cons length own tasks

-- there is one more
pub count_put : (number : ℕ) (task : Task) (tasks : List (List Task)) → number < length tasks → task_count (put_task number task tasks) ≡ suc (task_count tasks)
count_put number task [] within = absurd (omega (arith, within))
count_put zero task (own ∷ others) within = let a = count_cons (task ∷ own) others in let b = count_cons own others in omega (arith, a, b)
count_put (suc number) task (own ∷ others) within =
    let a = count_cons own (put_task number task others) in let b = count_cons own others in let more = count_put number task others (omega (arith, within)) in omega (arith, a, b, more)

-- it is the first of its node
pub own_put : (number : ℕ) (task : Task) (tasks : List (List Task)) → number < length tasks → tasks_of (put_task number task tasks) number ≡ task ∷ tasks_of tasks number
own_put number task [] within = absurd (omega (arith, within))
own_put zero task (own ∷ others) within = refl
own_put (suc number) task (own ∷ others) within = own_put number task others (omega (arith, within))

-- without it the others are left
pub set_put : (number : ℕ) (task : Task) (tasks : List (List Task)) → number < length tasks → slice_set (put_task number task tasks) number (tasks_of tasks number) ≡ tasks
set_put number task [] within = absurd (omega (arith, within))
set_put zero task (own ∷ others) within = refl
set_put (suc number) task (own ∷ others) within = ap (λ (ts : List (List Task)). own ∷ ts) (set_put number task others (omega (arith, within)))

-- where the next pick names its node, it comes first
pub order_put : (number : ℕ) (task : Task) (tasks : List (List Task)) (picks : List ℕ) → number < length tasks
    → picked (nodes_with_tasks 0 (put_task number task tasks)) (next_pick picks) ≡ number → tasks_in_order (put_task number task tasks) picks ≡ (number, task) ∷ tasks_in_order tasks (drop 1 picks)
order_put number task tasks picks within is =
    let all : List (List Task) = put_task number task tasks in
    let step : (n : ℕ) → (node : ℕ) → node ≡ number
    → (map (λ (t : Task). (node, t)) (take 1 (tasks_of all node)) ++ first_tasks n (slice_set all node (drop 1 (tasks_of all node))) (drop 1 picks)) ≡ (number, task) ∷ first_tasks n tasks (drop 1 picks)
    = λ n node same.
    subst (λ m. (map (λ (t : Task). (m, t)) (take 1 (tasks_of all m)) ++ first_tasks n (slice_set all m (drop 1 (tasks_of all m))) (drop 1 picks)) ≡ (number, task) ∷ first_tasks n tasks (drop 1 picks)) (sym same)
    (subst (λ (own : List Task). (map (λ (t : Task). (number, t)) (take 1 own) ++ first_tasks n (slice_set all number (drop 1 own)) (drop 1 picks)) ≡ (number, task) ∷ first_tasks n tasks (drop 1 picks)) (sym (own_put number task tasks within))
    (ap (λ (ts : List (List Task)). (number, task) ∷ first_tasks n ts (drop 1 picks)) (set_put number task tasks within))) in
    subst (λ n. first_tasks n all picks ≡ (number, task) ∷ tasks_in_order tasks (drop 1 picks)) (sym (count_put number task tasks within))
    (step (task_count tasks) (picked (nodes_with_tasks 0 all) (next_pick picks)) is)

-- and so do the steps
pub steps_put : (now number : ℕ) (task : Task) (tasks : List (List Task)) (picks : List ℕ) → number < length tasks
    → picked (nodes_with_tasks 0 (put_task number task tasks)) (next_pick picks) ≡ number → task_steps now (put_task number task tasks) picks ≡ task_done now number task ∷ task_steps now tasks (drop 1 picks)
steps_put now number task tasks picks within is = ap (λ (list : List (ℕ × Task)). map (λ (one : ℕ × Task). task_done now one.0 one.1) list) (order_put number task tasks picks within is)

drop_more : (n : ℕ) (picks : List ℕ) → drop (suc n) picks ≡ drop n (drop 1 picks)
drop_more zero [] = refl
drop_more (suc n) [] = refl
drop_more n (pick ∷ picks) = refl

-- it uses one pick
pub picks_put : (number : ℕ) (task : Task) (tasks : List (List Task)) (picks : List ℕ) → number < length tasks → picks_after (put_task number task tasks) picks ≡ picks_after tasks (drop 1 picks)
picks_put number task tasks picks within = ap (λ n. drop n picks) (count_put number task tasks within) ∙ drop_more (task_count tasks) picks

or_moves : (a b c : Bool) → (a || (b || c)) ≡ (b || (a || c))
or_moves true true c = refl
or_moves true false c = refl
or_moves false true c = refl
or_moves false false c = refl

or_assoc : (a b c : Bool) → ((a || b) || c) ≡ (a || (b || c))
or_assoc true b c = refl
or_assoc false b c = refl

abbrev asks_own : List Task → Bool
asks_own own = list_any (λ (task : Task). task.stops) own

-- and may ask to stop
pub stop_put : (number : ℕ) (task : Task) (tasks : List (List Task)) → number < length tasks → ask_stop (put_task number task tasks) ≡ (task.stops || ask_stop tasks)
stop_put number task [] within = absurd (omega (arith, within))
stop_put zero task (own ∷ others) within = or_assoc task.stops (asks_own own) (ask_stop others)
stop_put (suc number) task (own ∷ others) within =
    ap (λ b. asks_own own || b) (stop_put number task others (omega (arith, within))) ∙ or_moves (asks_own own) task.stops (ask_stop others)

-- ---- the bus

module _ {B : Type 0} (bus : BusMeaning B) (commute : RequestsCommute bus) where
  one_past : (b : B) (m n : ℕ) (f : FrameFields) (frames : List FrameFields) → m ≢ n
      → after_requests bus.after_request (bus.after_request b m f) n frames ≡ bus.after_request (after_requests bus.after_request b n frames) m f
  one_past b m n f [] differ = refl
  one_past b m n f (g ∷ frames) differ =
      ap (λ x. after_requests bus.after_request x n frames) (commute b m n f g differ) ∙ one_past (bus.after_request b n g) m n f frames differ

  requests_past : (b : B) (m n : ℕ) (fs gs : List FrameFields) → m ≢ n
      → after_requests bus.after_request (after_requests bus.after_request b m fs) n gs ≡ after_requests bus.after_request (after_requests bus.after_request b n gs) m fs
  requests_past b m n [] gs differ = refl
  requests_past b m n (f ∷ fs) gs differ =
      requests_past (bus.after_request b m f) m n fs gs differ ∙ ap (λ x. after_requests bus.after_request x m fs) (one_past b m n f gs differ)

  tasks_past : (b : B) (m n : ℕ) (tasks : List Task) (gs : List FrameFields) → m ≢ n
      → after_requests bus.after_request (after_tasks bus.after_request b m tasks) n gs ≡ after_tasks bus.after_request (after_requests bus.after_request b n gs) m tasks
  tasks_past b m n [] gs differ = refl
  tasks_past b m n (task ∷ tasks) gs differ =
      tasks_past (after_requests bus.after_request b m task.requests) m n tasks gs differ
      ∙ ap (λ x. after_tasks bus.after_request x m tasks) (requests_past b m n task.requests gs differ)

  -- its requests may come to the bus before all others
  pub bus_put : (first number : ℕ) (task : Task) (tasks : List (List Task)) (b : B) → number < length tasks
      → after_all_tasks bus.after_request b first (put_task number task tasks) ≡ after_all_tasks bus.after_request (after_requests bus.after_request b (first + number) task.requests) first tasks
  bus_put first number task [] b within = absurd (omega (arith, within))
  bus_put first zero task (own ∷ others) b within =
      let same : first + 0 ≡ first = omega arith in
      ap (λ n. after_all_tasks bus.after_request (after_tasks bus.after_request (after_requests bus.after_request b n task.requests) first own) (first + 1) others) (sym same)
  bus_put first (suc number) task (own ∷ others) b within =
      let differ : first ≢ first + suc number = λ e. absurd (omega (arith, e)) in
      let same : first + 1 + number ≡ first + suc number = omega arith in
      bus_put (first + 1) number task others (after_tasks bus.after_request b first own) (omega (arith, within))
      ∙ ap (λ n. after_all_tasks bus.after_request (after_requests bus.after_request (after_tasks bus.after_request b first own) n task.requests) (first + 1) others) same
      ∙ ap (λ x. after_all_tasks bus.after_request x (first + 1) others) (tasks_past b first (first + suc number) own task.requests differ)
