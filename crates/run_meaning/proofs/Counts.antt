-- Picks put the tasks of a round in one order or another: those of each node stay in their order, and no row of
-- a meter depends on the picks.
use Rattle.std.proofs.Common.{◌≡◌, ◌≢◌, ℕ, zero, suc, ◌+◌, ◌-◌, ◌^◌, ◌<◌, ◌%◌, min, inl, inr, Bool, true, false, cond, List, [], ◌∷◌, length, arith, refl, ap, sym, subst, ◌∙◌}
use Rattle.std.specs.Prelude.{◌==◌, drop, map, slice_get}
use Rattle.std.specs.List.{AllByRecursion, count_by, filter, sum_by}
use Rattle.std.specs.Option.{unwrap_or}
use Rattle.std.proofs.lemmas.Bool.Decides.{eqb_tells}
use Rattle.std.proofs.lemmas.List.Sums.{sum_by-append, sum_by-cons}
use Rattle.stack_vm.specs.declared.meter.MeterRow.{MeterRow}
use Rattle.node_rounds.specs.Round.{Task}
use Rattle.run_meaning.specs.Counts.{adds_to, row_then, step_turns}
use Rattle.run_meaning.specs.Steps.{first_tasks, tasks_in_order, next_pick, nodes_with_tasks, picked, picks_after, task_count, tasks_of, Step, ended_steps, round_steps, steps, task_done, task_steps}
use Rattle.run_meaning.specs.Run.{Passed}
use Rattle.run_meaning.proofs.OrderLemmas.{count_cons, count_put, order_put, own_put, put_task}

-- ---- the task that comes next

-- the node of a number has a task, and these are left behind it
record HasTask (tasks : List (List Task)) (number : ℕ) : Type 0 where
  task : Task
  rest : List (List Task)
  within : number < length rest
  are : tasks ≡ put_task number task rest

-- this is the number of a node that has a task, from a number on
abbrev HasAt : ℕ → List (List Task) → ℕ → Type 0
HasAt first tasks node = (number : ℕ) × (node ≡ first + number) × HasTask tasks number

has_behind : (first : ℕ) (own : List Task) (others : List (List Task)) (node : ℕ) → HasAt (first + 1) others node → HasAt first (own ∷ others) node
has_behind first own others node has =
    let at : node ≡ first + 1 + has.0 = has.1 in
    let within : has.0 < length has.2.rest = has.2.within in (
      suc has.0,
      omega (arith, at),
      record { task = has.2.task; rest = own ∷ has.2.rest; within = omega (arith, within); are = ap (λ (ts : List (List Task)). own ∷ ts) has.2.are },
    )

all_behind : (first : ℕ) (own : List Task) (others : List (List Task)) (nodes : List ℕ) → AllByRecursion (HasAt (first + 1) others) nodes → AllByRecursion (HasAt first (own ∷ others)) nodes
all_behind first own others [] all = tt
all_behind first own others (node ∷ nodes) all = (has_behind first own others node all.0, all_behind first own others nodes all.1)

-- the nodes that have a task left have one
each_has : (first : ℕ) (tasks : List (List Task)) → AllByRecursion (HasAt first tasks) (nodes_with_tasks first tasks)
each_has first [] = tt
each_has first ([] ∷ others) = all_behind first [] others (nodes_with_tasks (first + 1) others) (each_has (first + 1) others)
each_has first ((task ∷ own) ∷ others) = (
  (0, omega arith, record { task = task; rest = own ∷ others; within = omega arith; are = refl }),
  all_behind first (task ∷ own) others (nodes_with_tasks (first + 1) others) (each_has (first + 1) others),
)

-- where there is a task, there is such a node
some_has : (first : ℕ) (tasks : List (List Task)) → 0 < task_count tasks → 0 < length (nodes_with_tasks first tasks)
some_has first [] some = absurd (omega (arith, some))
some_has first ([] ∷ others) some = let count = count_cons [] others in some_has (first + 1) others (omega (arith, some, count))
some_has first ((task ∷ own) ∷ others) some = omega arith

at_place : (P : ℕ → Type 0) (xs : List ℕ) (i : ℕ) → AllByRecursion P xs → i < length xs → P (unwrap_or (slice_get xs i) 0)
at_place P [] i all within = absurd (omega (arith, within))
at_place P (x ∷ xs) zero all within = all.0
at_place P (x ∷ xs) (suc i) all within = at_place P xs i all.1 (omega (arith, within))

-- the node that a pick names has a task
picked_has : (tasks : List (List Task)) (pick : ℕ) → 0 < task_count tasks → HasTask tasks (picked (nodes_with_tasks 0 tasks) pick)
picked_has tasks pick some =
    let nodes : List ℕ = nodes_with_tasks 0 tasks in
    let many : 0 < length nodes = some_has 0 tasks some in
    let has = at_place (HasAt 0 tasks) nodes (pick % length nodes) (each_has 0 tasks) (omega (arith, many)) in
    let at : picked nodes pick ≡ 0 + has.0 = has.1 in
    subst (HasTask tasks) (omega (arith, at)) has.2

-- What holds of no tasks, and of tasks with one more in front of those of a node if it held before, holds of all
-- tasks in the order of picks.
module _
    (P : List (List Task) → List (ℕ × Task) → Type 0) (none : (tasks : List (List Task)) → task_count tasks ≡ 0 → P tasks [])
    (more : (number : ℕ) (task : Task) (rest : List (List Task)) (list : List (ℕ × Task)) → number < length rest → P rest list → P (put_task number task rest) ((number, task) ∷ list))
  where
    by_count : (count : ℕ) (tasks : List (List Task)) (picks : List ℕ) → task_count tasks ≡ count → P tasks (tasks_in_order tasks picks)
    by_count zero tasks picks is = subst (λ n. P tasks (first_tasks n tasks picks)) (sym is) (none tasks is)
    by_count (suc count) tasks picks is =
        let node : ℕ = picked (nodes_with_tasks 0 tasks) (next_pick picks) in
        let has = picked_has tasks (next_pick picks) (omega (arith, is)) in
        let rest : List (List Task) = has.rest in
        let all : List (List Task) = put_task node has.task rest in
        let long : task_count all ≡ suc (task_count rest) = count_put node has.task rest has.within in
        let same : task_count tasks ≡ task_count all = ap task_count has.are in
        let comes : tasks_in_order all picks ≡ (node, has.task) ∷ tasks_in_order rest (drop 1 picks) =
        order_put node has.task rest picks has.within (ap (λ (ts : List (List Task)). picked (nodes_with_tasks 0 ts) (next_pick picks)) (sym has.are)) in
        let known = by_count count rest (drop 1 picks) (omega (arith, is, long, same)) in
        subst (λ (ts : List (List Task)). P ts (tasks_in_order ts picks)) (sym has.are) (subst (P all) (sym comes) (more node has.task rest (tasks_in_order rest (drop 1 picks)) has.within known))

    pub by_order : (tasks : List (List Task)) (picks : List ℕ) → P tasks (tasks_in_order tasks picks)
    by_order tasks picks = by_count (task_count tasks) tasks picks refl

-- ---- each node's own tasks

none_of : (tasks : List (List Task)) (node : ℕ) → task_count tasks ≡ 0 → [] ≡ tasks_of tasks node
none_of [] node is = refl
none_of ((task ∷ own) ∷ others) node is = let count = count_cons (task ∷ own) others in absurd (omega (arith, is, count))
none_of ([] ∷ others) zero is = refl
none_of ([] ∷ others) (suc node) is = let count = count_cons [] others in none_of others node (omega (arith, is, count))

-- one more task of a node leaves those of others
other_put : (number : ℕ) (task : Task) (tasks : List (List Task)) (node : ℕ) → number ≢ node → tasks_of (put_task number task tasks) node ≡ tasks_of tasks node
other_put number task [] node differ = refl
other_put zero task (own ∷ others) zero differ = absurd (differ refl)
other_put zero task (own ∷ others) (suc node) differ = refl
other_put (suc number) task (own ∷ others) zero differ = refl
other_put (suc number) task (own ∷ others) (suc node) differ = other_put number task others node (λ same. differ (ap suc same))

-- the tasks of a node among those of all
abbrev pub own_of : List (ℕ × Task) → ℕ → List Task
own_of list node = map (λ one. one.1) (filter (λ one. one.0 == node) list)

own_more : (number : ℕ) (task : Task) (rest : List (List Task)) (list : List (ℕ × Task)) → number < length rest → ((node : ℕ) → own_of list node ≡ tasks_of rest node)
    → (node : ℕ) → own_of ((number, task) ∷ list) node ≡ tasks_of (put_task number task rest) node
own_more number task rest list within known node =
    let others : List (ℕ × Task) = filter (λ one. one.0 == node) list in
    let own : Bool → List Task = λ b. map (λ one. one.1) (cond b ((number, task) ∷ others) others) in
    elim (eqb_tells number node) [
      | inl same ↦ ap own same.0 ∙ ap (λ (ts : List Task). task ∷ ts) (known node)
          ∙ subst (λ n. (task ∷ tasks_of rest n) ≡ tasks_of (put_task number task rest) n) same.1 (sym (own_put number task rest within))
      | inr other ↦ ap own other.0 ∙ known node ∙ sym (other_put number task rest node other.1)
    ]

-- picks leave the tasks of each node in their order
pub order_parts : (tasks : List (List Task)) (picks : List ℕ) (node : ℕ) → map (λ one. one.1) (filter (λ one. one.0 == node) (tasks_in_order tasks picks)) ≡ tasks_of tasks node
order_parts tasks picks =
    by_order (λ (ts : List (List Task)) (list : List (ℕ × Task)). (node : ℕ) → own_of list node ≡ tasks_of ts node) (λ ts is node. none_of ts node is) own_more tasks picks

-- ---- sums

sum_mapped : {X Y : Type 0} (f : Y → ℕ) (g : X → Y) (xs : List X) → sum_by f (map g xs) ≡ sum_by (λ x. f (g x)) xs
sum_mapped f g [] = refl
sum_mapped f g (x ∷ xs) =
    let a = sum_by-cons f (g x) (map g xs) in let b = sum_by-cons (λ y. f (g y)) x xs in let more = sum_mapped f g xs in omega (arith, a, b, more)

sum_kept : {X : Type 0} (f : X → ℕ) (test : X → Bool) (xs : List X) → sum_by f (filter test xs) ≡ sum_by (λ x. cond (test x) (f x) 0) xs
sum_kept f test [] = refl
sum_kept f test (x ∷ xs) = go (test x) (sum_kept f test xs) ∙ sym (sum_by-cons (λ y. cond (test y) (f y) 0) x xs)
  where
    go : (b : Bool) → sum_by f (filter test xs) ≡ sum_by (λ y. cond (test y) (f y) 0) xs
        → sum_by f (cond b (x ∷ filter test xs) (filter test xs)) ≡ cond b (f x) 0 + sum_by (λ y. cond (test y) (f y) 0) xs
    go true more = let a = sum_by-cons f x (filter test xs) in omega (arith, a, more)
    go false more = omega (arith, more)

-- the sum over all tasks, node by node from a number on
abbrev total : (ℕ × Task → ℕ) → ℕ → List (List Task) → ℕ
total f first [] = 0
total f first (own ∷ others) = sum_by (λ task. f (first, task)) own + total f (first + 1) others

total_none : (f : ℕ × Task → ℕ) (first : ℕ) (tasks : List (List Task)) → task_count tasks ≡ 0 → 0 ≡ total f first tasks
total_none f first [] is = refl
total_none f first ((task ∷ own) ∷ others) is = let count = count_cons (task ∷ own) others in absurd (omega (arith, is, count))
total_none f first ([] ∷ others) is =
    let count = count_cons [] others in let more = total_none f (first + 1) others (omega (arith, is, count)) in omega (arith, more)

total_put : (f : ℕ × Task → ℕ) (first number : ℕ) (task : Task) (tasks : List (List Task)) → number < length tasks
    → total f first (put_task number task tasks) ≡ f (first + number, task) + total f first tasks
total_put f first number task [] within = absurd (omega (arith, within))
total_put f first zero task (own ∷ others) within =
    let a = sum_by-cons (λ (t : Task). f (first, t)) task own in
    let b : f (first + 0, task) ≡ f (first, task) = ap (λ n. f (n, task)) (omega arith) in omega (arith, a, b)
total_put f first (suc number) task (own ∷ others) within =
    let more = total_put f (first + 1) number task others (omega (arith, within)) in
    let b : f (first + 1 + number, task) ≡ f (first + suc number, task) = ap (λ n. f (n, task)) (omega arith) in omega (arith, more, b)

-- the sum over the tasks in the order of picks
order_sum : (f : ℕ × Task → ℕ) (tasks : List (List Task)) (picks : List ℕ) → sum_by f (tasks_in_order tasks picks) ≡ total f 0 tasks
order_sum f = by_order (λ (ts : List (List Task)) (list : List (ℕ × Task)). sum_by f list ≡ total f 0 ts) (total_none f 0)
    (λ number task rest list within known.
    let a = sum_by-cons f (number, task) list in
    let b = total_put f 0 number task rest within in
    let c : f (0 + number, task) ≡ f (number, task) = ap (λ n. f (n, task)) (omega arith) in omega (arith, a, b, c, known))

-- ---- rows

-- a sum over the steps of rounds does not depend on the picks
pub steps_sum : (f : Step → ℕ) (rounds : List Passed) (picks others : List ℕ) → sum_by f (steps rounds picks) ≡ sum_by f (steps rounds others)
steps_sum f [] picks others = refl
steps_sum f (passed ∷ rounds) picks others =
    let one = in_round picks in
    let other = in_round others in
    let a = sum_by-append f (round_steps passed picks) (steps rounds (picks_after passed.tasks picks)) in
    let b = sum_by-append f (round_steps passed others) (steps rounds (picks_after passed.tasks others)) in
    let more = steps_sum f rounds (picks_after passed.tasks picks) (picks_after passed.tasks others) in omega (arith, one, other, a, b, more)
  where
    own : ℕ × Task → ℕ
    own one = f (task_done passed.moment one.0 one.1)

    in_round : (ps : List ℕ) → sum_by f (round_steps passed ps) ≡ sum_by f (ended_steps passed.moment passed.ended) + total own 0 passed.tasks
    in_round ps =
        let a = sum_by-append f (ended_steps passed.moment passed.ended) (task_steps passed.moment passed.tasks ps) in
        let b = sum_mapped f (λ (one : ℕ × Task). task_done passed.moment one.0 one.1) (tasks_in_order passed.tasks ps) in
        let c = order_sum own passed.tasks ps in omega (arith, a, b, c)

-- nor does a row
pub rows_stay : (first_rows : List ℕ) (rounds : List Passed) (picks others : List ℕ) (number : ℕ)
    → row_then first_rows (steps rounds picks) number ≡ row_then first_rows (steps rounds others) number
rows_stay first_rows rounds picks others number =
    let test : Step → Bool = adds_to first_rows number in
    let row : ℕ → ℕ → MeterRow = λ runs turns. record { runs = min runs (2 ^ 64 - 1); turns = min turns (2 ^ 64 - 1) } in
    let turns : List ℕ → ℕ = λ ps. sum_by step_turns (filter test (steps rounds ps)) in
    let runs_same : count_by test (steps rounds picks) ≡ count_by test (steps rounds others) = steps_sum (λ step. cond (test step) 1 0) rounds picks others in
    let turns_same : turns picks ≡ turns others =
    sum_kept step_turns test (steps rounds picks) ∙ steps_sum (λ step. cond (test step) (step_turns step) 0) rounds picks others
    ∙ sym (sum_kept step_turns test (steps rounds others)) in
    ap (λ n. row n (turns picks)) runs_same ∙ ap (row (count_by test (steps rounds others))) turns_same
