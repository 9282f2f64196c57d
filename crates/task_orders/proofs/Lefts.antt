-- The tasks that nodes have left in a round, and those of the node whose task is done next.
use Rattle.std.proofs.Common.{◌≡◌, ℕ, zero, suc, ◌+◌, ◌<◌, ◌≤◌, List, [], ◌∷◌, length, Option, None, Some, arith, refl, ap, sym, subst, ◌∙◌}
use Rattle.std.specs.Prelude.{⊤, false, map, slice_get, slice_set}
use Rattle.std.specs.List.{AllByRecursion}
use Rattle.can_bus.specs.declared.bus.Ended.{Ended}
use Rattle.can_frame.specs.Frame.{FrameFields}
use Rattle.node_rounds.specs.declared.round.Round.{Round}
use Rattle.node_rounds.specs.Reaction.{Reacts}
use Rattle.node_rounds.specs.Round.{Doing, DoesNext, IsDone, PartOf, Task}
use Rattle.run_meaning.specs.Run.{after_all_tasks, AreParts, ask_stop}
use Rattle.run_meaning.specs.Steps.{nodes_with_tasks, task_count}
use Rattle.run_meaning.proofs.Once.{some_same}
use Rattle.run_meaning.proofs.OrderLemmas.{count_cons, put_task}
use Rattle.task_orders.specs.World.{all_begin}

-- these are all tasks that a node has left in a round at a moment, and so it stands after them
pub record IsLeft {S : Type 0} (r : Reacts S) (now : ℕ) (d : Doing S) (tasks : List Task) (after : S) : Type 0 where
  pub end : Doing S
  pub part : PartOf (DoesNext r now) (IsDone r now) d tasks end
  pub stands : after ≡ end.node

-- these are all tasks that each node has left
abbrev pub AreLeft : {S : Type 0} → Reacts S → ℕ → List (Doing S) → List (List Task) → List S → Type 0
AreLeft {S} r now [] [] [] = ⊤
AreLeft {S} r now (d ∷ ds) (tasks ∷ others) (after ∷ afters) = IsLeft r now d tasks after × AreLeft r now ds others afters
AreLeft {S} r now _ _ _ = ⊥

-- how nodes stand, without what they have left to do
abbrev pub states : {S : Type 0} → List (Doing S) → List S
states {S} ds = map (λ d. d.node) ds

-- no tasks, for as many nodes
abbrev pub no_tasks : {S : Type 0} → List (Doing S) → List (List Task)
no_tasks {S} [] = []
no_tasks {S} (d ∷ ds) = [] ∷ no_tasks ds

module _ {S : Type 0} (r : Reacts S) where
  -- ---- at the beginning of a round

  -- nodes at the beginning of a round stand as before it
  pub begun_states : (round : Round) (ended : Option Ended) (keys : List ℕ) (number : ℕ) (ss : List S) → states (all_begin r round ended keys number ss) ≡ ss
  begun_states round ended keys number [] = refl
  begun_states round ended keys number (s ∷ ss) = ap (λ (l : List S). s ∷ l) (begun_states round ended keys (number + 1) ss)

  -- what they have left are their parts of the round
  pub left_parts : (round : Round) (now : ℕ) (ended : Option Ended) (keys : List ℕ) (number : ℕ) (ss : List S) (tasks : List (List Task)) (afters : List S)
      → AreLeft r now (all_begin r round ended keys number ss) tasks afters → AreParts r round now ended keys number ss tasks afters
  left_parts round now ended keys number [] [] [] left = tt
  left_parts round now ended keys number [] [] (after ∷ afters) left = elim left [ ]
  left_parts round now ended keys number [] (own ∷ tasks) afters left = elim left [ ]
  left_parts round now ended keys number (s ∷ ss) [] afters left = elim left [ ]
  left_parts round now ended keys number (s ∷ ss) (own ∷ tasks) [] left = elim left [ ]
  left_parts round now ended keys number (s ∷ ss) (own ∷ tasks) (after ∷ afters) left =
      (record { end = left.0.end; part = left.0.part; stands = left.0.stands }, left_parts round now ended keys (number + 1) ss tasks afters left.1)

  -- and the other way
  pub parts_left : (round : Round) (now : ℕ) (ended : Option Ended) (keys : List ℕ) (number : ℕ) (ss : List S) (tasks : List (List Task)) (afters : List S)
      → AreParts r round now ended keys number ss tasks afters → AreLeft r now (all_begin r round ended keys number ss) tasks afters
  parts_left round now ended keys number [] [] [] parts = tt
  parts_left round now ended keys number [] [] (after ∷ afters) parts = elim parts [ ]
  parts_left round now ended keys number [] (own ∷ tasks) afters parts = elim parts [ ]
  parts_left round now ended keys number (s ∷ ss) [] afters parts = elim parts [ ]
  parts_left round now ended keys number (s ∷ ss) (own ∷ tasks) [] parts = elim parts [ ]
  parts_left round now ended keys number (s ∷ ss) (own ∷ tasks) (after ∷ afters) parts =
      (record { end = parts.0.end; part = parts.0.part; stands = parts.0.stands }, parts_left round now ended keys (number + 1) ss tasks afters parts.1)

  -- ---- one task more in front

  -- what is left once a node has done a task is, with this task, what was left before
  pub left_put : (now : ℕ) (task : Task) (number : ℕ) (ds : List (Doing S)) (d after : Doing S) → slice_get ds number ≡ Some d → DoesNext r now d task after
      → (tasks : List (List Task)) (afters : List S) → AreLeft r now (slice_set ds number after) tasks afters → AreLeft r now ds (put_task number task tasks) afters × (number < length tasks)
  left_put now task number [] d after at next tasks afters left = absurd (let f : None ≡ Some d = at in cc)
  left_put now task zero (one ∷ ds) d after at next [] afters left = elim left [ ]
  left_put now task zero (one ∷ ds) d after at next (own ∷ tasks) [] left = elim left [ ]
  left_put now task zero (one ∷ ds) d after at next (own ∷ tasks) (end ∷ afters) left = (
    (
      record {
        end = left.0.end;
        part = (after, subst (λ (x : Doing S). DoesNext r now x task after) (sym (some_same at)) next, left.0.part);
        stands = left.0.stands;
      },
      left.1,
    ),
    omega arith,
  )
  left_put now task (suc number) (one ∷ ds) d after at next [] afters left = elim left [ ]
  left_put now task (suc number) (one ∷ ds) d after at next (own ∷ tasks) [] left = elim left [ ]
  left_put now task (suc number) (one ∷ ds) d after at next (own ∷ tasks) (end ∷ afters) left =
      let more = left_put now task number ds d after at next tasks afters left.1 in
      let within = more.1 in ((left.0, more.0), omega (arith, within))

  -- a node that has this task in front does it next, and the others are left behind it
  pub record InFront (now : ℕ) (task : Task) (number : ℕ) (ds : List (Doing S)) (tasks : List (List Task)) (afters : List S) : Type 0 where
    pub node : Doing S
    pub after : Doing S
    pub at : slice_get ds number ≡ Some node
    pub next : DoesNext r now node task after
    pub left : AreLeft r now (slice_set ds number after) tasks afters

  pub put_left : (now : ℕ) (task : Task) (number : ℕ) (ds : List (Doing S)) (tasks : List (List Task)) (afters : List S) → number < length tasks → AreLeft r now ds (put_task number task tasks) afters
      → InFront now task number ds tasks afters
  put_left now task number ds [] afters within left = absurd (omega (arith, within))
  put_left now task zero [] (own ∷ tasks) afters within left = elim left [ ]
  put_left now task zero (d ∷ ds) (own ∷ tasks) [] within left = elim left [ ]
  put_left now task zero (d ∷ ds) (own ∷ tasks) (end ∷ afters) within left = record {
    node = d;
    after = left.0.part.0;
    at = refl;
    next = left.0.part.1;
    left = (record { end = left.0.end; part = left.0.part.2; stands = left.0.stands }, left.1);
  }
  put_left now task (suc number) [] (own ∷ tasks) afters within left = elim left [ ]
  put_left now task (suc number) (d ∷ ds) (own ∷ tasks) [] within left = elim left [ ]
  put_left now task (suc number) (d ∷ ds) (own ∷ tasks) (end ∷ afters) within left =
      let more = put_left now task number ds tasks afters (omega (arith, within)) left.1 in
      record { node = more.node; after = more.after; at = more.at; next = more.next; left = (left.0, more.left) }

  -- ---- nothing is left

  -- nodes that have no further task have none left
  pub none_left : (now : ℕ) (ds : List (Doing S)) → AllByRecursion (IsDone r now) ds → AreLeft r now ds (no_tasks ds) (states ds)
  none_left now [] done = tt
  none_left now (d ∷ ds) done = (record { end = d; part = (done.0, refl); stands = refl }, none_left now ds done.1)

  -- nodes without tasks are done, and stand so
  pub left_none : (now : ℕ) (ds : List (Doing S)) (tasks : List (List Task)) (afters : List S) → task_count tasks ≡ 0 → AreLeft r now ds tasks afters
      → AllByRecursion (IsDone r now) ds × (afters ≡ states ds)
  left_none now [] [] [] is left = (tt, refl)
  left_none now [] [] (after ∷ afters) is left = elim left [ ]
  left_none now [] (own ∷ tasks) afters is left = elim left [ ]
  left_none now (d ∷ ds) [] afters is left = elim left [ ]
  left_none now (d ∷ ds) (own ∷ tasks) [] is left = elim left [ ]
  left_none now (d ∷ ds) ((task ∷ own) ∷ tasks) (after ∷ afters) is left = let count = count_cons (task ∷ own) tasks in absurd (omega (arith, is, count))
  left_none now (d ∷ ds) ([] ∷ tasks) (after ∷ afters) is left =
      let count = count_cons [] tasks in
      let more = left_none now ds tasks afters (omega (arith, is, count)) left.1 in
      let here : after ≡ d.node = left.0.stands ∙ ap (λ (x : Doing S). x.node) left.0.part.1 in
      ((left.0.part.0, more.0), ap (λ (x : S). x ∷ afters) here ∙ ap (λ (l : List S). d.node ∷ l) more.1)

-- there are as many tasks as none
pub none_count : {S : Type 0} (ds : List (Doing S)) → task_count (no_tasks ds) ≡ 0
none_count [] = refl
none_count (d ∷ ds) = let here = count_cons [] (no_tasks ds) in let more = none_count ds in omega (arith, here, more)

-- without tasks nothing comes to the bus
pub none_bus : {B : Type 0} (after_request : B → ℕ → FrameFields → B) (number : ℕ) (tasks : List (List Task)) (b : B) → task_count tasks ≡ 0 → after_all_tasks after_request b number tasks ≡ b
none_bus after_request number [] b is = refl
none_bus after_request number ((task ∷ own) ∷ tasks) b is = let count = count_cons (task ∷ own) tasks in absurd (omega (arith, is, count))
none_bus after_request number ([] ∷ tasks) b is = let count = count_cons [] tasks in none_bus after_request (number + 1) tasks b (omega (arith, is, count))

-- and no node asks to stop
pub none_stop : (tasks : List (List Task)) → task_count tasks ≡ 0 → ask_stop tasks ≡ false
none_stop [] is = refl
none_stop ((task ∷ own) ∷ tasks) is = let count = count_cons (task ∷ own) tasks in absurd (omega (arith, is, count))
none_stop ([] ∷ tasks) is = let count = count_cons [] tasks in none_stop tasks (omega (arith, is, count))

-- ---- places

-- the place of a node that has a task, among those that have one
pub record PlaceOf (first number : ℕ) (tasks : List (List Task)) : Type 0 where
  pub place : ℕ
  pub at : slice_get (nodes_with_tasks first tasks) place ≡ Some (first + number)
  pub at_most : place ≤ number

place_behind : (first number : ℕ) (own : List Task) (tasks : List (List Task)) → PlaceOf (first + 1) number tasks → PlaceOf first (suc number) (own ∷ tasks)
place_behind first number [] tasks more = record {
  place = more.place;
  at = more.at ∙ ap (λ n. Some n) (let e : first + 1 + number ≡ first + suc number = omega arith in e);
  at_most = let most = more.at_most in omega (arith, most);
}
place_behind first number (task ∷ own) tasks more = record {
  place = suc more.place;
  at = more.at ∙ ap (λ n. Some n) (let e : first + 1 + number ≡ first + suc number = omega arith in e);
  at_most = let most = more.at_most in omega (arith, most);
}

-- a node with one more task in front has one
pub place_put : (first number : ℕ) (task : Task) (tasks : List (List Task)) → number < length tasks → PlaceOf first number (put_task number task tasks)
place_put first number task [] within = absurd (omega (arith, within))
place_put first zero task (own ∷ tasks) within = record { place = 0; at = ap (λ n. Some n) (let e : first ≡ first + 0 = omega arith in e); at_most = omega arith }
place_put first (suc number) task (own ∷ tasks) within = place_behind first number own (put_task number task tasks) (place_put (first + 1) number task tasks (omega (arith, within)))
