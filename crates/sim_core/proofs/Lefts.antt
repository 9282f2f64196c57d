-- The tasks that nodes have left in a round, and those of the node whose task is done next.
use Rattle.std.proofs.Common.{◌≡◌, ℕ, zero, suc, ◌+◌, ◌<◌, Bool, true, false, List, [], ◌∷◌, ◌++◌, length, Option, Some, None, arith, refl, ap, sym, subst, ◌∙◌}
use Rattle.std.specs.Prelude.{⊤, if◌then◌else◌, is_some, IsSome, slice_get, slice_set, ◌%◌}
use Rattle.std.specs.Option.{unwrap_or}
use Rattle.node_rounds.specs.Reaction.{NodeState}
use Rattle.node_rounds.specs.declared.occurrence.Trigger.{Trigger}
use Rattle.node_rounds.specs.Round.{Doing, DoesNext, Rest, Task, next_of}
use Rattle.node_run.specs.Code.{CodeMemory, code_reaction}
use Rattle.node_run.specs.Node.{NodeInRound}
use Rattle.run_meaning.specs.Steps.{nodes_with_tasks, picked}
use Rattle.run_meaning.proofs.Once.{some_same}
use Rattle.run_meaning.proofs.OrderLemmas.{put_task}
use Rattle.sim_core.specs.Core.{states_of}
use Rattle.sim_core.specs.Inside.Tasks.{AreLeft, IsLeft, doings_of, has_next, open_nodes}

-- ---- which nodes have a task

none_is : {X : Type 0} (o : Option X) → o ≡ None → is_some o ≡ false
none_is o is = ap is_some is

-- a node with tasks left is open, and one without is not
pub open_if : (now : ℕ) (node : NodeInRound) (tasks : List Task) (after : NodeState CodeMemory) → node.moment ≡ now → IsLeft now node.doing tasks after
    → (rest : List ℕ) (number : ℕ) → (if has_next node then number ∷ rest else rest) ≡ nodes_with_tasks number (tasks ∷ []) ++ rest
open_if now node [] after at left rest number =
    ap (λ b. if b then number ∷ rest else rest) (none_is (next_of code_reaction node.moment node.doing) (subst (λ m. next_of code_reaction m node.doing ≡ None) (sym at) left.part.0))
open_if now node (task ∷ tasks) after at left rest number =
    let next = left.part.1 in
    let found : Option (Trigger × Rest) = Some (next.trigger, left.part.0.rest) in
    ap (λ b. if b then number ∷ rest else rest) (ap is_some (subst (λ m. next_of code_reaction m node.doing ≡ found) (sym at) next.is_next))

nodes_cons : (number : ℕ) (own : List Task) (others : List (List Task)) → nodes_with_tasks number (own ∷ others) ≡ nodes_with_tasks number (own ∷ []) ++ nodes_with_tasks (number + 1) others
nodes_cons number [] others = refl
nodes_cons number (task ∷ own) others = refl

-- all nodes stand at a moment
abbrev pub AreAt : ℕ → List NodeInRound → Type 0
AreAt now [] = ⊤
AreAt now (node ∷ nodes) = (node.moment ≡ now) × AreAt now nodes

-- the nodes with tasks left are the open ones
pub open_left : (now number : ℕ) (nodes : List NodeInRound) (tasks : List (List Task)) (afters : List (NodeState CodeMemory)) → AreAt now nodes → AreLeft now (doings_of nodes) tasks afters
    → nodes_with_tasks number tasks ≡ open_nodes number nodes
open_left now number [] [] [] at left = refl
open_left now number [] (own ∷ tasks) afters at left = elim left [ ]
open_left now number [] [] (after ∷ afters) at left = elim left [ ]
open_left now number (node ∷ nodes) [] afters at left = elim left [ ]
open_left now number (node ∷ nodes) (own ∷ tasks) [] at left = elim left [ ]
open_left now number (node ∷ nodes) (own ∷ tasks) (after ∷ afters) at left =
    nodes_cons number own tasks
    ∙ ap (λ (l : List ℕ). nodes_with_tasks number (own ∷ []) ++ l) (open_left now (number + 1) nodes tasks afters at.1 left.1)
    ∙ sym (open_if now node own after at.0 left.0 (open_nodes (number + 1) nodes) number)

-- a node that is open stands at its place among all
pub record OpenAt (first number : ℕ) (nodes : List NodeInRound) : Type 0 where
  pub place : ℕ
  pub is : number ≡ first + place
  pub node : NodeInRound
  pub at : slice_get nodes place ≡ Some node
  pub next : IsSome (next_of code_reaction node.moment node.doing)

open_by : {X : Type 0} (o : Option X) → is_some o ≡ true → IsSome o
open_by o is = is

later : (first number : ℕ) (node : NodeInRound) (nodes : List NodeInRound) → OpenAt (first + 1) number nodes → OpenAt first number (node ∷ nodes)
later first number node nodes more = record { place = suc more.place; is = let e = more.is in omega (arith, e); node = more.node; at = more.at; next = more.next }

open_here : (first number : ℕ) (node : NodeInRound) (nodes : List NodeInRound) (b : Bool) → has_next node ≡ b → (place : ℕ)
    → ((place : ℕ) → slice_get (open_nodes (first + 1) nodes) place ≡ Some number → OpenAt (first + 1) number nodes)
    → slice_get (if b then first ∷ open_nodes (first + 1) nodes else open_nodes (first + 1) nodes) place ≡ Some number → OpenAt first number (node ∷ nodes)
open_here first number node nodes true is_open zero more is = record {
  place = 0;
  is = let same : first ≡ number = some_same is in omega (arith, same);
  node = node;
  at = refl;
  next = open_by (next_of code_reaction node.moment node.doing) is_open;
}
open_here first number node nodes true is_open (suc place) more is = later first number node nodes (more place is)
open_here first number node nodes false closed place more is = later first number node nodes (more place is)

-- the node of each place among the open ones
pub open_at : (first place number : ℕ) (nodes : List NodeInRound) → slice_get (open_nodes first nodes) place ≡ Some number → OpenAt first number nodes
open_at first place number [] is = absurd (let f : None ≡ Some number = is in cc)
open_at first place number (node ∷ nodes) is =
    open_here first number node nodes (has_next node) refl place (λ place is. open_at (first + 1) place number nodes is) is

-- ---- one task more in front

module _ (now : ℕ) (task : Task) where
  -- what is left once a node has done a task is, with this task, what was left before
  pub left_put : (number : ℕ) (nodes : List NodeInRound) (node after : NodeInRound) → slice_get nodes number ≡ Some node → DoesNext code_reaction now node.doing task after.doing
      → (tasks : List (List Task)) (afters : List (NodeState CodeMemory)) → AreLeft now (doings_of (slice_set nodes number after)) tasks afters
      → AreLeft now (doings_of nodes) (put_task number task tasks) afters × (number < length tasks)
  left_put number [] node after at next tasks afters left = absurd (let f : None ≡ Some node = at in cc)
  left_put zero (one ∷ nodes) node after at next [] afters left = elim left [ ]
  left_put zero (one ∷ nodes) node after at next (own ∷ tasks) [] left = elim left [ ]
  left_put zero (one ∷ nodes) node after at next (own ∷ tasks) (end ∷ afters) left =
      let same : one ≡ node = some_same at in (
        (
          record {
            end = left.0.end;
            part = (after.doing, subst (λ (n : NodeInRound). DoesNext code_reaction now n.doing task after.doing) (sym same) next, left.0.part);
            stands = left.0.stands;
          },
          left.1,
        ),
        omega arith,
      )
  left_put (suc number) (one ∷ nodes) node after at next [] afters left = elim left [ ]
  left_put (suc number) (one ∷ nodes) node after at next (own ∷ tasks) [] left = elim left [ ]
  left_put (suc number) (one ∷ nodes) node after at next (own ∷ tasks) (end ∷ afters) left =
      let more = left_put number nodes node after at next tasks afters left.1 in
      let within = more.1 in ((left.0, more.0), omega (arith, within))

-- the first task that an open node has left, and what is left behind it
pub record InFront (now number : ℕ) (node : NodeInRound) (tasks : List (List Task)) : Type 0 where
  pub task : Task
  pub after : Doing (NodeState CodeMemory)
  pub next : DoesNext code_reaction now node.doing task after
  pub rest : List (List Task)
  pub are : tasks ≡ put_task number task rest
  pub within : number < length rest

none_some : {X : Type 0} (o : Option X) → o ≡ None → IsSome o → ⊥
none_some o is some = absurd (let f : false ≡ true = sym (ap is_some is) ∙ some in cc)

own_front : (now : ℕ) (node : NodeInRound) (own : List Task) (after : NodeState CodeMemory) (others : List (List Task)) → IsSome (next_of code_reaction now node.doing) → IsLeft now node.doing own after
    → InFront now 0 node (own ∷ others)
own_front now node [] after others some left = absurd (none_some (next_of code_reaction now node.doing) left.part.0 some)
own_front now node (task ∷ own) after others some left =
    record { task = task; after = left.part.0; next = left.part.1; rest = own ∷ others; are = refl; within = omega arith }

-- an open node has such a task
pub in_front : (now number : ℕ) (nodes : List NodeInRound) (node : NodeInRound) → slice_get nodes number ≡ Some node → IsSome (next_of code_reaction now node.doing)
    → (tasks : List (List Task)) (afters : List (NodeState CodeMemory)) → AreLeft now (doings_of nodes) tasks afters → InFront now number node tasks
in_front now number [] node at some tasks afters left = absurd (let f : None ≡ Some node = at in cc)
in_front now number (one ∷ nodes) node at some [] afters left = elim left [ ]
in_front now number (one ∷ nodes) node at some (own ∷ tasks) [] left = elim left [ ]
in_front now zero (one ∷ nodes) node at some (own ∷ tasks) (after ∷ afters) left =
    own_front now node own after tasks some (subst (λ (n : NodeInRound). IsLeft now n.doing own after) (some_same at) left.0)
in_front now (suc number) (one ∷ nodes) node at some (own ∷ tasks) (after ∷ afters) left =
    let more = in_front now number nodes node at some tasks afters left.1 in
    let within = more.within in
    record { task = more.task; after = more.after; next = more.next; rest = own ∷ more.rest; are = ap (λ (ts : List (List Task)). own ∷ ts) more.are; within = omega (arith, within) }

-- ---- nothing is left

-- where no node is open, the first is not, and none of the others
pub closed_by : (b : Bool) (first : ℕ) (rest : List ℕ) → (if b then first ∷ rest else rest) ≡ [] → (b ≡ false) × (rest ≡ [])
closed_by true first rest is = absurd (let f : first ∷ rest ≡ [] = is in cc)
closed_by false first rest is = (refl, is)

-- what is not there is none
pub is_none : {X : Type 0} (o : Option X) → is_some o ≡ false → o ≡ None
is_none None is = refl
is_none (Some x) is = absurd (let f : true ≡ false = is in cc)

-- no tasks, for as many nodes
abbrev pub no_tasks : List NodeInRound → List (List Task)
no_tasks [] = []
no_tasks (node ∷ nodes) = [] ∷ no_tasks nodes

-- where no node is open, none has a task left
pub none_left : (now number : ℕ) (nodes : List NodeInRound) → AreAt now nodes → open_nodes number nodes ≡ [] → AreLeft now (doings_of nodes) (no_tasks nodes) (states_of nodes)
none_left now number [] at is = tt
none_left now number (node ∷ nodes) at is =
    let both = closed_by (has_next node) number (open_nodes (number + 1) nodes) is in (
      record {
        end = node.doing;
        part = (subst (λ m. next_of code_reaction m node.doing ≡ None) at.0 (is_none (next_of code_reaction node.moment node.doing) both.0), refl);
        stands = refl;
      },
      none_left now (number + 1) nodes at.1 both.1,
    )

-- the node that a pick names
pub picked_is : (list : List ℕ) (pick number : ℕ) → slice_get list (pick % length list) ≡ Some number → picked list pick ≡ number
picked_is list pick number is = ap (λ (o : Option ℕ). unwrap_or o 0) is
