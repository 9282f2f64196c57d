-- Where a reaction does one thing by a trigger, a node has its tasks in one way, and so have all nodes of a round.
use Rattle.std.proofs.Common.{◌≡◌, ℕ, ◌+◌, List, [], ◌∷◌, Option, None, Some, refl, ap, sym, subst, ◌∙◌}
use Rattle.can_bus.specs.declared.bus.Ended.{Ended}
use Rattle.can_bus.specs.Meaning.{BusMeaning}
use Rattle.node_rounds.specs.declared.occurrence.Trigger.{Trigger}
use Rattle.node_rounds.specs.declared.round.Round.{Round}
use Rattle.node_rounds.specs.declared.round.Seen.{Seen}
use Rattle.node_rounds.specs.Reaction.{Done, Reacts}
use Rattle.node_rounds.specs.Round.{Doing, DoesNext, IsDone, IsPart, PartOf, Rest, Task, at_begin, task_of}
use Rattle.run_meaning.specs.Run.{AreParts, IsRound, RunState, after_round, seen_by}

-- a reaction does one thing by a trigger
abbrev pub IsOnce : {S : Type 0} → Reacts S → Type 0
IsOnce {S} r = (s : S) (trigger : Trigger) (now : ℕ) (done other : Done S) → r.does s trigger now done → r.does s trigger now other → done ≡ other

-- what is there is one
pub some_same : {X : Type 0} {a b : X} → Some a ≡ Some b → a ≡ b
some_same h = cc

-- ---- tasks

same_doing : {S : Type 0} (d e : Doing S) → d.node ≡ e.node → d.rest ≡ e.rest → d ≡ e
same_doing {S} d e node rest = ap (λ (x : S). record d { node = x }) node ∙ ap (λ (x : Rest). record e { rest = x }) rest

-- a node has one next task
pub next_once : {S : Type 0} (r : Reacts S) → IsOnce r → (now : ℕ) (d : Doing S) (task other : Task) (after end : Doing S) → DoesNext r now d task after → DoesNext r now d other end
    → (task ≡ other) × (after ≡ end)
next_once {S} r once now d task other after end a b =
    let next : (a.trigger, after.rest) ≡ (b.trigger, end.rest) = some_same (sym a.is_next ∙ b.is_next) in
    let trigger : a.trigger ≡ b.trigger = ap (λ (p : Trigger × Rest). p.0) next in
    let rest : after.rest ≡ end.rest = ap (λ (p : Trigger × Rest). p.1) next in
    let done : a.done ≡ b.done = once d.node b.trigger now a.done b.done (subst (λ (t : Trigger). r.does d.node t now a.done) trigger a.does) b.does in (
      a.is_task ∙ ap (λ (t : Trigger). task_of t a.done) trigger ∙ ap (task_of b.trigger) done ∙ sym b.is_task,
      same_doing after end (a.stands ∙ ap (λ (x : Done S). x.after) done ∙ sym b.stands) rest,
    )

-- a node that is done has no next task
pub none_next : {S : Type 0} (r : Reacts S) (now : ℕ) (d : Doing S) (task : Task) (after : Doing S) → IsDone r now d → DoesNext r now d task after → ⊥
none_next r now d task after done next = let none : Option (Trigger × Rest) = None in let e : none ≡ Some (next.trigger, after.rest) = sym done ∙ next.is_next in cc

part_once : {S : Type 0} (r : Reacts S) → IsOnce r → (now : ℕ) (d : Doing S) (tasks others : List Task) (after end : Doing S)
    → PartOf (DoesNext r now) (IsDone r now) d tasks after → PartOf (DoesNext r now) (IsDone r now) d others end → (tasks ≡ others) × (after ≡ end)
part_once r once now d [] [] after end a b = (refl, a.1 ∙ sym b.1)
part_once r once now d [] (other ∷ others) after end a b = absurd (none_next r now d other b.0 a.0 b.1)
part_once r once now d (task ∷ tasks) [] after end a b = absurd (none_next r now d task a.0 b.0 a.1)
part_once r once now d (task ∷ tasks) (other ∷ others) after end a b =
    let one = next_once r once now d task other a.0 b.0 a.1 b.1 in
    let more = part_once r once now b.0 tasks others after end (subst (λ x. PartOf (DoesNext r now) (IsDone r now) x tasks after) one.1 a.2) b.2 in
    (ap (λ (t : Task). t ∷ tasks) one.0 ∙ ap (λ (ts : List Task). other ∷ ts) more.0, more.1)

-- a part of a round goes in one way
pub is_part_once : {S : Type 0} (r : Reacts S) → IsOnce r → (round : Round) (now : ℕ) (seen : Option Seen) (keys : List ℕ) (s : S) (tasks others : List Task) (after end : S)
    → IsPart r round now seen keys s tasks after → IsPart r round now seen keys s others end → (tasks ≡ others) × (after ≡ end)
is_part_once {S} r once round now seen keys s tasks others after end a b =
    let one = part_once r once now (at_begin r round seen keys s) tasks others a.end b.end a.part b.part in
    (one.0, a.stands ∙ ap (λ (d : Doing S). d.node) one.1 ∙ sym b.stands)

-- ---- rounds

-- the parts of nodes, of which there is one more
record FirstPart {S : Type 0} (r : Reacts S) (round : Round) (now : ℕ) (ended : Option Ended) (keys : List ℕ) (number : ℕ) (s : S) (ss : List S) (tasks : List (List Task)) (afters : List S) :
    Type 0 where
  own : List Task
  others : List (List Task)
  after : S
  more : List S
  are : tasks ≡ own ∷ others
  stand : afters ≡ after ∷ more
  part : IsPart r round now (seen_by number ended) keys s own after
  rest : AreParts r round now ended keys (number + 1) ss others more

-- the first of the parts, and the others
first_part : {S : Type 0} (r : Reacts S) (round : Round) (now : ℕ) (ended : Option Ended) (keys : List ℕ) (number : ℕ) (s : S) (ss : List S) (tasks : List (List Task)) (afters : List S)
    → AreParts r round now ended keys number (s ∷ ss) tasks afters → FirstPart r round now ended keys number s ss tasks afters
first_part r round now ended keys number s ss [] afters parts = elim parts [ ]
first_part r round now ended keys number s ss (own ∷ others) [] parts = elim parts [ ]
first_part r round now ended keys number s ss (own ∷ others) (after ∷ more) parts =
    record { own = own; others = others; after = after; more = more; are = refl; stand = refl; part = parts.0; rest = parts.1 }

-- no node has no part
no_part : {S : Type 0} (r : Reacts S) (round : Round) (now : ℕ) (ended : Option Ended) (keys : List ℕ) (number : ℕ) (tasks : List (List Task)) (afters : List S)
    → AreParts r round now ended keys number [] tasks afters → (tasks ≡ []) × (afters ≡ [])
no_part r round now ended keys number [] [] parts = (refl, refl)
no_part r round now ended keys number [] (a ∷ afters) parts = elim parts [ ]
no_part r round now ended keys number (own ∷ tasks) afters parts = elim parts [ ]

-- the parts of nodes in a round go in one way
pub parts_once : {S : Type 0} (r : Reacts S) → IsOnce r → (round : Round) (now : ℕ) (ended : Option Ended) (keys : List ℕ) (number : ℕ) (ss : List S) (tasks others : List (List Task)) (afters ends : List S)
    → AreParts r round now ended keys number ss tasks afters → AreParts r round now ended keys number ss others ends → (tasks ≡ others) × (afters ≡ ends)
parts_once r once round now ended keys number [] tasks others afters ends a b =
    let x = no_part r round now ended keys number tasks afters a in let y = no_part r round now ended keys number others ends b in
    (x.0 ∙ sym y.0, x.1 ∙ sym y.1)
parts_once {S} r once round now ended keys number (s ∷ ss) tasks others afters ends a b =
    let x = first_part r round now ended keys number s ss tasks afters a in let y = first_part r round now ended keys number s ss others ends b in
    let one = is_part_once r once round now (seen_by number ended) keys s x.own y.own x.after y.after x.part y.part in
    let more = parts_once r once round now ended keys (number + 1) ss x.others y.others x.more y.more x.rest y.rest in (
      x.are ∙ ap (λ (o : List Task). o ∷ x.others) one.0 ∙ ap (λ (ts : List (List Task)). y.own ∷ ts) more.0 ∙ sym y.are,
      x.stand ∙ ap (λ (o : S). o ∷ x.more) one.1 ∙ ap (λ (ts : List S). y.after ∷ ts) more.1 ∙ sym y.stand,
    )

-- a round of all nodes goes in one way
pub round_once : {S B : Type 0} (r : Reacts S) → IsOnce r → (bus : BusMeaning B) (round : Round) (ended : Option Ended) (keys : List ℕ) (before : RunState S B)
    (tasks others : List (List Task)) (after end : RunState S B) → IsRound r bus round ended keys before tasks after → IsRound r bus round ended keys before others end
    → (tasks ≡ others) × (after ≡ end)
round_once {S} r once bus round ended keys before tasks others after end x y =
    let parts = parts_once r once round before.moment ended keys 0 before.nodes tasks others x.nodes y.nodes x.parts y.parts in (
      parts.0,
      x.stands ∙ ap (λ (ts : List (List Task)). after_round bus before ts x.nodes) parts.0
          ∙ ap (λ (ns : List S). after_round bus before others ns) parts.1 ∙ sym y.stands,
    )
