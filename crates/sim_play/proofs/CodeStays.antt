-- A run leaves each node its code.
use Rattle.std.proofs.Common.{◌≡◌, ℕ, ◌+◌, List, [], ◌∷◌, Option, None, Some, MatchOption, map, refl, ap, ap₂, ◌∙◌}
use Rattle.can_bus.specs.declared.bus.Ended.{Ended}
use Rattle.can_bus.specs.Meaning.{BusMeaning}
use Rattle.bytecode.specs.declared.code.Code.{Code}
use Rattle.node_rounds.specs.declared.occurrence.Occurrence.{Occurrence}
use Rattle.node_rounds.specs.declared.round.Round.{Round}
use Rattle.node_rounds.specs.Reaction.{Done, DoesProcedure, NodeState, without_procedure}
use Rattle.node_rounds.specs.Round.{Doing, DoesNext, PartOf, Task, at_begin}
use Rattle.node_run.specs.Code.{CodeMemory, by_code, code_reaction}
use Rattle.run_meaning.specs.Run.{AreInstants, AreParts, AreRounds, HasBegun, IsInstant, IsRound, IsRun, IsSecond, Passed, RunState, finished, seen_by}

-- the code of each node
abbrev pub codes_of : List (NodeState CodeMemory) → List Code
codes_of nodes = map (λ s. s.memory.code) nodes

-- ---- one node

by_procedure : (s : NodeState CodeMemory) (occurrence : Occurrence) (now : ℕ) (done : Done (NodeState CodeMemory)) (procedure : Option ℕ)
    → MatchOption procedure (done ≡ without_procedure s occurrence now) (λ p. DoesProcedure by_code s p occurrence now done) → done.after.memory.code ≡ s.memory.code
by_procedure s occurrence now done None does = ap (λ (d : Done (NodeState CodeMemory)). d.after.memory.code) does
by_procedure s occurrence now done (Some p) does =
    ap (λ (d : Done (NodeState CodeMemory)). d.after.memory.code) does.is ∙ ap (λ (m : CodeMemory). m.code) does.ends.memory_after

-- a task leaves the code
by_task : (now : ℕ) (d : Doing (NodeState CodeMemory)) (task : Task) (after : Doing (NodeState CodeMemory)) → DoesNext code_reaction now d task after → after.node.memory.code ≡ d.node.memory.code
by_task now d task after next =
    ap (λ (s : NodeState CodeMemory). s.memory.code) next.stands ∙ by_procedure d.node next.trigger.occurrence now next.done next.trigger.procedure next.does

-- tasks in a row leave the code
by_tasks : (now : ℕ) (is_done : Doing (NodeState CodeMemory) → Type 0) (d : Doing (NodeState CodeMemory)) (tasks : List Task) (end : Doing (NodeState CodeMemory))
    → PartOf (DoesNext code_reaction now) is_done d tasks end → end.node.memory.code ≡ d.node.memory.code
by_tasks now is_done d [] end part = ap (λ (e : Doing (NodeState CodeMemory)). e.node.memory.code) part.1
by_tasks now is_done d (task ∷ tasks) end part = by_tasks now is_done part.0 tasks end part.2 ∙ by_task now d task part.0 part.1

-- ---- all nodes

by_parts : (round : Round) (now : ℕ) (ended : Option Ended) (keys : List ℕ) (number : ℕ) (nodes : List (NodeState CodeMemory)) (tasks : List (List Task)) (afters : List (NodeState CodeMemory))
    → AreParts code_reaction round now ended keys number nodes tasks afters → codes_of afters ≡ codes_of nodes
by_parts round now ended keys number [] [] [] parts = refl
by_parts round now ended keys number [] [] (a ∷ others) parts = absurd parts
by_parts round now ended keys number [] (t ∷ ts) afters parts = absurd parts
by_parts round now ended keys number (s ∷ nodes) [] afters parts = absurd parts
by_parts round now ended keys number (s ∷ nodes) (t ∷ ts) [] parts = absurd parts
by_parts round now ended keys number (s ∷ nodes) (own ∷ tasks) (after ∷ afters) parts =
    let part = parts.0 in
    let one : after.memory.code ≡ s.memory.code =
    ap (λ (x : NodeState CodeMemory). x.memory.code) part.stands ∙ by_tasks now _ (at_begin code_reaction round (seen_by number ended) keys s) own part.end part.part in
    ap₂ (λ (c : Code) (cs : List Code). c ∷ cs) one (by_parts round now ended keys (number + 1) nodes tasks afters parts.1)

-- ---- runs

module _ {B : Type 0} (bus : BusMeaning B) where
  by_round : (round : Round) (ended : Option Ended) (keys : List ℕ) (before : RunState (NodeState CodeMemory) B) (tasks : List (List Task)) (after : RunState (NodeState CodeMemory) B)
      → IsRound code_reaction bus round ended keys before tasks after → codes_of after.nodes ≡ codes_of before.nodes
  by_round round ended keys before tasks after one =
      ap (λ (s : RunState (NodeState CodeMemory) B). codes_of s.nodes) one.stands ∙ by_parts round before.moment ended keys 0 before.nodes tasks one.nodes one.parts

  by_second : (ended : Option Ended) (before : RunState (NodeState CodeMemory) B) (rounds : List Passed) (after : RunState (NodeState CodeMemory) B)
      → IsSecond code_reaction bus ended before rounds after → codes_of after.nodes ≡ codes_of before.nodes
  by_second None before rounds after second = ap (λ (s : RunState (NodeState CodeMemory) B). codes_of s.nodes) second.1
  by_second (Some ended) before rounds after second = by_round _ (Some ended) [] before second.0 after second.1

  by_rounds : (now : ℕ) (before : RunState (NodeState CodeMemory) B) (rounds : List Passed) (after : RunState (NodeState CodeMemory) B) → AreRounds code_reaction bus now before rounds after
      → codes_of after.nodes ≡ codes_of before.nodes
  by_rounds now before rounds after are =
      by_second (bus.ended are.between.bus now) (finished bus now are.between) are.more after are.second ∙ by_round _ _ _ (finished bus now before) are.tasks are.between are.first

  by_instant : (until : ℕ) (before : RunState (NodeState CodeMemory) B) (rounds : List Passed) (after : RunState (NodeState CodeMemory) B) → IsInstant code_reaction bus until before rounds after
      → codes_of after.nodes ≡ codes_of before.nodes
  by_instant until before rounds after one =
      ap (λ (s : RunState (NodeState CodeMemory) B). codes_of s.nodes) one.stands ∙ by_rounds one.moment before rounds one.end one.are_rounds

  by_instants : (until : ℕ) (before : RunState (NodeState CodeMemory) B) (instants : List (List Passed)) (after : RunState (NodeState CodeMemory) B)
      → AreInstants code_reaction bus until before instants after → codes_of after.nodes ≡ codes_of before.nodes
  by_instants until before [] after same = ap (λ (s : RunState (NodeState CodeMemory) B). codes_of s.nodes) same
  by_instants until before (rounds ∷ instants) after are = by_instants until are.0 instants after are.2 ∙ by_instant until before rounds are.0 are.1

  by_begin : (before : RunState (NodeState CodeMemory) B) (rounds : List Passed) (after : RunState (NodeState CodeMemory) B) → HasBegun code_reaction bus before rounds after
      → codes_of after.nodes ≡ codes_of before.nodes
  by_begin before rounds after begun =
      ap (λ (s : RunState (NodeState CodeMemory) B). codes_of s.nodes) begun.stands ∙ by_round _ _ _ begun.between begun.start begun.end begun.starts
      ∙ by_round _ _ _ before begun.before_start begun.between begun.pre_starts

  -- a run leaves each node its code
  pub codes_stay : (until : ℕ) (before : RunState (NodeState CodeMemory) B) (rounds : List Passed) (after : RunState (NodeState CodeMemory) B) → IsRun code_reaction bus until before rounds after
      → codes_of after.nodes ≡ codes_of before.nodes
  codes_stay until before rounds after run =
      let end = run.ending in
      ap (λ (s : RunState (NodeState CodeMemory) B). codes_of s.nodes) end.stands ∙ by_parts _ end.moment None [] 0 run.last.nodes end.tasks end.nodes end.parts
      ∙ by_instants until run.begun run.instants run.last run.goes ∙ by_begin before run.first run.begun run.begins
