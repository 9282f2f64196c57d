-- Nodes at the beginning of a round.
use Rattle.std.proofs.Common.{◌≡◌, ℕ, zero, suc, ◌+◌, List, [], ◌∷◌, ◌++◌, drop, take, map, Option, All, IfSome, refl, ap, sym, ◌∙◌}
use Rattle.std.specs.List.{AllByRecursion}
use Rattle.bytecode.specs.declared.code.Code.{Code}
use Rattle.can_bus.specs.declared.bus.Ended.{Ended}
use Rattle.node_rounds.specs.declared.occurrence.Occurrence.TheVariants.{Key}
use Rattle.node_rounds.specs.declared.round.Round.{Round}
use Rattle.node_rounds.specs.Reaction.{NodeState}
use Rattle.node_rounds.specs.Round.{Task}
use Rattle.node_run.specs.Code.{CodeMemory, code_reaction}
use Rattle.node_run.specs.Node.{NodeInRound}
use Rattle.node_run.specs.Sound.{CanOccur, IsSound}
use Rattle.run_meaning.specs.Live.{CanBeSeen, IsReady}
use Rattle.run_meaning.specs.Run.{AreParts, seen_by}
use Rattle.run_meaning.proofs.DueTasks.{round_due, seen_can}
use Rattle.sim_core.specs.Core.{KeepsNodes, rows_of, states_of}
use Rattle.sim_core.specs.Inside.Tasks.{AreLeft, IsOwn, begun_nodes, doings_of}
use Rattle.sim_core.proofs.CodeLives.{code_lives}

-- the code of each node
abbrev codes_of : List NodeInRound → List Code
codes_of nodes = map (λ node. node.doing.node.memory.code) nodes

module _ (round : Round) (now : ℕ) (ended : Option Ended) (keys : List ℕ) where
  -- the tasks that nodes have left at the beginning of a round are their parts of it
  pub begun_parts : (number : ℕ) (nodes : List NodeInRound) (tasks : List (List Task)) (afters : List (NodeState CodeMemory))
      → AreLeft now (doings_of (begun_nodes round now ended keys number nodes)) tasks afters → AreParts code_reaction round now ended keys number (states_of nodes) tasks afters
  begun_parts number [] [] [] left = tt
  begun_parts number [] [] (after ∷ afters) left = elim left [ ]
  begun_parts number [] (own ∷ tasks) afters left = elim left [ ]
  begun_parts number (node ∷ nodes) [] afters left = elim left [ ]
  begun_parts number (node ∷ nodes) (own ∷ tasks) [] left = elim left [ ]
  begun_parts number (node ∷ nodes) (own ∷ tasks) (after ∷ afters) left =
      (record { end = left.0.end; part = left.0.part; stands = left.0.stands }, begun_parts (number + 1) nodes tasks afters left.1)

  -- they have their code and their rows still
  pub begun_keeps : (number : ℕ) (nodes : List NodeInRound) → KeepsNodes nodes (begun_nodes round now ended keys number nodes)
  begun_keeps number [] = record { rows = refl; codes = refl }
  begun_keeps number (node ∷ nodes) =
      let more = begun_keeps (number + 1) nodes in
      record { rows = ap (λ (l : List ℕ). node.first_row ∷ l) more.rows; codes = ap (λ (l : List Code). node.doing.node.memory.code ∷ l) more.codes }

  -- so do nodes of which the first have begun
  pub so_far_keeps : (first number : ℕ) (nodes : List NodeInRound) → KeepsNodes nodes (take first nodes ++ begun_nodes round now ended keys number (drop first nodes))
  so_far_keeps zero number nodes = begun_keeps number nodes
  so_far_keeps (suc first) number [] = record { rows = refl; codes = refl }
  so_far_keeps (suc first) number (node ∷ nodes) =
      let more = so_far_keeps first number nodes in
      record { rows = ap (λ (l : List ℕ). node.first_row ∷ l) more.rows; codes = ap (λ (l : List Code). node.doing.node.memory.code ∷ l) more.codes }

  -- nodes of which the first have begun, and the others begin as those before did
  pub keeps_so_far : (number : ℕ) (before nodes : List NodeInRound)
      → take number nodes ++ begun_nodes round now ended keys number (drop number nodes) ≡ begun_nodes round now ended keys 0 before → KeepsNodes before nodes
  keeps_so_far number before nodes same =
      let all = begun_keeps 0 before in
      let some = so_far_keeps number number nodes in
      record { rows = sym some.rows ∙ ap rows_of same ∙ all.rows; codes = sym some.codes ∙ ap codes_of same ∙ all.codes }

  -- what they have to do is for their own procedures, where there can be the frame and the keys
  pub begun_own : IfSome ended (λ e. CanBeSeen CanOccur e.frame) → All (λ key. CanOccur (Key key)) keys → (number : ℕ) (nodes : List NodeInRound)
      → AllByRecursion (IsReady IsSound now) (states_of nodes) → AllByRecursion (IsOwn now) (begun_nodes round now ended keys number nodes)
  begun_own seen can number [] ready = tt
  begun_own seen can number (node ∷ nodes) ready = (
    record {
      at = refl;
      ready = ready.0;
      due = round_due CanOccur (code_reaction.procedures node.doing.node) code_lives.plain round (seen_by number ended) keys (seen_can CanOccur number ended seen) can;
    },
    begun_own seen can (number + 1) nodes ready.1,
  )
