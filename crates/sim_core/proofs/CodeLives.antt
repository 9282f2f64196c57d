-- Nodes that run their code do each task that they have left.
use Rattle.std.proofs.Common.{◌≡◌, ℕ, ◌<◌, List, [], ◌∷◌, All, refl, ap, ◌∙◌}
use Rattle.std.proofs.lemmas.List.Elements.{All-cons, All-head, All-nil, All-tail}
use Rattle.can_frame.specs.Frame.{FrameFields, IsFrame}
use Rattle.node_rounds.specs.Reaction.{NodeState}
use Rattle.node_rounds.specs.Round.{DoesNext, Task}
use Rattle.node_run.specs.Code.{CodeMemory, by_code, code_reaction, events_of}
use Rattle.node_run.specs.Node.{NodeInRound}
use Rattle.node_run.specs.Sound.{CanOccur, IsSound}
use Rattle.node_run.proofs.EachTask.{code_asks, code_does, code_keeps_code, code_one_way, code_stays_sound}
use Rattle.bytecode.specs.declared.code.Code.{Code}
use Rattle.run_meaning.specs.Live.{CanBeSeen, IsLive}
use Rattle.run_meaning.proofs.EachPart.{left_there, next_less, next_ready, to_do}
use Rattle.sim_core.specs.Inside.Tasks.{IsLeft, IsOwn}

frames_seen : (frames : List FrameFields) → All IsFrame frames → All (CanBeSeen CanOccur) frames
frames_seen [] all = All-nil (CanBeSeen CanOccur)
frames_seen (frame ∷ frames) all =
    All-cons (CanBeSeen CanOccur) frame frames (λ sent. All-head IsFrame frame frames all) (frames_seen frames (All-tail IsFrame frame frames all))

-- sound nodes do each task by their code
pub code_lives : IsLive by_code IsSound CanOccur
code_lives = record {
  timers = λ s sound. sound.valid;
  does = λ s trigger now sound can own. code_does s trigger now sound can own;
  stays = λ s trigger now done sound does. code_stays_sound s trigger now done sound does;
  events = λ s trigger now done sound does. ap (λ (code : Code). events_of code.handlers) (code_keeps_code s trigger now done does);
  in_one_way = λ s trigger now done other does more. code_one_way s trigger now done other does more;
  asks = λ s trigger now done sound does. frames_seen done.requests (code_asks s trigger now done sound does);
  plain = (tt, tt, tt, λ timer. tt);
}

-- a node in a round, after its next task
pub code_next : (now : ℕ) (node after : NodeInRound) (task : Task) → IsOwn now node → DoesNext code_reaction now node.doing task after.doing → after.moment ≡ node.moment → IsOwn now after
code_next now node after task own next same =
    let leads = next_ready by_code IsSound CanOccur code_lives now node.doing task after.doing own.ready own.due next in
    record { at = same ∙ own.at; ready = leads.ready; due = leads.own }

-- its next task leaves less to do
pub code_less : (now : ℕ) (node after : NodeInRound) (task : Task) → IsOwn now node → DoesNext code_reaction now node.doing task after.doing → to_do now after.doing < to_do now node.doing
code_less now node after task own next = next_less by_code IsSound CanOccur code_lives now node.doing task after.doing own.ready own.due next

-- it does all that it has left to do
pub code_left : (now : ℕ) (node : NodeInRound) → IsOwn now node → (tasks : List Task) × (after : NodeState CodeMemory) × IsLeft now node.doing tasks after
code_left now node own =
    let left = left_there by_code IsSound CanOccur code_lives now node.doing own.ready own.due in
    (left.0, left.1.node, record { end = left.1; part = left.2; stands = refl })
