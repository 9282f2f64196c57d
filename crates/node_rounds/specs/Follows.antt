-- When one reaction does what another does.
use Rattle.std.specs.Prelude.{◌≡◌, ℕ, Bool, List, Contains, MatchOption, ⊤}
use Rattle.node_rounds.specs.declared.occurrence.Occurrence.{Occurrence}
use Rattle.node_rounds.specs.declared.occurrence.Trigger.{Trigger}
use Rattle.node_rounds.specs.Procedures.{procedures_for}
use Rattle.node_rounds.specs.Reaction.{Done, NodeState, Reacts, RunEnd, Runner}
use Rattle.node_rounds.specs.Round.{Doing}

-- the same was done, and the nodes are related afterwards
pub record DoneAlike {S T : Type 0} (related : S → T → Type 0) (d : Done S) (e : Done T) : Type 0 where
  pub lines : e.lines ≡ d.lines
  pub requests : e.requests ≡ d.requests
  pub stops : e.stops ≡ d.stops
  pub turns : e.turns ≡ d.turns
  pub after : related d.after e.after

-- the procedure of a trigger, if it has one, is one of those for what happens
abbrev pub IsFor : (Occurrence → List ℕ) → Trigger → Type 0
IsFor procedures trigger =
    MatchOption trigger.procedure ⊤ (λ procedure. Contains (procedures trigger.occurrence) procedure)

-- The second reaction follows the first: on related nodes it is halted where the first is, has the same
-- procedures and timers, and can do what the first does by a trigger that a node has. What the first does
-- leaves it its procedures.
pub record Follows {S T : Type 0} (related : S → T → Type 0) (r : Reacts S) (q : Reacts T) : Type 0 where
  pub is_halted : (s : S) (t : T) → related s t → q.is_halted t ≡ r.is_halted s
  pub procedures : (s : S) (t : T) → related s t → q.procedures t ≡ r.procedures s
  pub timers : (s : S) (t : T) → related s t → q.timers t ≡ r.timers s
  pub does : (s : S) (t : T) → related s t → (trigger : Trigger) (now : ℕ) (done : Done S) →
      IsFor (r.procedures s) trigger → r.does s trigger now done →
      (other : Done T) × q.does t trigger now other × DoneAlike related done other
  pub stays : (s : S) (t : T) → related s t → (trigger : Trigger) (now : ℕ) (done : Done S) →
      IsFor (r.procedures s) trigger → r.does s trigger now done → r.procedures done.after ≡ r.procedures s

-- nodes in a round are related, with the same left to do
pub record DoingAlike {S T : Type 0} (related : S → T → Type 0) (d : Doing S) (e : Doing T) : Type 0 where
  pub node : related d.node e.node
  pub rest : e.rest ≡ d.rest

-- runs ended alike, in related memories
pub record EndAlike {M N : Type 0} (related : M → N → Type 0) (d : RunEnd M) (e : RunEnd N) : Type 0 where
  pub memory : related d.memory e.memory
  pub effects : e.effects ≡ d.effects
  pub turns : e.turns ≡ d.turns
  pub outcome : e.outcome ≡ d.outcome

-- The procedures of the second run as those of the first: on related memories they react to the same, and
-- where a run of the first for what its procedure reacts to ends, one of the second ends alike. A run leaves
-- what the procedures react to as it is.
pub record RunsFollow {M N : Type 0} (related : M → N → Type 0) (first : Runner M) (second : Runner N) :
    Type 0 where
  pub events : (m : M) (n : N) → related m n → second.events n ≡ first.events m
  pub ends : (m : M) (n : N) → related m n → (procedure : ℕ) (occurrence : Occurrence) (now : ℕ)
      (active : List Bool) (end : RunEnd M) →
      Contains (procedures_for (first.events m) occurrence) procedure →
      first.ends m procedure occurrence now active end →
      (other : RunEnd N) × second.ends n procedure occurrence now active other × EndAlike related end other
  pub stays : (m : M) (n : N) → related m n → (procedure : ℕ) (occurrence : Occurrence) (now : ℕ)
      (active : List Bool) (end : RunEnd M) → first.ends m procedure occurrence now active end →
      first.events end.memory ≡ first.events m

-- nodes with related memories and the same timers, both halted or neither
pub record NodesAlike {M N : Type 0} (related : M → N → Type 0) (s : NodeState M) (t : NodeState N) :
    Type 0 where
  pub memory : related s.memory t.memory
  pub timers : t.timers ≡ s.timers
  pub is_halted : t.is_halted ≡ s.is_halted
