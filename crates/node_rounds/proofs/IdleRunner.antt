-- A runner without procedures, which follows itself.
use Rattle.std.proofs.Common.{◌≡◌, ℕ, [], refl}
use Rattle.node_rounds.specs.Follows.{RunsFollow}
use Rattle.node_rounds.specs.Reaction.{Runner}

-- memories are numbers, and there is no procedure
abbrev pub idle : Runner ℕ
idle = record { events = λ m. []; ends = λ m procedure occurrence now active end. ⊥ }

-- it follows itself
pub idle_follows : RunsFollow (λ (m n : ℕ). n ≡ m) idle idle
idle_follows = record {
  events = λ m n same. refl;
  ends = λ m n same procedure occurrence now active end among none. absurd none;
  stays = λ m n same procedure occurrence now active end none. absurd none;
}
