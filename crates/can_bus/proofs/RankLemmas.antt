-- The ranks of a node's requests.
use Rattle.std.proofs.Common.{◌≡◌, ℕ, map, refl}
use Rattle.std.specs.Prelude.{Option, if◌then◌else◌}
use Rattle.std.specs.Option.{option_map}
use Rattle.std.specs.FinMap as finmap
use Rattle.can_bus.specs.declared.transmission.Transmission.{Transmission}
use Rattle.can_bus.specs.Waiting.{requests_of, members}
use Rattle.can_bus.specs.Bus.{BusState, next_number, carries_earlier, rank, with_rank, transmission_with_rank, with_ranks}

-- 1 where the wire carries a request of the node with a lesser number, else 0
abbrev pub count_on_wire : Option Transmission → ℕ → ℕ → ℕ
count_on_wire wire node number = if carries_earlier wire node number then 1 else 0

-- the parts of a bus with a node's requests numbered from 0
pub with_ranks-is : (s : BusState) (node : ℕ) → with_ranks s node ≡ record s {
  waiting = requests_of (map (with_rank s node) (members s.waiting));
  wire = option_map (transmission_with_rank s node) s.wire;
  next = finmap.insert s.next node (rank s node (next_number s node));
}
unfolding with_ranks
with_ranks-is s node = refl
