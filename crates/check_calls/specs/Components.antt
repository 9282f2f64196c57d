-- The components of a program's calls, as code has them.
use Rattle.std.specs.Prelude.{◌≡◌, ℕ, List, true}
use Rattle.check_calls.specs.declared.components.Components.{Components}
use Rattle.check_calls.specs.Graph.{AreRanked, AreReached, AreReaching}

-- these ranks and marks hold of the calls in these rows
pub record AreComponents (rows : List (List ℕ)) (components : Components) : Type 0 where
  pub ranked : components.is_ranked ≡ true → AreRanked components.ranks.items rows
  pub reached : AreReached rows components.roots.items components.reached.items
  pub reaching : AreReaching rows components.roots.items components.reaching.items
