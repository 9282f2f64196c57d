-- The name is that of the node.
use Rattle.std.proofs.Common.{◌≡◌, ℕ, List, not, ◌||◌, subst}
use Rattle.std.specs.List.{list_any}
use Rattle.std.specs.Str.{bytes_eq}
use Rattle.scenario.specs.Item.{is_node_name}
use Rattle.scenario.proofs.draft.Draft.refuses_name_of.Goals as goal

pub returns : goal.returns
returns c =
    subst (λ (name : List ℕ). c.refuses_name.result ≡ (not (is_node_name name) || list_any (λ other. bytes_eq name other.name) c.args.self.now.nodes))
    c.bytes.ensures c.refuses_name.ensures
