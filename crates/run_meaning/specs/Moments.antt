-- Which moment comes next in a run, and what comes at it from outside: keys that are pressed, and requests
-- of the log that is replayed. Both stand by moment.
use Rattle.std.specs.Prelude.{ℕ, nat_le, List, [], ◌∷◌, Option, None, Some, drop, map, min, slice_get}
use Rattle.std.specs.List.{prefix_len, take_while}
use Rattle.std.specs.Option.{option_map}
use Rattle.can_frame.specs.Frame.{FrameFields}
use Rattle.can_bus.specs.Meaning.{BusMeaning}
use Rattle.scenario.specs.declared.scenario.KeyItem.{KeyItem}
use Rattle.replay_node.specs.declared.replay.Request.{Request}
use Rattle.node_rounds.specs.Reaction.{Reacts, next_due}

-- the lesser of two moments, where there are any
abbrev pub least : Option ℕ → Option ℕ → Option ℕ
least None other = other
least (Some a) None = Some a
least (Some a) (Some b) = Some (min a b)

-- ---- keys

-- the keys up to a moment, in order
abbrev pub keys_at : ℕ → List KeyItem → List ℕ
keys_at now keys = map (λ key. key.key) (take_while (λ key. nat_le key.at now) keys)

-- the keys after a moment
abbrev pub keys_after : ℕ → List KeyItem → List KeyItem
keys_after now keys = drop (prefix_len (λ key. nat_le key.at now) keys) keys

-- ---- requests of the replay

-- the frames that are requested up to a moment, in order
abbrev pub requests_at : ℕ → List Request → List FrameFields
requests_at now requests =
    map (λ request. request.frame) (take_while (λ request. nat_le request.at now) requests)

-- the requests after a moment
abbrev pub requests_after : ℕ → List Request → List Request
requests_after now requests = drop (prefix_len (λ request. nat_le request.at now) requests) requests

-- ---- the next moment

-- the least moment at which a timer of a node that is not halted is due
abbrev pub next_timer : {S : Type 0} → Reacts S → List S → Option ℕ
next_timer {S} r [] = None
next_timer {S} r (node ∷ nodes) = least (next_due r node) (next_timer r nodes)

-- the least of what is next at the bus, of the nodes' timers, of the keys and of the replay
abbrev pub next_of_all : {S B : Type 0} → Reacts S → BusMeaning B → List S → B → List KeyItem → List Request
    → Option ℕ
next_of_all {S} {B} r bus nodes b keys requests =
    least (bus.next_moment b) (least (next_timer r nodes)
    (least (option_map (λ key. key.at) (slice_get keys 0))
    (option_map (λ request. request.at) (slice_get requests 0))))
