-- The goals that have ended before the token leave how the others move on, and one goes in each turn.
use Rattle.std.proofs.Common.{◌≡◌, length, reverse, ◌+◌}
use Rattle.viable_prefixes.specs.Inside.Goals as spec
use Rattle.viable_prefixes.proofs.search.pass.Given as goal

abbrev pub invariant-loop-turn : goal.invariant-loop-turn
invariant-loop-turn l =
    (spec.moved l.token (reverse l.stack.items) ≡ spec.moved l.token (reverse l.fn.stack.items)) × (l._turn + length l.stack.items ≡ l._turn-end)
