-- The lines and columns of the tokens that were passed.
use Rattle.std.proofs.Common.{◌≡◌, map, take}
use Rattle.source_compiler.proofs.places.places_in.Given as goal

abbrev pub invariant-loop-token : goal.invariant-loop-token
invariant-loop-token l =
    (l.lines.items ≡ map (λ token. token.line) (take l.token-index l.tokens))
    × (l.columns.items ≡ map (λ token. token.column) (take l.token-index l.tokens))
