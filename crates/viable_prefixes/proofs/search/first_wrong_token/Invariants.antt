-- The tokens before this one came, and as many come in all as these and those that come from here.
use Rattle.std.proofs.Common.{◌≡◌, [], ◌∷◌, reverse, ◌+◌}
use Rattle.std.specs.Prelude.{drop}
use Rattle.capl_nesting.specs.Tokens.{toks}
use Rattle.viable_prefixes.specs.declared.goal.Goal.TheVariants as goals
use Rattle.viable_prefixes.specs.Inside.Goals.{first_wrong}
use Rattle.viable_prefixes.proofs.search.first_wrong_token.Given as goal

abbrev pub invariant-loop-number : goal.invariant-loop-number
invariant-loop-number l =
    first_wrong (goals.File ∷ []) (toks l.tokens) ≡ l.number + first_wrong (reverse l.stack.items) (drop l.number (toks l.tokens))
