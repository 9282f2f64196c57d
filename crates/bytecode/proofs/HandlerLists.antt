-- The lists that are collected from handlers.
use Rattle.std.proofs.lemmas.Grind.{common_steps}
use Rattle.std.proofs.lemmas.List.Elements.{filter_map-append}

-- what one more handler adds to a list of timers or keys
pub ruleset one_more_handler = (common_steps, filter_map-append)
