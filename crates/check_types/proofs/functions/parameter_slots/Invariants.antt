-- The cells are those of the parameters so far.
use Rattle.std.proofs.Common.{◌≡◌, take}
use Rattle.std.specs.Prelude.{map}
use Rattle.typed_laws.specs.Laid.{slot}
use Rattle.check_types.proofs.functions.parameter_slots.Given as goal

abbrev pub invariant-loop-parameter : goal.invariant-loop-parameter
invariant-loop-parameter l =
    l.slots.items
    ≡ map (λ p. slot l.names (record { owner = l.function.number; name = p.name })) (take l.parameter-index l.function.parameters.now)
