-- What the name can be assigned is said of what it means.
use Rattle.check_sorts.specs.Scope.{scope_in}
use Rattle.type_expressions.proofs.place.named.Goals as goal

pub returns-clause-places : goal.returns-clause-places
returns-clause-places c =
    c.places_of_meaning.ensures (scope_in c.args.scope) c.args.name.now c.args.at c.meaning-meaning.ensures
