-- A label that says nothing says what no other says.
use Rattle.std.proofs.Common.{◌≡◌, ◌∷◌, ◌∙◌, List, [], Bool, None, ap, false, refl, sym}
use Rattle.std.specs.List.{list_any}
use Rattle.check_statements.specs.declared.label.Saying.{Saying}
use Rattle.check_statements.specs.Inside.Label.{SaidLabel, same_saying, saying_in}
use Rattle.check_statements.proofs.label.Seen.has.Goals as goal

-- no label says the same
none : (earlier : List SaidLabel) → false ≡ list_any (λ (t : SaidLabel). same_saying None t.saying) earlier
none [] = refl
none (t ∷ earlier) = none earlier

pub returns-in-Unclear : goal.returns-in-Unclear
returns-in-Unclear c = λ earlier has.
    none earlier ∙ ap (λ (x : Saying). list_any (λ (t : SaidLabel). same_saying (saying_in x) t.saying) earlier) (sym c.in-Unclear.is)
