-- A timer by its number among the variables.
use Rattle.std.proofs.Common.{◌∙◌, sym}
use Rattle.check_types.proofs.NameLemmas.{no_timer, timer_at}
use Rattle.check_types.proofs.events.timer_named.Goals as goal

pub returns-in-Some : goal.returns-in-Some
returns-in-Some c =
    let names = c.args.names.now in
    let at = timer_at names c.args.name.now c.in-Some.number (sym c.in-Some.ensures) in
    c.timer.ensures names at.0 c.requires.layout c.requires.distinct at.1 ∙ at.2

pub returns-in-None : goal.returns-in-None
returns-in-None c = no_timer c.args.names.now c.args.name.now (sym c.in-None.ensures)
