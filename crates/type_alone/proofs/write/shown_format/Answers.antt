-- A text that shows the sorts of the arguments fits them, and no other has a format.
use Rattle.std.proofs.Common.{◌∙◌, sym}
use Rattle.type_alone.proofs.FormatLemmas.{fit_for, none_of_unshown, some_of_shown}
use Rattle.type_alone.proofs.write.shown_format.Goals as goal

pub read_format-requires : goal.read_format-requires
read_format-requires c =
    let made = c.requires in
    fit_for made.0 c.in-Some.text.now made.1 c.args.sorts.now c.args.kinds.now made.2.sorts_are made.2.kinds_are
    (sym c.shows_all.ensures ∙ c.if-not-shows_all.false)

pub returns-then-not-shows_all : goal.returns-then-not-shows_all
returns-then-not-shows_all c = λ s all made.
    none_of_unshown s c.args.format.now all c.args.kinds.now c.args.sorts.now c.in-Some.text.now made
    (sym c.in-Some.ensures) (sym c.shows_all.ensures ∙ c.if-not-shows_all.true)

pub returns : goal.returns
returns c = λ s all made.
    some_of_shown s c.args.format.now all c.args.kinds.now c.args.sorts.now c.in-Some.text.now c.in_ok-read.read made
    (sym c.in-Some.ensures) (sym c.shows_all.ensures ∙ c.if-not-shows_all.false)
    c.in_ok-read.ensures
