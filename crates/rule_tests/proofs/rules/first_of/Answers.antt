-- The names, and the first of what they break, are those of their own database.
use Rattle.std.proofs.Common.{◌∙◌, ap, subst, sym}
use Rattle.capl_meaning.specs.Names.{Names, names_of}
use Rattle.check_names.specs.First.{IsFirstOf}
use Rattle.check_names.specs.Named.{named_offences}
use Rattle.rule_tests.proofs.rules.first_of.Goals as goal

pub first_offence-requires-clause-names : goal.first_offence-requires-clause-names
first_offence-requires-clause-names c =
    c.in_ok-named.ensures.names
    ∙ ap (λ b. names_of b c.args.program.now) (sym (ap (λ (n : Names). n.base) c.in_ok-named.ensures.names))

pub first_offence-requires-clause-named : goal.first_offence-requires-clause-named
first_offence-requires-clause-named c =
    subst (λ b. IsFirstOf c.in_ok-named.named.first (named_offences b c.args.program.now))
    (sym (ap (λ (n : Names). n.base) c.in_ok-named.ensures.names)) c.in_ok-named.ensures.first
