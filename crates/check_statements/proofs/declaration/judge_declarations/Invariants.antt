-- What was noted and what is left are the offences of all declarations.
use Rattle.std.proofs.Common.{◌≡◌, drop}
use Rattle.std.specs.Prelude.{flat_map}
use Rattle.capl_meaning.specs.DeclarationRules.{declaration_offences}
use Rattle.check_names.specs.First.{noted}
use Rattle.check_statements.specs.Site.{place_of}
use Rattle.check_statements.proofs.declaration.judge_declarations.Given as goal

abbrev pub invariant-loop-decl : goal.invariant-loop-decl
invariant-loop-decl l =
    noted l.first (flat_map (declaration_offences (place_of l.site)) (drop l.decl-index l.declarations)) ≡ noted l.fn.first (flat_map (declaration_offences (place_of l.site)) l.declarations)
