-- What was noted and what is left are the offences of all types.
use Rattle.std.proofs.Common.{◌≡◌, drop}
use Rattle.capl_meaning.specs.Names.{outside}
use Rattle.check_names.specs.First.{noted}
use Rattle.check_names.specs.Named.{types_offences}
use Rattle.check_names.proofs.head.note_types.Given as goal

abbrev pub invariant-loop-decl : goal.invariant-loop-decl
invariant-loop-decl l =
    noted l.first (types_offences (outside l.names l.file) (drop l.decl-index l.declarations))
    ≡ noted l.fn.first (types_offences (outside l.names l.file) l.declarations)
