-- What stands between two sources.
use Rattle.std.proofs.Common.{◌≡◌, drop}
use Rattle.sim_gen.specs.Generated.{source_text}
use Rattle.sim_gen.proofs.files.source_text.Given as goal

-- the sources that are left give what all sources give
abbrev pub invariant-loop-source : goal.invariant-loop-source
invariant-loop-source l = source_text (drop l.source-index l.sources) l.name ≡ source_text l.sources l.name
