-- Each statement, by its form.
use Rattle.capl_meaning.specs.StatementRules.{in_body}
use Rattle.sound_programs.proofs.Statements.{statement}
use Rattle.sound_programs.proofs.laws.statements_have_sound_trees.Goals as goal

pub returns : goal.returns
returns c = λ scope order typed number before x tables forms stands.
    statement typed number scope order tables forms in_body before x stands.well_formed stands.small stands.no_offence stands.callable stands.formats
