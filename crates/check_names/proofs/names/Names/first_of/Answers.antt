-- What was noted is the first of all.
use Rattle.std.proofs.Common.{◌≡◌, ◌∙◌, List, None, ap, subst, sym}
use Rattle.std.specs.Prelude.{flat_map}
use Rattle.dbc_reader.specs.declared.message.DbcMessage.{DbcMessage}
use Rattle.capl_meaning.specs.Names.{Names, names_of}
use Rattle.capl_meaning.specs.ProcedureRules.{outer_name_offences, purpose_offences}
use Rattle.capl_meaning.specs.Variable.{Part}
use Rattle.check_names.specs.First.{IsFirstOf, noted}
use Rattle.check_names.specs.Named.{head_and_types, named_offences}
use Rattle.check_names.proofs.NamedFirst.{named_first}
use Rattle.check_names.proofs.names.Names.first_of.Goals as goal

pub returns : goal.returns
returns c base program are parts =
    let names = c.args.self.now in
    let same : names.base ≡ base = ap (λ (n : Names). n.base) are in
    let own : names ≡ names_of names.base program = are ∙ ap (λ (b : List DbcMessage). names_of b program) (sym same) in
    subst (λ (b : List DbcMessage). IsFirstOf c.note_inner_names.new.first (named_offences b program)) same
    (named_first names program c.note_outer_names.new.first c.note_purposes.new.first c.note_parts.new.first
    c.note_inner_names.new.first own
    (c.in_ok-note_outer_names.ensures ∙ ap (λ (ps : List Part). noted None (outer_name_offences ps)) parts)
    (c.in_ok-note_purposes.ensures ∙ ap (λ (ps : List Part). noted c.note_outer_names.new.first (purpose_offences names ps)) parts)
    (c.in_ok-note_parts.ensures ∙ ap (λ (ps : List Part). noted c.note_purposes.new.first (flat_map (head_and_types names) ps)) parts)
    c.note_inner_names.ensures)
