-- Names of the language, and then those that are repeated.
use Rattle.std.proofs.Common.{◌≡◌, ◌++◌, ◌∙◌, List, [], Option, ap, sym}
use Rattle.std.specs.Prelude.{filter, flat_map, is_some, map}
use Rattle.std.proofs.lemmas.List.{map-append}
use Rattle.capl_meaning.specs.declared.offence.Offence.{Offence}
use Rattle.capl_meaning.specs.Names.{builtin_named}
use Rattle.capl_meaning.specs.ProcedureRules.{Declared, name_offence, outer_names, same_name}
use Rattle.capl_meaning.specs.StatementRules.{repeated}
use Rattle.check_names.specs.First.{noted}
use Rattle.check_names.specs.Part.{parts_in}
use Rattle.check_names.specs.Repeat.{names_at}
use Rattle.check_names.proofs.FirstLemmas.{noted_append}
use Rattle.check_names.proofs.repeats.note_outer_names.Goals as goal

-- names of the language
abbrev taken : List Declared → List Declared
taken names = filter (λ d. is_some (builtin_named d.name)) names

-- those, and then those that are repeated
both : (first middle last : Option Offence) (names : List Declared) → middle ≡ noted first (map name_offence (taken names))
    → last ≡ noted middle (map name_offence (repeated same_name [] names))
    → last ≡ noted first (map name_offence (taken names ++ repeated same_name [] names))
both first middle last names one other =
    other ∙ ap (λ (o : Option Offence). noted o (map name_offence (repeated same_name [] names))) one
    ∙ sym (noted_append first (map name_offence (taken names)) (map name_offence (repeated same_name [] names)))
    ∙ ap (noted first) (sym (map-append name_offence (taken names) (repeated same_name [] names)))

pub returns : goal.returns
returns c =
    let listed = ap names_at c.as_slice.ensures.value ∙ c.in_ok-names.ensures in
    let again = ap names_at c.as_slice-2.ensures.value ∙ c.in_ok-names.ensures in
    both c.args.first.now c.note_builtins.new.first c.note_repeated.new.first (flat_map outer_names (parts_in c.args.parts.now))
    (c.note_builtins.ensures ∙ ap (λ (ds : List Declared). noted c.args.first.now (map name_offence (taken ds))) listed)
    (c.in_ok-note_repeated.ensures ∙ ap (λ (ds : List Declared). noted c.note_builtins.new.first (map name_offence (repeated same_name [] ds))) again)
