-- The first of what names break, noted one after another.
use Rattle.std.proofs.Common.{◌≡◌, ◌++◌, ◌∙◌, List, [], Option, None, ap, subst, sym}
use Rattle.std.specs.Prelude.{flat_map, map}
use Rattle.capl_tree.specs.declared.file.Program.{Program}
use Rattle.capl_meaning.specs.declared.offence.Offence.{Offence}
use Rattle.capl_meaning.specs.Names.{Names, names_of}
use Rattle.capl_meaning.specs.ProcedureRules.{outer_name_offences, purpose_offences}
use Rattle.capl_meaning.specs.StatementRules.{repeated}
use Rattle.capl_meaning.specs.Variable.{parts_of}
use Rattle.check_names.specs.First.{IsFirstOf, noted}
use Rattle.check_names.specs.Inside.Inner.{inner_offence, same_inside}
use Rattle.check_names.specs.Named.{head_and_types, named_offences, names_inside}
use Rattle.check_names.proofs.FirstLemmas.{noted_append}
use Rattle.check_names.proofs.FirstOfLemmas.{first_of, same_first}
use Rattle.check_names.proofs.InnerLemmas.{all_within_each, each_within_all}
use Rattle.check_names.proofs.IsIn.{both_within}

-- what is noted in four parts
in_parts : (one two three four : Option Offence) (a b c d : List Offence) → one ≡ noted None a → two ≡ noted one b → three ≡ noted two c
    → four ≡ noted three d → four ≡ noted None (a ++ (b ++ (c ++ d)))
in_parts one two three four a b c d first second third fourth =
    fourth ∙ ap (λ (o : Option Offence). noted o d) third
    ∙ sym (noted_append two c d)
    ∙ ap (λ (o : Option Offence). noted o (c ++ d)) second
    ∙ sym (noted_append one b (c ++ d))
    ∙ ap (λ (o : Option Offence). noted o (b ++ (c ++ d))) first
    ∙ sym (noted_append None a (b ++ (c ++ d)))

-- the first of all
pub named_first : (names : Names) (program : Program) (one two three four : Option Offence) → names ≡ names_of names.base program
    → one ≡ noted None (outer_name_offences (parts_of program))
    → two ≡ noted one (purpose_offences names (parts_of program))
    → three ≡ noted two (flat_map (head_and_types names) (parts_of program))
    → four ≡ noted three (map inner_offence (repeated same_inside [] names.variables))
    → IsFirstOf four (named_offences names.base program)
named_first names program one two three four are first second third fourth =
    let known = names_of names.base program in
    let outer = outer_name_offences (parts_of program) in
    let purposes = purpose_offences known (parts_of program) in
    let heads = flat_map (head_and_types known) (parts_of program) in
    let all = map inner_offence (repeated same_inside [] known.variables) in
    let each = flat_map (names_inside known) (parts_of program) in
    let is = in_parts one two three four outer purposes heads all first
    (second ∙ ap (λ (n : Names). noted one (purpose_offences n (parts_of program))) are)
    (third ∙ ap (λ (n : Names). noted two (flat_map (head_and_types n) (parts_of program))) are)
    (fourth ∙ ap (λ (n : Names). noted three (map inner_offence (repeated same_inside [] n.variables))) are) in
    same_first four (outer ++ (purposes ++ (heads ++ all))) (named_offences names.base program)
    (both_within outer _ outer _ (λ x is. is) (both_within purposes _ purposes _ (λ x is. is) (both_within heads all heads each (λ x is. is) (all_within_each names.base program))))
    (both_within outer _ outer _ (λ x is. is) (both_within purposes _ purposes _ (λ x is. is) (both_within heads each heads all (λ x is. is) (each_within_all names.base program))))
    (subst (λ (o : Option Offence). IsFirstOf o (outer ++ (purposes ++ (heads ++ all)))) (sym is) (first_of (outer ++ (purposes ++ (heads ++ all)))))
