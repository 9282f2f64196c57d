-- What names, declarations and statements break in a program is all that it breaks.
use Rattle.std.proofs.Common.{◌≡◌, ◌++◌, List, [], Option, Some, None, inl, inr, subst, sym}
use Rattle.std.specs.Prelude.{IfSome, flat_map}
use Rattle.dbc_reader.specs.declared.message.DbcMessage.{DbcMessage}
use Rattle.capl_tree.specs.declared.file.Program.{Program}
use Rattle.capl_meaning.specs.declared.offence.Offence.{Offence}
use Rattle.capl_meaning.specs.Names.{Names, Scope, inside, names_of}
use Rattle.capl_meaning.specs.Offences.{IsFirstOffence, offences_of, part_offences}
use Rattle.capl_meaning.specs.ProcedureRules.{head_offences, inner_name_offences, outer_name_offences, purpose_offences}
use Rattle.capl_meaning.specs.Variable.{Part, Globals, Procedure, parts_of}
use Rattle.check_names.specs.First.{IsFirstOf, noted}
use Rattle.check_names.specs.Named.{head_and_types, named_offences, names_inside}
use Rattle.check_names.proofs.FirstOfLemmas.{more_first, same_first}
use Rattle.check_names.proofs.IsIn.{IsIn, IsWithin, each_within, from_flat_map, in_flat_map, in_left, in_one, in_right}
use Rattle.check_names.proofs.NamedLemmas.{named_within}
use Rattle.check_statements.specs.Part.{body_offences}

-- what a body breaks is among what its part breaks
body_within : (names : Names) (part : Part) → IsWithin (body_offences names part) (part_offences names part)
body_within names (Globals file declarations) = λ x is. is
body_within names (Procedure number file procedure) = λ x is.
    in_right x (head_offences (inside names number file procedure.head) procedure.head) _
    (in_right x (inner_name_offences names number) _ is)

-- what a part breaks is among what its head, its names and its body break
part_cases : (names : Names) (part : Part) (x : Offence) → IsIn x (part_offences names part)
    → IsIn x (head_and_types names part ++ (names_inside names part ++ body_offences names part))
part_cases names (Globals file declarations) x is =
    in_right x (head_and_types names (Globals file declarations)) _ is
part_cases names (Procedure number file procedure) x is =
    let s : Scope = inside names number file procedure.head in
    let body = body_offences names (Procedure number file procedure) in
    elim (in_one x (head_offences s procedure.head) (inner_name_offences names number ++ body) is) [
      | inl head ↦ in_left x (head_and_types names (Procedure number file procedure)) (inner_name_offences names number ++ body)
          (in_left x (head_offences s procedure.head) _ head)
      | inr rest ↦ in_right x (head_and_types names (Procedure number file procedure)) (inner_name_offences names number ++ body) rest
    ]

-- what bodies break is among what a program breaks
bodies_within : (base : List DbcMessage) (program : Program)
    → IsWithin (flat_map (body_offences (names_of base program)) (parts_of program)) (offences_of base program)
bodies_within base program = λ x is.
    let names = names_of base program in
    let parts = parts_of program in
    let part = from_flat_map (body_offences names) x parts is in
    in_right x (outer_name_offences parts) _ (in_right x (purpose_offences names parts) _
    (in_flat_map (part_offences names) x part.0 parts part.1 (body_within names part.0 x part.2)))

-- all that a program breaks is among what names and bodies break
all_within : (base : List DbcMessage) (program : Program)
    → IsWithin (offences_of base program) (named_offences base program ++ flat_map (body_offences (names_of base program)) (parts_of program))
all_within base program = λ x is.
    let names = names_of base program in
    let parts = parts_of program in
    let outer = outer_name_offences parts in
    let purposes = purpose_offences names parts in
    let heads = flat_map (head_and_types names) parts in
    let inner = flat_map (names_inside names) parts in
    let bodies = flat_map (body_offences names) parts in
    let named = named_offences base program in
    elim (in_one x outer (purposes ++ flat_map (part_offences names) parts) is) [
      | inl one ↦ in_left x named bodies (in_left x outer (purposes ++ (heads ++ inner)) one)
      | inr more ↦ elim (in_one x purposes (flat_map (part_offences names) parts) more) [
        | inl two ↦ in_left x named bodies (in_right x outer (purposes ++ (heads ++ inner)) (in_left x purposes (heads ++ inner) two))
        | inr rest ↦ (
            let part = from_flat_map (part_offences names) x parts rest in
            elim (in_one x (head_and_types names part.0) (names_inside names part.0 ++ body_offences names part.0) (part_cases names part.0 x part.2)) [
              | inl head ↦ in_left x named bodies (in_right x outer (purposes ++ (heads ++ inner)) (in_right x purposes (heads ++ inner)
                  (in_left x heads inner (in_flat_map (head_and_types names) x part.0 parts part.1 head))))
              | inr behind ↦ elim (in_one x (names_inside names part.0) (body_offences names part.0) behind) [
                | inl name ↦ in_left x named bodies (in_right x outer (purposes ++ (heads ++ inner)) (in_right x purposes (heads ++ inner)
                    (in_right x heads inner (in_flat_map (names_inside names) x part.0 parts part.1 name))))
                | inr body ↦ in_right x named bodies (in_flat_map (body_offences names) x part.0 parts part.1 body)
              ]
            ])
      ]
    ]

-- the first of all
pub first_of_all : (base : List DbcMessage) (program : Program) (first last : Option Offence) → IsFirstOf first (named_offences base program)
    → last ≡ noted first (flat_map (body_offences (names_of base program)) (parts_of program)) → IsFirstOf last (offences_of base program)
first_of_all base program first last is noting =
    let named = named_offences base program in
    let bodies = flat_map (body_offences (names_of base program)) (parts_of program) in
    same_first last (named ++ bodies) (offences_of base program)
    (each_within named bodies (offences_of base program) (named_within base program) (bodies_within base program))
    (all_within base program)
    (subst (λ (o : Option Offence). IsFirstOf o (named ++ bodies)) (sym noting) (more_first first named bodies is))

-- there is none where nothing was noted
pub none_of : (base : List DbcMessage) (program : Program) (last : Option Offence) → IsFirstOf last (offences_of base program)
    → last ≡ None → offences_of base program ≡ []
none_of base program None is none = is
none_of base program (Some offence) is none = absurd (cc)

-- what was noted is the first
pub some_of : (base : List DbcMessage) (program : Program) (last : Option Offence) → IsFirstOf last (offences_of base program)
    → IfSome last (IsFirstOffence base program)
some_of base program None is = tt
some_of base program (Some offence) is = is
