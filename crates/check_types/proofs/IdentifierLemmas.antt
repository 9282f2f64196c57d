-- The identifiers by which a program without offences declares messages are short.
use Rattle.std.proofs.Common.{◌≡◌, ◌<◌, ℕ, zero, suc, List, [], ◌∷◌, length, get_or, inl, inr, refl, arith}
use Rattle.std.specs.Prelude.{All}
use Rattle.dbc_reader.specs.declared.message.DbcMessage.{DbcMessage}
use Rattle.capl_tree.specs.declared.file.Program.{Program}
use Rattle.capl_meaning.specs.Variable.{Form, Number, Array, Message, Timer, Misfit, ByIdentifier, ByName, variables_of}
use Rattle.capl_meaning.specs.Offences.{offences_of}
use Rattle.typed_laws.specs.Laid.{IsAmong}
use Rattle.type_starts.specs.Identifier.{IsDeclaredShort}
use Rattle.sound_programs.proofs.Declarations.{IsHeldType, well_declared}

-- an identifier that its cell holds is short
held_short : (form : Form) → IsHeldType form → IsDeclaredShort form
held_short (Message (ByIdentifier id)) held = omega (arith, held)
held_short (Message (ByName m)) held = tt
held_short (Number k fixed) held = tt
held_short (Array k fixed size) held = tt
held_short (Timer unit) held = tt
held_short Misfit held = tt

-- what stands in a list is one of its things
among_at : {X : Type 0} (xs : List X) (i : ℕ) (d : X) → i < length xs → IsAmong (get_or xs i d) xs
among_at [] i d less = absurd (omega (arith, less))
among_at (x ∷ xs) zero d less = inl refl
among_at (x ∷ xs) (suc i) d less = inr (among_at xs i d (omega (arith, less)))

-- so each variable is declared with a short one, if it is a message
pub all_short : (base : List DbcMessage) (program : Program) → offences_of base program ≡ [] →
    All (λ v. IsDeclaredShort v.form) (variables_of base program)
all_short base program none = λ i d less.
    let v = get_or (variables_of base program) i d in
    held_short v.form (well_declared base program none v (among_at (variables_of base program) i d less)).held
