-- A typed program that does what a source does: its event procedures end as those of the source.
use Rattle.std.proofs.Common.{◌≡◌, ℕ, zero, suc, Bool, List, [], ◌∷◌, Some, None, subst}
use Rattle.std.specs.Prelude.{slice_get}
use Rattle.std.specs.List.{AllByRecursion, AllZip}
use Rattle.dbc_reader.specs.declared.message.DbcMessage.{DbcMessage}
use Rattle.capl_tree.specs.declared.file.Program.{Program}
use Rattle.typed_tree.specs.declared.program.THandler.{THandler}
use Rattle.typed_tree.specs.declared.program.Typed.{Typed}
use Rattle.typed_tree.specs.Program as typed_procedure
use Rattle.capl_meaning.specs.Variable.{parts_of, variables_of}
use Rattle.capl_meaning.specs.Names.{Names, names_of}
use Rattle.capl_meaning.specs.Store.{This}
use Rattle.capl_meaning.specs.Expression as source
use Rattle.capl_meaning.specs.Statement.{Handler, handlers_in}
use Rattle.capl_meaning.specs.Inside.Procedure.{handlers_of}
use Rattle.capl_meaning.specs.Statement as source_procedure
use Rattle.typed_laws.specs.Laid.{AreDistinct, laid_memory}
use Rattle.typed_laws.specs.Agreement.{ArePlain, Fits, FunctionsDoAs, HandlerDoesAs, ProgramDoesAs, laid_ending}
use Rattle.typed_laws.proofs.Declared.{handlers_named, plain_names}
use Rattle.typed_laws.proofs.Procedures.{ending_same}

all_at : {A : Type 0} (P : A → Type 0) (xs : List A) (i : ℕ) (x : A) → AllByRecursion P xs → slice_get xs i ≡ Some x → P x
all_at P [] i x h e = absurd (let f : None ≡ Some x = e in cc)
all_at P (y ∷ xs) zero x h e = let f : Some y ≡ Some x = e in let same : y ≡ x = cc in subst P same h.0
all_at P (y ∷ xs) (suc i) x h e = all_at P xs i x h.1 e

zip_at : {A B : Type 0} (R : A → B → Type 0) (xs : List A) (ys : List B) (i : ℕ) (x : A) (y : B) → AllZip R xs ys → slice_get xs i ≡ Some x → slice_get ys i ≡ Some y → R x y
zip_at R [] ys i x y h e f = absurd (let g : None ≡ Some x = e in cc)
zip_at R (a ∷ xs) [] i x y h e f = elim h [ ]
zip_at R (a ∷ xs) (b ∷ ys) zero x y h e f =
    let g : Some a ≡ Some x = e in let k : Some b ≡ Some y = f in let same : a ≡ x = cc in let also : b ≡ y = cc in subst (λ z. R z y) same (subst (λ z. R a z) also h.0)
zip_at R (a ∷ xs) (b ∷ ys) (suc i) x y h e f = zip_at R xs ys i x y h.1 e f

-- an event procedure ends in the cells that the source's memory is laid out in
handler_ends : (order : List ℕ) (program : Typed) (h : Handler) (u : THandler) → HandlerDoesAs order program.formats h u → (this : This) (closed : Bool) (moment turns : ℕ) (memory : source.Memory) →
    (names : Names) → h.scope.names ≡ names → ArePlain names → Fits names order program → FunctionsDoAs names order program →
    typed_procedure.ending_of (record { typed = program; closed = closed; moment = moment }) u turns (laid_memory names this memory) ≡ laid_ending names this (source_procedure.ending_of h this closed moment turns memory)
handler_ends order program h u does this closed moment turns memory names is =
    subst (λ names. ArePlain names → Fits names order program → FunctionsDoAs names order program →
    typed_procedure.ending_of (record { typed = program; closed = closed; moment = moment }) u turns (laid_memory names this memory) ≡ laid_ending names this (source_procedure.ending_of h this closed moment turns memory)) is
    (λ plain fits functions. ending_same h.scope.names order plain program fits functions this closed moment h.scope.owner h.scope.file h.scope.this h.scope.gives h.body u.body turns memory does.body)

-- an event procedure of a typed program ends as that of the source
pub program_ends : (base : List DbcMessage) (program : Program) (typed_program : Typed) → ProgramDoesAs base program typed_program → AreDistinct (variables_of base program) →
    (i : ℕ) (h : Handler) (u : THandler) → slice_get (handlers_in base program) i ≡ Some h → slice_get typed_program.handlers i ≡ Some u →
    (this : This) (closed : Bool) (moment turns : ℕ) (memory : source.Memory) →
    typed_procedure.ending_of (record { typed = typed_program; closed = closed; moment = moment }) u turns (laid_memory (names_of base program) this memory) ≡
    laid_ending (names_of base program) this (source_procedure.ending_of h this closed moment turns memory)
program_ends base program typed_program does distinct i h u at typed_at this closed moment turns memory =
    let names = names_of base program in
    handler_ends does.order typed_program h u (zip_at (HandlerDoesAs does.order typed_program.formats) (handlers_of names program) typed_program.handlers i h u does.handlers at typed_at) this closed moment turns memory
    names (all_at (λ (h : Handler). h.scope.names ≡ names) (handlers_of names program) i h (handlers_named names (parts_of program)) at) (plain_names base program distinct) does.fits does.functions
