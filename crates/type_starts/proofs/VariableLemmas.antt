-- The first cells of variables, one behind the other.
use Rattle.std.proofs.Common.{◌≡◌, ℕ, zero, suc, ◌+◌, ◌^◌, ◌<◌, ◌≤◌, List, [], ◌∷◌, ◌++◌, length, length-append, take, Option, Some, None, refl, sym, ap, ◌∙◌, append_assoc, arith, subst}
use Rattle.std.specs.Prelude.{ℤ, pos, All, flat_map, map, slice_get, sum_by}
use Rattle.std.specs.Option.{option_map_or}
use Rattle.std.proofs.lemmas.List.{append-nil}
use Rattle.std.proofs.lemmas.List.Elements.{All-get_or}
use Rattle.std.proofs.lemmas.List.Sums.{sum_by-cons}
use Rattle.std.proofs.lemmas.Option.{get_or_from_slice_get, slice_get_within}
use Rattle.capl_tree.specs.declared.declaration.Init.{Init}
use Rattle.capl_meaning.specs.Variable.{Array, Form, Message, MessageType, Misfit, Number, Timer, Variable}
use Rattle.capl_meaning.specs.Names.{Names, Scope}
use Rattle.capl_meaning.specs.Constant.{elements_of, scope_of}
use Rattle.capl_meaning.specs.Initial.{element_of_form, first_message}
use Rattle.capl_meaning.specs.Store.{size_of_form, MessageRecord, message_cells, row}
use Rattle.typed_laws.specs.Laid.{cell_count, cells_by_form}
use Rattle.typed_laws.proofs.Lists.{row_long, row_parts}
use Rattle.type_starts.specs.declared.message.Message as held
use Rattle.type_starts.specs.Identifier.{HasShortIdentifier, IsDeclaredShort}
use Rattle.type_starts.specs.Message.{IsMessage}
use Rattle.typed_laws.specs.Starts.{first_by_form, first_cells_of}

-- there is an item before the end
pub there_is : {X : Type 0} (xs : List X) (i : ℕ) → i < length xs → (x : X) × (slice_get xs i ≡ Some x)
there_is [] i less = absurd (omega (arith, less))
there_is (x ∷ xs) zero less = (x, refl)
there_is (x ∷ xs) (suc i) less = there_is xs i (omega (arith, less))

-- what belongs to one item more
pub flat_more : {X Y : Type 0} (f : X → List Y) (xs : List X) (i : ℕ) (x : X) → slice_get xs i ≡ Some x →
    flat_map f (take (i + 1) xs) ≡ flat_map f (take i xs) ++ f x
flat_more f [] i x at = absurd (let e : None ≡ Some x = at in cc)
flat_more f (y ∷ xs) zero x at =
    let same : y ≡ x = let e : Some y ≡ Some x = at in cc in append-nil (f y) ∙ ap f same
flat_more f (y ∷ xs) (suc i) x at =
    let next : suc i + 1 ≡ suc (i + 1) = omega arith in
    ap (λ n. flat_map f (take n (y ∷ xs))) next ∙ ap (λ l. f y ++ l) (flat_more f xs i x at)
    ∙ sym (append_assoc (f y) (flat_map f (take i xs)) (f x))

-- all items up to the end
pub take_whole : {X : Type 0} (xs : List X) (i : ℕ) → length xs ≤ i → take i xs ≡ xs
take_whole [] zero le = refl
take_whole [] (suc i) le = refl
take_whole (x ∷ xs) zero le = absurd (omega (arith, le))
take_whole (x ∷ xs) (suc i) le = ap (λ l. x ∷ l) (take_whole xs i (omega (arith, le)))

-- the first cells of a message variable
pub message_first : (names : Names) (v : Variable) (s : Scope) (token : ℕ) (type_ : MessageType) (init : Option Init) → v.form ≡ Message type_ →
    s ≡ scope_of names v → token ≡ v.token → init ≡ v.init → message_cells (first_message s token type_ init) ≡ first_cells_of names v
message_first names v s token type_ init form scope_is token_is init_is =
    ap (λ s. message_cells (first_message s token type_ init)) scope_is
    ∙ ap (λ t. message_cells (first_message (scope_of names v) t type_ init)) token_is
    ∙ ap (λ i. message_cells (first_message (scope_of names v) v.token type_ i)) init_is
    ∙ sym (ap (first_by_form names v (elements_of names v)) form)

-- elements up to one more
pub row_more : (f : ℕ → ℤ) (i : ℕ) → row f 0 (i + 1) ≡ row f 0 i ++ f i ∷ []
row_more f i = let start : 0 + i ≡ i = omega arith in row_parts f 0 i 1 ∙ ap (λ k. row f 0 i ++ f k ∷ []) start

-- the cells of a message: its fields, and then its bytes
pub cells_are : (message : held.Message) (m : MessageRecord) (fields bytes : List ℕ) → IsMessage message m →
    fields ≡ message.id ∷ message.dlc ∷ message.rtr ∷ message.can ∷ 0 ∷ 0 ∷ [] → bytes ≡ message.payload →
    map pos fields ++ map pos bytes ≡ message_cells m
cells_are message m fields bytes held fields_are bytes_are =
    ap (λ l. map pos l ++ map pos bytes) fields_are
    ∙ ap (λ l. pos message.id ∷ pos message.dlc ∷ pos message.rtr ∷ pos message.can ∷ pos 0 ∷ pos 0 ∷ map pos l) bytes_are
    ∙ ap (λ l. pos message.id ∷ pos message.dlc ∷ pos message.rtr ∷ pos message.can ∷ pos 0 ∷ pos 0 ∷ l) (sym held.bytes)
    ∙ ap (λ x. x ∷ pos message.dlc ∷ pos message.rtr ∷ pos message.can ∷ pos 0 ∷ pos 0 ∷ row m.byte 0 8) (sym held.id)
    ∙ ap (λ x. m.id ∷ x ∷ pos message.rtr ∷ pos message.can ∷ pos 0 ∷ pos 0 ∷ row m.byte 0 8) (sym held.dlc)
    ∙ ap (λ x. m.id ∷ m.dlc ∷ x ∷ pos message.can ∷ pos 0 ∷ pos 0 ∷ row m.byte 0 8) (sym held.rtr)
    ∙ ap (λ x. m.id ∷ m.dlc ∷ m.rtr ∷ x ∷ pos 0 ∷ pos 0 ∷ row m.byte 0 8) (sym held.can)
    ∙ ap (λ x. m.id ∷ m.dlc ∷ m.rtr ∷ m.can ∷ x ∷ pos 0 ∷ row m.byte 0 8) (sym held.dir)
    ∙ ap (λ x. m.id ∷ m.dlc ∷ m.rtr ∷ m.can ∷ m.dir ∷ x ∷ row m.byte 0 8) (sym held.time)

-- the first cells of a variable are as many as its cells
first_long : (names : Names) (v : Variable) → length (first_cells_of names v) ≡ cell_count names v
first_long names v = by_form v.form
  where
    by_form : (form : Form) → length (first_by_form names v (elements_of names v) form) ≡ cells_by_form (elements_of names v) form
    by_form (Number k fixed) = refl
    by_form (Array k fixed size) = row_long (λ i. element_of_form names v i (Array k fixed size)) 0 (elements_of names v)
    by_form (Message type_) = refl
    by_form (Timer unit) = refl
    by_form Misfit = refl

-- a variable has no more cells than count for it
count_within : (elements : ℕ) (form : Form) → cells_by_form elements form ≤ size_of_form elements form
count_within elements (Number k fixed) = omega arith
count_within elements (Array k fixed size) = omega arith
count_within elements (Message type_) = omega arith
count_within elements (Timer unit) = omega arith
count_within elements Misfit = omega arith

-- the first cells of the variables before one, with its own, are no more than count for all
pub cells_within : (names : Names) (vs : List Variable) (i : ℕ) (v : Variable) → slice_get vs i ≡ Some v →
    length (flat_map (first_cells_of names) (take i vs)) + cell_count names v ≤ sum_by (λ v. size_of_form (elements_of names v) v.form) vs
cells_within names [] i v at = absurd (let e : None ≡ Some v = at in cc)
cells_within names (u ∷ vs) zero v at =
    let here : u ≡ v = let e : Some u ≡ Some v = at in cc in
    let same = ap (cell_count names) here in
    omega (arith, same, count_within (elements_of names u) u.form, sum_by-cons (λ v. size_of_form (elements_of names v) v.form) u vs)
cells_within names (u ∷ vs) (suc i) v at =
    omega (
      arith,
      cells_within names vs i v at,
      count_within (elements_of names u) u.form,
      first_long names u,
      length-append (first_cells_of names u) (flat_map (first_cells_of names) (take i vs)),
      sum_by-cons (λ v. size_of_form (elements_of names v) v.form) u vs,
    )

-- the room for a variable is that for its form
pub room_of : (names : Names) (number cell : ℕ) (form : Form) →
    ((v : Variable) → slice_get names.variables number ≡ Some v → cell + cell_count names v < 2 ^ 32) →
    (v : Variable) → Some v ≡ slice_get names.variables number →
    form ≡ option_map_or (λ v. v.form) (slice_get names.variables number) Misfit →
    cell + cells_by_form (elements_of names v) form < 2 ^ 32
room_of names number cell form room v at is =
    subst (λ (f : Form). cell + cells_by_form (elements_of names v) f < 2 ^ 32)
    (sym (is ∙ ap (λ (o : Option Variable). option_map_or (λ v. v.form) o Misfit) (sym at)))
    (room v (sym at))

-- what holds of all things holds of that of a number
pub all_at : {X : Type 0} (Holds : X → Type 0) (xs : List X) (i : ℕ) (x : X) → All Holds xs → slice_get xs i ≡ Some x → Holds x
all_at Holds xs i x all at = subst Holds (get_or_from_slice_get xs i x x at) (All-get_or Holds xs i x (slice_get_within xs i x at) all)

-- the identifier of a message is that of its variable
pub identifier_of : (names : Names) (number : ℕ) (type_ : MessageType) →
    ((v : Variable) → slice_get names.variables number ≡ Some v → IsDeclaredShort v.form) →
    (v : Variable) → Some v ≡ slice_get names.variables number →
    Message type_ ≡ option_map_or (λ v. v.form) (slice_get names.variables number) Misfit →
    HasShortIdentifier type_
identifier_of names number type_ short v at is =
    subst IsDeclaredShort (sym (is ∙ ap (λ (o : Option Variable). option_map_or (λ v. v.form) o Misfit) (sym at)))
    (short v (sym at))
