-- The initial values of a program that breaks no rule are held by their cells' kinds.
use Rattle.std.proofs.Common.{◌≡◌, ℕ, zero, suc, ◌+◌, ◌-◌, ◌≤◌, ◌<◌, ◌^◌, inl, inr, Bool, true, false, ◌&&◌, List, [], ◌∷◌, ◌++◌, length, Option, Some, None, get_or, refl, sym, subst, arith, append_assoc, length-append, lit<}
use Rattle.std.specs.Prelude.{All, IfSome, IsSomeAnd, ℤ, pos, negsuc, flat_map, fold, if◌then◌else◌, nat_le, nat_lt, replicate, slice_get, slice_index_or}
use Rattle.std.specs.List.{AllByRecursion, AllZip}
use Rattle.std.specs.Option.{option_map_or}
use Rattle.std.specs.Ordering.{int_eq}
use Rattle.std.proofs.lemmas.Int.{ints}
use Rattle.std.proofs.lemmas.List.Elements.{All-from_recursion}
use Rattle.int_kinds.specs.declared.kinds.Kind.{Kind}
use Rattle.int_kinds.specs.declared.kinds.Kind.TheVariants as kind
use Rattle.int_kinds.specs.Kind.{Holds, wrap}
use Rattle.int_kinds.proofs.Values.{Holds-truth}
use Rattle.int_kinds.proofs.Wrapping.{Holds-wrap}
use Rattle.signal_codec.specs.declared.layout.Layout.{Layout}
use Rattle.signal_codec.specs.Signal.{IsUsable, payload_with}
use Rattle.signal_codec.proofs.Payloads.{IsPayload, IsPayload-payload_with}
use Rattle.message_cells.specs.Cells.{IsHeldStart}
use Rattle.message_cells.specs.Message.{bytes_of, message_kinds}
use Rattle.bytecode.proofs.MessageCells.{AreBytes, AreBytes-bytes_of, AreBytes-payload}
use Rattle.bytecode.proofs.Numbers.{Holds-written_can, Holds-written_dlc, Holds-written_id, Holds-written_rtr}
use Rattle.dbc_reader.specs.declared.message.DbcMessage.{DbcMessage}
use Rattle.dbc_reader.specs.declared.signals.DbcSignal.{DbcSignal}
use Rattle.capl_tree.specs.declared.declaration.Init.{Init}
use Rattle.capl_tree.specs.declared.declaration.Init.TheVariants.{One, Many}
use Rattle.capl_tree.specs.declared.declaration.Item.{Item}
use Rattle.capl_tree.specs.declared.declaration.Item.TheVariants.{Plain, Set}
use Rattle.capl_tree.specs.declared.expr.Expr.{Expr}
use Rattle.capl_tree.specs.declared.expr.Expr.TheVariants as expr
use Rattle.capl_tree.specs.declared.expr.Field.TheVariants.{Named}
use Rattle.capl_tree.specs.Forms as tree
use Rattle.capl_tree.specs.Place.{expression_place}
use Rattle.capl_tree.specs.declared.file.Program.{Program}
use Rattle.typed_tree.specs.declared.expression.Place.TheVariants as place
use Rattle.typed_tree.specs.declared.program.Typed.{Typed}
use Rattle.typed_tree.specs.SoundExpression.{IsSoundExpr}
use Rattle.capl_meaning.specs.declared.field.MessageField.{MessageField}
use Rattle.capl_meaning.specs.declared.field.MessageField.TheVariants.{Id, Dlc, Rtr, Can, Dir, Time}
use Rattle.capl_meaning.specs.Variable.{Form, Number, Array, Message, MessageType, ByIdentifier, ByName, Timer, Misfit, Variable}
use Rattle.capl_meaning.specs.Names.{Names, Scope, ThisFrame, names_of}
use Rattle.capl_meaning.specs.Format.{quoted_text}
use Rattle.capl_meaning.specs.Message.{NamedMember, IsField, IsSignal, IsUnusable, IsUnknown, member_named, signals_of_type}
use Rattle.capl_meaning.specs.Sort.{sort_of_member}
use Rattle.capl_meaning.specs.Constant.{Constant, constant, elements_of, first_number, known_before, length_at, scope_of}
use Rattle.capl_meaning.specs.ExpressionRules.{offences}
use Rattle.capl_meaning.specs.DeclarationRules.{initialiser_offences, one_for_array, one_rules}
use Rattle.capl_meaning.specs.Offences.{offences_of}
use Rattle.capl_meaning.specs.Initial.{declared_message, element_of_form, first_element, first_message, first_store, initial_items, message_of_form, constant_number, number_of_form, number_of_item, number_of_text, plain_message, with_bytes_at, with_field_item, with_item, with_member}
use Rattle.capl_meaning.specs.Store.{MessageRecord, byte_after, event_kinds, kinds_by, laid_kinds, lay, message_cells, payload, row, with_bytes, with_field, with_payload, with_signal}
use Rattle.typed_laws.specs.Laid.{HasForm, IsAmong}
use Rattle.typed_laws.specs.Starts.{first_by_form, first_cells_of}
use Rattle.typed_laws.proofs.Distinct.{distinct_without_offences}
use Rattle.typed_laws.proofs.Starts.{first_laid}
use Rattle.typed_source.specs.Expression.{loaded, place_of_member}
use Rattle.typed_source.specs.Program.{starts_from, typed_program}
use Rattle.typed_source.specs.Sound.{HasTables, IsOfNumber}
use Rattle.typed_source.proofs.SoundExpressions.{sound}
use Rattle.sound_programs.specs.Given.{IsReadable}
use Rattle.sound_programs.specs.Small.{IsSmallExpr, IsSmallInit}
use Rattle.sound_programs.proofs.Declarations.{IsHeldType, declared_in, well_declared}
use Rattle.sound_programs.proofs.Empty.{back, full}
use Rattle.sound_programs.proofs.Procedures.{tables_there}
use Rattle.sound_programs.proofs.SmallDeclarations.{small_init}

-- ---- numbers of kinds

-- each kind has 0
holds_zero : (k : Kind) → Holds k (pos 0)
holds_zero k = Holds-truth k false

holds_byte : (n : ℕ) → n < 256 → Holds kind.Byte (pos n)
holds_byte n h = record { at_least = omega (arith, ints); at_most = omega (arith, ints, h) }

each_byte : (bytes : List ℕ) → AreBytes bytes → (i : ℕ) → get_or bytes i 0 < 256
each_byte [] h i = lit< tt
each_byte (b ∷ bytes) h zero = h.0
each_byte (b ∷ bytes) h (suc i) = each_byte bytes h.1 i

-- the first value of a number
held_number : (known : List Constant) (s : Scope) (k : Kind) (init : Option Init) → Holds k (first_number known s k init)
held_number known s k None = holds_zero k
held_number known s k (Some (Many items at)) = holds_zero k
held_number known s k (Some (One e)) = go (constant known s e)
  where
    go : (o : Option ℤ) → Holds k (option_map_or (wrap k) o (pos 0))
    go None = holds_zero k
    go (Some n) = Holds-wrap k n

-- ---- elements

held_item : (s : Scope) (token : ℕ) (k : Kind) (o : Option Item) → Holds k (number_of_item s token k o)
held_item s token k None = holds_zero k
held_item s token k (Some (Plain value)) = Holds-wrap k (constant_number s token value)
held_item s token k (Some (Set field value)) = holds_zero k

-- a text for an array that breaks no rule is of characters
text_for : (s : Scope) (at : ℕ) (k : Kind) (elements : Option ℕ) (text : List ℕ) → one_for_array s at k elements (Some text) ≡ [] → k ≡ kind.Char
text_for s at kind.Char elements text none = refl
text_for s at other elements text none = absurd (full _ _ none)

-- the bytes of a small text
text_bytes : (e : Expr) (text : List ℕ) → IsSmallExpr e → quoted_text e ≡ Some text → AreBytes text
text_bytes (tree.Paren inner at) text few is = text_bytes inner text few is
text_bytes (expr.Str bytes at) text few is =
    let same : bytes ≡ text = let f : Some bytes ≡ Some text = is in cc in
    subst (λ l. AllByRecursion (λ byte. byte < 256) l) same few.1
text_bytes e text few is = absurd (let f : None ≡ Some text = is in cc)

held_text : (k : Kind) (i : ℕ) (text : List ℕ) → k ≡ kind.Char → AreBytes text → Holds k (number_of_text i (Some text))
held_text k i text is bytes =
    let h : get_or text i 0 < 256 = each_byte text bytes i in
    subst (λ j. Holds j (pos (get_or text i 0))) (sym is) (record { at_least = omega (arith, ints); at_most = omega (arith, ints, h) })

-- the first value of an element
held_element : (s : Scope) (token : ℕ) (names : Names) (k : Kind) (fixed : Bool) (size : Expr) (init : Option Init) (i : ℕ) → IfSome init IsSmallInit →
    (t : Scope) → option_map_or (initialiser_offences t token (Array k fixed size)) init [] ≡ [] → Holds k (first_element s token k init i)
held_element s token names k fixed size None i few t none = holds_zero k
held_element s token names k fixed size (Some (Many items at)) i few t none = held_item s token k (slice_get items i)
held_element s token names k fixed size (Some (One e)) i few t none = go (quoted_text e) refl (back (offences t e) _ none)
  where
    go : (o : Option (List ℕ)) → quoted_text e ≡ o → one_for_array t (expression_place e) k (length_at t token size) o ≡ [] → Holds k (number_of_text i o)
    go None is rules = holds_zero k
    go (Some text) is rules = held_text k i text (text_for t (expression_place e) k (length_at t token size) text rules) (text_bytes e text few is)

-- ---- messages

-- a message whose fields and bytes are held by their kinds
record IsHeldRecord (m : MessageRecord) : Type 0 where
  id : Holds kind.Dword m.id
  dlc : Holds kind.Byte m.dlc
  rtr : Holds kind.Byte m.rtr
  can : Holds kind.Word m.can
  dir : Holds kind.Byte m.dir
  time : Holds kind.Dword m.time
  byte : (j : ℕ) → Holds kind.Byte (m.byte j)

held_plain : (id dlc : ℕ) → id < 2 ^ 32 → dlc ≤ 8 → IsHeldRecord (plain_message id dlc)
held_plain id dlc few short = record {
  id = record { at_least = omega (arith, ints); at_most = omega (arith, ints, few) };
  dlc = record { at_least = omega (arith, ints); at_most = omega (arith, ints, short) };
  rtr = holds_zero kind.Byte;
  can = record { at_least = omega (arith, ints); at_most = omega (arith, ints) };
  dir = holds_zero kind.Byte;
  time = holds_zero kind.Dword;
  byte = λ j. holds_zero kind.Byte;
}

held_declared : (type_ : MessageType) → IsHeldType (Message type_) → IsHeldRecord (declared_message type_)
held_declared (ByIdentifier id) h = held_plain id 8 h (omega arith)
held_declared (ByName None) h = held_plain 0 8 (omega arith) (omega arith)
held_declared (ByName (Some m)) h = held_plain m.id m.len h.0 h.1

held_field : (f : MessageField) (n : ℤ) (m : MessageRecord) → IsHeldRecord m → IsHeldRecord (with_field f n m)
held_field Id n m h = record { id = Holds-written_id n; dlc = h.dlc; rtr = h.rtr; can = h.can; dir = h.dir; time = h.time; byte = h.byte }
held_field Dlc n m h = record { id = h.id; dlc = Holds-written_dlc n; rtr = h.rtr; can = h.can; dir = h.dir; time = h.time; byte = h.byte }
held_field Rtr n m h = record { id = h.id; dlc = h.dlc; rtr = Holds-written_rtr n; can = h.can; dir = h.dir; time = h.time; byte = h.byte }
held_field Can n m h = record { id = h.id; dlc = h.dlc; rtr = h.rtr; can = Holds-written_can n; dir = h.dir; time = h.time; byte = h.byte }
held_field Dir n m h = h
held_field Time n m h = h

held_payload : (from : ℕ) (bytes : List ℕ) (m : MessageRecord) → ((i : ℕ) → get_or bytes i 0 < 256) → IsHeldRecord m → IsHeldRecord (with_payload from bytes m)
held_payload from bytes m are h = record {
  id = h.id;
  dlc = h.dlc;
  rtr = h.rtr;
  can = h.can;
  dir = h.dir;
  time = h.time;
  byte = λ j. go j (nat_le from j && nat_lt j (from + length bytes));
}
  where
    go : (j : ℕ) (b : Bool) → Holds kind.Byte (if b then pos (slice_index_or bytes (j - from) 0) else m.byte j)
    go j true = holds_byte (get_or bytes (j - from) 0) (are (j - from))
    go j false = h.byte j

-- a signal stored in a message
held_signal : (l : Layout) (n : ℤ) (m : MessageRecord) → IsUsable l → IsHeldRecord m → IsHeldRecord (with_signal l n m)
held_signal l n m usable h =
    let bytes : IsPayload (payload m) = record { eight = refl; bytes = each_byte (payload m) (AreBytes-payload (message_cells m)) } in
    held_payload 0 (payload_with l (payload m) n) m (IsPayload-payload_with l (payload m) n usable bytes).bytes h

module _ (names : Names) (typed : Typed) (tables : HasTables names typed) where
  -- A signal that is a member can be used: in a procedure for its message the tree of `this` and its name is sound.
  usable : (signals : Option (List DbcSignal)) (name : _) (l : Layout) → member_named signals name ≡ IsSignal l → IsUsable l
  usable signals name l is =
      let s : Scope = record { names = names; owner = 0; file = 0; this = ThisFrame signals; gives = None } in
      let number : IsOfNumber (sort_of_member (member_named signals name)) = subst (λ m. IsOfNumber (sort_of_member m)) (sym is) tt in
      let whole : IsSoundExpr typed 0 (loaded (place_of_member 0 (member_named signals name))) = sound typed 0 s [] tables (tree.Member (expr.This 0) (Named name 0) 0) number tt in
      let load : IsSoundExpr typed 0 (loaded (Some (place.Signal 0 l))) = subst (λ m. IsSoundExpr typed 0 (loaded (place_of_member 0 m))) is whole in
      load.0.names_exist.0

  held_member : (signals : Option (List DbcSignal)) (name : _) (n : ℤ) (m : MessageRecord) → IsHeldRecord m → IsHeldRecord (with_member (member_named signals name) n m)
  held_member signals name n m h = go (member_named signals name) refl
    where
      go : (x : NamedMember) → member_named signals name ≡ x → IsHeldRecord (with_member x n m)
      go (IsField f) is = held_field f n m h
      go (IsSignal layout) is = held_signal layout n m (usable signals name layout is) h
      go IsUnusable is = h
      go (IsUnknown by_name) is = h

  held_bytes : (k : Kind) (at n : ℤ) (m : MessageRecord) → IsHeldRecord m → IsHeldRecord (with_bytes_at k at n m)
  held_bytes k (pos i) n m h = held_payload i (bytes_of k n) m (each_byte (bytes_of k n) (AreBytes-bytes_of k n)) h
  held_bytes k (negsuc i) n m h = h

  held_with : (s : Scope) (token : ℕ) (signals : Option (List DbcSignal)) (m : MessageRecord) (item : Item) → IsHeldRecord m → IsHeldRecord (with_item s token signals m item)
  held_with s token signals m (Plain value) h = h
  held_with s token signals m (Set (Named name at) value) h = held_member signals name (constant_number s token value) m h
  held_with s token signals m (Set (tree.Bytes k index at) value) h = held_bytes k (constant_number s token index) (constant_number s token value) m h

  held_items : (s : Scope) (token : ℕ) (signals : Option (List DbcSignal)) (items : List Item) (m : MessageRecord) → IsHeldRecord m → IsHeldRecord (fold (with_item s token signals) m items)
  held_items s token signals [] m h = h
  held_items s token signals (item ∷ items) m h = held_items s token signals items (with_item s token signals m item) (held_with s token signals m item h)

  -- the first value of a message
  held_message : (s : Scope) (token : ℕ) (type_ : MessageType) (init : Option Init) → IsHeldType (Message type_) → IsHeldRecord (first_message s token type_ init)
  held_message s token type_ init h = held_items s token (signals_of_type type_) (initial_items init) (declared_message type_) (held_declared type_ h)

-- ---- cells

held_row : (k : Kind) (f : ℕ → ℤ) (from n : ℕ) → ((i : ℕ) → Holds k (f i)) → AllZip Holds (replicate n k) (row f from n)
held_row k f from zero h = tt
held_row k f from (suc n) h = (h from, held_row k f (suc from) n h)

held_cells : (m : MessageRecord) → IsHeldRecord m → AllZip Holds message_kinds (message_cells m)
held_cells m h = (h.id, (h.dlc, (h.rtr, (h.can, (h.dir, (h.time, held_row kind.Byte m.byte 0 8 h.byte))))))

zip_append : {A B : Type 0} (R : A → B → Type 0) (xs xs' : List A) (ys ys' : List B) → AllZip R xs ys → AllZip R xs' ys' → AllZip R (xs ++ xs') (ys ++ ys')
zip_append R [] xs' [] ys' h g = g
zip_append R [] xs' (y ∷ ys) ys' h g = elim h [ ]
zip_append R (x ∷ xs) xs' [] ys' h g = elim h [ ]
zip_append R (x ∷ xs) xs' (y ∷ ys) ys' h g = (h.0, zip_append R xs xs' ys ys' h.1 g)

-- starts from a cell on are held by the kinds from there on
starts_held : (front kinds : List Kind) (cells : List ℤ) (n : ℕ) → n ≡ length front → AllZip Holds kinds cells → AllByRecursion (IsHeldStart (front ++ kinds)) (starts_from n cells)
starts_held front [] [] n is h = tt
starts_held front [] (c ∷ cells) n is h = elim h [ ]
starts_held front (k ∷ kinds) [] n is h = elim h [ ]
starts_held front (k ∷ kinds) (c ∷ cells) n is h =
    let more : length (front ++ k ∷ []) ≡ length front + 1 = length-append front (k ∷ []) in
    let next : suc n ≡ length (front ++ k ∷ []) = omega (arith, more, is) in
    let rest = subst (λ l. AllByRecursion (IsHeldStart l) (starts_from (suc n) cells)) (append_assoc front (k ∷ []) kinds) (starts_held (front ++ k ∷ []) kinds cells (suc n) next h.1) in
    go (int_eq c (pos 0)) rest
  where
    here : (xs : List Kind) → slice_get (xs ++ k ∷ kinds) (length xs) ≡ Some k
    here [] = refl
    here (x ∷ xs) = here xs

    first : IsHeldStart (front ++ k ∷ kinds) (n, c)
    first = subst (λ i. IsSomeAnd (slice_get (front ++ k ∷ kinds) i) (λ j. Holds j c)) (sym is) (subst (λ o. IsSomeAnd o (λ j. Holds j c)) (sym (here front)) h.0)

    go : (b : Bool) → AllByRecursion (IsHeldStart (front ++ k ∷ kinds)) (starts_from (suc n) cells) →
        AllByRecursion (IsHeldStart (front ++ k ∷ kinds)) (if b then starts_from (suc n) cells else (n, c) ∷ starts_from (suc n) cells)
    go true rest = rest
    go false rest = (first, rest)

module _ (base : List DbcMessage) (program : Program) (order : List ℕ) (line : ℕ → ℕ → ℕ) (readable : IsReadable program) (none : offences_of base program ≡ []) where
  abbrev names : Names
  names = names_of base program

  abbrev whole : Typed
  whole = typed_program base program order line

  -- the first cells of a variable
  variable_held : (v : Variable) → IsAmong v names.variables → AllZip Holds (kinds_by (elements_of names v) v.form) (first_cells_of names v)
  variable_held v among =
      let well = well_declared base program none v among in
      by v.form refl well.held (declared_in names v well.this well.gives) well.init
    where
      by : (form : Form) → v.form ≡ form → IsHeldType form → (t : Scope) → option_map_or (initialiser_offences t v.token form) v.init [] ≡ [] →
          AllZip Holds (kinds_by (elements_of names v) form) (first_by_form names v (elements_of names v) form)
      by (Number k fixed) is h t rules = (held_number (known_before (scope_of names v) v.token) (scope_of names v) k v.init, tt)
      by (Array k fixed size) is h t rules =
          held_row k (λ i. element_of_form names v i (Array k fixed size)) 0 (elements_of names v)
          (λ i. held_element (scope_of names v) v.token names k fixed size v.init i (small_init base program readable v among) t rules)
      by (Message type_) is h t rules =
          held_cells (message_of_form names v (Message type_)) (held_message names whole (tables_there base program order line readable none) (scope_of names v) v.token type_ v.init h)
      by (Timer unit) is h t rules = tt
      by Misfit is h t rules = tt

  variables_held : (vs : List Variable) → ((v : Variable) → IsAmong v vs → IsAmong v names.variables) →
      AllZip Holds (flat_map (λ v. kinds_by (elements_of names v) v.form) vs) (flat_map (first_cells_of names) vs)
  variables_held [] all = tt
  variables_held (v ∷ vs) all =
      zip_append Holds (kinds_by (elements_of names v) v.form) (flat_map (λ v. kinds_by (elements_of names v) v.form) vs) (first_cells_of names v) (flat_map (first_cells_of names) vs)
      (variable_held v (all v (inl refl))) (variables_held vs (λ u among. all u (inr among)))

  -- the first cells are held by their kinds
  pub all_held : AllZip Holds (laid_kinds (names_of base program)) (lay (names_of base program) (first_store (names_of base program)))
  all_held =
      let laid : lay names (first_store names) ≡ flat_map (first_cells_of names) names.variables = first_laid names (distinct_without_offences base program none) in
      subst (λ l. AllZip Holds (laid_kinds names) l) (sym laid) (variables_held names.variables (λ v among. among))

  -- the initial values are held
  pub starts_fine : All (IsHeldStart (typed_program base program order line).cells) (typed_program base program order line).starts
  starts_fine = All-from_recursion (IsHeldStart whole.cells) whole.starts (starts_held event_kinds (laid_kinds names) (lay names (first_store names)) 15 refl all_held)
