-- Reading and storing in the cells that a store is laid out in.
use Rattle.std.proofs.Common.{◌≡◌, ℕ, zero, suc, ◌+◌, ◌<◌, ◌≤◌, Bool, true, false, ◌&&◌, List, [], ◌∷◌, ◌++◌, length, refl, sym, ap, ◌∙◌, arith, length-append, append_assoc, get_or, set, get_or-take, get_or-drop}
use Rattle.std.specs.Prelude.{ℤ, pos, ◌==◌, nat_eq, if◌then◌else◌, map, take, drop, replicate, slice_set}
use Rattle.std.specs.List.{splice}
use Rattle.std.proofs.lemmas.Bool.{eqb-true}
use Rattle.std.proofs.lemmas.Cmp.{nat_eq_equiv}
use Rattle.std.proofs.lemmas.List.{length-set}
use Rattle.int_kinds.specs.declared.kinds.Kind.{Kind}
use Rattle.int_kinds.specs.declared.kinds.Kind.TheVariants.{Long}
use Rattle.int_kinds.specs.Kind.{wrap}
use Rattle.int_kinds.specs.Arithmetic.{residue}
use Rattle.signal_codec.specs.declared.layout.Layout.{Layout}
use Rattle.signal_codec.specs.Signal.{bit_numbers, payload_with, payload_with_bits, signal_value}
use Rattle.message_cells.specs.Message.{bytes_of, bytes_of_number, message_of, number_at, payload_of, size, with_bytes, with_message as with_message_at, written_can, written_dlc, written_id, written_rtr}
use Rattle.capl_meaning.specs.declared.field.MessageField.TheVariants.{Id, Dlc, Rtr, Can, Dir, Time}
use Rattle.capl_meaning.specs.Variable.{Form, Number, Array, Message, MessageType, Timer, Misfit, Variable}
use Rattle.capl_meaning.specs.Names.{Names}
use Rattle.capl_meaning.specs.Message.{Held, HeldFrame, HeldVariable}
use Rattle.capl_meaning.specs.Constant.{elements_of}
use Rattle.capl_meaning.specs.Store.{MessageRecord, Store, This, cells_by, cells_of, event_cells, event_kinds, variable_key, kinds_by, laid_kinds, lay, message_cells, payload, row, same_key, with_element, with_message, with_number, with_payload}
use Rattle.capl_meaning.specs.Expression.{InBytes, InElement, InField, InNumber, InSignal, Nowhere, held_message}
use Rattle.capl_meaning.specs.Expression as source
use Rattle.typed_tree.specs.Memory as typed
use Rattle.typed_laws.specs.Laid.{AreDistinct, HasForm, IsAmong, IsHeld, IsOpen, IsReal, cell_count, cells_by_form, laid_spot, message_slot, slot}
use Rattle.typed_laws.proofs.Lists.{at_middle, replicate_at, replicate_long, row_at, row_long, row_same, row_set, row_splice, set_middle, splice_middle, take_middle}
use Rattle.typed_laws.proofs.Parts.{key_self, parted}

-- the cells of the event and of all variables
abbrev pub all_cells : Names → This → Store → List ℤ
all_cells names this s = event_cells this ++ lay names s

-- the kinds of the event's cells and of those of all variables
abbrev pub all_kinds : Names → List Kind
all_kinds names = event_kinds ++ laid_kinds names

cells_long : (names : Names) (s : Store) (v : Variable) → length (cells_of names s v) ≡ cell_count names v
cells_long names s v = by_form v.form
  where
    by_form : (form : Form) → length (cells_by s (variable_key v) (elements_of names v) form) ≡ cells_by_form (elements_of names v) form
    by_form (Number k fixed) = refl
    by_form (Array k fixed size) = row_long (s.element (variable_key v)) 0 (elements_of names v)
    by_form (Message type_) = refl
    by_form (Timer unit) = refl
    by_form Misfit = refl

kinds_long : (names : Names) (v : Variable) → length (kinds_by (elements_of names v) v.form) ≡ cell_count names v
kinds_long names v = by_form v.form
  where
    by_form : (form : Form) → length (kinds_by (elements_of names v) form) ≡ cells_by_form (elements_of names v) form
    by_form (Number k fixed) = refl
    by_form (Array k fixed size) = replicate_long (elements_of names v) k
    by_form (Message type_) = refl
    by_form (Timer unit) = refl
    by_form Misfit = refl

-- a store in which the cells of one variable alone may differ
abbrev OnlyAt : Names → Variable → Store → Store → Type 0
OnlyAt names v s after = (u : Variable) → same_key (variable_key u) (variable_key v) ≡ false → cells_of names after u ≡ cells_of names s u

-- all cells, around those of one variable
record Around (names : Names) (this : This) (v : Variable) (s : Store) : Type 0 where
  before : List ℤ
  behind : List ℤ
  at : length before ≡ slot names (variable_key v)
  whole : (after : Store) → OnlyAt names v s after → all_cells names this after ≡ before ++ (cells_of names after v ++ behind)

module _ (names : Names) (distinct : AreDistinct names.variables) (this : This) (v : Variable) (among : IsAmong v names.variables) where
  around : (s : Store) → Around names this v s
  around s =
      let p = parted names (cells_of names s) (cells_long names s) names.variables distinct v among in
      record {
        before = event_cells this ++ p.0;
        behind = p.1;
        at = length-append (event_cells this) p.0 ∙ ap (λ n. 15 + n) p.2;
        whole = λ after only. ap (λ l. event_cells this ++ l) (p.3 (cells_of names after) only) ∙ sym (append_assoc (event_cells this) p.0 (cells_of names after v ++ p.1));
      }

  -- what stands in a cell of the variable
  cell_at : (s : Store) (own : List ℤ) → cells_of names s v ≡ own → (i : ℕ) → i < length own → (d : ℤ) →
      get_or (all_cells names this s) (slot names (variable_key v) + i) d ≡ get_or own i d
  cell_at s own is i less d =
      let a = around s in
      ap (λ l. get_or l (slot names (variable_key v) + i) d) (a.whole s (λ u _. refl) ∙ ap (λ l. a.before ++ (l ++ a.behind)) is)
      ∙ ap (λ n. get_or (a.before ++ (own ++ a.behind)) (n + i) d) (sym a.at)
      ∙ at_middle a.before own a.behind i d less

  -- one cell of the variable changes
  cell_set : (s after : Store) (own : List ℤ) → cells_of names s v ≡ own → OnlyAt names v s after → (i : ℕ) → i < length own → (x : ℤ) →
      cells_of names after v ≡ set own i x → all_cells names this after ≡ slice_set (all_cells names this s) (slot names (variable_key v) + i) x
  cell_set s after own is only i less x now =
      let a = around s in
      a.whole after only ∙ ap (λ l. a.before ++ (l ++ a.behind)) now
      ∙ sym (ap (λ l. slice_set l (slot names (variable_key v) + i) x) (a.whole s (λ u _. refl) ∙ ap (λ l. a.before ++ (l ++ a.behind)) is)
      ∙ ap (λ n. slice_set (a.before ++ (own ++ a.behind)) (n + i) x) (sym a.at)
      ∙ set_middle a.before own a.behind i x less)

  -- some neighbouring cells of the variable change
  cells_put : (s after : Store) (own : List ℤ) → cells_of names s v ≡ own → OnlyAt names v s after → (i j : ℕ) → i ≤ length own → j ≤ length own → (new : List ℤ) →
      cells_of names after v ≡ splice own i j new → all_cells names this after ≡ splice (all_cells names this s) (slot names (variable_key v) + i) (slot names (variable_key v) + j) new
  cells_put s after own is only i j first last new now =
      let a = around s in
      a.whole after only ∙ ap (λ l. a.before ++ (l ++ a.behind)) now
      ∙ sym (ap (λ l. splice l (slot names (variable_key v) + i) (slot names (variable_key v) + j) new) (a.whole s (λ u _. refl) ∙ ap (λ l. a.before ++ (l ++ a.behind)) is)
      ∙ ap (λ n. splice (a.before ++ (own ++ a.behind)) (n + i) (n + j) new) (sym a.at)
      ∙ splice_middle a.before own a.behind new i j first last)

  -- the kind of a cell of the variable
  kind_at : (i : ℕ) → i < cell_count names v → (own : List Kind) → kinds_by (elements_of names v) v.form ≡ own → typed.kind_of (all_kinds names) (slot names (variable_key v) + i) ≡ get_or own i Long
  kind_at i less own is =
      let f : Variable → List Kind = λ u. kinds_by (elements_of names u) u.form in
      let p = parted names f (kinds_long names) names.variables distinct v among in
      let at : length (event_kinds ++ p.0) ≡ slot names (variable_key v) = length-append event_kinds p.0 ∙ ap (λ n. 15 + n) p.2 in
      let whole : all_kinds names ≡ (event_kinds ++ p.0) ++ (own ++ p.1) =
      ap (λ l. event_kinds ++ l) (p.3 f (λ u _. refl)) ∙ sym (append_assoc event_kinds p.0 (f v ++ p.1)) ∙ ap (λ l. (event_kinds ++ p.0) ++ (l ++ p.1)) is in
      ap (λ l. get_or l (slot names (variable_key v) + i) Long) whole
      ∙ ap (λ n. get_or ((event_kinds ++ p.0) ++ (own ++ p.1)) (n + i) Long) (sym at)
      ∙ at_middle (event_kinds ++ p.0) own p.1 i Long (omega (arith, less, kinds_long names v, ap length is))

-- what else a store keeps where one variable changes

number_only : (names : Names) (v : Variable) (n : ℤ) (s : Store) → OnlyAt names v s (with_number (variable_key v) n s)
number_only names v n s u apart = by_form u.form
  where
    by_form : (form : Form) → cells_by (with_number (variable_key v) n s) (variable_key u) (elements_of names u) form ≡ cells_by s (variable_key u) (elements_of names u) form
    by_form (Number k fixed) = ap (λ b. (if b then n else s.number (variable_key u)) ∷ []) apart
    by_form (Array k fixed size) = refl
    by_form (Message type_) = refl
    by_form (Timer unit) = refl
    by_form Misfit = refl

element_only : (names : Names) (v : Variable) (i : ℕ) (n : ℤ) (s : Store) → OnlyAt names v s (with_element (variable_key v) i n s)
element_only names v i n s u apart = by_form u.form
  where
    by_form : (form : Form) → cells_by (with_element (variable_key v) i n s) (variable_key u) (elements_of names u) form ≡ cells_by s (variable_key u) (elements_of names u) form
    by_form (Number k fixed) = refl
    by_form (Array k fixed size) =
        row_same (s.element (variable_key u)) ((with_element (variable_key v) i n s).element (variable_key u)) 0 (elements_of names u) (λ m _ _. ap (λ b. if b && m == i then n else s.element (variable_key u) m) apart)
    by_form (Message type_) = refl
    by_form (Timer unit) = refl
    by_form Misfit = refl

message_only : (names : Names) (v : Variable) (m : MessageRecord) (s : Store) → OnlyAt names v s (with_message (variable_key v) m s)
message_only names v m s u apart = by_form u.form
  where
    by_form : (form : Form) → cells_by (with_message (variable_key v) m s) (variable_key u) (elements_of names u) form ≡ cells_by s (variable_key u) (elements_of names u) form
    by_form (Number k fixed) = refl
    by_form (Array k fixed size) = refl
    by_form (Message type_) = ap (λ b. message_cells (if b then m else s.message (variable_key u))) apart
    by_form (Timer unit) = refl
    by_form Misfit = refl

-- lengths of bytes

length-bytes_of_number : (count n : ℕ) → length (bytes_of_number count n) ≡ count
length-bytes_of_number zero n = refl
length-bytes_of_number (suc count) n = ap suc (length-bytes_of_number count _)

length-bytes : (k : Kind) (n : ℤ) → length (bytes_of k n) ≡ size k
unfolding bytes_of
length-bytes k n = length-bytes_of_number (size k) (residue k n)

length-bits : (payload numbers : List ℕ) (v : ℕ) → length (payload_with_bits payload numbers v) ≡ length payload
length-bits payload [] v = refl
length-bits payload (number ∷ rest) v = length-set (payload_with_bits payload rest v) _ _ ∙ length-bits payload rest v

length-payload : (l : Layout) (payload : List ℕ) (n : ℤ) → length (payload_with l payload n) ≡ length payload
unfolding payload_with
length-payload l payload n = length-bits payload (bit_numbers l) _

-- a message's cells once bytes are put in its payload
bytes_put : (i : ℕ) (bytes : List ℕ) (m : MessageRecord) → i + length bytes ≤ 8 →
    message_cells (with_payload i bytes m) ≡ splice (message_cells m) (6 + i) (6 + (i + length bytes)) (map pos bytes)
bytes_put i bytes m fits =
    let first : 6 + i ≡ suc (suc (suc (suc (suc (suc i))))) = omega arith in
    let last : 6 + (i + length bytes) ≡ suc (suc (suc (suc (suc (suc (i + length bytes)))))) = omega arith in
    ap (λ l. m.id ∷ m.dlc ∷ m.rtr ∷ m.can ∷ m.dir ∷ m.time ∷ l) (sym (row_splice i bytes m.byte 8 fits))
    ∙ sym (ap (λ a. splice (message_cells m) a (6 + (i + length bytes)) (map pos bytes)) first ∙ ap (λ b. splice (message_cells m) (suc (suc (suc (suc (suc (suc i)))))) b (map pos bytes)) last)

module _ (names : Names) (distinct : AreDistinct names.variables) (this : This) where
  -- the cells of a message are at its first cell
  pub message_laid : (s : Store) (held : Held) → IsHeld names held → message_of (message_slot names held) (all_cells names this s) ≡ message_cells (held_message this s held)
  message_laid s (HeldFrame signals) real = refl
  message_laid s (HeldVariable v signals) real =
      let a = around names distinct this v real.1.among s in
      let is : cells_of names s v ≡ message_cells (s.message (variable_key v)) = ap (cells_by s (variable_key v) (elements_of names v)) real.1.form_is in
      ap (λ l. message_of (slot names (variable_key v)) l) (a.whole s (λ u _. refl) ∙ ap (λ l. a.before ++ (l ++ a.behind)) is)
      ∙ ap (λ n. message_of n (a.before ++ (message_cells (s.message (variable_key v)) ++ a.behind))) (sym a.at)
      ∙ take_middle a.before (message_cells (s.message (variable_key v))) a.behind 14 refl

  -- a cell of a message
  message_cell : (s : Store) (held : Held) → IsHeld names held → (i : ℕ) → i < 14 → typed.cell_of (all_cells names this s) (message_slot names held + i) ≡ get_or (message_cells (held_message this s held)) i (pos 0)
  message_cell s held real i less =
      let at = message_slot names held in
      let all = all_cells names this s in
      sym (get_or-take 14 (drop at all) i (pos 0) less ∙ get_or-drop at all i (pos 0)) ∙ ap (λ l. get_or l i (pos 0)) (message_laid s held real)

  -- reading at a place in cells is reading at the place
  pub read_laid : (s : Store) (spot : source.Spot) → IsReal names spot → typed.read (laid_spot names spot) (all_cells names this s) ≡ source.read this spot s
  read_laid s Nowhere real = elim real [ ]
  read_laid s (InNumber k v) real =
      let e : slot names (variable_key v) ≡ slot names (variable_key v) + zero = omega arith in
      ap (λ n. typed.cell_of (all_cells names this s) n) e
      ∙ cell_at names distinct this v real.1.among s (s.number (variable_key v) ∷ []) (ap (cells_by s (variable_key v) (elements_of names v)) real.1.form_is) zero (omega arith) (pos 0)
  read_laid s (InElement k v i) real =
      let start : zero + i ≡ i = omega arith in
      let many = elements_of names v in
      cell_at names distinct this v real.2.among s (row (s.element (variable_key v)) 0 many) (ap (cells_by s (variable_key v) many) real.2.form_is) i
      (omega (arith, row_long (s.element (variable_key v)) 0 many, real.3)) (pos 0)
      ∙ row_at (s.element (variable_key v)) 0 many i (pos 0) real.3 ∙ ap (s.element (variable_key v)) start
  read_laid s (InField held Id) real = message_cell s held real 0 (omega arith)
  read_laid s (InField held Dlc) real = message_cell s held real 1 (omega arith)
  read_laid s (InField held Rtr) real = message_cell s held real 2 (omega arith)
  read_laid s (InField held Can) real = message_cell s held real 3 (omega arith)
  read_laid s (InField held Dir) real = message_cell s held real 4 (omega arith)
  read_laid s (InField held Time) real = message_cell s held real 5 (omega arith)
  read_laid s (InBytes held k i) real = ap (λ m. number_at k i (payload_of m)) (message_laid s held real.0)
  read_laid s (InSignal held l) real = ap (λ m. signal_value l (payload_of m)) (message_laid s held real)

  -- a field of a message changes
  field_set : (s : Store) (v : Variable) (type_ : MessageType) → HasForm names v (Message type_) → (i : ℕ) → i < 14 → (x : ℤ) → (after : MessageRecord) →
      message_cells after ≡ set (message_cells (s.message (variable_key v))) i x →
      slice_set (all_cells names this s) (slot names (variable_key v) + i) x ≡ all_cells names this (with_message (variable_key v) after s)
  field_set s v type_ real i less x after is =
      let own = message_cells (s.message (variable_key v)) in
      let t = with_message (variable_key v) after s in
      sym (cell_set names distinct this v real.among s t own (ap (cells_by s (variable_key v) (elements_of names v)) real.form_is) (message_only names v after s) i less x
      (ap (cells_by t (variable_key v) (elements_of names v)) real.form_is ∙ ap (λ b. message_cells (if b then after else s.message (variable_key v))) (key_self (variable_key v)) ∙ is))

  -- bytes are put in a message
  payload_set : (s : Store) (v : Variable) (type_ : MessageType) → HasForm names v (Message type_) → (i : ℕ) (bytes : List ℕ) → i + length bytes ≤ 8 →
      with_bytes (slot names (variable_key v)) i bytes (all_cells names this s) ≡ all_cells names this (with_message (variable_key v) (with_payload i bytes (s.message (variable_key v))) s)
  payload_set s v type_ real i bytes fits =
      let own = message_cells (s.message (variable_key v)) in
      let after = with_payload i bytes (s.message (variable_key v)) in
      let t = with_message (variable_key v) after s in
      let at = slot names (variable_key v) in
      let first : at + 6 + i ≡ at + (6 + i) = omega arith in
      let last : at + 6 + i + length bytes ≡ at + (6 + (i + length bytes)) = omega arith in
      let is : cells_of names t v ≡ splice own (6 + i) (6 + (i + length bytes)) (map pos bytes) =
      ap (cells_by t (variable_key v) (elements_of names v)) real.form_is ∙ ap (λ b. message_cells (if b then after else s.message (variable_key v))) (key_self (variable_key v))
      ∙ bytes_put i bytes (s.message (variable_key v)) fits in
      ap (λ n. splice (all_cells names this s) n (at + 6 + i + length bytes) (map pos bytes)) first ∙ ap (λ n. splice (all_cells names this s) (at + (6 + i)) n (map pos bytes)) last
      ∙ sym (cells_put names distinct this v real.among s t own (ap (cells_by s (variable_key v) (elements_of names v)) real.form_is) (message_only names v after s)
      (6 + i) (6 + (i + length bytes)) (within (omega (arith, fits))) (within (omega (arith, fits))) (map pos bytes) is)
    where
      within : {n : ℕ} → n ≤ 14 → n ≤ length (message_cells (s.message (variable_key v)))
      within h = h

  -- storing at a place in cells is storing at the place
  pub write_laid : (s : Store) (spot : source.Spot) (n : ℤ) → IsReal names spot → IsOpen spot →
      typed.write (all_kinds names) (laid_spot names spot) n (all_cells names this s) ≡ all_cells names this (source.write spot n s)
  write_laid s Nowhere n real stored = elim real [ ]
  write_laid s (InNumber k v) n real stored =
      let e : slot names (variable_key v) ≡ slot names (variable_key v) + zero = omega arith in
      let kind : typed.kind_of (all_kinds names) (slot names (variable_key v)) ≡ k =
      ap (λ i. typed.kind_of (all_kinds names) i) e
      ∙ kind_at names distinct this v real.1.among zero (rw (ap (cells_by_form (elements_of names v)) real.1.form_is) (omega arith)) (k ∷ []) (ap (kinds_by (elements_of names v)) real.1.form_is) in
      let x = wrap k n in
      let t = with_number (variable_key v) x s in
      ap (λ j. slice_set (all_cells names this s) (slot names (variable_key v)) (wrap j n)) kind
      ∙ ap (λ i. slice_set (all_cells names this s) i x) e
      ∙ sym (cell_set names distinct this v real.1.among s t (s.number (variable_key v) ∷ []) (ap (cells_by s (variable_key v) (elements_of names v)) real.1.form_is) (number_only names v x s) zero (omega arith) x
      (ap (cells_by t (variable_key v) (elements_of names v)) real.1.form_is ∙ ap (λ b. (if b then x else s.number (variable_key v)) ∷ []) (key_self (variable_key v))))
  write_laid s (InElement k v i) n real stored =
      let many = elements_of names v in
      let kind : typed.kind_of (all_kinds names) (slot names (variable_key v) + i) ≡ k =
      kind_at names distinct this v real.2.among i (rw (ap (cells_by_form many) real.2.form_is) real.3) (replicate many k) (ap (kinds_by many) real.2.form_is) ∙ replicate_at many i k Long real.3 in
      let x = wrap k n in
      let t = with_element (variable_key v) i x s in
      let start : zero + i ≡ i = omega arith in
      let mine : t.element (variable_key v) i ≡ x = rw (key_self (variable_key v), nat_eq_equiv.refl i) refl in
      ap (λ j. slice_set (all_cells names this s) (slot names (variable_key v) + i) (wrap j n)) kind
      ∙ sym (cell_set names distinct this v real.2.among s t (row (s.element (variable_key v)) 0 many) (ap (cells_by s (variable_key v) many) real.2.form_is) (element_only names v i x s) i
      (omega (arith, row_long (s.element (variable_key v)) 0 many, real.3)) x
      (ap (cells_by t (variable_key v) many) real.2.form_is
      ∙ row_set (s.element (variable_key v)) (t.element (variable_key v)) 0 many i x real.3 (ap (t.element (variable_key v)) start ∙ mine) (λ m other. elsewhere x m (λ same. other (same ∙ sym start)) (nat_eq m i) refl)))
    where
      elsewhere : (x : ℤ) (m : ℕ) → ¬ (m ≡ i) → (b : Bool) → nat_eq m i ≡ b → (with_element (variable_key v) i x s).element (variable_key v) m ≡ s.element (variable_key v) m
      elsewhere x m other true is = absurd (other (eqb-true m i is))
      elsewhere x m other false is = rw (key_self (variable_key v), is) refl
  write_laid s (InField (HeldFrame signals) f) n real stored = absurd (let e : false ≡ true = stored.0 in cc)
  write_laid s (InField (HeldVariable v signals) Id) n real stored = field_set s v real.0 real.1 0 (omega arith) (pos (written_id n)) _ refl
  write_laid s (InField (HeldVariable v signals) Dlc) n real stored = field_set s v real.0 real.1 1 (omega arith) (pos (written_dlc n)) _ refl
  write_laid s (InField (HeldVariable v signals) Rtr) n real stored = field_set s v real.0 real.1 2 (omega arith) (pos (written_rtr n)) _ refl
  write_laid s (InField (HeldVariable v signals) Can) n real stored = field_set s v real.0 real.1 3 (omega arith) (pos (written_can n)) _ refl
  write_laid s (InField (HeldVariable v signals) Dir) n real stored = absurd (let e : false ≡ true = stored.1 in cc)
  write_laid s (InField (HeldVariable v signals) Time) n real stored = absurd (let e : false ≡ true = stored.1 in cc)
  write_laid s (InBytes (HeldFrame signals) k i) n real stored = absurd (let e : false ≡ true = stored in cc)
  write_laid s (InBytes (HeldVariable v signals) k i) n real stored = payload_set s v real.0.0 real.0.1 i (bytes_of k n) (omega (arith, length-bytes k n, real.1))
  write_laid s (InSignal (HeldFrame signals) l) n real stored = absurd (let e : false ≡ true = stored in cc)
  write_laid s (InSignal (HeldVariable v signals) l) n real stored =
      let old = payload (s.message (variable_key v)) in
      let fits : 0 + length (payload_with l old n) ≤ 8 = omega (arith, length-payload l old n) in
      ap (λ m. with_bytes (slot names (variable_key v)) 0 (payload_with l (payload_of m) n) (all_cells names this s)) (message_laid s (HeldVariable v signals) real)
      ∙ payload_set s v real.0 real.1 0 (payload_with l old n) fits

  -- a message is copied
  pub copy_laid : (s : Store) (v : Variable) (type_ : MessageType) → HasForm names v (Message type_) → (m : MessageRecord) →
      with_message_at (slot names (variable_key v)) (message_cells m) (all_cells names this s) ≡ all_cells names this (with_message (variable_key v) m s)
  copy_laid s v type_ real m =
      let t = with_message (variable_key v) m s in
      let own = message_cells (s.message (variable_key v)) in
      let e : slot names (variable_key v) ≡ slot names (variable_key v) + zero = omega arith in
      ap (λ n. splice (all_cells names this s) n (slot names (variable_key v) + 14) (message_cells m)) e
      ∙ sym (cells_put names distinct this v real.among s t own (ap (cells_by s (variable_key v) (elements_of names v)) real.form_is) (message_only names v m s) 0 14 (omega arith) (reached (omega arith)) (message_cells m)
      (ap (cells_by t (variable_key v) (elements_of names v)) real.form_is ∙ ap (λ b. message_cells (if b then m else s.message (variable_key v))) (key_self (variable_key v))))
    where
      reached : 14 ≤ 14 → 14 ≤ length (message_cells (s.message (variable_key v)))
      reached h = h

-- the elements of an array are at its first cell
pub array_laid : (names : Names) → AreDistinct names.variables → (this : This) (s : Store) (v : Variable) (k : Kind) (fixed : Bool) (size : _) → HasForm names v (Array k fixed size) →
    take (elements_of names v) (drop (slot names (variable_key v)) (all_cells names this s)) ≡ row (s.element (variable_key v)) 0 (elements_of names v)
array_laid names distinct this s v k fixed size real =
    let many = elements_of names v in
    let a = around names distinct this v real.among s in
    let own = row (s.element (variable_key v)) 0 many in
    ap (λ l. take many (drop (slot names (variable_key v)) l)) (a.whole s (λ u _. refl) ∙ ap (λ l. a.before ++ (l ++ a.behind)) (ap (cells_by s (variable_key v) many) real.form_is))
    ∙ ap (λ n. take many (drop n (a.before ++ (own ++ a.behind)))) (sym a.at)
    ∙ take_middle a.before own a.behind many (row_long (s.element (variable_key v)) 0 many)
