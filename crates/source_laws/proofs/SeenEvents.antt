-- What a procedure sees of the event for which it runs: what the cells hold is what its source says.
use Rattle.std.proofs.Common.{◌≡◌, ℕ, zero, suc, ◌+◌, ◌<◌, ◌/◌, ◌%◌, ◌^◌, ◌⊎◌, inl, inr, Bool, true, false, true≢false, List, [], ◌∷◌, ◌++◌, length, map, replicate, Option, Some, None, Contains, refl, sym, ap, ◌∙◌, subst, arith, slice_get, get_or, length-append, ◌+ℤ◌, ◌-ℤ◌}
use Rattle.std.specs.Prelude.{ℤ, pos, ⊤, cond, flat_map, if◌then◌else◌, option_to_list, slice_index_or}
use Rattle.std.specs.Int.{int_rem_euclid}
use Rattle.std.specs.List.{AllByRecursion, AllZip, position_from}
use Rattle.std.specs.Option.{option_map_or, option_or}
use Rattle.std.proofs.lemmas.Int.{ints}
use Rattle.std.proofs.lemmas.List.{length-map}
use Rattle.can_frame.specs.Frame.{selection_key, FrameFields}
use Rattle.int_kinds.specs.declared.kinds.Kind.TheVariants.{Dword}
use Rattle.int_kinds.specs.Arithmetic.{truth}
use Rattle.int_kinds.specs.Kind.{Holds, wrap}
use Rattle.dbc_reader.specs.declared.signals.DbcSignal.{DbcSignal}
use Rattle.capl_tree.specs.declared.procedure.Head.{Head}
use Rattle.capl_tree.specs.declared.procedure.Head.TheVariants as head
use Rattle.run_effects.specs.declared.event.Event.{Event}
use Rattle.run_effects.specs.declared.event.Event.TheVariants as event
use Rattle.bytecode.specs.Runs.{HoldKinds}
use Rattle.stack_vm.specs.Frame.{message_of}
use Rattle.node_rounds.specs.declared.occurrence.Occurrence.{Occurrence}
use Rattle.node_rounds.specs.declared.occurrence.Occurrence.TheVariants as happens
use Rattle.node_rounds.specs.declared.round.Seen.{Seen}
use Rattle.node_rounds.specs.Procedures.{first_where, is_any_key, is_for_message, message_procedure, numbers_where, procedures_for, reacts_to}
use Rattle.node_run.specs.Code.{cells_with_this}
use Rattle.capl_meaning.specs.Variable.{Form, Number, Array, Message, Timer, Misfit, Part, Globals, Procedure, Variable}
use Rattle.capl_meaning.specs.Names.{Names, NoThis, ThisForm, ThisFrame, ThisKey, inside, this_form}
use Rattle.capl_meaning.specs.Constant.{elements_of}
use Rattle.capl_meaning.specs.Store.{Key, Store, This, cells_by, cells_of, event_cells, event_kinds, variable_key, kinds_by, laid_kinds, lay, message_cells, row}
use Rattle.capl_meaning.specs.Statement.{Handler, event_of, handlers_of_part}
use Rattle.source_laws.specs.Reaction.{seen_message, this_of}
use Rattle.typed_laws.specs.Seen.{SameSeen}
use Rattle.typed_laws.proofs.Declared.{all_append}

-- ---- what `this` is in an event procedure

-- what `this` is in a procedure that reacts to an event
abbrev pub IsFormOf : Event → ThisForm → Type 0
IsFormOf (event.Message selectors) form = (signals : Option (List DbcSignal)) × (form ≡ ThisFrame signals)
IsFormOf (event.Key value) form = form ≡ ThisKey
IsFormOf _ form = form ≡ NoThis

some_same : (one other : Event) → Some one ≡ Some other → one ≡ other
some_same one other e = let f : Some one ≡ Some other = e in cc

head_form : (names : Names) (h : Head) (e : Event) → event_of names h ≡ Some e → IsFormOf e (this_form names.base h)
head_form names head.PreStart e is = subst (λ e. IsFormOf e NoThis) (some_same _ e is) refl
head_form names head.Start e is = subst (λ e. IsFormOf e NoThis) (some_same _ e is) refl
head_form names head.Stop e is = subst (λ e. IsFormOf e NoThis) (some_same _ e is) refl
head_form names (head.Message selectors) e is = subst (λ e. IsFormOf e (this_form names.base (head.Message selectors))) (some_same _ e is) (_, refl)
head_form names (head.Timer name at) e is = subst (λ e. IsFormOf e NoThis) (some_same _ e is) refl
head_form names (head.Key value) e is = subst (λ e. IsFormOf e ThisKey) (some_same _ e is) refl
head_form names (head.Function kind name parameters at) e is = absurd (let f : None ≡ Some e = is in cc)

-- each event procedure has the `this` of its event
pub handlers_formed : (names : Names) (parts : List Part) → AllByRecursion (λ (h : Handler). IsFormOf h.event h.scope.this) (flat_map (handlers_of_part names) parts)
handlers_formed names [] = tt
handlers_formed names (Globals file declarations ∷ parts) = handlers_formed names parts
handlers_formed names (Procedure number file procedure ∷ parts) =
    all_append (λ (h : Handler). IsFormOf h.event h.scope.this) (handlers_of_part names (Procedure number file procedure)) (flat_map (handlers_of_part names) parts)
    (go (event_of names procedure.head) (λ e is. head_form names procedure.head e is)) (handlers_formed names parts)
  where
    go : (o : Option Event) → ((e : Event) → o ≡ Some e → IsFormOf e (this_form names.base procedure.head)) → AllByRecursion (λ (h : Handler). IsFormOf h.event h.scope.this) (option_map_or (λ e. record {
      scope = inside names number file procedure.head;
      event = e;
      body = procedure.body;
      file = file;
      token = procedure.at;
    } ∷ []) o [])
    go None is = tt
    go (Some e) is = (is e refl, tt)

-- ---- the procedures for an occurrence

-- of the event at a number a test holds
abbrev HasAt : (Event → Bool) → List Event → ℕ → Type 0
HasAt test events number = (e : Event) × (slice_get events number ≡ Some e) × (test e ≡ true)

-- a number that lies so far behind another is that of an event of which a test holds
abbrev HasBehind : (Event → Bool) → ℕ → List Event → ℕ → Type 0
HasBehind test from events number = (k : ℕ) × (number ≡ from + k) × HasAt test events k

one_behind : (test : Event → Bool) (from : ℕ) (e : Event) (events : List Event) (number : ℕ) → HasBehind test (from + 1) events number → HasBehind test from (e ∷ events) number
one_behind test from e events number has =
    let at : number ≡ from + 1 + has.0 = has.1 in (suc has.0, omega (arith, at), has.2)

here_behind : (test : Event → Bool) (from : ℕ) (e : Event) (events : List Event) (number : ℕ) → number ≡ from → test e ≡ true → HasBehind test from (e ∷ events) number
here_behind test from e events number at is = (0, omega (arith, at), (e, refl, is))

first_behind : (test : Event → Bool) (from : ℕ) (events : List Event) (number : ℕ) → position_from test from events ≡ Some number → HasBehind test from events number
first_behind test from [] number is = absurd (let f : None ≡ Some number = is in cc)
first_behind test from (e ∷ events) number is = go (λ found. first_behind test (from + 1) events number found) (test e) refl is
  where
    go : (position_from test (from + 1) events ≡ Some number → HasBehind test (from + 1) events number) → (b : Bool) → test e ≡ b → cond b (Some from) (position_from test (from + 1) events) ≡ Some number → HasBehind test from (e ∷ events) number
    go further true holds found = let f : Some from ≡ Some number = found in let same : from ≡ number = cc in here_behind test from e events number (sym same) holds
    go further false holds found = one_behind test from e events number (further found)

among_cons : (x : ℕ) (xs : List ℕ) (y : ℕ) (k : ℕ) → k < length (x ∷ xs) → get_or (x ∷ xs) k y ≡ y → (y ≡ x) ⊎ Contains xs y
among_cons x xs y zero less is = inl (sym is)
among_cons x xs y (suc k) less is = inr (k, omega (arith, less), is)

numbers_behind : (test : Event → Bool) (from : ℕ) (events : List Event) (number : ℕ) → Contains (numbers_where test from events) number → HasBehind test from events number
numbers_behind test from [] number among = let less : among.0 < 0 = among.1 in absurd (omega (arith, less))
numbers_behind test from (e ∷ events) number among = go (λ found. numbers_behind test (from + 1) events number found) (test e) refl among
  where
    go : (Contains (numbers_where test (from + 1) events) number → HasBehind test (from + 1) events number) → (b : Bool) → test e ≡ b → Contains (if b then from ∷ numbers_where test (from + 1) events else numbers_where test (from + 1) events) number → HasBehind test from (e ∷ events) number
    go further true holds found = elim (among_cons from (numbers_where test (from + 1) events) number found.0 found.1 found.2) [
      | inl at ↦ here_behind test from e events number at holds
      | inr among ↦ one_behind test from e events number (further among)
    ]
    go further false holds found = one_behind test from e events number (further found)

from_start : (test : Event → Bool) (events : List Event) (number : ℕ) → HasBehind test 0 events number → HasAt test events number
from_start test events number has =
    let at : number ≡ 0 + has.0 = has.1 in let same : has.0 ≡ number = omega (arith, at) in subst (HasAt test events) same has.2

first_at : (test : Event → Bool) (events : List Event) (number : ℕ) → first_where test events ≡ Some number → HasAt test events number
first_at test events number is = from_start test events number (first_behind test 0 events number is)

numbers_at : (test : Event → Bool) (events : List Event) (number : ℕ) → Contains (numbers_where test 0 events) number → HasAt test events number
numbers_at test events number among = from_start test events number (numbers_behind test 0 events number among)

only_one : (o : Option ℕ) (number : ℕ) → Contains (option_to_list o) number → o ≡ Some number
only_one None number among = let less : among.0 < 0 = among.1 in absurd (omega (arith, less))
only_one (Some one) number among = elim (among_cons one [] number among.0 among.1 among.2) [
  | inl same ↦ ap (λ x. Some x) (sym same)
  | inr none ↦ let less : none.0 < 0 = none.1 in absurd (omega (arith, less))
]

else_either : (one other : Option ℕ) (number : ℕ) → option_or one other ≡ Some number → (one ≡ Some number) ⊎ (other ≡ Some number)
else_either None other number is = inr is
else_either (Some one) other number is = inl is

-- ---- what a procedure sees

-- the event of cells once something has happened at a moment: a frame or a key is put in them
abbrev pub this_seen : Occurrence → ℕ → This → This
this_seen (happens.Frame seen) now t = record t { frame = seen_message seen.frame seen.sent now }
this_seen (happens.Key key) now t = record t { key = pos key }
this_seen _ now t = t

-- what a procedure that reacts to an event sees of what has happened, in each form that `this` has there
abbrev Sees : Occurrence → ℕ → This → Event → Type 0
Sees occurrence now t e = (form : ThisForm) → IsFormOf e form → SameSeen form (this_seen occurrence now t) (this_of occurrence now)

none_seen : (a b : This) (form : ThisForm) → form ≡ NoThis → SameSeen form a b
none_seen a b form is = subst (λ f. SameSeen f a b) (sym is) tt

start_sees : (now : ℕ) (t : This) (e : Event) → reacts_to happens.Start e ≡ true → Sees happens.Start now t e
start_sees now t event.Start holds form is = none_seen _ _ form is
start_sees now t _ holds form is = absurd (true≢false (sym holds))

pre_start_sees : (now : ℕ) (t : This) (e : Event) → reacts_to happens.PreStart e ≡ true → Sees happens.PreStart now t e
pre_start_sees now t event.PreStart holds form is = none_seen _ _ form is
pre_start_sees now t _ holds form is = absurd (true≢false (sym holds))

stop_sees : (now : ℕ) (t : This) (e : Event) → reacts_to happens.Stop e ≡ true → Sees happens.Stop now t e
stop_sees now t event.Stop holds form is = none_seen _ _ form is
stop_sees now t _ holds form is = absurd (true≢false (sym holds))

timer_sees : (timer now : ℕ) (t : This) (e : Event) → reacts_to (happens.Timer timer) e ≡ true → Sees (happens.Timer timer) now t e
timer_sees timer now t (event.Timer own) holds form is = none_seen _ _ form is
timer_sees timer now t _ holds form is = absurd (true≢false (sym holds))

key_form_sees : (key now : ℕ) (t : This) (form : ThisForm) → form ≡ ThisKey → SameSeen form (this_seen (happens.Key key) now t) (this_of (happens.Key key) now)
key_form_sees key now t form is = subst (λ f. SameSeen f (this_seen (happens.Key key) now t) (this_of (happens.Key key) now)) (sym is) refl

key_sees : (key now : ℕ) (t : This) (e : Event) → reacts_to (happens.Key key) e ≡ true → Sees (happens.Key key) now t e
key_sees key now t (event.Key own) holds form is = key_form_sees key now t form is
key_sees key now t _ holds form is = absurd (true≢false (sym holds))

any_key_sees : (key now : ℕ) (t : This) (e : Event) → is_any_key e ≡ true → Sees (happens.Key key) now t e
any_key_sees key now t (event.Key own) holds form is = key_form_sees key now t form is
any_key_sees key now t _ holds form is = absurd (true≢false (sym holds))

message_sees : (seen : Seen) (now rank : ℕ) (t : This) (e : Event) → is_for_message rank (selection_key seen.frame.ident) e ≡ true → Sees (happens.Frame seen) now t e
message_sees seen now rank t (event.Message selectors) holds form is =
    subst (λ f. SameSeen f (this_seen (happens.Frame seen) now t) (this_of (happens.Frame seen) now)) (sym is.1) refl
message_sees seen now rank t _ holds form is = absurd (true≢false (sym holds))

-- the event at a number, of which this holds
abbrev EventAt : (Event → Type 0) → List Event → ℕ → Type 0
EventAt P events number = (e : Event) × (slice_get events number ≡ Some e) × P e

seen_by : (test : Event → Bool) (P : Event → Type 0) (events : List Event) (number : ℕ) → ((e : Event) → test e ≡ true → P e) → HasAt test events number → EventAt P events number
seen_by test P events number each has = (has.0, has.1, each has.0 has.2)

-- a procedure for an occurrence sees what its source says
pub procedure_sees : (events : List Event) (occurrence : Occurrence) (now : ℕ) (t : This) (number : ℕ) → Contains (procedures_for events occurrence) number → EventAt (Sees occurrence now t) events number
procedure_sees events happens.PreStart now t number among = seen_by (reacts_to happens.PreStart) _ events number (pre_start_sees now t) (numbers_at (reacts_to happens.PreStart) events number among)
procedure_sees events happens.Start now t number among = seen_by (reacts_to happens.Start) _ events number (start_sees now t) (numbers_at (reacts_to happens.Start) events number among)
procedure_sees events happens.Stop now t number among = seen_by (reacts_to happens.Stop) _ events number (stop_sees now t) (numbers_at (reacts_to happens.Stop) events number among)
procedure_sees events (happens.Frame seen) now t number among =
    let key : ℕ = selection_key seen.frame.ident in
    let by : (rank : ℕ) → first_where (is_for_message rank key) events ≡ Some number → EventAt (Sees (happens.Frame seen) now t) events number =
    λ rank is. seen_by (is_for_message rank key) _ events number (message_sees seen now rank t) (first_at (is_for_message rank key) events number is) in
    elim (else_either (first_where (is_for_message 0 key) events) _ number (only_one (message_procedure events key) number among)) [
      | inl is ↦ by 0 is
      | inr other ↦ elim (else_either (first_where (is_for_message 1 key) events) _ number other) [ inl is ↦ by 1 is | inr is ↦ by 2 is ]
    ]
procedure_sees events (happens.Timer timer) now t number among =
    seen_by (reacts_to (happens.Timer timer)) _ events number (timer_sees timer now t) (first_at (reacts_to (happens.Timer timer)) events number (only_one (first_where (reacts_to (happens.Timer timer)) events) number among))
procedure_sees events (happens.Key key) now t number among =
    elim (else_either (first_where (reacts_to (happens.Key key)) events) _ number (only_one (option_or (first_where (reacts_to (happens.Key key)) events) (first_where is_any_key events)) number among)) [
      | inl is ↦ seen_by (reacts_to (happens.Key key)) _ events number (key_sees key now t) (first_at (reacts_to (happens.Key key)) events number is)
      | inr is ↦ seen_by is_any_key _ events number (any_key_sees key now t) (first_at is_any_key events number is)
    ]

-- ---- the cells of what has happened

-- the time of a message
time_same : (n : ℕ) → wrap Dword (pos n) ≡ pos (n % 2 ^ 32)
time_same n =
    let less : pos n -ℤ pos 0 ≡ pos n = omega (arith, ints) in
    let more : pos 0 +ℤ pos (n % 2 ^ 32) ≡ pos (n % 2 ^ 32) = omega (arith, ints) in
    ap (λ z. pos 0 +ℤ int_rem_euclid z (pos (2 ^ 32))) less ∙ more

-- the bytes of a message
bytes_same : (bytes all : List ℕ) (from : ℕ) → ((i : ℕ) → i < length bytes → get_or all (from + i) 0 ≡ get_or bytes i 0) → row (λ j. pos (slice_index_or all j 0)) from (length bytes) ≡ map pos bytes
bytes_same [] all from same = refl
bytes_same (b ∷ bytes) all from same =
    let first : from + 0 ≡ from = omega arith in
    let one : get_or all from 0 ≡ b = ap (λ k. get_or all k 0) (sym first) ∙ same 0 (omega arith) in
    ap (λ x. pos x ∷ row (λ j. pos (slice_index_or all j 0)) (suc from) (length bytes)) one
    ∙ ap (λ l. pos b ∷ l) (bytes_same bytes all (suc from) (λ i less. let e : suc from + i ≡ from + suc i = omega arith in ap (λ k. get_or all k 0) e ∙ same (suc i) (omega (arith, less))))

truth_same : (b : Bool) → pos (if b then 1 else 0) ≡ truth b
truth_same true = refl
truth_same false = refl

-- the cells of the message that a frame is
message_same : (f : FrameFields) (sent : Bool) (now : ℕ) → length f.payload ≡ 8 → message_of f sent now ≡ message_cells (seen_message f sent now)
message_same f sent now long =
    let bytes : row (λ j. pos (slice_index_or f.payload j 0)) 0 8 ≡ map pos f.payload =
    ap (row (λ j. pos (slice_index_or f.payload j 0)) 0) (sym long) ∙ bytes_same f.payload f.payload 0 (λ i less. let e : 0 + i ≡ i = omega arith in ap (λ k. get_or f.payload k 0) e) in
    let remote : pos (if f.remote then 1 else 0) ≡ truth f.remote = truth_same f.remote in
    let direction : pos (if sent then 1 else 0) ≡ truth sent = truth_same sent in
    let time : wrap Dword (pos (now / 10)) ≡ pos (now / 10 % 2 ^ 32) = time_same (now / 10) in
    cc

-- a frame that has happened has eight bytes
abbrev pub IsWhole : Occurrence → Type 0
IsWhole (happens.Frame seen) = length seen.frame.payload ≡ 8
IsWhole _ = ⊤

-- the cells in which something has happened are those of the event that is seen
pub cells_seen : (occurrence : Occurrence) (now : ℕ) (t : This) (rest : List ℤ) → IsWhole occurrence → cells_with_this occurrence now (event_cells t ++ rest) ≡ event_cells (this_seen occurrence now t) ++ rest
cells_seen happens.PreStart now t rest whole = refl
cells_seen happens.Start now t rest whole = refl
cells_seen happens.Stop now t rest whole = refl
cells_seen (happens.Frame seen) now t rest whole = ap (λ m. m ++ (t.key ∷ rest)) (message_same seen.frame seen.sent now whole)
cells_seen (happens.Timer timer) now t rest whole = refl
cells_seen (happens.Key key) now t rest whole = refl

-- ---- how many cells there are

row_long : {A : Type 0} (thing : ℕ → A) (from count : ℕ) → length (row thing from count) ≡ count
row_long thing from zero = refl
row_long thing from (suc count) = ap suc (row_long thing (suc from) count)

replicate_long : {A : Type 0} (count : ℕ) (x : A) → length (replicate count x) ≡ count
replicate_long zero x = refl
replicate_long (suc count) x = ap suc (replicate_long count x)

form_long : (s : Store) (k : Key) (elements : ℕ) (form : Form) → length (cells_by s k elements form) ≡ length (kinds_by elements form)
form_long s k elements (Number kind fixed) = refl
form_long s k elements (Array kind fixed size) = row_long (s.element k) 0 elements ∙ sym (replicate_long elements kind)
form_long s k elements (Message type_) = refl
form_long s k elements (Timer unit) = refl
form_long s k elements Misfit = refl

lay_long : (names : Names) (s : Store) (vs : List Variable) → length (flat_map (cells_of names s) vs) ≡ length (flat_map (λ v. kinds_by (elements_of names v) v.form) vs)
lay_long names s [] = refl
lay_long names s (v ∷ vs) =
    let one = form_long s (variable_key v) (elements_of names v) v.form in
    let more = lay_long names s vs in
    let a : length (cells_of names s v ++ flat_map (cells_of names s) vs) ≡ length (cells_of names s v) + length (flat_map (cells_of names s) vs) = length-append (cells_of names s v) (flat_map (cells_of names s) vs) in
    let b = length-append (kinds_by (elements_of names v) v.form) (flat_map (λ v. kinds_by (elements_of names v) v.form) vs) in
    omega (arith, one, more, a, b)

zip_long : {A B : Type 0} (R : A → B → Type 0) (xs : List A) (ys : List B) → AllZip R xs ys → length xs ≡ length ys
zip_long R [] [] all = refl
zip_long R [] (y ∷ ys) all = elim all [ ]
zip_long R (x ∷ xs) [] all = elim all [ ]
zip_long R (x ∷ xs) (y ∷ ys) all = ap suc (zip_long R xs ys all.1)

-- where the cells in which a frame has happened hold their kinds, the frame has eight bytes
pub whole_if_held : (names : Names) (s : Store) (occurrence : Occurrence) (now : ℕ) (t : This) → HoldKinds (event_kinds ++ laid_kinds names) (cells_with_this occurrence now (event_cells t ++ lay names s)) → IsWhole occurrence
whole_if_held names s happens.PreStart now t held = tt
whole_if_held names s happens.Start now t held = tt
whole_if_held names s happens.Stop now t held = tt
whole_if_held names s (happens.Frame seen) now t held =
    let f = seen.frame in
    let same : length (event_kinds ++ laid_kinds names) ≡ length (message_of f seen.sent now ++ (t.key ∷ lay names s)) = zip_long Holds (event_kinds ++ laid_kinds names) (message_of f seen.sent now ++ (t.key ∷ lay names s)) held in
    let cells = length-append (message_of f seen.sent now) (t.key ∷ lay names s) in
    let kinds = length-append event_kinds (laid_kinds names) in
    let bytes : length (map pos f.payload) ≡ length f.payload = length-map f.payload pos in
    let laid = lay_long names s names.variables in
    omega (arith, same, cells, kinds, bytes, laid)
whole_if_held names s (happens.Timer timer) now t held = tt
whole_if_held names s (happens.Key key) now t held = tt
