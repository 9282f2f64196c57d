-- What stands at the front of bytes takes so many of them at least.
use Rattle.std.proofs.Common.{◌≡◌, ◌∙◌, ◌++◌, ◌≤◌, ◌<◌, ◌+◌, ◌*◌, ◌^◌, ℕ, zero, suc, List, [], ◌∷◌, Bool, true, false, Option, Some, None, ap, arith, drop, length, refl, take}
use Rattle.std.specs.Prelude.{◌==◌, ⊤, if◌then◌else◌, nat_le}
use Rattle.std.specs.Option.{option_and_then, option_map}
use Rattle.std.specs.Int.{w128, cast_signed}
use Rattle.std.proofs.Math.Nat.{suc-mul}
use Rattle.std.proofs.lemmas.List.{length-drop}
use Rattle.run_effects.specs.declared.event.Event.TheVariants as event
use Rattle.write_format.specs.declared.argument.ArgKind.TheVariants as argument
use Rattle.object_file.specs.declared.operand.Operands.{Operands}
use Rattle.object_file.specs.declared.operand.Operands.TheVariants as operands
use Rattle.object_file.specs.declared.operand.Pair.{Pair}
use Rattle.object_file.specs.declared.operand.Pair.TheVariants as pair
use Rattle.object_file.specs.Number.{dword}
use Rattle.object_file.specs.Inside.Instructions.{instruction_at, instruction_behind, instruction_by, layout_at, layout_of, operands_of, operator_at, operator_of, pair_by, with_field_and_place, with_kind, with_kind_and_place, with_layout_and_place, with_nothing, with_number, with_number_and_place, with_operation, with_place, with_place_and_truth, with_two_places}
use Rattle.object_file.specs.Inside.Reading.{IsLong, Reader, Takes, byte_at, bytes_of, dword_at, halves_at, integer_at, items_at, list_at, made_at, pair_at, qword_at, tagged_at, text_at, tried_at, truth_at, truth_of, word_at}
use Rattle.object_file.specs.Inside.Tables.{argument_at, argument_behind, event_at, event_behind, format_at, format_of, function_at, function_of, handler_at, handler_of, key_at, key_behind, kind_at, kind_of, selector_at, selector_of}
use Rattle.object_file.proofs.Pairs.{IsComplete}

-- what takes some bytes takes no fewer
fewer_taken : {A : Type 0} (few many : ℕ) → few ≤ many → (bytes : List ℕ) (o : Option (A × List ℕ)) → Takes many bytes o → Takes few bytes o
fewer_taken few many less bytes None takes = tt
fewer_taken few many less bytes (Some found) takes = omega (arith, less, takes)

-- so an item that is long is no shorter
fewer : {A : Type 0} (few many : ℕ) → few ≤ many → (at : Reader A) → IsLong many at → IsLong few at
fewer few many less at long bytes = fewer_taken few many less bytes (at bytes) (long bytes)

-- one of two
chosen : {A : Type 0} (least : ℕ) (bytes : List ℕ) (one other : Option (A × List ℕ)) → Takes least bytes one → Takes least bytes other
    → (b : Bool) → Takes least bytes (if b then one else other)
chosen least bytes one other first second true = first
chosen least bytes one other first second false = second

-- what is made of what is found
made_taken : {A B : Type 0} (make : A → B) (least : ℕ) (bytes : List ℕ) (o : Option (A × List ℕ)) → Takes least bytes o
    → Takes least bytes (option_map (λ found. (make found.0, found.1)) o)
made_taken make least bytes None takes = tt
made_taken make least bytes (Some found) takes = takes

-- what is made of an item
made_long : {A B : Type 0} (make : A → B) (least : ℕ) (at : Reader A) → IsLong least at → IsLong least (made_at make at)
made_long make least at long bytes = made_taken make least bytes (at bytes) (long bytes)

-- what may be made of what is found
maybe_made : {A : Type 0} (least : ℕ) (bytes rest : List ℕ) (o : Option A) → least + length rest ≤ length bytes
    → Takes least bytes (option_map (λ made. (made, rest)) o)
maybe_made least bytes rest None takes = tt
maybe_made least bytes rest (Some made) takes = takes

-- the same of what may be found
tried_taken : {A B : Type 0} (make : A → Option B) (least : ℕ) (bytes : List ℕ) (o : Option (A × List ℕ)) → Takes least bytes o
    → Takes least bytes (option_and_then (λ found. option_map (λ made. (made, found.1)) (make found.0)) o)
tried_taken make least bytes None takes = tt
tried_taken make least bytes (Some found) takes = maybe_made least bytes found.1 (make found.0) takes

-- what may be made of an item
tried_long : {A B : Type 0} (make : A → Option B) (least : ℕ) (at : Reader A) → IsLong least at → IsLong least (tried_at make at)
tried_long make least at long bytes = tried_taken make least bytes (at bytes) (long bytes)

-- what is found behind what was found
both_taken : {A : Type 0} (m n : ℕ) (bytes rest : List ℕ) → m + length rest ≤ length bytes → (o : Option (A × List ℕ)) → Takes n rest o
    → Takes (m + n) bytes o
both_taken m n bytes rest first None takes = tt
both_taken m n bytes rest first (Some found) takes = omega (arith, first, takes)

-- what is found behind the first of two
second_taken : {A B : Type 0} (x : A) (m n : ℕ) (bytes rest : List ℕ) → m + length rest ≤ length bytes → (o : Option (B × List ℕ)) → Takes n rest o
    → Takes {A = A × B} (m + n) bytes (option_map (λ next. ((x, next.0), next.1)) o)
second_taken x m n bytes rest first o takes = made_taken (λ next. (x, next)) (m + n) bytes o (both_taken m n bytes rest first o takes)

-- what is found of two
pair_taken : {A B : Type 0} (m n : ℕ) (bt : Reader B) → IsLong n bt → (bytes : List ℕ) (o : Option (A × List ℕ)) → Takes m bytes o
    → Takes {A = A × B} (m + n) bytes (option_and_then (λ found. option_map (λ next. ((found.0, next.0), next.1)) (bt found.1)) o)
pair_taken m n bt second bytes None takes = tt
pair_taken m n bt second bytes (Some found) takes = second_taken found.0 m n bytes found.1 takes (bt found.1) (second found.1)

-- a pair
pair_long : {A B : Type 0} (m n : ℕ) (at : Reader A) (bt : Reader B) → IsLong m at → IsLong n bt → IsLong (m + n) (pair_at at bt)
pair_long m n at bt first second bytes = pair_taken m n bt second bytes (at bytes) (first bytes)

-- a byte
byte_long : IsLong 1 byte_at
byte_long [] = tt
byte_long (byte ∷ bytes) = omega arith

-- one byte more
behind_taken : {A : Type 0} (least byte : ℕ) (bytes : List ℕ) (o : Option (A × List ℕ)) → Takes least bytes o → Takes (1 + least) (byte ∷ bytes) o
behind_taken least byte bytes None takes = tt
behind_taken least byte bytes (Some found) takes = omega (arith, takes)

-- what stands behind a tag
tagged_long : {A : Type 0} (least : ℕ) (behind : ℕ → Reader A) → ((tag : ℕ) → IsLong least (behind tag)) → IsLong (1 + least) (tagged_at behind)
tagged_long least behind long [] = tt
tagged_long least behind long (tag ∷ bytes) = behind_taken least tag bytes (behind tag bytes) (long tag bytes)

-- a number in two halves
halves_long : (values least : ℕ) (half : Reader ℕ) → IsLong least half → IsLong (least + least) (halves_at values half)
halves_long values least half long =
    made_long (λ halves. halves.0 + values * halves.1) (least + least) (pair_at half half) (pair_long least least half half long long)

-- a number of two bytes
word_long : IsLong 2 word_at
word_long = halves_long (2 ^ 8) 1 byte_at byte_long

-- a number of four bytes
pub dword_long : IsLong 4 dword_at
dword_long = halves_long (2 ^ 16) 2 word_at word_long

-- a number of eight bytes
pub qword_long : IsLong 8 qword_at
qword_long = halves_long (2 ^ 32) 4 dword_at dword_long

-- a number of 128 bits
integer_long : IsLong 16 integer_at
integer_long = made_long (cast_signed w128) 16 (halves_at (2 ^ 64) qword_at) (halves_long (2 ^ 64) 8 qword_at qword_long)

-- a truth value
truth_long : IsLong 1 truth_at
truth_long = tried_long truth_of 1 byte_at byte_long

-- so many bytes
bytes_long : (count : ℕ) → IsLong 0 (bytes_of count)
bytes_long count bytes =
    let fewer_left = length-drop count bytes in
    chosen 0 bytes (Some (take count bytes, drop count bytes)) None (omega (arith, fewer_left)) tt (nat_le count (length bytes))

-- what stands behind a count that is found
counted_taken : {A : Type 0} (behind : ℕ → Reader A) → ((count : ℕ) → IsLong 0 (behind count)) → (bytes : List ℕ) (o : Option (ℕ × List ℕ))
    → Takes 4 bytes o → Takes 4 bytes (option_and_then (λ count. behind count.0 count.1) o)
counted_taken behind long bytes None takes = tt
counted_taken behind long bytes (Some count) takes =
    both_taken 4 0 bytes count.1 takes (behind count.0 count.1) (long count.0 count.1)

-- a text
text_long : IsLong 4 text_at
text_long bytes = counted_taken bytes_of bytes_long bytes (dword_at bytes) (dword_long bytes)

-- so many items
items_long : {A : Type 0} (least : ℕ) (at : Reader A) → IsLong least at → (count : ℕ) → IsLong (count * least) (items_at at count)
items_long least at long zero bytes = omega arith
items_long least at long (suc count) bytes =
    let more = suc-mul count least in
    fewer (suc count * least) (least + count * least) (omega (arith, more)) (items_at at (suc count))
    (made_long (λ all. all.0 ∷ all.1) (least + count * least) (pair_at at (items_at at count))
    (pair_long least (count * least) at (items_at at count) long (items_long least at long count))) bytes

-- a list
list_long : {A : Type 0} (at : Reader A) → IsLong 0 at → IsLong 4 (list_at at)
list_long at long bytes =
    counted_taken (items_at at) (λ count. fewer 0 (count * 0) (omega arith) (items_at at count) (items_long 0 at long count)) bytes (dword_at bytes) (dword_long bytes)

-- nothing is found that takes more bytes than there are
none_taken : {A : Type 0} (least : ℕ) (bytes : List ℕ) (o : Option (A × List ℕ)) → Takes least bytes o → length bytes < least → o ≡ None
none_taken least bytes None takes few = refl
none_taken least bytes (Some found) takes few = absurd (omega (arith, takes, few))

-- nor so many items
no_items : {A : Type 0} (least : ℕ) (at : Reader A) → IsLong least at → (count : ℕ) (bytes : List ℕ) → length bytes < count * least
    → items_at at count bytes ≡ None
no_items least at long count bytes few = none_taken (count * least) bytes (items_at at count bytes) (items_long least at long count bytes) few

-- so there is no list where its count says more
pub no_list : {A : Type 0} (least : ℕ) (at : Reader A) → IsLong least at → IsComplete dword (λ n. ⊤) dword_at → (bytes rest : List ℕ) (count : ℕ)
    → bytes ≡ dword count ++ rest → length rest < count * least → list_at at bytes ≡ None
no_list least at long number bytes rest count is few =
    ap (list_at at) is ∙ ap (option_and_then (λ count. items_at at count.0 count.1)) (number count rest tt) ∙ no_items least at long count rest few

-- a kind
pub kind_long : IsLong 1 kind_at
kind_long = tried_long kind_of 1 byte_at byte_long

-- a cell with its initial value
pub start_long : IsLong 20 (pair_at dword_at integer_at)
start_long = pair_long 4 16 dword_at integer_at dword_long integer_long

-- two numbers of four bytes
places_long : IsLong 8 (pair_at dword_at dword_at)
places_long = pair_long 4 4 dword_at dword_at dword_long dword_long

-- an argument behind its tag
argument_behind_long : (tag : ℕ) → IsLong 1 (argument_behind tag)
argument_behind_long tag bytes =
    let pair = pair_at dword_at dword_at in
    let number = made_long argument.Number 1 kind_at kind_long bytes in
    let array = fewer 1 8 (omega arith) (made_at (λ a. argument.Chars a.0 a.1) pair) (made_long (λ a. argument.Chars a.0 a.1) 8 pair places_long) bytes in
    let own = fewer 1 4 (omega arith) (made_at argument.Str text_at) (made_long argument.Str 4 text_at text_long) bytes in
    chosen 1 bytes _ _ number (chosen 1 bytes _ _ array (chosen 1 bytes _ _ own tt (tag == 2)) (tag == 1)) (tag == 0)

-- an argument
pub argument_long : IsLong 2 argument_at
argument_long = tagged_long 1 argument_behind argument_behind_long

-- a format
pub format_long : IsLong 8 format_at
format_long =
    tried_long (λ parts. format_of parts.0 parts.1) 8 (pair_at text_at (list_at argument_at))
    (pair_long 4 4 text_at (list_at argument_at) text_long (list_long argument_at (fewer 0 2 (omega arith) argument_at argument_long)))

-- a function
pub function_long : IsLong 9 function_at
function_long =
    made_long function_of 9 (pair_at dword_at (pair_at dword_at truth_at))
    (pair_long 4 5 dword_at (pair_at dword_at truth_at) dword_long (pair_long 4 1 dword_at truth_at dword_long truth_long))

-- a selector
pub selector_long : IsLong 9 selector_at
selector_long = made_long selector_of 9 (pair_at byte_at (pair_at dword_at dword_at)) (pair_long 1 8 byte_at (pair_at dword_at dword_at) byte_long places_long)

-- an item takes no fewer bytes than none
made_any : {A B : Type 0} (make : A → B) (least : ℕ) (at : Reader A) → IsLong least at → IsLong 0 (made_at make at)
made_any make least at long = fewer 0 least (omega arith) (made_at make at) (made_long make least at long)

-- nor what may be made of it
tried_any : {A B : Type 0} (make : A → Option B) (least : ℕ) (at : Reader A) → IsLong least at → IsLong 0 (tried_at make at)
tried_any make least at long = fewer 0 least (omega arith) (tried_at make at) (tried_long make least at long)

-- a key behind its tag
key_behind_long : (tag : ℕ) → IsLong 0 (key_behind tag)
key_behind_long tag bytes =
    chosen 0 bytes (Some (None, bytes)) (if tag == 1 then made_at Some byte_at bytes else None) (omega arith)
    (chosen 0 bytes (made_at Some byte_at bytes) None (made_any Some 1 byte_at byte_long bytes) tt (tag == 1)) (tag == 0)

-- a key
key_long : IsLong 1 key_at
key_long = tagged_long 0 key_behind key_behind_long

-- an event behind its tag
event_behind_long : (tag : ℕ) → IsLong 0 (event_behind tag)
event_behind_long tag bytes =
    let selectors = made_any event.Message 4 (list_at selector_at) (list_long selector_at (fewer 0 9 (omega arith) selector_at selector_long)) bytes in
    let timer = made_any event.Timer 4 dword_at dword_long bytes in
    let key = made_any event.Key 1 key_at key_long bytes in
    chosen 0 bytes _ _ (omega arith)
    (chosen 0 bytes _ _ (omega arith)
    (chosen 0 bytes _ _ (omega arith)
    (chosen 0 bytes _ _ selectors
    (chosen 0 bytes _ _ timer
    (chosen 0 bytes _ _ key tt (tag == 5)) (tag == 4)) (tag == 3)) (tag == 2)) (tag == 1)) (tag == 0)

-- an event
event_long : IsLong 1 event_at
event_long = tagged_long 0 event_behind event_behind_long

-- an event procedure
pub handler_long : IsLong 13 handler_at
handler_long =
    made_long handler_of 13 (pair_at event_at (pair_at dword_at (pair_at dword_at dword_at)))
    (pair_long 1 12 event_at (pair_at dword_at (pair_at dword_at dword_at)) event_long
    (pair_long 4 8 dword_at (pair_at dword_at dword_at) dword_long places_long))

-- an operator
operator_long : IsLong 1 operator_at
operator_long = tried_long operator_of 1 byte_at byte_long

-- where a signal lies
layout_long : IsLong 6 layout_at
layout_long =
    made_long layout_of 6 (pair_at word_at (pair_at word_at (pair_at truth_at truth_at)))
    (pair_long 2 4 word_at (pair_at word_at (pair_at truth_at truth_at)) word_long
    (pair_long 2 2 word_at (pair_at truth_at truth_at) word_long (pair_long 1 1 truth_at truth_at truth_long truth_long)))

-- two operands
two_long : (both : Pair) (n : ℕ) → IsLong 0 (pair_by both n)
two_long pair.Places n = tried_any (with_two_places n) 8 (pair_at dword_at dword_at) places_long
two_long pair.KindAndPlace n = tried_any (with_kind_and_place n) 5 (pair_at kind_at dword_at) (pair_long 1 4 kind_at dword_at kind_long dword_long)
two_long pair.LayoutAndPlace n = tried_any (with_layout_and_place n) 10 (pair_at layout_at dword_at) (pair_long 6 4 layout_at dword_at layout_long dword_long)
two_long pair.FieldAndPlace n = tried_any (with_field_and_place n) 5 (pair_at byte_at dword_at) (pair_long 1 4 byte_at dword_at byte_long dword_long)
two_long pair.Operation n = tried_any (with_operation n) 2 (pair_at operator_at kind_at) (pair_long 1 1 operator_at kind_at operator_long kind_long)
two_long pair.NumberAndPlace n = tried_any (with_number_and_place n) 20 (pair_at integer_at dword_at) (pair_long 16 4 integer_at dword_at integer_long dword_long)
two_long pair.PlaceAndTruth n = tried_any (with_place_and_truth n) 5 (pair_at dword_at truth_at) (pair_long 4 1 dword_at truth_at dword_long truth_long)

-- the operands of an instruction
operands_long : (all : Operands) (n : ℕ) → IsLong 0 (instruction_by all n)
operands_long operands.Nothing n bytes = maybe_made 0 bytes bytes (with_nothing n) (omega arith)
operands_long operands.Number n bytes = tried_any (with_number n) 16 integer_at integer_long bytes
operands_long operands.Place n bytes = tried_any (with_place n) 4 dword_at dword_long bytes
operands_long operands.Kind n bytes = tried_any (with_kind n) 1 kind_at kind_long bytes
operands_long (operands.Two both) n bytes = two_long both n bytes

-- what stands behind the number of an instruction, if it is one
numbered_taken : (n : ℕ) (bytes : List ℕ) (o : Option Operands) → Takes 0 bytes (option_and_then (λ all. instruction_by all n bytes) o)
numbered_taken n bytes None = tt
numbered_taken n bytes (Some all) = operands_long all n bytes

-- an instruction
pub instruction_long : IsLong 1 instruction_at
instruction_long = tagged_long 0 instruction_behind (λ n bytes. numbered_taken n bytes (operands_of n))
