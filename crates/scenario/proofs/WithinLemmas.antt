-- The numbers of a scenario are within their bounds, and its interface is one.
use Rattle.std.proofs.Common.{◌≡◌, ◌≤◌, ◌*◌, ◌/◌, ◌==◌, ℕ, zero, suc, Bool, true, false, List, [], ◌∷◌, length, Option, Some, None, refl, sym, subst, arith}
use Rattle.std.specs.Prelude.{All, if◌then◌else◌, slice_get, unwrap_or, codes, nat_le, ◌&&◌, ◌||◌}
use Rattle.std.specs.List.{flat_map, list_any}
use Rattle.std.specs.Option.{option_and_then, option_map, option_to_list}
use Rattle.std.specs.Str.{bytes_eq}
use Rattle.std.specs.Str.Lines.{lines}
use Rattle.std.proofs.lemmas.Bool.Decides.{nat_tests}
use Rattle.std.proofs.lemmas.List.Elements.{All-append, All-cons, All-nil}
use Rattle.std.proofs.lemmas.List.Sorted.{All-permutation, IsNonDecreasingBy-from_sort}
use Rattle.text_parts.proofs.NumberLemmas.{number_up_to-some}
use Rattle.text_parts.specs.Number.{number_up_to}
use Rattle.scenario.specs.Item.{fields_of, is_passed_over, item_of, item_of_one, item_of_picks, item_of_two, item_of_values, items_in, items_of, bit_of, bit_rates, epoch_of, key_byte_of, key_of, moment_of, number_of, turns_of}
use Rattle.scenario.specs.Scenario.{IsScenario, bit_in, epoch_in, key_in, turns_in, until_in}
use Rattle.scenario.specs.declared.item.Item.{Item}
use Rattle.scenario.specs.declared.item.Item.TheVariants as item
use Rattle.scenario.specs.declared.scenario.Epoch.TheVariants.{At, First}
use Rattle.scenario.specs.declared.scenario.Scenario.{Scenario}
use Rattle.scenario.specs.Within.{IsEpochWithin, IsKeyWithin, IsWithin, day}
use Rattle.scenario.proofs.InterfaceLemmas.{scenario_interface}

-- ---- values

-- what an option has is so
abbrev IfThere : {X : Type 0} → (X → Type 0) → Option X → Type 0
IfThere {X} P None = Unit {0}
IfThere {X} P (Some x) = P x

up_to : (limit : ℕ) (value : List ℕ) (found : Option ℕ) → found ≡ number_up_to limit value → IfThere (λ n. n ≤ limit) found
up_to limit value None is = tt
up_to limit value (Some n) is = (number_up_to-some limit value n (sym is)).within

chosen : (limit : ℕ) (value : List ℕ) (short : Bool) → IfThere (λ n. n ≤ limit) (if short then number_up_to limit value else None)
chosen limit value true = up_to limit value (number_up_to limit value) refl
chosen limit value false = tt

number_within : (limit : ℕ) (value : List ℕ) → IfThere (λ n. n ≤ limit) (number_of limit value)
number_within limit value = chosen limit value (nat_le (length value) 20)

mapped_within : (limit : ℕ) (found : Option ℕ) → IfThere (λ n. n ≤ limit) found → IfThere (λ n. n ≤ limit * 1000) (option_map (λ n. n * 1000) found)
mapped_within limit None within = tt
mapped_within limit (Some n) within = omega arith

moment_within : (value : List ℕ) → IfThere (λ n. n ≤ day) (moment_of value)
moment_within value = mapped_within 86400000 (number_of 86400000 value) (number_within 86400000 value)

positive : (n : ℕ) → false ≡ (n == 0) → 1 ≤ n
positive zero is = absurd (cc)
positive (suc n) is = omega arith

turn_chosen : (n : ℕ) (none : Bool) → none ≡ (n == 0) → n ≤ 10000000 → IfThere (λ t. (1 ≤ t) × (t ≤ 10000000)) (if none then None else Some n)
turn_chosen n true is within = tt
turn_chosen n false is within = (positive n is, within)

turns_from : (found : Option ℕ) → IfThere (λ n. n ≤ 10000000) found →
    IfThere (λ t. (1 ≤ t) × (t ≤ 10000000)) (option_and_then (λ turns. if turns == 0 then None else Some turns) found)
turns_from None within = tt
turns_from (Some n) within = turn_chosen n (n == 0) refl within

turns_within : (value : List ℕ) → IfThere (λ t. (1 ≤ t) × (t ≤ 10000000)) (turns_of value)
turns_within value = turns_from (number_of 10000000 value) (number_within 10000000 value)

seconds_within : (found : Option ℕ) → IfThere (λ n. n ≤ 4294967295) found → IfThere IsEpochWithin (option_map (λ n. At n) found)
seconds_within None within = tt
seconds_within (Some n) within = within

epoch_chosen : (value : List ℕ) (first : Bool) → IfThere IsEpochWithin (if first then Some First else option_map (λ n. At n) (number_of 4294967295 value))
epoch_chosen value true = tt
epoch_chosen value false = seconds_within (number_of 4294967295 value) (number_within 4294967295 value)

epoch_within : (value : List ℕ) → IfThere IsEpochWithin (epoch_of value)
epoch_within value = epoch_chosen value (bytes_eq value (codes "first"))

-- what is so of each number of a list
abbrev AllOf : (ℕ → Type 0) → List ℕ → Type 0
AllOf P [] = Unit {0}
AllOf P (x ∷ xs) = P x × AllOf P xs

same_number : (x n : ℕ) → (x == n) ≡ true → x ≡ n
same_number x n is = grind (arith, nat_tests)

any_step : (P : ℕ → Type 0) (x n : ℕ) (here there : Bool) → here ≡ (x == n) → P x → (there ≡ true → P n) → (here || there) ≡ true → P n
any_step P x n true there is holds rest found = subst P (same_number x n (sym is)) holds
any_step P x n false there is holds rest found = rest found

any_holds : (P : ℕ → Type 0) (n : ℕ) (xs : List ℕ) → AllOf P xs → list_any (λ one. one == n) xs ≡ true → P n
any_holds P n [] all found = absurd (cc)
any_holds P n (x ∷ xs) all found = any_step P x n (x == n) (list_any (λ one. one == n) xs) refl all.0 (any_holds P n xs all.1) found

-- a bit of 1 to 100 microseconds
abbrev IsBit : ℕ → Type 0
IsBit bit = (1 ≤ bit) × (bit ≤ 100)

rates_within : AllOf (λ rate. IsBit (1000000 / rate)) bit_rates
rates_within =
    let b1 : IsBit (1000000 / 10000) = (omega arith, omega arith) in
    let b2 : IsBit (1000000 / 12500) = (omega arith, omega arith) in
    let b3 : IsBit (1000000 / 15625) = (omega arith, omega arith) in
    let b4 : IsBit (1000000 / 20000) = (omega arith, omega arith) in
    let b5 : IsBit (1000000 / 25000) = (omega arith, omega arith) in
    let b6 : IsBit (1000000 / 31250) = (omega arith, omega arith) in
    let b7 : IsBit (1000000 / 40000) = (omega arith, omega arith) in
    let b8 : IsBit (1000000 / 50000) = (omega arith, omega arith) in
    let b9 : IsBit (1000000 / 62500) = (omega arith, omega arith) in
    let b10 : IsBit (1000000 / 100000) = (omega arith, omega arith) in
    let b11 : IsBit (1000000 / 125000) = (omega arith, omega arith) in
    let b12 : IsBit (1000000 / 200000) = (omega arith, omega arith) in
    let b13 : IsBit (1000000 / 250000) = (omega arith, omega arith) in
    let b14 : IsBit (1000000 / 500000) = (omega arith, omega arith) in
    let b15 : IsBit (1000000 / 1000000) = (omega arith, omega arith) in
    (b1, (b2, (b3, (b4, (b5, (b6, (b7, (b8, (b9, (b10, (b11, (b12, (b13, (b14, (b15, tt)))))))))))))))

rate_chosen : (rate : ℕ) (is_rate : Bool) → is_rate ≡ list_any (λ one. one == rate) bit_rates → IfThere IsBit (if is_rate then Some (1000000 / rate) else None)
rate_chosen rate true is = any_holds (λ r. IsBit (1000000 / r)) rate bit_rates rates_within (sym is)
rate_chosen rate false is = tt

bit_from : (found : Option ℕ) → IfThere IsBit (option_and_then (λ rate. if list_any (λ one. one == rate) bit_rates then Some (1000000 / rate) else None) found)
bit_from None = tt
bit_from (Some rate) = rate_chosen rate (list_any (λ one. one == rate) bit_rates) refl

bit_within : (value : List ℕ) → IfThere IsBit (bit_of value)
bit_within value = bit_from (number_of 1000000 value)

printed : (byte : ℕ) → true ≡ (nat_le 33 byte && nat_le byte 126) → (33 ≤ byte) × (byte ≤ 126)
printed byte is = (grind (arith, nat_tests), grind (arith, nat_tests))

byte_chosen : (byte : ℕ) (is : Bool) → is ≡ (nat_le 33 byte && nat_le byte 126) → IfThere (λ b. (33 ≤ b) × (b ≤ 126)) (if is then Some byte else None)
byte_chosen byte true is = printed byte is
byte_chosen byte false is = tt

byte_within : (key : List ℕ) → IfThere (λ b. (33 ≤ b) × (b ≤ 126)) (key_byte_of key)
byte_within [] = tt
byte_within (byte ∷ []) = byte_chosen byte (nat_le 33 byte && nat_le byte 126) refl
byte_within (byte ∷ next ∷ key) = tt

key_with : (at : ℕ) (byte : Option ℕ) → at ≤ day → IfThere (λ b. (33 ≤ b) × (b ≤ 126)) byte → IfThere IsKeyWithin (option_map (λ b. record { at = at; key = b }) byte)
key_with at None within is = tt
key_with at (Some byte) within is = record { at = within; least = is.0; greatest = is.1 }

key_from : (moment : Option ℕ) (key : List ℕ) → IfThere (λ n. n ≤ day) moment →
    IfThere IsKeyWithin (option_and_then (λ at. option_map (λ byte. record { at = at; key = byte }) (key_byte_of key)) moment)
key_from None key within = tt
key_from (Some at) key within = key_with at (key_byte_of key) within (byte_within key)

key_within : (moment key : List ℕ) → IfThere IsKeyWithin (key_of moment key)
key_within moment key = key_from (moment_of moment) key (moment_within moment)

-- ---- items

-- the value of an item is within its bounds
abbrev IsItemWithin : Item → Type 0
IsItemWithin (item.Bitrate bit) = IfThere IsBit bit
IsItemWithin (item.Until moment) = IfThere (λ n. n ≤ day) moment
IsItemWithin (item.Turns turns) = IfThere (λ t. (1 ≤ t) × (t ≤ 10000000)) turns
IsItemWithin (item.Epoch epoch) = IfThere IsEpochWithin epoch
IsItemWithin (item.Key key) = IfThere IsKeyWithin key
IsItemWithin _ = Unit {0}

either : (b : Bool) (one other : Item) → IsItemWithin one → IsItemWithin other → IsItemWithin (if b then one else other)
either true one other is also = is
either false one other is also = also

one_within : (word value : List ℕ) → IsItemWithin (item_of_one word value)
one_within word value =
    either (bytes_eq word (codes "scenario")) _ _ tt
    (either (bytes_eq word (codes "database")) _ _ tt
    (either (bytes_eq word (codes "bitrate")) _ _ (bit_within value)
    (either (bytes_eq word (codes "until")) _ _ (moment_within value)
    (either (bytes_eq word (codes "turns")) _ _ (turns_within value)
    (either (bytes_eq word (codes "epoch")) _ _ (epoch_within value)
    (either (bytes_eq word (codes "interface")) _ _ tt
    (either (bytes_eq word (codes "replay")) _ _ tt tt)))))))

two_within : (word first second : List ℕ) → IsItemWithin (item_of_two word first second)
two_within word first second =
    either (bytes_eq word (codes "node")) _ _ tt (either (bytes_eq word (codes "key")) _ _ (key_within first second) tt)

values_within : (word : List ℕ) (values : List (List ℕ)) → IsItemWithin (item_of_values word values)
values_within word [] = tt
values_within word (value ∷ []) = one_within word value
values_within word (first ∷ second ∷ []) = two_within word first second
values_within word (first ∷ second ∷ third ∷ values) = tt

picks_within : (values : List (List ℕ)) → IsItemWithin (item_of_picks values)
picks_within [] = tt
picks_within (value ∷ values) = tt

item_within : (fields : List (List ℕ)) → IsItemWithin (item_of fields)
item_within [] = tt
item_within (word ∷ values) = either (bytes_eq word (codes "picks")) _ _ (picks_within values) (values_within word values)

line_chosen : (passed : Bool) (here : Item) → IsItemWithin here → All IsItemWithin (if passed then [] else here ∷ [])
line_chosen true here is = All-nil IsItemWithin
line_chosen false here is = All-cons IsItemWithin here [] is (All-nil IsItemWithin)

items_within : (lines : List (List ℕ)) → All IsItemWithin (items_of lines)
items_within [] = All-nil IsItemWithin
items_within (line ∷ lines) =
    All-append IsItemWithin (items_in line) (items_of lines)
    (line_chosen (is_passed_over line) (item_of (fields_of line)) (item_within (fields_of line))) (items_within lines)

-- ---- scenarios

all_of : {X : Type 0} (P : X → Type 0) (f : Item → List X) → ((i : Item) → IsItemWithin i → All P (f i)) → (items : List Item) → All IsItemWithin items → All P (flat_map f items)
all_of P f each [] within = All-nil P
all_of P f each (i ∷ items) within =
    All-append P (f i) (flat_map f items) (each i (within 0 i (omega arith)))
    (all_of P f each items (λ k d short. within (suc k) d (omega arith)))

first_within : {X : Type 0} (P : X → Type 0) (xs : List X) (d : X) → All P xs → P d → P (unwrap_or (slice_get xs 0) d)
first_within P [] d all holds = holds
first_within P (x ∷ xs) d all holds = all 0 x (omega arith)

listed : {X : Type 0} (P : X → Type 0) (found : Option X) → IfThere P found → All P (option_to_list found)
listed P None holds = All-nil P
listed P (Some x) holds = All-cons P x [] holds (All-nil P)

bits_in : (i : Item) → IsItemWithin i → All IsBit (bit_in i)
bits_in (item.Bitrate bit) within = listed IsBit bit within
bits_in _ within = All-nil IsBit

untils_in : (i : Item) → IsItemWithin i → All (λ n. n ≤ day) (until_in i)
untils_in (item.Until moment) within = listed (λ n. n ≤ day) moment within
untils_in _ within = All-nil (λ n. n ≤ day)

turn_limits_in : (i : Item) → IsItemWithin i → All (λ t. (1 ≤ t) × (t ≤ 10000000)) (turns_in i)
turn_limits_in (item.Turns turns) within = listed (λ t. (1 ≤ t) × (t ≤ 10000000)) turns within
turn_limits_in _ within = All-nil (λ t. (1 ≤ t) × (t ≤ 10000000))

epochs_in : (i : Item) → IsItemWithin i → All IsEpochWithin (epoch_in i)
epochs_in (item.Epoch epoch) within = listed IsEpochWithin epoch within
epochs_in _ within = All-nil IsEpochWithin

keys_in : (i : Item) → IsItemWithin i → All IsKeyWithin (key_in i)
keys_in (item.Key key) within = listed IsKeyWithin key within
keys_in _ within = All-nil IsKeyWithin

-- the numbers of a scenario are within their bounds, and its interface is one
pub scenario_within : (text : List ℕ) (scenario : Scenario) → IsScenario text scenario → IsWithin scenario
scenario_within text scenario is =
    let items = items_of (lines text) in
    let within = items_within (lines text) in
    let bit : IsBit scenario.bit = subst IsBit (sym is.said.bit) (first_within IsBit (flat_map bit_in items) 2 (all_of IsBit bit_in bits_in items within) (omega arith, omega arith)) in
    let turns : (1 ≤ scenario.turns) × (scenario.turns ≤ 10000000) =
    subst (λ t. (1 ≤ t) × (t ≤ 10000000)) (sym is.said.turns)
    (first_within (λ t. (1 ≤ t) × (t ≤ 10000000)) (flat_map turns_in items) 100000 (all_of (λ t. (1 ≤ t) × (t ≤ 10000000)) turns_in turn_limits_in items within) (omega arith, omega arith)) in
    record {
      some_bit = bit.0;
      bit = bit.1;
      until = subst (λ n. n ≤ day) (sym is.said.until)
          (first_within (λ n. n ≤ day) (flat_map until_in items) 10000000 (all_of (λ n. n ≤ day) until_in untils_in items within) (omega arith));
      some_turn = turns.0;
      turns = turns.1;
      epoch = subst IsEpochWithin (sym is.said.epoch)
          (first_within IsEpochWithin (flat_map epoch_in items) (At 0) (all_of IsEpochWithin epoch_in epochs_in items within) (omega arith));
      interface = scenario_interface text scenario is;
      keys = All-permutation IsKeyWithin (flat_map key_in items) scenario.keys.items is.said.keys.same
          (all_of IsKeyWithin key_in keys_in items within);
      by_moment = IsNonDecreasingBy-from_sort (λ k. k.at) scenario.keys.items is.said.keys.by_moment;
    }
