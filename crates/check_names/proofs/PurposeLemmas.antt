-- What tables have of what procedures are for.
use Rattle.std.proofs.Common.{◌≡◌, ◌<◌, ◌≤◌, ℕ, Bool, true, false, List, [], ◌∷◌, ◌++◌, ◌∙◌, ◌&&◌, ◌||◌, Option, Some, None, arith, refl, ap, sym, subst}
use Rattle.std.specs.Prelude.{⊤, flat_map, is_some, if◌then◌else◌}
use Rattle.std.specs.List.{AllByRecursion, list_any}
use Rattle.std.specs.Option.{option_or}
use Rattle.std.specs.Str.{bytes_eq}
use Rattle.std.proofs.lemmas.Bool.Decides.{nat_tests}
use Rattle.run_effects.specs.declared.event.Selector.{Selector}
use Rattle.capl_meaning.specs.ProcedureRules.{Channels, Both, First, Second, Purpose, ForFrames, ForTimer, ForKey, Told, collide, overlap, same_pressed_key, share_channel}
use Rattle.check_names.specs.declared.purposes.Purposes.{Purposes}
use Rattle.check_names.specs.declared.covered.Covered.{Covered}
use Rattle.check_names.specs.declared.table.NameTable.{NameTable}
use Rattle.check_names.specs.Inside.Covered.{Covers}
use Rattle.check_names.specs.Inside.Purpose.{IsOrdinary, Knows, any_meet, first_numbers, number_of_key, numbers_at, second_numbers}
use Rattle.check_names.specs.Inside.Ranges.{meet}
use Rattle.check_names.specs.Inside.Table.{numbered}
use Rattle.check_names.specs.Selector.{IsProper}
use Rattle.check_names.proofs.TableLemmas.{name_more}

-- ---- tests of lists

or_grouped : (a b c : Bool) → (a || (b || c)) ≡ ((a || b) || c)
or_grouped true b c = refl
or_grouped false b c = refl

-- two of each, the other way round
or_swapped : (a b c d : Bool) → ((a || b) || (c || d)) ≡ ((a || c) || (b || d))
or_swapped true b c d = refl
or_swapped false true true d = refl
or_swapped false true false d = refl
or_swapped false false c d = refl

any_append : {A : Type 0} (test : A → Bool) (xs ys : List A) → list_any test (xs ++ ys) ≡ (list_any test xs || list_any test ys)
any_append test [] ys = refl
any_append test (x ∷ xs) ys =
    ap (λ (b : Bool). test x || b) (any_append test xs ys) ∙ or_grouped (test x) (list_any test xs) (list_any test ys)

-- ranges meet none where there are none, and some of two lists where they meet some of one of them
none_met : (some : List (ℕ × ℕ)) → any_meet some [] ≡ false
none_met [] = refl
none_met (one ∷ some) = none_met some

met_append : (some xs ys : List (ℕ × ℕ)) → any_meet some (xs ++ ys) ≡ (any_meet some xs || any_meet some ys)
met_append [] xs ys = refl
met_append (one ∷ some) xs ys =
    ap (λ (b : Bool). b || any_meet some (xs ++ ys)) (any_append (meet one) xs ys)
    ∙ ap (λ (b : Bool). (list_any (meet one) xs || list_any (meet one) ys) || b) (met_append some xs ys)
    ∙ or_swapped (list_any (meet one) xs) (list_any (meet one) ys) (any_meet some xs) (any_meet some ys)

-- ---- selectors and keys

-- selectors overlap where their numbers do
numbers_meet : (a b : Selector) → a.high < 0x100000000 → b.high < 0x100000000 → a.low ≤ a.high → b.low ≤ b.high
    → meet (numbers_at a) (numbers_at b) ≡ overlap a b
numbers_meet a b one two three four = grind (arith, nat_tests, one, two, three, four)

-- the numbers of one selector meet those of another on two channels, on the first, or on the second
both_meet : (o : Bool) → (((o || false) || false) || ((o || false) || false)) ≡ o
both_meet true = refl
both_meet false = refl

first_meets : (o : Bool) → (((o || false) || false) || false) ≡ o
first_meets true = refl
first_meets false = refl

second_meets : (o : Bool) → ((o || false) || false) ≡ o
second_meets true = refl
second_meets false = refl

-- some number is among those of the first channel and the keys, or among those of the second
abbrev pub is_known : Purpose → List (ℕ × ℕ) → List (ℕ × ℕ) → Bool
is_known p first second = any_meet (first_numbers p) first || any_meet (second_numbers p) second

-- selectors of channels overlap and share one where their numbers meet
frames_meet : (here there : Channels) (a b : Selector) → a.high < 0x100000000 → b.high < 0x100000000 → a.low ≤ a.high → b.low ≤ b.high
    → is_known (ForFrames here a) (first_numbers (ForFrames there b)) (second_numbers (ForFrames there b))
    ≡ (share_channel here there && overlap a b)
frames_meet Both Both a b one two three four = rw (numbers_meet a b one two three four) (both_meet (overlap a b))
frames_meet Both First a b one two three four = rw (numbers_meet a b one two three four) (first_meets (overlap a b))
frames_meet Both Second a b one two three four = rw (numbers_meet a b one two three four) (second_meets (overlap a b))
frames_meet First Both a b one two three four = rw (numbers_meet a b one two three four) (first_meets (overlap a b))
frames_meet First First a b one two three four = rw (numbers_meet a b one two three four) (first_meets (overlap a b))
frames_meet First Second a b one two three four = refl
frames_meet Second Both a b one two three four = rw (numbers_meet a b one two three four) (second_meets (overlap a b))
frames_meet Second First a b one two three four = refl
frames_meet Second Second a b one two three four = rw (numbers_meet a b one two three four) (second_meets (overlap a b))

-- the numbers of selectors are below those of keys
all_below : (a : Selector) (k : ℕ) → IsProper a → a.high < 0x100000000 → 0x300000000 ≤ k
    → (meet (numbers_at a) (k, k) ≡ false) × (meet (k, k) (numbers_at a) ≡ false)
all_below a k proper below above =
    let rank = proper.rank in (grind (arith, nat_tests, rank, below, above), grind (arith, nat_tests, rank, below, above))

frames_and_key : (channels : Channels) (a : Selector) (k : ℕ) → IsProper a → a.high < 0x100000000 → 0x300000000 ≤ k
    → is_known (ForFrames channels a) ((k, k) ∷ []) [] ≡ false
frames_and_key Both a k proper below above = rw ((all_below a k proper below above).0) refl
frames_and_key First a k proper below above = rw ((all_below a k proper below above).0) refl
frames_and_key Second a k proper below above = refl

-- the same the other way round
key_and_frames : (channels : Channels) (a : Selector) (k : ℕ) → IsProper a → a.high < 0x100000000 → 0x300000000 ≤ k
    → (any_meet ((k, k) ∷ []) (first_numbers (ForFrames channels a)) || false) ≡ false
key_and_frames Both a k proper below above = rw ((all_below a k proper below above).1) refl
key_and_frames First a k proper below above = rw ((all_below a k proper below above).1) refl
key_and_frames Second a k proper below above = refl

-- the least number of a key
above : (key : Option ℕ) → 0x300000000 ≤ number_of_key key
above None = omega arith
above (Some n) = omega arith

-- keys are one where their numbers are
keys_meet : (a b : Option ℕ) → meet (number_of_key a, number_of_key a) (number_of_key b, number_of_key b) ≡ same_pressed_key a b
keys_meet None None = grind (arith, nat_tests)
keys_meet None (Some n) = grind (arith, nat_tests)
keys_meet (Some m) None = grind (arith, nat_tests)
keys_meet (Some m) (Some n) = grind (arith, nat_tests)

-- ---- what is told

-- numbers stand for what a procedure is for
abbrev pub HasNumbers : Purpose → Type 0
HasNumbers (ForTimer name) = ⊥
HasNumbers _ = ⊤

-- what has numbers among none is not known
known_of_none : (a : Purpose) → is_known a [] [] ≡ false
known_of_none a = rw (none_met (first_numbers a), none_met (second_numbers a)) refl

-- what two procedures are for is the same where their numbers meet
collide_as : (a b : Purpose) → IsOrdinary a → IsOrdinary b → HasNumbers a
    → is_known a (first_numbers b) (second_numbers b) ≡ collide a b
collide_as (ForFrames here a) (ForFrames there b) one two has = frames_meet here there a b one.1 two.1 one.0.some_key two.0.some_key
collide_as (ForFrames here a) (ForTimer b) one two has = known_of_none (ForFrames here a)
collide_as (ForFrames here a) (ForKey b) one two has = frames_and_key here a (number_of_key b) one.0 one.1 (above b)
collide_as (ForTimer a) b one two has = elim has [ ]
collide_as (ForKey a) (ForFrames there b) one two has = key_and_frames there b (number_of_key a) two.0 two.1 (above a)
collide_as (ForKey a) (ForTimer b) one two has = refl
collide_as (ForKey a) (ForKey b) one two has = rw (keys_meet a b) (first_meets (same_pressed_key a b))

-- the numbers of the first channel, and of keys, that were told
abbrev pub told_first : List Told → List (ℕ × ℕ)
told_first earlier = flat_map (λ (told : Told). first_numbers told.purpose) earlier

-- the numbers of the second channel that were told
abbrev pub told_second : List Told → List (ℕ × ℕ)
told_second earlier = flat_map (λ (told : Told). second_numbers told.purpose) earlier

-- they are met where the purposes are the same
any_as : (a : Purpose) (earlier : List Told) → IsOrdinary a → HasNumbers a → AllByRecursion (λ told. IsOrdinary told.purpose) earlier
    → is_known a (told_first earlier) (told_second earlier) ≡ list_any (λ told. collide a told.purpose) earlier
any_as a [] one has all = known_of_none a
any_as a (t ∷ earlier) one has all =
    let first = any_meet (first_numbers a) in
    let second = any_meet (second_numbers a) in
    ap (λ (b : Bool). b || second (told_second (t ∷ earlier))) (met_append (first_numbers a) (first_numbers t.purpose) (told_first earlier))
    ∙ ap (λ (b : Bool). (first (first_numbers t.purpose) || first (told_first earlier)) || b)
    (met_append (second_numbers a) (second_numbers t.purpose) (told_second earlier))
    ∙ or_swapped (first (first_numbers t.purpose)) (first (told_first earlier)) (second (second_numbers t.purpose)) (second (told_second earlier))
    ∙ ap (λ (b : Bool). b || is_known a (told_first earlier) (told_second earlier)) (collide_as a t.purpose one all.0 has)
    ∙ ap (λ (b : Bool). collide a t.purpose || b) (any_as a earlier one has all.1)

-- what is known of frames and keys
pub known_numbers : (purposes : Purposes) (earlier : List Told) (a b : Purpose) (known : Bool) → Knows purposes earlier
    → a ≡ b → IsOrdinary a → HasNumbers b
    → ((first second : List (ℕ × ℕ)) → Covers purposes.first first → Covers purposes.second second → known ≡ is_known b first second)
    → known ≡ list_any (λ told. collide a told.purpose) earlier
known_numbers purposes earlier a b known knows same one has answer =
    answer (told_first earlier) (told_second earlier) knows.first knows.second
    ∙ any_as b earlier (subst IsOrdinary same one) has knows.ordinary
    ∙ ap (λ (p : Purpose). list_any (λ (told : Told). collide p told.purpose) earlier) (sym same)

-- what is known of a key
pub known_key : (key : Option ℕ) (first second : List (ℕ × ℕ))
    → list_any (meet (number_of_key key, number_of_key key)) first ≡ is_known (ForKey key) first second
known_key key first second = last_or (list_any (meet (number_of_key key, number_of_key key)) first)
  where
    last_or : (b : Bool) → b ≡ ((b || false) || false)
    last_or true = refl
    last_or false = refl

-- what has numbers is for no timer
no_timer : (name : List ℕ) (a : Purpose) → HasNumbers a → collide (ForTimer name) a ≡ false
no_timer name (ForFrames channels a) has = refl
no_timer name (ForTimer a) has = elim has [ ]
no_timer name (ForKey a) has = refl

-- frames or a key more
pub more_numbers : (old new : Purposes) (earlier : List Told) (told : Told) (b : Purpose) → told.purpose ≡ b → HasNumbers b
    → IsOrdinary b → Knows old earlier → Covers new.first (first_numbers b ++ told_first earlier)
    → Covers new.second (second_numbers b ++ told_second earlier) → new.timers ≡ old.timers
    → Knows new (told ∷ earlier)
more_numbers old new earlier told b same has one knows first second timers = record {
  first = subst (λ (p : Purpose). Covers new.first (first_numbers p ++ told_first earlier)) (sym same) first;
  second = subst (λ (p : Purpose). Covers new.second (second_numbers p ++ told_second earlier)) (sym same) second;
  timers = λ name.
      ap (λ (t : NameTable). is_some (numbered t name)) timers ∙ knows.timers name
      ∙ ap (λ (b : Bool). b || list_any (λ (t : Told). collide (ForTimer name) t.purpose) earlier)
      (sym (ap (λ (p : Purpose). collide (ForTimer name) p) same ∙ no_timer name b has));
  ordinary = (subst IsOrdinary (sym same) one, knows.ordinary);
}

-- a timer more
pub more_timers : (old new : Purposes) (earlier : List Told) (told : Told) (name : List ℕ) → told.purpose ≡ ForTimer name
    → Knows old earlier → new.first ≡ old.first → new.second ≡ old.second
    → ((other : List ℕ) → numbered new.timers other ≡ option_or (numbered old.timers other) (if bytes_eq other name then Some 0 else None))
    → Knows new (told ∷ earlier)
more_timers old new earlier told name is knows first second timers = record {
  first = subst (λ (p : Purpose). Covers new.first (first_numbers p ++ told_first earlier)) (sym is)
      (subst (λ (c : Covered). Covers c (told_first earlier)) (sym first) knows.first);
  second = subst (λ (p : Purpose). Covers new.second (second_numbers p ++ told_second earlier)) (sym is)
      (subst (λ (c : Covered). Covers c (told_second earlier)) (sym second) knows.second);
  timers = λ other.
      ap (λ (o : Option ℕ). is_some o) (timers other)
      ∙ name_more (numbered old.timers other) (bytes_eq other name)
      ∙ ap (λ (b : Bool). bytes_eq other name || b) (knows.timers other)
      ∙ ap (λ (p : Purpose). collide (ForTimer other) p || list_any (λ (t : Told). collide (ForTimer other) t.purpose) earlier) (sym is);
  ordinary = (subst (λ (p : Purpose). IsOrdinary p) (sym is) tt, knows.ordinary);
}
