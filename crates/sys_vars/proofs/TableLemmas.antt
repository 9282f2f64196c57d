-- Notes in the place of values.
use Rattle.std.proofs.Common.{◌≡◌, ℕ, zero, suc, ◌+◌, ◌<◌, ◌≤◌, Bool, false, List, [], ◌∷◌, length, length-set, map, take, get_or, Option, Some, None, refl, ap, sym, subst, ◌∙◌, is_some, arith}
use Rattle.std.proofs.Math.ListN.{set, replicate}
use Rattle.std.proofs.lemmas.List.{length-map, length-replicate}
use Rattle.std.specs.Prelude.{ℤ, unwrap_or}
use Rattle.std.specs.List.{All}
use Rattle.std.specs.Option.{ForSome}
use Rattle.std.proofs.lemmas.List.Elements.{All-cons, All-head, All-tail, All-set, All-replicate, All-map}
use Rattle.sys_vars.specs.declared.item.SysItem.{SysItem}
use Rattle.sys_vars.specs.Name.{IsLong}
use Rattle.sys_vars.specs.Table.{IsShared, Shared, noted, shared_by, merged}

-- no note
abbrev pub no_note : Option ℤ
no_note = None

-- without notes the values stay
pub none_noted : (values : List ℤ) → noted values [] ≡ values
none_noted [] = refl
none_noted (value ∷ values) = refl

-- each value is there still, or its note
pub length_noted : (values : List ℤ) (notes : List (Option ℤ)) → length (noted values notes) ≡ length values
length_noted [] notes = refl
length_noted (value ∷ values) [] = refl
length_noted (value ∷ values) (first ∷ notes) = ap suc (length_noted values notes)

-- one more note in the place of a value
pub noted_more : (values : List ℤ) (notes : List (Option ℤ)) (i : ℕ) (d : Option ℤ) (e : ℤ) → i < length notes → i < length values
    → noted values (take (suc i) notes) ≡ set (noted values (take i notes)) i (unwrap_or (get_or notes i d) (get_or (noted values (take i notes)) i e))
noted_more [] notes i d e within there = absurd (omega arith)
noted_more (value ∷ values) [] i d e within there = absurd (omega arith)
noted_more (value ∷ values) (first ∷ notes) zero d e within there = ap (λ (vs : List ℤ). unwrap_or first value ∷ vs) (none_noted values)
noted_more (value ∷ values) (first ∷ notes) (suc i) d e within there =
    ap (λ (vs : List ℤ). unwrap_or first value ∷ vs) (noted_more values notes i d e (omega arith) (omega arith))

-- notes of which so many are taken away
abbrev pub forgotten : ℕ → List (Option ℤ) → List (Option ℤ)
forgotten zero notes = notes
forgotten (suc n) [] = []
forgotten (suc n) (first ∷ notes) = no_note ∷ forgotten n notes

-- one more is taken away
pub forgotten_more : (n : ℕ) (notes : List (Option ℤ)) → n < length notes → forgotten (suc n) notes ≡ set (forgotten n notes) n no_note
forgotten_more n [] within = absurd (omega arith)
forgotten_more zero (first ∷ notes) within = refl
forgotten_more (suc n) (first ∷ notes) within = ap (λ (ns : List (Option ℤ)). no_note ∷ ns) (forgotten_more n notes (omega arith))

-- all are taken away
pub all_forgotten : (n : ℕ) (notes : List (Option ℤ)) → length notes ≤ n → forgotten n notes ≡ replicate (length notes) no_note
all_forgotten zero [] within = refl
all_forgotten zero (first ∷ notes) within = absurd (omega arith)
all_forgotten (suc n) [] within = refl
all_forgotten (suc n) (first ∷ notes) within = ap (λ (ns : List (Option ℤ)). no_note ∷ ns) (all_forgotten n notes (omega arith))

-- longs with longs in their places are longs
pub longs_noted : (values : List ℤ) (notes : List (Option ℤ)) → All IsLong values → All (λ (note : Option ℤ). ForSome note IsLong) notes → All IsLong (noted values notes)
longs_noted [] notes longs noted_longs = longs
longs_noted (value ∷ values) [] longs noted_longs = longs
longs_noted (value ∷ values) (first ∷ notes) longs noted_longs =
    All-cons IsLong (unwrap_or first value) (noted values notes)
    (here first (All-head IsLong value values longs) (All-head (λ (n : Option ℤ). ForSome n IsLong) first notes noted_longs))
    (longs_noted values notes (All-tail IsLong value values longs) (All-tail (λ (n : Option ℤ). ForSome n IsLong) first notes noted_longs))
  where
    here : (o : Option ℤ) → IsLong value → ForSome o IsLong → IsLong (unwrap_or o value)
    here None long some = long
    here (Some n) long some = some n refl

-- no note is none that is no long
pub no_notes : (n : ℕ) → All (λ (note : Option ℤ). ForSome note IsLong) (replicate n no_note)
no_notes n = All-replicate (λ (note : Option ℤ). ForSome note IsLong) n no_note (λ x e. absurd cc)

-- the same, one for each of some items
no_notes_of : (items : List SysItem) → All (λ (note : Option ℤ). ForSome note IsLong) (map (λ (item : SysItem). no_note) items)
no_notes_of items = All-map (λ (note : Option ℤ). ForSome note IsLong) (λ (item : SysItem). no_note) items (λ k d within x e. absurd cc)

-- nothing is marked where there was no note
pub none_marked : (items : List SysItem) → map is_some (map (λ (item : SysItem). no_note) items) ≡ map (λ (item : SysItem). false) items
none_marked [] = refl
none_marked (item ∷ items) = ap (λ (marks : List Bool). false ∷ marks) (none_marked items)

-- what an offer leaves is as it has to be
pub offered_shared : (shared : Shared) (number : ℕ) (n : ℤ) → IsShared shared → IsLong n
    → IsShared (record shared { notes = set shared.notes number (Some n) })
offered_shared shared number n is long = record {
  notes = length-set shared.notes number (Some n) ∙ is.notes;
  changed = is.changed;
  longs = is.longs;
  noted_longs = All-set (λ (note : Option ℤ). ForSome note IsLong) shared.notes number (Some n) (λ x e. let same : n ≡ x = cc in subst IsLong same long) is.noted_longs;
}

-- what a merge leaves is as it has to be
pub merged_shared : (shared : Shared) → IsShared shared → IsShared (merged shared)
merged_shared shared is = record {
  notes = length-replicate (length shared.notes) no_note ∙ is.notes ∙ sym (length_noted shared.values shared.notes);
  changed = length-map shared.notes is_some ∙ is.notes ∙ sym (length_noted shared.values shared.notes);
  longs = longs_noted shared.values shared.notes is.longs is.noted_longs;
  noted_longs = no_notes (length shared.notes);
}

-- what is made of items is as it has to be
pub made_shared : (items : List SysItem) → All (λ (item : SysItem). IsLong item.value) items → IsShared (shared_by items)
made_shared items longs = record {
  notes = length-map items (λ (item : SysItem). no_note) ∙ sym (length-map items (λ (item : SysItem). item.value));
  changed = length-map items (λ (item : SysItem). false) ∙ sym (length-map items (λ (item : SysItem). item.value));
  longs = All-map IsLong (λ (item : SysItem). item.value) items longs;
  noted_longs = no_notes_of items;
}

-- values and notes, where these were the notes of the last round
abbrev pub shared_of : List ℤ → List (Option ℤ) → List (Option ℤ) → Shared
shared_of values notes last = record { values = values; notes = notes; changed = map is_some last }

-- what a merge leaves, part by part
pub merged_is : (shared : Shared) (values : List ℤ) (notes last : List (Option ℤ)) (count : ℕ) → IsShared shared → values ≡ noted shared.values shared.notes
    → notes ≡ replicate count no_note → count ≡ length shared.notes → last ≡ shared.notes
    → shared_of values notes last ≡ merged shared
merged_is shared values notes last count is taken forgot same kept =
    ap (λ (vs : List ℤ). shared_of vs notes last) taken
    ∙ ap (λ (ns : List (Option ℤ)). shared_of (noted shared.values shared.notes) ns last) (forgot ∙ ap (λ (n : ℕ). replicate n no_note) same)
    ∙ ap (λ (ns : List (Option ℤ)). shared_of (noted shared.values shared.notes) (replicate (length shared.notes) no_note) ns) kept

-- marks in place of those that the last notes give
abbrev marked : List ℤ → List (Option ℤ) → List Bool → Shared
marked values notes marks = record { values = values; notes = notes; changed = marks }

-- what is made of items, part by part
pub made_is : (items read : List SysItem) (values : List ℤ) (notes last : List (Option ℤ)) → read ≡ items
    → values ≡ map (λ (item : SysItem). item.value) read → notes ≡ map (λ (item : SysItem). no_note) read → last ≡ map (λ (item : SysItem). no_note) read
    → shared_of values notes last ≡ shared_by items
made_is items read values notes last all taken without none =
    let first = map (λ (item : SysItem). item.value) items in
    let empty = map (λ (item : SysItem). no_note) items in
    ap (λ (vs : List ℤ). shared_of vs notes last) (taken ∙ ap (λ (is : List SysItem). map (λ (item : SysItem). item.value) is) all)
    ∙ ap (λ (ns : List (Option ℤ)). shared_of first ns last) (without ∙ ap (λ (is : List SysItem). map (λ (item : SysItem). no_note) is) all)
    ∙ ap (λ (cs : List Bool). marked first empty cs)
    (ap (λ (ns : List (Option ℤ)). map is_some ns) (none ∙ ap (λ (is : List SysItem). map (λ (item : SysItem). no_note) is) all) ∙ none_marked items)

-- one note more is taken away from what is left of some notes
pub forgotten_step : (notes left : List (Option ℤ)) (n : ℕ) → left ≡ forgotten n notes → length left ≡ length notes → n < length notes
    → (set left n no_note ≡ forgotten (n + 1) notes) × (length (set left n no_note) ≡ length notes)
forgotten_step notes left n taken count within =
    let next : suc n ≡ n + 1 = omega arith in (
      ap (λ (ns : List (Option ℤ)). set ns n no_note) taken ∙ sym (forgotten_more n notes within) ∙ ap (λ (k : ℕ). forgotten k notes) next,
      length-set left n no_note ∙ count,
    )

-- one note more stands in the place of its value
pub noted_step : (values : List ℤ) (notes : List (Option ℤ)) (now : List ℤ) (i : ℕ) (d : Option ℤ) (e n : ℤ) → now ≡ noted values (take i notes)
    → length now ≡ length values → i < length notes → length notes ≡ length values → n ≡ unwrap_or (get_or notes i d) (get_or now i e)
    → (set now i n ≡ noted values (take (i + 1) notes)) × (length (set now i n) ≡ length values)
noted_step values notes now i d e n taken count within same is =
    let next : suc i ≡ i + 1 = omega arith in
    let there : i < length values = omega (arith, same, within) in (
      ap (λ (m : ℤ). set now i m) is
          ∙ ap (λ (vs : List ℤ). set vs i (unwrap_or (get_or notes i d) (get_or vs i e))) taken
          ∙ sym (noted_more values notes i d e within there)
          ∙ ap (λ (k : ℕ). noted values (take k notes)) next,
      length-set now i n ∙ count,
    )
