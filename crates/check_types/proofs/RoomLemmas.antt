-- Room for the formats of the parts of a program, where there is room for those of the whole.
use Rattle.std.proofs.Common.{◌≡◌, ◌<◌, ◌+◌, ◌++◌, ◌∙◌, ℕ, List, [], ap, arith, drop, get_or, length, length-append, subst, sym, take}
use Rattle.std.specs.Prelude.{flat_map}
use Rattle.std.proofs.lemmas.List.{take-append-drop}
use Rattle.std.proofs.lemmas.List.Concat.{flat_map-append}
use Rattle.write_format.specs.Line.{FormatText}
use Rattle.capl_meaning.specs.Statement.{Handler}
use Rattle.check_names.proofs.LoopLemmas.{drop_next}
use Rattle.type_alone.proofs.RoomLemmas.{HaveNumbers}
use Rattle.typed_source.specs.Program.{formats_of_body, formats_of_handlers}

-- a part in the middle has room
middle : (old formats a b c : List FormatText) → formats ≡ old ++ a → HaveNumbers (old ++ (a ++ (b ++ c))) → HaveNumbers (formats ++ b)
middle old formats a b c listed room =
    omega (
      arith,
      room,
      ap length listed,
      length-append old (a ++ (b ++ c)),
      length-append a (b ++ c),
      length-append b c,
      length-append old a,
      length-append formats b,
    )

-- a list before one of its elements, that element, and what is behind it
parts : {X Y : Type 0} (f : X → List Y) (all : List X) (i : ℕ) (x : X) → i < length all → x ≡ get_or all i x →
    flat_map f all ≡ flat_map f (take i all) ++ (f x ++ flat_map f (drop (i + 1) all))
parts f all i x within is =
    ap (flat_map f) (sym (take-append-drop i all)) ∙ flat_map-append f (take i all) (drop i all)
    ∙ ap (λ l. flat_map f (take i all) ++ flat_map f l) (drop_next all i x within is)

-- the next of many has room
pub room_for_next : {X : Type 0} (f : X → List FormatText) (old formats : List FormatText) (all : List X) (i : ℕ) (x : X) → i < length all →
    x ≡ get_or all i x → formats ≡ old ++ flat_map f (take i all) → HaveNumbers (old ++ flat_map f all) → HaveNumbers (formats ++ f x)
room_for_next f old formats all i x within is listed room =
    middle old formats (flat_map f (take i all)) (f x) (flat_map f (drop (i + 1) all)) listed
    (subst (λ l. HaveNumbers (old ++ l)) (parts f all i x within is) room)

-- the event procedures of the next of many parts have room
pub room_for_handlers : {X : Type 0} (f : X → List Handler) (old formats : List FormatText) (all : List X) (i : ℕ) (x : X) → i < length all →
    x ≡ get_or all i x → formats ≡ old ++ formats_of_handlers (flat_map f (take i all)) → HaveNumbers (old ++ formats_of_handlers (flat_map f all)) →
    HaveNumbers (formats ++ formats_of_handlers (f x))
room_for_handlers f old formats all i x within is listed room =
    let of_one : Handler → List FormatText = λ h. formats_of_body h.scope h.body in
    let done = flat_map f (take i all) in
    let rest = flat_map f (drop (i + 1) all) in
    middle old formats (formats_of_handlers done) (formats_of_handlers (f x)) (formats_of_handlers rest) listed
    (subst (λ l. HaveNumbers (old ++ l))
    (ap formats_of_handlers (parts f all i x within is) ∙ flat_map-append of_one done (f x ++ rest)
    ∙ ap (λ l. formats_of_handlers done ++ l) (flat_map-append of_one (f x) rest)) room)

-- the first of two parts has room where nothing stands before them
pub room_for_first : (none a b : List FormatText) → none ≡ [] → HaveNumbers (a ++ b) → HaveNumbers (none ++ a)
room_for_first none a b is room = omega (arith, room, ap length is, length-append a b, length-append none a)

-- and so has the other behind it
pub room_for_second : (none formats a b c : List FormatText) → none ≡ [] → formats ≡ none ++ a → c ≡ b → HaveNumbers (a ++ b) →
    HaveNumbers (formats ++ c)
room_for_second none formats a b c is listed same room =
    omega (arith, room, ap length is, ap length listed, ap length same, length-append a b, length-append none a, length-append formats c)
