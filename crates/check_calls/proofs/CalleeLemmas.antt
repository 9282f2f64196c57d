-- Places of called functions that are added one after another.
use Rattle.std.proofs.Common.{◌≡◌, ◌++◌, ◌∷◌, ◌∙◌, ℕ, List, [], Option, Some, None, ap, append_assoc, get_or, length, refl, subst, sym, take, ◌+◌, ◌<◌, ◌≤◌, true, false}
use Rattle.std.specs.Prelude.{find, map, position, slice_get}
use Rattle.std.specs.Str.{bytes_eq}
use Rattle.std.specs.Option.{is_some, option_map_or}
use Rattle.std.specs.List.{cons_option, flat_map}
use Rattle.std.proofs.lemmas.List.{append-nil, flat_map_more, map-append, take_all, take_more}
use Rattle.std.proofs.lemmas.Bool.{false≢true}
use Rattle.std.proofs.lemmas.List.Elements.{filter_map-append}
use Rattle.capl_meaning.specs.Names.{Function, Names, builtin_named, callee, OfLanguage, OfProgram, Unknown}
use Rattle.capl_meaning.specs.declared.builtin.Builtin.{Builtin}
use Rattle.check_calls.proofs.PlaceLemmas.{at_first, no_first}
use Rattle.check_calls.specs.Callees.{called, callees, function_called, functions_at}
use Rattle.check_calls.specs.Inside.Added.{AreAdded}

-- the functions called by names in two parts
pub callees-append : (names : Names) (one other : List (List ℕ)) →
    callees names (one ++ other) ≡ callees names one ++ callees names other
unfolding callees
callees-append names one other =
    ap (map (λ (f : Function). Some f)) (filter_map-append (λ name. function_called (callee names name)) one other)
    ∙ map-append (λ (f : Function). Some f) (called names one) (called names other)

-- nothing was added
pub added_none : (names : Names) (places : List ℕ) → AreAdded names places places []
unfolding callees
added_none names places = sym (append-nil (functions_at names places))

-- two parts were added
pub added_two : (names : Names) (before middle after : List ℕ) (one other : List (List ℕ)) →
    AreAdded names middle before one → AreAdded names after middle other → AreAdded names after before (one ++ other)
added_two names before middle after one other first second =
    second ∙ ap (λ l. l ++ callees names other) first
    ∙ append_assoc (functions_at names before) (callees names one) (callees names other)
    ∙ ap (λ l. functions_at names before ++ l) (sym (callees-append names one other))

-- three parts were added
pub added_three : (names : Names) (before next middle after : List ℕ) (one other last : List (List ℕ)) →
    AreAdded names next before one → AreAdded names middle next other → AreAdded names after middle last →
    AreAdded names after before (one ++ (other ++ last))
added_three names before next middle after one other last first second third =
    added_two names before next after one (other ++ last) first (added_two names next middle after other last second third)

-- one more of a list
pub added_more : {X : Type 0} (names : Names) (f : X → List (List ℕ)) (all : List X) (i : ℕ) (x : X) (before middle after : List ℕ) →
    i < length all → x ≡ get_or all i x → AreAdded names middle before (flat_map f (take i all)) → AreAdded names after middle (f x) →
    AreAdded names after before (flat_map f (take (i + 1) all))
added_more {X} names f all i x before middle after within is first second =
    let more : flat_map f (take i all) ++ f x ≡ flat_map f (take (i + 1) all) =
    flat_map_more f [] (take i all) x
    ∙ ap (λ y. flat_map f (take i all ++ y ∷ [])) is ∙ ap (flat_map f) (sym (take_more all i x within)) in
    subst (λ (l : List (List ℕ)). AreAdded names after before l) more
    (added_two names before middle after (flat_map f (take i all)) (f x) first second)

-- all of a list
pub added_all : {X : Type 0} (names : Names) (f : X → List (List ℕ)) (all : List X) (i : ℕ) (before after : List ℕ) →
    length all ≤ i → AreAdded names after before (flat_map f (take i all)) → AreAdded names after before (flat_map f all)
added_all names f all i before after past is =
    subst (λ l. AreAdded names after before (flat_map f l)) (take_all i all past) is

-- two parts of a whole
pub added_pair : {X Y : Type 0} (f : X → List (List ℕ)) (g : Y → List (List ℕ)) (names : Names) (before middle after : List ℕ)
    (whole : List (List ℕ)) (x x' : X) (y y' : Y) → whole ≡ f x ++ g y → x' ≡ x → y' ≡ y
    → AreAdded names middle before (f x') → AreAdded names after middle (g y') → AreAdded names after before whole
added_pair f g names before middle after whole x x' y y' is same_x same_y first second =
    subst (λ (l : List (List ℕ)). AreAdded names after before l)
    (ap (λ z. f z ++ g y') same_x ∙ ap (λ z. f x ++ g z) same_y ∙ sym is)
    (added_two names before middle after (f x') (g y') first second)

-- three parts of a whole
pub added_triple : {X Y Z : Type 0} (f : X → List (List ℕ)) (g : Y → List (List ℕ)) (h : Z → List (List ℕ)) (names : Names)
    (before next middle after : List ℕ) (whole : List (List ℕ)) (x x' : X) (y y' : Y) (z z' : Z)
    → whole ≡ f x ++ (g y ++ h z) → x' ≡ x → y' ≡ y → z' ≡ z → AreAdded names next before (f x')
    → AreAdded names middle next (g y') → AreAdded names after middle (h z') → AreAdded names after before whole
added_triple f g h names before next middle after whole x x' y y' z z' is same_x same_y same_z first second third =
    subst (λ (l : List (List ℕ)). AreAdded names after before l)
    (ap (λ v. f v ++ (g y' ++ h z')) same_x ∙ ap (λ v. f x ++ (g v ++ h z')) same_y
    ∙ ap (λ v. f x ++ (g y ++ h v)) same_z ∙ sym is)
    (added_two names before next after (f x') (g y' ++ h z') first
    (added_two names next middle after (g y') (h z') second third))

-- a name that a function of the language has
pub added_builtin : (names : Names) (places : List ℕ) (name : List ℕ) → is_some (builtin_named name) ≡ true →
    AreAdded names places places (name ∷ [])
unfolding callees
added_builtin names places name is = by (builtin_named name) refl is
  where
    by : (o : Option Builtin) → builtin_named name ≡ o → is_some o ≡ true → AreAdded names places places (name ∷ [])
    by None same wrong = absurd (false≢true wrong)
    by (Some b) same right =
        let empty : called names (name ∷ []) ≡ [] =
        ap (λ o. cons_option (function_called (option_map_or OfLanguage o (option_map_or OfProgram (find (λ f. bytes_eq name f.name) names.functions) Unknown))) []) same in
        sym (append-nil (functions_at names places))
        ∙ ap (λ (l : List Function). functions_at names places ++ map (λ (f : Function). Some f) l) (sym empty)

-- a name that no function has
pub added_unknown : (names : Names) (places : List ℕ) (name : List ℕ) → is_some (builtin_named name) ≡ false →
    position (λ f. bytes_eq name f.name) names.functions ≡ None → AreAdded names places places (name ∷ [])
unfolding callees
added_unknown names places name is unknown = by (builtin_named name) refl is
  where
    by : (o : Option Builtin) → builtin_named name ≡ o → is_some o ≡ false → AreAdded names places places (name ∷ [])
    by (Some b) same wrong = absurd (false≢true (sym wrong))
    by None same right =
        let empty : called names (name ∷ []) ≡ [] =
        ap (λ o. cons_option (function_called (option_map_or OfLanguage o (option_map_or OfProgram (find (λ f. bytes_eq name f.name) names.functions) Unknown))) []) same
        ∙ ap (λ o. cons_option (function_called (option_map_or OfProgram o Unknown)) []) (no_first (λ f. bytes_eq name f.name) names.functions unknown) in
        sym (append-nil (functions_at names places))
        ∙ ap (λ (l : List Function). functions_at names places ++ map (λ (f : Function). Some f) l) (sym empty)

-- a name of a function
pub added_function : (names : Names) (places : List ℕ) (place : ℕ) (name : List ℕ) → is_some (builtin_named name) ≡ false →
    position (λ f. bytes_eq name f.name) names.functions ≡ Some place → AreAdded names (places ++ place ∷ []) places (name ∷ [])
unfolding callees functions_at
added_function names places place name is found = by (builtin_named name) refl is
  where
    by : (o : Option Builtin) → builtin_named name ≡ o → is_some o ≡ false → AreAdded names (places ++ place ∷ []) places (name ∷ [])
    by (Some b) same wrong = absurd (false≢true (sym wrong))
    by None same right =
        let first = at_first (λ f. bytes_eq name f.name) place names.functions found in
        let one : called names (name ∷ []) ≡ first.0 ∷ [] =
        ap (λ o. cons_option (function_called (option_map_or OfLanguage o (option_map_or OfProgram (find (λ f. bytes_eq name f.name) names.functions) Unknown))) []) same
        ∙ ap (λ o. cons_option (function_called (option_map_or OfProgram o Unknown)) []) first.2 in
        map-append (slice_get names.functions) places (place ∷ [])
        ∙ ap (λ (o : Option Function). map (slice_get names.functions) places ++ o ∷ []) first.1
        ∙ ap (λ (l : List Function). map (slice_get names.functions) places ++ map (λ (f : Function). Some f) l) (sym one)

-- what is added one after another
pub ruleset added = (added_none, added_two, added_three)
