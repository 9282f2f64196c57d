-- A choice among the selectors of message procedures is the message procedure.
use Rattle.std.proofs.Common.{◌≡◌, inl, inr, ℕ, ◌+◌, ◌<◌, ◌≤◌, Bool, true, false, ◌&&◌, ◌||◌, cond, eqb, leb, List, [], ◌∷◌, ◌++◌, get_or, map, Option, None, Some, IfSome, IfNone, arith, refl, ap, ap₂, sym, subst, ◌∙◌}
use Rattle.std.specs.List.{All, AllPairs, Contains, list_any, position_from}
use Rattle.std.specs.List.Sorted.{IsPermutation}
use Rattle.std.specs.Option.{option_or}
use Rattle.std.proofs.Math.ListN.{get_or-map}
use Rattle.std.proofs.lemmas.Bool.{cases_lt, eqb-true, leb-true, eq-eqb, le-leb}
use Rattle.std.proofs.lemmas.List.{length-map, map-append}
use Rattle.std.proofs.lemmas.List.Elements.{All-nil, All-cons, All-append, Contains-append_left, Contains-append_right, All-contains}
use Rattle.run_effects.specs.declared.event.Event.{Event}
use Rattle.run_effects.specs.declared.event.Selector.{Selector}
use Rattle.run_effects.specs.Effect.{AreApart, KeepsSelectors, selectors_of}
use Rattle.bytecode.specs.declared.code.Handler.{Handler}
use Rattle.bytecode.specs.Tables.{all_selectors}
use Rattle.msg_select.specs.declared.selector.MessageSelector.{MessageSelector}
use Rattle.msg_select.specs.Selection.{Holds, IsChosen}
use Rattle.msg_select.specs.Selection.{AreApart as AreApartHere}
use Rattle.msg_select.proofs.ChoiceLemmas.{chosen_in_order, none_in_order, only_choice}
use Rattle.node_rounds.specs.Procedures.{first_where, holds, is_for_message, message_procedure}
use Rattle.node_run.specs.Code.{events_of}
use Rattle.node_run.specs.Inside.Tables.{IsChoice, message_selectors, selector_for}

-- ---- one rank

-- a selector of a rank, of a handler, holds the key
record IsOf (rank key handler : ℕ) (selectors : List MessageSelector) : Type 0 where
  pub selector : MessageSelector
  pub among : Contains selectors selector
  pub rank_is : selector.rank ≡ rank
  pub held : Holds key selector
  pub is : selector.handler ≡ handler

-- no selector of a rank holds the key
abbrev NoneOf : ℕ → ℕ → List MessageSelector → Type 0
NoneOf rank key selectors = All (λ s. s.rank ≡ rank → Holds key s → ⊥) selectors

holds_parts : (rank key : ℕ) (s : Selector) → holds rank key s ≡ true → (s.rank ≡ rank) × (s.low ≤ key) × (key ≤ s.high)
holds_parts rank key s h = split (eqb s.rank rank) (leb s.low key) (leb key s.high) (λ e. eqb-true s.rank rank e) (λ e. leb-true s.low key e) (λ e. leb-true key s.high e) h
  where
    split : {P Q R : Type 0} (a b c : Bool) → (a ≡ true → P) → (b ≡ true → Q) → (c ≡ true → R) → (a && b && c) ≡ true → P × Q × R
    split true true true p q r h = (p refl, q refl, r refl)
    split true true false p q r h = absurd (cc)
    split true false c p q r h = absurd (cc)
    split false b c p q r h = absurd (cc)

holds_not : (rank key : ℕ) (s : Selector) → holds rank key s ≡ false → s.rank ≡ rank → s.low ≤ key → key ≤ s.high → ⊥
holds_not rank key s h same from to =
    let a = eq-eqb s.rank rank same in
    let b = le-leb s.low key from in
    let c = le-leb key s.high to in
    apart (eqb s.rank rank) (leb s.low key) (leb key s.high) a b c h
  where
    apart : (a b c : Bool) → a ≡ true → b ≡ true → c ≡ true → (a && b && c) ≡ false → ⊥
    apart true true true p q r h = cc
    apart true true false p q r h = cc
    apart true false c p q r h = cc
    apart false b c p q r h = cc

-- a selector of a rank in one list is one in two
of_left : (rank key handler : ℕ) (xs ys : List MessageSelector) → IsOf rank key handler xs → IsOf rank key handler (xs ++ ys)
of_left rank key handler xs ys o = record { selector = o.selector; among = Contains-append_left xs ys o.selector o.among; rank_is = o.rank_is; held = o.held; is = o.is }

of_right : (rank key handler : ℕ) (xs ys : List MessageSelector) → IsOf rank key handler ys → IsOf rank key handler (xs ++ ys)
of_right rank key handler xs ys o = record { selector = o.selector; among = Contains-append_right xs ys o.selector o.among; rank_is = o.rank_is; held = o.held; is = o.is }

-- whether a selector of one procedure has this rank and holds the key
any_of : (rank key number : ℕ) (selectors : List Selector) → list_any (holds rank key) selectors ≡ true → IsOf rank key number (map (selector_for number) selectors)
any_of rank key number [] h = absurd (cc)
any_of rank key number (s ∷ selectors) h = first (holds rank key s) refl h (any_of rank key number selectors)
  where
    first : (b : Bool) → holds rank key s ≡ b → (b || list_any (holds rank key) selectors) ≡ true
        → (list_any (holds rank key) selectors ≡ true → IsOf rank key number (map (selector_for number) selectors))
        → IsOf rank key number (map (selector_for number) (s ∷ selectors))
    first true here h later =
        let parts = holds_parts rank key s here in
        record {
          selector = selector_for number s;
          among = Contains-append_left (selector_for number s ∷ []) (map (selector_for number) selectors) (selector_for number s) (0, (let own : 0 < 1 = omega arith in own), refl);
          rank_is = parts.0;
          held = record { from = parts.1; to = parts.2 };
          is = refl;
        }
    first false here h later = of_right rank key number (selector_for number s ∷ []) (map (selector_for number) selectors) (later h)

none_of : (rank key number : ℕ) (selectors : List Selector) → list_any (holds rank key) selectors ≡ false → NoneOf rank key (map (selector_for number) selectors)
none_of rank key number [] h = All-nil (λ s. s.rank ≡ rank → Holds key s → ⊥)
none_of rank key number (s ∷ selectors) h = first (holds rank key s) refl h (none_of rank key number selectors)
  where
    first : (b : Bool) → holds rank key s ≡ b → (b || list_any (holds rank key) selectors) ≡ false
        → (list_any (holds rank key) selectors ≡ false → NoneOf rank key (map (selector_for number) selectors))
        → NoneOf rank key (map (selector_for number) (s ∷ selectors))
    first true here h later = absurd (cc)
    first false here h later =
        All-cons (λ s. s.rank ≡ rank → Holds key s → ⊥) (selector_for number s) (map (selector_for number) selectors)
        (λ same held. holds_not rank key s here same held.from held.to) (later h)

-- the first procedure with a selector of a rank that holds the key, and its selector
first_of_rank : (rank key number handler : ℕ) (events : List Event) → position_from (is_for_message rank key) number events ≡ Some handler → IsOf rank key handler (message_selectors number events)
first_of_rank rank key number handler [] h = absurd (cc)
first_of_rank rank key number handler (event ∷ events) h = here (is_for_message rank key event) refl h (first_of_rank rank key (number + 1) handler events)
  where
    here : (b : Bool) → is_for_message rank key event ≡ b → cond b (Some number) (position_from (is_for_message rank key) (number + 1) events) ≡ Some handler
        → (position_from (is_for_message rank key) (number + 1) events ≡ Some handler → IsOf rank key handler (message_selectors (number + 1) events))
        → IsOf rank key handler (message_selectors number (event ∷ events))
    here true is h later =
        let same : number ≡ handler = cc in
        of_left rank key handler (map (selector_for number) (selectors_of event)) (message_selectors (number + 1) events)
        (subst (λ n. IsOf rank key n (map (selector_for number) (selectors_of event))) same (any_of rank key number (selectors_of event) is))
    here false is h later =
        of_right rank key handler (map (selector_for number) (selectors_of event)) (message_selectors (number + 1) events)
        (later h)

none_of_rank : (rank key number : ℕ) (events : List Event) → position_from (is_for_message rank key) number events ≡ None → NoneOf rank key (message_selectors number events)
none_of_rank rank key number [] h = All-nil (λ s. s.rank ≡ rank → Holds key s → ⊥)
none_of_rank rank key number (event ∷ events) h = here (is_for_message rank key event) refl h (none_of_rank rank key (number + 1) events)
  where
    here : (b : Bool) → is_for_message rank key event ≡ b → cond b (Some number) (position_from (is_for_message rank key) (number + 1) events) ≡ None
        → (position_from (is_for_message rank key) (number + 1) events ≡ None → NoneOf rank key (message_selectors (number + 1) events))
        → NoneOf rank key (message_selectors number (event ∷ events))
    here true is h later = absurd (cc)
    here false is h later =
        All-append (λ s. s.rank ≡ rank → Holds key s → ⊥) (map (selector_for number) (selectors_of event)) (message_selectors (number + 1) events)
        (none_of rank key number (selectors_of event) is) (later h)

-- ---- all ranks

-- no selector that holds the key has a lesser rank
abbrev IsLeast : ℕ → ℕ → List MessageSelector → Type 0
IsLeast rank key selectors = All (λ s. Holds key s → rank ≤ s.rank) selectors

-- a selector of the least rank is chosen
chosen_of : (rank key handler : ℕ) (selectors : List MessageSelector) → IsOf rank key handler selectors → IsLeast rank key selectors → IsChosen selectors key handler
chosen_of rank key handler selectors o least = record {
  chosen = o.selector;
  among = o.among;
  holds = o.held;
  least = λ k d within held. let above = least k d within held in let own = o.rank_is in omega arith;
  is = o.is;
}

none_less : (rank key : ℕ) (selectors : List MessageSelector) → IsLeast rank key selectors → NoneOf rank key selectors → IsLeast (rank + 1) key selectors
none_less rank key selectors least none = λ k d within held.
    let above = least k d within held in
    elim (cases_lt rank (get_or selectors k d).rank) [
      | inl more ↦ omega arith
      | inr at ↦ absurd (none k d within (omega arith) held)
    ]

-- the first procedure of a rank, if there is one
record IsFirst (rank key : ℕ) (selectors : List MessageSelector) (first : Option ℕ) : Type 0 where
  pub some : IfSome first (λ handler. IsOf rank key handler selectors)
  pub none : IfNone first (NoneOf rank key selectors)

is_first : (rank key : ℕ) (events : List Event) → IsFirst rank key (message_selectors 0 events) (first_where (is_for_message rank key) events)
is_first rank key events = either (first_where (is_for_message rank key) events) refl
  where
    either : (first : Option ℕ) → first_where (is_for_message rank key) events ≡ first → IsFirst rank key (message_selectors 0 events) first
    either None is = record { some = tt; none = none_of_rank rank key 0 events is }
    either (Some handler) is = record { some = first_of_rank rank key 0 handler events is; none = tt }

by_rank : (selectors : List MessageSelector) (key : ℕ) (zeroth first second : Option ℕ) → All (λ s. s.rank ≤ 2) selectors
    → IsFirst 0 key selectors zeroth → IsFirst 1 key selectors first → IsFirst 2 key selectors second → IsChoice selectors key (option_or zeroth (option_or first second))
by_rank selectors key zeroth first second ranks of_zeroth of_first of_second =
    each zeroth first second of_zeroth of_first of_second
  where
    from_zero : IsLeast 0 key selectors
    from_zero = λ k d within held. omega arith

    each : (zeroth first second : Option ℕ) → IsFirst 0 key selectors zeroth → IsFirst 1 key selectors first → IsFirst 2 key selectors second
        → IsChoice selectors key (option_or zeroth (option_or first second))
    each (Some handler) first second a b c = record { some = chosen_of 0 key handler selectors a.some from_zero; none = tt }
    each None (Some handler) second a b c = record { some = chosen_of 1 key handler selectors b.some (none_less 0 key selectors from_zero a.none); none = tt }
    each None None (Some handler) a b c =
        record { some = chosen_of 2 key handler selectors c.some (none_less 1 key selectors (none_less 0 key selectors from_zero a.none) b.none); none = tt }
    each None None None a b c = record {
      some = tt;
      none = λ k d within held.
          let above = none_less 2 key selectors (none_less 1 key selectors (none_less 0 key selectors from_zero a.none) b.none) c.none k d within held in
          let known = ranks k d within in
          omega arith;
    }

-- ---- the selectors of the code

-- the selector of a procedure without its number
abbrev plain : MessageSelector → Selector
plain s = record { rank = s.rank; low = s.low; high = s.high }

plain_own : (number : ℕ) (selectors : List Selector) → map plain (map (selector_for number) selectors) ≡ selectors
plain_own number [] = refl
plain_own number (s ∷ selectors) = ap (λ (rest : List Selector). s ∷ rest) (plain_own number selectors)

plain_all : (number : ℕ) (handlers : List Handler) → map plain (message_selectors number (events_of handlers)) ≡ all_selectors handlers
plain_all number [] = refl
plain_all number (handler ∷ handlers) =
    map-append plain (map (selector_for number) (selectors_of handler.event)) (message_selectors (number + 1) (events_of handlers))
    ∙ ap₂ (λ (xs ys : List Selector). xs ++ ys) (plain_own number (selectors_of handler.event)) (plain_all (number + 1) handlers)

-- what holds of selectors without their numbers
plain_ranks : (selectors : List MessageSelector) → All (λ s. s.rank ≤ 2) (map plain selectors) → All (λ s. s.rank ≤ 2) selectors
plain_ranks selectors all = λ k d within.
    subst (λ (s : Selector). s.rank ≤ 2) (get_or-map plain selectors k d) (all k (plain d) (let same = length-map selectors plain in omega arith))

plain_apart : (selectors : List MessageSelector) → AllPairs AreApart (map plain selectors) → AllPairs AreApartHere selectors
plain_apart selectors all = λ i j d before within same key one other.
    let apart = subst (λ (s : Selector). AreApart s (plain (get_or selectors j d))) (get_or-map plain selectors i d)
    (subst (λ (s : Selector). AreApart (get_or (map plain selectors) i (plain d)) s) (get_or-map plain selectors j d)
    (all i j (plain d) before (let same = length-map selectors plain in omega arith))) in
    apart same key (record { from = one.from; to = one.to }) (record { from = other.from; to = other.to })

-- there is one choice
one_choice : (selectors : List MessageSelector) (key : ℕ) → AllPairs AreApartHere selectors → (a b : Option ℕ) → IsChoice selectors key a → IsChoice selectors key b → a ≡ b
one_choice selectors key apart None None a b = refl
one_choice selectors key apart (Some x) (Some y) a b = ap (λ h. Some h) (only_choice selectors key x y apart a.some b.some)
one_choice selectors key apart (Some x) None a b = absurd (All-contains (λ s. Holds key s → ⊥) selectors a.some.chosen b.none a.some.among a.some.holds)
one_choice selectors key apart None (Some y) a b = absurd (All-contains (λ s. Holds key s → ⊥) selectors b.some.chosen a.none b.some.among b.some.holds)

-- a choice in another order
in_order : (a b : List MessageSelector) (key : ℕ) → IsPermutation a b → (choice : Option ℕ) → IsChoice b key choice → IsChoice a key choice
in_order a b key same None c = record { some = tt; none = none_in_order a b key same c.none }
in_order a b key same (Some handler) c = record { some = chosen_in_order a b key handler same c.some; none = tt }

-- each choice among the selectors of handlers, in any order, is the message procedure
pub chosen_is_procedure : (handlers : List Handler) (selectors : List MessageSelector) → KeepsSelectors (all_selectors handlers) → IsPermutation (message_selectors 0 (events_of handlers)) selectors
    → (key : ℕ) (choice : Option ℕ) → IsChoice selectors key choice → choice ≡ message_procedure (events_of handlers) key
chosen_is_procedure handlers selectors keeps same key choice chosen =
    let list = message_selectors 0 (events_of handlers) in
    let events = events_of handlers in
    let ranks = plain_ranks list (subst (λ (xs : List Selector). All (λ s. s.rank ≤ 2) xs) (sym (plain_all 0 handlers)) keeps.ranks) in
    let apart = plain_apart list (subst (λ (xs : List Selector). AllPairs AreApart xs) (sym (plain_all 0 handlers)) keeps.apart) in
    one_choice list key apart choice (message_procedure events key) (in_order list selectors key same choice chosen)
    (by_rank list key _ _ _ ranks (is_first 0 key events) (is_first 1 key events) (is_first 2 key events))
