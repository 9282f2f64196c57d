-- The selection keys of selectors on channels: those of one selector are apart, and those of two that do not
-- collide.
use Rattle.std.proofs.Common.{◌≡◌, ◌≢◌, ℕ, ◌+◌, ◌-◌, ◌≤◌, ◌<◌, ◌^◌, inl, inr, Bool, true, false, ◌&&◌, ◌⊎◌, List, [], ◌∷◌, Option, Some, None, refl, sym, ap, ◌∙◌, subst, arith}
use Rattle.std.specs.Prelude.{⊤, ◌==◌, if◌then◌else◌, nat_le}
use Rattle.std.specs.Bool.{beq, then_some}
use Rattle.std.specs.List.{AllByRecursion}
use Rattle.std.specs.Option.{option_and_then, option_map}
use Rattle.std.proofs.lemmas.Bool.{eqb-true, le-leb, leb-true}
use Rattle.std.proofs.lemmas.Cmp.{nat_eq_equiv}
use Rattle.run_effects.specs.declared.event.Selector.{Selector}
use Rattle.run_effects.specs.Effect.{AreApart, IsWithin}
use Rattle.dbc_reader.specs.declared.message.DbcMessage.{DbcMessage}
use Rattle.capl_tree.specs.declared.expr.Expr.{Expr}
use Rattle.capl_tree.specs.declared.expr.Expr.TheVariants as expr
use Rattle.capl_tree.specs.declared.procedure.SelWhat.{SelWhat}
use Rattle.capl_tree.specs.declared.procedure.SelWhat.TheVariants as selected
use Rattle.capl_meaning.specs.DeclarationRules.{is_identifier, is_in_range}
use Rattle.capl_meaning.specs.ProcedureRules.{Both, Channels, First, ForFrames, Purpose, Second, all_on, identifiers_on, is_range, selected_key, keys_between, keys_on, on_second, overlap, selector_of, share_channel}
use Rattle.capl_meaning.specs.Variable.{identifier, message_named}
use Rattle.sound_programs.proofs.Repeated.{Apart}
use Rattle.sound_programs.proofs.Written.{and_both}

-- ---- what is selected

-- the keys from one to another are standard identifiers, or extended ones
abbrev pub AreIdentifiers : ℕ → ℕ → Type 0
AreIdentifiers low high = (high < 2 ^ 30) ⊎ ((2 ^ 31 ≤ low) × (high < 2 ^ 31 + 2 ^ 30))

-- the selector of a selector's keys: all of them at rank 2, or identifiers at a lesser one
abbrev pub IsSelected : Selector → Type 0
IsSelected keys =
    ((keys.rank ≡ 2) × (keys.low ≡ 0) × (keys.high ≡ 0xFFFFFFFF)) ⊎ ((keys.rank < 2) × AreIdentifiers keys.low keys.high)

-- a purpose is formed so where it is for frames
abbrev pub IsFormed : Purpose → Type 0
IsFormed (ForFrames channels keys) = IsSelected keys
IsFormed _ = ⊤

-- what is between two identifiers
between_formed : (rank low high : ℕ) (keys : Selector) → rank < 2 → AreIdentifiers low high → Some (keys_between rank low high) ≡ Some keys → IsSelected keys
between_formed rank low high keys lesser identifiers is =
    let made : Selector = keys_between rank low high in
    let f : Some made ≡ Some keys = is in
    let same : made ≡ keys = cc in
    subst IsSelected same (inr (lesser, identifiers))

some_key : (one other : ℕ) → Some one ≡ Some other → one ≡ other
some_key one other e = let f : Some one ≡ Some other = e in cc

-- the key of a number
number_formed : (value : Option ℕ) (extended : Bool) (key : ℕ)
    → (if is_identifier value extended then option_map (λ n. identifier n extended) value else None) ≡ Some key
    → AreIdentifiers key key
number_formed None extended key is = absurd (let f : None ≡ Some key = is in cc)
number_formed (Some id) true key is = go (nat_le id 0x1FFFFFFF) refl is
  where
    go : (b : Bool) → nat_le id 0x1FFFFFFF ≡ b → (if b then Some (2 ^ 31 + id) else None) ≡ Some key → AreIdentifiers key key
    go true fits e =
        let same = some_key (2 ^ 31 + id) key e in
        let small = leb-true id 0x1FFFFFFF fits in
        inr (omega (arith, same), omega (arith, same, small))
    go false fits e = absurd (let f : None ≡ Some key = e in cc)
number_formed (Some id) false key is = go (nat_le id 0x7FF) refl is
  where
    go : (b : Bool) → nat_le id 0x7FF ≡ b → (if b then Some id else None) ≡ Some key → AreIdentifiers key key
    go true fits e = inl (omega (arith, some_key id key e, leb-true id 0x7FF fits))
    go false fits e = absurd (let f : None ≡ Some key = e in cc)

key_formed : (e : Expr) (key : ℕ) → selected_key e ≡ Some key → AreIdentifiers key key
key_formed (expr.Num value extended at) key is = number_formed value extended key is
key_formed other key is = absurd (let f : None ≡ Some key = is in cc)

both_alike : (one other : Bool) → beq one other ≡ true → one ≡ other
both_alike true true is = refl
both_alike true false is = absurd (let f : false ≡ true = is in cc)
both_alike false true is = absurd (let f : false ≡ true = is in cc)
both_alike false false is = refl

-- two keys of one form
range_formed : (low high : ℕ) → AreIdentifiers low low → AreIdentifiers high high → nat_le (2 ^ 31) low ≡ nat_le (2 ^ 31) high → AreIdentifiers low high
range_formed low high (inl least) (inl most) same = inl most
range_formed low high (inl least) (inr most) same =
    absurd (let reached = leb-true (2 ^ 31) low (same ∙ le-leb (2 ^ 31) high most.0) in omega (arith, reached, least))
range_formed low high (inr least) (inl most) same =
    absurd (let reached = leb-true (2 ^ 31) high (sym same ∙ le-leb (2 ^ 31) low least.0) in omega (arith, reached, most))
range_formed low high (inr least) (inr most) same = inr (least.0, most.1)

range_selected : (low high : ℕ) (keys : Selector) → AreIdentifiers low low → AreIdentifiers high high → then_some (is_range low high) (keys_between 1 low high) ≡ Some keys → IsSelected keys
range_selected low high keys least most is = go (is_range low high) refl is
  where
    go : (b : Bool) → is_range low high ≡ b → then_some b (keys_between 1 low high) ≡ Some keys → IsSelected keys
    go true range e =
        let tests = and_both (beq (nat_le (2 ^ 31) low) (nat_le (2 ^ 31) high)) (nat_le low high) range in
        between_formed 1 low high keys (omega arith) (range_formed low high least most (both_alike (nat_le (2 ^ 31) low) (nat_le (2 ^ 31) high) tests.0)) e
    go false range e = absurd (let f : None ≡ Some keys = e in cc)

-- a message of the database
in_range_formed : (id : ℕ) → is_in_range id ≡ true → AreIdentifiers id id
in_range_formed id ranged = go (nat_le (2 ^ 31) id) refl ranged
  where
    go : (b : Bool) → nat_le (2 ^ 31) id ≡ b → (if b then nat_le (id - 2 ^ 31) 0x1FFFFFFF else nat_le id 0x7FF) ≡ true → AreIdentifiers id id
    go true great fits =
        let least = leb-true (2 ^ 31) id great in
        inr (least, omega (arith, least, leb-true (id - 2 ^ 31) 0x1FFFFFFF fits))
    go false small fits = inl (omega (arith, leb-true id 0x7FF fits))

message_formed : (id : ℕ) (keys : Selector) → then_some (is_in_range id) (keys_between 0 id id) ≡ Some keys → IsSelected keys
message_formed id keys is = go (is_in_range id) refl is
  where
    go : (b : Bool) → is_in_range id ≡ b → then_some b (keys_between 0 id id) ≡ Some keys → IsSelected keys
    go true ranged e = between_formed 0 id id keys (omega arith) (in_range_formed id ranged) e
    go false ranged e = absurd (let f : None ≡ Some keys = e in cc)

-- what a selector selects is formed so
pub selected_formed : (base : List DbcMessage) (what : SelWhat) (keys : Selector) → selector_of base what ≡ Some keys → IsSelected keys
selected_formed base (selected.Any at) keys is =
    let made : Selector = keys_between 2 0 0xFFFFFFFF in
    let f : Some made ≡ Some keys = is in
    let same : made ≡ keys = cc in
    subst IsSelected same (inl (refl, refl, refl))
selected_formed base (selected.Name name at) keys is = go (message_named base name) is
  where
    go : (o : Option DbcMessage) → option_and_then (λ (m : DbcMessage). then_some (is_in_range m.id) (keys_between 0 m.id m.id)) o ≡ Some keys → IsSelected keys
    go None e = absurd (let f : None ≡ Some keys = e in cc)
    go (Some m) e = message_formed m.id keys e
selected_formed base (selected.Ids low None at) keys is = go (selected_key low) refl is
  where
    go : (o : Option ℕ) → selected_key low ≡ o → option_map (λ key. keys_between 0 key key) o ≡ Some keys → IsSelected keys
    go None one e = absurd (let f : None ≡ Some keys = e in cc)
    go (Some key) one e = between_formed 0 key key keys (omega arith) (key_formed low key one) e
selected_formed base (selected.Ids low (Some high) at) keys is = go (selected_key low) (selected_key high) refl refl is
  where
    go : (a b : Option ℕ) → selected_key low ≡ a → selected_key high ≡ b
        → option_and_then (λ least. option_and_then (λ most. then_some (is_range least most) (keys_between 1 least most)) b) a ≡ Some keys → IsSelected keys
    go None b one other e = absurd (let f : None ≡ Some keys = e in cc)
    go (Some least) None one other e = absurd (let f : None ≡ Some keys = e in cc)
    go (Some least) (Some most) one other e = range_selected least most keys (key_formed low least one) (key_formed high most other) e

-- ---- the keys of one selector

-- of rank 2 or not
at_last_rank : (channels : Channels) (keys : Selector) → keys.rank ≡ 2 → keys_on channels keys ≡ all_on channels
at_last_rank channels keys is =
    ap (λ b. if b then all_on channels else identifiers_on channels keys) (subst (λ n. n == 2 ≡ true) (sym is) (nat_eq_equiv.refl 2))

at_lesser_rank : (channels : Channels) (keys : Selector) → keys.rank < 2 → keys_on channels keys ≡ identifiers_on channels keys
at_lesser_rank channels keys lesser = go (keys.rank == 2) refl
  where
    go : (b : Bool) → keys.rank == 2 ≡ b → (if b then all_on channels else identifiers_on channels keys) ≡ identifiers_on channels keys
    go true is = absurd (let same : keys.rank ≡ 2 = eqb-true keys.rank 2 is in omega (arith, same, lesser))
    go false is = refl

-- the ranks
abbrev AreOfRank : ℕ → List Selector → Type 0
AreOfRank rank all = AllByRecursion (λ (keys : Selector). keys.rank ≡ rank) all

all_ranks : (channels : Channels) → AreOfRank 2 (all_on channels)
all_ranks Both = (refl, tt)
all_ranks First = (refl, (refl, tt))
all_ranks Second = (refl, (refl, tt))

identifiers_ranks : (channels : Channels) (keys : Selector) → AreOfRank keys.rank (identifiers_on channels keys)
identifiers_ranks Both keys = (refl, (refl, tt))
identifiers_ranks First keys = (refl, tt)
identifiers_ranks Second keys = (refl, tt)

keys_ranks : (channels : Channels) (keys : Selector) → IsSelected keys → AreOfRank keys.rank (keys_on channels keys)
keys_ranks channels keys (inl all) =
    subst (AreOfRank keys.rank) (sym (at_last_rank channels keys all.0)) (subst (λ n. AreOfRank n (all_on channels)) (sym all.0) (all_ranks channels))
keys_ranks channels keys (inr some) = subst (AreOfRank keys.rank) (sym (at_lesser_rank channels keys some.0)) (identifiers_ranks channels keys)

no_greater : (rank : ℕ) (all : List Selector) → rank ≤ 2 → AreOfRank rank all → AllByRecursion (λ (keys : Selector). keys.rank ≤ 2) all
no_greater rank [] least ranks = tt
no_greater rank (keys ∷ all) least ranks = (omega (arith, least, ranks.0), no_greater rank all least ranks.1)

rank_known : (keys : Selector) → IsSelected keys → keys.rank ≤ 2
rank_known keys (inl all) = omega (arith, all.0)
rank_known keys (inr some) = omega (arith, some.0)

-- the ranks of a selector's keys are known
pub ranked : (channels : Channels) (keys : Selector) → IsSelected keys → AllByRecursion (λ (one : Selector). one.rank ≤ 2) (keys_on channels keys)
ranked channels keys formed = no_greater keys.rank (keys_on channels keys) (rank_known keys formed) (keys_ranks channels keys formed)

-- identifiers on the first channel are apart from those on the second
first_second : (a b : Selector) → AreIdentifiers a.low a.high → AreIdentifiers b.low b.high → AreApart a (on_second b)
first_second a b (inl one) (inl other) rank key here there = absurd (omega (arith, one, here.to, there.from))
first_second a b (inl one) (inr other) rank key here there = absurd (omega (arith, one, other.0, here.to, there.from))
first_second a b (inr one) (inl other) rank key here there = absurd (omega (arith, one.0, other, here.from, there.to))
first_second a b (inr one) (inr other) rank key here there = absurd (omega (arith, one.1, other.0, here.to, there.from))

second_first : (a b : Selector) → AreIdentifiers a.low a.high → AreIdentifiers b.low b.high → AreApart (on_second a) b
second_first a b one other rank key here there = first_second b a other one (sym rank) key there here

all_apart : (channels : Channels) → Apart AreApart (all_on channels)
all_apart Both = (tt, tt)
all_apart First = ((λ rank key here there. absurd (omega (arith, here.to, there.from)), tt), (tt, tt))
all_apart Second = ((λ rank key here there. absurd (omega (arith, here.to, there.from)), tt), (tt, tt))

identifiers_apart : (channels : Channels) (keys : Selector) → AreIdentifiers keys.low keys.high → Apart AreApart (identifiers_on channels keys)
identifiers_apart Both keys are = ((first_second keys keys are are, tt), (tt, tt))
identifiers_apart First keys are = (tt, tt)
identifiers_apart Second keys are = (tt, tt)

-- the keys of one selector are apart
pub own_apart : (channels : Channels) (keys : Selector) → IsSelected keys → Apart AreApart (keys_on channels keys)
own_apart channels keys (inl all) = subst (Apart AreApart) (sym (at_last_rank channels keys all.0)) (all_apart channels)
own_apart channels keys (inr some) = subst (Apart AreApart) (sym (at_lesser_rank channels keys some.0)) (identifiers_apart channels keys some.1)

-- ---- the keys of two selectors

-- each of some is apart from each of others
abbrev pub AreAllApart : List Selector → List Selector → Type 0
AreAllApart some others = AllByRecursion (λ one. AllByRecursion (λ other. AreApart one other) others) some

-- where their ranks differ
one_by_rank : (m n : ℕ) (one : Selector) (others : List Selector) → m ≢ n → one.rank ≡ m → AreOfRank n others → AllByRecursion (λ other. AreApart one other) others
one_by_rank m n one [] differ is are = tt
one_by_rank m n one (other ∷ others) differ is are =
    (λ rank key here there. absurd (differ (sym is ∙ rank ∙ are.0)), one_by_rank m n one others differ is are.1)

by_rank : (m n : ℕ) (some others : List Selector) → m ≢ n → AreOfRank m some → AreOfRank n others → AreAllApart some others
by_rank m n [] others differ ranks are = tt
by_rank m n (one ∷ some) others differ ranks are = (one_by_rank m n one others differ ranks.0 are, by_rank m n some others differ ranks.1 are)

-- two that have a key in common overlap
common_key : (a b : Selector) (key : ℕ) → a.rank ≡ b.rank → IsWithin a key → IsWithin b key → overlap b a ≡ true
common_key a b key rank here there =
    let ranks : b.rank == a.rank ≡ true = subst (λ n. b.rank == n ≡ true) (sym rank) (nat_eq_equiv.refl b.rank) in
    let from_a = here.from in
    let to_a = here.to in
    let from_b = there.from in
    let to_b = there.to in
    let left : nat_le b.low a.high ≡ true = le-leb b.low a.high (omega (arith, from_b, to_a)) in
    let right : nat_le a.low b.high ≡ true = le-leb a.low b.high (omega (arith, from_a, to_b)) in
    ap (λ p. p && (nat_le b.low a.high && nat_le a.low b.high)) ranks ∙ ap (λ p. p && nat_le a.low b.high) left ∙ right

-- those that do not overlap are apart, on either channel
on_first_apart : (a b : Selector) → overlap b a ≡ false → AreApart a b
on_first_apart a b none rank key here there = absurd (let e : true ≡ false = sym (common_key a b key rank here there) ∙ none in cc)

on_second_apart : (a b : Selector) → overlap b a ≡ false → AreApart (on_second a) (on_second b)
on_second_apart a b none rank key here there =
    on_first_apart a b none rank (key - 2 ^ 30) (record { from = omega (arith, here.from); to = omega (arith, here.to) })
    (record { from = omega (arith, there.from); to = omega (arith, there.to) })

-- identifiers on channels
identifiers_cross : (here there : Channels) (a b : Selector) → AreIdentifiers a.low a.high → AreIdentifiers b.low b.high
    → (share_channel there here && overlap b a) ≡ false → AreAllApart (identifiers_on here a) (identifiers_on there b)
identifiers_cross Both Both a b one other none =
    ((on_first_apart a b none, (first_second a b one other, tt)), ((second_first a b one other, (on_second_apart a b none, tt)), tt))
identifiers_cross Both First a b one other none = ((on_first_apart a b none, tt), ((second_first a b one other, tt), tt))
identifiers_cross Both Second a b one other none = ((first_second a b one other, tt), ((on_second_apart a b none, tt), tt))
identifiers_cross First Both a b one other none = ((on_first_apart a b none, (first_second a b one other, tt)), tt)
identifiers_cross First First a b one other none = ((on_first_apart a b none, tt), tt)
identifiers_cross First Second a b one other none = ((first_second a b one other, tt), tt)
identifiers_cross Second Both a b one other none = ((second_first a b one other, (on_second_apart a b none, tt)), tt)
identifiers_cross Second First a b one other none = ((second_first a b one other, tt), tt)
identifiers_cross Second Second a b one other none = ((on_second_apart a b none, tt), tt)

-- all keys on channels that share none
all_cross : (here there : Channels) → share_channel there here ≡ false → AreAllApart (all_on here) (all_on there)
all_cross First Second none = (
  (λ rank key here there. absurd (omega (arith, here.to, there.from)), (λ rank key here there. absurd (omega (arith, here.to, there.from)), tt)),
  ((λ rank key here there. absurd (omega (arith, here.from, there.to)), (λ rank key here there. absurd (omega (arith, here.to, there.from)), tt)), tt),
)
all_cross Second First none = (
  (λ rank key here there. absurd (omega (arith, here.from, there.to)), (λ rank key here there. absurd (omega (arith, here.to, there.from)), tt)),
  ((λ rank key here there. absurd (omega (arith, here.from, there.to)), (λ rank key here there. absurd (omega (arith, here.from, there.to)), tt)), tt),
)
all_cross Both Both none = absurd (let f : true ≡ false = none in cc)
all_cross Both First none = absurd (let f : true ≡ false = none in cc)
all_cross Both Second none = absurd (let f : true ≡ false = none in cc)
all_cross First Both none = absurd (let f : true ≡ false = none in cc)
all_cross First First none = absurd (let f : true ≡ false = none in cc)
all_cross Second Both none = absurd (let f : true ≡ false = none in cc)
all_cross Second Second none = absurd (let f : true ≡ false = none in cc)

not_shared : (share meets : Bool) → (share && meets) ≡ false → meets ≡ true → share ≡ false
not_shared true meets none is = sym is ∙ none
not_shared false meets none is = refl

-- the keys of two selectors that do not collide are apart
pub cross_apart : (here there : Channels) (a b : Selector) → IsSelected a → IsSelected b
    → (share_channel there here && overlap b a) ≡ false → AreAllApart (keys_on here a) (keys_on there b)
cross_apart here there a b (inl one) (inl other) none =
    let meets : overlap b a ≡ true = common_key a b 0 (one.0 ∙ sym other.0) (record { from = omega (arith, one.1); to = omega (arith, one.2) })
    (record { from = omega (arith, other.1); to = omega (arith, other.2) }) in
    subst (λ l. AreAllApart l (keys_on there b)) (sym (at_last_rank here a one.0))
    (subst (AreAllApart (all_on here)) (sym (at_last_rank there b other.0)) (all_cross here there (not_shared (share_channel there here) (overlap b a) none meets)))
cross_apart here there a b (inl one) (inr other) none =
    by_rank a.rank b.rank (keys_on here a) (keys_on there b) (λ same. omega (arith, same, one.0, other.0))
    (keys_ranks here a (inl one)) (keys_ranks there b (inr other))
cross_apart here there a b (inr one) (inl other) none =
    by_rank a.rank b.rank (keys_on here a) (keys_on there b) (λ same. omega (arith, same, one.0, other.0))
    (keys_ranks here a (inr one)) (keys_ranks there b (inl other))
cross_apart here there a b (inr one) (inr other) none =
    subst (λ l. AreAllApart l (keys_on there b)) (sym (at_lesser_rank here a one.0))
    (subst (AreAllApart (identifiers_on here a)) (sym (at_lesser_rank there b other.0)) (identifiers_cross here there a b one.1 other.1 none))

-- none are apart from any
pub far_from_none : (some : List Selector) → AreAllApart some []
far_from_none [] = tt
far_from_none (one ∷ some) = (tt, far_from_none some)
