-- Tables of keys beside lists of what has the keys, place by place.
use Rattle.std.proofs.Common.{◌≡◌, ℕ, zero, suc, ◌+◌, ◌<◌, ◌≤◌, Bool, true, false, not, ◌||◌, cond, List, [], ◌∷◌, map, length, slice_get, Option, Some, None, refl, subst, sym, ap, ◌∙◌, arith, nat_lt, get_or, set}
use Rattle.std.specs.Prelude.{IfSome, is_some}
use Rattle.std.specs.Borrow.{Bor}
use Rattle.std.specs.Global.{Vec}
use Rattle.std.specs.Str.{bytes_eq}
use Rattle.std.specs.List.{list_any, find, position, position_or_len}
use Rattle.std.specs.Option.{option_copied}
use Rattle.std.proofs.lemmas.List.{length-map}
use Rattle.std.proofs.lemmas.List.Folds.{find_at}
use Rattle.std.proofs.lemmas.Option.{slice_get_past, slice_get-get_or}
use Rattle.dbc_reader.specs.Database.{change_first}

-- the first place at which a test of what f gives passes
position_or_len-map : {X Y : Type 0} (p : Y → Bool) (f : X → Y) (xs : List X) → position_or_len (λ x. p (f x)) xs ≡ position_or_len p (map f xs)
position_or_len-map p f [] = refl
position_or_len-map p f (x ∷ xs) = ap (λ n. cond (not (p (f x))) (1 + n) 0) (position_or_len-map p f xs)

position-map : {X Y : Type 0} (p : Y → Bool) (f : X → Y) (xs : List X) → position (λ x. p (f x)) xs ≡ position p (map f xs)
position-map p f xs = rw (position_or_len-map p f xs, sym (length-map xs f)) refl

-- two lists with the same keys have the first place of a key in common
same_position : {K N M : Type 0} (p : N → Bool) (f : K → N) (g : M → N) (keys : List K) (ms : List M) → map f keys ≡ map g ms
    → position (λ k. p (f k)) keys ≡ position (λ m. p (g m)) ms
same_position p f g keys ms same = position-map p f keys ∙ ap (position p) same ∙ sym (position-map p g ms)

by_place : {M : Type 0} (q : M → Bool) (ms : List M) (i : ℕ) → Some i ≡ position q ms → (i ≡ position_or_len q ms) × (i < length ms)
by_place q ms i at = by (nat_lt (position_or_len q ms) (length ms)) refl
  where
    by : (b : Bool) → nat_lt (position_or_len q ms) (length ms) ≡ b → (i ≡ position_or_len q ms) × (i < length ms)
    by true e =
        let both = at ∙ ap (λ b. cond b (Some (position_or_len q ms)) None) e in
        let here : i ≡ position_or_len q ms = cc in
        (here, grind (arith, here, e))
    by false e = let both = at ∙ ap (λ b. cond b (Some (position_or_len q ms)) None) e in absurd (cc)

nowhere : {M : Type 0} (q : M → Bool) (ms : List M) → None ≡ position q ms → length ms ≤ position_or_len q ms
nowhere q ms at = by (nat_lt (position_or_len q ms) (length ms)) refl
  where
    by : (b : Bool) → nat_lt (position_or_len q ms) (length ms) ≡ b → length ms ≤ position_or_len q ms
    by true e = let both = at ∙ ap (λ b. cond b (Some (position_or_len q ms)) None) e in absurd (cc)
    by false e = grind (arith, e)

module _ {K N M : Type 0} (p : N → Bool) (f : K → N) (g : M → N) (keys : List K) (ms : List M) (same : map f keys ≡ map g ms) where
  -- what has a key stands at the key's place
  pub found_at : (i : ℕ) → Some i ≡ position (λ k. p (f k)) keys → slice_get ms i ≡ find (λ m. p (g m)) ms
  found_at i at =
      let here = by_place (λ m. p (g m)) ms i (at ∙ same_position p f g keys ms same) in
      ap (slice_get ms) here.0 ∙ sym (find_at (λ m. p (g m)) ms)

  -- where the key is not there, nothing has it
  pub not_found : None ≡ position (λ k. p (f k)) keys → None ≡ find (λ m. p (g m)) ms
  not_found at =
      let beyond = nowhere (λ m. p (g m)) ms (at ∙ same_position p f g keys ms same) in
      sym (slice_get_past ms _ beyond) ∙ sym (find_at (λ m. p (g m)) ms)

change_step : {X : Type 0} (p : X → Bool) (change : X → X) (x : X) (xs : List X) (i : ℕ) (d : X) (b : Bool) → p x ≡ b
    → i ≡ position_or_len p (x ∷ xs) → i < length (x ∷ xs)
    → ((j : ℕ) → j ≡ position_or_len p xs → j < length xs → set xs j (change (get_or xs j d)) ≡ change_first p change xs)
    → set (x ∷ xs) i (change (get_or (x ∷ xs) i d)) ≡ change_first p change (x ∷ xs)
change_step p change x xs zero d true e at within rest = rw e refl
change_step p change x xs (suc i) d true e at within rest =
    let at' : suc i ≡ 0 = at ∙ ap (λ b. cond (not b) (1 + position_or_len p xs) 0) e in absurd (omega (arith, at'))
change_step p change x xs zero d false e at within rest =
    let at' : 0 ≡ 1 + position_or_len p xs = at ∙ ap (λ b. cond (not b) (1 + position_or_len p xs) 0) e in absurd (omega (arith, at'))
change_step p change x xs (suc i) d false e at within rest =
    let at' : suc i ≡ 1 + position_or_len p xs = at ∙ ap (λ b. cond (not b) (1 + position_or_len p xs) 0) e in
    rw e (ap (λ more. x ∷ more) (rest i (omega (arith, at')) (omega (arith, within))))

change_at : {X : Type 0} (p : X → Bool) (change : X → X) (xs : List X) (i : ℕ) (d : X) → i ≡ position_or_len p xs → i < length xs
    → set xs i (change (get_or xs i d)) ≡ change_first p change xs
change_at p change [] i d at within = absurd (omega (arith, within))
change_at p change (x ∷ xs) i d at within = change_step p change x xs i d (p x) refl at within (λ j. change_at p change xs j d)

change_past : {X : Type 0} (p : X → Bool) (change : X → X) (x : X) (xs : List X) (b : Bool) → p x ≡ b → length (x ∷ xs) ≤ position_or_len p (x ∷ xs)
    → (length xs ≤ position_or_len p xs → xs ≡ change_first p change xs) → x ∷ xs ≡ change_first p change (x ∷ xs)
change_past p change x xs true e beyond rest =
    let beyond' : suc (length xs) ≤ 0 = subst (λ b. suc (length xs) ≤ cond (not b) (1 + position_or_len p xs) 0) e beyond in absurd (omega (arith, beyond'))
change_past p change x xs false e beyond rest =
    let beyond' : suc (length xs) ≤ 1 + position_or_len p xs = subst (λ b. suc (length xs) ≤ cond (not b) (1 + position_or_len p xs) 0) e beyond in
    rw e (ap (λ more. x ∷ more) (rest (omega (arith, beyond'))))

change_none : {X : Type 0} (p : X → Bool) (change : X → X) (xs : List X) → length xs ≤ position_or_len p xs → xs ≡ change_first p change xs
change_none p change [] beyond = refl
change_none p change (x ∷ xs) beyond = change_past p change x xs (p x) refl beyond (change_none p change xs)

module _ {K N M : Type 0} (p : N → Bool) (f : K → N) (g : M → N) (change : M → M) (keys : List K) (ms : List M) (same : map f keys ≡ map g ms) where
  -- what has a key is changed at the key's place
  pub changed_at : (i : ℕ) (m : M) → Some i ≡ position (λ k. p (f k)) keys → m ≡ get_or ms i m → set ms i (change m) ≡ change_first (λ m. p (g m)) change ms
  changed_at i m at is =
      let here = by_place (λ m. p (g m)) ms i (at ∙ same_position p f g keys ms same) in
      ap (λ n. set ms i (change n)) is ∙ change_at (λ m. p (g m)) change ms i m here.0 here.1

  -- where the key is not there, nothing is changed
  pub unchanged : None ≡ position (λ k. p (f k)) keys → ms ≡ change_first (λ m. p (g m)) change ms
  unchanged at = change_none (λ m. p (g m)) change ms (nowhere (λ m. p (g m)) ms (at ∙ same_position p f g keys ms same))

-- a change at a place that keeps the key keeps the keys
pub map-set_same : {M N : Type 0} (g : M → N) (ms : List M) (i : ℕ) (old new : M) → old ≡ get_or ms i old → g new ≡ g old → map g (set ms i new) ≡ map g ms
map-set_same g [] i old new is same = refl
map-set_same g (m ∷ ms) zero old new is same = ap (λ n. n ∷ map g ms) (same ∙ ap g is)
map-set_same g (m ∷ ms) (suc i) old new is same = ap (λ more. g m ∷ more) (map-set_same g ms i old new is same)

-- what is lent from a place is what stands there
pub lent : {M : Type 0} (ms : List M) (i : ℕ) (r : Option (Bor M)) → is_some r ≡ nat_lt i (length ms) → IfSome r (λ (x : Bor M). x.now ≡ get_or ms i x.now)
    → option_copied r ≡ slice_get ms i
lent ms i None some is = let beyond : length ms ≤ i = grind (arith, some) in sym (slice_get_past ms i beyond)
lent ms i (Some b) some is = let within : i < length ms = grind (arith, some) in ap Some is ∙ sym (slice_get-get_or ms i b.now within)

-- the same list
pub map_same : {X : Type 0} (xs : List X) → map (λ x. x) xs ≡ xs
map_same [] = refl
map_same (x ∷ xs) = ap (λ more. x ∷ more) (map_same xs)

list_any-map : {X Y : Type 0} (p : Y → Bool) (f : X → Y) (xs : List X) → list_any (λ x. p (f x)) xs ≡ list_any p (map f xs)
list_any-map p f [] = refl
list_any-map p f (x ∷ xs) = ap (λ b. p (f x) || b) (list_any-map p f xs)

module _ (name : List ℕ) (keys : List (Vec ℕ)) (names : List (List ℕ)) (same : map (λ (k : Vec ℕ). k.items) keys ≡ names) where
  -- a table has a name where it is among the names
  pub seen : list_any (λ (k : Vec ℕ). bytes_eq name k.items) keys ≡ list_any (bytes_eq name) names
  seen = list_any-map (bytes_eq name) (λ (k : Vec ℕ). k.items) keys ∙ ap (list_any (bytes_eq name)) same
