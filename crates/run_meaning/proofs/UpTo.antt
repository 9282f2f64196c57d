-- What stands up to a moment and what stands after it, item by item.
use Rattle.std.proofs.Common.{◌≡◌, ℕ, ◌+◌, ◌<◌, inl, inr, Bool, true, false, cond, List, [], ◌∷◌, IfSome, drop, map, refl, ap, sym, subst, ◌∙◌}
use Rattle.std.specs.Prelude.{nat_le, slice_get}
use Rattle.std.specs.List.{prefix_len, take_while}
use Rattle.std.specs.Option.{option_map}
use Rattle.std.proofs.Math.Numerals.{one-add}
use Rattle.std.proofs.lemmas.Bool.Decides.{leb_tells}
use Rattle.std.proofs.lemmas.List.Sums.{take_while-cons}
use Rattle.scenario.specs.declared.scenario.KeyItem.{KeyItem}
use Rattle.replay_node.specs.declared.replay.Request.{Request}
use Rattle.run_meaning.specs.Moments.{keys_after, keys_at, requests_after, requests_at}

-- ---- items of which a test holds, from the first on

module _ {X : Type 0} (test : X → Bool) where
  front_more : {Y : Type 0} (f : X → Y) (x : X) (xs : List X) → map f (take_while test (x ∷ xs)) ≡ cond (test x) (f x ∷ map f (take_while test xs)) []
  front_more {Y} f x xs = ap (map f) (take_while-cons test x xs) ∙ go (test x)
    where
      go : (b : Bool) → map f (cond b (x ∷ take_while test xs) []) ≡ cond b (f x ∷ map f (take_while test xs)) []
      go true = refl
      go false = refl

  behind_more : (x : X) (xs : List X) → drop (prefix_len test (x ∷ xs)) (x ∷ xs) ≡ cond (test x) (drop (prefix_len test xs) xs) (x ∷ xs)
  behind_more x xs = go (test x)
    where
      go : (b : Bool) → drop (cond b (1 + prefix_len test xs) 0) (x ∷ xs) ≡ cond b (drop (prefix_len test xs) xs) (x ∷ xs)
      go true = ap (λ n. drop n (x ∷ xs)) (one-add (prefix_len test xs))
      go false = refl

-- what stands behind those up to a moment is later
pub later_behind : {X : Type 0} (at : X → ℕ) (now : ℕ) (xs : List X)
    → IfSome (option_map at (slice_get (drop (prefix_len (λ x. nat_le (at x) now) xs) xs) 0)) (λ m. now < m)
later_behind at now [] = tt
later_behind {X} at now (x ∷ xs) =
    let test : X → Bool = λ x. nat_le (at x) now in
    let behind : List X = drop (prefix_len test xs) xs in
    subst (λ ys. IfSome (option_map at (slice_get ys 0)) (λ m. now < m)) (sym (behind_more test x xs))
    (elim (leb_tells (at x) now) [
      | inl due ↦ subst (λ b. IfSome (option_map at (slice_get (cond b behind (x ∷ xs)) 0)) (λ m. now < m)) (sym due.0) (later_behind at now xs)
      | inr late ↦ subst (λ b. IfSome (option_map at (slice_get (cond b behind (x ∷ xs)) 0)) (λ m. now < m)) (sym late.0) late.1
    ])

-- ---- keys and requests

module _ (now : ℕ) where
  pub keys_at_more : (key : KeyItem) (keys : List KeyItem) → keys_at now (key ∷ keys) ≡ cond (nat_le key.at now) (key.key ∷ keys_at now keys) []
  keys_at_more key keys = front_more (λ key. nat_le key.at now) (λ key. key.key) key keys

  pub keys_after_more : (key : KeyItem) (keys : List KeyItem) → keys_after now (key ∷ keys) ≡ cond (nat_le key.at now) (keys_after now keys) (key ∷ keys)
  keys_after_more key keys = behind_more (λ key. nat_le key.at now) key keys

  pub requests_at_more : (one : Request) (requests : List Request) → requests_at now (one ∷ requests) ≡ cond (nat_le one.at now) (one.frame ∷ requests_at now requests) []
  requests_at_more one requests = front_more (λ request. nat_le request.at now) (λ request. request.frame) one requests

  pub requests_after_more : (one : Request) (requests : List Request) → requests_after now (one ∷ requests) ≡ cond (nat_le one.at now) (requests_after now requests) (one ∷ requests)
  requests_after_more one requests = behind_more (λ request. nat_le request.at now) one requests
