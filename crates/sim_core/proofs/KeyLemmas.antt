-- The keys of a moment, one by one.
use Rattle.std.proofs.Common.{◌≡◌, ℕ, ◌+◌, ◌<◌, ◌≤◌, cond, List, [], ◌∷◌, ◌++◌, Some, length, get_or, drop, slice_get, append_assoc, refl, ap, sym, subst, ◌∙◌}
use Rattle.std.proofs.lemmas.Bool.{le-leb}
use Rattle.std.proofs.lemmas.List.{drop_more}
use Rattle.scenario.specs.declared.scenario.KeyItem.{KeyItem}
use Rattle.run_meaning.specs.Moments.{keys_after, keys_at}
use Rattle.run_meaning.proofs.UpTo.{keys_after_more, keys_at_more}

some_same : (a b : KeyItem) → Some a ≡ Some b → a ≡ b
some_same a b e = cc

-- one more key of the moment is taken
pub key_taken : (now : ℕ) (list : List ℕ) (keys : List KeyItem) (i : ℕ) (d : KeyItem) → i < length keys → (get_or keys i d).at ≤ now → list ++ keys_at now (drop i keys) ≡ keys_at now keys
    → (list ++ (get_or keys i d).key ∷ []) ++ keys_at now (drop (i + 1) keys) ≡ keys_at now keys
key_taken now list keys i d within soon so_far =
    let key : KeyItem = get_or keys i d in
    let rest : List KeyItem = drop (i + 1) keys in
    let here : keys_at now (drop i keys) ≡ key.key ∷ keys_at now rest =
    ap (keys_at now) (drop_more keys i d within) ∙ keys_at_more now key rest ∙ ap (λ b. cond b (key.key ∷ keys_at now rest) []) (le-leb key.at now soon) in
    append_assoc list (key.key ∷ []) (keys_at now rest) ∙ ap (λ l. list ++ l) (sym here) ∙ so_far

-- a key of the moment that is passed is none of those after it
pub key_passed : (now : ℕ) (keys : List KeyItem) (key : KeyItem) → slice_get keys 0 ≡ Some key → key.at ≤ now → keys_after now (drop 1 keys) ≡ keys_after now keys
key_passed now [] key is soon = refl
key_passed now (first ∷ keys) key is soon =
    let same : first ≡ key = some_same first key is in
    let due : first.at ≤ now = subst (λ (k : KeyItem). k.at ≤ now) (sym same) soon in
    sym (keys_after_more now first keys ∙ ap (λ b. cond b (keys_after now keys) (first ∷ keys)) (le-leb first.at now due))
