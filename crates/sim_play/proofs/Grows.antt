-- How what was written grows, piece by piece.
use Rattle.std.proofs.Common.{◌≡◌, ℕ, List, [], ◌++◌, Option, None, Some, Result, Ok, Err, OnErr, drop, length, take, refl, ap, sym, subst, ◌∙◌}
use Rattle.std.specs.Option.{option_map}
use Rattle.std.proofs.lemmas.List.{append-nil, append_assoc, take-append-drop}
use Rattle.std.proofs.Math.Seq.{take-append_seam}
use Rattle.sim_outside.specs.Sink.{GrowsBy, GrowsByPrefix}

-- nothing more
pub grows_none : (written : Option (List ℕ)) → GrowsBy written written []
grows_none None = refl
grows_none (Some bytes) = ap (λ (b : List ℕ). Some b) (sym (append-nil bytes))

-- one piece, and then another
pub grows_more : (a b c : Option (List ℕ)) (p q : List ℕ) → GrowsBy a b p → GrowsBy b c q → GrowsBy a c (p ++ q)
grows_more a b c p q first second = second ∙ ap (λ (o : Option (List ℕ)). option_map (λ bytes. bytes ++ q) o) first ∙ both a
  where
    both : (o : Option (List ℕ)) → option_map (λ bytes. bytes ++ q) (option_map (λ bytes. bytes ++ p) o) ≡ option_map (λ bytes. bytes ++ (p ++ q)) o
    both None = refl
    both (Some bytes) = ap (λ (b : List ℕ). Some b) (append_assoc bytes p q)

-- by an equal piece
pub grows_same : (a b : Option (List ℕ)) {p q : List ℕ} → p ≡ q → GrowsBy a b p → GrowsBy a b q
grows_same a b same grows = subst (λ p. GrowsBy a b p) same grows

-- from an equal text
pub grows_from : {a a_now : Option (List ℕ)} (b : Option (List ℕ)) (p : List ℕ) → a ≡ a_now → GrowsBy a b p → GrowsBy a_now b p
grows_from b p same grows = subst (λ (x : Option (List ℕ)). GrowsBy x b p) same grows

-- and of a beginning
pub begins_from : {a a_now : Option (List ℕ)} (b : Option (List ℕ)) (p : List ℕ) → a ≡ a_now → GrowsByPrefix a b p → GrowsByPrefix a_now b p
begins_from b p same begins = subst (λ (x : Option (List ℕ)). GrowsByPrefix x b p) same begins

-- what begins a text grows by a beginning of it
pub begins_by : (a b : Option (List ℕ)) (all front rest : List ℕ) → all ≡ front ++ rest → GrowsBy a b front → GrowsByPrefix a b all
begins_by a b all front rest is grows = (length front, grows_same a b (sym (ap (take (length front)) is ∙ take-append_seam front rest)) grows)

-- nothing begins each text
pub begins_none : (a : Option (List ℕ)) (all : List ℕ) → GrowsByPrefix a a all
begins_none a all = begins_by a a all [] all refl (grows_none a)

-- one piece, and then the beginning of another, begin a text that goes on so
pub begins_more : (a b c : Option (List ℕ)) (p q all rest : List ℕ) → GrowsBy a b p → GrowsByPrefix b c q → all ≡ p ++ (q ++ rest) → GrowsByPrefix a c all
begins_more a b c p q all rest first second is =
    begins_by a c all (p ++ take second.0 q) (drop second.0 q ++ rest)
    (is ∙ ap (λ (s : List ℕ). p ++ (s ++ rest)) (sym (take-append-drop second.0 q)) ∙ regroup p (take second.0 q) (drop second.0 q) rest)
    (grows_more a b c p (take second.0 q) first second.1)
  where
    regroup : (x y z w : List ℕ) → x ++ ((y ++ z) ++ w) ≡ (x ++ y) ++ (z ++ w)
    regroup x y z w = simp append_assoc

-- what holds of an error
pub on_err : {T E P : Type 0} (result : Result T E) → P → OnErr result P
on_err (Ok x) p = tt
on_err (Err e) p = p
