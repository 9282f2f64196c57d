-- What belongs to one variable, among what belongs to all.
use Rattle.std.proofs.Common.{◌≡◌, zero, ◌+◌, inl, inr, true, false, List, [], ◌∷◌, ◌++◌, length, refl, sym, ap, ◌∙◌, subst, length-append, append_assoc}
use Rattle.std.specs.Prelude.{flat_map, if◌then◌else◌}
use Rattle.std.specs.List.{AllByRecursion}
use Rattle.std.proofs.lemmas.Cmp.{nat_list_eq_equiv, nat_eq_equiv}
use Rattle.capl_meaning.specs.Variable.{Variable}
use Rattle.capl_meaning.specs.Names.{Names}
use Rattle.capl_meaning.specs.Store.{Key, variable_key, same_key}
use Rattle.typed_laws.specs.Laid.{AreDistinct, IsAmong, cell_count, cells_before}

-- a key is the same as itself
pub key_self : (k : Key) → same_key k k ≡ true
key_self k = rw (nat_eq_equiv.refl k.owner, nat_list_eq_equiv.refl k.name) refl

-- two keys that are not the same are not the other way round
pub key_other : (k j : Key) → same_key k j ≡ false → same_key j k ≡ false
key_other k j e = rw (nat_eq_equiv.symm j.owner k.owner, nat_list_eq_equiv.symm j.name k.name) e

-- a variable among the later ones has another key
pub fresh : (u v : Variable) (us : List Variable) → AllByRecursion (λ x. same_key (variable_key x) (variable_key u) ≡ false) us → IsAmong v us → same_key (variable_key v) (variable_key u) ≡ false
fresh u v [] all x = elim x [ ]
fresh u v (x ∷ us) all (inl e) = subst (λ y. same_key (variable_key y) (variable_key u) ≡ false) e all.0
fresh u v (x ∷ us) all (inr s) = fresh u v us all.1 s

module _ {X : Type 0} where
  -- what belongs to the variables, where that of one variable alone may differ
  pub same_all : (f g : Variable → List X) (v : Variable) → ((u : Variable) → same_key (variable_key u) (variable_key v) ≡ false → g u ≡ f u) → (us : List Variable) →
      AllByRecursion (λ x. same_key (variable_key x) (variable_key v) ≡ false) us → flat_map g us ≡ flat_map f us
  same_all f g v others [] all = refl
  same_all f g v others (u ∷ us) all = ap (λ l. l ++ flat_map g us) (others u all.0) ∙ ap (λ l. f u ++ l) (same_all f g v others us all.1)

  -- What belongs to all variables has that of one in the middle, behind as much as the variables before it have; and where that of this one alone
  -- changes, all else stays.
  pub parted : (names : Names) (f : Variable → List X) → ((v : Variable) → length (f v) ≡ cell_count names v) → (vars : List Variable) → AreDistinct vars →
      (v : Variable) → IsAmong v vars →
      (before : List X) × (after : List X) × (length before ≡ cells_before names vars (variable_key v)) ×
      ((g : Variable → List X) → ((u : Variable) → same_key (variable_key u) (variable_key v) ≡ false → g u ≡ f u) → flat_map g vars ≡ before ++ (g v ++ after))
  parted names f long [] distinct v x = elim x [ ]
  parted names f long (u ∷ us) distinct v (inl e) =
      let first : cells_before names (u ∷ us) (variable_key v) ≡ zero =
      ap (λ b. if b then zero else cell_count names u + cells_before names us (variable_key v)) (subst (λ x. same_key (variable_key u) (variable_key x) ≡ true) e (key_self (variable_key u))) in
      let fresh : AllByRecursion (λ x. same_key (variable_key x) (variable_key v) ≡ false) us = subst (λ y. AllByRecursion (λ x. same_key (variable_key x) (variable_key y) ≡ false) us) e distinct.0 in
      ([], flat_map f us, sym first, λ g others. ap (λ x. g x ++ flat_map g us) e ∙ ap (λ l. g v ++ l) (same_all f g v others us fresh))
  parted names f long (u ∷ us) distinct v (inr s) =
      let other = fresh u v us distinct.0 s in
      let later : cells_before names (u ∷ us) (variable_key v) ≡ cell_count names u + cells_before names us (variable_key v) =
      ap (λ b. if b then zero else cell_count names u + cells_before names us (variable_key v)) (key_other (variable_key v) (variable_key u) other) in
      let p = parted names f long us distinct.1 v s in (
        f u ++ p.0,
        p.1,
        length-append (f u) p.0 ∙ ap (λ n. n + length p.0) (long u) ∙ ap (λ n. cell_count names u + n) p.2 ∙ sym later,
        λ g others. ap (λ l. l ++ flat_map g us) (others u (key_other (variable_key v) (variable_key u) other)) ∙ ap (λ l. f u ++ l) (p.3 g others) ∙ sym (append_assoc (f u) p.0 (g v ++ p.1)),
      )
