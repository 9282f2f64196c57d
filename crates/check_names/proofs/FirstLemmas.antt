-- The first of offences that are noted one after another.
use Rattle.std.proofs.Common.{◌≡◌, ◌∷◌, ◌++◌, ◌⊎◌, suc, Bool, true, false, List, [], Option, Some, None, inl, inr, arith, refl, subst, sym}
use Rattle.std.specs.Prelude.{if◌then◌else◌}
use Rattle.std.specs.List.{All, Contains}
use Rattle.std.proofs.lemmas.Bool.Decides.{nat_tests}
use Rattle.std.proofs.lemmas.List.Elements.{All-cons, All-nil}
use Rattle.std.proofs.lemmas.Option.{none-some, same_Some}
use Rattle.capl_meaning.specs.declared.offence.Offence.{Offence}
use Rattle.capl_meaning.specs.Offences.{IsFirst, IsNoLater}
use Rattle.check_names.specs.First.{earlier, is_no_later, noted}

-- offences that are noted in parts
pub noted_append : (first : Option Offence) (one other : List Offence) →
    noted first (one ++ other) ≡ noted (noted first one) other
noted_append first [] other = refl
noted_append first (offence ∷ one) other = noted_append (Some (earlier first offence)) one other

-- what the test says where it passes
no_later : (a b : Offence) → is_no_later a b ≡ true → IsNoLater a b
no_later a b is = grind (arith, nat_tests, is)

-- and where it does not
later : (a b : Offence) → is_no_later a b ≡ false → IsNoLater b a
later a b is = grind (arith, nat_tests, is)

-- no offence comes later than itself
itself : (a : Offence) → IsNoLater a a
itself a = inr (refl, inr (refl, omega arith))

-- of three
pub in_turn : (a b c : Offence) → IsNoLater a b → IsNoLater b c → IsNoLater a c
in_turn a b c one other = grind (arith, one, other)

-- it is the first of some
here : (x : Offence) (xs : List Offence) → Contains (x ∷ xs) x
here x xs = (0, omega arith, refl)

-- it is one of those behind the first
behind : (y x : Offence) (xs : List Offence) → Contains xs x → Contains (y ∷ xs) x
behind y x xs is = (suc is.0, omega (arith, is.1), is.2)

-- the first of an offence and others: the one, or one of the others, that comes no later than it and each
pub record IsFirstBehind (known : Offence) (offences : List Offence) (first : Offence) : Type 0 where
  pub among : (known ≡ first) ⊎ Contains offences first
  pub to_known : IsNoLater first known
  pub to_others : All (IsNoLater first) offences

-- one more offence, which is or is not later than what was known
one_more : (known x : Offence) (xs : List Offence) (first : Offence) (test : Bool) → is_no_later known x ≡ test →
    IsFirstBehind (if test then known else x) xs first → IsFirstBehind known (x ∷ xs) first
one_more known x xs first true is at = record {
  among = elim at.among [
    | inl same ↦ inl same
    | inr among ↦ inr (behind x first xs among)
  ];
  to_known = at.to_known;
  to_others = All-cons (IsNoLater first) x xs (in_turn first known x at.to_known (no_later known x is)) at.to_others;
}
one_more known x xs first false is at = record {
  among = elim at.among [
    | inl same ↦ inr (subst (Contains (x ∷ xs)) same (here x xs))
    | inr among ↦ inr (behind x first xs among)
  ];
  to_known = in_turn first x known at.to_known (later known x is);
  to_others = All-cons (IsNoLater first) x xs at.to_known at.to_others;
}

-- what is noted behind a known offence
pub noted_behind : (known : Offence) (offences : List Offence) (first : Offence) →
    noted (Some known) offences ≡ Some first → IsFirstBehind known offences first
noted_behind known [] first is =
    let same : known ≡ first = same_Some known first is in
    record { among = inl same; to_known = subst (λ x. IsNoLater x known) same (itself known); to_others = All-nil _ }
noted_behind known (x ∷ xs) first is =
    one_more known x xs first (is_no_later known x) refl (noted_behind (earlier (Some known) x) xs first is)

-- what is noted is the first
pub noted_first : (offences : List Offence) (first : Offence) → noted None offences ≡ Some first →
    IsFirst first offences
noted_first [] first is = absurd (none-some first is)
noted_first (x ∷ xs) first is =
    let at = noted_behind x xs first is in
    record {
      among = elim at.among [
        | inl same ↦ subst (Contains (x ∷ xs)) same (here x xs)
        | inr among ↦ behind x first xs among
      ];
      earliest = All-cons (IsNoLater first) x xs at.to_known at.to_others;
    }

-- something stays noted
pub stays : (known : Offence) (offences : List Offence) → noted (Some known) offences ≡ None → ⊥
stays known [] is = none-some known (sym is)
stays known (x ∷ xs) is = stays (earlier (Some known) x) xs is

-- where nothing is noted there was nothing
pub noted_none : (offences : List Offence) → noted None offences ≡ None → offences ≡ []
noted_none [] is = refl
noted_none (x ∷ xs) is = absurd (stays x xs is)
