-- What is noted is the first of all that was noted, in whatever order.
use Rattle.std.proofs.Common.{◌≡◌, List, [], ◌∷◌, ◌++◌, Option, Some, None, get_or, inl, inr, refl, sym, subst}
use Rattle.std.specs.List.{All, Contains}
use Rattle.std.proofs.lemmas.List.Elements.{All-contains, Contains-append_cases, Contains-append_left, Contains-append_right, Contains-get_or}
use Rattle.capl_meaning.specs.declared.offence.Offence.{Offence}
use Rattle.capl_meaning.specs.Offences.{IsNoLater}
use Rattle.check_names.specs.First.{IsFirstOf, noted}
use Rattle.check_names.proofs.FirstLemmas.{in_turn, noted_behind, noted_first, noted_none, stays}
use Rattle.check_names.proofs.IsIn.{IsIn, IsWithin, from_contains, to_contains}

-- what is noted of offences is the first of them
pub first_of : (offences : List Offence) → IsFirstOf (noted None offences) offences
first_of offences = by (noted None offences) refl
  where
    by : (o : Option Offence) → noted None offences ≡ o → IsFirstOf o offences
    by None is = noted_none offences is
    by (Some first) is = noted_first offences first is

-- an offence that comes no later than each of some
no_later_than : (first : Offence) (offences : List Offence) → ((x : Offence) → IsIn x offences → IsNoLater first x) → All (IsNoLater first) offences
no_later_than first offences each = λ k d within.
    each (get_or offences k d) (from_contains (get_or offences k d) offences (Contains-get_or offences k d within))

-- lists of the same offences have the same first one
pub same_first : (first : Option Offence) (xs ys : List Offence) → IsWithin xs ys → IsWithin ys xs → IsFirstOf first xs → IsFirstOf first ys
same_first None xs [] one other is = refl
same_first None xs (y ∷ ys) one other is = absurd (subst (λ (l : List Offence). IsIn y l) is (other y (inl refl)))
same_first (Some first) xs ys one other is = record {
  among = to_contains first ys (one first (from_contains first xs is.among));
  earliest = no_later_than first ys (λ x there. All-contains (IsNoLater first) xs x is.earliest (to_contains x xs (other x there)));
}

-- the first of some, and then others are noted
pub more_first : (first : Option Offence) (xs ys : List Offence) → IsFirstOf first xs → IsFirstOf (noted first ys) (xs ++ ys)
more_first None xs ys is = subst (λ (l : List Offence). IsFirstOf (noted None ys) (l ++ ys)) (sym is) (first_of ys)
more_first (Some known) xs ys is = by (noted (Some known) ys) refl
  where
    by : (o : Option Offence) → noted (Some known) ys ≡ o → IsFirstOf o (xs ++ ys)
    by None none = absurd (stays known ys none)
    by (Some first) some =
        let at = noted_behind known ys first some in
        record {
          among = elim at.among [
            | inl same ↦ Contains-append_left xs ys first (subst (λ (x : Offence). Contains xs x) same is.among)
            | inr among ↦ Contains-append_right xs ys first among
          ];
          earliest = λ k d within.
              let x : Offence = get_or (xs ++ ys) k d in
              elim (Contains-append_cases xs ys x (Contains-get_or (xs ++ ys) k d within)) [
                | inl here ↦ in_turn first known x at.to_known (All-contains (IsNoLater known) xs x is.earliest here)
                | inr there ↦ All-contains (IsNoLater first) ys x at.to_others there
              ];
        }
