-- Offences that are noted in parts.
use Rattle.std.proofs.Common.{◌≡◌, ◌<◌, ◌+◌, ◌∷◌, ◌++◌, ◌∙◌, ℕ, zero, suc, List, [], Option, Some, None, ap, arith, drop, get_or, length, refl, slice_get, sym, take}
use Rattle.std.specs.List.{zip}
use Rattle.std.specs.Prelude.{flat_map, map}
use Rattle.std.proofs.lemmas.List.{map-append, take_more}
use Rattle.capl_tree.specs.declared.expr.Expr.{Expr}
use Rattle.capl_meaning.specs.declared.sort.Sort.{Sort}
use Rattle.capl_meaning.specs.Names.{Scope}
use Rattle.capl_meaning.specs.Sort.{sort_of}
use Rattle.check_expressions.specs.Judged.{sorts_in}
use Rattle.capl_meaning.specs.declared.offence.Offence.{Offence}
use Rattle.check_names.specs.First.{earlier, noted}

-- one list behind another
pub noted_append : (before : Option Offence) (one other : List Offence) →
    noted before (one ++ other) ≡ noted (noted before one) other
noted_append before [] other = refl
noted_append before (offence ∷ one) other = noted_append (Some (earlier before offence)) one other

-- two lists that were noted one after another
pub noted_both : (start between after : Option Offence) (one other : List Offence) → between ≡ noted start one →
    after ≡ noted between other → after ≡ noted start (one ++ other)
noted_both start between after one other is_one is_other =
    is_other ∙ ap (λ f. noted f other) is_one ∙ (let e = noted_append start one other in cc)

-- what is left begins with the next
drop_get : {X : Type 0} (all : List X) (i : ℕ) (x : X) → slice_get all i ≡ Some x → drop i all ≡ x ∷ drop (i + 1) all
drop_get [] zero x e = absurd (let f : None ≡ Some x = e in cc)
drop_get [] (suc i) x e = absurd (let f : None ≡ Some x = e in cc)
drop_get (y ∷ all) zero x e = let f : Some y ≡ Some x = e in let g : y ≡ x = cc in ap (λ z. z ∷ all) g
drop_get (y ∷ all) (suc i) x e =
    let n : suc (i + 1) ≡ suc i + 1 = omega arith in drop_get all i x e ∙ ap (λ m. x ∷ drop m (y ∷ all)) n

-- a turn of a loop: what is left gives the same
pub noted_turn : {X : Type 0} (f : X → List Offence) (all : List X) (i : ℕ) (x : X) (before after whole : Option Offence) →
    slice_get all i ≡ Some x → after ≡ noted before (f x) → noted before (flat_map f (drop i all)) ≡ whole →
    noted after (flat_map f (drop (i + 1) all)) ≡ whole
noted_turn f all i x before after whole at is left =
    ap (λ o. noted o (flat_map f (drop (i + 1) all))) is ∙ sym (noted_append before (f x) (flat_map f (drop (i + 1) all)))
    ∙ ap (λ l. noted before (flat_map f l)) (sym (drop_get all i x at)) ∙ left

-- a turn of a loop over expressions: one sort more
pub sorts_turn : (s : Scope) (all : List Expr) (i : ℕ) (e : Expr) (k : Sort) (before after : List Sort) → i < length all →
    e ≡ get_or all i e → before ≡ sorts_in s (take i all) → k ≡ sort_of s e → after ≡ before ++ k ∷ [] →
    after ≡ sorts_in s (take (i + 1) all)
sorts_turn s all i e k before after within at is_before is_k is_after =
    is_after ∙ ap (λ ks. ks ++ k ∷ []) is_before ∙ ap (λ x. sorts_in s (take i all) ++ x ∷ []) is_k
    ∙ sym (ap (map (sort_of s)) (take_more all i e within) ∙ map-append (sort_of s) (take i all) (get_or all i e ∷ [])
    ∙ ap (λ y. sorts_in s (take i all) ++ sort_of s y ∷ []) (sym at))

-- a pair at an index
pub zip_get : {X Y : Type 0} (xs : List X) (ys : List Y) (i : ℕ) (x : X) (y : Y) → i < length xs → i < length ys →
    x ≡ get_or xs i x → y ≡ get_or ys i y → slice_get (zip xs ys) i ≡ Some (x, y)
zip_get [] ys i x y within too is_x is_y = absurd (omega arith)
zip_get (a ∷ xs) [] i x y within too is_x is_y = absurd (omega arith)
zip_get (a ∷ xs) (b ∷ ys) zero x y within too is_x is_y =
    ap (λ p. Some (p, b)) (sym is_x) ∙ ap (λ p. Some (x, p)) (sym is_y)
zip_get (a ∷ xs) (b ∷ ys) (suc i) x y within too is_x is_y = zip_get xs ys i x y (omega arith) (omega arith) is_x is_y

-- nothing is left behind as many pairs
pub zip_end : {X Y : Type 0} (xs : List X) (ys : List Y) → drop (length ys) (zip xs ys) ≡ []
zip_end [] [] = refl
zip_end [] (y ∷ ys) = refl
zip_end (x ∷ xs) [] = refl
zip_end (x ∷ xs) (y ∷ ys) = zip_end xs ys
