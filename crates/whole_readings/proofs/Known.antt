-- What holds or does not, as it can be found out: of bytes, and of all ways to split a list.
use Rattle.std.proofs.Common.{◌≡◌, ◌≤◌, ℕ, Bool, true, false, ◌||◌, List, [], ◌∷◌, ◌++◌, length, inl, inr, refl, sym, ap, subst, ◌∙◌, arith, All}
use Rattle.std.specs.Prelude.{◌⊎◌}
use Rattle.std.specs.List.{list_any}
use Rattle.std.specs.Str.{bytes_eq}
use Rattle.std.proofs.lemmas.Bool.{cases_eq, cases_lt, false≢true}
use Rattle.std.proofs.lemmas.Slice.Eq.{bytes_eq-Decides}
use Rattle.std.proofs.lemmas.List.Elements.{All-nil, All-cons, All-head, All-tail}

-- it holds, or it does not
abbrev pub Known : Type 0 → Type 0
Known P = P ⊎ (P → ⊥)

-- what holds exactly where another does
pub known_by : {P Q : Type 0} → (P → Q) → (Q → P) → Known P → Known Q
known_by there back (inl holds) = inl (there holds)
known_by there back (inr fails) = inr (λ holds. fails (back holds))

-- both
pub known_both : {P Q : Type 0} → Known P → Known Q → Known (P × Q)
known_both (inl one) (inl other) = inl (one, other)
known_both (inl one) (inr fails) = inr (λ both. fails both.1)
known_both (inr fails) other = inr (λ both. fails both.0)

-- one of two
pub known_either : {P Q : Type 0} → Known P → Known Q → Known (P ⊎ Q)
known_either (inl one) other = inl (inl one)
known_either (inr fails) (inl other) = inl (inr other)
known_either {P} {Q} (inr fails) (inr lacks) = inr neither
  where
    neither : P ⊎ Q → ⊥
    neither (inl one) = fails one
    neither (inr other) = lacks other

-- that it does not hold
pub known_not : {P : Type 0} → Known P → Known (P → ⊥)
known_not (inl holds) = inr (λ fails. fails holds)
known_not (inr fails) = inl fails

-- whether numbers are equal
pub known_same : (a b : ℕ) → Known (a ≡ b)
known_same a b = cases_eq a b

-- whether one is at most another
pub known_le : (a b : ℕ) → Known (a ≤ b)
known_le a b = elim (cases_lt b a) [ inl less ↦ inr (λ most. omega (arith, less, most)) | inr most ↦ inl most ]

-- whether texts are equal
pub known_text : (one other : List ℕ) → Known (one ≡ other)
known_text one other = by (bytes_eq one other) refl
  where
    by : (told : Bool) → bytes_eq one other ≡ told → Known (one ≡ other)
    by true is = inl ((bytes_eq-Decides one other).0 is)
    by false is = inr (λ same. false≢true (sym is ∙ (bytes_eq-Decides one other).1 same))

-- whether all of a list are so
pub known_all : {X : Type 0} (P : X → Type 0) → ((x : X) → Known (P x)) → (xs : List X) → Known (All P xs)
known_all P known [] = inl (All-nil P)
known_all P known (x ∷ xs) =
    known_by (λ both. All-cons P x xs both.0 both.1) (λ all. (All-head P x xs all, All-tail P x xs all))
    (known_both (known x) (known_all P known xs))

-- a split of a list of which this holds, and of no split before it
pub record IsFirstSplit {X : Type 0} (P : List X → List X → Type 0) (text front behind : List X) : Type 0 where
  pub split : text ≡ front ++ behind
  pub holds : P front behind
  pub first : (before after : List X) → text ≡ before ++ after → P before after → length front ≤ length before

-- there is one
abbrev pub HasFirstSplit : {X : Type 0} → (List X → List X → Type 0) → List X → Type 0
HasFirstSplit {X} P text = (front behind : List X) × IsFirstSplit P text front behind

-- or there is no split of which it holds
abbrev pub HasNoSplit : {X : Type 0} → (List X → List X → Type 0) → List X → Type 0
HasNoSplit {X} P text = (front behind : List X) → text ≡ front ++ behind → P front behind → ⊥

abbrev tail_of : {X : Type 0} → List X → List X
tail_of [] = []
tail_of (x ∷ xs) = xs

abbrev head_of : {X : Type 0} → X → List X → X
head_of d [] = d
head_of d (x ∷ xs) = x

-- a split behind the first
pub same_heads : {X : Type 0} (x y : X) (xs ys : List X) → x ∷ xs ≡ y ∷ ys → (x ≡ y) × (xs ≡ ys)
same_heads x y xs ys same = (ap (λ l. head_of x l) same, ap (λ l. tail_of l) same)

-- of the empty list there is one split
none_of_empty : {X : Type 0} (P : List X → List X → Type 0) → (P [] [] → ⊥) → HasNoSplit P []
none_of_empty P fails [] behind split holds = fails (subst (λ l. P [] l) (sym split) holds)
none_of_empty P fails (x ∷ front) behind split holds = absurd (cc)

-- a split of a longer list is before its first, or one of what is behind it
none_of_more : {X : Type 0} (P : List X → List X → Type 0) (x : X) (xs : List X) → (P [] (x ∷ xs) → ⊥)
    → HasNoSplit (λ front behind. P (x ∷ front) behind) xs → HasNoSplit P (x ∷ xs)
none_of_more P x xs fails none [] behind split holds = fails (subst (λ l. P [] l) (sym split) holds)
none_of_more P x xs fails none (y ∷ front) behind split holds =
    let same = same_heads x y xs (front ++ behind) split in
    none front behind same.1 (subst (λ z. P (z ∷ front) behind) (sym same.0) holds)

no_earlier : {X : Type 0} (P : List X → List X → Type 0) (x : X) (xs front : List X) → (P [] (x ∷ xs) → ⊥)
    → ((before after : List X) → xs ≡ before ++ after → P (x ∷ before) after → length front ≤ length before)
    → (before after : List X) → x ∷ xs ≡ before ++ after → P before after → length (x ∷ front) ≤ length before
no_earlier P x xs front fails first [] after split holds = absurd (fails (subst (λ l. P [] l) (sym split) holds))
no_earlier P x xs front fails first (y ∷ before) after split holds =
    let same = same_heads x y xs (before ++ after) split in
    let least : length front ≤ length before = first before after same.1 (subst (λ z. P (z ∷ before) after) (sym same.0) holds) in
    omega (arith, least)

split_behind : {X : Type 0} (P : List X → List X → Type 0) (x : X) (xs : List X) → (P [] (x ∷ xs) → ⊥)
    → HasFirstSplit (λ front behind. P (x ∷ front) behind) xs ⊎ HasNoSplit (λ front behind. P (x ∷ front) behind) xs
    → HasFirstSplit P (x ∷ xs) ⊎ HasNoSplit P (x ∷ xs)
split_behind P x xs fails (inl (front, behind, is)) =
    inl (
      x ∷ front,
      behind,
      record {
        split = ap (λ l. x ∷ l) is.split;
        holds = is.holds;
        first = no_earlier P x xs front fails is.first;
      },
    )
split_behind P x xs fails (inr none) = inr (none_of_more P x xs fails none)

split_here : {X : Type 0} (P : List X → List X → Type 0) (text : List X) → P [] text → HasFirstSplit P text
split_here P text holds =
    ([], text, record { split = refl; holds = holds; first = λ before after split also. omega arith })

-- the first split of which it holds, or none
pub first_split : {X : Type 0} (P : List X → List X → Type 0) (text : List X)
    → ((front behind : List X) → text ≡ front ++ behind → Known (P front behind))
    → HasFirstSplit P text ⊎ HasNoSplit P text
first_split P [] known =
    elim (known [] [] refl) [ inl holds ↦ inl (split_here P [] holds) | inr fails ↦ inr (none_of_empty P fails) ]
first_split P (x ∷ xs) known =
    elim (known [] (x ∷ xs) refl) [
      | inl holds ↦ inl (split_here P (x ∷ xs) holds)
      | inr fails ↦ split_behind P x xs fails (first_split (λ front behind. P (x ∷ front) behind) xs
          (λ front behind split. known (x ∷ front) behind (ap (λ l. x ∷ l) split)))
    ]

-- some split of a list is so
abbrev pub HasSplit : {X : Type 0} → (List X → List X → Type 0) → List X → Type 0
HasSplit {X} P text = (front behind : List X) × (text ≡ front ++ behind) × P front behind

-- whether some split is so
pub known_split : {X : Type 0} (P : List X → List X → Type 0) (text : List X)
    → ((front behind : List X) → text ≡ front ++ behind → Known (P front behind)) → Known (HasSplit P text)
known_split P text known =
    elim (first_split P text known) [
      | inl found ↦ inl (found.0, found.1, found.2.split, found.2.holds)
      | inr none ↦ inr (λ some. none some.0 some.1 some.2 some.3)
    ]

-- three
pub known_three : {P Q R : Type 0} → Known P → Known Q → Known R → Known (P × Q × R)
known_three one other third =
    known_by (λ both. (both.0, both.1.0, both.1.1)) (λ all. (all.0, (all.1, all.2)))
    (known_both one (known_both other third))

-- what a test decides
pub known_told : {P : Type 0} (told : Bool) → (told ≡ true → P) × (P → told ≡ true) → Known P
known_told true tells = inl (tells.0 refl)
known_told false tells = inr (λ holds. false≢true (tells.1 holds))

-- one of which a test holds
found_behind : {X : Type 0} (test : X → Bool) (x : X) (xs : List X) (told : Bool) → test x ≡ told → (told || list_any test xs) ≡ true
    → (list_any test xs ≡ true → (y : X) × (test y ≡ true)) → (y : X) × (test y ≡ true)
found_behind test x xs true is some further = (x, is)
found_behind test x xs false is some further = further some

-- and the one that is found
pub any_found : {X : Type 0} (test : X → Bool) (xs : List X) → list_any test xs ≡ true → (x : X) × (test x ≡ true)
any_found test [] some = absurd (false≢true some)
any_found test (x ∷ xs) some = found_behind test x xs (test x) refl some (λ further. any_found test xs further)
