-- Two lists in one order: what holds of each pair.
use Rattle.std.proofs.Common.{◌≡◌, ℕ, zero, suc, ◌+◌, ◌<◌, ◌≤◌, List, [], ◌∷◌, ◌++◌, length, get_or, take, take_all, set, replicate, refl, sym, ap, subst, ◌∙◌, inl, inr, arith, add-one}
use Rattle.std.specs.Prelude.{Option, None, Some, IfSome, IsSome, IsTrue, Bool, true, ◌⊎◌}
use Rattle.std.specs.List.{All, AllZip, Contains}
use Rattle.std.proofs.lemmas.List.Elements.{All-nil, All-cons, All-head, All-tail}
use Rattle.can_bus.proofs.Requests.{Contains-first, Contains-later, Contains-cons, not_Contains-nil}
use Rattle.load_bound.specs.declared.stream.Stream.{Stream}

module _ {A B : Type 0} (R : A → B → Type 0) where
  zip_suc : (xs : List A) (ys : List B) (i : ℕ) (d : A) (e : B) → i < length xs → i < length ys → AllZip R (take i xs) (take i ys) → R (get_or xs i d) (get_or ys i e)
      → AllZip R (take (suc i) xs) (take (suc i) ys)
  zip_suc [] ys i d e low high h here = absurd (omega arith)
  zip_suc (x ∷ xs) [] i d e low high h here = absurd (omega arith)
  zip_suc (x ∷ xs) (y ∷ ys) zero d e low high h here = (here, tt)
  zip_suc (x ∷ xs) (y ∷ ys) (suc i) d e low high h here = (h.0, zip_suc xs ys i d e (omega arith) (omega arith) h.1 here)

  -- one more pair
  pub zip_more : (xs : List A) (ys : List B) (i : ℕ) (d : A) (e : B) → i < length xs → i < length ys → AllZip R (take i xs) (take i ys) → R (get_or xs i d) (get_or ys i e)
      → AllZip R (take (i + 1) xs) (take (i + 1) ys)
  zip_more xs ys i d e low high h here =
      subst (λ n. AllZip R (take n xs) (take n ys)) (sym (add-one i)) (zip_suc xs ys i d e low high h here)

  -- all pairs
  pub zip_whole : (xs : List A) (ys : List B) (i : ℕ) → length ys ≡ length xs → length xs ≤ i → AllZip R (take i xs) (take i ys) → AllZip R xs ys
  zip_whole xs ys i same past h =
      subst (λ zs. AllZip R xs zs) (take_all i ys (omega arith)) (subst (λ zs. AllZip R zs (take i ys)) (take_all i xs past) h)

module _ {A B : Type 0} (R : A → B → Type 0) where
  -- the pair at a place
  pub zip_at : (xs : List A) (ys : List B) (i : ℕ) (d : A) (e : B) → AllZip R xs ys → i < length xs → R (get_or xs i d) (get_or ys i e)
  zip_at [] ys i d e h low = absurd (omega arith)
  zip_at (x ∷ xs) [] i d e h low = absurd h
  zip_at (x ∷ xs) (y ∷ ys) zero d e h low = h.0
  zip_at (x ∷ xs) (y ∷ ys) (suc i) d e h low = zip_at xs ys i d e h.1 (omega arith)

  -- there are as many
  pub zip_length : (xs : List A) (ys : List B) → AllZip R xs ys → length ys ≡ length xs
  zip_length [] [] h = refl
  zip_length [] (y ∷ ys) h = absurd h
  zip_length (x ∷ xs) [] h = absurd h
  zip_length (x ∷ xs) (y ∷ ys) h = ap suc (zip_length xs ys h.1)

  push_suc : (xs : List A) (ys : List B) (i : ℕ) (d : A) (y : B) → i < length xs → AllZip R (take i xs) ys → R (get_or xs i d) y → AllZip R (take (suc i) xs) (ys ++ y ∷ [])
  push_suc [] ys i d y low h here = absurd (omega arith)
  push_suc (x ∷ xs) [] zero d y low h here = (here, tt)
  push_suc (x ∷ xs) (z ∷ ys) zero d y low h here = absurd h
  push_suc (x ∷ xs) [] (suc i) d y low h here = absurd h
  push_suc (x ∷ xs) (z ∷ ys) (suc i) d y low h here = (h.0, push_suc xs ys i d y (omega arith) h.1 here)

  -- one more item of the second list
  pub zip_push : (xs : List A) (ys : List B) (i : ℕ) (d : A) (y : B) → i < length xs → AllZip R (take i xs) ys → R (get_or xs i d) y → AllZip R (take (i + 1) xs) (ys ++ y ∷ [])
  zip_push xs ys i d y low h here = subst (λ n. AllZip R (take n xs) (ys ++ y ∷ [])) (sym (add-one i)) (push_suc xs ys i d y low h here)

  -- all items of the first list
  pub zip_all_taken : (xs : List A) (ys : List B) (i : ℕ) → length xs ≤ i → AllZip R (take i xs) ys → AllZip R xs ys
  zip_all_taken xs ys i past h = subst (λ zs. AllZip R zs ys) (take_all i xs past) h

-- one item of the second list is another
pub zip_set : {A B : Type 0} (R : A → B → Type 0) (xs : List A) (ys : List B) (i : ℕ) (d : A) (y : B) → AllZip R xs ys → i < length xs → R (get_or xs i d) y → AllZip R xs (set ys i y)
zip_set R [] ys i d y h low here = absurd (omega arith)
zip_set R (x ∷ xs) [] i d y h low here = absurd h
zip_set R (x ∷ xs) (z ∷ ys) zero d y h low here = (here, h.1)
zip_set R (x ∷ xs) (z ∷ ys) (suc i) d y h low here = (h.0, zip_set R xs ys i d y h.1 (omega arith) here)

-- what holds with one item
pub zip_same : {A B : Type 0} (R : A → B → Type 0) (y : B) → ((x : A) → R x y) → (xs : List A) → AllZip R xs (replicate (length xs) y)
zip_same R y h [] = tt
zip_same R y h (x ∷ xs) = (h x, zip_same R y h xs)

-- what follows from two facts of each pair for the first list
pub zip_both : {A B : Type 0} (P Q : A → B → Type 0) (S : A → Type 0) → ((x : A) (y : B) → P x y → Q x y → S x) → (xs : List A) (ys : List B) → AllZip P xs ys → AllZip Q xs ys → All S xs
zip_both P Q S f [] ys h g = All-nil S
zip_both P Q S f (x ∷ xs) [] h g = absurd h
zip_both P Q S f (x ∷ xs) (y ∷ ys) h g = All-cons S x xs (f x y h.0 g.0) (zip_both P Q S f xs ys h.1 g.1)

-- what follows from a fact of each pair and one of the first list
pub zip_with_all : {A B : Type 0} (P Q : A → B → Type 0) (S : A → Type 0) → ((x : A) (y : B) → P x y → S x → Q x y) → (xs : List A) (ys : List B) → AllZip P xs ys → All S xs → AllZip Q xs ys
zip_with_all P Q S f [] [] h all = tt
zip_with_all P Q S f [] (y ∷ ys) h all = absurd h
zip_with_all P Q S f (x ∷ xs) [] h all = absurd h
zip_with_all P Q S f (x ∷ xs) (y ∷ ys) h all = (f x y h.0 (All-head S x xs all), zip_with_all P Q S f xs ys h.1 (All-tail S x xs all))

-- ---- streams with given waits
-- the stream has been given this wait
abbrev pub IsGiven : List Stream → List (Option ℕ) → Stream → ℕ → Type 0
IsGiven [] waits s w = ⊥
IsGiven (r ∷ streams) [] s w = ⊥
IsGiven (r ∷ streams) (v ∷ waits) s w = ((r ≡ s) × (v ≡ Some w)) ⊎ IsGiven streams waits s w

-- it is one of the streams
pub Contains-given : (streams : List Stream) (waits : List (Option ℕ)) (s : Stream) (w : ℕ) → IsGiven streams waits s w → Contains streams s
Contains-given [] waits s w h = absurd h
Contains-given (r ∷ streams) [] s w h = absurd h
Contains-given (r ∷ streams) (v ∷ waits) s w (inl here) = subst (Contains (r ∷ streams)) here.0 (Contains-first r streams)
Contains-given (r ∷ streams) (v ∷ waits) s w (inr later) = Contains-later r s streams (Contains-given streams waits s w later)

-- what holds of each pair holds of a given wait
pub of_given : (P : Stream → ℕ → Type 0) (streams : List Stream) (waits : List (Option ℕ)) → AllZip (λ s wait. IfSome wait (P s)) streams waits
    → (s : Stream) (w : ℕ) → IsGiven streams waits s w → P s w
of_given P [] waits h s w given = absurd given
of_given P (r ∷ streams) [] h s w given = absurd given
of_given P (r ∷ streams) (v ∷ waits) h s w (inl here) =
    let Q : Stream → Type 0 = λ q. P q w in
    let R : Option ℕ → Type 0 = λ o. IfSome o (P r) in
    subst Q here.0 (subst R here.1 h.0)
of_given P (r ∷ streams) (v ∷ waits) h s w (inr later) = of_given P streams waits h.1 s w later

some_given : (P : Stream → ℕ → Type 0) (r : Stream) (v : Option ℕ) → ((w : ℕ) → v ≡ Some w → P r w) → IfSome v (P r)
some_given P r None h = tt
some_given P r (Some w) h = h w refl

-- and what holds of each given wait holds of each pair
pub all_given : (P : Stream → ℕ → Type 0) (streams : List Stream) (waits : List (Option ℕ)) → length waits ≡ length streams
    → ((s : Stream) (w : ℕ) → IsGiven streams waits s w → P s w) → AllZip (λ s wait. IfSome wait (P s)) streams waits
all_given P [] [] same h = tt
all_given P [] (v ∷ waits) same h = absurd (omega (arith, same))
all_given P (r ∷ streams) [] same h = absurd (omega (arith, same))
all_given P (r ∷ streams) (v ∷ waits) same h =
    (some_given P r v (λ w e. h r w (inl (refl, e))), all_given P streams waits (omega (arith, same)) (λ s w given. h s w (inr given)))

some_value : (v : Option ℕ) → IsSome v → (w : ℕ) × (v ≡ Some w)
some_value None h = absurd (cc)
some_value (Some w) h = (w, refl)

-- where each stream that passes a test has a wait, one that passes has been given it
pub given_wait : (p : Stream → Bool) (streams : List Stream) (waits : List (Option ℕ)) → AllZip (λ r v. IsTrue (p r) → IsSome v) streams waits
    → (r : Stream) → Contains streams r → p r ≡ true → (w : ℕ) × IsGiven streams waits r w
given_wait p [] waits h r in' holds = absurd (not_Contains-nil r in')
given_wait p (q ∷ streams) [] h r in' holds = absurd h
given_wait p (q ∷ streams) (v ∷ waits) h r in' holds =
    elim (Contains-cons q r streams in') [
      | inl same ↦
          let some = h.0 (ap p same ∙ holds) in
          let value = some_value v some in
          (value.0, inl (same, value.1))
      | inr later ↦ let rest = given_wait p streams waits h.1 r later holds in (rest.0, inr rest.1)
    ]
