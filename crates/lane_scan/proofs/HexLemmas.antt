-- From the lanes of a vector to the bytes that are hexadecimal digits.
use Rattle.std.proofs.Common.{◌≡◌, ℕ, ◌+◌, ◌*◌, ◌-◌, ◌%◌, ◌^◌, ◌<◌, ◌≤◌, eqb, Bool, true, false, cond, not, ◌↔◌, List, [], ◌∷◌, map, length, get_or, drop, Fits, w8, refl, sym, ap, ◌∙◌, subst, inl, inr, arith, IsTrue}
use Rattle.std.specs.List.{All, AllWithin}
use Rattle.std.specs.Char.{is_ascii_hexdigit, IsAsciiHexdigit}
use Rattle.std.specs.Simd.Lanes.{chunk, mask_l, top}
use Rattle.std.specs.Bool.{Decides}
use Rattle.std.specs.Int.{IsInRange, is_in_range}
use Rattle.std.proofs.lemmas.Bool.{agree_below, agree_below_at, eqb-true, cases_lt}
use Rattle.std.proofs.lemmas.Bool.Decides.{nat_tests, Decides-or}
use Rattle.std.proofs.lemmas.List.{length-map, length-drop, get_or_default, get_or-drop}
use Rattle.std.proofs.lemmas.List.Elements.{All-head, All-tail}
use Rattle.std.proofs.lemmas.Simd.{map-map, mask_l-mod, length-chunk, get_or-chunk, none_from_empty_mask}

in_range-decides : (low high c : ℕ) → Decides (is_in_range low high c) (IsInRange low high c)
in_range-decides low high c = (λ e. grind (arith, nat_tests), λ h. grind (arith, nat_tests))

true_from_not : (b : Bool) → not b ≡ false → b ≡ true
true_from_not true e = refl
true_from_not false e = absurd (cc)

-- the test of a digit decides it
is_hex-decides : (c : ℕ) → Decides (is_ascii_hexdigit c) (IsAsciiHexdigit c)
is_hex-decides c =
    Decides-or _ _ (Decides-or _ _ (in_range-decides 48 57 c) (in_range-decides 65 70 c)) (in_range-decides 97 102 c)

-- ---- a mask in which no bit is set
mask_clear : {X : Type 0} (p : X → Bool) (xs : List X) → All (λ x. p x ≡ false) xs → mask_l (map p xs) ≡ 0
mask_clear p [] h = refl
mask_clear p (x ∷ xs) h =
    let rest = mask_clear p xs (All-tail (λ y. p y ≡ false) x xs h) in
    ap (λ b. cond b 1 0 + 2 * mask_l (map p xs)) (All-head (λ y. p y ≡ false) x xs h) ∙ omega (arith, rest)

-- the lanes are computed from the bytes by f, whose top bit tells that a byte is no digit
module _ (bytes : List ℕ) (i n : ℕ) (lanes : List ℕ) (f : ℕ → ℕ) (room : i + n ≤ length bytes) (few : n ≤ 64) (fits : (k : ℕ) → Fits w8 (get_or bytes k 0))
    (made : lanes ≡ map f (chunk i n bytes)) (tells : agree_below (λ x. top 7 (f x)) (λ x. not (is_ascii_hexdigit x)) 256 ≡ true) where
  outside : ℕ → Bool
  outside x = top 7 (f x)

  mask_is : mask_l (map (top 7) lanes) % 2 ^ 64 ≡ mask_l (map (λ x. top 7 (f x)) (chunk i n bytes))
  mask_is =
      let v : List ℕ = chunk i n bytes in
      ap (λ l. mask_l l % 2 ^ 64) (ap (map (top 7)) made ∙ map-map (top 7) f v)
      ∙ mask_l-mod (map (λ x. top 7 (f x)) v) 64 (omega (arith, length-map v (λ x. top 7 (f x)), length-chunk i n bytes room))

  outside_is : (k : ℕ) (d : ℕ) → k < length bytes → top 7 (f (get_or bytes k d)) ≡ not (is_ascii_hexdigit (get_or bytes k d))
  outside_is k d low =
      agree_below_at (λ x. top 7 (f x)) (λ x. not (is_ascii_hexdigit x)) 256 (get_or bytes k d) tells
      (subst (λ x. x < 256) (get_or_default bytes k 0 d low) (fits k).fits)

  none_outside : eqb (mask_l (map (top 7) lanes) % 2 ^ 64) 0 ≡ true → AllWithin IsAsciiHexdigit bytes i (i + n)
  none_outside none k d from to =
      let clear = none_from_empty_mask (λ x. top 7 (f x)) bytes i n d room (sym mask_is ∙ eqb-true _ 0 none) k from to in
      let inside : not (is_ascii_hexdigit (get_or bytes k d)) ≡ false = sym (outside_is k d (omega arith)) ∙ clear in
      (is_hex-decides (get_or bytes k d)).0 (true_from_not _ inside)

  all_inside : AllWithin IsAsciiHexdigit bytes i (i + n) → eqb (mask_l (map (top 7) lanes) % 2 ^ 64) 0 ≡ true
  all_inside h =
      let v : List ℕ = chunk i n bytes in
      let clear : All (λ x. top 7 (f x) ≡ false) v = λ k d low.
      let within : k < n = omega (arith, length-chunk i n bytes room) in
      let P : ℕ → Type 0 = λ x. top 7 (f x) ≡ false in
      subst P (sym (get_or-chunk i n bytes k d within))
      (outside_is (i + k) d (omega arith) ∙ ap not ((is_hex-decides (get_or bytes (i + k) d)).1 (h (i + k) d (omega arith) (omega arith)))) in
      let zeros : mask_l (map (top 7) lanes) % 2 ^ 64 ≡ 0 = mask_is ∙ mask_clear (λ x. top 7 (f x)) v clear in
      grind (arith, nat_tests)

  -- the mask is empty exactly where each byte is a digit
  pub digits_in_lanes : IsTrue (eqb (mask_l (map (top 7) lanes) % 2 ^ 64) 0) ↔ AllWithin IsAsciiHexdigit bytes i (i + n)
  digits_in_lanes = (none_outside, all_inside)

-- ---- digits in two parts of a list
-- each byte is a digit where those before the place are and those from it on are
pub All-parts : (P : ℕ → Type 0) (xs : List ℕ) (i : ℕ) → AllWithin P xs 0 i → All P (drop i xs) → All P xs
All-parts P xs i before behind k d low =
    elim (cases_lt k i) [
      | inl early ↦ before k d (omega arith) early
      | inr late ↦
          let back : i + (k - i) ≡ k = omega arith in
          let at : get_or (drop i xs) (k - i) d ≡ get_or xs k d = get_or-drop i xs (k - i) d ∙ ap (λ j. get_or xs j d) back in
          subst P at (behind (k - i) d (omega (arith, length-drop i xs)))
    ]
