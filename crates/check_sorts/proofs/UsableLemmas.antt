-- Usable signals, by a test.
use Rattle.std.proofs.Common.{◌≡◌, ◌<◌, ◌≤◌, ◌∙◌, ℕ, Bool, true, false, List, [], ◌∷◌, refl, ap, sym, arith}
use Rattle.std.specs.Prelude.{◌↔◌, All, IsTrue, not, ◌&&◌, ◌||◌, nat_le}
use Rattle.std.specs.List.{list_any}
use Rattle.std.proofs.lemmas.Bool.Decides.{nat_tests}
use Rattle.std.proofs.lemmas.List.Elements.{All-nil, All-cons, All-weaker}
use Rattle.std.proofs.lemmas.List.Folds.{list_any_none}
use Rattle.signal_codec.specs.declared.layout.Layout.{Layout}
use Rattle.signal_codec.specs.Signal.{IsUsable, bit_numbers}
use Rattle.dbc_reader.specs.declared.signals.DbcSignal.{DbcSignal}
use Rattle.capl_meaning.specs.Message.{can_be_used, is_usable}

-- where no number is from 64 on, all are below
below : (xs : List ℕ) → list_any (λ n. nat_le 64 n) xs ≡ false → All (λ n. n < 64) xs
below [] none = All-nil (λ n. n < 64)
below (x ∷ xs) none = by (nat_le 64 x) refl none (below xs)
  where
    by : (b : Bool) → nat_le 64 x ≡ b → (b || list_any (λ n. nat_le 64 n) xs) ≡ false
        → (list_any (λ n. nat_le 64 n) xs ≡ false → All (λ n. n < 64) xs) → All (λ n. n < 64) (x ∷ xs)
    by true is fails rest = cc
    by false is fails rest =
        let small : x < 64 = grind (arith, nat_tests, is) in
        All-cons (λ n. n < 64) x xs small (rest fails)

-- a layout that passes the test
passes : (l : Layout) → is_usable l ≡ true → IsUsable l
passes l = by (nat_le 1 l.len) refl (nat_le l.len 64) refl (list_any (λ n. nat_le 64 n) (bit_numbers l)) refl
  where
    by : (a : Bool) → nat_le 1 l.len ≡ a → (b : Bool) → nat_le l.len 64 ≡ b
        → (d : Bool) → list_any (λ n. nat_le 64 n) (bit_numbers l) ≡ d → (a && (b && not d)) ≡ true → IsUsable l
    by true one true most false none is = record {
      at_least_one = grind (arith, nat_tests, one);
      at_most_64 = grind (arith, nat_tests, most);
      in_payload = below (bit_numbers l) none;
    }
    by false one b most d none is = cc
    by true one false most d none is = cc
    by true one true most true none is = cc

-- a usable layout passes the test
usable : (l : Layout) → IsUsable l → is_usable l ≡ true
usable l u =
    let one : nat_le 1 l.len ≡ true = let h = u.at_least_one in grind (arith, nat_tests, h) in
    let most : nat_le l.len 64 ≡ true = let h = u.at_most_64 in grind (arith, nat_tests, h) in
    let small = All-weaker (λ n. n < 64) (λ n. nat_le 64 n ≡ false) (λ n h. outside n h) (bit_numbers l) u.in_payload in
    let none = list_any_none (λ n. nat_le 64 n) (bit_numbers l) small in
    ap (λ (b : Bool). b && (nat_le l.len 64 && not (list_any (λ n. nat_le 64 n) (bit_numbers l)))) one
    ∙ ap (λ (b : Bool). b && not (list_any (λ n. nat_le 64 n) (bit_numbers l))) most
    ∙ ap not none
  where
    outside : (n : ℕ) → n < 64 → nat_le 64 n ≡ false
    outside n h = grind (arith, nat_tests, h)

-- the answer of a test of usable layouts
pub tested : (l : Layout) (r : Bool) → (IsTrue r ↔ IsUsable l) → r ≡ is_usable l
tested l r is = by r refl (is_usable l) refl
  where
    by : (b : Bool) → r ≡ b → (u : Bool) → is_usable l ≡ u → b ≡ u
    by true holds true same = refl
    by false fails false same = refl
    by true holds false same = sym (usable l (is.0 holds)) ∙ same
    by false fails true same = sym fails ∙ is.1 (passes l same)
