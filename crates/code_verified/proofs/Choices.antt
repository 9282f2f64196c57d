-- The codes of `&&`, `||` and `?:` keep the rules where those of their parts do.
use Rattle.std.proofs.Common.{◌≡◌, ℕ, ◌+◌, ◌≤◌, Bool, true, false, [], ◌∷◌, ◌++◌, refl, sym, subst, arith}
use Rattle.std.specs.Prelude.{pos, if◌then◌else◌}
use Rattle.bytecode.specs.declared.instr.Instr.TheVariants as instr
use Rattle.typed_tree.specs.declared.expression.TExpr.{TExpr}
use Rattle.typed_tree.specs.Shape.{is_truth}
use Rattle.typed_tree.specs.Size.{Sizes, both_sizes, either_sizes, truth_size}
use Rattle.code_listing.specs.Exit.{Exit, Forward, own_truth}
use Rattle.code_listing.specs.Expression.{Codes, both_codes, both_exit, choice_code, either_codes, either_exit, truth_code}
use Rattle.code_listing.specs.Listing.{Listing}
use Rattle.code_listing.proofs.ExpressionSizes.{both_fits, both_long, cons_long, either_fits, truth_long}
use Rattle.code_listing.specs.Runs.{StandsAt}
use Rattle.code_listing.proofs.MachineRuns.{stands_back, stands_front}
use Rattle.code_verified.proofs.Codes.{IsNumber-0, IsNumber-1, Lawful, LawfulValue, begins_front, first_reached, value_some}
use Rattle.code_verified.proofs.Instructions.{plain_not, plain_push}
use Rattle.code_verified.proofs.Jumps.{ExitReached, exit_within, keep_jump}
use Rattle.code_verified.proofs.Places.{Keep, Kept, Reached, Site, Stands, comes_to, keep_at, keep_both, keep_none, keep_plain, reached_at}

module _ (s : Site) where
  -- a value, to whose end control may come
  pub value_kept : {v : ℕ → ℕ → Listing} {n : ℕ} → LawfulValue s v n → (place depth : ℕ) →
      StandsAt s.code place (v place depth) → s.function.start + depth ≤ place →
      Reached s (place + n) (depth + 1) → Kept s place (place + n) depth
  value_kept {v} {n} h place depth stands low after = record {
    keep = h.keeps place depth stands low after;
    first = first_reached s (v place depth) stands (h.begins place depth) low (omega (arith, after.below));
  }

  -- a test, to whose exit and end control may come
  pub test_kept : {c : Codes} {z : Sizes} → Lawful s c z → (when : Bool) (exit : Exit) (place depth : ℕ) →
      StandsAt s.code place (c.test when exit place depth) → s.function.start + depth ≤ place →
      ExitReached s exit depth place (place + z.test when (own_truth exit)) →
      Reached s (place + z.test when (own_truth exit)) depth → Kept s place (place + z.test when (own_truth exit)) depth
  test_kept {c} {z} h when exit place depth stands low exits after = record {
    keep = h.test_keeps when exit place depth stands low exits after;
    first = first_reached s (c.test when exit place depth) stands (h.test_begins when exit place depth) low
        (omega (arith, after.below));
  }

  -- a number that is to be 0 or 1
  truth_kept : (e : TExpr) (place depth : ℕ) → StandsAt s.code place (truth_code e (depth + 1)) →
      s.function.start + (depth + 1) ≤ place → Reached s (place + truth_size e) (depth + 1) →
      Kept s place (place + truth_size e) (depth + 1)
  truth_kept e place depth = by_truth (is_truth e)
    where
      by_truth : (b : Bool) →
          StandsAt s.code place (if b then [] else ((instr.Not, depth + 1) ∷ (instr.Not, depth + 1) ∷ [])) →
          s.function.start + (depth + 1) ≤ place → Reached s (place + (if b then 0 else 2)) (depth + 1) →
          Kept s place (place + (if b then 0 else 2)) (depth + 1)
      by_truth true stands low after = record {
        keep = keep_none s place (place + 0) (omega arith);
        first = reached_at s (omega arith) refl after;
      }
      by_truth false stands low after =
          let two : place + 1 + 1 ≡ place + 2 = omega arith in
          record {
            keep = keep_at s refl two (keep_both s
                (keep_plain s (plain_not s) stands.0 low depth refl
                (comes_to s stands.1.0 (omega (arith, low)) (omega (arith, after.below))))
                (keep_plain s (plain_not s) stands.1.0 (omega (arith, low)) depth refl
                (reached_at s (sym two) refl after)));
            first = comes_to s stands.0 low (omega (arith, after.below));
          }

  -- a test behind another, from which control comes to it
  tests_keep : {a b : Codes} {sa sb : Sizes} → Lawful s a sa → Lawful s b sb →
      (first : Bool) (inner : Exit) (when : Bool) (exit : Exit) (place right depth : ℕ) →
      right ≡ place + sa.test first (own_truth inner) →
      StandsAt s.code place (a.test first inner place depth ++ b.test when exit right depth) →
      s.function.start + depth ≤ place → ExitReached s inner depth place right →
      ExitReached s exit depth right (right + sb.test when (own_truth exit)) →
      Reached s (right + sb.test when (own_truth exit)) depth → Keep s place (right + sb.test when (own_truth exit))
  tests_keep {a} {b} {sa} {sb} ha hb first inner when exit place right depth e stands low exits exits' after =
      let n : ℕ = sa.test first (own_truth inner) in
      let xs : Listing = a.test first inner place depth in
      let ys : Listing = b.test when exit right depth in
      let behind : StandsAt s.code right ys = subst (λ p. StandsAt s.code p ys) (sym e)
      (stands_back s.code place n xs ys (ha.fits.test first inner place depth) stands) in
      let second : Kept s right (right + sb.test when (own_truth exit)) depth =
      test_kept hb when exit right depth behind (omega (arith, e, low)) exits' after in
      keep_both s
      (keep_at s refl (sym e) (ha.test_keeps first inner place depth (stands_front s.code place xs ys stands) low
      (exit_within s inner depth (omega arith) (omega (arith, e)) exits) (reached_at s e refl second.first)))
      second.keep

  -- the codes of `&&`, as a value
  both_value : {a b : Codes} {sa sb : Sizes} (e : TExpr) → Lawful s a sa → Lawful s b sb →
      LawfulValue s (both_codes a b sa sb e).value (both_sizes sa sb (truth_size e)).value
  both_value {a} {b} {sa} {sb} e ha hb = record {
    long = (both_fits a b sa sb e ha.fits hb.fits).value;
    begins = λ place depth. begins_front depth (a.test false (Forward _) place depth) _ (ha.test_begins false _ place depth);
    keeps = λ place depth stands low after.
        let right : ℕ = place + sa.test false false in
        let zero_at : ℕ = right + (sb.value + (truth_size e + 1)) in
        let truth_at : ℕ = right + sb.value in
        let jump_at : ℕ = truth_at + truth_size e in
        let end : ℕ = place + (sa.test false false + (sb.value + (truth_size e + 2))) in
        let tail : Listing = (instr.Jump (zero_at + 1), depth + 1) ∷ (instr.Push (pos 0), depth) ∷ [] in
        let ts : Listing = truth_code e (depth + 1) in
        let ys : Listing = b.value right depth in
        let xs : Listing = a.test false (Forward zero_at) place depth in
        let h1 : StandsAt s.code right (ys ++ (ts ++ tail)) =
        stands_back s.code place (sa.test false false) xs _ (ha.fits.test false (Forward zero_at) place depth) stands in
        let h2 : StandsAt s.code truth_at (ts ++ tail) =
        stands_back s.code right sb.value ys _ (hb.fits.value right depth) h1 in
        let h3 : StandsAt s.code jump_at tail =
        stands_back s.code truth_at (truth_size e) ts tail (truth_long e (depth + 1)) h2 in
        let some : 1 ≤ sb.value = value_some s hb.value in
        let zero_is : jump_at + 1 ≡ zero_at = omega arith in
        let end_is : zero_at + 1 ≡ end = omega arith in
        let after' : Reached s (zero_at + 1) (depth + 1) = reached_at s (sym end_is) refl after in
        let push : Stands s zero_at (instr.Push (pos 0)) depth =
        subst (λ p. Stands s p (instr.Push (pos 0)) depth) zero_is h3.1.0 in
        let push_first : Reached s zero_at depth = comes_to s push (omega (arith, low)) (omega (arith, after'.below)) in
        let jump_first : Reached s jump_at (depth + 1) =
        comes_to s h3.0 (omega (arith, low, some)) (omega (arith, after'.below)) in
        let truth : Kept s truth_at jump_at (depth + 1) =
        truth_kept e truth_at depth (stands_front s.code truth_at ts tail h2) (omega (arith, low, some)) jump_first in
        let second : Kept s right truth_at depth =
        value_kept hb.value right depth (stands_front s.code right ys _ h1) (omega (arith, low)) truth.first in
        let jump : Keep s jump_at zero_at = keep_at s refl zero_is
        (keep_jump s h3.0 (omega (arith, low, some)) (omega arith) after') in
        let pushes : Keep s zero_at end = keep_at s refl end_is
        (keep_plain s (plain_push s (pos 0) IsNumber-0) push (omega (arith, low)) depth (omega arith) after') in
        keep_both s
        (ha.test_keeps false (Forward zero_at) place depth (stands_front s.code place xs _ stands) low
        (push_first, omega arith) second.first)
        (keep_both s second.keep (keep_both s truth.keep (keep_both s jump pushes)));
  }

  -- the codes of `&&`
  pub lawful_both : {a b : Codes} {sa sb : Sizes} (e : TExpr) → Lawful s a sa → Lawful s b sb →
      Lawful s (both_codes a b sa sb e) (both_sizes sa sb (truth_size e))
  lawful_both {a} {b} {sa} {sb} e ha hb = record {
    fits = both_fits a b sa sb e ha.fits hb.fits;
    value = both_value e ha hb;
    test_begins = λ when exit place depth.
        begins_front depth (a.test false (both_exit when exit _) place depth) _ (ha.test_begins false _ place depth);
    test_keeps = keep;
  }
    where
      keep : (when : Bool) (exit : Exit) (place depth : ℕ) →
          StandsAt s.code place ((both_codes a b sa sb e).test when exit place depth) → s.function.start + depth ≤ place →
          ExitReached s exit depth place (place + (both_sizes sa sb (truth_size e)).test when (own_truth exit)) →
          Reached s (place + (both_sizes sa sb (truth_size e)).test when (own_truth exit)) depth →
          Keep s place (place + (both_sizes sa sb (truth_size e)).test when (own_truth exit))
      keep true exit place depth stands low exits after =
          let right : ℕ = place + sa.test false false in
          let end : ℕ = right + sb.test true (own_truth exit) in
          let end_is : end ≡ place + (sa.test false false + sb.test true (own_truth exit)) = omega arith in
          let after' : Reached s end depth = reached_at s (sym end_is) refl after in
          keep_at s refl end_is (tests_keep ha hb false (Forward end) true exit place right depth refl stands low
          (after', omega arith) (exit_within s exit depth (omega arith) (omega arith) exits) after')
      keep false exit place depth stands low exits after =
          let right : ℕ = place + sa.test false (own_truth exit) in
          let end_is : right + sb.test false (own_truth exit) ≡
          place + (sa.test false (own_truth exit) + sb.test false (own_truth exit)) = omega arith in
          keep_at s refl end_is (tests_keep ha hb false exit false exit place right depth refl stands low
          (exit_within s exit depth (omega arith) (omega arith) exits)
          (exit_within s exit depth (omega arith) (omega arith) exits) (reached_at s (sym end_is) refl after))

  -- the codes of `||`, as a value
  either_value : {a b : Codes} {sa sb : Sizes} (e : TExpr) → Lawful s a sa → Lawful s b sb →
      LawfulValue s (either_codes a b sa sb e).value (either_sizes sa sb (truth_size e)).value
  either_value {a} {b} {sa} {sb} e ha hb = record {
    long = (either_fits a b sa sb e ha.fits hb.fits).value;
    begins = λ place depth. begins_front depth (a.test false (Forward _) place depth) _ (ha.test_begins false _ place depth);
    keeps = λ place depth stands low after.
        let push_at : ℕ = place + sa.test false false in
        let right : ℕ = place + (sa.test false false + 2) in
        let truth_at : ℕ = right + sb.value in
        let end : ℕ = place + (sa.test false false + (2 + (sb.value + truth_size e))) in
        let target : ℕ = right + (sb.value + truth_size e) in
        let ts : Listing = truth_code e (depth + 1) in
        let ys : Listing = b.value right depth in
        let zs : Listing = (instr.Push (pos 1), depth) ∷ (instr.Jump target, depth + 1) ∷ (ys ++ ts) in
        let xs : Listing = a.test false (Forward right) place depth in
        let h1 : StandsAt s.code push_at zs =
        stands_back s.code place (sa.test false false) xs zs (ha.fits.test false (Forward right) place depth) stands in
        let right_is : push_at + 1 + 1 ≡ right = omega arith in
        let h2 : StandsAt s.code right (ys ++ ts) = subst (λ p. StandsAt s.code p (ys ++ ts)) right_is h1.1.1 in
        let h3 : StandsAt s.code truth_at ts = stands_back s.code right sb.value ys ts (hb.fits.value right depth) h2 in
        let some : 1 ≤ sb.value = value_some s hb.value in
        let end_is : truth_at + truth_size e ≡ end = omega arith in
        let target_is : end ≡ target = omega arith in
        let truth : Kept s truth_at (truth_at + truth_size e) (depth + 1) =
        truth_kept e truth_at depth h3 (omega (arith, low, some)) (reached_at s (sym end_is) refl after) in
        let second : Kept s right truth_at depth =
        value_kept hb.value right depth (stands_front s.code right ys ts h2) (omega (arith, low)) truth.first in
        let jump_first : Reached s (push_at + 1) (depth + 1) =
        comes_to s h1.1.0 (omega (arith, low)) (omega (arith, after.below)) in
        let push_first : Reached s push_at depth = comes_to s h1.0 (omega (arith, low)) (omega (arith, after.below)) in
        let pushes : Keep s push_at (push_at + 1) =
        keep_plain s (plain_push s (pos 1) IsNumber-1) h1.0 (omega (arith, low)) depth (omega arith) jump_first in
        let jump : Keep s (push_at + 1) right = keep_at s refl right_is
        (keep_jump s h1.1.0 (omega (arith, low)) (omega arith) (reached_at s target_is refl after)) in
        keep_both s
        (ha.test_keeps false (Forward right) place depth (stands_front s.code place xs zs stands) low
        (second.first, omega arith) push_first)
        (keep_both s pushes (keep_both s jump (keep_both s second.keep (keep_at s refl end_is truth.keep))));
  }

  -- the codes of `||`
  pub lawful_either : {a b : Codes} {sa sb : Sizes} (e : TExpr) → Lawful s a sa → Lawful s b sb →
      Lawful s (either_codes a b sa sb e) (either_sizes sa sb (truth_size e))
  lawful_either {a} {b} {sa} {sb} e ha hb = record {
    fits = either_fits a b sa sb e ha.fits hb.fits;
    value = either_value e ha hb;
    test_begins = λ when exit place depth.
        begins_front depth (a.test true (either_exit when exit _) place depth) _ (ha.test_begins true _ place depth);
    test_keeps = keep;
  }
    where
      keep : (when : Bool) (exit : Exit) (place depth : ℕ) →
          StandsAt s.code place ((either_codes a b sa sb e).test when exit place depth) → s.function.start + depth ≤ place →
          ExitReached s exit depth place (place + (either_sizes sa sb (truth_size e)).test when (own_truth exit)) →
          Reached s (place + (either_sizes sa sb (truth_size e)).test when (own_truth exit)) depth →
          Keep s place (place + (either_sizes sa sb (truth_size e)).test when (own_truth exit))
      keep false exit place depth stands low exits after =
          let right : ℕ = place + sa.test true false in
          let end : ℕ = right + sb.test false (own_truth exit) in
          let end_is : end ≡ place + (sa.test true false + sb.test false (own_truth exit)) = omega arith in
          let after' : Reached s end depth = reached_at s (sym end_is) refl after in
          keep_at s refl end_is (tests_keep ha hb true (Forward end) false exit place right depth refl stands low
          (after', omega arith) (exit_within s exit depth (omega arith) (omega arith) exits) after')
      keep true exit place depth stands low exits after =
          let right : ℕ = place + sa.test true (own_truth exit) in
          let end_is : right + sb.test true (own_truth exit) ≡
          place + (sa.test true (own_truth exit) + sb.test true (own_truth exit)) = omega arith in
          keep_at s refl end_is (tests_keep ha hb true exit true exit place right depth refl stands low
          (exit_within s exit depth (omega arith) (omega arith) exits)
          (exit_within s exit depth (omega arith) (omega arith) exits) (reached_at s (sym end_is) refl after))

  -- the codes of `?:`
  pub lawful_choice : {t a b : Codes} {st sa sb : Sizes} → Lawful s t st → Lawful s a sa → Lawful s b sb →
      LawfulValue s (choice_code t a b st sa sb) (st.test false false + (sa.value + (1 + sb.value)))
  lawful_choice {t} {a} {b} {st} {sa} {sb} ht ha hb = record {
    long = λ place depth.
        both_long _ _ _ _ (ht.fits.test false (Forward _) place depth)
        (both_long _ _ _ _ (ha.fits.value _ depth) (cons_long _ _ (hb.fits.value _ depth)));
    begins = λ place depth. begins_front depth (t.test false (Forward _) place depth) _ (ht.test_begins false _ place depth);
    keeps = λ place depth stands low after.
        let first : ℕ = place + st.test false false in
        let jump_at : ℕ = first + sa.value in
        let second : ℕ = first + (sa.value + 1) in
        let end : ℕ = place + (st.test false false + (sa.value + (1 + sb.value))) in
        let xs : Listing = t.test false (Forward second) place depth in
        let ys : Listing = a.value first depth in
        let zs : Listing = b.value second depth in
        let js : Listing = (instr.Jump (second + sb.value), depth + 1) ∷ zs in
        let h1 : StandsAt s.code first (ys ++ js) =
        stands_back s.code place (st.test false false) xs (ys ++ js) (ht.fits.test false (Forward second) place depth) stands in
        let h2 : StandsAt s.code jump_at js = stands_back s.code first sa.value ys js (ha.fits.value first depth) h1 in
        let second_is : jump_at + 1 ≡ second = omega arith in
        let h3 : StandsAt s.code second zs = subst (λ p. StandsAt s.code p zs) second_is h2.1 in
        let end_is : second + sb.value ≡ end = omega arith in
        let some : 1 ≤ sa.value = value_some s ha.value in
        let after' : Reached s (second + sb.value) (depth + 1) = reached_at s (sym end_is) refl after in
        let some' : 1 ≤ sb.value = value_some s hb.value in
        let other : Kept s second (second + sb.value) depth =
        value_kept hb.value second depth h3 (omega (arith, low)) after' in
        let jump_first : Reached s jump_at (depth + 1) =
        comes_to s h2.0 (omega (arith, low, some)) (omega (arith, after'.below)) in
        let one : Kept s first jump_at depth =
        value_kept ha.value first depth (stands_front s.code first ys js h1) (omega (arith, low)) jump_first in
        let jump : Keep s jump_at second = keep_at s refl second_is
        (keep_jump s h2.0 (omega (arith, low, some)) (omega (arith, some')) after') in
        keep_both s
        (ht.test_keeps false (Forward second) place depth (stands_front s.code place xs (ys ++ js) stands) low
        (other.first, omega arith) one.first)
        (keep_both s one.keep (keep_both s jump (keep_at s refl end_is other.keep)));
  }
