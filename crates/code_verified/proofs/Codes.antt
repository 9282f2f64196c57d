-- The codes of an expression keep the rules, as a value and as a test, where those of its parts do.
use Rattle.std.proofs.Common.{◌≡◌, ℕ, ◌+◌, ◌<◌, ◌≤◌, Bool, true, false, [], ◌∷◌, ◌++◌, length, Some, refl, sym, ap, ◌∙◌, arith}
use Rattle.std.specs.Prelude.{pos, not, if◌then◌else◌}
use Rattle.std.proofs.lemmas.Int.{ints}
use Rattle.int_kinds.specs.declared.kinds.Kind.{Kind}
use Rattle.int_kinds.specs.declared.operators.BinOp.{BinOp}
use Rattle.int_kinds.specs.Kind.{IsNumber}
use Rattle.bytecode.specs.declared.instr.Instr.{Instr}
use Rattle.bytecode.specs.declared.instr.Instr.TheVariants as instr
use Rattle.bytecode.specs.Rule.{IsOperation}
use Rattle.typed_tree.specs.Shape.{is_comparison}
use Rattle.typed_tree.specs.Size.{Sizes, by_value, exit_size, negation_sizes, operator_sizes}
use Rattle.code_listing.specs.Exit.{Backward, Exit, Forward, exit_code, exit_instr, own_truth, same_truth}
use Rattle.code_listing.specs.Expression.{Codes, codes_by_value, negation_codes, opposite_op, operator_codes, test_op}
use Rattle.code_listing.specs.Listing.{Listing}
use Rattle.code_listing.proofs.ExpressionSizes.{Fit, both_long, negation_fits, operator_fits, value_fits}
use Rattle.code_listing.specs.Runs.{StandsAt}
use Rattle.code_listing.proofs.MachineRuns.{stands_back, stands_front}
use Rattle.code_verified.proofs.Instructions.{plain_bin, plain_not}
use Rattle.code_verified.proofs.Jumps.{ExitReached, exit_within, keep_exit, keep_exit_code}
use Rattle.code_verified.proofs.Places.{Keep, Plain, Reached, Site, comes_to, keep_at, keep_both, keep_plain, reached_at}

-- a listing that has an instruction, the first one with this depth
abbrev pub Begins : ℕ → Listing → Type 0
Begins depth [] = ⊥
Begins depth (x ∷ rest) = x.1 ≡ depth

-- a value of so many instructions, whose code begins with its depth and keeps the rules where control may come to its end
pub record LawfulValue (s : Site) (value : ℕ → ℕ → Listing) (n : ℕ) : Type 0 where
  pub long : (place depth : ℕ) → length (value place depth) ≡ n
  pub begins : (place depth : ℕ) → Begins depth (value place depth)
  pub keeps : (place depth : ℕ) → StandsAt s.code place (value place depth) → s.function.start + depth ≤ place →
      Reached s (place + n) (depth + 1) → Keep s place (place + n)

-- two values, of so many instructions in all, the second a number deeper
pub record LawfulPair (s : Site) (pair : ℕ → ℕ → Listing) (m n : ℕ) : Type 0 where
  pub some : 1 ≤ m
  pub some_behind : 1 ≤ n
  pub long : (place depth : ℕ) → length (pair place depth) ≡ m + n
  pub begins : (place depth : ℕ) → Begins depth (pair place depth)
  pub keeps : (place depth : ℕ) → StandsAt s.code place (pair place depth) → s.function.start + depth ≤ place →
      Reached s (place + (m + n)) (depth + 2) → Keep s place (place + (m + n))

-- codes of these sizes, whose value is lawful, and whose test begins with its depth and keeps the rules where control
-- may come to its exit and to its end
pub record Lawful (s : Site) (c : Codes) (z : Sizes) : Type 0 where
  pub fits : Fit c z
  pub value : LawfulValue s c.value z.value
  pub test_begins : (when : Bool) (exit : Exit) (place depth : ℕ) → Begins depth (c.test when exit place depth)
  pub test_keeps : (when : Bool) (exit : Exit) (place depth : ℕ) → StandsAt s.code place (c.test when exit place depth) →
      s.function.start + depth ≤ place →
      ExitReached s exit depth place (place + z.test when (own_truth exit)) →
      Reached s (place + z.test when (own_truth exit)) depth → Keep s place (place + z.test when (own_truth exit))

-- a listing and another begin as the first one does
pub begins_front : (depth : ℕ) (xs ys : Listing) → Begins depth xs → Begins depth (xs ++ ys)
begins_front depth [] ys h = absurd h
begins_front depth (x ∷ xs) ys h = h

-- a listing that begins is not empty
pub begins_some : (depth : ℕ) (xs : Listing) → Begins depth xs → 1 ≤ length xs
begins_some depth [] h = absurd h
begins_some depth (x ∷ xs) h = omega arith

-- 0 is a number in range
pub IsNumber-0 : IsNumber (pos 0)
IsNumber-0 = record { at_least = omega (arith, ints); below = omega (arith, ints) }

-- and so is 1
pub IsNumber-1 : IsNumber (pos 1)
IsNumber-1 = record { at_least = omega (arith, ints); below = omega (arith, ints) }

module _ (s : Site) where
  -- control may come to the first place of a listing
  pub first_reached : {place depth : ℕ} (xs : Listing) → StandsAt s.code place xs → Begins depth xs →
      s.function.start + depth ≤ place → place < s.function.end → Reached s place depth
  first_reached [] stands h low below = absurd h
  first_reached (x ∷ xs) stands h low below =
      record { low = low; below = below; depth_there = stands.0.1 ∙ ap Some h }

  -- a value has an instruction
  pub value_some : {v : ℕ → ℕ → Listing} {n : ℕ} → LawfulValue s v n → 1 ≤ n
  value_some {v} {n} h = omega (arith, h.long 0 0, begins_some 0 (v 0 0) (h.begins 0 0))

  -- a value that is a test by itself
  pub lawful_by_value : {v : ℕ → ℕ → Listing} {n : ℕ} → LawfulValue s v n → Lawful s (codes_by_value v) (by_value n)
  lawful_by_value {v} {n} h = record {
    fits = value_fits v n h.long;
    value = h;
    test_begins = λ when exit place depth. begins_front depth (v place depth) _ (h.begins place depth);
    test_keeps = λ when exit place depth stands low exits after.
        let xs : Listing = v place depth in
        let ys : Listing = exit_code when exit (depth + 1) in
        let size : ℕ = exit_size when (own_truth exit) in
        let end : place + n + size ≡ place + (n + size) = omega arith in
        let behind : StandsAt s.code (place + n) ys = stands_back s.code place n xs ys (h.long place depth) stands in
        let low' : s.function.start + (depth + 1) ≤ place + n = omega (arith, low, value_some h) in
        let decides : Reached s (place + n) (depth + 1) =
        exit_first when exit (place + n) depth behind low' (omega (arith, after.below)) in
        keep_at s refl end (keep_both s
        (h.keeps place depth (stands_front s.code place xs ys stands) low decides)
        (keep_exit_code s when exit (place + n) depth behind low'
        (exit_within s exit depth (omega arith) (omega arith) exits) (reached_at s (sym end) refl after)));
  }
    where
      exit_first : (when : Bool) (exit : Exit) (place depth : ℕ) → StandsAt s.code place (exit_code when exit (depth + 1)) →
          s.function.start + (depth + 1) ≤ place → place < s.function.end → Reached s place (depth + 1)
      exit_first true (Backward target) place depth stands low below = comes_to s stands.0 low below
      exit_first true (Forward target) place depth stands low below = comes_to s stands.0 low below
      exit_first false (Backward target) place depth stands low below = comes_to s stands.0 low below
      exit_first false (Forward target) place depth stands low below = comes_to s stands.0 low below

  -- an instruction behind a value
  pub lawful_behind : {v : ℕ → ℕ → Listing} {n : ℕ} (i : Instr) → Plain s i 1 1 → LawfulValue s v n →
      LawfulValue s (λ place depth. v place depth ++ (i, depth + 1) ∷ []) (n + 1)
  lawful_behind {v} {n} i plain h = record {
    long = λ place depth. both_long _ _ _ _ (h.long place depth) refl;
    begins = λ place depth. begins_front depth (v place depth) _ (h.begins place depth);
    keeps = λ place depth stands low after.
        let xs : Listing = v place depth in
        let ys : Listing = (i, depth + 1) ∷ [] in
        let end : place + n + 1 ≡ place + (n + 1) = omega arith in
        let behind : StandsAt s.code (place + n) ys = stands_back s.code place n xs ys (h.long place depth) stands in
        let low' : s.function.start + (depth + 1) ≤ place + n = omega (arith, low, value_some h) in
        keep_at s refl end (keep_both s
        (h.keeps place depth (stands_front s.code place xs ys stands) low
        (comes_to s behind.0 low' (omega (arith, after.below))))
        (keep_plain s plain behind.0 low' depth refl (reached_at s (sym end) refl after)));
  }

  -- the codes of `!`
  pub lawful_negation : {c : Codes} {z : Sizes} → Lawful s c z → Lawful s (negation_codes c) (negation_sizes z)
  lawful_negation {c} {z} h = record {
    fits = negation_fits c z h.fits;
    value = lawful_behind instr.Not (plain_not s) h.value;
    test_begins = λ when exit place depth. h.test_begins (not when) exit place depth;
    test_keeps = λ when exit place depth. h.test_keeps (not when) exit place depth;
  }

  -- a value behind another
  lawful_pair : {v w : ℕ → ℕ → Listing} {m n : ℕ} → LawfulValue s v m → LawfulValue s w n →
      LawfulPair s (λ place depth. v place depth ++ w (place + m) (depth + 1)) m n
  lawful_pair {v} {w} {m} {n} h k = record {
    some = value_some h;
    some_behind = value_some k;
    long = λ place depth. both_long _ _ _ _ (h.long place depth) (k.long (place + m) (depth + 1));
    begins = λ place depth. begins_front depth (v place depth) _ (h.begins place depth);
    keeps = λ place depth stands low after.
        let xs : Listing = v place depth in
        let right : ℕ = place + m in
        let ys : Listing = w right (depth + 1) in
        let end : right + n ≡ place + (m + n) = omega arith in
        let behind : StandsAt s.code right ys = stands_back s.code place m xs ys (h.long place depth) stands in
        let low' : s.function.start + (depth + 1) ≤ right = omega (arith, low, value_some h) in
        keep_at s refl end (keep_both s
        (h.keeps place depth (stands_front s.code place xs ys stands) low
        (first_reached ys behind (k.begins right (depth + 1)) low' (omega (arith, after.below))))
        (k.keeps right (depth + 1) behind low' (reached_at s (sym end) (omega arith) after)));
  }

  -- an operator on two values, as a value
  lawful_operation : (op : BinOp) (k : Kind) → IsOperation op → {v : ℕ → ℕ → Listing} {m n : ℕ} →
      LawfulPair s v m n →
      LawfulValue s (λ place depth. v place depth ++ (instr.Bin op k, depth + 2) ∷ []) (m + (n + 1))
  lawful_operation op k is {v} {m} {n} h = record {
    long = λ place depth. both_long _ _ _ _ (h.long place depth) refl ∙ (omega arith);
    begins = λ place depth. begins_front depth (v place depth) _ (h.begins place depth);
    keeps = λ place depth stands low after.
        let xs : Listing = v place depth in
        let ys : Listing = (instr.Bin op k, depth + 2) ∷ [] in
        let at : ℕ = place + (m + n) in
        let end : at + 1 ≡ place + (m + (n + 1)) = omega arith in
        let behind : StandsAt s.code at ys = stands_back s.code place (m + n) xs ys (h.long place depth) stands in
        let low' : s.function.start + (depth + 2) ≤ at = omega (arith, low, h.some, h.some_behind) in
        keep_at s refl end (keep_both s
        (h.keeps place depth (stands_front s.code place xs ys stands) low
        (comes_to s behind.0 low' (omega (arith, after.below))))
        (keep_plain s (plain_bin s op k is) behind.0 low' depth refl (reached_at s (sym end) refl after)));
  }

  -- a comparison of two values, as a test
  comparison_keeps : (op : BinOp) (k : Kind) → IsOperation op → {v : ℕ → ℕ → Listing} {m n : ℕ} →
      LawfulPair s v m n → (exit : Exit) (place depth : ℕ) →
      StandsAt s.code place (v place depth ++ (instr.Bin op k, depth + 2) ∷ (exit_instr exit, depth + 1) ∷ []) →
      s.function.start + depth ≤ place → ExitReached s exit depth place (place + (m + (n + 1) + 1)) →
      Reached s (place + (m + (n + 1) + 1)) depth → Keep s place (place + (m + (n + 1) + 1))
  comparison_keeps op k is {v} {m} {n} h exit place depth stands low exits after =
      let xs : Listing = v place depth in
      let ys : Listing = (instr.Bin op k, depth + 2) ∷ (exit_instr exit, depth + 1) ∷ [] in
      let at : ℕ = place + (m + n) in
      let end : at + 1 + 1 ≡ place + (m + (n + 1) + 1) = omega arith in
      let behind : StandsAt s.code at ys = stands_back s.code place (m + n) xs ys (h.long place depth) stands in
      let low' : s.function.start + (depth + 2) ≤ at = omega (arith, low, h.some, h.some_behind) in
      let lower : s.function.start + (depth + 1) ≤ at + 1 = omega (arith, low') in
      keep_at s refl end (keep_both s
      (h.keeps place depth (stands_front s.code place xs ys stands) low
      (comes_to s behind.0 low' (omega (arith, after.below))))
      (keep_both s
      (keep_plain s (plain_bin s op k is) behind.0 low' depth refl
      (comes_to s behind.1.0 lower (omega (arith, after.below))))
      (keep_exit s exit behind.1.0 lower (exit_within s exit depth (omega arith) (omega arith) exits)
      (reached_at s (sym end) refl after))))

  -- the operator of a test is on two numbers
  test_operation : (when : Bool) (exit : Exit) (op : BinOp) → IsOperation op → IsOperation (opposite_op op) →
      IsOperation (test_op when exit op)
  test_operation when exit op is is' = of_truth (same_truth when (own_truth exit))
    where
      of_truth : (b : Bool) → IsOperation (if b then op else opposite_op op)
      of_truth true = is
      of_truth false = is'

  -- the codes of an operator on two values
  pub lawful_operator : (op : BinOp) (k : Kind) → IsOperation op → IsOperation (opposite_op op) →
      {v w : ℕ → ℕ → Listing} {m n : ℕ} → LawfulValue s v m → LawfulValue s w n →
      Lawful s (operator_codes op k (λ place depth. v place depth ++ w (place + m) (depth + 1)))
      (operator_sizes op (m + (n + 1)))
  lawful_operator op k is is' {v} {w} {m} {n} hv hw = record {
    fits = operator_fits op k _ m n pair.long;
    value = value;
    test_begins = λ when exit place depth. begin (is_comparison op) when exit place depth;
    test_keeps = λ when exit place depth. keep (is_comparison op) when exit place depth;
  }
    where
      pair : LawfulPair s (λ place depth. v place depth ++ w (place + m) (depth + 1)) m n
      pair = lawful_pair hv hw

      value : LawfulValue s (λ place depth.
          (v place depth ++ w (place + m) (depth + 1)) ++ (instr.Bin op k, depth + 2) ∷ []) (m + (n + 1))
      value = lawful_operation op k is pair

      tested : Bool → Bool → Exit → ℕ → ℕ → Listing
      tested b when exit place depth = if b
          then (v place depth ++ w (place + m) (depth + 1)) ++
          (instr.Bin (test_op when exit op) k, depth + 2) ∷ (exit_instr exit, depth + 1) ∷ []
          else ((v place depth ++ w (place + m) (depth + 1)) ++ (instr.Bin op k, depth + 2) ∷ []) ++
          exit_code when exit (depth + 1)

      size : Bool → Bool → Exit → ℕ
      size b when exit = if b then m + (n + 1) + 1 else m + (n + 1) + exit_size when (own_truth exit)

      begin : (b when : Bool) (exit : Exit) (place depth : ℕ) → Begins depth (tested b when exit place depth)
      begin true when exit place depth =
          begins_front depth (v place depth ++ w (place + m) (depth + 1)) _ (pair.begins place depth)
      begin false when exit place depth = (lawful_by_value value).test_begins when exit place depth

      keep : (b when : Bool) (exit : Exit) (place depth : ℕ) → StandsAt s.code place (tested b when exit place depth) →
          s.function.start + depth ≤ place → ExitReached s exit depth place (place + size b when exit) →
          Reached s (place + size b when exit) depth → Keep s place (place + size b when exit)
      keep true when exit place depth =
          comparison_keeps (test_op when exit op) k (test_operation when exit op is is') pair exit place depth
      keep false when exit place depth = (lawful_by_value value).test_keeps when exit place depth
