-- The code that reads places and stores in them keeps the rules where that of their indices does.
use Rattle.std.proofs.Common.{◌≡◌, ℕ, ◌+◌, ◌≤◌, Bool, true, false, [], ◌∷◌, ◌++◌, length, refl, sym, ap, subst, arith}
use Rattle.std.specs.Prelude.{pos, not, if◌then◌else◌}
use Rattle.int_kinds.specs.declared.kinds.Kind.{Kind}
use Rattle.int_kinds.specs.declared.operators.BinOp.{BinOp}
use Rattle.bytecode.specs.declared.instr.Instr.{Instr}
use Rattle.bytecode.specs.declared.instr.Instr.TheVariants as instr
use Rattle.bytecode.specs.Rule.{IsOperation}
use Rattle.typed_tree.specs.Size.{one_if}
use Rattle.code_listing.specs.Listing.{Listing, instr_if}
use Rattle.code_listing.specs.Place.{bump_op}
use Rattle.code_listing.proofs.ExpressionSizes.{both_long, cons_long, instr_if_long}
use Rattle.code_listing.specs.Runs.{StandsAt}
use Rattle.code_listing.proofs.MachineRuns.{stands_back, stands_front}
use Rattle.code_verified.proofs.Choices.{value_kept}
use Rattle.code_verified.proofs.Codes.{Begins, IsNumber-1, LawfulValue, begins_front, value_some}
use Rattle.code_verified.proofs.Instructions.{bump_operation, plain_bin, plain_check, plain_conv, plain_drop, plain_dup, plain_push}
use Rattle.code_verified.proofs.Places.{Keep, Kept, Plain, Reached, Site, keep_both, kept_at, kept_both, kept_none, kept_then, reached_at}

-- the index of a place, if it has one, which so many instructions leave on the stack
pub record LawfulIndex (s : Site) (index : ℕ → ℕ → Listing) (n : ℕ) (there : Bool) : Type 0 where
  pub room : one_if there ≤ n
  pub long : (place depth : ℕ) → length (index place depth) ≡ n
  pub begins : (place depth : ℕ) (rest : Listing) → Begins (depth + one_if there) rest → Begins depth (index place depth ++ rest)
  pub kept : (place depth : ℕ) → StandsAt s.code place (index place depth) → s.function.start + depth ≤ place →
      Reached s (place + n) (depth + one_if there) → Kept s place (place + n) depth

module _ (s : Site) where
  -- no index
  pub no_index : LawfulIndex s (λ place depth. []) 0 false
  no_index = record {
    room = omega arith;
    long = λ place depth. refl;
    begins = λ place depth rest h. let same : depth + 0 ≡ depth = omega arith in subst (λ d. Begins d rest) same h;
    kept = λ place depth stands low after. kept_none s (omega arith) (omega arith) after;
  }

  -- a value as an index
  pub value_index : {v : ℕ → ℕ → Listing} {n : ℕ} → LawfulValue s v n → LawfulIndex s v n true
  value_index {v} {n} h = record {
    room = value_some s h;
    long = h.long;
    begins = λ place depth rest k. begins_front depth (v place depth) rest (h.begins place depth);
    kept = value_kept s h;
  }

  -- what is behind an index
  behind_index : {v : ℕ → ℕ → Listing} {n : ℕ} {b : Bool} → LawfulIndex s v n b → (place depth to : ℕ) (rest : Listing) →
      StandsAt s.code place (v place depth ++ rest) → s.function.start + depth ≤ place →
      Kept s (place + n) to (depth + one_if b) → Keep s place to
  behind_index {v} {n} {b} h place depth to rest stands low kept =
      keep_both s (h.kept place depth (stands_front s.code place (v place depth) rest stands) low kept.first).keep kept.keep

  -- a place that is read
  pub lawful_load : {v : ℕ → ℕ → Listing} {n : ℕ} {b : Bool} (i : Instr) → LawfulIndex s v n b → Plain s i (one_if b) 1 →
      LawfulValue s (λ place depth. v place depth ++ (i, depth + one_if b) ∷ []) (n + 1)
  lawful_load {v} {n} {b} i h plain = record {
    long = λ place depth. both_long _ _ _ _ (h.long place depth) refl;
    begins = λ place depth. h.begins place depth _ refl;
    keeps = λ place depth stands low after.
        let rest : Listing = (i, depth + one_if b) ∷ [] in
        let at : StandsAt s.code (place + n) rest = stands_back s.code place n (v place depth) rest (h.long place depth) stands in
        behind_index h place depth (place + (n + 1)) rest stands low
        (kept_then s plain at.0 (omega (arith, low, h.room)) depth refl refl
        (kept_none s (omega arith) refl after));
  }

  -- an instruction where it is needed, and places behind it
  optional_then : {i : Instr} {place listed taken given before after to : ℕ} (b : Bool) (rest : Listing) →
      Plain s i taken given → StandsAt s.code place (instr_if b (i, listed) ++ rest) → (base : ℕ) →
      (b ≡ true → (s.function.start + listed ≤ place) × (listed ≡ before) × (listed ≡ base + taken) × (after ≡ base + given)) →
      (b ≡ false → before ≡ after) →
      (StandsAt s.code (place + one_if b) rest → Kept s (place + one_if b) to after) → Kept s place to before
  optional_then {i} {place} {listed} {taken} {given} {before} {after} {to} true rest plain stands base needed unneeded kept =
      let is = needed refl in
      kept_at s refl refl is.1 (kept_then s plain stands.0 is.0 base is.2 is.3 (kept stands.1))
  optional_then {i} {place} {listed} {taken} {given} {before} {after} {to} false rest plain stands base needed unneeded kept =
      let none : place + 0 ≡ place = omega arith in
      kept_at s none refl (sym (unneeded refl)) (kept (subst (λ p. StandsAt s.code p rest) (sym none) stands))

  -- how deep a place is while an index is on the stack
  index_is : (b c : Bool) → (c ≡ true → b ≡ true) → c ≡ true → one_if b ≡ 1
  index_is true c h e = refl
  index_is false c h e = absurd (let f : false ≡ true = h e in cc)

  -- how deep a place without an index is
  no_index_is : (b : Bool) → b ≡ false → one_if b ≡ 0
  no_index_is true e = absurd (cc)
  no_index_is false e = refl

  -- an assignment
  pub lawful_store : {v w : ℕ → ℕ → Listing} {n m : ℕ} {b : Bool} (checked : Bool) (count : ℕ) (i : Instr) →
      LawfulIndex s v n b → LawfulValue s w m → (checked ≡ true → b ≡ true) → Plain s i (one_if b + 1) 1 →
      LawfulValue s (λ place depth. v place depth ++ (instr_if checked (instr.Check count, depth + one_if b) ++
      (w (place + (n + one_if checked)) (depth + one_if b) ++ (i, depth + one_if b + 1) ∷ [])))
      (n + (one_if checked + (m + 1)))
  lawful_store {v} {w} {n} {m} {b} checked count i h k has plain = record {
    long = λ place depth. both_long _ _ _ _ (h.long place depth)
        (both_long _ _ _ _ (instr_if_long checked _) (both_long _ _ _ _ (k.long _ _) refl));
    begins = λ place depth. h.begins place depth _ (begin checked (depth + one_if b) _ _ (begins_front _ (w _ _) _ (k.begins _ _)));
    keeps = λ place depth stands low after.
        let deep : ℕ = depth + one_if b in
        let value_at : ℕ = place + (n + one_if checked) in
        let end : ℕ = place + (n + (one_if checked + (m + 1))) in
        let ws : Listing = w value_at deep in
        let last : Listing = (i, deep + 1) ∷ [] in
        let rest : Listing = instr_if checked (instr.Check count, deep) ++ (ws ++ last) in
        let at : StandsAt s.code (place + n) rest = stands_back s.code place n (v place depth) rest (h.long place depth) stands in
        let some : 1 ≤ m = value_some s k in
        let value_is : value_at ≡ place + n + one_if checked = omega arith in
        let end_is : value_at + m + 1 ≡ end = omega arith in
        behind_index h place depth end rest stands low
        (optional_then checked (ws ++ last) (plain_check s count) at depth
        (λ e. (omega (arith, low, h.room), refl, ap (λ z. depth + z) (index_is b checked has e), ap (λ z. depth + z) (index_is b checked has e)))
        (λ e. refl)
        (λ stands'.
        let here : StandsAt s.code value_at (ws ++ last) = subst (λ p. StandsAt s.code p (ws ++ last)) (sym value_is) stands' in
        let there : StandsAt s.code (value_at + m) last = stands_back s.code value_at m ws last (k.long value_at deep) here in
        let stored : Kept s (value_at + m) end (deep + 1) =
        kept_then s plain there.0 (omega (arith, low, h.room, some)) depth (omega arith) refl (kept_none s end_is refl after) in
        kept_at s value_is refl refl (kept_both s
        (value_kept s k value_at deep (stands_front s.code value_at ws last here) (omega (arith, low, h.room)) stored.first)
        stored.keep)));
  }
    where
      begin : (b : Bool) (depth : ℕ) (i : Instr) (rest : Listing) → Begins depth rest → Begins depth (instr_if b (i, depth) ++ rest)
      begin true depth i rest h = refl
      begin false depth i rest h = h

  -- an assignment with an operator
  pub lawful_update : {v w : ℕ → ℕ → Listing} {n m : ℕ} {b : Bool} (op : BinOp) (k back : Kind) (wrapped : Bool)
      (read write : Instr) → IsOperation op → LawfulIndex s v n b → LawfulValue s w m →
      Plain s read (one_if b) 1 → Plain s write (one_if b + 1) 1 →
      LawfulValue s (λ place depth. v place depth ++ (instr_if b (instr.Dup, depth + 1) ++
      (read, depth + one_if b + one_if b) ∷
      (w (place + (n + (one_if b + 1))) (depth + one_if b + 1) ++
      (instr.Bin op k, depth + one_if b + 2) ∷
      (instr_if wrapped (instr.Conv back, depth + one_if b + 1) ++
      (write, depth + one_if b + 1) ∷ []))))
      (n + (one_if b + (1 + (m + (1 + (one_if wrapped + 1))))))
  lawful_update {v} {w} {n} {m} {b} op k back wrapped read write is h hw reads writes = record {
    long = λ place depth. both_long _ _ _ _ (h.long place depth)
        (both_long _ _ _ _ (instr_if_long b _) (cons_long _ _ (both_long _ _ _ _ (hw.long _ _)
        (cons_long _ _ (both_long _ _ _ _ (instr_if_long wrapped _) refl)))));
    begins = λ place depth. h.begins place depth _ (begin b depth _);
    keeps = λ place depth stands low after.
        let deep : ℕ = depth + one_if b in
        let read_at : ℕ = place + n + one_if b in
        let value_at : ℕ = place + (n + (one_if b + 1)) in
        let bin_at : ℕ = value_at + m in
        let wrap_at : ℕ = bin_at + 1 in
        let write_at : ℕ = wrap_at + one_if wrapped in
        let end : ℕ = place + (n + (one_if b + (1 + (m + (1 + (one_if wrapped + 1)))))) in
        let ws : Listing = w value_at (deep + 1) in
        let last : Listing = (write, deep + 1) ∷ [] in
        let wraps : Listing = instr_if wrapped (instr.Conv back, deep + 1) ++ last in
        let behind : Listing = (instr.Bin op k, deep + 2) ∷ wraps in
        let reading : Listing = (read, deep + one_if b) ∷ (ws ++ behind) in
        let rest : Listing = instr_if b (instr.Dup, depth + 1) ++ reading in
        let at : StandsAt s.code (place + n) rest = stands_back s.code place n (v place depth) rest (h.long place depth) stands in
        let some : 1 ≤ m = value_some s hw in
        let value_is : read_at + 1 ≡ value_at = omega arith in
        let end_is : write_at + 1 ≡ end = omega arith in
        behind_index h place depth end rest stands low
        (optional_then b reading (plain_dup s) at depth
        (λ e. let one : one_if b ≡ 1 = index_is b b (λ z. z) e in
        (omega (arith, low, h.room, one), omega (arith, one), refl, omega (arith, one)))
        (λ e. let none : one_if b ≡ 0 = no_index_is b e in omega (arith, none))
        (λ read_stands.
        let here : StandsAt s.code value_at (ws ++ behind) =
        subst (λ p. StandsAt s.code p (ws ++ behind)) value_is read_stands.1 in
        let there : StandsAt s.code bin_at behind = stands_back s.code value_at m ws behind (hw.long value_at (deep + 1)) here in
        let wrote : Kept s wrap_at end (deep + 1) =
        optional_then wrapped last (plain_conv s back) there.1 deep
        (λ e. (omega (arith, low, h.room, some), refl, refl, refl)) (λ e. refl)
        (λ stands'. kept_then s writes stands'.0 (omega (arith, low, h.room, some)) depth (omega arith) refl
        (kept_none s end_is refl after)) in
        let operated : Kept s bin_at end (deep + 2) =
        kept_then s (plain_bin s op k is) there.0 (omega (arith, low, h.room, some)) deep refl refl wrote in
        let valued : Kept s value_at end (deep + 1) = kept_both s
        (value_kept s hw value_at (deep + 1) (stands_front s.code value_at ws behind here) (omega (arith, low, h.room))
        (reached_at s refl (omega arith) operated.first)) operated.keep in
        kept_then s reads read_stands.0 (omega (arith, low, h.room)) deep refl refl
        (kept_at s (sym value_is) refl refl valued)));
  }
    where
      begin : (b : Bool) (depth : ℕ) (rest : Listing) →
          Begins (depth + one_if b) (instr_if b (instr.Dup, depth + 1) ++ (read, depth + one_if b + one_if b) ∷ rest)
      begin true depth rest = refl
      begin false depth rest = omega arith

  -- a place without an index to which 1 is added
  pub lawful_bump_in_place : (k : Kind) (up post : Bool) (read write : Instr) → Plain s read 0 1 → Plain s write 1 1 →
      LawfulValue s (λ place depth. if post
      then (read, depth) ∷ (instr.Dup, depth + 1) ∷ (instr.Push (pos 1), depth + 2) ∷
      (instr.Bin (bump_op up) k, depth + 3) ∷ (write, depth + 2) ∷ (instr.Drop, depth + 2) ∷ []
      else (read, depth) ∷ (instr.Push (pos 1), depth + 1) ∷ (instr.Bin (bump_op up) k, depth + 2) ∷
      (write, depth + 1) ∷ []) (0 + (0 + (4 + (if post then 2 else 0))))
  lawful_bump_in_place k up true read write reads writes = record {
    long = λ place depth. refl;
    begins = λ place depth. refl;
    keeps = λ place depth h low after.
        (kept_then s reads h.0 low depth (omega arith) refl
        (kept_then s (plain_dup s) h.1.0 (omega (arith, low)) depth refl refl
        (kept_then s (plain_push s (pos 1) IsNumber-1) h.1.1.0 (omega (arith, low)) (depth + 2) (omega arith) (omega arith)
        (kept_then s (plain_bin s (bump_op up) k (bump_operation up)) h.1.1.1.0 (omega (arith, low)) (depth + 1) (omega arith) (omega arith)
        (kept_then s writes h.1.1.1.1.0 (omega (arith, low)) (depth + 1) (omega arith) (omega arith)
        (kept_then s (plain_drop s) h.1.1.1.1.1.0 (omega (arith, low)) (depth + 1) (omega arith) (omega arith)
        (kept_none s (omega arith) refl after))))))).keep;
  }
  lawful_bump_in_place k up false read write reads writes = record {
    long = λ place depth. refl;
    begins = λ place depth. refl;
    keeps = λ place depth h low after.
        (kept_then s reads h.0 low depth (omega arith) refl
        (kept_then s (plain_push s (pos 1) IsNumber-1) h.1.0 (omega (arith, low)) (depth + 1) (omega arith) (omega arith)
        (kept_then s (plain_bin s (bump_op up) k (bump_operation up)) h.1.1.0 (omega (arith, low)) depth refl refl
        (kept_then s writes h.1.1.1.0 (omega (arith, low)) depth refl refl
        (kept_none s (omega arith) refl after))))).keep;
  }

  -- a place with an index to which 1 is added
  pub lawful_bump_at_index : {v : ℕ → ℕ → Listing} {n : ℕ} (k of : Kind) (up post : Bool) (read write : Instr) →
      LawfulValue s v n → Plain s read 1 1 → Plain s write 2 1 →
      LawfulValue s (λ place depth. v place depth ++
      (instr.Dup, depth + 1) ∷ (read, depth + 2) ∷ (instr.Push (pos 1), depth + 2) ∷
      (instr.Bin (bump_op up) k, depth + 3) ∷ (write, depth + 2) ∷
      (if post then (instr.Push (pos 1), depth + 1) ∷ (instr.Bin (bump_op (not up)) of, depth + 2) ∷ [] else []))
      (n + (1 + (4 + (if post then 2 else 0))))
  lawful_bump_at_index {v} {n} k of up post read write h reads writes = record {
    long = λ place depth. both_long _ _ _ _ (h.long place depth) (long post depth);
    begins = λ place depth. begins_front depth (v place depth) _ (h.begins place depth);
    keeps = λ place depth stands low after.
        let rest : Listing = (instr.Dup, depth + 1) ∷ (read, depth + 2) ∷ (instr.Push (pos 1), depth + 2) ∷
        (instr.Bin (bump_op up) k, depth + 3) ∷ (write, depth + 2) ∷ undone post depth in
        let b : StandsAt s.code (place + n) rest = stands_back s.code place n (v place depth) rest (h.long place depth) stands in
        let some : 1 ≤ n = value_some s h in
        let low' : s.function.start + (depth + 1) ≤ place + n = omega (arith, low, some) in
        let kept : Kept s (place + n) (place + (n + (1 + (4 + (if post then 2 else 0))))) (depth + 1) =
        kept_then s (plain_dup s) b.0 low' depth refl refl
        (kept_then s reads b.1.0 (omega (arith, low')) (depth + 1) (omega arith) (omega arith)
        (kept_then s (plain_push s (pos 1) IsNumber-1) b.1.1.0 (omega (arith, low')) (depth + 2) (omega arith) (omega arith)
        (kept_then s (plain_bin s (bump_op up) k (bump_operation up)) b.1.1.1.0 (omega (arith, low')) (depth + 1) (omega arith) (omega arith)
        (kept_then s writes b.1.1.1.1.0 (omega (arith, low')) depth refl refl
        (undo post (place + n + 1 + 1 + 1 + 1 + 1) (place + (n + (1 + (4 + (if post then 2 else 0))))) depth b.1.1.1.1.1
        (omega (arith, low')) (omega arith) after))))) in
        keep_both s (h.keeps place depth (stands_front s.code place (v place depth) rest stands) low kept.first) kept.keep;
  }
    where
      undone : Bool → ℕ → Listing
      undone post depth =
          if post then (instr.Push (pos 1), depth + 1) ∷ (instr.Bin (bump_op (not up)) of, depth + 2) ∷ [] else []

      long : (post : Bool) (depth : ℕ) → length {A = Instr × ℕ} ((instr.Dup, depth + 1) ∷ (read, depth + 2) ∷ (instr.Push (pos 1), depth + 2) ∷
          (instr.Bin (bump_op up) k, depth + 3) ∷ (write, depth + 2) ∷
          (if post then (instr.Push (pos 1), depth + 1) ∷ (instr.Bin (bump_op (not up)) of, depth + 2) ∷ [] else [])) ≡
          1 + (4 + (if post then 2 else 0))
      long true depth = refl
      long false depth = refl

      undo : (post : Bool) (place to depth : ℕ) →
          StandsAt s.code place (if post then (instr.Push (pos 1), depth + 1) ∷ (instr.Bin (bump_op (not up)) of, depth + 2) ∷ [] else []) →
          s.function.start + (depth + 1) ≤ place → place + (if post then 2 else 0) ≡ to → Reached s to (depth + 1) →
          Kept s place to (depth + 1)
      undo true place to depth h low e after =
          kept_then s (plain_push s (pos 1) IsNumber-1) h.0 low (depth + 1) (omega arith) (omega arith)
          (kept_then s (plain_bin s (bump_op (not up)) of (bump_operation (not up))) h.1.0 (omega (arith, low)) depth refl refl
          (kept_none s (omega (arith, e)) refl after))
      undo false place to depth h low e after = kept_none s (omega (arith, e)) refl after
