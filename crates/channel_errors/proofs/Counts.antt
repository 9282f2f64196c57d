-- The nodes' counts: which of them a call changes, and which way.
use Rattle.std.proofs.Common.{◌≡◌, ◌≢◌, ℕ, zero, suc, ◌-◌, ◌≤◌, true, false, List, [], ◌∷◌, ltb, set, refl, sym, ap, ◌∙◌, arith}
use Rattle.std.specs.Prelude.{slice_index, replicate}
use Rattle.std.proofs.lemmas.Bool.Decides.{nat_tests}
use Rattle.std.proofs.lemmas.List.{get_or-set_other, set-get_or}
use Rattle.channel_errors.specs.Errors.{is_off_in, counts_after_sent, counts_after_disturbed}

over : (a b : ℕ) → a ≤ b → ltb 255 a ≡ true → ltb 255 b ≡ true
over a b less off = grind (arith, nat_tests)

sent_less : (counts : List ℕ) (node other : ℕ) → slice_index (counts_after_sent counts node) other ≤ slice_index counts other
sent_less [] node other = omega arith
sent_less (x ∷ xs) zero zero = omega arith
sent_less (x ∷ xs) zero (suc other) = omega arith
sent_less (x ∷ xs) (suc node) zero = omega arith
sent_less (x ∷ xs) (suc node) (suc other) = sent_less xs node other

disturbed_more : (counts : List ℕ) (node other : ℕ) → slice_index counts other ≤ slice_index (counts_after_disturbed counts node) other
disturbed_more [] node other = omega arith
disturbed_more (x ∷ xs) zero zero = omega arith
disturbed_more (x ∷ xs) zero (suc other) = omega arith
disturbed_more (x ∷ xs) (suc node) zero = omega arith
disturbed_more (x ∷ xs) (suc node) (suc other) = disturbed_more xs node other

-- a frame that was sent turns no node off
pub off_before_sent : (counts : List ℕ) (node other : ℕ) → is_off_in (counts_after_sent counts node) other ≡ true → is_off_in counts other ≡ true
off_before_sent counts node other off = over _ _ (sent_less counts node other) off

-- a frame that was disturbed turns no node on
pub off_after_disturbed : (counts : List ℕ) (node other : ℕ) → is_off_in counts other ≡ true → is_off_in (counts_after_disturbed counts node) other ≡ true
off_after_disturbed counts node other off = over _ _ (disturbed_more counts node other) off

-- a frame of one node leaves whether another is off
pub is_off_other : (counts : List ℕ) (node other count : ℕ) → other ≢ node → is_off_in (set counts node count) other ≡ is_off_in counts other
is_off_other counts node other count apart = ap (ltb 255) (get_or-set_other counts node other count 0 apart)

-- a node that is off is not one that is on
pub off_on_apart : (counts : List ℕ) (m n : ℕ) → is_off_in counts m ≡ true → is_off_in counts n ≡ false → m ≢ n
off_on_apart counts m n off on same = let e : true ≡ false = sym off ∙ ap (is_off_in counts) same ∙ on in absurd (cc)

-- ---- counts that are all 0
count_zero : (nodes node : ℕ) → slice_index (replicate nodes 0) node ≡ 0
count_zero zero node = refl
count_zero (suc nodes) zero = refl
count_zero (suc nodes) (suc node) = count_zero nodes node

-- no node is off
pub is_off-zero : (nodes node : ℕ) → is_off_in (replicate nodes 0) node ≡ false
is_off-zero nodes node = ap (ltb 255) (count_zero nodes node)

-- and a frame that was sent leaves them
pub sent-zero : (nodes node : ℕ) → counts_after_sent (replicate nodes 0) node ≡ replicate nodes 0
sent-zero nodes node =
    let zeros : List ℕ = replicate nodes 0 in
    ap (λ c. set zeros node (c - 1)) (count_zero nodes node) ∙ sym (ap (set zeros node) (count_zero nodes node)) ∙ set-get_or zeros node 0
