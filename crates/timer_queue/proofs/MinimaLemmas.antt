-- Trees of moments, each of which is the lesser of the two below it.
use Rattle.std.proofs.Common.{◌≡◌, ◌≢◌, ◌⊎◌, inl, inr, ℕ, zero, suc, ◌+◌, ◌-◌, ◌*◌, ◌/◌, ◌^◌, ◌<◌, ◌≤◌, List, length, drop, slice_index, get_or, min, arith, refl, ap, sym, ◌∙◌, subst, Contains, replicate}
use Rattle.std.proofs.lemmas.List.{get_or-drop, get_or-replicate, drop-replicate}
use Rattle.std.proofs.lemmas.List.Elements.{All-from_get_or, Contains-get_or}
use Rattle.std.proofs.lemmas.Nat.{pow_pos, pow_below}
use Rattle.std.proofs.lemmas.Grind.{pow_more}
use Rattle.std.proofs.Math.Nat.{pow-le-pow_right, pow-succ'}
use Rattle.std.proofs.Math.ListN.{length-drop, length-replicate}
use Rattle.std.specs.Int.{IsPowerOfTwo}
use Rattle.timer_queue.specs.Inside.Minima.{IsTree, IsFirstBelow, IsFirstUpTo, IsLeast}

-- the node so many levels above another
abbrev pub ancestor : ℕ → ℕ → ℕ
ancestor zero node = node
ancestor (suc up) node = ancestor up node / 2

-- a number is twice its half, or one more
halves : (j : ℕ) → (j ≡ 2 * (j / 2)) ⊎ (j ≡ 2 * (j / 2) + 1)
halves j = grind arith

-- a node is at most each of the two below it
parent_le : (nodes : List ℕ) (leaves : ℕ) → IsTree nodes leaves → (j : ℕ) → 2 ≤ j → j < 2 * leaves → slice_index nodes (j / 2) ≤ slice_index nodes j
parent_le nodes leaves tree j from below =
    let lesser : slice_index nodes (j / 2) ≡ min (slice_index nodes (2 * (j / 2))) (slice_index nodes (2 * (j / 2) + 1)) = tree (j / 2) (omega arith) (omega arith) in
    elim (halves j) [
      | inl even ↦ let same = ap (slice_index nodes) even in omega arith
      | inr odd ↦ let same = ap (slice_index nodes) odd in omega arith
    ]

ancestor_le_self : (up j : ℕ) → ancestor up j ≤ j
ancestor_le_self zero j = omega arith
ancestor_le_self (suc up) j = omega (arith, ancestor_le_self up j)

-- a node is at most each leaf under it
pub ancestor_le : (nodes : List ℕ) (leaves : ℕ) → IsTree nodes leaves → (up j : ℕ) → 1 ≤ ancestor up j → j < 2 * leaves → slice_index nodes (ancestor up j) ≤ slice_index nodes j
ancestor_le nodes leaves tree zero j from below = omega arith
ancestor_le nodes leaves tree (suc up) j from below =
    let nearer = ancestor_le nodes leaves tree up j (omega arith) below in
    let parent = parent_le nodes leaves tree (ancestor up j) (omega arith) (omega (arith, ancestor_le_self up j)) in
    omega arith

twice_pow : (m up : ℕ) → m * 2 ^ suc up ≡ (2 * m) * 2 ^ up
twice_pow m up = rw (pow-succ' 2 up) (grind arith)

-- where a node's ancestor is at least, or below
pub ancestor_from : (up m j : ℕ) → m * 2 ^ up ≤ j → m ≤ ancestor up j
ancestor_from zero m j h = omega arith
ancestor_from (suc up) m j h =
    let nearer = ancestor_from up (2 * m) j (rw (twice_pow m up) at h) in
    omega arith

-- where a node is below a multiple of a power, its ancestor is below the factor
pub ancestor_below : (up m j : ℕ) → j < m * 2 ^ up → ancestor up j < m
ancestor_below zero m j h = omega arith
ancestor_below (suc up) m j h =
    let nearer = ancestor_below up (2 * m) j (rw (twice_pow m up) at h) in
    omega arith

one_more : (n x : ℕ) → (2 * n + 1) * x ≡ (2 * n) * x + x
one_more n x = grind arith

two_more : (n x : ℕ) → (2 * (n + 1)) * x ≡ (2 * n) * x + x + x
two_more n x = grind arith

right_more : (n x : ℕ) → (2 * n + 1 + 1) * x ≡ (2 * n) * x + x + x
right_more n x = grind arith

-- a product with a power of two is no less
grown : (n up : ℕ) → 2 * (n + 1) ≤ (2 * (n + 1)) * 2 ^ up
grown n up = grind (arith, pow_pos up)

positive : (n x least : ℕ) → 0 < least → least ≤ n * x → 0 < n
positive zero x least some h = grind arith
positive (suc n) x least some h = omega arith

lesser_of_two : (a b : ℕ) → (min a b ≡ a) ⊎ (min a b ≡ b)
lesser_of_two a b = grind arith

-- under each node there is a leaf with its moment
pub some_leaf : (nodes : List ℕ) (leaves : ℕ) → IsTree nodes leaves → 0 < leaves → (up node : ℕ) → leaves ≤ node * 2 ^ up → (node + 1) * 2 ^ up ≤ 2 * leaves
    → (leaf : ℕ) × (leaves ≤ leaf) × (leaf < 2 * leaves) × (slice_index nodes leaf ≡ slice_index nodes node)
some_leaf nodes leaves tree some zero node from to = (node, omega arith, omega arith, refl)
some_leaf nodes leaves tree some (suc up) node from to =
    let x = 2 ^ up in
    let left_from : leaves ≤ (2 * node) * x = rw (twice_pow node up) at from in
    let both_to : (2 * (node + 1)) * x ≤ 2 * leaves = rw (twice_pow (node + 1) up) at to in
    let left_to : (2 * node + 1) * x ≤ 2 * leaves = omega (arith, both_to, one_more node x, two_more node x) in
    let right_to : (2 * node + 1 + 1) * x ≤ 2 * leaves = omega (arith, both_to, two_more node x, right_more node x) in
    let right_from : leaves ≤ (2 * node + 1) * x = omega (arith, left_from, one_more node x) in
    let lesser = tree node (positive node (2 ^ suc up) leaves some from) (omega (arith, both_to, grown node up)) in
    elim (lesser_of_two (slice_index nodes (2 * node)) (slice_index nodes (2 * node + 1))) [
      | inl is ↦
          let leaf = some_leaf nodes leaves tree some up (2 * node) left_from left_to in
          (leaf.0, leaf.1, leaf.2, leaf.3 ∙ sym is ∙ sym lesser)
      | inr is ↦
          let leaf = some_leaf nodes leaves tree some up (2 * node + 1) right_from right_to in
          (leaf.0, leaf.1, leaf.2, leaf.3 ∙ sym is ∙ sym lesser)
    ]

-- the first node is the least of the leaves
pub first_is_least : (nodes : List ℕ) (leaves levels : ℕ) → IsTree nodes leaves → leaves ≡ 2 ^ levels → length nodes ≡ 2 * leaves → IsLeast (drop leaves nodes) (slice_index nodes 1)
first_is_least nodes leaves levels tree power size =
    let some : 0 < leaves = omega (arith, pow_pos levels, power) in
    let leaf = some_leaf nodes leaves tree some levels 1 (omega arith) (omega arith) in
    let read = get_or-drop leaves nodes (leaf.0 - leaves) 0 in
    let place : leaves + (leaf.0 - leaves) ≡ leaf.0 = omega (arith, leaf.1) in
    let is : get_or (drop leaves nodes) (leaf.0 - leaves) 0 ≡ slice_index nodes 1 = read ∙ ap (λ i. get_or nodes i 0) place ∙ leaf.3 in
    record {
      among = subst (Contains (drop leaves nodes)) is
          (Contains-get_or (drop leaves nodes) (leaf.0 - leaves) 0 (simp length-drop (omega (arith, leaf.1, leaf.2, size))));
      least = All-from_get_or (λ other. slice_index nodes 1 ≤ other) (drop leaves nodes) 0 (λ i below.
          let j = leaves + i in
          let within : j < 2 * leaves = omega (arith, below, length-drop leaves nodes, size) in
          let top : ancestor levels j ≡ 1 = omega (arith, ancestor_from levels 1 j (omega arith), ancestor_below levels 2 j (omega arith)) in
          let above = ancestor_le nodes leaves tree levels j (omega (arith, top)) within in
          omega (arith, above, ap (slice_index nodes) top, get_or-drop leaves nodes i 0));
    }

-- after so many levels the node reaches the limit, and each leaf before those under it is above the limit
pub record IsOnWay (nodes : List ℕ) (leaves levels limit done node : ℕ) : Type 0 where
  pub from : 2 ^ done ≤ node
  pub below : node < 2 * 2 ^ done
  pub reached : slice_index nodes node ≤ limit
  pub passed : (leaf : ℕ) → leaves ≤ leaf → leaf < 2 * leaves → ancestor (levels - done) leaf < node → limit < slice_index nodes leaf

-- the descent begins at the first node
pub way_begins : (nodes : List ℕ) (leaves levels limit : ℕ) → leaves ≡ 2 ^ levels → slice_index nodes 1 ≤ limit → IsOnWay nodes leaves levels limit 0 1
way_begins nodes leaves levels limit whole reached = record {
  from = omega arith;
  below = omega arith;
  reached = reached;
  passed = λ leaf from to early.
      let all : levels - 0 ≡ levels = omega arith in
      let same = ap (λ up. ancestor up leaf) all in
      absurd (omega (arith, same, ancestor_from levels 1 leaf (omega arith)));
}

-- the node that is reached is not 0
pub way_is_some : (nodes : List ℕ) (leaves levels limit done node : ℕ) → IsOnWay nodes leaves levels limit done node → 0 < node
way_is_some nodes leaves levels limit done node way = omega (arith, way.from, pow_pos done)

-- before the last level the node that is reached is no leaf
pub way_is_within : (nodes : List ℕ) (leaves levels limit done node : ℕ) → leaves ≡ 2 ^ levels → done < levels → IsOnWay nodes leaves levels limit done node → node < leaves
way_is_within nodes leaves levels limit done node whole more way =
    omega (arith, way.below, pow-succ' 2 done, pow-le-pow_right {n = 2} (omega arith) {i = suc done} {j = levels} (omega arith))

lt_or_is : (a b : ℕ) → (a < b) ⊎ (b ≤ a)
lt_or_is a b = grind arith

-- a leaf before those under the first of two nodes below a node
passes : (nodes : List ℕ) (leaves limit up node below leaf : ℕ) → IsTree nodes leaves → IsFirstBelow nodes node limit below → leaf < 2 * leaves
    → 0 < node → ancestor up leaf < below → (ancestor up leaf / 2 < node → limit < slice_index nodes leaf) → limit < slice_index nodes leaf
passes nodes leaves limit up node below leaf tree first to some early before =
    elim (lt_or_is (ancestor up leaf) (2 * node)) [
      | inl lt ↦ before (omega arith)
      | inr from ↦
          let is : ancestor up leaf ≡ 2 * node = elim first.below_it [ inl e ↦ absurd (omega arith) | inr e ↦ omega arith ] in
          let other : below ≢ 2 * node = λ same. absurd (omega arith) in
          let above = ancestor_le nodes leaves tree up leaf (omega arith) to in
          omega (arith, first.passed other, above, ap (slice_index nodes) is)
    ]

-- the descent goes on to the first of two nodes that reaches the limit
pub way_goes_on : (nodes : List ℕ) (leaves levels limit done node below : ℕ) → leaves ≡ 2 ^ levels → IsTree nodes leaves → done < levels → IsOnWay nodes leaves levels limit done node → IsFirstBelow nodes node limit below
    → IsOnWay nodes leaves levels limit (done + 1) below
way_goes_on nodes leaves levels limit done node below whole tree more way first =
    let power = pow_more 2 done in
    let up : levels - done ≡ suc (levels - (done + 1)) = omega arith in
    record {
      from = elim first.below_it [ inl e ↦ omega (arith, way.from, power) | inr e ↦ omega (arith, way.from, power) ];
      below = elim first.below_it [ inl e ↦ omega (arith, way.below, power) | inr e ↦ omega (arith, way.below, power) ];
      reached = first.reached;
      passed = λ leaf from to early. passes nodes leaves limit (levels - (done + 1)) node below leaf tree first to
          (way_is_some nodes leaves levels limit done node way) early
          (λ before. way.passed leaf from to (subst (λ u. ancestor u leaf < node) (sym up) before));
    }

-- at the last level the node that is reached is the first leaf that reaches the limit
pub way_ends : (nodes : List ℕ) (leaves levels limit done node : ℕ) → leaves ≡ 2 ^ levels → length nodes ≡ 2 * leaves → done ≡ levels → IsOnWay nodes leaves levels limit done node
    → (leaves ≤ node) × IsFirstUpTo (drop leaves nodes) limit (node - leaves)
way_ends nodes leaves levels limit done node whole size all way =
    let power = ap (λ k. 2 ^ k) all in
    let from : leaves ≤ node = omega (arith, way.from, power) in
    let below : node < 2 * leaves = omega (arith, way.below, power) in
    let place : leaves + (node - leaves) ≡ node = omega arith in
    let none : levels - done ≡ 0 = omega arith in (
      from,
      record {
        within = simp length-drop (omega (arith, from, below, size));
        reached = omega (arith, way.reached, get_or-drop leaves nodes (node - leaves) 0, ap (slice_index nodes) place);
        first = λ before early.
            let leaf = leaves + before in
            let is : ancestor (levels - done) leaf ≡ leaf = ap (λ u. ancestor u leaf) none in
            let past = way.passed leaf (omega arith) (omega (arith, below)) (omega (arith, is)) in
            omega (arith, past, get_or-drop leaves nodes before 0);
      },
    )

-- a power of two between another and its double is that other one
pub is_power : (n k : ℕ) → IsPowerOfTwo n → 2 ^ k ≤ n → n < 2 * 2 ^ k → n ≡ 2 ^ k
is_power n k power from below =
    elim (lt_or_is power.0 k) [
      | inl lt ↦ absurd (omega (arith, pow_below power.0 k lt, power.1))
      | inr le ↦ elim (lt_or_is k power.0) [
        | inl more ↦ absurd (omega (arith, pow-succ' 2 k, pow-le-pow_right {n = 2} (omega arith) {i = suc k} {j = power.0} (omega arith), power.1))
        | inr same ↦ power.1 ∙ ap (λ i. 2 ^ i) (omega arith)
      ]
    ]

-- a list of equal moments is a tree, and so are its leaves
pub tree_of_equals : (nodes : List ℕ) (leaves x : ℕ) → nodes ≡ replicate (2 * leaves) x → IsTree nodes leaves
tree_of_equals nodes leaves x is place some below =
    let at : (i : ℕ) → i < 2 * leaves → slice_index nodes i ≡ x =
    λ i within. ap (λ xs. slice_index xs i) is ∙ get_or-replicate (2 * leaves) i x 0 within in
    omega (arith, at place (omega arith), at (2 * place) (omega arith), at (2 * place + 1) (omega arith))

-- the leaves of equal moments are equal moments
pub leaves_of_equals : (nodes : List ℕ) (leaves x : ℕ) → nodes ≡ replicate (2 * leaves) x → drop leaves nodes ≡ replicate (length (drop leaves nodes)) x
leaves_of_equals nodes leaves x is =
    let dropped : drop leaves nodes ≡ replicate (2 * leaves - leaves) x = ap (drop leaves) is ∙ drop-replicate leaves (2 * leaves) x in
    let count : length (drop leaves nodes) ≡ 2 * leaves - leaves = ap length dropped ∙ length-replicate (2 * leaves - leaves) x in
    dropped ∙ ap (λ n. replicate n x) (sym count)
