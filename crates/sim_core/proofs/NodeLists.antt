-- Nodes in a list, of which one is at hand.
use Rattle.std.proofs.Common.{◌≡◌, ℕ, zero, suc, ◌<◌, List, [], ◌∷◌, length, Some, None, All, arith, refl, ap, sym, subst, ◌∙◌}
use Rattle.std.specs.Prelude.{map, slice_get, slice_set, slice_index_or}
use Rattle.std.specs.List.{AllByRecursion}
use Rattle.std.proofs.lemmas.List.Elements.{All-cons, All-head, All-nil, All-tail}
use Rattle.bytecode.specs.declared.code.Code.{Code}
use Rattle.stack_vm.specs.declared.meter.MeterRow.{MeterRow}
use Rattle.node_run.specs.Node.{HasRows, NodeInRound}
use Rattle.run_meaning.proofs.Once.{some_same}
use Rattle.sim_core.specs.Core.{HaveRows, KeepsNodes, rows_of}

-- the node at an index within the list
pub index_at : (nodes : List NodeInRound) (number : ℕ) (d : NodeInRound) → number < length nodes → slice_get nodes number ≡ Some (slice_index_or nodes number d)
index_at [] number d within = absurd (omega (arith, within))
index_at (one ∷ nodes) zero d within = refl
index_at (one ∷ nodes) (suc number) d within = index_at nodes number d (omega (arith, within))

-- what holds of all nodes holds of the one at a place
pub every_at : (P : NodeInRound → Type 0) (nodes : List NodeInRound) (number : ℕ) (node : NodeInRound) → All P nodes → slice_get nodes number ≡ Some node → P node
every_at P [] number node all at = absurd (let f : None ≡ Some node = at in cc)
every_at P (one ∷ nodes) zero node all at = subst P (some_same at) (All-head P one nodes all)
every_at P (one ∷ nodes) (suc number) node all at = every_at P nodes number node (All-tail P one nodes all) at

-- a list of all in one form and the other
pub by_recursion : (P : NodeInRound → Type 0) (nodes : List NodeInRound) → All P nodes → AllByRecursion P nodes
by_recursion P [] all = tt
by_recursion P (node ∷ nodes) all = (All-head P node nodes all, by_recursion P nodes (All-tail P node nodes all))

-- and the other way
pub by_index : (P : NodeInRound → Type 0) (nodes : List NodeInRound) → AllByRecursion P nodes → All P nodes
by_index P [] all = All-nil P
by_index P (node ∷ nodes) all = All-cons P node nodes all.0 (by_index P nodes all.1)

-- a node in the place of one with its code and row
pub keeps_set : (nodes : List NodeInRound) (number : ℕ) (node after : NodeInRound) → slice_get nodes number ≡ Some node → after.first_row ≡ node.first_row
    → after.doing.node.memory.code ≡ node.doing.node.memory.code → KeepsNodes nodes (slice_set nodes number after)
keeps_set [] number node after at row code = absurd (let f : None ≡ Some node = at in cc)
keeps_set (one ∷ nodes) zero node after at row code =
    let same : one ≡ node = some_same at in
    record {
      rows = ap (λ (r : ℕ). r ∷ rows_of nodes) (row ∙ ap (λ (n : NodeInRound). n.first_row) (sym same));
      codes = ap (λ (c : Code). c ∷ map (λ (n : NodeInRound). n.doing.node.memory.code) nodes) (code ∙ ap (λ (n : NodeInRound). n.doing.node.memory.code) (sym same));
    }
keeps_set (one ∷ nodes) (suc number) node after at row code =
    let more = keeps_set nodes number node after at row code in
    record {
      rows = ap (λ (l : List ℕ). one.first_row ∷ l) more.rows;
      codes = ap (λ (l : List Code). one.doing.node.memory.code ∷ l) more.codes;
    }

-- what is kept twice is kept in all
pub keeps_both : (before between after : List NodeInRound) → KeepsNodes before between → KeepsNodes between after → KeepsNodes before after
keeps_both before between after one other = record { rows = other.rows ∙ one.rows; codes = other.codes ∙ one.codes }

rows_long : (nodes : List NodeInRound) → length (rows_of nodes) ≡ length nodes
rows_long [] = refl
rows_long (node ∷ nodes) = ap suc (rows_long nodes)

-- as many nodes
pub keeps_long : (before after : List NodeInRound) → KeepsNodes before after → length after ≡ length before
keeps_long before after keeps = sym (rows_long after) ∙ ap (λ (l : List ℕ). length l) keeps.rows ∙ rows_long before

head_same : {X : Type 0} {x y : X} {xs ys : List X} → x ∷ xs ≡ y ∷ ys → x ≡ y
head_same is = cc

tail_same : {X : Type 0} {x y : X} {xs ys : List X} → x ∷ xs ≡ y ∷ ys → xs ≡ ys
tail_same is = cc

-- and rows for them
pub rows_stay : (before after : List NodeInRound) (meter meter_after : List MeterRow) → KeepsNodes before after → length meter_after ≡ length meter → HaveRows meter before → HaveRows meter_after after
rows_stay before [] meter meter_after keeps long have = All-nil (HasRows meter_after)
rows_stay [] (other ∷ after) meter meter_after keeps long have = absurd (let f : rows_of (other ∷ after) ≡ [] = keeps.rows in cc)
rows_stay (node ∷ before) (other ∷ after) meter meter_after keeps long have =
    let row : other.first_row ≡ node.first_row = head_same keeps.rows in
    let code : other.doing.node.memory.code ≡ node.doing.node.memory.code = head_same keeps.codes in
    let own = All-head (HasRows meter) node before have in
    All-cons (HasRows meter_after) other after
    (λ handler within.
    let there : handler < length node.doing.node.memory.code.handlers = subst (λ (c : Code). handler < length c.handlers) code within in
    let has = own handler there in omega (arith, has, row, long))
    (rows_stay before after meter meter_after (record { rows = tail_same keeps.rows; codes = tail_same keeps.codes }) long (All-tail (HasRows meter) node before have))
