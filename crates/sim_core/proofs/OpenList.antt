-- The list of the nodes that have a further task, as tasks are done.
use Rattle.std.proofs.Common.{◌≡◌, ◌≢◌, ℕ, zero, suc, ◌+◌, ◌<◌, Bool, true, false, List, [], ◌∷◌, length, Some, arith, refl, ap, sym, subst, ◌∙◌}
use Rattle.std.specs.Prelude.{◌%◌, if◌then◌else◌, get_or, slice_get, slice_set}
use Rattle.std.specs.List.{remove}
use Rattle.std.proofs.lemmas.Option.{slice_get_read, slice_get_within}
use Rattle.node_run.specs.Node.{NodeInRound}
use Rattle.run_meaning.specs.Steps.{next_pick}
use Rattle.run_meaning.proofs.Once.{some_same}
use Rattle.sim_core.specs.Inside.Tasks.{has_next, open_nodes}
use Rattle.sim_core.proofs.Lefts.{open_at}

-- the first of the open ones stays or goes, as its node has a further task or not
set_first : (first place : ℕ) (rest : List ℕ) (b c : Bool) → ((p : ℕ) → slice_get rest p ≢ Some first) → slice_get (if b then first ∷ rest else rest) place ≡ Some first
    → (if c then first ∷ rest else rest) ≡ (if c then (if b then first ∷ rest else rest) else remove (if b then first ∷ rest else rest) place)
set_first first zero rest true true none at = refl
set_first first zero rest true false none at = refl
set_first first (suc place) rest true c none at = absurd (none place at)
set_first first place rest false c none at = absurd (none place at)

-- and so does a later one
set_later : (first place named : ℕ) (rest after : List ℕ) (b c : Bool) → named ≢ first → ((p : ℕ) → slice_get rest p ≡ Some named → after ≡ (if c then rest else remove rest p))
    → slice_get (if b then first ∷ rest else rest) place ≡ Some named
    → (if b then first ∷ after else after) ≡ (if c then (if b then first ∷ rest else rest) else remove (if b then first ∷ rest else rest) place)
set_later first zero named rest after true c differ more at = absurd (differ (some_same (sym at)))
set_later first (suc place) named rest after true true differ more at = ap (λ (l : List ℕ). first ∷ l) (more place at)
set_later first (suc place) named rest after true false differ more at = ap (λ (l : List ℕ). first ∷ l) (more place at)
set_later first place named rest after false true differ more at = more place at
set_later first place named rest after false false differ more at = more place at

none_before : (first : ℕ) (nodes : List NodeInRound) (p : ℕ) → slice_get (open_nodes (first + 1) nodes) p ≢ Some first
none_before first nodes p = λ at. let place = (open_at (first + 1) p first nodes at).is in absurd (omega (arith, place))

-- once the node at a place has changed, it leaves the list exactly where it has no further task
pub open_set : (first number place named : ℕ) (nodes : List NodeInRound) (after : NodeInRound) → named ≡ first + number → number < length nodes → slice_get (open_nodes first nodes) place ≡ Some named
    → open_nodes first (slice_set nodes number after) ≡ (if has_next after then open_nodes first nodes else remove (open_nodes first nodes) place)
open_set first number place named [] after is within at = absurd (omega (arith, within))
open_set first zero place named (node ∷ nodes) after is within at =
    set_first first place (open_nodes (first + 1) nodes) (has_next node) (has_next after) (none_before first nodes)
    (subst (λ n. slice_get (open_nodes first (node ∷ nodes)) place ≡ Some n) (omega (arith, is)) at)
open_set first (suc number) place named (node ∷ nodes) after is within at =
    set_later first place named (open_nodes (first + 1) nodes) (open_nodes (first + 1) (slice_set nodes number after)) (has_next node) (has_next after) (λ same. absurd (omega (arith, is, same)))
    (λ p there. open_set (first + 1) number p named nodes after (omega (arith, is)) (omega (arith, within)) there) at

-- the number at the place that the next pick names
pub chosen_is : (nodes : List NodeInRound) (list shown picks seen : List ℕ) (pick place number : ℕ) → list ≡ open_nodes 0 nodes → shown ≡ list → seen ≡ picks → pick ≡ next_pick seen
    → place ≡ pick % length shown → place < length shown → number ≡ get_or list place number → slice_get (open_nodes 0 nodes) (next_pick picks % length (open_nodes 0 nodes)) ≡ Some number
chosen_is nodes list shown picks seen pick place number are same_list same is place_is within at =
    let named : place ≡ next_pick picks % length list = place_is ∙ ap (λ p. p % length shown) (is ∙ ap next_pick same) ∙ ap (λ (l : List ℕ). next_pick picks % length l) same_list in
    let inside : place < length list = subst (λ (l : List ℕ). place < length l) same_list within in
    subst (λ (l : List ℕ). slice_get l (next_pick picks % length l) ≡ Some number) are
    (ap (λ (p : ℕ). slice_get list p) (sym named) ∙ slice_get_read list (length list) place number refl inside at)

set_there : (nodes : List NodeInRound) (number : ℕ) (after other : NodeInRound) → number < length nodes → get_or (slice_set nodes number after) number other ≡ after
set_there [] number after other within = absurd (omega (arith, within))
set_there (node ∷ nodes) zero after other within = refl
set_there (node ∷ nodes) (suc number) after other within = set_there nodes number after other (omega (arith, within))

-- once the node at a place has done a task, and has left where that was its last, the list has the open ones still
pub still_listed : (nodes nodes_after : List NodeInRound) (list shown : List ℕ) (place number : ℕ) (node after d : NodeInRound) → list ≡ open_nodes 0 nodes → shown ≡ list → place < length shown → number ≡ get_or list place number
    → slice_get nodes number ≡ Some node → nodes_after ≡ slice_set nodes number after
    → (if has_next (get_or nodes_after number d) then list else remove list place) ≡ open_nodes 0 nodes_after
still_listed nodes nodes_after list shown place number node after d are same_list outside at there nodes_are =
    let within : place < length list = subst (λ (l : List ℕ). place < length l) same_list outside in
    let inside : number < length nodes = slice_get_within nodes number node there in
    let same : get_or nodes_after number d ≡ after = ap (λ (ns : List NodeInRound). get_or ns number d) nodes_are ∙ set_there nodes number after d inside in
    let named : slice_get (open_nodes 0 nodes) place ≡ Some number = subst (λ (l : List ℕ). slice_get l place ≡ Some number) are (slice_get_read list (length list) place number refl within at) in
    ap (λ (n : NodeInRound). if has_next n then list else remove list place) same ∙ ap (λ (l : List ℕ). if has_next after then l else remove l place) are
    ∙ sym (open_set 0 number place number nodes after (omega arith) inside named) ∙ ap (λ (ns : List NodeInRound). open_nodes 0 ns) (sym nodes_are)
