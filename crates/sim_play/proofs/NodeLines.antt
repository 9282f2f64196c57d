-- The lines of the event procedures of nodes, node by node.
use Rattle.std.proofs.Common.{◌≡◌, ℕ, suc, ◌+◌, ◌<◌, ◌≤◌, List, [], ◌∷◌, ◌++◌, Option, drop, drop-cons, get_or, length, take, add-one, arith, ap, sym, subst, ◌∙◌}
use Rattle.std.proofs.lemmas.List.{append-nil, append_assoc, get_or-map, length-map, length-take-le, take-append-drop}
use Rattle.std.proofs.lemmas.List.Sums.{sum_by-cons, sum_by_more, sum_by_more_le}
use Rattle.std.proofs.Math.Seq.{take-suc}
use Rattle.bytecode.specs.declared.code.Handler.{Handler}
use Rattle.stack_vm.specs.declared.meter.MeterRow.{MeterRow}
use Rattle.node_run.specs.Node.{NodeInRound}
use Rattle.sim_outside.specs.Sink.{GrowsBy, GrowsByPrefix}
use Rattle.sim_play.specs.Profile.{handler_lines}
use Rattle.sim_play.specs.Inside.Counted.{handlers_of, lines_from, row_count}
use Rattle.sim_play.proofs.Grows.{begins_more, grows_more, grows_same}

-- the event procedures of the node at a place
pub own_at : (nodes : List NodeInRound) (place : ℕ) (node : NodeInRound) (own : List Handler) → node ≡ get_or nodes place node → place < length nodes → own ≡ node.doing.node.memory.code.handlers
    → own ≡ get_or (handlers_of nodes) place own
own_at nodes place node own is there same =
    same ∙ ap (λ (n : NodeInRound). n.doing.node.memory.code.handlers) is ∙ sym (get_or-map (λ (n : NodeInRound). n.doing.node.memory.code.handlers) nodes place node own there)

-- a member of a list, by equal values
pub member_at : {A : Type 0} {xs ys : List A} (place : ℕ) {x y : A} → y ≡ x → xs ≡ ys → x ≡ get_or xs place x → y ≡ get_or ys place y
member_at {A} {xs} {ys} place {x} {y} same lists is =
    subst (λ (z : A). z ≡ get_or ys place z) (sym same) (is ∙ ap (λ (zs : List A). get_or zs place x) lists)

-- there are as many lists of them as nodes
pub as_many : (nodes : List NodeInRound) → length (handlers_of nodes) ≡ length nodes
as_many nodes = length-map nodes (λ (n : NodeInRound). n.doing.node.memory.code.handlers)

-- the rows up to the node behind a place
pub rows_more : (handlers : List (List Handler)) (place : ℕ) (own : List Handler) → own ≡ get_or handlers place own → place < length handlers
    → row_count (take (place + 1) handlers) ≡ row_count (take place handlers) + length own
rows_more handlers place own is there = sum_by_more length handlers place own there ∙ ap (λ (h : List Handler). row_count (take place handlers) + length h) (sym is)

-- they are among all
pub rows_among : (handlers : List (List Handler)) (place : ℕ) (own : List Handler) → own ≡ get_or handlers place own → place < length handlers
    → row_count (take place handlers) + length own ≤ row_count handlers
rows_among handlers place own is there = subst (λ (h : List Handler). row_count (take place handlers) + length h ≤ row_count handlers) (sym is) (sum_by_more_le length handlers place own there)

-- the lines of nodes in two parts
lines_from-append : (names names_then : List (List ℕ)) (files files_then : List (List (List ℕ))) (counts : ℕ → MeterRow) (number : ℕ) (handlers handlers_then : List (List Handler))
    → length names ≡ length handlers → length files ≡ length handlers
    → lines_from (names ++ names_then) (files ++ files_then) counts number (handlers ++ handlers_then)
    ≡ lines_from names files counts number handlers ++ lines_from names_then files_then counts (number + row_count handlers) handlers_then
lines_from-append [] names_then [] files_then counts number [] handlers_then n f = ap (λ k. lines_from names_then files_then counts k handlers_then) (omega arith)
lines_from-append (name ∷ names) names_then (own_files ∷ files) files_then counts number (own ∷ handlers) handlers_then n f =
    let count : (number + length own) + row_count handlers ≡ number + row_count (own ∷ handlers) = omega (arith, sum_by-cons length own handlers) in
    ap (λ (zs : List ℕ). handler_lines name own_files counts number own ++ zs)
    (lines_from-append names names_then files files_then counts (number + length own) handlers handlers_then (omega (arith, n)) (omega (arith, f))
    ∙ ap (λ k. lines_from names files counts (number + length own) handlers ++ lines_from names_then files_then counts k handlers_then) count)
    ∙ sym (append_assoc (handler_lines name own_files counts number own) (lines_from names files counts (number + length own) handlers) (lines_from names_then files_then counts (number + row_count (own ∷ handlers)) handlers_then))
lines_from-append [] names_then [] files_then counts number (own ∷ handlers) handlers_then n f = absurd (omega (arith, n))
lines_from-append [] names_then (own_files ∷ files) files_then counts number [] handlers_then n f = absurd (omega (arith, f))
lines_from-append [] names_then (own_files ∷ files) files_then counts number (own ∷ handlers) handlers_then n f = absurd (omega (arith, n))
lines_from-append (name ∷ names) names_then files files_then counts number [] handlers_then n f = absurd (omega (arith, n))
lines_from-append (name ∷ names) names_then [] files_then counts number (own ∷ handlers) handlers_then n f = absurd (omega (arith, f))

-- a list is its beginning, the member at a place, and what is behind it
cut_at : {A : Type 0} (xs : List A) (place : ℕ) (x : A) → x ≡ get_or xs place x → place < length xs → xs ≡ take place xs ++ (x ∷ drop (suc place) xs)
cut_at xs place x is there =
    sym (take-append-drop place xs) ∙ ap (λ zs. take place xs ++ zs) (drop-cons xs place x there ∙ ap (λ y. y ∷ drop (suc place) xs) (sym is))

-- a beginning with one member more
one_more : {A : Type 0} (xs : List A) (place : ℕ) (x : A) → x ≡ get_or xs place x → place < length xs → take (place + 1) xs ≡ take place xs ++ (x ∷ [])
one_more xs place x is there = ap (λ n. take n xs) (add-one place) ∙ take-suc xs place x there ∙ ap (λ y. take place xs ++ (y ∷ [])) (sym is)

-- a node at a place, with its name and its files
pub record StandsAt (names : List (List ℕ)) (files : List (List (List ℕ))) (handlers : List (List Handler)) (place : ℕ) (name : List ℕ) (own_files : List (List ℕ)) (own : List Handler) : Type 0 where
  pub name_is : name ≡ get_or names place name
  pub files_are : own_files ≡ get_or files place own_files
  pub own_are : own ≡ get_or handlers place own
  pub as_many_names : length names ≡ length handlers
  pub as_many_files : length files ≡ length handlers
  pub there : place < length handlers

module _ (names : List (List ℕ)) (files : List (List (List ℕ))) (counts : ℕ → MeterRow) (handlers : List (List Handler)) (place : ℕ) (name : List ℕ) (own_files : List (List ℕ)) (own : List Handler)
    (at : StandsAt names files handlers place name own_files own) where
  -- the lines of the nodes before a place
  abbrev lines_before : List ℕ
  lines_before = lines_from (take place names) (take place files) counts 0 (take place handlers)

  -- those of the node at the place
  abbrev lines_here : List ℕ
  lines_here = handler_lines name own_files counts (row_count (take place handlers)) own

  split : (names_then : List (List ℕ)) (files_then : List (List (List ℕ))) (handlers_then : List (List Handler))
      → lines_from (take place names ++ (name ∷ names_then)) (take place files ++ (own_files ∷ files_then)) counts 0 (take place handlers ++ (own ∷ handlers_then))
      ≡ lines_before ++ (lines_here ++ lines_from names_then files_then counts (row_count (take place handlers) + length own) handlers_then)
  split names_then files_then handlers_then =
      let there = at.there in
      let long_names = at.as_many_names in
      let long_files = at.as_many_files in
      let count : 0 + row_count (take place handlers) ≡ row_count (take place handlers) = omega arith in
      lines_from-append (take place names) (name ∷ names_then) (take place files) (own_files ∷ files_then) counts 0 (take place handlers) (own ∷ handlers_then)
      (length-take-le place names (omega (arith, there, long_names)) ∙ sym (length-take-le place handlers (omega (arith, there))))
      (length-take-le place files (omega (arith, there, long_files)) ∙ sym (length-take-le place handlers (omega (arith, there))))
      ∙ ap (λ k. lines_before ++ (handler_lines name own_files counts k own ++ lines_from names_then files_then counts (k + length own) handlers_then)) count

  -- the lines of one node more
  lines_more : lines_from (take (place + 1) names) (take (place + 1) files) counts 0 (take (place + 1) handlers) ≡ lines_before ++ lines_here
  lines_more =
      let there = at.there in
      let long_names = at.as_many_names in
      let long_files = at.as_many_files in
      ap (λ (ns : List (List ℕ)). lines_from ns (take (place + 1) files) counts 0 (take (place + 1) handlers)) (one_more names place name at.name_is (omega (arith, there, long_names)))
      ∙ ap (λ (fs : List (List (List ℕ))). lines_from (take place names ++ (name ∷ [])) fs counts 0 (take (place + 1) handlers)) (one_more files place own_files at.files_are (omega (arith, there, long_files)))
      ∙ ap (λ (hs : List (List Handler)). lines_from (take place names ++ (name ∷ [])) (take place files ++ (own_files ∷ [])) counts 0 hs) (one_more handlers place own at.own_are there)
      ∙ split [] [] [] ∙ ap (λ (zs : List ℕ). lines_before ++ zs) (append-nil lines_here)

  -- the lines of all nodes
  lines_at : lines_from names files counts 0 handlers
      ≡ lines_before ++ (lines_here ++ lines_from (drop (suc place) names) (drop (suc place) files) counts (row_count (take place handlers) + length own) (drop (suc place) handlers))
  lines_at =
      let there = at.there in
      let long_names = at.as_many_names in
      let long_files = at.as_many_files in
      ap (λ (ns : List (List ℕ)). lines_from ns files counts 0 handlers) (cut_at names place name at.name_is (omega (arith, there, long_names)))
      ∙ ap (λ (fs : List (List (List ℕ))). lines_from (take place names ++ (name ∷ drop (suc place) names)) fs counts 0 handlers) (cut_at files place own_files at.files_are (omega (arith, there, long_files)))
      ∙ ap (λ (hs : List (List Handler)). lines_from (take place names ++ (name ∷ drop (suc place) names)) (take place files ++ (own_files ∷ drop (suc place) files)) counts 0 hs) (cut_at handlers place own at.own_are there)
      ∙ split (drop (suc place) names) (drop (suc place) files) (drop (suc place) handlers)

  -- what was written has grown by the lines of one node more
  pub grows_by_node : (a b c : Option (List ℕ)) (number : ℕ) → number ≡ row_count (take place handlers) → GrowsBy a b lines_before → GrowsBy b c (handler_lines name own_files counts number own)
      → GrowsBy a c (lines_from (take (place + 1) names) (take (place + 1) files) counts 0 (take (place + 1) handlers))
  grows_by_node a b c number is first second =
      grows_same a c (sym lines_more) (grows_more a b c lines_before lines_here first (subst (λ k. GrowsBy b c (handler_lines name own_files counts k own)) is second))

  -- it has grown by the lines of the first nodes and the beginning of those of the next
  pub begins_by_node : (a b c : Option (List ℕ)) (number : ℕ) → number ≡ row_count (take place handlers) → GrowsBy a b lines_before → GrowsByPrefix b c (handler_lines name own_files counts number own)
      → GrowsByPrefix a c (lines_from names files counts 0 handlers)
  begins_by_node a b c number is first second =
      begins_more a b c lines_before lines_here (lines_from names files counts 0 handlers)
      (lines_from (drop (suc place) names) (drop (suc place) files) counts (row_count (take place handlers) + length own) (drop (suc place) handlers))
      first (subst (λ k. GrowsByPrefix b c (handler_lines name own_files counts k own)) is second) lines_at
