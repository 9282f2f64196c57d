-- Notes that stand last, and what is left of them.
use Rattle.std.specs.Prelude.{◌≡◌, ℕ, ◌+◌, ◌<◌, ◌≤◌, ◌==◌, List, [], ◌∷◌, ◌++◌, length, drop, take, sum, sum_by, count_by, is_some, Option}
use Rattle.std.proofs.Common.{ap, sym, ◌∙◌, arith, append_assoc, get_or}
use Rattle.std.proofs.lemmas.List.{get_or-take, length-take-le}
use Rattle.std.proofs.lemmas.List.Sums.{sum_by-cons}
use Rattle.typed_tree.specs.declared.program.Typed.{Typed}
use Rattle.typed_tree.specs.declared.statement.TArm.{TArm}
use Rattle.typed_tree.specs.declared.statement.TGroup.{TGroup}
use Rattle.typed_tree.specs.declared.statement.TStmt.{TStmt}
use Rattle.typed_tree.specs.declared.statement.TStmt.TheVariants as stmt
use Rattle.typed_tree.specs.declared.expression.TExpr.{TExpr}
use Rattle.typed_tree.specs.Size.{stmt_size}
use Rattle.code_size.specs.declared.extent.Extent.{Extent}
use Rattle.code_size.specs.Notes.{all_notes, arms_notes_of, extent_of, going_on, group_notes, groups_notes_of, inside_notes, notes_of, part_notes_of}
use Rattle.code_size.specs.Rows.{case_count_of, group_sizes_of, kept_if, labels_of_groups, part_size_of}
use Rattle.code_size.proofs.Notes.{for_notes}
use Rattle.code_size.proofs.Steps.{drop_next, is_nil-drop, sizes_here}

-- the first statements from one on
pub first_here : (all : List TStmt) (count i : ℕ) (s : TStmt) → count ≤ length all → i < count → s ≡ get_or all i s →
    drop i (take count all) ≡ s ∷ drop (i + 1) (take count all)
first_here all count i s within before is =
    let long = length-take-le count all within in
    drop_next (take count all) i s (omega (arith, before, long)) (is ∙ sym (get_or-take count all i s before))

-- the notes of a statement, its extent apart
pub apart : (n before behind inside : List Extent) (e : Extent) → n ≡ before ++ (behind ++ (inside ++ e ∷ [])) →
    n ≡ before ++ behind ++ inside ++ e ∷ []
apart n before behind inside e is = rw is (simp append_assoc)

-- the notes of a statement that stand alone, its extent apart
pub alone : (n before inside : List Extent) (e : Extent) → n ≡ before ++ (inside ++ e ∷ []) → n ≡ before ++ inside ++ e ∷ []
alone n before inside e is = is ∙ sym (append_assoc before inside (e ∷ []))

-- the notes of what is in a loop without parts, the extent of its body apart
pub body_noted : (typed : Typed) (s body : TStmt) (n before : List Extent) → inside_notes typed s ≡ notes_of typed body →
    n ≡ before ++ inside_notes typed s → n ≡ before ++ inside_notes typed body ++ extent_of typed body ∷ []
body_noted typed s body n before is noted =
    alone n before (inside_notes typed body) (extent_of typed body) (noted ∙ ap (λ l. before ++ l) is)

-- the notes of what is in a `for`, part by part
pub for_noted : (typed : Typed) (s : TStmt) (init : Option TStmt) (test : Option TExpr) (step : Option TStmt) (body : TStmt)
    (n before : List Extent) → s ≡ stmt.For init test step body → n ≡ before ++ inside_notes typed s →
    n ≡ before ++ part_notes_of typed step ++ notes_of typed body ++ part_notes_of typed init ++ going_on (part_size_of typed step) ∷ []
for_noted typed s init test step body n before is noted =
    let third : List Extent = part_notes_of typed step in
    let first : List Extent = part_notes_of typed init in
    let own : List Extent = going_on (part_size_of typed step) ∷ [] in
    noted ∙ ap (λ l. before ++ l) (for_notes typed s init test step body is) ∙
    sym (append_assoc before third (notes_of typed body ++ (first ++ own))) ∙
    sym (append_assoc (before ++ third) (notes_of typed body) (first ++ own)) ∙
    sym (append_assoc (before ++ third ++ notes_of typed body) first own)

-- the notes of the first statements from one on
pub first_noted : (typed : Typed) (all : List TStmt) (count i : ℕ) (s : TStmt) (n before : List Extent) →
    count ≤ length all → i < count → s ≡ get_or all i s → n ≡ before ++ all_notes typed (drop i (take count all)) →
    n ≡ before ++ all_notes typed (drop (i + 1) (take count all)) ++ inside_notes typed s ++ extent_of typed s ∷ []
first_noted typed all count i s n before within there is noted =
    apart n before (all_notes typed (drop (i + 1) (take count all))) (inside_notes typed s) (extent_of typed s)
    (noted ∙ ap (λ l. before ++ all_notes typed l) (first_here all count i s within there is))

-- the notes of the arms from one on, behind those of what stands behind them
pub arms_noted : (typed : Typed) (arms : List TArm) (i : ℕ) (arm : TArm) (n before : List Extent) →
    i < length arms → arm ≡ get_or arms i arm → n ≡ before ++ arms_notes_of typed (drop i arms) →
    n ≡ before ++ arms_notes_of typed (drop (i + 1) arms) ++ inside_notes typed arm.body ++ extent_of typed arm.body ∷ []
arms_noted typed arms i arm n before within is noted =
    apart n before (arms_notes_of typed (drop (i + 1) arms)) (inside_notes typed arm.body) (extent_of typed arm.body)
    (noted ∙ ap (λ l. before ++ arms_notes_of typed l) (drop_next arms i arm within is))

-- the notes of the groups from one on
pub groups_noted : (typed : Typed) (groups : List TGroup) (i : ℕ) (group : TGroup) (n before : List Extent) →
    i < length groups → group ≡ get_or groups i group → n ≡ before ++ groups_notes_of typed (drop i groups) →
    n ≡ before ++ groups_notes_of typed (drop (i + 1) groups) ++
    group_notes (all_notes typed (kept_if (i + 1 == length groups) group.body))
    (sum_by (stmt_size typed) (kept_if (i + 1 == length groups) group.body))
groups_noted typed groups i group n before within is noted =
    let last = is_nil-drop groups (i + 1) (omega (arith, within)) in
    let behind : List Extent = groups_notes_of typed (drop (i + 1) groups) in
    noted ∙ ap (λ l. before ++ groups_notes_of typed l) (drop_next groups i group within is) ∙
    ap (λ b. before ++ (behind ++ group_notes (all_notes typed (kept_if b group.body)) (sum_by (stmt_size typed) (kept_if b group.body)))) last ∙
    sym (append_assoc before behind _)

-- the sizes of the groups from one on
pub sizes_sum : (typed : Typed) (groups : List TGroup) (i : ℕ) (group : TGroup) → i < length groups → group ≡ get_or groups i group →
    sum (group_sizes_of typed (drop i groups)) ≡
    sum_by (stmt_size typed) (kept_if (i + 1 == length groups) group.body) + sum (group_sizes_of typed (drop (i + 1) groups))
sizes_sum typed groups i group within is =
    ap sum (sizes_here typed groups i group within is) ∙
    sum_by-cons (λ k. k) (sum_by (stmt_size typed) (kept_if (i + 1 == length groups) group.body)) (group_sizes_of typed (drop (i + 1) groups))

-- the cases of the groups from one on
pub cases_here : (groups : List TGroup) (i : ℕ) (group : TGroup) → i < length groups → group ≡ get_or groups i group →
    case_count_of (drop i groups) ≡ count_by is_some group.labels + case_count_of (drop (i + 1) groups)
cases_here groups i group within is =
    ap case_count_of (drop_next groups i group within is) ∙
    sum_by-cons (count_by is_some) group.labels (labels_of_groups (drop (i + 1) groups))
