-- What a statement holds as a row of a tree, and as a list: sound in the one way where it is in the other.
use mathlib.Core.Former.{Count}
use Rattle.std.specs.Prelude.{◌≡◌, ◌≢◌, ℕ, suc, ◌<◌, ◌^◌, ◌↔◌, List, [], ◌∷◌, ◌++◌, length, flat_map, map, Option, None, Some, IfSome, IsSomeAnd, slice_get, All, AllPairs, ℤ}
use Rattle.std.specs.List.{AllByRecursion}
use Rattle.std.proofs.Common.{refl, ap, sym, subst}
use Rattle.std.proofs.lemmas.List.Elements.{All-nil, All-cons, All-head, All-tail}
use Rattle.int_kinds.specs.Kind.{IsNumber}
use Rattle.write_format.specs.Line.{FormatText, numbers_taken}
use Rattle.sound_check.proofs.Loops.{some_within}
use Rattle.typed_tree.specs.declared.statement.TArm.{TArm}
use Rattle.typed_tree.specs.declared.statement.TGroup.{TGroup}
use Rattle.typed_tree.specs.declared.statement.TStmt.{TStmt, Row_of-TStmt, end_of-TStmt, more_of-TStmt, items-the_row-TStmt}
use Rattle.typed_tree.specs.declared.statement.TStmt.TheVariants as stmt
use Rattle.typed_tree.specs.declared.statement.TStmt.TheVariants.{Block', If', Switch'}
use Rattle.typed_tree.specs.declared.statement.TStmt.TheBlock.{Held-TStmt-If-1, Row_of-TArm, end_of-TArm, more_of-TArm, Row_of-TGroup, end_of-TGroup, more_of-TGroup, items-the_row-TArm, items-the_row-TGroup, items_hidden-the_row-TStmt-0, items_shown-the_row-TStmt-0, shown-the_row-TStmt-0, items_hidden-the_row-TArm-1, items_hidden-the_row-TGroup-3}
use Rattle.typed_tree.specs.declared.expression.TExpr.{TExpr}
use Rattle.typed_tree.specs.declared.program.Typed.{Typed}
use Rattle.typed_tree.specs.Forms.{NoPart}
use Rattle.typed_tree.specs.SoundExpression.{IsSoundExpr}
use Rattle.typed_tree.specs.SoundStatement.{AreSoundArms, AreSoundGroups, AreSoundStmts, Around, IsSoundOption, IsSoundPart, IsSoundStmt, all_labels, in_loop, in_switch}
use Rattle.typed_tree.specs.Statement.{labels_of}
use Rattle.sound_check.specs.Rows.{AreFew, IsPlainPartOf, IsSoundArm, IsSoundGroup, IsSoundPartOf, KeepsLabels}

-- a statement that is another is sound where that is
same_sound : (typed : Typed) (around : Around) {s other : TStmt} {A : Type 0} → s ≡ other →
    IsSoundStmt typed around other ↔ A → IsSoundStmt typed around s ↔ A
same_sound typed around {A = A} is sound = subst (λ s. IsSoundStmt typed around s ↔ A) (sym is) sound

-- Statements in a row.

stmts_list : (typed : Typed) (around : Around) (n : Count) (row : Row_of-TStmt n) →
    AreSoundStmts typed around row ↔ AllByRecursion (IsSoundStmt typed around) (items-the_row-TStmt n row)
stmts_list typed around n end_of-TStmt = (λ h. h, λ h. h)
stmts_list typed around n (more_of-TStmt s rest) =
    let tail = stmts_list typed around _ rest in
    (λ h. (h.0, tail.0 h.1), λ h. (h.0, tail.1 h.1))

-- the row of a block
abbrev block_row : TStmt → (n : Count) × Row_of-TStmt n
block_row (Block' _ row) = (_, row)
block_row _ = (_, end_of-TStmt)

-- what is asked of statements in a block, given their list
abbrev BlockAsks : Typed → Around → List TStmt → Type 0
BlockAsks typed around all = (length all < 2 ^ 32) × AllByRecursion (IsSoundStmt typed around) all

-- a block
pub block_sound : (typed : Typed) (around : Around) (s : TStmt) (all : List TStmt) → s ≡ stmt.Block all →
    IsSoundStmt typed around s ↔
    ((length all < 2 ^ 32) × AllByRecursion (IsSoundStmt typed around) all)
block_sound typed around s all is =
    let row = block_row (stmt.Block all) in
    let list = stmts_list typed around row.0 row.1 in
    let P : List TStmt → Type 0 = λ l. IsSoundStmt typed around (stmt.Block all) ↔ BlockAsks typed around l in
    let here : P (items-the_row-TStmt row.0 row.1) = (λ h. (h.0.short_lists, list.0 h.1), λ h. (assumption, list.1 h.1)) in
    same_sound typed around is (subst P (items_hidden-the_row-TStmt-0 all) here)

-- a line that is written: its format is there where it is known how many numbers it takes
pub write_sound : (typed : Typed) (around : Around) (s : TStmt) (format : ℕ) (args : List TExpr) →
    s ≡ stmt.Write format args → IsSoundStmt typed around s ↔
    (IsSomeAnd (slice_get typed.formats format) (λ (format : FormatText). length args ≡ numbers_taken format) ×
    (length args < 2 ^ 32) × AllByRecursion (IsSoundExpr typed around.number) args)
write_sound typed around s format args is = same_sound typed around is (
  λ h. assumption,
  λ h. assumption (some_within (λ (format : FormatText). length args ≡ numbers_taken format) typed.formats format h.0),
)

-- Arms.

arms_list : (typed : Typed) (around : Around) (n : Count) (row : Row_of-TArm n) →
    AreSoundArms typed around row ↔ AllByRecursion (IsSoundArm typed around) (items-the_row-TArm n row)
arms_list typed around n end_of-TArm = (λ h. h, λ h. h)
arms_list typed around n (more_of-TArm test body rest) =
    let tail = arms_list typed around _ rest in
    (λ h. ((h.0, h.1), tail.0 h.2), λ h. (h.0.0, h.0.1, tail.1 h.1))

-- the row of an `if`
abbrev if_row : TStmt → (n : Count) × Row_of-TArm n
if_row (If' _ row _) = (_, row)
if_row _ = (_, end_of-TArm)

-- what an `if` has where no arm is taken
abbrev if_part : TStmt → Held-TStmt-If-1
if_part (If' _ _ part) = part
if_part _ = NoPart

-- it is sound as what was put there
part_sound : (typed : Typed) (around : Around) (arms : List TArm) (part : Option TStmt) →
    IsSoundPart typed around (if_part (stmt.If arms part)) ↔ IsSoundPartOf typed around part
unfolding Rattle.typed_tree.specs.declared.statement.TStmt.TheBlock.hidden-the_row-TArm-1 denote.Hole.Carrier.hidden
part_sound typed around arms None = (λ h. h, λ h. h)
part_sound typed around arms (Some part) = (λ h. h, λ h. h)

-- what is asked of an `if`, given its arms as a list
abbrev IfAsks : Typed → Around → Option TStmt → List TArm → Type 0
IfAsks typed around other arms =
    (length arms < 2 ^ 32) × AllByRecursion (IsSoundArm typed around) arms × IsSoundPartOf typed around other

-- an `if`
pub if_sound : (typed : Typed) (around : Around) (s : TStmt) (arms : List TArm) (other : Option TStmt) →
    s ≡ stmt.If arms other → IsSoundStmt typed around s ↔
    ((length arms < 2 ^ 32) × AllByRecursion (IsSoundArm typed around) arms × IsSoundPartOf typed around other)
unfolding Rattle.typed_tree.specs.declared.statement.TStmt.TheBlock.hidden-the_row-TArm-1 denote.Hole.Carrier.hidden
if_sound typed around s arms other is =
    let row = if_row (stmt.If arms other) in
    let list = arms_list typed around row.0 row.1 in
    let part = part_sound typed around arms other in
    let P : List TArm → Type 0 = λ l. IsSoundStmt typed around (stmt.If arms other) ↔ IfAsks typed around other l in
    let here : P (items-the_row-TArm row.0 row.1) = (
      λ h. (h.0.short_lists, list.0 h.1, part.0 h.2),
      λ h. (assumption, list.1 h.1, part.1 h.2),
    ) in
    same_sound typed around is (subst P (items_hidden-the_row-TArm-1 arms) here)

-- Groups.

-- the labels of each group, and all of them
labels_list : (n : Count) (row : Row_of-TGroup n) →
    labels_of row ≡ map (λ group. group.labels) (items-the_row-TGroup n row)
labels_list n end_of-TGroup = refl
labels_list n (more_of-TGroup labels shape body rest) = ap (λ l. labels ∷ l) (labels_list _ rest)

all_labels_list : (n : Count) (row : Row_of-TGroup n) →
    all_labels row ≡ flat_map (λ group. group.labels) (items-the_row-TGroup n row)
all_labels_list n end_of-TGroup = refl
all_labels_list n (more_of-TGroup labels shape body rest) = ap (λ l. labels ++ l) (all_labels_list _ rest)

groups_list : (typed : Typed) (around : Around) (n : Count) (row : Row_of-TGroup n) →
    AreSoundGroups typed around row ↔ AllByRecursion (IsSoundGroup typed around) (items-the_row-TGroup n row)
groups_list typed around n end_of-TGroup = (λ h. h, λ h. h)
groups_list typed around n (more_of-TGroup labels shape body rest) =
    let tail = groups_list typed around _ rest in
    let list = stmts_list typed around _ body in
    let same : shown-the_row-TStmt-0 shape body ≡ items-the_row-TStmt _ body = items_shown-the_row-TStmt-0 shape body in
    let P : List TStmt → Type 0 = λ l. ((length (items-the_row-TStmt _ body) < 2 ^ 32) × AreSoundStmts typed around body) ↔ BlockAsks typed around l in
    let here : P (shown-the_row-TStmt-0 shape body) = subst P (sym same) (λ h. (h.0, list.0 h.1), λ h. (h.0, list.1 h.1)) in
    (λ h. (here.0 (h.0, h.1), tail.0 h.2), λ h. let body_asked = here.1 h.0 in (body_asked.0, body_asked.1, tail.1 h.1))

-- the row of a `switch`
abbrev switch_row : TStmt → (n : Count) × Row_of-TGroup n
switch_row (Switch' _ _ row) = (_, row)
switch_row _ = (_, end_of-TGroup)

-- a group has few labels
abbrev HasFewLabels : TGroup → Type 0
HasFewLabels group = length group.labels < 2 ^ 32

-- labels are few
abbrev AreFewLabels : List (Option ℤ) → Type 0
AreFewLabels labels = length labels < 2 ^ 32

-- labels of groups are few where the lists of them are
few_lists : (groups : List TGroup) → All AreFewLabels (map (λ group. group.labels) groups) → All HasFewLabels groups
few_lists [] h = All-nil HasFewLabels
few_lists (group ∷ rest) h =
    let labels : List (List (Option ℤ)) = map (λ group. group.labels) rest in
    All-cons HasFewLabels group rest (All-head AreFewLabels group.labels labels h)
    (few_lists rest (All-tail AreFewLabels group.labels labels h))

few_groups : (groups : List TGroup) → All HasFewLabels groups → All AreFewLabels (map (λ group. group.labels) groups)
few_groups [] h = All-nil AreFewLabels
few_groups (group ∷ rest) h =
    let labels : List (List (Option ℤ)) = map (λ group. group.labels) rest in
    All-cons AreFewLabels group.labels labels (All-head HasFewLabels group rest h)
    (few_groups rest (All-tail HasFewLabels group rest h))

length_of_labels : (groups : List TGroup) → length (map (λ group. group.labels) groups) ≡ length groups
length_of_labels [] = refl
length_of_labels (group ∷ rest) = ap (λ n. suc n) (length_of_labels rest)

-- what is asked of a `switch`, given its groups as a list
abbrev SwitchAsks : Typed → Around → TExpr → List TGroup → Type 0
SwitchAsks typed around on groups = KeepsLabels groups × AreFew groups ×
    IsSoundExpr typed around.number on × AllByRecursion (IsSoundGroup typed (in_switch around)) groups

-- a `switch`
pub switch_sound : (typed : Typed) (around : Around) (s : TStmt) (on : TExpr) (groups : List TGroup) →
    s ≡ stmt.Switch on groups → IsSoundStmt typed around s ↔
    (KeepsLabels groups × AreFew groups ×
    IsSoundExpr typed around.number on × AllByRecursion (IsSoundGroup typed (in_switch around)) groups)
switch_sound typed around s on groups is =
    let row = switch_row (stmt.Switch on groups) in
    let list = groups_list typed (in_switch around) row.0 row.1 in
    let items : List TGroup = items-the_row-TGroup row.0 row.1 in
    let labels = all_labels_list row.0 row.1 in
    let of_groups = labels_list row.0 row.1 in
    let Differ : List (Option ℤ) → Type 0 = λ l. AllPairs (λ a b. a ≢ b) l in
    let InRange : List (Option ℤ) → Type 0 = λ l. All (λ label. IfSome label IsNumber) l in
    let Few : List (List (Option ℤ)) → Type 0 = λ l. (length l < 2 ^ 32) × All (λ labels. length labels < 2 ^ 32) l in
    let Short : ℕ → Type 0 = λ n. n < 2 ^ 32 in
    let P : List TGroup → Type 0 = λ l. IsSoundStmt typed around (stmt.Switch on groups) ↔ SwitchAsks typed around on l in
    let here : P items = (
      λ h.
          let few : Few (map (λ group. group.labels) items) = subst Few of_groups h.0.short_lists in (
            record { differ = subst Differ labels h.0.labels_differ; in_range = subst InRange labels h.0.labels_in_range },
            record { here = subst Short (length_of_labels items) few.0; labels = few_lists items few.1 },
            h.1,
            list.0 h.2,
          ),
      λ h. (
        assumption (
          subst Differ (sym labels) h.0.differ,
          subst InRange (sym labels) h.0.in_range,
          subst Few (sym of_groups) (subst Short (sym (length_of_labels items)) h.1.here, few_groups items h.1.labels),
        ),
        h.2,
        list.1 h.3,
      ),
    ) in
    same_sound typed around is (subst P (items_hidden-the_row-TGroup-3 groups) here)

-- Loops.

-- a `for`
pub for_sound : (typed : Typed) (around : Around) (s : TStmt) (init : Option TStmt) (test : Option TExpr)
    (step : Option TStmt) (body : TStmt) → s ≡ stmt.For init test step body → IsSoundStmt typed around s ↔
    (IsPlainPartOf init × IsPlainPartOf step ×
    IsSoundPartOf typed around init × IsSoundOption typed around.number test ×
    IsSoundPartOf typed around step × IsSoundStmt typed (in_loop around) body)
unfolding Rattle.typed_tree.specs.declared.statement.TStmt.TheBlock.hidden-the_row-TStmt-2 denote.Hole.Carrier.hidden
for_sound typed around s None test None body is = same_sound typed around is (λ h. assumption, λ h. assumption)
for_sound typed around s None test (Some step) body is = same_sound typed around is (λ h. assumption, λ h. assumption)
for_sound typed around s (Some init) test None body is = same_sound typed around is (λ h. assumption, λ h. assumption)
for_sound typed around s (Some init) test (Some step) body is = same_sound typed around is (λ h. assumption, λ h. assumption)
