-- The labels of a `switch` that breaks no rule differ, and each is a number of its kind.
use mathlib.Core.Former.{Count}
use Rattle.std.proofs.Common.{◌≡◌, ◌≢◌, ℕ, suc, ◌+◌, ◌≤◌, ◌<◌, ◌^◌, Bool, true, false, List, [], ◌∷◌, ◌++◌, length, Option, Some, None, refl, sym, ap, ◌∙◌, subst, arith}
use Rattle.std.specs.Prelude.{⊤, ℤ, All, AllPairs, IfSome, filter_map, flat_map}
use Rattle.std.specs.List.{AllByRecursion, cons_option}
use Rattle.std.specs.Option.{option_map}
use Rattle.std.specs.Ordering.{int_eq}
use Rattle.std.proofs.lemmas.Bool.Decides.{Decides-int_eq}
use Rattle.std.proofs.lemmas.List.Elements.{All-from_recursion, filter_map-append}
use Rattle.int_kinds.specs.declared.kinds.Kind.{Kind}
use Rattle.int_kinds.specs.Kind.{IsNumber, join, wrap}
use Rattle.int_kinds.proofs.Values.{IsNumber-wrap}
use Rattle.capl_tree.specs.declared.expr.Expr.{Expr}
use Rattle.capl_tree.specs.declared.statement.Stmt.TheBlock.{Row_of-Group, end_of-Group, more_of-Group, items-the_row-Group}
use Rattle.capl_tree.specs.declared.statement.Label.{Label}
use Rattle.typed_tree.specs.SoundStatement.{all_labels}
use Rattle.typed_tree.specs.Statement as typed
use Rattle.capl_meaning.specs.declared.sort.Sort.{Sort}
use Rattle.capl_meaning.specs.declared.sort.Sort.TheVariants as sort
use Rattle.capl_meaning.specs.Names.{Scope}
use Rattle.capl_meaning.specs.Constant.{constant_at}
use Rattle.capl_meaning.specs.StatementRules.{label_at, label_of, labels_said, labels_rule, repeated, same_label}
use Rattle.typed_source.specs.Statement.{formats_of_row, groups_of}
use Rattle.sound_programs.specs.Small.{AreSmallGroups}
use Rattle.sound_programs.proofs.Empty.{unmapped}
use Rattle.sound_programs.proofs.Repeated.{Apart, kept_apart, not_repeated, pairs}

-- ---- labels that are apart

-- the labels of those with tokens
abbrev labels_by : List (ℕ × Option ℤ) → List (Option ℤ)
labels_by all = filter_map (λ (said : ℕ × Option ℤ). Some said.1) all

-- two labels that are not the same differ
differ : (a b m n : Option ℤ) → same_label b a ≡ false → Some a ≡ Some m → Some b ≡ Some n → m ≢ n
differ None None m n apart one other same = let f : true ≡ false = apart in cc
differ None (Some q) m n apart one other same = let f : Some None ≡ Some m = one in let g : Some (Some q) ≡ Some n = other in cc
differ (Some p) None m n apart one other same = let f : Some (Some p) ≡ Some m = one in let g : Some None ≡ Some n = other in cc
differ (Some p) (Some q) m n apart one other same =
    let f : Some (Some p) ≡ Some m = one in
    let g : Some (Some q) ≡ Some n = other in
    let equal : q ≡ p = cc in
    let h : int_eq q p ≡ true = (Decides-int_eq q p).1 equal in
    let e : true ≡ false = sym h ∙ apart in cc

labels_apart : (all : List (ℕ × Option ℤ)) → Apart (λ (x y : ℕ × Option ℤ). same_label y.1 x.1 ≡ false) all → Apart (λ m n. m ≢ n) (labels_by all)
labels_apart all apart =
    kept_apart (λ (said : ℕ × Option ℤ). Some said.1) (λ (x y : ℕ × Option ℤ). same_label y.1 x.1 ≡ false) (λ m n. m ≢ n) (λ x y m n far one other. differ x.1 y.1 m n far one other) all apart

module _ (s : Scope) where
  -- the labels of all groups in a kind
  abbrev labels_in : Kind → List Label → List (Option ℤ)
  labels_in k labels = filter_map (λ (label : Label). label_of s k label.at label.value) labels

  -- they are those with their tokens, where a number is compared
  all_say : (k : Kind) (labels : List Label) → labels_in (join k k) labels ≡ labels_by (filter_map (label_at s (sort.Number k)) labels)
  all_say k [] = refl
  all_say k (label ∷ rest) = go (label_of s (join k k) label.at label.value) (all_say k rest)
    where
      go : (o : Option (Option ℤ)) → labels_in (join k k) rest ≡ labels_by (filter_map (label_at s (sort.Number k)) rest)
          → cons_option o (labels_in (join k k) rest) ≡ labels_by (cons_option (option_map (λ said. (label.at, said)) o) (filter_map (label_at s (sort.Number k)) rest))
      go None h = h
      go (Some said) h = ap (λ l. said ∷ l) h

  -- they are the labels of the groups' trees
  gathered : (order : List ℕ) (k : Kind) (before : ℕ) {m : Count} (groups : Row_of-Group m) → all_labels (groups_of s order k before groups) ≡ labels_in k (labels_said groups)
  gathered order k before end_of-Group = refl
  gathered order k before (more_of-Group labels shape body rest) =
      ap (λ l. labels_in k labels ++ l) (gathered order k (before + length (formats_of_row s body)) rest) ∙ sym (filter_map-append (λ (label : Label). label_of s k label.at label.value) labels (labels_said rest))

  -- the labels of a `switch` over a number differ
  pub labels_differ : (order : List ℕ) (k : Kind) (before : ℕ) {m : Count} (groups : Row_of-Group m) → labels_rule s (sort.Number k) (labels_said groups) ≡ [] →
      AllPairs (λ a b. a ≢ b) (all_labels (groups_of s order (join k k) before groups))
  labels_differ order k before groups none =
      let apart = not_repeated (λ (a b : ℕ × Option ℤ). same_label a.1 b.1) (filter_map (label_at s (sort.Number k)) (labels_said groups)) (unmapped _ _ none) in
      subst (λ l. AllPairs (λ a b. a ≢ b) l) (sym (gathered order (join k k) before groups ∙ all_say k (labels_said groups)))
      (pairs (λ a b. a ≢ b) (labels_by (filter_map (label_at s (sort.Number k)) (labels_said groups))) (labels_apart (filter_map (label_at s (sort.Number k)) (labels_said groups)) apart))

  -- and each is a number
  pub labels_in_range : (order : List ℕ) (k : Kind) (before : ℕ) {m : Count} (groups : Row_of-Group m) → All (λ label. IfSome label IsNumber) (all_labels (groups_of s order k before groups))
  labels_in_range order k before groups =
      subst (λ l. All (λ label. IfSome label IsNumber) l) (sym (gathered order k before groups)) (All-from_recursion (λ label. IfSome label IsNumber) _ (each (labels_said groups)))
    where
      one : (at : ℕ) (value : Option Expr) (rest : List (Option ℤ)) → AllByRecursion (λ label. IfSome label IsNumber) rest → AllByRecursion (λ label. IfSome label IsNumber) (cons_option (label_of s k at value) rest)
      one at None rest h = (tt, h)
      one at (Some e) rest h = go (constant_at s at e)
        where
          go : (o : Option ℤ) → AllByRecursion (λ label. IfSome label IsNumber) (cons_option (option_map (λ n. Some (wrap k n)) o) rest)
          go None = h
          go (Some n) = (IsNumber-wrap k n, h)

      each : (labels : List Label) → AllByRecursion (λ label. IfSome label IsNumber) (labels_in k labels)
      each [] = tt
      each (label ∷ rest) = one label.at label.value (labels_in k rest) (each rest)

  -- ---- how many

  few_in : (k : Kind) (labels : List Label) → length (labels_in k labels) ≤ length labels
  few_in k [] = omega arith
  few_in k (label ∷ rest) = go (label_of s k label.at label.value) (few_in k rest)
    where
      go : (o : Option (Option ℤ)) → length (labels_in k rest) ≤ length rest → length (cons_option o (labels_in k rest)) ≤ suc (length rest)
      go None h = omega (arith, h)
      go (Some m) h = omega (arith, h)

  -- as many groups as in the source
  pub as_many_groups : (order : List ℕ) (k : Kind) (before : ℕ) {m : Count} (groups : Row_of-Group m) → length (typed.labels_of (groups_of s order k before groups)) ≡ length (items-the_row-Group m groups)
  as_many_groups order k before end_of-Group = refl
  as_many_groups order k before (more_of-Group labels shape body rest) = ap suc (as_many_groups order k (before + length (formats_of_row s body)) rest)

  -- and no more labels
  pub few_labels : (order : List ℕ) (k : Kind) (before : ℕ) {m : Count} (groups : Row_of-Group m) → AreSmallGroups groups → All (λ labels. length labels < 2 ^ 32) (typed.labels_of (groups_of s order k before groups))
  few_labels order k before groups few = All-from_recursion (λ labels. length labels < 2 ^ 32) _ (each before groups few)
    where
      each : (before : ℕ) {m : Count} (groups : Row_of-Group m) → AreSmallGroups groups → AllByRecursion (λ labels. length labels < 2 ^ 32) (typed.labels_of (groups_of s order k before groups))
      each before end_of-Group few = tt
      each before (more_of-Group labels shape body rest) few =
          (let most : length (labels_in k labels) ≤ length labels = few_in k labels in let short : length labels < 2 ^ 32 = few.0 in omega (arith, most, short), each (before + length (formats_of_row s body)) rest few.3)
