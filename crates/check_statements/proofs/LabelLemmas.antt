-- What labels say.
use Rattle.std.proofs.Common.{◌≡◌, ◌∷◌, ◌++◌, ◌∙◌, ◌||◌, ℕ, Bool, true, false, cond, List, [], map, Option, Some, None, Ordering, Less, Equal, Greater, ap, refl, sym}
use Rattle.std.specs.Prelude.{ℤ, filter_map, if◌then◌else◌, is_none}
use Rattle.std.specs.BTreeSet.{contains}
use Rattle.std.specs.BTreeMap.{is_at}
use Rattle.std.specs.List.{cons_option, list_any}
use Rattle.std.specs.Option.{option_map}
use Rattle.std.specs.Ordering.{int_cmp, int_eq, is_eq}
use Rattle.std.proofs.lemmas.Bool.Decides.{Decides-int_eq}
use Rattle.std.proofs.lemmas.Cmp.{eq_by_cmp_equiv, int_cmp_total, int_ranked}
use Rattle.int_kinds.specs.Kind.{join}
use Rattle.capl_tree.specs.declared.expr.Expr.{Expr}
use Rattle.capl_tree.specs.declared.statement.Label.{Label}
use Rattle.capl_meaning.specs.declared.sort.Sort.{Sort}
use Rattle.capl_meaning.specs.declared.sort.Sort.TheVariants as sort
use Rattle.capl_meaning.specs.Names.{Scope}
use Rattle.capl_meaning.specs.Sort.{is_number, kind_in}
use Rattle.capl_meaning.specs.ExpressionRules.{offence}
use Rattle.capl_meaning.specs.StatementRules.{label_at, label_of, labels_rule, repeated, same_label}
use Rattle.check_statements.specs.declared.label.Seen.{Seen}
use Rattle.check_statements.specs.Inside.Label.{Has, SaidLabel, label_offence, said_by, same_said, same_saying, saying_of_value}

-- what is the same compares as equal
apart : {m n : ℤ} (r : Ordering) → r ≡ int_cmp m n → n ≡ m → is_eq r ≡ false → ⊥
apart {m} {n} r is same not =
    let itself : is_eq (int_cmp m m) ≡ true = (eq_by_cmp_equiv int_cmp_total).refl m in
    let t : true ≡ false = sym itself ∙ ap (λ k. is_eq (int_cmp m k)) (sym same) ∙ ap is_eq (sym is) ∙ not in absurd (cc)

-- the test of the set is the test of labels
pub same_number : (m n : ℤ) → is_eq (int_cmp m n) ≡ int_eq n m
same_number m n = by (int_cmp m n) refl (int_eq n m) refl
  where
    by : (r : Ordering) → r ≡ int_cmp m n → (b : Bool) → int_eq n m ≡ b → is_eq r ≡ int_eq n m
    by Equal is b test = sym ((Decides-int_eq n m).1 (sym (int_ranked m n Equal is)))
    by Less is true test = absurd (apart Less is ((Decides-int_eq n m).0 test) refl)
    by Less is false test = sym test
    by Greater is true test = absurd (apart Greater is ((Decides-int_eq n m).0 test) refl)
    by Greater is false test = sym test

-- one more number
pub more_number : (old new : Seen) (earlier : List SaidLabel) (said : SaidLabel) (n : ℤ) → said.saying ≡ Some (Some n) → Has old earlier
    → new.default ≡ old.default
    → ((q : ℤ) → contains int_cmp new.numbers q ≡ cond (is_eq (int_cmp n q)) true (contains int_cmp old.numbers q))
    → Has new (said ∷ earlier)
more_number old new earlier said n is has default numbers = record {
  numbers = λ q.
      numbers q ∙ by (is_eq (int_cmp n q)) (contains int_cmp old.numbers q)
      ∙ ap (λ (b : Bool). b || contains int_cmp old.numbers q) (same_number n q)
      ∙ ap (λ (b : Bool). int_eq q n || b) (has.numbers q)
      ∙ ap (λ (s : Option (Option ℤ)). same_saying (Some (Some q)) s || list_any (λ (t : SaidLabel). same_saying (Some (Some q)) t.saying) earlier) (sym is);
  default =
      default ∙ has.default
      ∙ ap (λ (s : Option (Option ℤ)). same_saying (Some None) s || list_any (λ (t : SaidLabel). same_saying (Some None) t.saying) earlier) (sym is);
}
  where
    by : (a b : Bool) → cond a true b ≡ (a || b)
    by true b = refl
    by false b = refl

-- one more `default`
pub more_default : (old new : Seen) (earlier : List SaidLabel) (said : SaidLabel) → said.saying ≡ Some None → Has old earlier
    → new.default ≡ true → new.numbers ≡ old.numbers → Has new (said ∷ earlier)
more_default old new earlier said is has default numbers = record {
  numbers = λ q.
      ap (λ s. contains int_cmp s q) numbers ∙ has.numbers q
      ∙ ap (λ (s : Option (Option ℤ)). same_saying (Some (Some q)) s || list_any (λ (t : SaidLabel). same_saying (Some (Some q)) t.saying) earlier) (sym is);
  default =
      default
      ∙ ap (λ (s : Option (Option ℤ)). same_saying (Some None) s || list_any (λ (t : SaidLabel). same_saying (Some None) t.saying) earlier) (sym is);
}

-- one more label that says nothing
pub more_unclear : (old : Seen) (earlier : List SaidLabel) (said : SaidLabel) → said.saying ≡ None → Has old earlier → Has old (said ∷ earlier)
more_unclear old earlier said is has = record {
  numbers = λ q.
      has.numbers q
      ∙ ap (λ (s : Option (Option ℤ)). same_saying (Some (Some q)) s || list_any (λ (t : SaidLabel). same_saying (Some (Some q)) t.saying) earlier) (sym is);
  default =
      has.default
      ∙ ap (λ (s : Option (Option ℤ)). same_saying (Some None) s || list_any (λ (t : SaidLabel). same_saying (Some None) t.saying) earlier) (sym is);
}

-- ---- the rule of labels, by what they say

-- the label that is said, with its token
abbrev label_said : SaidLabel → Option (ℕ × Option ℤ)
label_said said = option_map (λ (l : Option ℤ). (said.at, l)) said.saying

-- a label says itself
says : (s : Scope) (on : Sort) (at : ℕ) (value : Option Expr)
    → saying_of_value s at on value ≡ (if is_number on || is_none value then label_of s (join (kind_in on) (kind_in on)) at value else None)
says s (sort.Number k) at None = refl
says s (sort.Number k) at (Some e) = refl
says s other at None = refl
says s other at (Some e) = refl

-- a label is the same as an earlier one
any_said : (l : Option ℤ) (earlier : List SaidLabel)
    → list_any (λ (t : SaidLabel). same_saying (Some l) t.saying) earlier ≡ list_any (λ (p : ℕ × Option ℤ). same_label l p.1) (filter_map label_said earlier)
any_said l [] = refl
any_said l (t ∷ rest) = by t.saying (any_said l rest)
  where
    by : (o : Option (Option ℤ))
        → list_any (λ (t : SaidLabel). same_saying (Some l) t.saying) rest ≡ list_any (λ (p : ℕ × Option ℤ). same_label l p.1) (filter_map label_said rest)
        → same_saying (Some l) o || list_any (λ (t : SaidLabel). same_saying (Some l) t.saying) rest
        ≡ list_any (λ (p : ℕ × Option ℤ). same_label l p.1) (cons_option (option_map (λ (m : Option ℤ). (t.at, m)) o) (filter_map label_said rest))
    by None h = h
    by (Some m) h = ap (λ (b : Bool). same_label l m || b) h

none_said : (earlier : List SaidLabel) → list_any (λ (t : SaidLabel). same_saying None t.saying) earlier ≡ false
none_said [] = refl
none_said (t ∷ rest) = none_said rest

-- what is said a second time is a label that there is a second time
repeated_said : (s : Scope) (earlier all : List SaidLabel) → map (label_offence s) (repeated same_said earlier all)
    ≡ map (λ (p : ℕ × Option ℤ). offence s p.0 20) (repeated (λ (a b : ℕ × Option ℤ). same_label a.1 b.1) (filter_map label_said earlier) (filter_map label_said all))
repeated_said s earlier [] = refl
repeated_said s earlier (x ∷ rest) = by x.saying (repeated same_said (x ∷ earlier) rest) (repeated_said s (x ∷ earlier) rest)
  where
    by : (o : Option (Option ℤ)) (others : List SaidLabel)
        → map (label_offence s) others ≡ map (λ (p : ℕ × Option ℤ). offence s p.0 20) (repeated (λ (a b : ℕ × Option ℤ). same_label a.1 b.1)
        (cons_option (option_map (λ (m : Option ℤ). (x.at, m)) o) (filter_map label_said earlier)) (filter_map label_said rest))
        → map (label_offence s) ((if list_any (λ (t : SaidLabel). same_saying o t.saying) earlier then x ∷ [] else []) ++ others)
        ≡ map (λ (p : ℕ × Option ℤ). offence s p.0 20) (repeated (λ (a b : ℕ × Option ℤ). same_label a.1 b.1)
        (filter_map label_said earlier) (cons_option (option_map (λ (m : Option ℤ). (x.at, m)) o) (filter_map label_said rest)))
    by None others h = ap (λ (b : Bool). map (label_offence s) ((if b then x ∷ [] else []) ++ others)) (none_said earlier) ∙ h
    by (Some l) others h =
        ap (λ (b : Bool). map (label_offence s) ((if b then x ∷ [] else []) ++ others)) (any_said l earlier)
        ∙ either (list_any (λ (p : ℕ × Option ℤ). same_label l p.1) (filter_map label_said earlier))
      where
        either : (b : Bool) → map (label_offence s) ((if b then x ∷ [] else []) ++ others)
            ≡ map (λ (p : ℕ × Option ℤ). offence s p.0 20) ((if b then (x.at, l) ∷ [] else [])
            ++ repeated (λ (a b : ℕ × Option ℤ). same_label a.1 b.1) ((x.at, l) ∷ filter_map label_said earlier) (filter_map label_said rest))
        either true = ap (λ os. offence s x.at 20 ∷ os) h
        either false = h

labels_said_at : (s : Scope) (on : Sort) (labels : List Label) → filter_map label_said (map (said_by s on) labels) ≡ filter_map (label_at s on) labels
labels_said_at s on [] = refl
labels_said_at s on (label ∷ rest) =
    ap (λ (o : Option (Option ℤ)). cons_option (option_map (λ (m : Option ℤ). (label.at, m)) o) (filter_map label_said (map (said_by s on) rest))) (says s on label.at label.value)
    ∙ ap (λ l. cons_option (label_at s on label) l) (labels_said_at s on rest)

-- the rule of labels is that of what they say
pub said_rule : (s : Scope) (on : Sort) (labels : List Label) → map (label_offence s) (repeated same_said [] (map (said_by s on) labels)) ≡ labels_rule s on labels
said_rule s on labels =
    repeated_said s [] (map (said_by s on) labels)
    ∙ ap (λ l. map (λ (p : ℕ × Option ℤ). offence s p.0 20) (repeated (λ (a b : ℕ × Option ℤ). same_label a.1 b.1) [] l)) (labels_said_at s on labels)
