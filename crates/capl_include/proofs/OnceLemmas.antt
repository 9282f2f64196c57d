-- That no file is appended for the second time.
use Rattle.std.proofs.Common.{◌≡◌, ◌≢◌, ◌+◌, ℕ, zero, suc, Bool, true, false, List, [], ◌∷◌, ◌++◌, length, get_or, All, refl, sym, ap, subst, ◌∙◌, arith, append_assoc, append-nil, length-append}
use Rattle.std.specs.Prelude.{◌||◌}
use Rattle.std.specs.List.{AllPairs, list_any}
use Rattle.std.specs.Str.{bytes_eq}
use Rattle.std.proofs.lemmas.List.Elements.{All-append, All-cons, All-nil, All-weaker}
use Rattle.std.proofs.lemmas.List.Folds.{list_any-append}
use Rattle.std.proofs.lemmas.List.Kept.{AllPairs-cons}
use Rattle.std.proofs.lemmas.List.Quantifiers.{all_pairs_push}
use Rattle.std.proofs.lemmas.Slice.Eq.{bytes_eq-Decides}
use Rattle.capl_lexer.specs.declared.token.Token.{Token}
use Rattle.capl_include.specs.Answer.{HaveDifferentNames}
use Rattle.capl_include.specs.Expansion.{Expansion, meeting}
use Rattle.capl_include.specs.Inside.Step.{has_met}
use Rattle.capl_include.specs.Inside.Once.{GoesOnce, ReadsEach}
use Rattle.texts.specs.Fault.{raised, raised_by}
use Rattle.capl_include.specs.declared.expanded.SourceFile.{SourceFile}

or_true : (a b : Bool) → a ≡ true → (a || b) ≡ true
or_true true b is = refl
or_true false b is = cc

or_last : (a b : Bool) → b ≡ true → (a || b) ≡ true
or_last true b is = refl
or_last false b is = is

-- what was met still is
pub met_more : (met : List (List ℕ)) (name other : List ℕ) → has_met met other ≡ true → has_met (met ++ name ∷ []) other ≡ true
met_more met name other is =
    list_any-append (λ n. bytes_eq n other) met (name ∷ [])
    ∙ or_true (has_met met other) (list_any (λ n. bytes_eq n other) (name ∷ [])) is

-- what is met was met
pub met_itself : (met : List (List ℕ)) (name : List ℕ) → has_met (met ++ name ∷ []) name ≡ true
met_itself met name =
    list_any-append (λ n. bytes_eq n name) met (name ∷ [])
    ∙ or_last (has_met met name) (list_any (λ n. bytes_eq n name) (name ∷ [])) (or_true (bytes_eq name name) false ((bytes_eq-Decides name name).1 refl))

-- where a test that holds goes on to hold, one that does not hold did not hold before
before_false : (b c : Bool) → (b ≡ true → c ≡ true) → c ≡ false → b ≡ false
before_false true c keeps is = let now = keeps refl in cc
before_false false c keeps is = refl

all_pairs_append : {X : Type 0} (R : X → X → Type 0) (xs ys : List X) → AllPairs R xs → AllPairs R ys
    → All (λ x. All (R x) ys) xs → AllPairs R (xs ++ ys)
all_pairs_append R [] ys first second cross = second
all_pairs_append R (x ∷ xs) ys first second cross =
    AllPairs-cons R x (xs ++ ys)
    (All-append (R x) xs ys (λ k d below. first 0 (suc k) d (omega arith) (omega arith)) (cross 0 x (omega arith)))
    (all_pairs_append R xs ys (λ i j d less within. first (suc i) (suc j) d (omega arith) (omega arith)) second
    (λ k d below. cross (suc k) d (omega arith)))

-- files that are met and files that were not have different names
met_and_new : (met : List (List ℕ)) (one other : SourceFile) → has_met met one.name ≡ true → has_met met other.name ≡ false
    → one.name ≢ other.name
met_and_new met one other is not_met same = let also = ap (has_met met) same in let wrong : true ≡ false = sym is ∙ also ∙ not_met in cc

-- nothing is done
pub once_nothing : (old new : Expansion) → new ≡ old → GoesOnce old new
once_nothing old new is = record {
  keeps = λ name met. subst (λ (e : Expansion). has_met e.met name ≡ true) (sym is) met;
  more = [];
  files = ap (λ (e : Expansion). e.files) is ∙ sym (append-nil old.files);
  were_new = λ k d below. absurd (omega arith);
  are_met = λ k d below. absurd (omega arith);
  differ = λ i j d less within. absurd (omega arith);
}

-- one part of an expansion, and then another
pub once_then : (old between new : Expansion) → GoesOnce old between → GoesOnce between new → GoesOnce old new
once_then old between new first second = record {
  keeps = λ name met. second.keeps name (first.keeps name met);
  more = first.more ++ second.more;
  files = second.files ∙ ap (λ f. f ++ second.more) first.files ∙ append_assoc old.files first.more second.more;
  were_new = All-append (λ (file : SourceFile). has_met old.met file.name ≡ false) first.more second.more first.were_new
      (All-weaker (λ (file : SourceFile). has_met between.met file.name ≡ false) (λ (file : SourceFile). has_met old.met file.name ≡ false)
      (λ file not_met. before_false (has_met old.met file.name) (has_met between.met file.name) (first.keeps file.name) not_met) second.more second.were_new);
  are_met = All-append (λ (file : SourceFile). has_met new.met file.name ≡ true) first.more second.more
      (All-weaker (λ (file : SourceFile). has_met between.met file.name ≡ true) (λ (file : SourceFile). has_met new.met file.name ≡ true)
      (λ file met. second.keeps file.name met) first.more first.are_met)
      second.are_met;
  differ = all_pairs_append (λ (one other : SourceFile). one.name ≢ other.name) first.more second.more first.differ second.differ
      (λ k d below l e beyond. met_and_new between.met (get_or first.more k d) (get_or second.more l e) (first.are_met k d below) (second.were_new l e beyond));
}

-- a file that was not met is met, others are visited, and it is appended
pub once_visit : (name : List ℕ) (tokens : List Token) (old at new : Expansion) (file : SourceFile) → has_met old.met name ≡ false
    → file.name ≡ name → GoesOnce (meeting name tokens old) at
    → new ≡ record { met = at.met; count = at.count; files = at.files ++ file ∷ [] } → GoesOnce old new
once_visit name tokens old at new file not_met named inside is =
    subst (GoesOnce old) (sym is)
    record {
      keeps = λ other met. inside.keeps other (met_more old.met name other met);
      more = inside.more ++ file ∷ [];
      files = ap (λ f. f ++ file ∷ []) inside.files ∙ append_assoc old.files inside.more (file ∷ []);
      were_new = All-append (λ (f : SourceFile). has_met old.met f.name ≡ false) inside.more (file ∷ [])
          (All-weaker (λ (f : SourceFile). has_met (old.met ++ name ∷ []) f.name ≡ false) (λ (f : SourceFile). has_met old.met f.name ≡ false)
          (λ f other. before_false (has_met old.met f.name) (has_met (old.met ++ name ∷ []) f.name) (met_more old.met name f.name) other)
          inside.more inside.were_new)
          (All-cons (λ (f : SourceFile). has_met old.met f.name ≡ false) file [] (ap (has_met old.met) named ∙ not_met) (All-nil (λ (f : SourceFile). has_met old.met f.name ≡ false)));
      are_met = All-append (λ (f : SourceFile). has_met at.met f.name ≡ true) inside.more (file ∷ []) inside.are_met
          (All-cons (λ (f : SourceFile). has_met at.met f.name ≡ true) file []
          (ap (has_met at.met) named ∙ inside.keeps name (met_itself old.met name)) (All-nil (λ (f : SourceFile). has_met at.met f.name ≡ true)));
      differ = all_pairs_push (λ (one other : SourceFile). one.name ≢ other.name) inside.more file inside.differ
          (λ k d below same.
          let before : has_met (old.met ++ name ∷ []) (get_or inside.more k d).name ≡ true =
          ap (has_met (old.met ++ name ∷ [])) (same ∙ named) ∙ met_itself old.met name in
          let wrong : true ≡ false = sym before ∙ inside.were_new k d below in cc);
    }

-- from nothing on, no two files have one name
pub once_all : (old new : Expansion) → old.files ≡ [] → GoesOnce old new → HaveDifferentNames new.files
once_all old new none goes =
    subst HaveDifferentNames (sym (goes.files ∙ ap (λ f. f ++ goes.more) none)) goes.differ

-- a count that was raised some times and then others was raised as many times as both
pub raised_again : (m n count : ℕ) → raised_by m (raised_by n count) ≡ raised_by (m + n) count
raised_again zero n count = ap (λ k. raised_by k count) (let same : n ≡ zero + n = omega arith in same)
raised_again (suc m) n count =
    ap raised (raised_again m n count) ∙ ap (λ k. raised_by k count) (let same : suc (m + n) ≡ suc m + n = omega arith in same)

-- one read, and nothing was appended
pub reads_first : (before after : ℕ) (old new : Expansion) → after ≡ raised before → new.files ≡ old.files → ReadsEach 1 before after old new
reads_first before after old new is same = record {
  appended = 0;
  files = ap length same ∙ (omega arith);
  reads = is;
}

-- some reads, and then as many as files were appended
pub reads_then : (more a b c : ℕ) (old between new : Expansion) → ReadsEach more a b old between → ReadsEach 0 b c between new
    → ReadsEach more a c old new
reads_then more a b c old between new first second = record {
  appended = first.appended + second.appended;
  files = omega (arith, first.files, second.files);
  reads =
      second.reads ∙ ap (raised_by (0 + second.appended)) first.reads ∙ raised_again (0 + second.appended) (more + first.appended) a
      ∙ ap (λ n. raised_by n a) (let sum : 0 + second.appended + (more + first.appended) ≡ more + (first.appended + second.appended) = omega arith in sum);
}

-- one read more than files were appended, and one file more is appended
pub reads_visit : (a b : ℕ) (old at new : Expansion) (file : SourceFile) → ReadsEach 1 a b old at → new.files ≡ at.files ++ file ∷ []
    → ReadsEach 0 a b old new
reads_visit a b old at new file inside is = record {
  appended = suc inside.appended;
  files = omega (arith, inside.files, ap length is, length-append at.files (file ∷ []));
  reads = inside.reads ∙ ap (λ n. raised_by n a) (let same : 1 + inside.appended ≡ 0 + suc inside.appended = omega arith in same);
}

-- the same, by other names for what there is afterwards
pub reads_same : (more a b c : ℕ) (old new other : Expansion) → c ≡ b → other ≡ new → ReadsEach more a b old new → ReadsEach more a c old other
reads_same more a b c old new other count is goes =
    subst (λ n. ReadsEach more a n old other) (sym count) (subst (λ e. ReadsEach more a b old e) (sym is) goes)

-- from nothing on, there were as many reads as there are files
pub reads_all : (a b : ℕ) (old new : Expansion) → old.files ≡ [] → ReadsEach 0 a b old new → b ≡ raised_by (length new.files) a
reads_all a b old new none goes =
    goes.reads ∙ ap (λ n. raised_by n a) (let same : 0 + goes.appended ≡ length new.files = omega (arith, goes.files, ap length none) in same)
