-- What an answer tells, from the visit of the first file.
use Rattle.std.proofs.Common.{◌≡◌, ℕ, List, Result, Ok, Err, sym, subst, arith}
use Rattle.std.specs.Prelude.{IsErrAnd}
use Rattle.capl_include.specs.Expansion.{Contents, Expansion, Outcome, Went, Stopped, nothing_met, file_limit, IsExpansion}
use Rattle.capl_include.specs.Answer.{IsAnswer, IsOnly}
use Rattle.capl_include.specs.Inside.Visit.{IsVisitAt, IsVisitRefusal}
use Rattle.capl_include.specs.declared.expanded.Expanded.{Expanded}
use Rattle.capl_include.specs.declared.refusal.ExpandRefusal.{ExpandRefusal}
use Rattle.capl_include.specs.declared.refusal.ExpandRefusal.TheVariants.{Blamed, Failed, NoMemory}
use Rattle.capl_include.proofs.UniqueLemmas.{visit-unique}

-- the visit of the first file is the expansion
pub expansion_from : (contents : Contents) (name : List ℕ) (old : Expansion) (outcome : Outcome) → old ≡ nothing_met
    → IsVisitAt contents name name old outcome → IsExpansion contents name outcome
expansion_from contents name old outcome is visit =
    subst (λ (o : Expansion). IsVisitAt contents name name o outcome) is visit file_limit (omega arith)

-- a refusal of the visit is that of the expansion
pub refused_answer : (contents : Contents) (name : List ℕ) (old : Expansion) (result : Result Expanded ExpandRefusal) (refusal : ExpandRefusal)
    → old ≡ nothing_met → IsErrAnd result (λ e. e ≡ refusal) → IsVisitRefusal contents name name old refusal → IsAnswer contents name result
refused_answer contents name old (Ok expanded) refusal is passed visit = absurd passed
refused_answer contents name old (Err (Blamed blame)) refusal is passed visit =
    expansion_from contents name old (Stopped blame) is (subst (IsVisitRefusal contents name name old) (sym passed) visit)
refused_answer contents name old (Err Failed) refusal is passed visit = tt
refused_answer contents name old (Err NoMemory) refusal is passed visit = tt

-- and the expansion comes to nothing else
pub refused_only : (contents : Contents) (name : List ℕ) (old : Expansion) (result : Result Expanded ExpandRefusal) (refusal : ExpandRefusal)
    → old ≡ nothing_met → IsErrAnd result (λ e. e ≡ refusal) → IsVisitRefusal contents name name old refusal → IsOnly contents name result
refused_only contents name old (Ok expanded) refusal is passed visit = absurd passed
refused_only contents name old (Err (Blamed blame)) refusal is passed visit = λ outcome expansion.
    visit-unique contents name file_limit name nothing_met outcome (Stopped blame) expansion
    (expansion_from contents name old (Stopped blame) is (subst (IsVisitRefusal contents name name old) (sym passed) visit))
refused_only contents name old (Err Failed) refusal is passed visit = tt
refused_only contents name old (Err NoMemory) refusal is passed visit = tt

-- the files of the visit are those of the expansion
pub went_answer : (contents : Contents) (name : List ℕ) (old new : Expansion) (expanded : Expanded) → old ≡ nothing_met
    → expanded.files ≡ new.files → IsVisitAt contents name name old (Went new) → IsAnswer contents name (Ok expanded)
went_answer contents name old new expanded is files visit = (new, expansion_from contents name old (Went new) is visit, files)

-- and the expansion comes to nothing else
pub went_only : (contents : Contents) (name : List ℕ) (old new : Expansion) (expanded : Expanded) → old ≡ nothing_met
    → expanded.files ≡ new.files → IsVisitAt contents name name old (Went new) → IsOnly contents name (Ok expanded)
went_only contents name old new expanded is files visit = λ outcome expansion.
    (new, visit-unique contents name file_limit name nothing_met outcome (Went new) expansion (expansion_from contents name old (Went new) is visit), sym files)
