-- The visit of the first file is the answer.
use Rattle.std.proofs.Common.{◌∙◌, Ok, sym, ap, arith, subst, length}
use Rattle.std.proofs.lemmas.List.Elements.{All-nil}
use Rattle.texts.specs.Fault.{raised_by}
use Rattle.capl_include.specs.Text.{AreOfTexts, IsOfText}
use Rattle.capl_include.specs.declared.expanded.SourceFile.{SourceFile}
use Rattle.capl_include.specs.Expansion.{Expansion, Went}
use Rattle.capl_include.specs.Answer.{IsAnswer, IsOnly, HaveDifferentNames}
use Rattle.capl_include.specs.Inside.Visit.{IsVisitAt, IsVisitRefusal}
use Rattle.capl_include.proofs.VisitLemmas.{told_from}
use Rattle.capl_include.proofs.AnswerLemmas.{refused_answer, refused_only, went_answer, went_only}
use Rattle.capl_include.proofs.OnceLemmas.{once_all, reads_all}
use Rattle.capl_include.proofs.expansion.expand.Goals as goal

pub returns-in_err-visit-clause-told : goal.returns-in_err-visit-clause-told
returns-in_err-visit-clause-told g c =
    let name = c.args.name.now in
    let old = c.new-progress.result in
    let refusal = c.in_err-visit.field-0.0 in
    told_from (g.F.Files.held c.args.files.now) (λ contents. IsVisitRefusal contents name name old refusal) (λ contents. IsAnswer contents name c.from_residual.result)
    (λ contents visit. refused_answer contents name old c.from_residual.result refusal c.new-progress.ensures c.from_residual.ensures.1 visit) c.in_err-visit.ensures.stopped

pub returns-in_err-visit-clause-only : goal.returns-in_err-visit-clause-only
returns-in_err-visit-clause-only g c =
    let name = c.args.name.now in
    let old = c.new-progress.result in
    let refusal = c.in_err-visit.field-0.0 in
    told_from (g.F.Files.held c.args.files.now) (λ contents. IsVisitRefusal contents name name old refusal) (λ contents. IsOnly contents name c.from_residual.result)
    (λ contents visit. refused_only contents name old c.from_residual.result refusal c.new-progress.ensures c.from_residual.ensures.1 visit) c.in_err-visit.ensures.stopped

pub returns-clause-told : goal.returns-clause-told
returns-clause-told g c =
    let name = c.args.name.now in
    let old = c.new-progress.result in
    let new = c.visit.new.progress in
    told_from (g.F.Files.held c.args.files.now) (λ contents. IsVisitAt contents name name old (Went new)) (λ contents. IsAnswer contents name (Ok c.into_expanded.result))
    (λ contents visit. went_answer contents name old new c.into_expanded.result c.new-progress.ensures c.into_expanded.ensures visit) c.in_ok-visit.ensures.went

pub returns-clause-only : goal.returns-clause-only
returns-clause-only g c =
    let name = c.args.name.now in
    let old = c.new-progress.result in
    let new = c.visit.new.progress in
    told_from (g.F.Files.held c.args.files.now) (λ contents. IsVisitAt contents name name old (Went new)) (λ contents. IsOnly contents name (Ok c.into_expanded.result))
    (λ contents visit. went_only contents name old new c.into_expanded.result c.new-progress.ensures c.into_expanded.ensures visit) c.in_ok-visit.ensures.went

pub returns-clause-once : goal.returns-clause-once
returns-clause-once g c =
    let none = ap (λ (e : Expansion). e.files) c.new-progress.ensures in
    subst HaveDifferentNames (sym c.into_expanded.ensures)
    (once_all c.new-progress.result c.visit.new.progress none c.in_ok-visit.ensures.once)

pub returns-clause-reads : goal.returns-clause-reads
returns-clause-reads g c =
    let none = ap (λ (e : Expansion). e.files) c.new-progress.ensures in
    let before = g.F.Files.reads c.args.files.now in
    reads_all before (g.F.Files.reads c.visit.new.files) c.new-progress.result c.visit.new.progress none c.in_ok-visit.ensures.reads
    ∙ ap (λ files. raised_by (length files) before) (sym c.into_expanded.ensures)

pub returns-clause-few_files : goal.returns-clause-few_files
returns-clause-few_files g c =
    let done = c.in_ok-visit.ensures in
    let none = ap (λ (e : Expansion). e.files) c.new-progress.ensures in
    let unmet = ap (λ (e : Expansion). e.met) c.new-progress.ensures in
    omega (arith, done.appends, done.few_files, ap length none, ap length unmet, ap length c.into_expanded.ensures)

pub returns-clause-texts : goal.returns-clause-texts
returns-clause-texts g c =
    let none = ap (λ (e : Expansion). e.files) c.new-progress.ensures in
    let are = c.in_ok-visit.ensures.texts (subst AreOfTexts (sym none) (All-nil (λ (f : SourceFile). IsOfText f.tokens))) in
    subst AreOfTexts (sym c.into_expanded.ensures) are
