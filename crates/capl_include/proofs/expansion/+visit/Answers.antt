-- Each way in which a visit ends, and how its includes go on.
use Rattle.std.proofs.Common.{◌≡◌, ◌<◌, ◌≤◌, ◌+◌, ◌++◌, ◌∷◌, [], ℕ, List, Option, Bool, length, true, false, inl, refl, sym, subst, ◌∙◌, ap, arith, Ok, Err, nat_le, length-append}
use Rattle.std.specs.Prelude.{IfSome, IfErr}
use Rattle.std.proofs.lemmas.Bool.Decides.{nat_tests}
use Rattle.std.proofs.lemmas.List.Elements.{All-push}
use Rattle.std.proofs.lemmas.List.Sums.{sum_by_push}
use Rattle.capl_lexer.specs.Reading.{token_limit}
use Rattle.capl_lexer.specs.declared.token.Token.{Token}
use Rattle.capl_include.specs.Answer.{token_count}
use Rattle.capl_include.specs.Expansion.{Contents, Expansion, Went, appending, file_limit, meeting}
use Rattle.capl_include.specs.Text.{AreOfTexts, IsOfText}
use Rattle.capl_include.specs.Inside.Once.{GoesOnce}
use Rattle.capl_include.specs.Inside.Visit.{IsRead, ReadAgrees, StepAgrees, IsVisitAt, IsVisitRefusal}
use Rattle.capl_include.specs.declared.expanded.SourceFile.{SourceFile}
use Rattle.capl_include.proofs.VisitLemmas.{GoesFrom, goes_first, goes_past, goes_through, whole_ends, full_refusal, read_refusal, step_refusal, inside_refusal, told_always, told_from, told_from_two, told_from_three, passed_on}
use Rattle.capl_include.proofs.OnceLemmas.{once_nothing, once_then, once_visit, reads_first, reads_same, reads_then, reads_visit}
use Rattle.capl_include.proofs.expansion.+visit.Goals.{then-is_include+in_ok-next+in-Some+in_ok-visit, then-is_include+in_ok-next+in_default, else-is_include}
use Rattle.capl_include.proofs.expansion.+visit.Goals as goal

many_files : (count : ℕ) (full : Bool) → full ≡ nat_le file_limit count → full ≡ true → file_limit ≤ count
many_files count full is holds = grind (arith, nat_tests)

below_limit : (count : ℕ) (full : Bool) → full ≡ nat_le file_limit count → full ≡ false → count < file_limit
below_limit count full is fails = grind (arith, nat_tests)

counts_first : (name : List ℕ) (list : List Token) (old at : Expansion) → at ≡ meeting name list old
    → token_count at.files + (old.count + length list) ≡ token_count old.files + at.count
counts_first name list old at is =
    subst (λ (p : Expansion). token_count p.files + (old.count + length list) ≡ token_count old.files + p.count) (sym is) refl

counts_then : (n : ℕ) (old at new after : Expansion) → after ≡ new → token_count at.files + (old.count + n) ≡ token_count old.files + at.count
    → token_count new.files + at.count ≡ token_count at.files + new.count
    → token_count after.files + (old.count + n) ≡ token_count old.files + after.count
counts_then n old at new after is before done =
    subst (λ (p : Expansion). token_count p.files + (old.count + n) ≡ token_count old.files + p.count) (sym is) (omega arith)

counts_last : (list : List Token) (old at new : Expansion) (file : SourceFile) → file.tokens ≡ list
    → new ≡ record { met = at.met; count = at.count; files = at.files ++ file ∷ [] }
    → token_count at.files + (old.count + length list) ≡ token_count old.files + at.count
    → token_count new.files + old.count ≡ token_count old.files + new.count
counts_last list old at new file has is before =
    let more : token_count (at.files ++ file ∷ []) ≡ token_count at.files + length file.tokens = sum_by_push (λ (f : SourceFile). length f.tokens) at.files file in
    let sized : length file.tokens ≡ length list = ap length has in
    let after : token_count (at.files ++ file ∷ []) + old.count ≡ token_count old.files + at.count = omega arith in
    subst (λ (p : Expansion). token_count p.files + old.count ≡ token_count old.files + p.count) (sym is) after

read_here : (contents : Contents) (name : List ℕ) (n count : ℕ) (tokens list : List Token) → IsRead contents name n tokens
    → n ≡ count → list ≡ tokens → IsRead contents name count list
read_here contents name n count tokens list read same is =
    subst (IsRead contents name count) (sym is) (subst (λ m. IsRead contents name m tokens) same read)

pub returns-then-is_full-clause-stopped : goal.returns-then-is_full-clause-stopped
returns-then-is_full-clause-stopped g t c =
    let root = c.args.root.now in
    let name = c.args.name.now in
    let old = c.args.progress.now in
    told_always (g.F.Files.held c.args.files.now) (λ contents. IsVisitRefusal contents root name old c.blamed.result)
    (λ contents. full_refusal contents root name old c.blamed.result (many_files (length old.met) c.is_full.result c.is_full.ensures c.if-is_full.true) c.blamed.ensures)

pub returns-in_err-tokens-clause-stopped : goal.returns-in_err-tokens-clause-stopped
returns-in_err-tokens-clause-stopped g t c =
    let root = c.args.root.now in
    let name = c.args.name.now in
    let old = c.args.progress.now in
    let refusal = c.in_err-tokens.field-0.0 in
    let few = below_limit (length old.met) c.is_full.result c.is_full.ensures c.if-is_full.false in
    told_from (g.F.Files.held c.args.files.now) (λ contents. ReadAgrees contents name c.count.result (Err refusal))
    (λ contents. IfErr c.from_residual.result (IsVisitRefusal contents root name old))
    (λ contents agrees. passed_on c.from_residual.result refusal (IsVisitRefusal contents root name old) c.from_residual.ensures.1
    (read_refusal contents root name old refusal few (subst (λ n. ReadAgrees contents name n (Err refusal)) c.count.ensures agrees)))
    c.in_err-tokens.ensures.told

pub returns-in_err-next-clause-stopped : goal.returns-in_err-next-clause-stopped
returns-in_err-next-clause-stopped g t c =
    let root = c.args.root.now in
    let name = c.args.name.now in
    let old = c.args.progress.now in
    let at = c.loop-token.progress in
    let place = c.loop-token.token-index in
    let list = c.deref-token-items.result.now in
    let refusal = c.in_err-next.field-0.0 in
    let few = below_limit (length old.met) c.is_full.result c.is_full.ensures c.if-is_full.false in
    told_from_two (g.F.Files.held c.args.files.now) (λ contents. IsRead contents name c.count.result c.in_ok-tokens.tokens.items)
    (λ contents. GoesFrom contents root name list old place at)
    (λ contents. IfErr c.from_residual-in_err-next.result (IsVisitRefusal contents root name old))
    (λ contents read goes. passed_on c.from_residual-in_err-next.result refusal (IsVisitRefusal contents root name old) c.from_residual-in_err-next.ensures.1
    (step_refusal contents root name list old place at c.token-item.result refusal few
    (read_here contents name c.count.result old.count c.in_ok-tokens.tokens.items list read c.count.ensures c.deref-token-items.ensures.value)
    c.loop-token-test.true c.token-item.is goes c.in_err-next.ensures.told))
    c.in_ok-tokens.ensures.told c.loop-token.invariant.told

pub returns-in_err-visit-clause-stopped : goal.returns-in_err-visit-clause-stopped
returns-in_err-visit-clause-stopped g t c =
    let root = c.args.root.now in
    let name = c.args.name.now in
    let next = c.in-Some.next in
    let old = c.args.progress.now in
    let at = c.loop-token.progress in
    let place = c.loop-token.token-index in
    let list = c.deref-token-items.result.now in
    let refusal = c.in_err-visit.field-0.0 in
    let few = below_limit (length old.met) c.is_full.result c.is_full.ensures c.if-is_full.false in
    let step = subst (λ (n : Option (List ℕ)). StepAgrees name c.token-item.result at.met (Ok n)) c.in-Some.is c.in_ok-next.ensures.told in
    told_from_three (g.F.Files.held c.args.files.now) (λ contents. IsRead contents name c.count.result c.in_ok-tokens.tokens.items)
    (λ contents. GoesFrom contents root name list old place at)
    (λ contents. IsVisitRefusal contents root next at refusal)
    (λ contents. IfErr c.from_residual-in_err-visit.result (IsVisitRefusal contents root name old))
    (λ contents read goes inside. passed_on c.from_residual-in_err-visit.result refusal (IsVisitRefusal contents root name old) c.from_residual-in_err-visit.ensures.1
    (inside_refusal contents root name next list old place at c.token-item.result refusal few
    (read_here contents name c.count.result old.count c.in_ok-tokens.tokens.items list read c.count.ensures c.deref-token-items.ensures.value)
    c.loop-token-test.true c.token-item.is c.loop-token.invariant.grows goes step inside))
    c.in_ok-tokens.ensures.told c.loop-token.invariant.told
    (subst (λ (h : Option Contents). IfSome h (λ contents. IsVisitRefusal contents root next at refusal)) c.loop-token.invariant.contents_stay c.in_err-visit.ensures.stopped)

pub loop-token-init : goal.loop-token-init
loop-token-init g t c =
    let root = c.args.root.now in
    let name = c.args.name.now in
    let old = c.args.progress.now in
    let list = c.deref-token-items.result.now in
    let done = c.in_ok-tokens.ensures in
    let sized : c.len.result ≡ length list = omega (arith, c.len.ensures, ap length c.deref-token-items.ensures.value) in
    let is : c.meet.new.self ≡ meeting name list old =
    c.in_ok-meet.ensures.met
    ∙ ap (λ n. record { met = old.met ++ name ∷ []; count = old.count + n; files = old.files }) sized in
    record {
      once = once_nothing (meeting name list old) c.meet.new.self is;
      reads = reads_first (g.F.Files.reads c.args.files.now) (g.F.Files.reads c.read_tokens.new.files) old c.meet.new.self done.reads
          (ap (λ (e : Expansion). e.files) is);
      grows = subst (λ (p : Expansion). length old.met < length p.met) (sym is) (omega (arith, length-append old.met (name ∷ [])));
      appends = subst (λ (p : Expansion). length p.files + (length old.met + 1) ≡ length old.files + length p.met) (sym is)
          (omega (arith, length-append old.met (name ∷ [])));
      few_files = subst (λ (p : Expansion). length p.met ≤ file_limit) (sym is)
          (omega (
            arith,
            length-append old.met (name ∷ []),
            below_limit (length old.met) c.is_full.result c.is_full.ensures c.if-is_full.false,
          ));
      few = subst (λ (p : Expansion). p.count ≤ token_limit) (sym is)
          (omega (arith, done.few, c.count.ensures, ap length c.deref-token-items.ensures.value));
      counts = counts_first name list old c.meet.new.self is;
      texts = λ are. subst (λ (p : Expansion). AreOfTexts p.files) (sym is) are;
      faults_stay = done.faults_stay;
      contents_stay = done.contents_stay;
      told = told_always (g.F.Files.held c.args.files.now) (λ contents. GoesFrom contents root name list old 0 c.meet.new.self)
          (λ contents. goes_first contents root name list old c.meet.new.self is);
    }

pub loop-token-preserved : goal.loop-token-preserved
loop-token-preserved g t c =
    let root = c.args.root.now in
    let name = c.args.name.now in
    let old = c.args.progress.now in
    let at = c.loop-token.progress in
    let place = c.loop-token.token-index in
    let list = c.deref-token-items.result.now in
    let held = g.F.Files.held c.args.files.now in
    let before = c.loop-token.invariant in
    elim c.if-is_include.branch [
      | then-is_include+in_ok-next+in-Some+in_ok-visit w ↦
          let next = w.in-Some.next in
          let new = w.visit.new.progress in
          let done = w.in_ok-visit.ensures in
          let step = subst (λ (n : Option (List ℕ)). StepAgrees name c.token-item.result at.met (Ok n)) w.in-Some.is w.in_ok-next.ensures.told in
          let went = subst (λ (h : Option Contents). IfSome h (λ contents. IsVisitAt contents root next at (Went new))) before.contents_stay done.went in
          record {
            reads = reads_same 1 (g.F.Files.reads c.args.files.now) (g.F.Files.reads w.visit.new.files) _ old new _ (ap g.F.Files.reads w.files-is) w.progress-is
                (reads_then 1 (g.F.Files.reads c.args.files.now) (g.F.Files.reads c.loop-token.files) (g.F.Files.reads w.visit.new.files) old at new
                before.reads done.reads);
            once = subst (GoesOnce (meeting name list old)) (sym w.progress-is) (once_then (meeting name list old) at new before.once done.once);
            grows = subst (λ (p : Expansion). length old.met < length p.met) (sym w.progress-is) (omega (arith, before.grows, done.grows));
            appends = subst (λ (p : Expansion). length p.files + (length old.met + 1) ≡ length old.files + length p.met) (sym w.progress-is)
                (omega (arith, before.appends, done.appends));
            few_files = subst (λ (p : Expansion). length p.met ≤ file_limit) (sym w.progress-is) done.few_files;
            few = subst (λ (p : Expansion). p.count ≤ token_limit) (sym w.progress-is) done.within_limit;
            counts = counts_then (length list) old at new _ w.progress-is before.counts done.counts;
            texts = λ are. subst (λ (p : Expansion). AreOfTexts p.files) (sym w.progress-is) (done.texts (before.texts are));
            faults_stay = subst (λ f. g.F.Files.faults c.args.files.now ≤ g.F.Files.faults f) (sym w.files-is) (omega (arith, before.faults_stay, done.faults_stay));
            contents_stay = subst (λ f. g.F.Files.held f ≡ held) (sym w.files-is) (done.contents_stay ∙ before.contents_stay);
            told = subst (λ (p : Expansion). IfSome held (λ contents. GoesFrom contents root name list old (place + 1) p)) (sym w.progress-is)
                (told_from_two held (λ contents. GoesFrom contents root name list old place at) (λ contents. IsVisitAt contents root next at (Went new))
                (λ contents. GoesFrom contents root name list old (place + 1) new)
                (λ contents goes visit. goes_through contents root name next list old place at new c.token-item.result
                c.loop-token-test.true c.token-item.is before.grows goes step visit)
                before.told went);
          }
      | then-is_include+in_ok-next+in_default w ↦
          let step = subst (λ (n : Option (List ℕ)). StepAgrees name c.token-item.result at.met (Ok n)) w.in_default.is w.in_ok-next.ensures.told in
          record {
            reads = reads_same 1 (g.F.Files.reads c.args.files.now) (g.F.Files.reads c.loop-token.files) _ old at _ (ap g.F.Files.reads w.files-is) w.progress-is
                before.reads;
            once = subst (GoesOnce (meeting name list old)) (sym w.progress-is) before.once;
            grows = subst (λ (p : Expansion). length old.met < length p.met) (sym w.progress-is) before.grows;
            appends = subst (λ (p : Expansion). length p.files + (length old.met + 1) ≡ length old.files + length p.met) (sym w.progress-is) before.appends;
            few_files = subst (λ (p : Expansion). length p.met ≤ file_limit) (sym w.progress-is) before.few_files;
            few = subst (λ (p : Expansion). p.count ≤ token_limit) (sym w.progress-is) before.few;
            counts = subst (λ (p : Expansion). token_count p.files + (old.count + length list) ≡ token_count old.files + p.count) (sym w.progress-is) before.counts;
            texts = λ are. subst (λ (p : Expansion). AreOfTexts p.files) (sym w.progress-is) (before.texts are);
            faults_stay = subst (λ f. g.F.Files.faults c.args.files.now ≤ g.F.Files.faults f) (sym w.files-is) before.faults_stay;
            contents_stay = subst (λ f. g.F.Files.held f ≡ held) (sym w.files-is) before.contents_stay;
            told = subst (λ (p : Expansion). IfSome held (λ contents. GoesFrom contents root name list old (place + 1) p)) (sym w.progress-is)
                (told_from held (λ contents. GoesFrom contents root name list old place at) (λ contents. GoesFrom contents root name list old (place + 1) at)
                (λ contents goes. goes_past contents root name list old place at c.token-item.result c.loop-token-test.true c.token-item.is goes step)
                before.told);
          }
      | else-is_include w ↦
          let step = inl (c.is_include.ensures w.if-is_include.false) in
          record {
            reads = reads_same 1 (g.F.Files.reads c.args.files.now) (g.F.Files.reads c.loop-token.files) _ old at _ (ap g.F.Files.reads w.files-is) w.progress-is
                before.reads;
            once = subst (GoesOnce (meeting name list old)) (sym w.progress-is) before.once;
            grows = subst (λ (p : Expansion). length old.met < length p.met) (sym w.progress-is) before.grows;
            appends = subst (λ (p : Expansion). length p.files + (length old.met + 1) ≡ length old.files + length p.met) (sym w.progress-is) before.appends;
            few_files = subst (λ (p : Expansion). length p.met ≤ file_limit) (sym w.progress-is) before.few_files;
            few = subst (λ (p : Expansion). p.count ≤ token_limit) (sym w.progress-is) before.few;
            counts = subst (λ (p : Expansion). token_count p.files + (old.count + length list) ≡ token_count old.files + p.count) (sym w.progress-is) before.counts;
            texts = λ are. subst (λ (p : Expansion). AreOfTexts p.files) (sym w.progress-is) (before.texts are);
            faults_stay = subst (λ f. g.F.Files.faults c.args.files.now ≤ g.F.Files.faults f) (sym w.files-is) before.faults_stay;
            contents_stay = subst (λ f. g.F.Files.held f ≡ held) (sym w.files-is) before.contents_stay;
            told = subst (λ (p : Expansion). IfSome held (λ contents. GoesFrom contents root name list old (place + 1) p)) (sym w.progress-is)
                (told_from held (λ contents. GoesFrom contents root name list old place at) (λ contents. GoesFrom contents root name list old (place + 1) at)
                (λ contents goes. goes_past contents root name list old place at c.token-item.result c.loop-token-test.true c.token-item.is goes step)
                before.told);
          }
    ]

pub returns-clause-went : goal.returns-clause-went
returns-clause-went g t c =
    let root = c.args.root.now in
    let name = c.args.name.now in
    let old = c.args.progress.now in
    let at = c.loop-token.progress in
    let place = c.loop-token.token-index in
    let list = c.deref-token-items.result.now in
    let new = c.append.new.self in
    let few = below_limit (length old.met) c.is_full.result c.is_full.ensures c.if-is_full.false in
    let named : c.in_ok-make.field-0 ≡ name = c.in_ok-make.ensures ∙ c.bytes.ensures in
    let listed : c.from_list.result ≡ list = c.from_list.ensures ∙ sym c.deref-token-items.ensures.value in
    let file : (n : List ℕ) → List Token → SourceFile = λ n tokens. record { name = n; tokens = tokens } in
    let same : file c.in_ok-make.field-0 c.from_list.result ≡ file name list = λ i. file (named i) (listed i) in
    let is : Went new ≡ appending name list (Went at) =
    ap Went (c.in_ok-append.ensures.appended
    ∙ ap (λ (f : SourceFile). record { met = at.met; count = at.count; files = at.files ++ f ∷ [] }) same) in
    told_from_two (g.F.Files.held c.args.files.now) (λ contents. IsRead contents name c.count.result c.in_ok-tokens.tokens.items)
    (λ contents. GoesFrom contents root name list old place at)
    (λ contents. IsVisitAt contents root name old (Went new))
    (λ contents read goes. whole_ends contents root name list old place at new few
    (read_here contents name c.count.result old.count c.in_ok-tokens.tokens.items list read c.count.ensures c.deref-token-items.ensures.value)
    c.loop-token-test.false goes is)
    c.in_ok-tokens.ensures.told c.loop-token.invariant.told

pub returns-clause-once : goal.returns-clause-once
returns-clause-once g t c =
    let name = c.args.name.now in
    let old = c.args.progress.now in
    let at = c.loop-token.progress in
    let list = c.deref-token-items.result.now in
    let file : SourceFile = record { name = c.in_ok-make.field-0; tokens = c.from_list.result } in
    once_visit name list old at c.append.new.self file c.requires.not_met (c.in_ok-make.ensures ∙ c.bytes.ensures)
    c.loop-token.invariant.once c.in_ok-append.ensures.appended

pub returns-clause-reads : goal.returns-clause-reads
returns-clause-reads g t c =
    let old = c.args.progress.now in
    let at = c.loop-token.progress in
    let file : SourceFile = record { name = c.in_ok-make.field-0; tokens = c.from_list.result } in
    reads_visit (g.F.Files.reads c.args.files.now) (g.F.Files.reads c.loop-token.files) old at c.append.new.self file
    c.loop-token.invariant.reads (ap (λ (e : Expansion). e.files) c.in_ok-append.ensures.appended)

pub returns-clause-counts : goal.returns-clause-counts
returns-clause-counts g t c =
    let file : SourceFile = record { name = c.in_ok-make.field-0; tokens = c.from_list.result } in
    counts_last c.deref-token-items.result.now c.args.progress.now c.loop-token.progress c.append.new.self file
    (c.from_list.ensures ∙ sym c.deref-token-items.ensures.value) c.in_ok-append.ensures.appended c.loop-token.invariant.counts

pub returns-clause-appends : goal.returns-clause-appends
returns-clause-appends g t c =
    let old = c.args.progress.now in
    let at = c.loop-token.progress in
    let file : SourceFile = record { name = c.in_ok-make.field-0; tokens = c.from_list.result } in
    subst (λ (p : Expansion). length p.files + length old.met ≡ length old.files + length p.met) (sym c.in_ok-append.ensures.appended)
    (omega (arith, length-append at.files (file ∷ []), c.loop-token.invariant.appends))

pub returns-clause-texts : goal.returns-clause-texts
returns-clause-texts g t c = λ are.
    let at = c.loop-token.progress in
    let file : SourceFile = record { name = c.in_ok-make.field-0; tokens = c.from_list.result } in
    let text : IsOfText file.tokens = subst IsOfText (sym c.from_list.ensures) c.in_ok-tokens.ensures.text in
    subst (λ (p : Expansion). AreOfTexts p.files) (sym c.in_ok-append.ensures.appended)
    (All-push (λ (f : SourceFile). IsOfText f.tokens) at.files file (c.loop-token.invariant.texts are) text)
