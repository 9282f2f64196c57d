-- The next line, by whether a line feed ends it.
use Rattle.std.proofs.Common.{◌≡◌, ◌≢◌, ◌∷◌, ◌++◌, Bool, [], ap, subst, sym, ◌∙◌}
use Rattle.std.specs.Bool.{OnFalse}
use Rattle.std.specs.Str.Lines.{lines}
use Rattle.text_parts.specs.Line.{line_end}
use Rattle.scenario.proofs.NextLineLemmas.{lines-ended, lines-last, ended_within, last_within}
use Rattle.scenario.proofs.line.next_line.Goals as goal

pub returns-then-first-clause-lines : goal.returns-then-first-clause-lines
returns-then-first-clause-lines c =
    let first = c.in_ok-first.first in
    let whole : c.args.text.now ≡ (first.line.now ++ 10 ∷ []) ++ first.rest.now =
    subst (λ (e : Bool). c.args.text.now ≡ (first.line.now ++ line_end e) ++ first.rest.now) c.if-first.true c.in_ok-first.ensures.whole in
    lines-ended c.args.text.now first.line.now first.rest.now c.in_ok-first.ensures.no_end_inside whole
    ∙ ap (λ line. line ∷ lines first.rest.now) (sym c.without_return.ensures)

pub returns-then-first-clause-within : goal.returns-then-first-clause-within
returns-then-first-clause-within c =
    let first = c.in_ok-first.first in
    let whole : c.args.text.now ≡ (first.line.now ++ 10 ∷ []) ++ first.rest.now =
    subst (λ (e : Bool). c.args.text.now ≡ (first.line.now ++ line_end e) ++ first.rest.now) c.if-first.true c.in_ok-first.ensures.whole in
    rw c.without_return.ensures (ended_within c.args.text.now first.line.now first.rest.now whole)

pub returns-clause-lines : goal.returns-clause-lines
returns-clause-lines c =
    let first = c.in_ok-first.first in
    let whole : c.args.text.now ≡ (first.line.now ++ []) ++ first.rest.now =
    subst (λ (e : Bool). c.args.text.now ≡ (first.line.now ++ line_end e) ++ first.rest.now) c.if-first.false c.in_ok-first.ensures.whole in
    let some : c.args.text.now ≢ [] = λ empty. absurd (let none = c.in_ok-first.ensures.none.1 empty in cc) in
    let last : first.rest.now ≡ [] =
    subst (λ (e : Bool). OnFalse e (first.rest.now ≡ [])) c.if-first.false c.in_ok-first.ensures.last in
    lines-last c.args.text.now first.line.now first.rest.now c.in_ok-first.ensures.no_end_inside some last whole

pub returns-clause-within : goal.returns-clause-within
returns-clause-within c =
    let first = c.in_ok-first.first in
    let whole : c.args.text.now ≡ (first.line.now ++ []) ++ first.rest.now =
    subst (λ (e : Bool). c.args.text.now ≡ (first.line.now ++ line_end e) ++ first.rest.now) c.if-first.false c.in_ok-first.ensures.whole in
    last_within c.args.text.now first.line.now first.rest.now whole
