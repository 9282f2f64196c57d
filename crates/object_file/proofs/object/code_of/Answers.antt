-- The code of a text, and why there is none.
use Rattle.std.proofs.Common.{rules, ◌≡◌, ◌∙◌, ap, arith, length, subst, sym, None}
use Rattle.std.proofs.lemmas.Bool.Decides.{nat_tests}
use Rattle.object_file.specs.Object.{IsTextOf}
use Rattle.object_file.specs.Inside.Lists.{lists_at}
use Rattle.object_file.specs.Inside.Reading.{dword_at}
use Rattle.object_file.proofs.ObjectLemmas.{is_text, letters_before, nil_of, no_end, no_letters, no_lists, no_number}
use Rattle.object_file.proofs.object.code_of.Goals as goal
use Rattle.object_file.proofs.object.code_of.Goals.{then-last-ne0-via-then-last-ne0, then-last-ne0-via-else-last-ne0+then-not-is_empty}

pub returns-in_default-clause-bad : goal.returns-in_default-clause-bad
returns-in_default-clause-bad c bad = no_letters c.args.bytes.now (sym c.in_default.ensures)

pub returns-in_err-lists-clause-bad : goal.returns-in_err-lists-clause-bad
returns-in_err-lists-clause-bad c bad =
    let none : lists_at c.in-Some.front.now ≡ None = search rules in
    no_lists c.complete.ensures.lists c.complete.ensures.number c.args.bytes.now c.in-Some.front.now
    (letters_before c.args.bytes.now c.in-Some.front.now (sym c.in-Some.ensures)) none

pub returns-in_err-last-clause-bad : goal.returns-in_err-last-clause-bad
returns-in_err-last-clause-bad c bad =
    let none : dword_at c.in_ok-lists.rest.now ≡ None = search rules in
    no_number c.complete.ensures.lists c.complete.ensures.number c.args.bytes.now c.in-Some.front.now
    (letters_before c.args.bytes.now c.in-Some.front.now (sym c.in-Some.ensures)) c.in_ok-lists.lists c.in_ok-lists.rest.now
    c.in_ok-lists.ensures.spelled c.in_ok-lists.ensures.holds none

pub returns-then-last-ne0-clause-bad : goal.returns-then-last-ne0-clause-bad
returns-then-last-ne0-clause-bad c bad =
    no_end c.complete.ensures.lists c.complete.ensures.number c.args.bytes.now c.in-Some.front.now
    (letters_before c.args.bytes.now c.in-Some.front.now (sym c.in-Some.ensures)) c.in_ok-lists.lists c.in_ok-lists.rest.now
    c.in_ok-lists.ensures.spelled c.in_ok-lists.ensures.holds c.in_ok-last.last c.in_ok-last.rest.now c.in_ok-last.ensures.spelled
    (λ zero none. elim c.then-last-ne0.branch [
      | then-last-ne0-via-then-last-ne0 w ↦ let told = w.if-last-ne0.true in grind (arith, told, zero)
      | then-last-ne0-via-else-last-ne0+then-not-is_empty w ↦
          let told = w.is_empty.ensures in let other = w.if-not-is_empty.true in let few = ap length none in grind (arith, nat_tests, told, other, few)
    ])

pub returns-clause-text : goal.returns-clause-text
returns-clause-text c =
    subst (λ code. IsTextOf code c.args.bytes.now) (sym c.with_lists.ensures)
    (is_text c.args.bytes.now c.in-Some.front.now c.in_ok-lists.rest.now c.in_ok-last.rest.now c.in_ok-lists.lists c.in_ok-last.last
    (letters_before c.args.bytes.now c.in-Some.front.now (sym c.in-Some.ensures))
    c.in_ok-lists.ensures.spelled c.in_ok-lists.ensures.holds c.in_ok-last.ensures.spelled c.if-last-ne0.false
    (nil_of c.in_ok-last.rest.now (sym c.is_empty.ensures ∙ c.if-not-is_empty.false)))
