-- One more variable.
use Rattle.std.proofs.Common.{◌+◌, ◌<◌, ◌++◌, ◌∙◌, [], ◌∷◌, ap, drop, length, arith}
use Rattle.capl_meaning.specs.Constant.{elements_of}
use Rattle.check_sorts.specs.Form.{form_in}
use Rattle.type_expressions.specs.declared.layout.Laid.{Laid}
use Rattle.type_expressions.specs.declared.layout.Next.{Next}
use Rattle.type_expressions.specs.Layout.{size_in}
use Rattle.type_expressions.proofs.StepLemmas.{Found, elements_there, form_there, laid_more, size_more, split_size}
use Rattle.type_expressions.proofs.layout.Layout.build.Goals as goal

pub returns-then-size-gt-MOST_CELLS : goal.returns-then-size-gt-MOST_CELLS
returns-then-size-gt-MOST_CELLS c =
    let names = c.args.names.now in
    let more = size_more names c.loop-number.number c.elements-elements.result c.loop-number.size _ (form_in c.form_of-form.result)
    (omega (arith, c.variable_count-count.ensures))
    (record { form_is = form_there names.variables c.loop-number.number _ c.form_of-form.ensures; elements_are = elements_there names.variables c.loop-number.number (elements_of names) _ c.elements-elements.ensures })
    c.loop-number.invariant.size in
    omega (arith, more, c.size_of_form.ensures, c.from-size.ensures)

pub loop-number-preserved : goal.loop-number-preserved
loop-number-preserved c =
    let names = c.args.names.now in
    let less : c.loop-number.number < length names.variables = omega (arith, c.variable_count-count.ensures) in
    let found : Found names c.loop-number.number c.elements-elements.result (form_in c.form_of-form.result) = record { form_is = form_there names.variables c.loop-number.number (form_in c.form_of-form.result) c.form_of-form.ensures; elements_are = elements_there names.variables c.loop-number.number (elements_of names) _ c.elements-elements.ensures } in
    record {
      laid = laid_more names c.loop-number.number c.elements-elements.result c.loop-number.next.cell c.loop-number.next.timers _ _ (form_in c.form_of-form.result) c.loop-number.all.items _ _
          less found c.loop-number.invariant.laid
          (c.in_ok-push.ensures.items ∙ ap (λ (l : Laid). c.loop-number.all.items ++ (l ∷ [])) c.lay.ensures)
          (ap (λ (n : Next). n.cell) c.behind-next.ensures) (ap (λ (n : Next). n.timers) c.behind-next.ensures);
      size =
          ap (λ n. c.loop-number.size + n + size_in names (drop (c.loop-number.number + 1) names.variables)) (c.from-size.ensures ∙ c.size_of_form.ensures)
          ∙ size_more names c.loop-number.number c.elements-elements.result c.loop-number.size _ (form_in c.form_of-form.result) less found c.loop-number.invariant.size;
      room =
          omega (arith, c.loop-number.invariant.room, ap (λ (n : Next). n.cell) c.behind-next.ensures, ap (λ (n : Next). n.timers) c.behind-next.ensures, split_size c.elements-elements.result c.loop-number.next.timers (form_in c.form_of-form.result), c.size_of_form.ensures, c.from-size.ensures);
      most = omega arith;
    }

pub behind-next-requires : goal.behind-next-requires
behind-next-requires c =
    omega (arith, c.loop-number.invariant.room, c.size_of_form.ensures, c.from-size.ensures)
