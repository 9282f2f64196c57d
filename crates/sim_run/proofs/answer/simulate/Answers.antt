-- The answer to the words is that over the inputs that they ask for.
use Rattle.std.proofs.Common.{map, inl, refl}
use Rattle.std.specs.Prelude.{Some, string_bytes}
use Rattle.sim_gen.specs.Generated.{made_contents}
use Rattle.sim_play.specs.declared.labels.Show.TheVariants.{Summary}
use Rattle.sim_run.proofs.WrittenLemmas.{answer_by, answer_over, asks_generated, begun_of, none_fails, part_over}
use Rattle.sim_run.proofs.answer.simulate.Goals as goal

-- ---- a command

pub returns-in-Some-Files-clause-prefix : goal.returns-in-Some-Files-clause-prefix
returns-in-Some-Files-clause-prefix g c = λ contents told ended.
    begun_of contents (map string_bytes c.args.words.now) c.show_of.result contents c.in-Some-Files.name.now _ _
    (inl (c.in-Some-Files.command, rw c.in-Some-Files.field-0-is at c.in-Some-Files.ensures, c.show_of.ensures, refl)) (c.answer_on.ensures.prefix contents told ended)

pub returns-in-Some-Files-clause-as_it_happens : goal.returns-in-Some-Files-clause-as_it_happens
returns-in-Some-Files-clause-as_it_happens g c = λ contents told show held name asked scenario base sources replay accepted failed.
    part_over contents (map string_bytes c.args.words.now) show c.show_of.result contents held c.in-Some-Files.name.now name scenario base sources replay _ _ c.answer_on.new.meter asked
    (inl (c.in-Some-Files.command, rw c.in-Some-Files.field-0-is at c.in-Some-Files.ensures, c.show_of.ensures, refl)) accepted
    (λ shows here. c.answer_on.ensures.as_it_happens contents told show shows scenario base sources replay here failed)

pub returns-in-Some-Files-clause-complete : goal.returns-in-Some-Files-clause-complete
returns-in-Some-Files-clause-complete g c = λ contents told bytes rows answer none_read none_written.
    c.answer_on.ensures.complete contents told bytes rows
    (answer_over contents (map string_bytes c.args.words.now) c.show_of.result contents c.in-Some-Files.name.now bytes rows
    (inl (c.in-Some-Files.command, rw c.in-Some-Files.field-0-is at c.in-Some-Files.ensures, c.show_of.ensures, refl)) answer) none_read none_written

-- ---- a generated scenario

pub returns-in-Ok-clause-whole : goal.returns-in-Ok-clause-whole
returns-in-Ok-clause-whole g c = λ contents told ended.
    let made = c.in-Ok.made in
    answer_by contents (map string_bytes c.args.words.now) (Some Summary) (made_contents made) c.as_bytes-name.result.now c.answer_on-in-Some-Generated.result _ _ c.answer_on-in-Some-Generated.new.meter
    (asks_generated contents (map string_bytes c.args.words.now) c.in-Some-Generated.count made c.as_bytes-name.result.now (rw c.in-Some-Generated.field-0-is at c.in-Some-Generated.ensures) c.in-Ok.ensures c.as_bytes-name.ensures.value)
    (c.answer_on-in-Some-Generated.ensures.whole (made_contents made) refl ended)

pub returns-in-Ok-clause-prefix : goal.returns-in-Ok-clause-prefix
returns-in-Ok-clause-prefix g c = λ contents told ended.
    let made = c.in-Ok.made in
    begun_of contents (map string_bytes c.args.words.now) (Some Summary) (made_contents made) c.as_bytes-name.result.now _ _
    (asks_generated contents (map string_bytes c.args.words.now) c.in-Some-Generated.count made c.as_bytes-name.result.now (rw c.in-Some-Generated.field-0-is at c.in-Some-Generated.ensures) c.in-Ok.ensures c.as_bytes-name.ensures.value)
    (c.answer_on-in-Some-Generated.ensures.prefix (made_contents made) refl ended)

pub returns-in-Ok-clause-as_it_happens : goal.returns-in-Ok-clause-as_it_happens
returns-in-Ok-clause-as_it_happens g c = λ contents told show held name asked scenario base sources replay accepted failed.
    let made = c.in-Ok.made in
    part_over contents (map string_bytes c.args.words.now) show (Some Summary) (made_contents made) held c.as_bytes-name.result.now name scenario base sources replay _ _ c.answer_on-in-Some-Generated.new.meter asked
    (asks_generated contents (map string_bytes c.args.words.now) c.in-Some-Generated.count made c.as_bytes-name.result.now (rw c.in-Some-Generated.field-0-is at c.in-Some-Generated.ensures) c.in-Ok.ensures c.as_bytes-name.ensures.value) accepted
    (λ shows here. c.answer_on-in-Some-Generated.ensures.as_it_happens (made_contents made) refl show shows scenario base sources replay here failed)

pub returns-in-Ok-clause-complete : goal.returns-in-Ok-clause-complete
returns-in-Ok-clause-complete g c = λ contents told bytes rows answer none_read none_written.
    let made = c.in-Ok.made in
    c.answer_on-in-Some-Generated.ensures.complete (made_contents made) refl bytes rows
    (answer_over contents (map string_bytes c.args.words.now) (Some Summary) (made_contents made) c.as_bytes-name.result.now bytes rows
    (asks_generated contents (map string_bytes c.args.words.now) c.in-Some-Generated.count made c.as_bytes-name.result.now (rw c.in-Some-Generated.field-0-is at c.in-Some-Generated.ensures) c.in-Ok.ensures c.as_bytes-name.ensures.value) answer)
    none_fails none_written
