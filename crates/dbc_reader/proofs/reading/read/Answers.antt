-- Each statement leads further, and the first that is wrong is where the text is refused.
use Rattle.std.proofs.Common.{rules, ◌≡◌, sym, List, [], ◌∷◌, ◌++◌, None, subst}
use Rattle.dbc_statements.specs.Token.{Placed, tokens_of, first_line}
use Rattle.dbc_reader.specs.Database.{Said, Lead, nothing_said, IsDatabase}
use Rattle.dbc_reader.specs.Inside.Builder.{said_of}
use Rattle.dbc_reader.proofs.SaidLemmas.{lead_more, at_end}
use Rattle.dbc_reader.proofs.OneReading.{one_database}
use Rattle.dbc_reader.proofs.Distinct.{are_distinct}
use Rattle.dbc_reader.proofs.reading.read.Goals as goal

pub loop-line-preserved : goal.loop-line-preserved
loop-line-preserved c =
    let led = c.loop-line.invariant.led in
    let adds = c.in-Ok-add.ensures in
    let more = lead_more nothing_said (tokens_of c.args.bytes.now) led.0 (said_of c.loop-line.builder) c.loop-line.cursor c.in-Ok.statement c.next_statement.new.cursor led.1 (search rules) (search rules) in
    record {
      agree = adds.2;
      led = (led.0 ++ c.in-Ok.statement ∷ [], subst (λ (said : Said). Lead nothing_said (tokens_of c.args.bytes.now) (led.0 ++ c.in-Ok.statement ∷ []) said c.next_statement.new.cursor) (sym adds.1) more);
    }

pub returns-in-Err-Twice-clause-refused : goal.returns-in-Err-Twice-clause-refused
returns-in-Err-Twice-clause-refused c =
    let led = c.loop-line.invariant.led in
    (led.0, said_of c.loop-line.builder, c.loop-line.cursor, led.1, (c.in-Ok.statement, c.next_statement.new.cursor, search rules, search rules))

pub returns-clause-only : goal.returns-clause-only
returns-clause-only c = λ others is.
    let led = c.loop-line.invariant.led in
    let none : first_line c.loop-line.cursor ≡ None = search rules in
    let whole = subst (λ (rest : List Placed). Lead nothing_said (tokens_of c.args.bytes.now) led.0 (said_of c.loop-line.builder) rest) (at_end c.loop-line.cursor none) led.1 in
    let found : IsDatabase c.args.bytes.now c.finish.result = (led.0, said_of c.loop-line.builder, whole, c.finish.ensures) in
    one_database c.args.bytes.now others c.finish.result is found

pub returns-clause-distinct : goal.returns-clause-distinct
returns-clause-distinct c =
    let led = c.loop-line.invariant.led in
    let none : first_line c.loop-line.cursor ≡ None = search rules in
    let whole = subst (λ (rest : List Placed). Lead nothing_said (tokens_of c.args.bytes.now) led.0 (said_of c.loop-line.builder) rest) (at_end c.loop-line.cursor none) led.1 in
    let found : IsDatabase c.args.bytes.now c.finish.result = (led.0, said_of c.loop-line.builder, whole, c.finish.ensures) in
    are_distinct c.args.bytes.now c.finish.result found
