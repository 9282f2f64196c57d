-- Bytes that end no line lead to a place in the same line.
use Rattle.std.proofs.Common.{sym, ◌∙◌, arith}
use Rattle.capl_lexer.proofs.LineLemmas as lines
use Rattle.capl_lexer.proofs.position.Position.along.Goals as goal

pub returns-clause-at : goal.returns-clause-at
returns-clause-at c =
    let at = c.requires.at in
    let on = lines.along c.args._text.now c.args.self.place c.args.count c.requires.within c.requires.in_line in
    record { within = c.requires.within; line = at.line ∙ sym on.line; column = omega (arith, at.column, on.column) }
