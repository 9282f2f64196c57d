-- The run of name bytes is a reserved word or a name.
use Rattle.std.proofs.Common.{sym, subst}
use Rattle.capl_lexer.specs.Inside.Front.{IsTokenFront}
use Rattle.capl_lexer.specs.declared.token.Tok.{Tok}
use Rattle.capl_lexer.proofs.FrontLemmas.{word_front, name_front}
use Rattle.capl_lexer.proofs.front.name_or_word.Goals as goal
use Rattle.capl_lexer.proofs.front.name_or_word.Goals.{in-Some, in-None+in_ok-make-in-None}

pub returns : goal.returns
returns c =
    let P : Tok → Type 0 = λ tok. IsTokenFront c.args.text.now (record { tok = tok; length = c.run-length.result }) in
    elim c.match-reserved_word.branch [
      | in-Some w ↦ subst P (sym w.tok-is) (word_front c.args.text.now c.run-length.result w.in-Some.word c.requires c.run-length.ensures w.in-Some.ensures)
      | in-None+in_ok-make-in-None w ↦ subst P (sym w.tok-is)
          (name_front c.args.text.now c.run-length.result w.in_ok-make-in-None.field-0 c.requires c.run-length.ensures w.in-None.ensures w.in_ok-make-in-None.ensures)
    ]
