-- The tokens are those of the bytes that were read.
use Rattle.std.proofs.Common.{◌∙◌, ◌<◌, ◌^◌, ap, sym, subst, length, arith}
use Rattle.std.specs.Prelude.{All}
use Rattle.capl_include.proofs.expansion.read_tokens.Goals as goal

pub returns-in-Ok-lex-clause-text : goal.returns-in-Ok-lex-clause-text
returns-in-Ok-lex-clause-text g c =
    let many = ap length c.deref-2.ensures.value in
    record {
      text = c.deref-2.result.now;
      bytes = subst (All (λ byte. byte < 2 ^ 8)) (c.deref.ensures.value ∙ sym c.deref-2.ensures.value) c.are_bytes.ensures;
      short = omega (arith, many, c.in-Ok.ensures.within_limit);
      reading = c.in-Ok-lex.ensures.reading;
    }
