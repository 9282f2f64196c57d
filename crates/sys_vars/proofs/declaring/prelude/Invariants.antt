-- The declarations so far.
use Rattle.std.proofs.Common.{◌≡◌, ◌∷◌, ◌++◌, map, take}
use Rattle.std.specs.Prelude.{flat_map}
use Rattle.capl_lexer.specs.declared.token.Tok.TheVariants as tok
use Rattle.capl_lexer.specs.declared.token.Word.TheVariants as word
use Rattle.capl_lexer.specs.declared.token.Sign.TheVariants as sign
use Rattle.sys_vars.specs.Prelude.{timer_toks, unplaced, variable_toks}
use Rattle.sys_vars.proofs.declaring.prelude.Given as goal

abbrev pub invariant-loop-item : goal.invariant-loop-item
invariant-loop-item l =
    l.tokens.items ≡ map unplaced (tok.Word word.Variables ∷ tok.Sign sign.OpenBrace ∷ flat_map variable_toks (take l.item-index l.items))

abbrev pub invariant-loop-item-2 : goal.invariant-loop-item-2
invariant-loop-item-2 l =
    l.tokens.items ≡ map unplaced
    (tok.Word word.Variables ∷ tok.Sign sign.OpenBrace ∷ (flat_map variable_toks l.items ++ flat_map timer_toks (take l.item-index l.items)))
