-- What the type of a byte says.
use Rattle.std.proofs.Common.{◌<◌, ◌^◌, ℕ, subst}
use Rattle.std.proofs.lemmas.List.{get_or_default}
use Rattle.capl_include.proofs.expansion.are_bytes.Goals as goal

pub returns : goal.returns
returns c = λ k d within.
    let fits = (c.type_inv.text k).fits in
    subst (λ (byte : ℕ). byte < 2 ^ 8) (get_or_default c.args.text.now k 0 d within) fits
