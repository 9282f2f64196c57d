-- The end of a file.
use Rattle.std.proofs.Common.{◌≡◌, ◌≢◌, ℕ, false, length, List, [], ◌∷◌, refl}
use Rattle.capl_lexer.specs.declared.token.Tok.{Tok}
use Rattle.parser_laws.specs.File.{is_end}

-- where tokens are left, they do not end
pub no_end : (n : ℕ) (ts : List Tok) → n ≡ length ts → n ≢ 0 → is_end ts ≡ false
no_end n [] none some = absurd (some none)
no_end n (first ∷ ts) many some = refl
