-- What the library writes of a number with leading zeros.
use Rattle.std.proofs.Common.{◌≡◌, ℕ, ◌-◌, ◌^◌, List, [], ◌++◌, length, replicate, Some, false, append-nil, arith, ap, ◌∙◌}
use Rattle.std.specs.Prelude.{◌==◌, decimal}
use Rattle.std.specs.Fmt.{padded_integral, format_spec, char_count, digits_output, styled_decimal, styled_digits_output}
use Rattle.text_parts.specs.Number.{zero_filled, hexadecimal}

-- a numeral behind the zeros that a width asks for
pub zero_filled_is : (width : ℕ) (numeral : List ℕ) → padded_integral (format_spec 32 0 4 width (2 ^ 64 - 1)) false [] numeral ≡ zero_filled width numeral
unfolding padded_integral char_count
zero_filled_is width numeral =
    let zeros : width - length numeral - 0 - 0 ≡ width - length numeral = omega arith in
    ap (λ l. replicate (width - length numeral - 0 - 0) 48 ++ l) (append-nil numeral) ∙ ap (λ n. replicate n 48 ++ numeral) zeros

-- a number's decimal digits behind the zeros that a width asks for
pub decimal_is : (style : _) (width number : ℕ) → (width == 0) ≡ false → style ≡ format_spec 32 0 4 width (2 ^ 64 - 1)
    → styled_decimal style number ≡ zero_filled width (decimal number)
decimal_is style width number some is = rw (is, some) (zero_filled_is width (decimal number))

-- a number's hexadecimal digits behind the zeros that a width asks for
pub hexadecimal_is : (shown : _) (style : _) (width number : ℕ) → digits_output shown ≡ Some (hexadecimal number) → style ≡ format_spec 32 0 4 width (2 ^ 64 - 1)
    → styled_digits_output shown style ≡ Some (zero_filled width (hexadecimal number))
hexadecimal_is shown style width number digits is =
    rw (is, digits) (ap Some (zero_filled_is width (hexadecimal number)))
