-- Room for the formats of the parts of a statement, where there is room for those of the whole.
use Rattle.std.proofs.Common.{◌≡◌, ◌<◌, ◌^◌, ◌++◌, ◌∙◌, List, append_assoc, length, length-append, sym, ap, subst, arith}
use Rattle.write_format.specs.Line.{FormatText}

-- there are numbers for so many formats
abbrev pub HaveNumbers : List FormatText → Type 0
HaveNumbers formats = length formats < 2 ^ 32

-- the same formats have them
pub room_same : (old one other : List FormatText) → one ≡ other → HaveNumbers (old ++ one) → HaveNumbers (old ++ other)
room_same old one other same room = subst (λ l. HaveNumbers (old ++ l)) same room

-- the first of two parts has them
pub room_first : (old a b : List FormatText) → HaveNumbers (old ++ (a ++ b)) → HaveNumbers (old ++ a)
room_first old a b room = omega (arith, room, length-append old (a ++ b), length-append a b, length-append old a)

-- and so has the other behind it
pub room_rest : (old middle a b : List FormatText) → middle ≡ old ++ a → HaveNumbers (old ++ (a ++ b)) → HaveNumbers (middle ++ b)
room_rest old middle a b is room =
    subst HaveNumbers (sym (append_assoc old a b) ∙ ap (λ l. l ++ b) (sym is)) room

-- the first two of three parts have them
pub room_two : (old a b c : List FormatText) → HaveNumbers (old ++ (a ++ (b ++ c))) → HaveNumbers ((old ++ a) ++ b)
room_two old a b c room =
    omega (
      arith,
      room,
      length-append old (a ++ (b ++ c)),
      length-append a (b ++ c),
      length-append b c,
      length-append (old ++ a) b,
      length-append old a,
    )

-- and so has the third behind them
pub room_third : (old middle a b c given : List FormatText) → middle ≡ (old ++ a) ++ b → given ≡ c → HaveNumbers (old ++ (a ++ (b ++ c))) →
    HaveNumbers (middle ++ given)
room_third old middle a b c given is same room =
    omega (
      arith,
      room,
      ap length is,
      ap length same,
      length-append old (a ++ (b ++ c)),
      length-append a (b ++ c),
      length-append b c,
      length-append (old ++ a) b,
      length-append old a,
      length-append middle given,
    )
