-- That `get` reads the number of a signal.
use Rattle.std.proofs.Common.{◌≡◌, ℕ, ◌-◌, ◌*◌, ◌/◌, ◌%◌, ◌^◌, ◌<◌, ◌≤◌, List, length, get_or, bit_and, arith, ap, sym, ◌∙◌}
use Rattle.std.specs.Prelude.{ℤ, pos, ◌+ℤ◌, ◌-ℤ◌, FitsSigned}
use Rattle.std.specs.Int.{cast_signed, cast_unsigned, w128}
use Rattle.std.proofs.lemmas.Int.{ints}
use Rattle.std.proofs.lemmas.Nat.{and_mask}
use Rattle.std.proofs.Math.Nat.{mod-eq_of_lt}
use Rattle.signal_codec.specs.Place.{lowest_place, word_of}
use Rattle.signal_codec.specs.Signal.{bit_numbers, natural_of, signal_value, IsUsable}
use Rattle.signal_codec.specs.declared.layout.Layout.{Layout}
use Rattle.signal_codec.proofs.Values.{natural_of-bit_numbers, sign_of, signal_value-bits}
use Rattle.signal_codec.proofs.Words.{payload_bit-is}

-- what the code computes from the bits and the sign
shown : (bits move : ℕ) (v : ℤ) → bits < 2 ^ 64 → move ≤ 2 ^ 64 → v +ℤ pos move ≡ pos bits
    → FitsSigned w128 (cast_signed w128 bits -ℤ cast_signed w128 (move % 2 ^ 128)) × (cast_signed w128 (cast_unsigned w128 (cast_signed w128 bits -ℤ cast_signed w128 (move % 2 ^ 128))) ≡ v)
shown bits move v few less e =
    let whole : move % 2 ^ 128 ≡ move = mod-eq_of_lt (omega arith) in
    (omega (arith, ints), omega (arith, ints))

bits_read : (l : Layout) (payload : List ℕ) (w low ones : ℕ) → IsUsable l → length payload ≡ 8 → ((i : ℕ) → get_or payload i 0 < 256)
    → w ≡ word_of l payload → low ≡ lowest_place l → ones ≡ 2 ^ l.len - 1 → natural_of payload (bit_numbers l) ≡ bit_and (w / 2 ^ low) ones
bits_read l payload w low ones u eight bytes word place mask =
    natural_of-bit_numbers l payload (word_of l payload) u (λ b h. payload_bit-is l payload b eight bytes h)
    ∙ (λ i. sym word i / 2 ^ sym place i % 2 ^ l.len)
    ∙ sym (ap (bit_and (w / 2 ^ low)) mask ∙ and_mask (w / 2 ^ low) l.len)

-- what the code computes fits, and is the number of the signal
pub signal_value-read : (l : Layout) (payload : List ℕ) (w low ones sign : ℕ) → IsUsable l → length payload ≡ 8 → ((i : ℕ) → get_or payload i 0 < 256)
    → w ≡ word_of l payload → low ≡ lowest_place l → ones ≡ 2 ^ l.len - 1 → sign ≡ sign_of l.signed (bit_and (w / 2 ^ low) ones) l.len
    → FitsSigned w128 (cast_signed w128 (bit_and (w / 2 ^ low) ones) -ℤ cast_signed w128 (sign * 2 ^ l.len % 2 ^ 128))
    × (cast_signed w128 (cast_unsigned w128 (cast_signed w128 (bit_and (w / 2 ^ low) ones) -ℤ cast_signed w128 (sign * 2 ^ l.len % 2 ^ 128))) ≡ signal_value l payload)
signal_value-read l payload w low ones sign u eight bytes word place mask is =
    let r = signal_value-bits l payload (bit_and (w / 2 ^ low) ones) sign u (bits_read l payload w low ones u eight bytes word place mask) is in
    shown (bit_and (w / 2 ^ low) ones) (sign * 2 ^ l.len) (signal_value l payload) r.0 r.1 r.3
