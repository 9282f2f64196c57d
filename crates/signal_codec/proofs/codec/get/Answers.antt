-- The bits of the signal, less 2 to the length where the first one is set and the signal is signed.
use Rattle.std.proofs.Common.{◌≡◌, ℕ, ◌<◌, get_or, length, ◌/◌, ◌^◌, bit_and, ap, sym, ◌∙◌, subst, rules}
use Rattle.signal_codec.specs.Signal.{CanHave}
use Rattle.signal_codec.proofs.GetLemmas.{signal_value-read}
use Rattle.signal_codec.proofs.Values.{CanHave-signal_value, sign_of}
use Rattle.signal_codec.proofs.codec.get.Goals as goal
use Rattle.signal_codec.proofs.codec.get.Goals.{then-l, else-l}

pub overflow_sub-result : goal.overflow_sub-result
overflow_sub-result c =
    let bits = bit_and (c.word.result / 2 ^ c.lowest_place.result) c.low_ones.result in
    let sign : c.if-l.sign ≡ sign_of c.args.l.now.signed bits c.args.l.now.len =
    elim c.if-l.branch [
      | then-l w ↦ w.sign-is ∙ ap (λ s. sign_of s bits c.args.l.now.len) (sym w.if-l.true)
      | else-l w ↦ w.sign-is ∙ ap (λ s. sign_of s bits c.args.l.now.len) (sym w.if-l.false)
    ] in
    let eight : length c.args.payload.now ≡ 8 = search rules in
    let bytes : (i : ℕ) → get_or c.args.payload.now i 0 < 256 = search rules in
    (signal_value-read c.args.l.now c.args.payload.now c.word.result c.lowest_place.result c.low_ones.result c.if-l.sign
    c.requires eight bytes c.word.ensures c.lowest_place.ensures.place c.low_ones.ensures sign).0

pub returns-clause-value : goal.returns-clause-value
returns-clause-value c =
    let bits = bit_and (c.word.result / 2 ^ c.lowest_place.result) c.low_ones.result in
    let sign : c.if-l.sign ≡ sign_of c.args.l.now.signed bits c.args.l.now.len =
    elim c.if-l.branch [
      | then-l w ↦ w.sign-is ∙ ap (λ s. sign_of s bits c.args.l.now.len) (sym w.if-l.true)
      | else-l w ↦ w.sign-is ∙ ap (λ s. sign_of s bits c.args.l.now.len) (sym w.if-l.false)
    ] in
    let eight : length c.args.payload.now ≡ 8 = search rules in
    let bytes : (i : ℕ) → get_or c.args.payload.now i 0 < 256 = search rules in
    (signal_value-read c.args.l.now c.args.payload.now c.word.result c.lowest_place.result c.low_ones.result c.if-l.sign
    c.requires eight bytes c.word.ensures c.lowest_place.ensures.place c.low_ones.ensures sign).1

pub returns-clause-in_range : goal.returns-clause-in_range
returns-clause-in_range c = subst (CanHave c.args.l.now) (sym (returns-clause-value c)) (CanHave-signal_value c.args.l.now c.args.payload.now c.requires.at_least_one)
