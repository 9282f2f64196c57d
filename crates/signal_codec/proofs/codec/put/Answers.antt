-- The word with the signal's bits replaced.
use Rattle.std.proofs.Common.{◌≡◌, ℕ, ◌<◌, get_or, length, rules}
use Rattle.std.specs.Prelude.{FitsSigned}
use Rattle.std.specs.Int.{w128}
use Rattle.std.proofs.lemmas.Int.{to_z-of_z}
use Rattle.signal_codec.proofs.Values.{CanHave-signal_value}
use Rattle.signal_codec.proofs.PutLemmas.{payload_with-written, Congruent-written, payload_bit-written}
use Rattle.signal_codec.proofs.codec.put.Goals as goal

pub returns-clause-payload : goal.returns-clause-payload
returns-clause-payload c =
    let fits : FitsSigned w128 c.args.n = c.ranges.n in
    let word_of_n = simp to_z-of_z at c.cast_unsigned.ensures in
    let written = rw word_of_n at c.bytes.ensures in
    payload_with-written c.args.l.now c.args.payload.now c.bytes.result c.word.result c.lowest_place-lowest.result c.low_ones-ones.result c.args.n
    c.requires.layout fits c.lowest_place-lowest.ensures.place c.low_ones-ones.ensures written
    (record { eight = search rules; bytes = search rules }) c.word.ensures

pub returns-clause-congruent : goal.returns-clause-congruent
returns-clause-congruent c =
    let fits : FitsSigned w128 c.args.n = c.ranges.n in
    let word_of_n = simp to_z-of_z at c.cast_unsigned.ensures in
    let written = rw word_of_n at c.bytes.ensures in
    Congruent-written c.args.l.now c.args.payload.now c.bytes.result c.word.result c.lowest_place-lowest.result c.low_ones-ones.result c.args.n
    c.requires.layout fits c.lowest_place-lowest.ensures.place c.low_ones-ones.ensures written

pub returns-clause-in_range : goal.returns-clause-in_range
returns-clause-in_range c = CanHave-signal_value c.args.l.now c.bytes.result c.requires.layout.at_least_one

pub returns-clause-others : goal.returns-clause-others
returns-clause-others c =
    let fits : FitsSigned w128 c.args.n = c.ranges.n in
    let word_of_n = simp to_z-of_z at c.cast_unsigned.ensures in
    let written = rw word_of_n at c.bytes.ensures in
    let eight : length c.args.payload.now ≡ 8 = search rules in
    let bytes : (i : ℕ) → get_or c.args.payload.now i 0 < 256 = search rules in
    payload_bit-written c.args.l.now c.args.payload.now c.bytes.result c.word.result c.lowest_place-lowest.result c.low_ones-ones.result c.args.n
    c.requires.layout fits c.lowest_place-lowest.ensures.place c.low_ones-ones.ensures written eight bytes c.word.ensures
