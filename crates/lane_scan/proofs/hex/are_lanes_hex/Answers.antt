-- No lane is outside exactly where each byte is a digit.
use Rattle.std.proofs.Common.{ℕ, cond, ltb, bit_or, bit_and, refl, arith}
use Rattle.std.specs.Simd.Lanes.{chunk}
use Rattle.std.proofs.lemmas.Simd.{zip2_splat, zip2_splat_left, zip2_of_maps, length-chunk}
use Rattle.lane_scan.proofs.HexLemmas.{digits_in_lanes}
use Rattle.lane_scan.proofs.hex.are_lanes_hex.Goals as goal

pub returns : goal.returns
returns c =
    let v = chunk c.args.place 16 c.args.bytes.now in
    let long = length-chunk c.args.place 16 c.args.bytes.now c.requires in
    let less = λ (byte : ℕ). zip2_splat {Y = ℕ} {Z = ℕ} (λ a b. cond (ltb a b) 255 0) v 16 byte long in
    let more = λ (byte : ℕ). zip2_splat_left {X = ℕ} {Z = ℕ} (λ a b. cond (ltb a b) 255 0) byte 16 v long in
    digits_in_lanes c.args.bytes.now c.args.place 16 _ _ c.requires (omega arith) c.type_inv.bytes
    (zip2_of_maps bit_or _ _ v (zip2_of_maps bit_or _ _ v (zip2_of_maps bit_or _ _ v (less 48) (zip2_of_maps bit_and _ _ v (more 57) (less 65))) (zip2_of_maps bit_and _ _ v (more 70) (less 97))) (more 102))
    refl
