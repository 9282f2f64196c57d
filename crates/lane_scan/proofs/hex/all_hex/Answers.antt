-- The bytes behind the last vector, with those before.
use Rattle.std.proofs.Common.{◌≡◌, ◌-◌, List, ℕ, length, take, take_all, drop, sym, subst, arith}
use Rattle.std.specs.List.{All}
use Rattle.std.specs.Char.{IsAsciiHexdigit}
use Rattle.std.proofs.lemmas.List.{length-drop}
use Rattle.std.proofs.lemmas.List.Elements.{All-drop}
use Rattle.lane_scan.proofs.HexLemmas.{All-parts}
use Rattle.lane_scan.proofs.hex.all_hex.Goals as goal

pub returns : goal.returns
returns c =
    let bytes = c.args.bytes.now in
    let place = c.loop-place.place in
    let rest : take (length bytes - place) (drop place bytes) ≡ drop place bytes =
    take_all (length bytes - place) (drop place bytes) (omega (arith, length-drop place bytes)) in
    let P : List ℕ → Type 0 = All IsAsciiHexdigit in (
      λ yes. All-parts IsAsciiHexdigit bytes place c.loop-place.invariant.1 (subst P rest (c.are_all_hex.ensures.0 yes)),
      λ all. c.are_all_hex.ensures.1 (subst P (sym rest) (All-drop IsAsciiHexdigit place bytes all)),
    )
