-- A log line can name the interface of a scenario.
use Rattle.std.proofs.Common.{◌≡◌, ℕ, Bool, true, false, not, List, length, refl, arith}
use Rattle.std.specs.Prelude.{nat_le, ◌&&◌, ◌==◌}
use Rattle.std.specs.List.{list_all}
use Rattle.std.proofs.lemmas.Bool.Decides.{nat_tests}
use Rattle.std.proofs.lemmas.List.Elements.{All-weaker}
use Rattle.std.proofs.lemmas.List.Sums.{AllPass-from_list_all}
use Rattle.scenario.specs.Item.{is_interface, is_interface_byte}
use Rattle.log_line.specs.Reading.{IsInterface, IsPrintable}

both : (a b : Bool) → (a && b) ≡ true → (a ≡ true) × (b ≡ true)
both true b is = (refl, is)
both false b is = absurd (let e : false ≡ true = is in cc)

printable : (byte : ℕ) → is_interface_byte byte ≡ true → IsPrintable byte
printable byte is = grind (arith, nat_tests, is)

-- a log line can name an interface of a scenario
pub named : (name : List ℕ) → is_interface name ≡ true → IsInterface name
named name is =
    let one = both (not (length name == 0) && nat_le (length name) 15) (list_all is_interface_byte name) is in
    let two = both (not (length name == 0)) (nat_le (length name) 15) one.0 in
    let some = two.0 in
    let short = two.1 in
    record {
      some = grind (arith, nat_tests, some);
      short = grind (arith, nat_tests, short);
      printable = All-weaker (λ byte. is_interface_byte byte ≡ true) IsPrintable printable name (AllPass-from_list_all is_interface_byte name one.1);
    }
