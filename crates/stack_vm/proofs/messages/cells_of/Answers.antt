-- A cell for each of the eight bytes.
use Rattle.std.proofs.Common.{◌≡◌, sym, ap, map, length, rules}
use Rattle.std.specs.Prelude.{pos}
use Rattle.stack_vm.proofs.ListLemmas.{eight_items}
use Rattle.stack_vm.proofs.NumberLemmas.{got}
use Rattle.stack_vm.proofs.messages.cells_of.Goals as goal

pub returns : goal.returns
returns c =
    let long : length c.args.bytes ≡ 8 = search rules in
    rw (
      got c.from.result _ (record { sfits = c.from.type_inv }) c.from.ensures,
      got c.from-2.result _ (record { sfits = c.from-2.type_inv }) c.from-2.ensures,
      got c.from-3.result _ (record { sfits = c.from-3.type_inv }) c.from-3.ensures,
      got c.from-4.result _ (record { sfits = c.from-4.type_inv }) c.from-4.ensures,
      got c.from-5.result _ (record { sfits = c.from-5.type_inv }) c.from-5.ensures,
      got c.from-6.result _ (record { sfits = c.from-6.type_inv }) c.from-6.ensures,
      got c.from-7.result _ (record { sfits = c.from-7.type_inv }) c.from-7.ensures,
      got c.from-8.result _ (record { sfits = c.from-8.type_inv }) c.from-8.ensures,
    )
    (sym (ap (map pos) (eight_items c.args.bytes long)))
