-- A frame that is made has its fields in range.
use Rattle.std.proofs.Common.{◌≡◌, ◌≤◌, length, arith, rules}
use Rattle.can_frame.proofs.Payload.{padded_past, data_len_of-le}
use Rattle.can_frame.proofs.Frame.make.Goals as goal

pub invariant_of-result : goal.invariant_of-result
invariant_of-result c =
    let len = c.data_len_of.result in
    let len_fits : len ≤ 8 = let few = data_len_of-le c.args.rtr c.args.dlc in omega arith in
    let eight : length c.args.payload ≡ 8 = search rules in
    record {
      ident_in_range = search rules;
      dlc_in_range = omega arith;
      can_from_one = omega arith;
      can_to_two = omega arith;
      eight_bytes = search rules;
      bytes = search rules;
      zeros_past = λ k past. rw c.first_bytes.ensures (padded_past len c.args.payload len_fits eight k (omega arith));
    }

pub returns-clause-valid : goal.returns-clause-valid
returns-clause-valid c = invariant_of-result c
