-- The code keeps the verifier's rules and means its tree, by the laws.
use Rattle.std.proofs.Common.{subst}
use Rattle.bytecode.specs.Refusal.{IsRefusalOf}
use Rattle.gen_stmt.proofs.compiler.verified_code.Goals as goal

pub verify-requires : goal.verify-requires
verify-requires c =
    c.code_is_verified.ensures.short c.args.typed.now c.in_ok-code.code c.requires.sound c.requires.size c.in_ok-code.ensures

pub returns-in-Ok-clause-code : goal.returns-in-Ok-clause-code
returns-in-Ok-clause-code c = rw c.in-Ok.ensures.same c.in_ok-code.ensures

pub returns-in-Ok-clause-means : goal.returns-in-Ok-clause-means
returns-in-Ok-clause-means c =
    rw c.in-Ok.ensures.same (c.code_means_its_tree.ensures c.args.typed.now c.in_ok-code.code c.requires.sound c.in_ok-code.ensures)

pub unreachable-requires : goal.unreachable-requires
unreachable-requires c =
    let code = c.in_ok-code.code in
    let refused = subst (IsRefusalOf code) c.in-Err-Unverified.field-0-is c.in-Err-Unverified.ensures.unverified in
    c.code_is_verified.ensures.accepted c.args.typed.now code c.requires.sound c.requires.size c.in_ok-code.ensures _ refused.0
