-- The numbers on the first channel, and those on the second.
use Rattle.std.proofs.Common.{◌∙◌, ◌++◌, ◌||◌, Bool, ap, subst}
use Rattle.capl_meaning.specs.ProcedureRules.{channels_of, hold_first}
use Rattle.check_names.specs.Inside.Covered.{Covers}
use Rattle.check_names.specs.Inside.Purpose.{any_meet, numbers_where}
use Rattle.check_names.proofs.purposes.Purposes.add_frames.Goals as goal

pub returns-clause-known : goal.returns-clause-known
returns-clause-known c = λ first second one other.
    ap (λ (b : Bool). b || c.in_ok-second.second)
    (c.in_ok-first.ensures.known first one ∙ ap (λ (holds : Bool). any_meet (numbers_where holds c.args.keys) first) c.holds_first.ensures)
    ∙ ap (λ (b : Bool). any_meet (numbers_where (hold_first (channels_of c.args.chan)) c.args.keys) first || b)
    (c.in_ok-second.ensures.known second other ∙ ap (λ (holds : Bool). any_meet (numbers_where holds c.args.keys) second) c.holds_second.ensures)

pub returns-clause-first : goal.returns-clause-first
returns-clause-first c = λ all covers.
    subst (λ (holds : Bool). Covers c.add_where.new.numbers (numbers_where holds c.args.keys ++ all)) c.holds_first.ensures
    (c.in_ok-first.ensures.taken all covers)

pub returns-clause-second : goal.returns-clause-second
returns-clause-second c = λ all covers.
    subst (λ (holds : Bool). Covers c.add_where-2.new.numbers (numbers_where holds c.args.keys ++ all)) c.holds_second.ensures
    (c.in_ok-second.ensures.taken all covers)
