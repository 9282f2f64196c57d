-- What its table had, and one more in it.
use Rattle.std.proofs.Common.{◌≡◌, ◌∙◌, ◌∷◌, ℕ, List, ap, refl, subst, sym}
use Rattle.capl_meaning.specs.ProcedureRules.{ForFrames, ForKey, Told, channels_of, collide}
use Rattle.capl_meaning.specs.ProcedureRules as meant
use Rattle.std.specs.List.{list_any}
use Rattle.check_names.specs.Inside.Covered.{Covers}
use Rattle.check_names.specs.Inside.Purpose.{IsOrdinary, purpose_of}
use Rattle.check_names.specs.Inside.Ranges.{meet}
use Rattle.check_names.proofs.PurposeLemmas.{known_key, known_numbers, more_numbers, more_timers, told_first, told_second}
use Rattle.check_names.proofs.purposes.Purposes.add.Goals as goal

pub returns-in_ok-known-in-Frames-clause-known : goal.returns-in_ok-known-in-Frames-clause-known
returns-in_ok-known-in-Frames-clause-known c = λ earlier knows.
    let b : meant.Purpose = ForFrames (channels_of c.in-Frames.chan) c.in-Frames.keys in
    known_numbers c.args.self.now earlier (purpose_of c.args.purpose) b c.in_ok-known-in-Frames.known knows
    (ap purpose_of c.in-Frames.is) c.requires tt
    (λ first second one other. c.in_ok-known-in-Frames.ensures.known first second one other)

pub returns-in_ok-known-in-Frames-clause-taken : goal.returns-in_ok-known-in-Frames-clause-taken
returns-in_ok-known-in-Frames-clause-taken c = λ earlier told same knows.
    let is = ap purpose_of c.in-Frames.is in
    more_numbers c.args.self.now _ earlier told (ForFrames (channels_of c.in-Frames.chan) c.in-Frames.keys) (same ∙ is) tt
    (subst IsOrdinary is c.requires) knows (c.in_ok-known-in-Frames.ensures.first (told_first earlier) knows.first)
    (c.in_ok-known-in-Frames.ensures.second (told_second earlier) knows.second) c.in_ok-known-in-Frames.ensures.timers

pub returns-in_ok-known-in-Key-clause-known : goal.returns-in_ok-known-in-Key-clause-known
returns-in_ok-known-in-Key-clause-known c = λ earlier knows.
    known_numbers c.args.self.now earlier (purpose_of c.args.purpose) (ForKey c.in-Key.key) c.in_ok-known-in-Key.known knows
    (ap purpose_of c.in-Key.is) c.requires tt
    (λ first second one other. c.in_ok-known-in-Key.ensures.known first one
    ∙ ap (λ (n : ℕ). list_any (meet (n, n)) first) c.number_of_key-number.ensures
    ∙ known_key c.in-Key.key first second)

pub returns-in_ok-known-in-Key-clause-taken : goal.returns-in_ok-known-in-Key-clause-taken
returns-in_ok-known-in-Key-clause-taken c = λ earlier told same knows.
    let is = ap purpose_of c.in-Key.is in
    more_numbers c.args.self.now _ earlier told (ForKey c.in-Key.key) (same ∙ is) tt (subst IsOrdinary is c.requires) knows
    (subst (λ (n : ℕ). Covers c.add.new.self ((n, n) ∷ told_first earlier)) c.number_of_key-number.ensures
    (c.in_ok-known-in-Key.ensures.taken (told_first earlier) knows.first)) knows.second refl

pub returns-in_ok-known-in-Timer-clause-known : goal.returns-in_ok-known-in-Timer-clause-known
returns-in_ok-known-in-Timer-clause-known c = λ earlier knows.
    let timer : purpose_of c.args.purpose ≡ meant.ForTimer c.bytes.result.now =
    ap purpose_of c.in-Timer.is ∙ ap (λ (n : List ℕ). meant.ForTimer n) (sym c.bytes.ensures) in
    c.in_ok-known-in-Timer.ensures.known ∙ knows.timers c.bytes.result.now
    ∙ ap (λ (p : meant.Purpose). list_any (λ (t : Told). collide p t.purpose) earlier) (sym timer)

pub returns-in_ok-known-in-Timer-clause-taken : goal.returns-in_ok-known-in-Timer-clause-taken
returns-in_ok-known-in-Timer-clause-taken c = λ earlier told same knows.
    let timer : told.purpose ≡ meant.ForTimer c.bytes.result.now =
    same ∙ ap purpose_of c.in-Timer.is ∙ ap (λ (n : List ℕ). meant.ForTimer n) (sym c.bytes.ensures) in
    more_timers c.args.self.now _ earlier told c.bytes.result.now timer knows refl refl (λ other. c.in_ok-known-in-Timer.ensures.noted other)
