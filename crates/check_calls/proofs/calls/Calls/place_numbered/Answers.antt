-- Numbers that rise are searched.
use Rattle.std.proofs.Common.{◌<◌, ◌≤◌, Err, ℕ, List, get_or, length, subst, sym}
use Rattle.std.proofs.lemmas.List.Sorted.{searched}
use Rattle.check_calls.proofs.ComponentLemmas.{absent, rise_below}
use Rattle.check_calls.proofs.calls.Calls.place_numbered.Goals as goal

pub returns-in-Err : goal.returns-in-Err
returns-in-Err c = λ names are.
    let numbers = c.args.self.now.numbers.items in
    let xs = c.deref.result.now in
    let i = c.in-Err.field-0 in
    let rising = subst (λ (l : List ℕ). (a b : ℕ) → a ≤ b → b < length l → get_or l a 0 ≤ get_or l b 0) (sym c.deref.ensures.value) (rise_below numbers are.rising) in
    let found = searched xs c.args.number (Err i) c.in-Err.ensures.position rising in
    absent numbers xs c.args.number i c.deref.ensures.value found.1 found.2
