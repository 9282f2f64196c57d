-- What a procedure sees of `this`.
use Rattle.std.specs.Prelude.{◌≡◌, ⊤}
use Rattle.capl_meaning.specs.Names.{ThisForm, NoThis, ThisFrame, ThisKey}
use Rattle.capl_meaning.specs.Store.{This}

-- two events are the same as far as `this` of a form shows: nothing, the frame, or the key
abbrev pub SameSeen : ThisForm → This → This → Type 0
SameSeen NoThis a b = ⊤
SameSeen (ThisFrame signals) a b = a.frame ≡ b.frame
SameSeen ThisKey a b = a.key ≡ b.key
