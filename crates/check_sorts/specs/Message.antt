-- Messages in expressions, and their members, as the code has them.
use Rattle.std.specs.Prelude.{◌≡◌, Option, Some, slice_get}
use Rattle.std.specs.Option.{option_map}
use Rattle.capl_tree.specs.declared.expr.Expr.{Expr}
use Rattle.capl_meaning.specs.Message as meant
use Rattle.capl_meaning.specs.Names.{Names, Scope}
use Rattle.check_sorts.specs.declared.message.Held.{Held}
use Rattle.check_sorts.specs.declared.message.Held.TheVariants as held
use Rattle.check_sorts.specs.declared.message.Member.{Member}
use Rattle.check_sorts.specs.declared.message.Member.TheVariants as member
use Rattle.check_sorts.specs.declared.message.Places.{Places}
use Rattle.check_sorts.specs.Form.{signals_in}

-- the message that is held; a variable by its number among these
abbrev pub held_in : Names → Held → Option meant.Held
held_in names (held.Frame signals) = Some (meant.HeldFrame (signals_in signals))
held_in names (held.Variable number signals) =
    option_map (λ v. meant.HeldVariable v (signals_in signals)) (slice_get names.variables number)

-- what a name behind the point is
abbrev pub member_in : Member → meant.NamedMember
member_in (member.Field f) = meant.IsField f
member_in (member.Signal layout) = meant.IsSignal layout
member_in member.Unusable = meant.IsUnusable
member_in (member.Unknown by_name) = meant.IsUnknown by_name

-- an expression is an assignable place of a number, or is a message variable
abbrev pub ArePlaces : Scope → Expr → Places → Type 0
ArePlaces s e p = (p.number ≡ meant.is_number_place s e) × (p.message ≡ meant.is_message_place s e)
