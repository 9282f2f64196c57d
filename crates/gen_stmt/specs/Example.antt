-- Programs with one event procedure, which show what the compiler takes.
use Rattle.std.specs.Prelude.{List, [], ◌∷◌, ◌++◌, pos}
use Rattle.int_kinds.specs.declared.kinds.Kind.TheVariants.{Byte, Char}
use Rattle.message_cells.specs.Message.{message_kinds}
use Rattle.run_effects.specs.declared.event.Event.TheVariants.{Start}
use Rattle.typed_tree.specs.declared.program.Typed.{Typed}
use Rattle.typed_tree.specs.declared.statement.TStmt.{TStmt}

-- `byte b = 255; on start { .. }` with these statements, where cell 15 is `b`
abbrev pub on_start : List TStmt → Typed
on_start body = record {
  functions = [];
  handlers = record { event = Start; body = body; file = 0; line = 1 } ∷ [];
  cells = message_kinds ++ Char ∷ Byte ∷ [];
  starts = (15, pos 255) ∷ [];
  timers = [];
  formats = [];
}
