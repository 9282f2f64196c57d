-- The statements so far lead to what the builder keeps.
use Rattle.std.proofs.Common.{List, length}
use Rattle.dbc_statements.specs.declared.statement.Statement.{Statement}
use Rattle.dbc_statements.specs.Token.{tokens_of}
use Rattle.dbc_reader.specs.Database.{Lead, nothing_said}
use Rattle.dbc_reader.specs.Inside.Builder.{Agree, said_of}
use Rattle.dbc_reader.proofs.reading.read.Given as goal

abbrev pub invariant-loop-line : goal.invariant-loop-line
invariant-loop-line l = record {
  agree : Agree l.builder;
  led : (statements : List Statement) × Lead nothing_said (tokens_of l.bytes) statements (said_of l.builder) l.cursor;
}

abbrev pub decreases-loop-line : goal.decreases-loop-line
decreases-loop-line l = length l.cursor
