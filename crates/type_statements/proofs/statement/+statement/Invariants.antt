-- What was made and what is to be made is what is made of all, and so are the formats.
use Rattle.std.proofs.Common.{◌≡◌, ◌++◌, drop, length}
use Rattle.typed_source.specs.Program.{body_of, formats_of_body}
use Rattle.check_sorts.specs.Scope.{scope_in}
use Rattle.type_statements.specs.Rows.{arms_in, formats_in_arms, formats_in_groups, groups_in}
use Rattle.type_alone.specs.Tables.{order_of}
use Rattle.type_statements.proofs.statement.+statement.Given as goal

abbrev pub invariant-make_body-loop-statement : goal.invariant-make_body-loop-statement
invariant-make_body-loop-statement l = record {
  trees : l.made.items
      ++ body_of (scope_in l.scope) (order_of l.tables) (length l.formats.items) (drop l.statement-index l.statements)
      ≡ body_of (scope_in l.scope) (order_of l.tables) (length l.fn.formats.items) l.statements;
  formats : l.formats.items ++ formats_of_body (scope_in l.scope) (drop l.statement-index l.statements)
      ≡ l.fn.formats.items ++ formats_of_body (scope_in l.scope) l.statements;
}

abbrev pub invariant-make_arms-loop-arm : goal.invariant-make_arms-loop-arm
invariant-make_arms-loop-arm l = record {
  trees : l.made.items
      ++ arms_in (scope_in l.scope) (order_of l.tables) (length l.formats.items) (drop l.arm-index l.arms)
      ≡ arms_in (scope_in l.scope) (order_of l.tables) (length l.fn.formats.items) l.arms;
  formats : l.formats.items ++ formats_in_arms (scope_in l.scope) (drop l.arm-index l.arms)
      ≡ l.fn.formats.items ++ formats_in_arms (scope_in l.scope) l.arms;
}

abbrev pub invariant-make_groups-loop-group : goal.invariant-make_groups-loop-group
invariant-make_groups-loop-group l = record {
  trees : l.made.items
      ++ groups_in (scope_in l.scope) (order_of l.tables) l.kind (length l.formats.items) (drop l.group-index l.groups)
      ≡ groups_in (scope_in l.scope) (order_of l.tables) l.kind (length l.fn.formats.items) l.groups;
  formats : l.formats.items ++ formats_in_groups (scope_in l.scope) (drop l.group-index l.groups)
      ≡ l.fn.formats.items ++ formats_in_groups (scope_in l.scope) l.groups;
}
