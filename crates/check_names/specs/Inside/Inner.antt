-- Parameters and locals that are declared for the second time, of all procedures at once.
use Rattle.std.specs.Prelude.{Bool, ◌&&◌, nat_lt}
use Rattle.texts.specs.Rule.{source_rule}
use Rattle.capl_meaning.specs.declared.offence.Offence.{Offence}
use Rattle.capl_meaning.specs.Variable.{Variable}
use Rattle.check_names.specs.Inside.Table.{is_named}

-- a variable in a procedure has the name of another one in it
abbrev pub same_inside : Variable → Variable → Bool
same_inside a b = nat_lt 0 a.owner && is_named a.owner a.name b

-- E10 at a variable's name
abbrev pub inner_offence : Variable → Offence
inner_offence v = record { file = v.file; token = v.token; rule = source_rule 10 }
