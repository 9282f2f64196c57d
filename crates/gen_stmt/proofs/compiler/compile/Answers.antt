-- The weight that is told is the program's, or above the limit as it is.
use Rattle.std.proofs.Common.{◌<◌}
use Rattle.std.specs.Prelude.{IsErrOf}
use Rattle.capl_tree.specs.Weight.{weight}
use Rattle.typed_tree.specs.Size.{size}
use Rattle.gen_stmt.specs.Cells.{cell_count}
use Rattle.gen_stmt.specs.declared.compiler.CompileRefusal.TheVariants.{Size}
use Rattle.gen_stmt.proofs.Weighed.{bounded_told, refused_told}
use Rattle.gen_stmt.proofs.compiler.compile.Goals as goal

pub compile_weighed-requires-clause-bounded : goal.compile_weighed-requires-clause-bounded
compile_weighed-requires-clause-bounded c = λ small.
    bounded_told (size c.args.typed.now) c.weight_of.result (weight c.args.program.now) c.weight_of.ensures c.requires.bounded small

pub returns-clause-size : goal.returns-clause-size
returns-clause-size c =
    refused_told (IsErrOf c.compile_weighed.result Size) (1000000 < cell_count c.args.typed.now) c.weight_of.result
    (weight c.args.program.now) c.weight_of.ensures c.compile_weighed.ensures.size
