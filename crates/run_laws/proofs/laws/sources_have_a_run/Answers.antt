-- Nodes with accepted sources are ready before the measurement, and do each task, so they have a run.
use Rattle.run_laws.specs.Sources.{first_source_nodes}
use Rattle.run_laws.proofs.FirstNodes.{first_later, first_ready}
use Rattle.run_laws.proofs.laws.sources_have_a_run.Goals as goal

pub returns : goal.returns
returns g c base turns programs accepted until b keys requests sound new =
    c.each_run.ensures until (first_source_nodes base turns programs) b keys requests (first_ready base turns programs accepted) (first_later base turns programs) sound new
    (λ k d within. tt) (λ k d within sent. tt) (λ frame carries sent. tt)
