-- Which memories of code stand for which of sources.
use Rattle.std.specs.Prelude.{◌≡◌, ℕ, List, ◌++◌, length, ℤ}
use Rattle.node_run.specs.Code.{CodeMemory}
use Rattle.capl_meaning.specs.Names.{names_of}
use Rattle.capl_meaning.specs.Store.{lay}
use Rattle.source_laws.specs.Code.{IsSourceCode}
use Rattle.source_laws.specs.Reaction.{SourceMemory}

-- The memory of code stands for that of a source. The code is that of the source's program, tasks have as
-- many turns, and behind any 15 cells, which the last event left, are those that the store is laid out in.
pub record StandsFor (memory : CodeMemory) (source : SourceMemory) : Type 0 where
  pub lines : List (List ℕ)
  pub code_is : IsSourceCode source.base source.program lines memory.code
  pub event : List ℤ
  pub event_has : length event ≡ 15
  pub cells : memory.cells ≡ event ++ lay (names_of source.base source.program) source.store
  pub turns : memory.turns ≡ source.turns
