-- Its fields are those of the entry.
use Rattle.log_line.proofs.WrittenLemmas.{line_reads}
use Rattle.log_line.proofs.laws.written_lines_read.Goals as goal

pub returns : goal.returns
returns c = line_reads
