-- Lines that are read in place.
use Rattle.log_line.specs.declared.line.Entry.{Entry}
use Rattle.log_line.specs.declared.line.EntryView.{EntryView}
use Rattle.log_line.specs.declared.line.Line.{Line}
use Rattle.log_line.specs.declared.line.Line.TheVariants as line
use Rattle.log_line.specs.declared.line.LineView.{LineView}
use Rattle.log_line.specs.declared.line.LineView.TheVariants as view

-- the entry that is read in place
abbrev pub entry_of : EntryView → Entry
entry_of entry =
    record {
      seconds = entry.seconds;
      micros = entry.micros;
      interface = entry.interface.now;
      frame = entry.frame;
    }

-- the line that is read in place
abbrev pub line_of : LineView → Line
line_of (view.Entry entry) = line.Entry (entry_of entry)
line_of view.Skip = line.Skip
line_of view.Empty = line.Empty
