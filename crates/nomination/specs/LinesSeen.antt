-- What a line of the program shows.
use Rattle.nomination.specs.Lines.{Line}
use Rattle.nomination.specs.declared.line.TextLine.{TextLine}

-- Its bytes, and whether it is ended.
abbrev pub line_shown : TextLine → Line
line_shown l = record { ended = l.ended; bytes = l.bytes.now }
