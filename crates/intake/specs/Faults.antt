-- The faults of a nomination file: number, line and field of each, and the layer that finds it.
use Rattle.nomination.specs.Faults.{reported, text_report}
use Rattle.nomination.specs.declared.fault.FaultReport.{FaultReport}
use Rattle.intake.specs.declared.fault.BookFault.{BookFault}
use Rattle.intake.specs.declared.fault.BookFault.TheVariants.{OtherLength, FilesFull, KnownKey, BookFull}
use Rattle.intake.specs.declared.fault.FileFault.{FileFault}
use Rattle.intake.specs.declared.fault.FileFault.TheVariants as file
use Rattle.intake.specs.declared.fault.Layer.{Layer}
use Rattle.intake.specs.declared.fault.Layer.TheVariants as layer
use Rattle.intake.specs.declared.fault.RegisterFault.{RegisterFault}
use Rattle.intake.specs.declared.fault.RegisterFault.TheVariants.{UnknownFiler, OtherDate, UnknownNorth, UnknownSouth, AbsentFiler, NoSuchPeriod}

-- A header that does not fit the register or the day is 14, a line's party 15, its period 9.
abbrev pub register_report : RegisterFault → FaultReport
register_report UnknownFiler = reported 14 1 4
register_report OtherDate = reported 14 1 5
register_report (UnknownNorth l) = reported 15 l 3
register_report (UnknownSouth l) = reported 15 l 4
register_report (AbsentFiler l) = reported 15 l 0
register_report (NoSuchPeriod l) = reported 9 l 2

-- Books of another length are 3, a key that is known 16, and no space 17, for a file at line 1 and for an entry at its line.
abbrev pub book_report : BookFault → FaultReport
book_report OtherLength = reported 3 0 0
book_report FilesFull = reported 17 1 0
book_report (KnownKey l) = reported 16 l 0
book_report (BookFull l) = reported 17 l 0

-- A file's fault is told as the fault that it carries.
abbrev pub file_report : FileFault → FaultReport
file_report (file.Text f) = text_report f
file_report (file.Register f) = register_report f
file_report (file.Book f) = book_report f

abbrev pub file_layer : FileFault → Layer
file_layer (file.Text f) = layer.Text
file_layer (file.Register f) = layer.Register
file_layer (file.Book f) = layer.Book
