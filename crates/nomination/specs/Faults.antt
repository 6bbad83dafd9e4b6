-- The faults of a text.
use Rattle.std.specs.Prelude.{ℕ}
use Rattle.nomination.specs.declared.fault.FaultReport.{FaultReport}
use Rattle.nomination.specs.declared.fault.TextFault.{TextFault}
use Rattle.nomination.specs.declared.fault.TextFault.TheVariants.{TooLong, BadLine, BadField}

abbrev pub reported : ℕ → ℕ → ℕ → FaultReport
reported n l f = record { number = n; line = l; field = f }

-- A text that is too long is 11, a bad line 12 and a bad field 13, each with its line and field, 0 where it has none.
abbrev pub text_report : TextFault → FaultReport
text_report TooLong = reported 11 0 0
text_report (BadLine l) = reported 12 l 0
text_report (BadField l f) = reported 13 l f
