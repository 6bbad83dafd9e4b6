-- What a written line of the program holds.
use Rattle.std.specs.Prelude.{ℕ, List}
use Rattle.nomination.specs.declared.line_text.LineText.{LineText}

-- Its text is the bytes of the string.
abbrev pub text_held : LineText → List ℕ
text_held line = line.text.bytes
