-- The lines of a capture that bear data.
use Rattle.std.specs.Prelude.{ℕ, ◌+◌, String}
use Rattle.std.specs.Global.{Global}
use Rattle.std.specs.Io.Iter.{u64_saturate}
use Rattle.data_lines.specs.declared.DataLine.{DataLine}

-- the first line has the number 1; the highest number also stands for every line behind it
abbrev pub line_number : ℕ → ℕ
line_number index = u64_saturate (index + 1)

-- the line with this text, so many lines behind the first
abbrev pub data_line : ℕ → String Global → DataLine
data_line index text = record { number = line_number index; text = text }
