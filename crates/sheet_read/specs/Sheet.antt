-- RULES 11: the sheet that a text says, an array of 32 lines and a count. Definitions only.
use Rattle.std.specs.Prelude.{map, length, Option, option_map}
use Rattle.sheet_line.specs.Line.{line_of, blank_line}
use Rattle.sheet_read.specs.Form.{Bank}
use Rattle.sheet_read.specs.Padded.{padded}
use Rattle.sheet_read.specs.declared.Sheet.{Sheet}

-- the count is of all lines, so that more than 32 can be told
unfoldable pub sheet_of : Bank → Sheet
sheet_of b = record { need = b.need; lines = padded blank_line 32 (map line_of b.cylinders); count = length b.cylinders }

-- none of a text that is not in the form
abbrev pub sheet_read : Option Bank → Option Sheet
sheet_read = option_map sheet_of
