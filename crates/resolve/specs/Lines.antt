-- The lines of an input, each with its number.
use Rattle.std.specs.Prelude.{ℕ, ◌+◌, List}
use Rattle.std.specs.List.{enumerate_from}
use Rattle.std.specs.Str.Lines.{lines}
use Rattle.resolve.specs.declared.lines.Lines.{Lines}

-- the lines of the bytes, numbered from `first`
abbrev pub numbered_lines : ℕ → List ℕ → List (ℕ × List ℕ)
numbered_lines first bytes = enumerate_from first (lines bytes)

-- the lines that have not been read yet
abbrev pub lines_left : Lines → List (ℕ × List ℕ)
lines_left it = numbered_lines (it.number + 1) it.rest.now
