-- Lines and columns of a text.
use Rattle.std.specs.Prelude.{All, ◌≡◌, ℕ, ◌+◌, List, ◌++◌, length, codes, decimal, ◌==◌, ◌≢◌}
use Rattle.std.specs.List.{count_by}
use Rattle.sheet_text.specs.Places.{WholeLines}
use Rattle.jobs.specs.declared.position.TextPosition.{TextPosition}

-- How many line ends (byte 10) a list of bytes has.
abbrev pub line_ends : List ℕ → ℕ
line_ends bs = count_by (λ b. b == 10) bs

-- Where the end of some bytes is: whole lines, and then the part of a line that stands there. Lines and columns count from 1.
pub record EndsAt (bytes : List ℕ) (position : TextPosition) : Type 0 where
  pub lines : List ℕ
  pub part : List ℕ
  pub parts : bytes ≡ lines ++ part
  pub whole : WholeLines lines
  pub inside : All (λ b. b ≢ 10) part
  pub line : position.line ≡ 1 + line_ends lines
  pub column : position.column ≡ 1 + length part

-- A position as it is printed.
abbrev pub position_text : TextPosition → List ℕ
position_text p = codes "line " ++ (decimal p.line ++ (codes ", column " ++ decimal p.column))
