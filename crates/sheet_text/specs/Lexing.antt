-- What the lexer does to the words that are left.
use Rattle.std.specs.Prelude.{◌≡◌, Some, None, Ok, Err, Option, Result}
use Rattle.sheet_text.specs.Words.{token}
use Rattle.sheet_text.specs.Cuts.{Tokens, stop, bad, next, gap, tokens_from}
use Rattle.faults.specs.declared.text.TextFault.{TextFault}
use Rattle.faults.specs.declared.text.TextFault.TheVariants.{Byte}
use Rattle.sheet_text.specs.declared.lexer.Lexer.{Lexer}
use Rattle.sheet_text.specs.declared.word.Word.{Word}

-- The words that are left to a lexer.
abbrev pub stream : Lexer → Tokens
stream l = tokens_from l.text.now gap l.at

-- The first of the words was drawn, and `after` are the others.
abbrev pub Drew : Tokens → Result Word TextFault → Tokens → Type 0
Drew ts (Ok w) after = ts ≡ next (token w) after
Drew ts (Err (Byte p)) after = ts ≡ bad p

-- What a lexer gives: the first of its words, or nothing where none is left.
abbrev pub Draws : Lexer → Option (Result Word TextFault) → Lexer → Type 0
Draws l (Some r) k = Drew (stream l) r (stream k)
Draws l None k = stream l ≡ stop
