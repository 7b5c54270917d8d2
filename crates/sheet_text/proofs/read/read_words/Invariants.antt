use Rattle.sheet_text.proofs.Running.{Going}
use Rattle.sheet_text.proofs.read.read_words.Given as goal

abbrev pub invariant-loop-word : goal.invariant-loop-word
invariant-loop-word l =
    (goal.iterator-loop-word).can_next l.word-iterator
    × (goal.iterator-loop-word).is_finite l.word-iterator
    × Going l.text l.word-iterator l.draft
