-- The word for a layer.
use Rattle.std.specs.Prelude.{ℕ, List, codes}
use Rattle.faults.specs.declared.layer.Layer.{Layer}
use Rattle.faults.specs.declared.layer.Layer.TheVariants.{Text, Sheet, Book}

abbrev pub layer_word : Layer → List ℕ
layer_word Text = codes "text"
layer_word Sheet = codes "sheet"
layer_word Book = codes "book"
