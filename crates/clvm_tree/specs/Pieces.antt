-- What the reader's pieces stand for. Source: this project's own.
use Rattle.clvm_spec.specs.Reading.{Beginning, Begins, Flawed, PairMark}
use Rattle.clvm_spec.specs.Reading
use Rattle.clvm_tree.specs.declared.heads.Piece.{Piece}
use Rattle.clvm_tree.specs.declared.heads.Piece.TheVariants.{Open, Leaf, Cut, LongSpelling, BadPrefix}

abbrev pub beginning_of : Piece → Beginning
beginning_of (Open rest) = Begins PairMark rest.now
beginning_of (Leaf atom rest) = Begins (Reading.Leaf atom.now) rest.now
beginning_of Cut = Flawed Reading.Cut
beginning_of LongSpelling = Flawed Reading.LongSpelling
beginning_of BadPrefix = Flawed Reading.BadPrefix
