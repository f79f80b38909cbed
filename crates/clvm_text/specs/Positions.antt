-- Where a node stands that is to be printed. Source: this project's own.
use Rattle.clvm_spec.specs.Text as text
use Rattle.clvm_text.specs.declared.printer.Position.{Position}
use Rattle.clvm_text.specs.declared.printer.Position.TheVariants.{Head, Alone, Rest}

abbrev pub position_of : Position → text.Position
position_of Head = text.AsHead
position_of Alone = text.Alone
position_of Rest = text.AsRest
