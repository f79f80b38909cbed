-- What `curry` writes. Source: this project's own.
use Rattle.std.specs.Prelude.{ℕ, List, ◌++◌}
use Rattle.clvm_spec.specs.Tree.{Tree}
use Rattle.clvm_spec.specs.Lines.{line_feed}
use Rattle.clvm_spec.specs.Currying.{curried}
use Rattle.tool_eval.specs.Outcomes.{tree_words}
use Rattle.tool_eval.specs.declared.Style.TheVariants.{Hexadecimal}

-- a tree in hexadecimal, unless its spelling is too long, as a line
abbrev pub line_of : Tree → List ℕ
line_of tree = tree_words Hexadecimal tree ++ line_feed

-- the line of a program curried with arguments
abbrev pub curry_line : (program : Tree) (arguments : List Tree) → List ℕ
curry_line program arguments = line_of (curried program arguments)
