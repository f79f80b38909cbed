-- Bytes that are exactly one spelled tree, and not too many. Source: CLVM reference; the limit is this project's own.
use Rattle.std.specs.Prelude.{ℕ, ◌&&◌, Bool, List, length, nat_le, Option, Some, None, is_some, unwrap_or, if◌then◌else◌}
use Rattle.clvm_spec.specs.declared.limits.TheConstants.{MOST_SPELLED}
use Rattle.clvm_spec.specs.Tree.{Tree, nil}
use Rattle.clvm_spec.specs.Reading.{tree_of}

-- how many bytes are not too many
abbrev pub most_spelled : ℕ
most_spelled = MOST_SPELLED

abbrev pub is_spelled : List ℕ → Bool
is_spelled bytes = is_some (tree_of bytes) && nat_le (length bytes) most_spelled

abbrev pub if_spelled : List ℕ → Option (List ℕ)
if_spelled bytes = if is_spelled bytes then Some bytes else None

-- the tree that such bytes spell
abbrev pub spelled_tree : List ℕ → Tree
spelled_tree bytes = unwrap_or (tree_of bytes) nil
