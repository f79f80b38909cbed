-- What the calls that read a tree answer, by what stands at the front of the bytes. Source: this project's own.
use Rattle.std.specs.Prelude.{◌≡◌, ℕ, ◌≤◌, List, [], ◌∷◌, length, take, Option, Some, None}
use Rattle.clvm_spec.specs.Tree.{Tree}
use Rattle.clvm_spec.specs.Spelling.{Spells}
use Rattle.clvm_spec.specs.Reading.{Read, Found, Faulty, with_first, with_both, tree_at_front, HasTree, HasFlaw, front_read, IsFlawed, IsLonger, whole_read}
use Rattle.clvm_spec.specs.Reading
use Rattle.clvm_tree.specs.Nodes.{tree_at, IsKnown}
use Rattle.clvm_tree.specs.declared.Node.{Node}
use Rattle.clvm_tree.specs.declared.ReadFault.{ReadFault}
use Rattle.clvm_tree.specs.declared.ReadFault.TheVariants.{Cut, LongSpelling, BadPrefix, Left, OutOfMemory}

-- The node is the tree at the front, and so many bytes spell it.
pub record IsReadAs (trees : List Tree) (bytes : List ℕ) (node count : ℕ) : Type 0 where
  pub known : IsKnown trees node
  pub within : count ≤ length bytes
  pub read : front_read bytes ≡ HasTree (tree_at trees node) count
  pub spelled : Spells (tree_at trees node) (take count bytes)

-- The fault is the first flaw that a reader meets who walks from the front.
abbrev pub IsReadFault : List ℕ → ReadFault → Type 0
IsReadFault bytes Cut = (place : ℕ) × (front_read bytes ≡ HasFlaw Reading.Cut place)
IsReadFault bytes (LongSpelling place) = front_read bytes ≡ HasFlaw Reading.LongSpelling place
IsReadFault bytes (BadPrefix place) = front_read bytes ≡ HasFlaw Reading.BadPrefix place
IsReadFault bytes (Left place) = ⊥
IsReadFault bytes OutOfMemory = Unit {0}

-- the same where the tree is to be all of the bytes
abbrev pub IsWholeFault : List ℕ → ReadFault → Type 0
IsWholeFault bytes Cut = (place : ℕ) × (whole_read bytes ≡ IsFlawed Reading.Cut place)
IsWholeFault bytes (LongSpelling place) = whole_read bytes ≡ IsFlawed Reading.LongSpelling place
IsWholeFault bytes (BadPrefix place) = whole_read bytes ≡ IsFlawed Reading.BadPrefix place
IsWholeFault bytes (Left place) = whole_read bytes ≡ IsLonger place
IsWholeFault bytes OutOfMemory = Unit {0}

-- what is read in all, where pairs are open, the outermost first: of each nothing yet, or its first
abbrev pub resumed : List Tree → List (Option Node) → Read → Read
resumed trees [] read = read
resumed trees (None ∷ begun) read = with_both tree_at_front (resumed trees begun read)
resumed trees (Some first ∷ begun) read = with_first (tree_at trees first.0) (resumed trees begun read)

abbrev pub AreOpen : List Tree → List (Option Node) → Type 0
AreOpen trees [] = Unit {0}
AreOpen trees (None ∷ begun) = AreOpen trees begun
AreOpen trees (Some first ∷ begun) = IsKnown trees first.0 × AreOpen trees begun

-- After a tree is read, the open pairs that end with it are closed: either all are, or one awaits its rest.
abbrev pub Closes : List Tree → List (Option Node) → Tree → List Tree → List (Option Node) → Option Node → Type 0
Closes old begun tree new still (Some whole) =
    IsKnown new whole.0 × ((rest : List ℕ) → resumed old begun (Found tree rest) ≡ Found (tree_at new whole.0) rest)
Closes old begun tree new still None =
    AreOpen new still × ((rest : List ℕ) → resumed old begun (Found tree rest) ≡ resumed new still (tree_at_front rest))
