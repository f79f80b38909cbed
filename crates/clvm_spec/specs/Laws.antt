-- The laws of spelling, reading, numbers and division, each over all trees, bytes and whole numbers. They follow from the
-- definitions, and so hold of each program whose contract is one of these.
use Rattle.std.specs.Prelude.{◌≡◌, ℕ, ◌<◌, ◌≤◌, ◌↔◌, false, ℤ, pos, ◌+ℤ◌, ◌*ℤ◌, ◌<ℤ◌, ◌≤ℤ◌, FitsSigned, List, [], ◌++◌, length, Some}
use Rattle.std.specs.Int.{w128}
use Rattle.std.specs.List.{AllByRecursion}
use Rattle.clvm_spec.specs.declared.limits.TheConstants.{NUMBER_BYTES}
use Rattle.clvm_spec.specs.Tree.{Tree}
use Rattle.clvm_spec.specs.Spelling.{spelling, HasSpelling, Spells}
use Rattle.clvm_spec.specs.Reading.{Flaw, Head, Flawed, head_at, Found, Faulty, tree_at_front, HasTree, front_read, tree_of}
use Rattle.clvm_spec.specs.Faults.{BeginOpen, HasFault}
use Rattle.clvm_spec.specs.Numbers.{number, shortest_atom, has_sign_byte}
use Rattle.clvm_spec.specs.Arithmetic.{quotient, remainder}

abbrev pub AreBytes : List ℕ → Type 0
AreBytes bytes = AllByRecursion (λ b. b < 256) bytes

-- A tree has at most one spelling.
abbrev pub HasOneSpelling : Type 0
HasOneSpelling = (tree : Tree) (a b : List ℕ) → Spells tree a → Spells tree b → a ≡ b

-- Where one spelling begins another, both are of one tree, and nothing follows.
abbrev pub BeginsNoOther : Type 0
BeginsNoOther = (tree other : Tree) (rest : List ℕ) → HasSpelling tree → HasSpelling other → spelling other ≡ spelling tree ++ rest → (tree ≡ other) × (rest ≡ [])

-- A spelled tree is found, whatever follows it.
abbrev pub FindsSpelled : Type 0
FindsSpelled = (tree : Tree) (rest : List ℕ) → HasSpelling tree → tree_at_front (spelling tree ++ rest) ≡ Found tree rest

-- So reading answers the tree, and how many bytes spell it.
abbrev pub ReadsSpelled : Type 0
ReadsSpelled = (tree : Tree) (rest : List ℕ) → HasSpelling tree → front_read (spelling tree ++ rest) ≡ HasTree tree (length (spelling tree))

-- A tree that is found is spelled there.
abbrev pub FoundIsSpelled : Type 0
FoundIsSpelled = (bytes : List ℕ) (tree : Tree) (rest : List ℕ) → AreBytes bytes → tree_at_front bytes ≡ Found tree rest → HasSpelling tree × (bytes ≡ spelling tree ++ rest)

-- A flaw is found exactly behind the longest list of heads that leaves trees open, where it is why no head stands.
abbrev pub FaultIsFound : Type 0
FaultIsFound = (bytes : List ℕ) (flaw : Flaw) (rest : List ℕ) → AreBytes bytes → (tree_at_front bytes ≡ Faulty flaw rest) ↔ HasFault bytes flaw rest

-- A flaw behind any list of heads that leaves trees open is found, so that list is the longest.
abbrev pub FlawIsFound : Type 0
FlawIsFound = (bytes : List ℕ) (heads : List Head) (flaw : Flaw) (rest : List ℕ) → BeginOpen bytes heads rest → head_at rest ≡ Flawed flaw → tree_at_front bytes ≡ Faulty flaw rest

-- Bytes are read as a whole tree exactly where they spell it.
abbrev pub WholeIsSpelled : Type 0
WholeIsSpelled = (bytes : List ℕ) (tree : Tree) → AreBytes bytes → (tree_of bytes ≡ Some tree) ↔ Spells tree bytes

-- The shortest atom of a number has that number.
abbrev pub ShortestHasNumber : Type 0
ShortestHasNumber = (n : ℤ) → FitsSigned w128 n → number (shortest_atom n) ≡ n

-- An atom without a byte that says no more than the sign is the shortest of its number.
abbrev pub ShortestIsItself : Type 0
ShortestIsItself = (atom : List ℕ) → AreBytes atom → length atom ≤ NUMBER_BYTES → has_sign_byte atom ≡ false → shortest_atom (number atom) ≡ atom

-- No atom that a number of 128 bits may have is shorter than the shortest of its number.
abbrev pub ShortestIsLeast : Type 0
ShortestIsLeast = (atom : List ℕ) → AreBytes atom → length (shortest_atom (number atom)) ≤ length atom

-- A number is the divisor times the quotient, and the remainder.
abbrev pub RemainderIsLeft : Type 0
RemainderIsLeft = (number divisor : ℤ) → number ≡ (divisor *ℤ quotient number divisor) +ℤ remainder number divisor

-- The quotient is rounded down: by a divisor above 0 what is left is at least 0, and below the divisor;
abbrev pub RoundsDownAboveZero : Type 0
RoundsDownAboveZero = (number divisor : ℤ) → pos 0 <ℤ divisor → (pos 0 ≤ℤ remainder number divisor) × (remainder number divisor <ℤ divisor)

-- by a divisor below 0 it is at most 0, and above the divisor.
abbrev pub RoundsDownBelowZero : Type 0
RoundsDownBelowZero = (number divisor : ℤ) → divisor <ℤ pos 0 → (divisor <ℤ remainder number divisor) × (remainder number divisor ≤ℤ pos 0)
