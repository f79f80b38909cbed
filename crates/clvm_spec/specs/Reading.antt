-- The tree whose spelling stands at the front of bytes, or the first flaw that a reader meets who walks from the
-- front. Source: serialization of the CLVM reference; the kinds of flaw and their order are this project's own.
use Rattle.std.specs.Prelude.{ℕ, zero, suc, ◌+◌, ◌*◌, ◌-◌, ◌==◌, List, [], ◌∷◌, length, take, drop, nat_lt, if◌then◌else◌, Option, Some, None}
use Rattle.clvm_spec.specs.Tree.{Tree, Atom, Pair}
use Rattle.clvm_spec.specs.Places.{place_of}
use Rattle.clvm_spec.specs.Spelling.{is_bare, pair_mark}

pub data Flaw : Type 0 where
  -- The bytes end before the tree does.
  Cut : Flaw
  -- A shorter prefix, or none, could spell the atom.
  LongSpelling : Flaw
  -- 0xf8 to 0xfe begin no tree.
  BadPrefix : Flaw

-- how a tree begins: with the mark of a pair, or with the spelling of one atom
pub data Head : Type 0 where
  PairMark : Head
  Leaf : List ℕ → Head

-- a head and the bytes after it, or why no head stands at the front
pub data Beginning : Type 0 where
  Begins : Head → List ℕ → Beginning
  Flawed : Flaw → Beginning

-- One byte below 0x80 needs no prefix.
abbrev pub leaf : List ℕ → List ℕ → Beginning
leaf [] rest = Begins (Leaf []) rest
leaf (b ∷ []) rest = if is_bare b then Flawed LongSpelling else Begins (Leaf (b ∷ [])) rest
leaf (b ∷ c ∷ atom) rest = Begins (Leaf (b ∷ c ∷ atom)) rest

-- an atom of this many bytes, behind its prefix: where bytes are missing, the tree is cut
abbrev pub atom_behind : ℕ → List ℕ → Beginning
atom_behind size bytes = if nat_lt (length bytes) size then Flawed Cut else leaf (take size bytes) (drop size bytes)

-- the same, where a shorter prefix serves for lengths below the least one
abbrev pub long_atom : ℕ → ℕ → List ℕ → Beginning
long_atom least size bytes = if nat_lt size least then Flawed LongSpelling else atom_behind size bytes

-- the same, where so many bytes of the prefix, the lower ones of the size, are still to come: a prefix may be cut, too
abbrev pub prefixed : (more least size : ℕ) → List ℕ → Beginning
prefixed zero least size bytes = long_atom least size bytes
prefixed (suc more) least size [] = Flawed Cut
prefixed (suc more) least size (b ∷ rest) = prefixed more least (size * 256 + b) rest

-- A first byte of a prefix has the high bits of the length.
unfoldable pub head_at : List ℕ → Beginning
head_at [] = Flawed Cut
head_at (b ∷ rest) =
    if is_bare b then Begins (Leaf (b ∷ [])) rest
    else if nat_lt b 0xc0 then atom_behind (b - 0x80) rest
    else if nat_lt b 0xe0 then prefixed 1 0x40 (b - 0xc0) rest
    else if nat_lt b 0xf0 then prefixed 2 0x2000 (b - 0xe0) rest
    else if nat_lt b 0xf8 then prefixed 3 0x10_0000 (b - 0xf0) rest
    else if b == pair_mark then Begins PairMark rest
    else Flawed BadPrefix

-- the tree at the front and the bytes after it, or the flaw and the bytes from its place on
pub data Read : Type 0 where
  Found : Tree → List ℕ → Read
  Faulty : Flaw → List ℕ → Read

abbrev pub and_then : Read → (Tree → List ℕ → Read) → Read
and_then (Found tree rest) go = go tree rest
and_then (Faulty flaw rest) go = Faulty flaw rest

-- a pair of this first, and of its rest as it is read
abbrev pub with_first : Tree → Read → Read
with_first first rest = and_then rest (λ second last. Found (Pair first second) last)

-- a pair of its first as it is read, and of what is read behind
abbrev pub with_both : (List ℕ → Read) → Read → Read
with_both read first = and_then first (λ tree more. with_first tree (read more))

abbrev pub from_head : (List ℕ → Read) → List ℕ → Beginning → Read
from_head read bytes (Flawed flaw) = Faulty flaw bytes
from_head read bytes (Begins (Leaf atom) rest) = Found (Atom atom) rest
from_head read bytes (Begins PairMark rest) = with_both read (read rest)

-- A pair takes a byte, so no tree nests deeper than there are bytes, and the first number only bounds the recursion.
abbrev pub tree_within : ℕ → List ℕ → Read
tree_within zero bytes = Faulty Cut bytes
tree_within (suc depth) bytes = from_head (tree_within depth) bytes (head_at bytes)

unfoldable pub tree_at_front : List ℕ → Read
tree_at_front bytes = tree_within (suc (length bytes)) bytes

-- what a reader answers: the tree at the front and how many bytes spell it, or the first flaw and its place
pub data FrontRead : Type 0 where
  HasTree : (tree : Tree) (count : ℕ) → FrontRead
  HasFlaw : (flaw : Flaw) (place : ℕ) → FrontRead

abbrev pub front_of : List ℕ → Read → FrontRead
front_of bytes (Found tree rest) = HasTree tree (place_of bytes rest)
front_of bytes (Faulty flaw from) = HasFlaw flaw (place_of bytes from)

abbrev pub front_read : List ℕ → FrontRead
front_read bytes = front_of bytes (tree_at_front bytes)

-- the same where the tree is to be all of the bytes
pub data Whole : Type 0 where
  IsTree : (tree : Tree) → Whole
  IsFlawed : (flaw : Flaw) (place : ℕ) → Whole
  -- Bytes are left behind the tree, from this place on.
  IsLonger : (place : ℕ) → Whole

abbrev pub whole_of : ℕ → FrontRead → Whole
whole_of size (HasTree tree count) = if count == size then IsTree tree else IsLonger count
whole_of size (HasFlaw flaw place) = IsFlawed flaw place

abbrev pub whole_read : List ℕ → Whole
whole_read bytes = whole_of (length bytes) (front_read bytes)

-- the tree that bytes spell, all of the bytes
abbrev pub if_tree : Whole → Option Tree
if_tree (IsTree tree) = Some tree
if_tree (IsFlawed flaw place) = None
if_tree (IsLonger place) = None

abbrev pub tree_of : List ℕ → Option Tree
tree_of bytes = if_tree (whole_read bytes)
