-- How hashes are kept while they are needed.
use Rattle.std.proofs.Common.{◌≡◌, ℕ, ◌+◌, ◌-◌, ◌<◌, ◌≤◌, Some, None, List, [], ◌∷◌, length, refl, sym, ◌∙◌, ap, ⊎_elim, arith}
use Rattle.std.proofs.lemmas.Bool.{cases_eq, cases_lt}
use Rattle.clvm_spec.specs.Tree.{Tree, Atom, Pair, nil}
use Rattle.clvm_spec.specs.Hashing.{atom_hash, tree_hash}
use Rattle.clvm_tree.specs.Nodes.{tree_at}
use Rattle.clvm_tree.specs.Arena.{trees_of}
use Rattle.clvm_tree.specs.Kept.{kept_at, Keeps}
use Rattle.clvm_tree.specs.Uses.{use_of, IsReady}
use Rattle.clvm_tree.specs.declared.entry.Entry.{Entry}
use Rattle.clvm_tree.specs.declared.arena.TheConstants.{FIRST_COUNT}
use Rattle.clvm_tree.specs.declared.kept.Kept.{Kept}
use Rattle.clvm_tree.proofs.ArenaLaws.{nil_stands, byte_stands}

atom_is : (trees : List Tree) (uses : List ℕ) (kept : Kept) (place node : ℕ) (bytes hash : List ℕ) (tree : Tree) → tree_at trees node ≡ tree → IsReady trees uses kept place place → node < place → place ≤ use_of uses node → kept_at kept node ≡ None
    → ((atom : List ℕ) → tree_at trees node ≡ Atom atom → bytes ≡ atom) → hash ≡ atom_hash bytes → hash ≡ tree_hash (tree_at trees node)
atom_is trees uses kept place node bytes hash (Atom atom) is ready earlier used none same hashed = hashed ∙ ap atom_hash (same atom is) ∙ ap tree_hash (sym is)
atom_is trees uses kept place node bytes hash (Pair first rest) is ready earlier used none same hashed =
    let there = ready.there node first rest earlier used is in
    let clash : None ≡ Some there.0 = sym none ∙ there.1 in
    absurd cc

-- A node that is used and not kept is an atom.
pub hash_of_atom : (trees : List Tree) (uses : List ℕ) (kept : Kept) (place node : ℕ) (bytes hash : List ℕ) → IsReady trees uses kept place place → node < place → place ≤ use_of uses node → kept_at kept node ≡ None
    → ((atom : List ℕ) → tree_at trees node ≡ Atom atom → bytes ≡ atom) → hash ≡ atom_hash bytes → hash ≡ tree_hash (tree_at trees node)
hash_of_atom trees uses kept place node bytes hash = atom_is trees uses kept place node bytes hash (tree_at trees node) refl

pub ready_put : (trees : List Tree) (uses : List ℕ) (old new : Kept) (node made from : ℕ) (hash : List ℕ) → IsReady trees uses old made from → Keeps old new node (Some hash) → hash ≡ tree_hash (tree_at trees node) → IsReady trees uses new made from
ready_put trees uses old new node made from hash ready keeps is = record {
  long = keeps.long ∙ ready.long;
  right = λ k h at. ⊎_elim
      (λ (same : k ≡ node). let e : Some h ≡ Some hash = sym at ∙ ap (kept_at new) same ∙ keeps.changed in let one : h ≡ hash = cc in one ∙ is ∙ ap (λ i. tree_hash (tree_at trees i)) (sym same))
      (λ (other : k ≡ node → ⊥). ready.right k h (sym (keeps.others k other) ∙ at))
      (cases_eq k node);
  there = λ k first rest below used is_pair. ⊎_elim
      (λ (same : k ≡ node). (hash, ap (kept_at new) same ∙ keeps.changed))
      (λ (other : k ≡ node → ⊥). let there = ready.there k first rest below used is_pair in (there.0, keeps.others k other ∙ there.1))
      (cases_eq k node);
}

pub ready_remove : (trees : List Tree) (uses : List ℕ) (old new : Kept) (node made from : ℕ) → IsReady trees uses old made from → Keeps old new node None → use_of uses node < from → IsReady trees uses new made from
ready_remove trees uses old new node made from ready keeps past = record {
  long = keeps.long ∙ ready.long;
  right = λ k h at. ⊎_elim
      (λ (same : k ≡ node). let e : Some h ≡ None = sym at ∙ ap (kept_at new) same ∙ keeps.changed in absurd cc)
      (λ (other : k ≡ node → ⊥). ready.right k h (sym (keeps.others k other) ∙ at))
      (cases_eq k node);
  there = λ k first rest below used is_pair. ⊎_elim
      (λ (same : k ≡ node). absurd (omega (arith, past, used, ap (use_of uses) same)))
      (λ (other : k ≡ node → ⊥). let there = ready.there k first rest below used is_pair in (there.0, keeps.others k other ∙ there.1))
      (cases_eq k node);
}

pub ready_later : (trees : List Tree) (uses : List ℕ) (kept : Kept) (made from : ℕ) → IsReady trees uses kept made from → IsReady trees uses kept made (from + 1)
ready_later trees uses kept made from ready = record {
  long = ready.long;
  right = ready.right;
  there = λ k first rest below used is_pair. ready.there k first rest below (omega (arith, used)) is_pair;
}

-- The node at the place is no pair that is used again, or it is kept.
ready_next : (trees : List Tree) (uses : List ℕ) (kept : Kept) (place : ℕ) → IsReady trees uses kept place (place + 1)
    → ((first rest : Tree) → place + 1 ≤ use_of uses place → tree_at trees place ≡ Pair first rest → (hash : List ℕ) × (kept_at kept place ≡ Some hash)) → IsReady trees uses kept (place + 1) (place + 1)
ready_next trees uses kept place ready here = record {
  long = ready.long;
  right = ready.right;
  there = λ k first rest below used is_pair. ⊎_elim
      (λ (same : k ≡ place).
      let there = here first rest (omega (arith, used, ap (use_of uses) same)) (ap (tree_at trees) (sym same) ∙ is_pair) in
      (there.0, ap (kept_at kept) same ∙ there.1))
      (λ (other : k ≡ place → ⊥). ready.there k first rest (omega (arith, below)) used is_pair)
      (cases_eq k place);
}

pub ready_pair : (trees : List Tree) (uses : List ℕ) (old new : Kept) (place : ℕ) (hash : List ℕ) → IsReady trees uses old place (place + 1) → Keeps old new place (Some hash) → hash ≡ tree_hash (tree_at trees place) → IsReady trees uses new (place + 1) (place + 1)
ready_pair trees uses old new place hash ready keeps is =
    ready_next trees uses new place (ready_put trees uses old new place place (place + 1) hash ready keeps is) (λ first rest used is_pair. (hash, keeps.changed))

pub ready_atom : (trees : List Tree) (uses : List ℕ) (kept : Kept) (place : ℕ) (atom : List ℕ) → IsReady trees uses kept place place → tree_at trees place ≡ Atom atom → IsReady trees uses kept (place + 1) (place + 1)
ready_atom trees uses kept place atom ready is =
    ready_next trees uses kept place (ready_later trees uses kept place place ready) (λ first rest used is_pair. let clash : Atom atom ≡ Pair first rest = sym is ∙ is_pair in absurd cc)

-- The first nodes are no pairs.
none_first : (bytes : List ℕ) (entries : List Entry) (k : ℕ) (first rest : Tree) → k < FIRST_COUNT → tree_at (trees_of bytes entries) k ≡ Pair first rest → ⊥
none_first bytes entries k first rest below is_pair =
    let trees = trees_of bytes entries in
    ⊎_elim
    (λ (same : k < 1).
    let at : k ≡ 0 = omega (arith, same) in
    let clash : nil ≡ Pair first rest = sym (nil_stands bytes entries trees refl) ∙ ap (tree_at trees) (sym at) ∙ is_pair in absurd cc)
    (λ (some : 1 ≤ k).
    let at : k ≡ k - 1 + 1 = omega (arith, some) in
    let clash : Atom ((k - 1) ∷ []) ≡ Pair first rest = sym (byte_stands bytes entries trees (k - 1) refl (omega (arith, some, below))) ∙ ap (tree_at trees) (sym at) ∙ is_pair in absurd cc)
    (cases_lt k 1)

pub ready_first : (bytes : List ℕ) (entries : List Entry) (uses : List ℕ) (kept : Kept) → length kept.slots.items ≡ length uses → ((node : ℕ) → kept_at kept node ≡ None) → IsReady (trees_of bytes entries) uses kept FIRST_COUNT FIRST_COUNT
ready_first bytes entries uses kept long none = record {
  long = long;
  right = λ k hash at. let clash : None ≡ Some hash = sym (none k) ∙ at in absurd cc;
  there = λ k first rest below used is_pair. absurd (none_first bytes entries k first rest below is_pair);
}

-- Below the first entry no pair is there.
pub ready_low : (bytes : List ℕ) (entries : List Entry) (uses : List ℕ) (kept : Kept) (made from low : ℕ) → IsReady (trees_of bytes entries) uses kept made from → low ≤ FIRST_COUNT → IsReady (trees_of bytes entries) uses kept low low
ready_low bytes entries uses kept made from low ready small = record {
  long = ready.long;
  right = ready.right;
  there = λ k first rest below used is_pair. absurd (none_first bytes entries k first rest (omega (arith, below, small)) is_pair);
}
