-- What is kept for nodes: each has its own place in a slab, and a place that was given to another node since holds
-- nothing for it. Source: this project's own.
use Rattle.std.specs.Prelude.{◌≡◌, ◌≢◌, ℕ, ◌==◌, List, length, Option, Some, None, slice_index_or, if◌then◌else◌}
use Rattle.slab.specs.Slab.{get}
use Rattle.clvm_tree.specs.declared.kept.Slot.{Slot}
use Rattle.clvm_tree.specs.declared.kept.Kept.{Kept}

-- the hash in a slot, if the slot is this node's
abbrev pub hash_for : ℕ → Option Slot → Option (List ℕ)
hash_for node None = None
hash_for node (Some slot) = if slot.node.0 == node then Some slot.hash else None

-- the hash that is kept for a node
abbrev pub kept_at : Kept → ℕ → Option (List ℕ)
kept_at kept node = hash_for node (get kept.hashes (slice_index_or kept.slots.items node 0))

-- This is kept for the node now, and for each other node what was.
pub record Keeps (old new : Kept) (node : ℕ) (hash : Option (List ℕ)) : Type 0 where
  pub long : length new.slots.items ≡ length old.slots.items
  pub changed : kept_at new node ≡ hash
  pub others : (other : ℕ) → other ≢ node → kept_at new other ≡ kept_at old other
