-- The trees of spends, of their generator and of a bundle. Source: the quoted generator and the id of a bundle are this
-- project's own.
use Rattle.std.specs.Prelude.{List, [], ◌∷◌, map}
use Rattle.clvm_spec.specs.Tree.{Tree, Atom, Pair, list_tree}
use Rattle.clvm_spec.specs.Hashing.{tree_hash}
use Rattle.clvm_spec.specs.OperatorTable.{quote_code}
use Rattle.clvm_spec.specs.Spelled.{spelled_tree}
use Rattle.coin_facts.specs.declared.hash32.Hash32.{Hash32}
use Rattle.coin_facts.specs.Atoms.{number_atom}
use Rattle.block_spec.specs.declared.spend.Spend.{Spend}
use Rattle.block_spec.specs.declared.attested.Signed.{Signed}
use Rattle.block_spec.specs.declared.bundle.Bundle.{Bundle}

-- (parent puzzle amount solution)
abbrev pub spend_tree : Spend → Tree
spend_tree spend = list_tree (Atom spend.coin.parent.bytes ∷ spelled_tree spend.puzzle ∷ number_atom spend.coin.amount ∷ spelled_tree spend.solution ∷ [])

abbrev pub spends_tree : List Spend → Tree
spends_tree spends = list_tree (map spend_tree spends)

-- (q ((parent puzzle amount solution) ..))
abbrev pub generator : List Spend → Tree
generator spends = list_tree (Atom (quote_code ∷ []) ∷ spends_tree spends ∷ [])

-- (key . message)
abbrev pub signed_tree : Signed → Tree
signed_tree signed = Pair (Atom signed.key) (Atom signed.message)

abbrev pub attested_tree : List Signed → Tree
attested_tree attested = list_tree (map signed_tree attested)

-- the tree hash of the list of spends and the list of what is attested, as a pair
unfoldable pub bundle_id : Bundle → Hash32
bundle_id bundle = record { bytes = tree_hash (Pair (spends_tree bundle.spends) (attested_tree bundle.attested)) }
