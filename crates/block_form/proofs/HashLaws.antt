-- The hashes of lists.
use Rattle.std.proofs.Common.{◌≡◌, List, [], ◌∷◌, ◌++◌, map, refl, ap}
use Rattle.sha2.specs.Sha256.{sha256}
use Rattle.clvm_spec.specs.Tree.{Tree, list_tree}
use Rattle.clvm_spec.specs.Hashing.{list_hash, tree_hash}

-- the list whose elements are made by f
pub list_hash-map : {A : Type 0} (f : A → Tree) (xs : List A) → list_hash (map (λ x. tree_hash (f x)) xs) ≡ tree_hash (list_tree (map f xs))
list_hash-map f [] = refl
list_hash-map f (x ∷ xs) =
    ap (λ behind. sha256 (2 ∷ tree_hash (f x) ++ behind)) (list_hash-map f xs)
