-- Lists of trees as trees, and back.
use Rattle.std.proofs.Common.{◌≡◌, List, [], ◌∷◌, Some, refl, ap}
use Rattle.std.specs.Prelude.{option_map}
use Rattle.clvm_spec.specs.Tree.{Tree, list_tree}
use Rattle.clvm_spec.specs.ProperList.{elements}

pub elements_of_list : (trees : List Tree) → elements (list_tree trees) ≡ Some trees
elements_of_list [] = refl
elements_of_list (tree ∷ trees) = ap (option_map (λ more. tree ∷ more)) (elements_of_list trees)
