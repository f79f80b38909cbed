-- Trees as lists: how a tree is stored where a type of the program is seen as trees. This project's own.
use Rattle.std.specs.Prelude.{◌≡◌, ℕ, List, [], ◌∷◌, ◌++◌, Option, Some, None, refl}
use Rattle.std.specs.Coded.{Coded, code_by, coded_list, coded_option, coded_ℕ}
use Rattle.std.proofs.Common.{◌∙◌, ap, append_assoc}
use Rattle.clvm_spec.specs.Tree.{Tree, Atom, Pair, nil}

-- the atoms from the left, and a mark behind the two parts of each pair
abbrev pub postfix : Tree → List (Option (List ℕ))
postfix (Atom bytes) = Some bytes ∷ []
postfix (Pair first rest) = postfix first ++ (postfix rest ++ None ∷ [])

-- the trees on a stack after these marks, the newest first
abbrev pub stacked : List Tree → List (Option (List ℕ)) → List Tree
stacked stack [] = stack
stacked stack (Some bytes ∷ marks) = stacked (Atom bytes ∷ stack) marks
stacked [] (None ∷ marks) = stacked [] marks
stacked (tree ∷ []) (None ∷ marks) = stacked (tree ∷ []) marks
stacked (rest ∷ first ∷ stack) (None ∷ marks) = stacked (Pair first rest ∷ stack) marks

abbrev pub newest : List Tree → Tree
newest [] = nil
newest (tree ∷ stack) = tree

pub stacked-postfix : (tree : Tree) (stack : List Tree) (marks : List (Option (List ℕ))) → stacked stack (postfix tree ++ marks) ≡ stacked (tree ∷ stack) marks
stacked-postfix (Atom bytes) stack marks = refl
stacked-postfix (Pair first rest) stack marks =
    ap (stacked stack) (append_assoc (postfix first) (postfix rest ++ None ∷ []) marks ∙ ap (λ more. postfix first ++ more) (append_assoc (postfix rest) (None ∷ []) marks))
    ∙ stacked-postfix first stack (postfix rest ++ (None ∷ [] ++ marks))
    ∙ stacked-postfix rest (first ∷ stack) (None ∷ [] ++ marks)

pub newest-postfix : (tree : Tree) → newest (stacked [] (postfix tree)) ≡ tree
newest-postfix (Atom bytes) = refl
newest-postfix (Pair first rest) = ap newest (stacked-postfix first [] (postfix rest ++ None ∷ []) ∙ stacked-postfix rest (first ∷ []) (None ∷ []))

abbrev pub tree_code : Coded Tree
tree_code = code_by (List (Option (List ℕ))) (coded_list (coded_option (coded_list coded_ℕ))) postfix (λ marks. newest (stacked [] marks)) newest-postfix
