-- Where a code finds its functions and its parameters, and so the tree that it is. Source: this project's own, over the
-- operators of the CLVM reference.
use Rattle.std.specs.Prelude.{ℕ, zero, suc, not, List, [], ◌∷◌, ◌++◌, filter, find, length, Option, Some, None, option_map, bytes_eq, if◌then◌else◌}
use Rattle.clvm_spec.specs.declared.op_codes.TheConstants.{APPLY, RAISE}
use Rattle.clvm_spec.specs.Tree.{Tree, Atom, Pair, nil}
use Rattle.clvm_spec.specs.Currying.{quote_of}
use Rattle.lisp_spec.specs.ModuleFaults.{is_among}
use Rattle.lisp_spec.specs.Parameters.{Side, ToFirst, ToRest}
use Rattle.lisp_code.specs.Pieces.{operator_code, path_code, pair_code, if_code}
use Rattle.lisp_code.specs.Codes.{Code, Constant, Path, Other, Piece, Operates, Chooses, Calls, Parts, NoPart, Part, functions_called}

-- a function of a module, with its code
pub record Function : Type 0 where
  pub name : List ℕ
  pub code : Code

-- ---- functions in a balanced tree

pub data Places : Type 0 where
  Here : Function → Places
  Fork : (first rest : Places) → Places

-- The two sides take turns, so that neither has two functions more than the other.
abbrev pub with_place : Function → Places → Places
with_place f (Here g) = Fork (Here f) (Here g)
with_place f (Fork first rest) = Fork (with_place f rest) first

abbrev pub places_of : Function → List Function → Places
places_of f [] = Here f
places_of f (g ∷ more) = with_place f (places_of g more)

abbrev pub one_side : (first rest : Option (List Side)) → Option (List Side)
one_side (Some path) rest = Some (ToFirst ∷ path)
one_side None rest = option_map (λ path. ToRest ∷ path) rest

abbrev pub path_in : List ℕ → Places → Option (List Side)
path_in name (Here f) = if bytes_eq f.name name then Some [] else None
path_in name (Fork first rest) = one_side (path_in name first) (path_in name rest)

-- ---- frames

-- A code runs on its argument alone, or on a pair of the functions and its argument.
pub data Frame : Type 0 where
  Bare : Frame
  Wrapped : Places → Frame

abbrev pub path_from : Frame → List Side → List Side
path_from Bare path = path
path_from (Wrapped places) path = ToRest ∷ path

abbrev pub function_path : Frame → List ℕ → Option (List Side)
function_path Bare name = None
function_path (Wrapped places) name = option_map (λ path. ToFirst ∷ path) (path_in name places)

-- ---- trees

-- Nil is what the empty path leads to; every other constant is quoted.
abbrev pub constant_tree : Tree → Tree
constant_tree (Atom []) = nil
constant_tree (Atom (b ∷ bytes)) = quote_of (Atom (b ∷ bytes))
constant_tree (Pair first rest) = quote_of (Pair first rest)

-- `(a FUNCTION (c 2 OPERANDS))`: a function's code runs on the same functions, with the list of the operands' values. What
-- has no place fails, once its operands are evaluated.
abbrev pub call_code : Option (List Side) → Tree → Tree
call_code None operands = operator_code RAISE (operands ∷ [])
call_code (Some path) operands = operator_code APPLY (path_code path ∷ pair_code (path_code (ToFirst ∷ [])) operands ∷ [])

abbrev mutual
  pub tree_of : Frame → Code → Tree
  tree_of frame (Constant tree) = constant_tree tree
  tree_of frame (Path path) = path_code (path_from frame path)
  tree_of frame (Other piece) = piece_tree frame piece

  pub piece_tree : Frame → Piece → Tree
  piece_tree frame (Operates code operands) = operator_code code (trees_of frame operands)
  piece_tree frame (Chooses test second third) =
      if_code (tree_of frame test) (constant_tree (tree_of frame second)) (constant_tree (tree_of frame third))
  piece_tree frame (Calls name operands) = call_code (function_path frame name) (tree_of frame operands)

  pub trees_of : Frame → Parts → List Tree
  trees_of frame NoPart = []
  trees_of frame (Part first more) = tree_of frame first ∷ trees_of frame more

-- ---- whole codes

abbrev pub table : Frame → Places → Tree
table frame (Here f) = tree_of frame f.code
table frame (Fork first rest) = Pair (table frame first) (table frame rest)

-- `(a (q . BODY) (c (q . FUNCTIONS) 1))`, or the body's code alone
abbrev pub framed : Code → Frame → Tree
framed body Bare = tree_of Bare body
framed body (Wrapped places) =
    operator_code APPLY (quote_of (tree_of (Wrapped places) body) ∷ pair_code (quote_of (table (Wrapped places) places)) (path_code []) ∷ [])

abbrev pub frame_of : List Function → Frame
frame_of [] = Bare
frame_of (f ∷ more) = Wrapped (places_of f more)

abbrev pub and_on : Option Function → (Function → List Function) → List Function
and_on None go = []
and_on (Some f) go = f ∷ go f

-- the functions that these names reach: one that they name, and what it calls besides
abbrev pub reached : ℕ → (names : List (List ℕ)) → (left : List Function) → List Function
reached zero names left = []
reached (suc more) names left =
    and_on (find (λ f. is_among f.name names) left)
    (λ f. reached more (functions_called f.code ++ names) (filter (λ g. not (bytes_eq g.name f.name)) left))

-- Only the functions that the body reaches are there.
abbrev pub whole_of : Code → List Function → Tree
whole_of body functions = framed body (frame_of (reached (length functions) (functions_called body) functions))
