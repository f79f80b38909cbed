-- How long the code of a module is.
use Rattle.std.proofs.Common.{◌≡◌, ◌==◌, ℕ, zero, suc, ◌+◌, ◌*◌, ◌/◌, ◌^◌, ◌<◌, ◌≤◌, ltb, List, [], ◌∷◌, ◌++◌, length, Option, Some, None, option_map, refl, sym, subst, arith}
use Rattle.std.proofs.lemmas.List.{length-append}
use Rattle.std.proofs.lemmas.Bool.{cond_both}
use Rattle.std.proofs.lemmas.Int.Digits.{length-digits_of-le, number_digits_of, number_lt, all_below_base_digits_of}
use Rattle.clvm_spec.specs.Numbers.{unsigned}
use Rattle.lisp_spec.specs.Environments.{step_code}
use Rattle.clvm_spec.specs.Tree.{Tree, Atom, Pair, nil, list_tree}
use Rattle.clvm_spec.specs.Spelling.{prefix, spelling, IsPrefixed, HasSpelling}
use Rattle.lisp_spec.specs.Weights.{tree_weight}
use Rattle.lisp_spec.specs.Parameters.{Side, ToFirst, ToRest}
use Rattle.clvm_spec.specs.Currying.{quote_of}
use Rattle.lisp_code.specs.Paths.{path_number, path_atom}
use Rattle.lisp_code.specs.Pieces.{operator_code, path_code, failing, pair_code}
use Rattle.lisp_code.specs.Codes.{Code, Constant, Path, Other, Chooses, parts_of, operates, pair_of, list_of, step_of, operation_of, choice_of, call_of}
use Rattle.lisp_code.specs.Frames.{Function, Places, Here, Fork, with_place, places_of, path_in, Frame, Bare, Wrapped, path_from, function_path, constant_tree, call_code, tree_of, piece_tree, trees_of, table, frame_of}
use Rattle.lisp_code.proofs.Depths.{itself, looping}
use Rattle.lisp_code.proofs.PathLaws.{bytes_of_bits}
use Rattle.lisp_code.proofs.Corresponding.{path_longer}
use Rattle.lisp_code.proofs.Reaching.{total}
use Rattle.lisp_code.proofs.PlainForms.{if_of}
use Rattle.lisp_code.proofs.Balance.{count_of, path_short}

abbrev pub size : Tree → ℕ
size tree = length (spelling tree)

pub size_pair : (a b : Tree) → size (Pair a b) ≡ 1 + (size a + size b)
size_pair a b = let l = length-append (spelling a) (spelling b) in omega arith

length_prefix : (n : ℕ) → length (prefix n) ≤ 4
length_prefix n =
    cond_both (ltb n 0x40) _ _ (λ xs. length xs ≤ 4) (λ e. omega arith)
    (λ e. cond_both (ltb n 0x2000) _ _ (λ xs. length xs ≤ 4) (λ e. omega arith)
    (λ e. cond_both (ltb n 0x10_0000) _ _ (λ xs. length xs ≤ 4) (λ e. omega arith) (λ e. omega arith)))

pub size_byte : (b : ℕ) → size (Atom (b ∷ [])) ≤ 2
size_byte b = cond_both (ltb b 0x80) _ _ (λ xs. length xs ≤ 2) (λ e. omega arith) (λ e. omega arith)

pub size_atom : (bytes : List ℕ) → size (Atom bytes) ≤ 5 + length bytes
size_atom [] = omega arith
size_atom (b ∷ []) = let h = size_byte b in omega arith
size_atom (b ∷ c ∷ bytes) = let l = length-append (prefix (length (b ∷ c ∷ bytes))) (b ∷ c ∷ bytes) in let p = length_prefix (length (b ∷ c ∷ bytes)) in omega arith

pub size_tree : (tree : Tree) → size tree ≤ 5 * tree_weight tree
size_tree (Atom bytes) = let h = size_atom bytes in omega arith
size_tree (Pair a b) = let h = size_pair a b in let x = size_tree a in let y = size_tree b in omega arith

-- ---- paths

number_below : (path : List Side) → path_number path < 2 ^ suc (length path)
number_below [] = omega arith
number_below (ToFirst ∷ path) = let h = number_below path in let p : 2 ^ suc (suc (length path)) ≡ 2 * 2 ^ suc (length path) = omega arith in omega arith
number_below (ToRest ∷ path) = let h = number_below path in let p : 2 ^ suc (suc (length path)) ≡ 2 * 2 ^ suc (length path) = omega arith in omega arith

two_rises : (i j : ℕ) → i ≤ j → 2 ^ i ≤ 2 ^ j
two_rises i zero h = let e : i ≡ 0 = omega arith in subst (λ i. 2 ^ i ≤ 2 ^ 0) (sym e) (omega arith)
two_rises zero (suc j) h = let k = two_rises zero j (omega arith) in let p : 2 ^ suc j ≡ 2 * 2 ^ j = omega arith in omega arith
two_rises (suc i) (suc j) h =
    let k = two_rises i j (omega arith) in let p : 2 ^ suc j ≡ 2 * 2 ^ j = omega arith in let q : 2 ^ suc i ≡ 2 * 2 ^ i = omega arith in omega arith

length_path : (path : List Side) → length (path_atom path) ≤ length path / 8 + 1
length_path path =
    let k = length path / 8 + 1 in
    let enough : 2 ^ suc (length path) ≤ 2 ^ (8 * k) = two_rises (suc (length path)) (8 * k) (omega arith) in
    let below = number_below path in
    length-digits_of-le 256 k (path_number path) (omega arith) (subst (λ p. path_number path < p) (sym (bytes_of_bits k)) (omega arith))

pub size_path : (path : List Side) → size (path_code path) ≤ 6 + length path / 8
size_path path = let a = size_atom (path_atom path) in let l = length_path path in omega arith

-- ---- pieces

pub size_quote : (tree : Tree) → size (quote_of tree) ≤ 3 + size tree
size_quote tree = let p = size_pair (Atom (1 ∷ [])) tree in let b = size_byte 1 in omega arith

pub size_failing : size failing ≤ 5
size_failing = let p = size_pair (Atom (8 ∷ [])) nil in let b = size_byte 8 in omega arith

pub size_one_operand : (code : ℕ) (a : Tree) → size (operator_code code (a ∷ [])) ≤ 5 + size a
size_one_operand code a = let p = size_pair (Atom (code ∷ [])) (Pair a nil) in let q = size_pair a nil in let b = size_byte code in omega arith

pub size_two : (code : ℕ) (a b : Tree) → size (operator_code code (a ∷ b ∷ [])) ≤ 6 + (size a + size b)
size_two code a b = let p = size_pair (Atom (code ∷ [])) (Pair a (Pair b nil)) in let q = size_pair a (Pair b nil) in let r = size_pair b nil in let c = size_byte code in omega arith

size_three : (code : ℕ) (a b c : Tree) → size (operator_code code (a ∷ b ∷ c ∷ [])) ≤ 7 + (size a + size b + size c)
size_three code a b c =
    let p = size_pair (Atom (code ∷ [])) (Pair a (Pair b (Pair c nil))) in let q = size_pair a (Pair b (Pair c nil)) in let r = size_pair b (Pair c nil) in let s = size_pair c nil in let d = size_byte code in omega arith

pub size_looping : size looping ≤ 48
size_looping =
    let l = size_two 2 (quote_of itself) (quote_of itself) in let q = size_quote itself in let i = size_two 2 (path_code []) (path_code []) in let p = size_path [] in omega arith

pub size_constant : (tree : Tree) → size (constant_tree tree) ≤ 3 + size tree
size_constant (Atom []) = omega arith
size_constant (Atom (b ∷ bytes)) = size_quote (Atom (b ∷ bytes))
size_constant (Pair a b) = size_quote (Pair a b)

pub size_if : (t a b : Tree) → size (if_of t a b) ≤ 25 + (size t + size a + size b)
size_if t a b =
    let choice = operator_code 3 (t ∷ constant_tree a ∷ constant_tree b ∷ []) in
    let l = size_two 2 choice (path_code []) in let p = size_path [] in let c = size_three 3 t (constant_tree a) (constant_tree b) in let qa = size_constant a in let qb = size_constant b in omega arith

-- operands, each with 8 bytes to spare
abbrev spare_trees : List Tree → ℕ
spare_trees [] = 0
spare_trees (code ∷ more) = size code + 8 + spare_trees more

size_operands : (operands : List Tree) → size (list_tree operands) ≤ 1 + spare_trees operands
size_operands [] = omega arith
size_operands (operand ∷ operands) = let p = size_pair operand (list_tree operands) in let h = size_operands operands in omega arith

size_operator : (code : ℕ) (operands : List Tree) → size (operator_code code operands) ≤ 4 + spare_trees operands
size_operator code operands = let p = size_pair (Atom (code ∷ [])) (list_tree operands) in let b = size_byte code in let h = size_operands operands in omega arith

least_quote : (tree : Tree) → size tree ≤ size (quote_of tree)
least_quote tree = let p = size_pair (Atom (1 ∷ [])) tree in omega arith

least_constant : (tree : Tree) → size tree ≤ size (constant_tree tree)
least_constant (Atom []) = omega arith
least_constant (Atom (b ∷ bytes)) = least_quote (Atom (b ∷ bytes))
least_constant (Pair a b) = least_quote (Pair a b)

-- A path with one step more has at most one byte more.
longer_number : (path : List Side) (side : Side) → path_number (path ++ side ∷ []) ≤ 3 * path_number path
longer_number [] ToFirst = omega arith
longer_number [] ToRest = omega arith
longer_number (ToFirst ∷ path) side = let h = longer_number path side in omega arith
longer_number (ToRest ∷ path) side = let h = longer_number path side in omega arith

least_atom : (bytes : List ℕ) → length bytes ≤ size (Atom bytes)
least_atom [] = omega arith
least_atom (b ∷ []) = cond_both (ltb b 0x80) _ _ (λ xs. 1 ≤ length xs) (λ e. omega arith) (λ e. omega arith)
least_atom (b ∷ c ∷ bytes) = let l = length-append (prefix (length (b ∷ c ∷ bytes))) (b ∷ c ∷ bytes) in omega arith

-- A tree that is short enough has a spelling.
pub short_spelled : (tree : Tree) (bound : ℕ) → size tree ≤ bound → IsPrefixed bound → HasSpelling tree
short_spelled (Atom bytes) bound h short = let l = least_atom bytes in omega arith
short_spelled (Pair a b) bound h short =
    let p = size_pair a b in
    (short_spelled a bound (omega arith) short, short_spelled b bound (omega arith) short)

size_longer : (path : List Side) (side : Side) → size (path_code (path ++ side ∷ [])) ≤ 6 + size (path_code path)
size_longer path side =
    let bytes = path_atom path in
    let is : unsigned bytes ≡ path_number path = number_digits_of 256 (path_number path) (omega arith) in
    let below : path_number path < 256 ^ length bytes = subst (λ k. k < 256 ^ length bytes) is (number_lt 256 bytes (all_below_base_digits_of 256 (path_number path) (omega arith))) in
    let more : 256 ^ suc (length bytes) ≡ 256 * 256 ^ length bytes = omega arith in
    let longer = longer_number path side in
    let l : length (path_atom (path ++ side ∷ [])) ≤ suc (length bytes) = length-digits_of-le 256 (suc (length bytes)) (path_number (path ++ side ∷ [])) (omega arith) (omega arith) in
    let a = size_atom (path_atom (path ++ side ∷ [])) in let b = least_atom bytes in omega arith

-- ---- codes

module _ (frame : Frame) where
  abbrev pub code_size : Code → ℕ
  code_size code = size (tree_of frame code)

  abbrev pub spare_sizes : List Code → ℕ
  spare_sizes codes = spare_trees (trees_of frame (parts_of codes))

  size_operates : (code : ℕ) (codes : List Code) → code_size (operates code codes) ≤ 4 + spare_sizes codes
  size_operates code codes = size_operator code (trees_of frame (parts_of codes))

  pub size_pair_of : (a b : Code) → code_size (pair_of a b) ≤ 6 + (code_size a + code_size b)
  size_pair_of (Constant x) (Constant y) = let q = size_quote (Pair x y) in let p = size_pair x y in let lx = least_constant x in let ly = least_constant y in omega arith
  size_pair_of (Constant x) (Path path) = size_two 4 (constant_tree x) (path_code (path_from frame path))
  size_pair_of (Constant x) (Other piece) = size_two 4 (constant_tree x) (piece_tree frame piece)
  size_pair_of (Path path) b = size_two 4 (path_code (path_from frame path)) (tree_of frame b)
  size_pair_of (Other piece) b = size_two 4 (piece_tree frame piece) (tree_of frame b)

  pub size_list_of : (codes : List Code) → code_size (list_of codes) ≤ 4 + spare_sizes codes
  size_list_of [] = omega arith
  size_list_of (code ∷ codes) = let p = size_pair_of code (list_of codes) in let h = size_list_of codes in omega arith

  pub size_step_of : (side : Side) (code : Code) → code_size (step_of side code) ≤ 6 + code_size code
  size_step_of side (Path path) =
      subst (λ p. size (path_code p) ≤ 6 + size (path_code (path_from frame path))) (sym (path_longer frame path side)) (size_longer (path_from frame path) side)
  size_step_of side (Constant tree) = let s = size_one_operand (step_code side) (constant_tree tree) in omega arith
  size_step_of side (Other piece) = let s = size_one_operand (step_code side) (piece_tree frame piece) in omega arith

  pub size_operation_of : (code : ℕ) (codes : List Code) → code_size (operation_of code codes) ≤ 4 + spare_sizes codes
  size_operation_of code [] = size_operates code []
  size_operation_of code (a ∷ []) =
      cond_both (code == 5) _ _ (λ c. code_size c ≤ 4 + spare_sizes (a ∷ [])) (λ e. let s = size_step_of ToFirst a in omega arith)
      (λ e. cond_both (code == 6) _ _ (λ c. code_size c ≤ 4 + spare_sizes (a ∷ [])) (λ e. let s = size_step_of ToRest a in omega arith) (λ e. size_operates code (a ∷ [])))
  size_operation_of code (a ∷ b ∷ []) =
      cond_both (code == 4) _ _ (λ c. code_size c ≤ 4 + spare_sizes (a ∷ b ∷ [])) (λ e. let s = size_pair_of a b in omega arith) (λ e. size_operates code (a ∷ b ∷ []))
  size_operation_of code (a ∷ b ∷ c ∷ codes) = size_operates code (a ∷ b ∷ c ∷ codes)

  size_chooses : (t a b : Code) → code_size (Other (Chooses t a b)) ≤ 25 + (code_size t + code_size a + code_size b)
  size_chooses t a b = size_if (tree_of frame t) (tree_of frame a) (tree_of frame b)

  pub size_choice_of : (t a b : Code) → code_size (choice_of t a b) ≤ 25 + (code_size t + code_size a + code_size b)
  size_choice_of t (Constant x) (Constant y) = let s = size_three 3 (tree_of frame t) (constant_tree x) (constant_tree y) in omega arith
  size_choice_of t (Constant x) (Path path) = size_chooses t (Constant x) (Path path)
  size_choice_of t (Constant x) (Other piece) = size_chooses t (Constant x) (Other piece)
  size_choice_of t (Path path) b = size_chooses t (Path path) b
  size_choice_of t (Other piece) b = size_chooses t (Other piece) b

  -- Paths to functions have no more steps than this.
  abbrev pub PathsAreWithin : ℕ → Type 0
  PathsAreWithin most = (name : List ℕ) (path : List Side) → function_path frame name ≡ Some path → length path ≤ most

  size_call : (most : ℕ) (found : Option (List Side)) (list : Tree) → ((path : List Side) → found ≡ Some path → length path ≤ most) → size (call_code found list) ≤ 36 + most / 8 + size list
  size_call most None list room = let l = size_one_operand 8 list in omega arith
  size_call most (Some path) list room =
      let made = pair_code (path_code (ToFirst ∷ [])) list in
      let l = size_two 2 (path_code path) made in let m = size_two 4 (path_code (ToFirst ∷ [])) list in
      let p = size_path path in let n = room path refl in let q = size_path (ToFirst ∷ []) in omega arith

  pub size_call_of : (most : ℕ) → PathsAreWithin most → (name : List ℕ) (codes : List Code) → code_size (call_of name codes) ≤ 40 + most / 8 + spare_sizes codes
  size_call_of most room name codes = let l = size_call most (function_path frame name) (tree_of frame (list_of codes)) (room name) in let m = size_list_of codes in omega arith

pub size_own_path : (frame : Frame) (path : List Side) → size (path_code (path_from frame path)) ≤ 6 + suc (length path) / 8
size_own_path Bare path = let s = size_path path in omega arith
size_own_path (Wrapped places) path = size_path (ToRest ∷ path)

-- ---- the functions

abbrev pub entry_size : Frame → Function → ℕ
entry_size frame f = 1 + code_size frame f.code

size_with : (frame : Frame) (f : Function) (places : Places) → size (table frame (with_place f places)) ≡ entry_size frame f + size (table frame places)
size_with frame f (Here g) = let p = size_pair (tree_of frame f.code) (tree_of frame g.code) in omega arith
size_with frame f (Fork first rest) =
    let p = size_pair (table frame (with_place f rest)) (table frame first) in let q = size_pair (table frame first) (table frame rest) in let h = size_with frame f rest in omega arith

pub size_table : (frame : Frame) (f : Function) (fs : List Function) → suc (size (table frame (places_of f fs))) ≡ total (entry_size frame) (f ∷ fs)
size_table frame f [] = omega arith
size_table frame f (g ∷ fs) = let w = size_with frame f (places_of g fs) in let h = size_table frame g fs in omega arith

-- A path is no longer than there are functions.
from_first : (found : Option (List Side)) (most : ℕ) → ((path : List Side) → found ≡ Some path → length path < most) → (path : List Side) → option_map (λ path. ToFirst ∷ path) found ≡ Some path → length path ≤ most
from_first None most h path e = absurd cc
from_first (Some found) most h path e = let same : ToFirst ∷ found ≡ path = cc in let k = h found refl in subst (λ path. length path ≤ most) same (omega arith)

pub frame_paths : (fs : List Function) → PathsAreWithin (frame_of fs) (length fs)
frame_paths [] name path e = absurd cc
frame_paths (f ∷ fs) name path e =
    let c = count_of f fs in
    from_first (path_in name (places_of f fs)) (length (f ∷ fs)) (λ path e. let h = path_short name (places_of f fs) path e in omega arith) path e
