-- A path's atom leads where the path does.
use Rattle.std.proofs.Common.{◌≡◌, ℕ, zero, suc, ◌+◌, ◌*◌, ◌/◌, ◌%◌, ◌^◌, ◌<◌, ◌≤◌, leb, eqb, List, [], ◌∷◌, length, refl, sym, ap, ap₂, ◌∙◌, subst, arith}
use Rattle.std.proofs.lemmas.Bool.{cond-false, lt-leb, ne_eqb}
use Rattle.std.proofs.lemmas.Nat.{pow-add}
use Rattle.std.proofs.lemmas.Int.Digits.{number_digits_of, number_lt, all_below_base_digits_of}
use Rattle.clvm_spec.specs.Tree.{Tree, Atom, Pair}
use Rattle.clvm_spec.specs.Numbers.{unsigned}
use Rattle.clvm_spec.specs.Path.{stepped, followed, path_value}
use Rattle.lisp_spec.specs.Parameters.{Side, ToFirst, ToRest, tree_at}
use Rattle.lisp_code.proofs.Plain.{path_meaning, found_meaning}
use Rattle.lisp_code.specs.Paths.{path_number, path_atom}

number_above : (path : List Side) → 1 ≤ path_number path
number_above [] = omega arith
number_above (ToFirst ∷ path) = let h = number_above path in omega arith
number_above (ToRest ∷ path) = let h = number_above path in omega arith

-- one step
one_step : (bound bits bit half steps : ℕ) (tree : Tree) → 2 ≤ bits → bits / 2 ≡ half → bits % 2 ≡ bit → followed (suc bound) bits steps tree ≡ stepped (followed bound half (suc steps)) bit tree
unfolding followed
one_step bound bits bit half steps tree h d m =
    cond-false (leb bits 1) _ _ (lt-leb bits 1 (omega arith)) ∙ ap₂ (λ x y. stepped (followed bound x (suc steps)) y tree) d m

followed-path : (path : List Side) (bound steps : ℕ) (tree : Tree) → path_number path < 2 ^ suc bound → path_meaning (followed bound (path_number path) steps tree) ≡ found_meaning (tree_at path tree)
unfolding followed
followed-path [] zero steps tree h = refl
followed-path [] (suc bound) steps tree h = refl
followed-path (ToFirst ∷ path) zero steps tree h = let k = number_above path in absurd (omega arith)
followed-path (ToRest ∷ path) zero steps tree h = let k = number_above path in absurd (omega arith)
followed-path (ToFirst ∷ path) (suc bound) steps (Atom bytes) h =
    let k = number_above path in ap path_meaning (one_step bound (2 * path_number path) 0 (path_number path) steps (Atom bytes) (omega arith) (omega arith) (omega arith))
followed-path (ToRest ∷ path) (suc bound) steps (Atom bytes) h =
    let k = number_above path in ap path_meaning (one_step bound (2 * path_number path + 1) 1 (path_number path) steps (Atom bytes) (omega arith) (omega arith) (omega arith))
followed-path (ToFirst ∷ path) (suc bound) steps (Pair first rest) h =
    let k = number_above path in let p : 2 ^ suc (suc bound) ≡ 2 * 2 ^ suc bound = omega arith in
    ap path_meaning (one_step bound (2 * path_number path) 0 (path_number path) steps (Pair first rest) (omega arith) (omega arith) (omega arith))
    ∙ followed-path path bound (suc steps) first (omega arith)
followed-path (ToRest ∷ path) (suc bound) steps (Pair first rest) h =
    let k = number_above path in let p : 2 ^ suc (suc bound) ≡ 2 * 2 ^ suc bound = omega arith in
    ap path_meaning (one_step bound (2 * path_number path + 1) 1 (path_number path) steps (Pair first rest) (omega arith) (omega arith) (omega arith))
    ∙ followed-path path bound (suc steps) rest (omega arith)

pub bytes_of_bits : (n : ℕ) → 256 ^ n ≡ 2 ^ (8 * n)
bytes_of_bits zero = refl
bytes_of_bits (suc n) =
    let same : 8 * suc n ≡ 8 + 8 * n = omega arith in
    let more : 256 ^ suc n ≡ 256 * 256 ^ n = omega arith in
    more ∙ ap (λ p. 256 * p) (bytes_of_bits n) ∙ sym (pow-add 2 8 (8 * n)) ∙ ap (λ k. 2 ^ k) (sym same)

pub path_leads : (path : List Side) (env : Tree) → path_meaning (path_value (path_atom path) env) ≡ found_meaning (tree_at path env)
path_leads path env =
    let n = path_number path in
    let bytes = path_atom path in
    let is : unsigned bytes ≡ n = number_digits_of 256 n (omega arith) in
    let above = number_above path in
    let below : n < 256 ^ length bytes = subst (λ k. k < 256 ^ length bytes) is (number_lt 256 bytes (all_below_base_digits_of 256 n (omega arith))) in
    let bits = bytes_of_bits (length bytes) in
    let twice : 2 ^ suc (8 * length bytes) ≡ 2 * 2 ^ (8 * length bytes) = omega arith in
    ap path_meaning (cond-false (eqb (unsigned bytes) 0) _ _ (ne_eqb (unsigned bytes) 0 (λ e. omega arith)))
    ∙ ap (λ k. path_meaning (followed (8 * length bytes) k 0 env)) is
    ∙ followed-path path (8 * length bytes) 0 env (omega arith)
