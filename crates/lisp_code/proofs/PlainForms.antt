-- What the pieces of code give by the plain evaluation.
use Rattle.std.proofs.Common.{◌≡◌, ℕ, zero, suc, ◌==◌, false, cond, List, [], ◌∷◌, ◌++◌, Option, Some, None, refl, sym, ap, ◌∙◌, arith}
use Rattle.clvm_spec.specs.Tree.{Tree, Atom, Pair, list_tree}
use Rattle.clvm_spec.specs.ProperList.{elements}
use Rattle.clvm_spec.specs.Operators.{is_nil}
use Rattle.clvm_spec.specs.OperatorTable.{applied, operator_of}
use Rattle.clvm_spec.specs.Evaluation.{is_byte}
use Rattle.clvm_spec.proofs.ListLaws.{elements_of_list}
use Rattle.lisp_spec.specs.Parameters.{Side, ToFirst, ToRest, tree_at}
use Rattle.lisp_spec.specs.Environments.{step_code}
use Rattle.lisp_spec.specs.Meaning.{Meaning, Value, Failed, Out, if_value, operator_meaning, operate}
use Rattle.clvm_spec.specs.Currying.{quote_of}
use Rattle.lisp_code.proofs.Refining.{Refines, out, same, Rises}
use Rattle.lisp_code.proofs.Plain.{Runs, plain_run, plain_apply, plain_values, plain_form, plain_by, plain}
use Rattle.lisp_code.proofs.Plain.{found_meaning}
use Rattle.lisp_code.specs.Pieces.{operator_code, path_code, failing, pair_code, if_code}
use Rattle.lisp_code.specs.Frames.{constant_tree, call_code}
use Rattle.lisp_code.proofs.Depths.{itself, looping}
use Rattle.lisp_code.proofs.Refined.{refines_equal, refines_then, refines_cond, refines_trans, if_value_if_value}
use Rattle.lisp_code.proofs.PathLaws.{path_leads}

-- ---- a larger count says more

plain_values_refine : (x y : Tree → Meaning) → ((operand : Tree) → Refines (x operand) (y operand)) → (operands : List Tree) (go go' : List Tree → Meaning) → ((values : List Tree) → Refines (go values) (go' values)) →
    Refines (plain_values x operands go) (plain_values y operands go')
plain_values_refine x y p [] go go' q = q []
plain_values_refine x y p (operand ∷ operands) go go' q =
    plain_values_refine x y p operands _ _ (λ values. refines_then _ _ _ _ (p operand) (λ v. q (v ∷ values)))

plain_run_refine : (x y : Runs) → ((program env : Tree) → Refines (x program env) (y program env)) → (values : List Tree) → Refines (plain_run x values) (plain_run y values)
plain_run_refine x y p [] = same Failed
plain_run_refine x y p (program ∷ []) = same Failed
plain_run_refine x y p (program ∷ env ∷ []) = p program env
plain_run_refine x y p (program ∷ env ∷ c ∷ more) = same Failed

pub plain_apply_refine : (x y : Runs) → ((program env : Tree) → Refines (x program env) (y program env)) → (code : List ℕ) (values : List Tree) → Refines (plain_apply x code values) (plain_apply y code values)
plain_apply_refine x y p code values = refines_cond (is_byte 2 code) _ _ _ _ (plain_run_refine x y p values) (same (operator_meaning (applied code values)))

plain_form_refine : (x y : Runs) → ((program env : Tree) → Refines (x program env) (y program env)) → (code : List ℕ) (env : Tree) (operands : Option (List Tree)) → Refines (plain_form x code env operands) (plain_form y code env operands)
plain_form_refine x y p code env None = same Failed
plain_form_refine x y p code env (Some operands) = plain_values_refine _ _ (λ operand. p operand env) operands _ _ (plain_apply_refine x y p code)

plain_by_refine : (x y : Runs) → ((program env : Tree) → Refines (x program env) (y program env)) → (program env : Tree) → Refines (plain_by x program env) (plain_by y program env)
plain_by_refine x y p (Atom path) env = same _
plain_by_refine x y p (Pair (Pair a b) rest) env = same Failed
plain_by_refine x y p (Pair (Atom code) rest) env = refines_cond (is_byte 1 code) _ _ _ _ (same (Value rest)) (plain_form_refine x y p code env (elements rest))

pub plain_rises : (program env : Tree) → Rises (λ m. plain m program env)
plain_rises program env zero m le = out _
plain_rises program env (suc n) zero le = absurd (omega arith)
plain_rises program env (suc n) (suc m) le = plain_by_refine (plain n) (plain m) (λ program env. plain_rises program env n m (omega arith)) program env

-- ---- an operator on the values of its operands

pub plain_operator : (m code : ℕ) (operands : List Tree) (env : Tree) → (code == 1) ≡ false → plain (suc m) (operator_code code operands) env ≡ plain_values (λ operand. plain m operand env) operands (plain_apply (plain m) (code ∷ []))
plain_operator m code operands env e =
    ap (λ b. cond b (Value (list_tree operands)) (plain_form (plain m) (code ∷ []) env (elements (list_tree operands)))) e
    ∙ ap (plain_form (plain m) (code ∷ []) env) (elements_of_list operands)

pub plain_path : (m : ℕ) (path : List Side) (env : Tree) → plain (suc m) (path_code path) env ≡ found_meaning (tree_at path env)
plain_path m path env = path_leads path env

pub plain_failing : (m : ℕ) (env : Tree) → plain (suc m) failing env ≡ Failed
unfolding applied operator_of
plain_failing m env = refl

-- a pair: its rest is evaluated first
pub plain_pair : (m : ℕ) (first rest env : Tree) → plain (suc m) (pair_code first rest) env ≡ if_value (plain m rest env) (λ b. if_value (plain m first env) (λ a. Value (Pair a b)))
unfolding applied operator_of
plain_pair m first rest env = plain_operator m 4 (first ∷ rest ∷ []) env refl

-- ---- code that never ends says nothing

refines_value : (x : Meaning) (v : Tree) (go : Tree → Meaning) → Refines x (Value v) → go v ≡ Out → if_value x go ≡ Out
refines_value x v go (out m) e = refl
refines_value x v go (same m) e = e

pub path_says : (m : ℕ) (path : List Side) (env found : Tree) → tree_at path env ≡ Some found → Refines (plain m (path_code path) env) (Value found)
path_says zero path env found e = out _
path_says (suc m) path env found e = refines_equal _ _ (plain_path m path env ∙ ap found_meaning e)

itself_says_nothing : (m : ℕ) → plain m itself itself ≡ Out
itself_says_nothing zero = refl
itself_says_nothing (suc m) =
    plain_operator m 2 (path_code [] ∷ path_code [] ∷ []) itself refl
    ∙ refines_value (plain m (path_code []) itself) itself _ (path_says m [] itself itself refl)
    (refines_value (plain m (path_code []) itself) itself _ (path_says m [] itself itself refl) (itself_says_nothing m))

pub quote_says : (m : ℕ) (tree env : Tree) → Refines (plain m (quote_of tree) env) (Value tree)
quote_says zero tree env = out _
quote_says (suc m) tree env = same (Value tree)

pub looping_says_nothing : (m : ℕ) (env : Tree) → plain m looping env ≡ Out
looping_says_nothing zero env = refl
looping_says_nothing (suc m) env =
    plain_operator m 2 (quote_of itself ∷ quote_of itself ∷ []) env refl
    ∙ refines_value (plain m (quote_of itself) env) itself _ (quote_says m itself env)
    (refines_value (plain m (quote_of itself) env) itself _ (quote_says m itself env) (itself_says_nothing m))

-- ---- choices and calls

pub value_then : (x : Meaning) (v : Tree) (go : Tree → Meaning) (r : Meaning) → Refines x (Value v) → Refines (go v) r → Refines (if_value x go) r
value_then x v go r p q = refines_trans (if_value x go) (go v) r (refines_then x (Value v) go go p (λ v. same (go v))) q

abbrev pub picked : Tree → Tree → Tree → Tree
picked test a b = cond (is_nil test) b a

-- ---- constants

pub constant_is : (m : ℕ) (tree env : Tree) → plain (suc m) (constant_tree tree) env ≡ Value tree
constant_is m (Atom []) env = refl
constant_is m (Atom (b ∷ bytes)) env = refl
constant_is m (Pair first rest) env = refl

pub constant_says : (m : ℕ) (tree env : Tree) → Refines (plain m (constant_tree tree) env) (Value tree)
constant_says zero tree env = out _
constant_says (suc m) tree env = refines_equal _ _ (constant_is m tree env)

-- the choice of one of two constants
pub constant_choice : (m : ℕ) (t a b env : Tree) → plain (suc (suc m)) (operator_code 3 (t ∷ constant_tree a ∷ constant_tree b ∷ [])) env ≡ if_value (plain (suc m) t env) (λ v. Value (picked v a b))
unfolding applied operator_of
constant_choice m t a b env =
    plain_operator (suc m) 3 (t ∷ constant_tree a ∷ constant_tree b ∷ []) env refl
    ∙ ap (λ x. if_value x (λ vb. if_value (plain (suc m) (constant_tree a) env) (λ va. if_value (plain (suc m) t env) (λ v. operator_meaning (applied (3 ∷ []) (v ∷ va ∷ vb ∷ [])))))) (constant_is m b env)
    ∙ ap (λ x. if_value x (λ va. if_value (plain (suc m) t env) (λ v. operator_meaning (applied (3 ∷ []) (v ∷ va ∷ b ∷ []))))) (constant_is m a env)

choice_says : (m : ℕ) (t a b env : Tree) → Refines (plain m (operator_code 3 (t ∷ constant_tree a ∷ constant_tree b ∷ [])) env) (if_value (plain m t env) (λ v. Value (picked v a b)))
unfolding applied operator_of
choice_says zero t a b env = out _
choice_says (suc m) t a b env =
    let is = plain_operator m 3 (t ∷ constant_tree a ∷ constant_tree b ∷ []) env refl in
    refines_trans _ _ _ (refines_equal _ _ is)
    (value_then _ b _ _ (constant_says m b env) (value_then _ a _ _ (constant_says m a env)
    (refines_then _ _ _ _ (plain_rises t env m (suc m) (omega arith)) (λ v. same (Value (picked v a b))))))

-- `if`, with code of two expressions
abbrev pub if_of : Tree → Tree → Tree → Tree
if_of t a b = if_code t (constant_tree a) (constant_tree b)

pub if_says : (m : ℕ) (t a b env : Tree) → Refines (plain (suc m) (if_of t a b) env) (if_value (plain m t env) (λ v. plain m (picked v a b) env))
if_says m t a b env =
    let choice = operator_code 3 (t ∷ constant_tree a ∷ constant_tree b ∷ []) in
    let is = plain_operator m 2 (choice ∷ path_code [] ∷ []) env refl in
    refines_trans _ _ _ (refines_equal _ _ is)
    (value_then _ env _ _ (path_says m [] env env refl)
    (refines_trans _ _ _ (refines_then _ _ _ _ (choice_says m t a b env) (λ p. same (plain m p env)))
    (refines_equal _ _ (if_value_if_value (plain m t env) (λ v. Value (picked v a b)) (λ p. plain m p env)))))

pub if_gives : (m : ℕ) (t a b env : Tree) → if_value (plain (suc m) t env) (λ v. plain (suc (suc m)) (picked v a b) env) ≡ plain (suc (suc (suc m))) (if_of t a b) env
if_gives m t a b env =
    let choice = operator_code 3 (t ∷ constant_tree a ∷ constant_tree b ∷ []) in
    let is = plain_operator (suc (suc m)) 2 (choice ∷ path_code [] ∷ []) env refl in
    sym (is
    ∙ ap (λ x. if_value x (λ e. if_value (plain (suc (suc m)) choice env) (λ p. plain (suc (suc m)) p e))) (plain_path (suc m) [] env)
    ∙ ap (λ x. if_value x (λ p. plain (suc (suc m)) p env)) (constant_choice m t a b env)
    ∙ if_value_if_value (plain (suc m) t env) (λ v. Value (picked v a b)) (λ p. plain (suc (suc m)) p env))

module _ (table argument : Tree) where
  with_table_says : (m : ℕ) (list : Tree) → Refines (plain m (pair_code (path_code (ToFirst ∷ [])) list) (Pair table argument)) (if_value (plain m list (Pair table argument)) (λ t. Value (Pair table t)))
  with_table_says zero list = out _
  with_table_says (suc m) list =
      refines_trans _ _ _ (refines_equal _ _ (plain_pair m (path_code (ToFirst ∷ [])) list (Pair table argument)))
      (refines_then _ _ _ _ (plain_rises list (Pair table argument) m (suc m) (omega arith))
      (λ t. value_then _ table _ _ (path_says m (ToFirst ∷ []) (Pair table argument) table refl) (same (Value (Pair table t)))))

  pub call_says : (m : ℕ) (path : List Side) (list : Tree) (code : Tree) → tree_at path table ≡ Some code →
      Refines (plain (suc m) (call_code (Some (ToFirst ∷ path)) list) (Pair table argument)) (if_value (plain m list (Pair table argument)) (λ t. plain m code (Pair table t)))
  call_says m path list code e =
      let env = Pair table argument in
      let made = pair_code (path_code (ToFirst ∷ [])) list in
      let is = plain_operator m 2 (path_code (ToFirst ∷ path) ∷ made ∷ []) env refl in
      refines_trans _ _ _ (refines_equal _ _ is)
      (refines_trans _ _ _ (refines_then _ _ _ _ (with_table_says m list) (λ e'. value_then _ code _ _ (path_says m (ToFirst ∷ path) env code e) (same (plain m code e'))))
      (refines_equal _ _ (if_value_if_value (plain m list env) (λ t. Value (Pair table t)) (λ e'. plain m code e'))))

  pub call_gives : (m : ℕ) (path : List Side) (list : Tree) (code : Tree) → tree_at path table ≡ Some code →
      if_value (plain (suc m) list (Pair table argument)) (λ t. plain (suc (suc m)) code (Pair table t)) ≡ plain (suc (suc (suc m))) (call_code (Some (ToFirst ∷ path)) list) (Pair table argument)
  call_gives m path list code e =
      let env = Pair table argument in
      let made = pair_code (path_code (ToFirst ∷ [])) list in
      let is = plain_operator (suc (suc m)) 2 (path_code (ToFirst ∷ path) ∷ made ∷ []) env refl in
      let finds : plain (suc (suc m)) (path_code (ToFirst ∷ path)) env ≡ Value code = plain_path (suc m) (ToFirst ∷ path) env ∙ ap found_meaning e in
      let makes : plain (suc (suc m)) made env ≡ if_value (plain (suc m) list env) (λ t. Value (Pair table t)) =
      plain_pair (suc m) (path_code (ToFirst ∷ [])) list env
      ∙ ap (λ x. if_value (plain (suc m) list env) (λ t. if_value x (λ a. Value (Pair a t)))) (plain_path m (ToFirst ∷ []) env) in
      sym (is
      ∙ ap (λ x. if_value (plain (suc (suc m)) made env) (λ e'. if_value x (λ p. plain (suc (suc m)) p e'))) finds
      ∙ ap (λ x. if_value x (λ e'. plain (suc (suc m)) code e')) makes
      ∙ if_value_if_value (plain (suc m) list env) (λ t. Value (Pair table t)) (λ e'. plain (suc (suc m)) code e'))

pub unknown_call : (m : ℕ) (list env : Tree) → plain (suc m) (operator_code 8 (list ∷ [])) env ≡ if_value (plain m list env) (λ t. Failed)
unfolding applied operator_of
unknown_call m list env = plain_operator m 8 (list ∷ []) env refl

-- ---- steps

-- A step into what a path leads to is one more step of the path.
pub found_step : (n : ℕ) (side : Side) (path : List Side) (env : Tree) → if_value (found_meaning (tree_at path env)) (λ v. operate n (step_code side) (v ∷ [])) ≡ found_meaning (tree_at (path ++ side ∷ []) env)
unfolding applied operator_of
found_step n ToFirst [] (Atom bytes) = refl
found_step n ToFirst [] (Pair first rest) = refl
found_step n ToRest [] (Atom bytes) = refl
found_step n ToRest [] (Pair first rest) = refl
found_step n side (ToFirst ∷ path) (Atom bytes) = refl
found_step n side (ToRest ∷ path) (Atom bytes) = refl
found_step n side (ToFirst ∷ path) (Pair first rest) = found_step n side path first
found_step n side (ToRest ∷ path) (Pair first rest) = found_step n side path rest

pub pair_operates : (n : ℕ) (a b : Tree) → operate n 4 (a ∷ b ∷ []) ≡ Value (Pair a b)
unfolding applied operator_of
pair_operates n a b = refl
