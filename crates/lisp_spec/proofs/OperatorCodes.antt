-- No operator that heads an expression has the code 1: that is `q`.
use Rattle.std.proofs.Common.{◌≡◌, ℕ, ◌==◌, Bool, true, false, not, cond, List, [], ◌∷◌, Option, Some, None, codes, bytes_eq, find, ⊎_elim, refl, sym, ap, ◌∙◌, subst}
use Rattle.std.proofs.lemmas.Bool.{cases_Bool, cond-true, cond-false, and_parts, not-true, both_ways}
use Rattle.std.proofs.lemmas.Slice.Eq.{bytes_eq-Decides}
use Rattle.std.specs.List.{list_all}
use Rattle.clvm_spec.specs.declared.operands.Operands.TheVariants.{Any}
use Rattle.clvm_spec.specs.declared.costs.TheConstants.{QUOTE_COST}
use Rattle.clvm_spec.specs.OperatorTable.{Operator, operator, by_evaluation, operators, operator_named}
use Rattle.lisp_spec.specs.declared.head.Head.{Head}
use Rattle.lisp_spec.specs.declared.head.Head.TheVariants.{Operates}
use Rattle.lisp_spec.specs.Heads.{head_of, operator_head, is_q, is_quote, is_qq, is_unquote, is_if, is_list}

found_in : (p : Operator → Bool) (rows : List Operator) (row : Operator) → find p rows ≡ Some row → list_all (λ r. not (r.code == 1)) rows ≡ true → (row.code == 1) ≡ false
found_in p [] row e all = cc
found_in p (r ∷ rows) row e all =
    let both = and_parts (not (r.code == 1)) (list_all (λ r. not (r.code == 1)) rows) all in
    ⊎_elim (λ t. let same : Some r ≡ Some row = sym (cond-true (p r) (Some r) (find p rows) t) ∙ e in let is : r ≡ row = cc in subst (λ (r : Operator). (r.code == 1) ≡ false) is (not-true (r.code == 1) both.0))
    (λ f. found_in p rows row (sym (cond-false (p r) (Some r) (find p rows) f) ∙ e) both.1) (cases_Bool (p r))

found_after : (p : Operator → Bool) (first : Operator) (rows : List Operator) (row : Operator) → p first ≡ false → find p (first ∷ rows) ≡ Some row → list_all (λ r. not (r.code == 1)) rows ≡ true → (row.code == 1) ≡ false
found_after p first rows row f e all = found_in p rows row (sym (cond-false (p first) (Some first) (find p rows) f) ∙ e) all

abbrev all_but_first : List Operator → List Operator
all_but_first [] = []
all_but_first (row ∷ rows) = rows

q_row : (name : List ℕ) → is_q name ≡ false → bytes_eq (codes "q") name ≡ false
q_row name e =
    ⊎_elim (λ t. let same : codes "q" ≡ name = (bytes_eq-Decides (codes "q") name).0 t in let is : is_q name ≡ true = sym (ap is_q same) in absurd (both_ways (is_q name) e is))
    (λ f. f) (cases_Bool (bytes_eq (codes "q") name))

not_one : (name : List ℕ) (row : Operator) → is_q name ≡ false → operator_named name ≡ Some row → (row.code == 1) ≡ false
unfolding operator_named
not_one name row q e = found_after (λ row. bytes_eq row.name name) (operator 1 (codes "q") 0 None Any QUOTE_COST by_evaluation) (all_but_first operators) row (q_row name q) e refl

operates : (name : List ℕ) (found : Option Operator) (code : ℕ) → is_q name ≡ false → operator_named name ≡ found → operator_head found ≡ Operates code → (code == 1) ≡ false
operates name None code q f e = cc
operates name (Some row) code q f e = let same : row.code ≡ code = cc in subst (λ c. (c == 1) ≡ false) same (not_one name row q f)

skip : (b : Bool) (x y head : Head) → (x ≡ head → ⊥) → cond b x y ≡ head → (b ≡ false) × (y ≡ head)
skip true x y head n e = absurd (n e)
skip false x y head n e = (refl, e)

pub operator_is_not_q : (name : List ℕ) (code : ℕ) → head_of name ≡ Operates code → (code == 1) ≡ false
unfolding head_of
operator_is_not_q name code e =
    let a = skip (is_q name) _ _ (Operates code) (λ e. cc) e in
    let b = skip (is_quote name) _ _ (Operates code) (λ e. cc) a.1 in
    let c = skip (is_qq name) _ _ (Operates code) (λ e. cc) b.1 in
    let d = skip (is_unquote name) _ _ (Operates code) (λ e. cc) c.1 in
    let f = skip (is_if name) _ _ (Operates code) (λ e. cc) d.1 in
    let g = skip (is_list name) _ _ (Operates code) (λ e. cc) f.1 in
    operates name (operator_named name) code a.0 refl g.1
