-- Code by hand that agrees with a small module.
use Rattle.std.proofs.Common.{◌≡◌, ℕ, zero, suc, ◌+◌, ◌*◌, ℤ, pos, ◌+ℤ◌, Bool, true, false, cond, Option, Some, None, List, [], ◌∷◌, length, map, refl, sym, ap, ◌∙◌, subst, arith}
use Rattle.clvm_spec.specs.declared.fuel.Fuel.{Fuel}
use Rattle.clvm_spec.specs.Tree.{Tree, Atom, Pair}
use Rattle.clvm_spec.specs.Arithmetic.{if_fits}
use Rattle.clvm_spec.specs.Operators.{number_at, each_read, from_left, or_wide, new_number, new_atom, written, terms_cost}
use Rattle.clvm_spec.specs.Numbers.{number, shortest_atom, without_sign_bytes, is_short}
use Rattle.clvm_spec.specs.Path.{followed}
use Rattle.clvm_spec.specs.Reading.{head_at, tree_at_front}
use Rattle.clvm_spec.specs.Tokens.{token_of, word_token}
use Rattle.clvm_spec.specs.Outcomes.{Applied, TooWide}
use Rattle.clvm_spec.specs.OperatorTable.{applied, operator_named, operator_of}
use Rattle.clvm_spec.specs.Evaluation.{run_outcome}
use Rattle.clvm_spec.proofs.Cases.{spelled}
use Rattle.clvm_spec.specs.Text.{scanned}
use Rattle.lisp_read.specs.Grammar.{forms_of}
use Rattle.lisp_spec.specs.Heads.{head_of}
use Rattle.lisp_spec.specs.Modules.{Module}
use Rattle.lisp_spec.specs.Meaning.{Meaning, Value, Failed, Wide, Out, operator_meaning, run_meaning, meaning, module_meaning}
use Rattle.lisp_spec.specs.Agreement.{HasValue, IsWide, RunsTo, RunsWide, Agrees}
use Rattle.lisp_spec.proofs.Sources as sources
use Rattle.lisp_code.proofs.Refining.{Refines}
use Rattle.lisp_code.proofs.Plain.{plain}
use Rattle.lisp_code.proofs.Refined.{refines_trans, settled}
use Rattle.lisp_code.proofs.PlainRuns.{plain_covers_runs}
use Rattle.lisp_code.proofs.PlainForms.{plain_rises}
use Rattle.lisp_code.proofs.Agreed.{runs_to, runs_wide}

-- what the source means at each count, and the code gives at some
record SameMeaning (source : Module) (code argument : Tree) : Type 0 where
  found : Meaning
  means : (n : ℕ) → module_meaning source argument n ≡ found
  enough : ℕ
  gives : plain enough code argument ≡ found
  ends : found ≡ Out → ⊥

module _ (source : Module) (code : Tree) (same_meaning : (argument : Tree) → SameMeaning source code argument) (argument : Tree) where
  abbrev it : SameMeaning source code argument
  it = same_meaning argument

  back : (x : Meaning) → (x ≡ Out → ⊥) → (fuel : Fuel) → run_meaning (run_outcome code argument fuel) ≡ x → module_meaning source argument 0 ≡ x
  back x not_out fuel e =
      let m = suc fuel.cost + it.enough in
      let says : Refines x (plain m code argument) = refines_trans _ _ _ (subst (λ y. Refines y (plain (suc fuel.cost) code argument)) e (plain_covers_runs code argument 0 fuel)) (plain_rises code argument (suc fuel.cost) m (omega arith)) in
      let found_here : Refines it.found (plain m code argument) = subst (λ y. Refines y (plain m code argument)) it.gives (plain_rises code argument it.enough m (omega arith)) in
      it.means 0 ∙ settled it.found _ found_here it.ends ∙ sym (settled x _ says not_out)

  to_value : (v : Tree) → HasValue source argument v → RunsTo code argument v
  to_value v h = runs_to it.enough code argument v (it.gives ∙ sym (it.means h.0) ∙ h.1)

  to_wide : IsWide source argument → RunsWide code argument
  to_wide h = runs_wide it.enough code argument (it.gives ∙ sym (it.means h.0) ∙ h.1)

  from_value : (v : Tree) → RunsTo code argument v → HasValue source argument v
  from_value v r = (0, back (Value v) (λ e. cc) r.0 (ap run_meaning r.2))

  from_wide : RunsWide code argument → IsWide source argument
  from_wide r = (0, back Wide (λ e. cc) r.0 (ap run_meaning r.1))

same_agrees : (source : Module) (code : Tree) → ((argument : Tree) → SameMeaning source code argument) → Agrees source code
same_agrees source code h = record {
  value = λ argument v. (to_value source code h argument v, from_value source code h argument v);
  wide = λ argument. (to_wide source code h argument, from_wide source code h argument);
}

abbrev increment : Module
increment = sources.plain "(X)" "(+ X 1)"

abbrev increment_code : Tree
increment_code = spelled "ff10ff02ffff010180"

abbrev sum_with_one : Tree → Meaning
sum_with_one a = operator_meaning (applied (16 ∷ []) (a ∷ Atom (1 ∷ []) ∷ []))

not_out : Applied → Type 0
not_out a = operator_meaning a ≡ Out → ⊥

either_ends : (b : Bool) (x y : Applied) → not_out x → not_out y → not_out (cond b x y)
either_ends true x y p q = p
either_ends false x y p q = q

too_wide_ends : not_out TooWide
unfolding not_out
too_wide_ends = λ e. cc

new_atom_ends : (cost : ℕ) (bytes : List ℕ) → not_out (new_atom cost bytes)
unfolding not_out
new_atom_ends cost bytes = λ e. cc

or_wide_ends : (held : Option ℤ) (go : ℤ → Applied) → ((n : ℤ) → not_out (go n)) → not_out (or_wide held go)
or_wide_ends None go p = too_wide_ends
or_wide_ends (Some n) go p = p n

new_number_ends : (cost : ℕ) (n : ℤ) → not_out (new_number cost n)
new_number_ends cost n = or_wide_ends (if_fits n) (λ n. written cost (shortest_atom n)) (λ n. new_atom_ends (cost + 10 * length (shortest_atom n)) (shortest_atom n))

from_left_ends : (step : ℤ → ℤ → ℤ) (so_far : ℤ) (ns : List ℤ) (go : ℤ → Applied) → ((n : ℤ) → not_out (go n)) → not_out (from_left step so_far ns go)
from_left_ends step so_far [] go p = p so_far
from_left_ends step so_far (n ∷ ns) go p = or_wide_ends (if_fits (step so_far n)) (λ next. from_left step next ns go) (λ next. from_left_ends step next ns go p)

numbers_end : (place : ℕ) (operands : List Tree) (go : List (List ℕ) → Applied) → ((atoms : List (List ℕ)) → not_out (go atoms)) → not_out (each_read number_at place operands go)
unfolding not_out
numbers_end place [] go p = p []
numbers_end place (Pair a b ∷ operands) go p = λ e. cc
numbers_end place (Atom bytes ∷ operands) go p =
    either_ends (is_short bytes) (each_read number_at (suc place) operands (λ more. go (bytes ∷ more))) TooWide (numbers_end (suc place) operands (λ more. go (bytes ∷ more)) (λ more. p (bytes ∷ more))) too_wide_ends

abbrev sum_cost : List (List ℕ) → ℕ
sum_cost atoms = 99 + terms_cost atoms

sum_ends : (a : Tree) → sum_with_one a ≡ Out → ⊥
unfolding not_out applied operator_of
sum_ends a =
    let operands = a ∷ Atom (1 ∷ []) ∷ [] in
    numbers_end 0 operands (λ atoms. from_left ◌+ℤ◌ (pos 0) (map number atoms) (new_number (sum_cost atoms)))
    (λ atoms. from_left_ends ◌+ℤ◌ (pos 0) (map number atoms) (new_number (sum_cost atoms)) (new_number_ends (sum_cost atoms)))

by_count : (argument : Tree) (n : ℕ) → module_meaning increment argument n ≡ module_meaning increment argument 0
unfolding without_sign_bytes shortest_atom followed operator_named token_of word_token scanned forms_of head_of meaning
by_count (Atom bytes) zero = refl
by_count (Atom bytes) (suc n) = refl
by_count (Pair a rest) zero = refl
by_count (Pair a rest) (suc n) = refl

increments : (argument : Tree) → SameMeaning increment increment_code argument
unfolding without_sign_bytes shortest_atom followed operator_named token_of word_token scanned forms_of head_of meaning head_at tree_at_front
increments (Atom bytes) = record { found = Failed; means = by_count (Atom bytes); enough = 2; gives = refl; ends = λ e. cc }
increments (Pair a rest) = record { found = sum_with_one a; means = by_count (Pair a rest); enough = 2; gives = refl; ends = sum_ends a }

increment_agrees : Agrees increment increment_code
increment_agrees = same_agrees increment increment_code increments
