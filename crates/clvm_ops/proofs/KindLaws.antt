-- Operands by their kind, one after another.
use Rattle.std.proofs.Common.{◌≡◌, ℕ, zero, suc, ◌+◌, ◌<◌, ◌≤◌, List, [], ◌∷◌, length, drop, get_or, Option, Some, None, refl, ◌∙◌, ap, subst, arith}
use Rattle.std.specs.Prelude.{◌≢◌, Result}
use Rattle.std.specs.Result.{IsErrAnd}
use Rattle.std.specs.Option.{option_or}
use Rattle.std.proofs.lemmas.Result.{err_from_is_err_and}
use Rattle.clvm_spec.specs.declared.operands.Operands.{Operands}
use Rattle.clvm_spec.specs.Tree.{Tree}
use Rattle.clvm_spec.specs.Outcomes.{Applied, Enough}
use Rattle.clvm_spec.specs.ColumnLaws.{operand_fault, first_fault}
use Rattle.clvm_tree.specs.Operators.{trees_at, IsOpFault}
use Rattle.clvm_tree.specs.Nodes.{tree_at}
use Rattle.clvm_tree.specs.declared.Node.{Node}
use Rattle.clvm_tree.specs.declared.operators.OpFault.{OpFault}
use Rattle.clvm_tree.specs.declared.operators.OpFault.TheVariants.{OutOfMemory}
use Rattle.clvm_ops.specs.KindFaults.{Tells}

dropped : (nodes : List Node) (k : ℕ) (d : Node) → k < length nodes → drop k nodes ≡ get_or nodes k d ∷ drop (suc k) nodes
dropped [] k d h = absurd (omega arith)
dropped (node ∷ nodes) zero d h = refl
dropped (node ∷ nodes) (suc k) d h = dropped nodes k d (omega arith)

none_left : (nodes : List Node) (k : ℕ) → length nodes ≤ k → drop k nodes ≡ []
none_left [] zero h = refl
none_left [] (suc k) h = refl
none_left (node ∷ nodes) zero h = absurd (omega arith)
none_left (node ∷ nodes) (suc k) h = none_left nodes k (omega arith)

module _ (trees : List Tree) (kind : Operands) (operands : List Node) where
  -- The operands before this place are of their kind.
  abbrev pub FirstFrom : ℕ → Type 0
  FirstFrom place = first_fault kind 0 (trees_at trees operands) ≡ first_fault kind place (trees_at trees (drop place operands))

  next_is : (place : ℕ) (d : Node) → FirstFrom place → place < length operands →
      first_fault kind 0 (trees_at trees operands) ≡ option_or (operand_fault kind place (tree_at trees (get_or operands place d).0)) (first_fault kind (suc place) (trees_at trees (drop (suc place) operands)))
  next_is place d so_far h = so_far ∙ ap (λ nodes. first_fault kind place (trees_at trees nodes)) (dropped operands place d h)

  pub fair_operand : (place : ℕ) (d : Node) → FirstFrom place → place < length operands → operand_fault kind place (tree_at trees (get_or operands place d).0) ≡ None → FirstFrom (place + 1)
  fair_operand place d so_far h fair =
      let next : suc place ≡ place + 1 = omega arith in
      subst FirstFrom next
      (next_is place d so_far h ∙ ap (λ fault. option_or fault (first_fault kind (suc place) (trees_at trees (drop (suc place) operands)))) fair)

  pub wrong_operand : (place : ℕ) (d : Node) (applied : Applied) → FirstFrom place → place < length operands → operand_fault kind place (tree_at trees (get_or operands place d).0) ≡ Some applied →
      first_fault kind 0 (trees_at trees operands) ≡ Some applied
  wrong_operand place d applied so_far h wrong =
      next_is place d so_far h ∙ ap (λ fault. option_or fault (first_fault kind (suc place) (trees_at trees (drop (suc place) operands)))) wrong

  pub all_fair : (place : ℕ) → FirstFrom place → length operands ≤ place → first_fault kind 0 (trees_at trees operands) ≡ None
  all_fair place so_far h = so_far ∙ ap (λ nodes. first_fault kind place (trees_at trees nodes)) (none_left operands place h)

-- a fault that is handed on
pub err_told : {T : Type 0} (trees : List Tree) (fault : Option Applied) (told : OpFault) (result : Result T OpFault) → IsErrAnd result (λ e. e ≡ told) → ((applied : Applied) × (fault ≡ Some applied) × IsOpFault trees (Enough applied) told × (told ≢ OutOfMemory)) → Tells trees fault result
err_told trees fault told result handed is = let e = err_from_is_err_and result handed in rw (e.1, e.2) is
