-- What is left suffices exactly where each count does.
use Rattle.std.proofs.Common.{◌≡◌, ◌≤◌, Bool, true, false, cond, Option, Some, None, refl, ◌∙◌}
use Rattle.std.proofs.lemmas.Bool.{ltb-false, le-ltb, cond-false}
use Rattle.clvm_spec.specs.declared.fuel.Fuel.{Fuel}
use Rattle.clvm_spec.specs.declared.fuel.Which.{Which}
use Rattle.clvm_spec.specs.Spending.{Spending, exceeds, Suffices}

pub record Covers (fuel : Fuel) (spending : Spending) : Type 0 where
  pub cost : spending.cost ≤ fuel.cost
  pub pairs : spending.pairs ≤ fuel.pairs
  pub bytes : spending.bytes ≤ fuel.bytes

none_lacks : (test : Bool) (which : Which) (rest : Option Which) → cond test (Some which) rest ≡ None → (test ≡ false) × (rest ≡ None)
none_lacks true which rest e = absurd cc
none_lacks false which rest e = (refl, e)

pub covers : (fuel : Fuel) (spending : Spending) → Suffices fuel spending → Covers fuel spending
covers fuel spending suffices =
    let paid = none_lacks (exceeds spending.cost fuel.cost) _ _ suffices in
    let paired = none_lacks (exceeds spending.pairs fuel.pairs) _ _ paid.1 in
    let made = none_lacks (exceeds spending.bytes fuel.bytes) _ _ paired.1 in
    record {
      cost = ltb-false fuel.cost spending.cost paid.0;
      pairs = ltb-false fuel.pairs spending.pairs paired.0;
      bytes = ltb-false fuel.bytes spending.bytes made.0;
    }

pub covered : (fuel : Fuel) (spending : Spending) → Covers fuel spending → Suffices fuel spending
covered fuel spending covers =
    cond-false _ _ _ (le-ltb fuel.cost spending.cost covers.cost)
    ∙ cond-false _ _ _ (le-ltb fuel.pairs spending.pairs covers.pairs)
    ∙ cond-false _ _ _ (le-ltb fuel.bytes spending.bytes covers.bytes)
