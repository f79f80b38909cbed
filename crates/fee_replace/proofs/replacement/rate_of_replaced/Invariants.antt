use Rattle.std.proofs.Common.{◌≡◌, ◌*◌, ◌^◌, ◌≤◌, take, get_or}
use Rattle.std.specs.List.{sum_by}
use Rattle.pool_spec.specs.Prices.{Priced}
use Rattle.fee_replace.proofs.replacement.rate_of_replaced.Given as goal

abbrev pub invariant-loop-place : goal.invariant-loop-place
invariant-loop-place l = record {
  fee : (d : Priced) → l.together.fee ≡ sum_by (λ p. (get_or l.items p d).fee) (take l.place-index l.conflicts);
  cost : (d : Priced) → l.together.cost ≡ sum_by (λ p. (get_or l.items p d).cost) (take l.place-index l.conflicts);
  small_fee : l.together.fee ≤ l.place-index * 2 ^ 96;
  small_cost : l.together.cost ≤ l.place-index * 2 ^ 64;
}
