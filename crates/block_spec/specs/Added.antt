-- What a spend adds to the spelling of its list's generator: its own tree's bytes, and one of the list. Source: this
-- project's own.
use Rattle.std.specs.Prelude.{◌≡◌, ℕ, ◌+◌, List, length}
use Rattle.std.specs.List.{sum_by}
use Rattle.clvm_spec.specs.Spelling.{spelling}
use Rattle.block_spec.specs.declared.spend.Spend.{Spend}
use Rattle.block_spec.specs.declared.sizes.TheConstants.{EMPTY_GENERATOR_BYTES}
use Rattle.block_spec.specs.BundleTree.{spend_tree, generator}

abbrev pub added_bytes : Spend → ℕ
added_bytes spend = 1 + length (spelling (spend_tree spend))

abbrev pub generator_bytes : List Spend → ℕ
generator_bytes spends = length (spelling (generator spends))

-- how many bytes the generator has of a list, whatever its spends
abbrev pub AddsUp : List Spend → Type 0
AddsUp spends = generator_bytes spends ≡ EMPTY_GENERATOR_BYTES + sum_by added_bytes spends
