-- What can be attested: a key, and a message of at most as many bytes as a tree that is read. Source: this project's own.
use Rattle.std.specs.Prelude.{◌≡◌, ◌≤◌, List, length}
use Rattle.std.specs.List.{AllByRecursion}
use Rattle.clvm_spec.specs.declared.limits.TheConstants.{MOST_SPELLED}
use Rattle.coin_facts.specs.declared.sizes.TheConstants.{KEY_BYTES}
use Rattle.block_spec.specs.declared.attested.Signed.{Signed}

abbrev pub IsAttestable : Signed → Type 0
IsAttestable signed = (length signed.key ≡ KEY_BYTES) × (length signed.message ≤ MOST_SPELLED)

abbrev pub AreAttestable : List Signed → Type 0
AreAttestable = AllByRecursion IsAttestable
