use Rattle.std.proofs.Common.{◌≡◌, ℕ, ◌<◌, ◌≤◌, List, Some, None, get_or, sym, ◌∙◌, ⊎_elim, arith}
use Rattle.std.proofs.Math.ListN.{replicate}
use Rattle.std.proofs.lemmas.List.{get_or-replicate, get_or_past, length-replicate}
use Rattle.std.proofs.lemmas.Bool.{cases_lt}
use Rattle.clvm_tree.proofs.byte_hashes.ByteHashes.new.Goals as goal

same_everywhere : {A : Type 0} (n i : ℕ) (a : A) → get_or (replicate n a) i a ≡ a
same_everywhere n i a = ⊎_elim (λ (within : i < n). get_or-replicate n i a a within) (λ (past : n ≤ i). get_or_past (replicate n a) i a (omega (arith, length-replicate n a))) (cases_lt i n)

none_known : (n byte : ℕ) (hash : List ℕ) → get_or (replicate n None) byte None ≡ Some hash → ⊥
none_known n byte hash known = let unknown : None ≡ Some hash = sym (same_everywhere n byte None) ∙ known in cc

pub invariant_of-result : goal.invariant_of-result
invariant_of-result c = record { right = λ byte hash known. absurd (none_known 256 byte hash known) }
