-- A name that is none of the built-in texts'.
use Rattle.std.proofs.Common.{◌≡◌, ℕ, List, false, None, refl, codes, bytes_eq}
use Rattle.std.proofs.lemmas.Bool.{false_from_ne_true}
use Rattle.std.proofs.lemmas.Slice.Eq.{bytes_eq-Decides}
use Rattle.lisp_spec.specs.BuiltIns.{built_in}

differs : (one other : List ℕ) → ¬ (one ≡ other) → bytes_eq one other ≡ false
differs one other not_same = false_from_ne_true (bytes_eq one other) (λ same. not_same ((bytes_eq-Decides one other).0 same))

pub other_name : (name : List ℕ) → ¬ (name ≡ codes "condition_codes.clib") → ¬ (name ≡ codes "tree_hash.clib") → built_in name ≡ None
unfolding built_in
other_name name not_codes not_hash = rw (differs name (codes "condition_codes.clib") not_codes, differs name (codes "tree_hash.clib") not_hash) refl
