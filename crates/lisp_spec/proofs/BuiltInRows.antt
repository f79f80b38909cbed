-- The built-in texts: their lengths, a line, and which names they have.
use Rattle.std.specs.Prelude.{◌≡◌, [], ◌∷◌, ◌++◌, None, length, take, codes, refl}
use Rattle.std.specs.Fmt.{digits}
use Rattle.lisp_spec.specs.BuiltIns.{condition, condition_codes, constant_line, condition_codes_text, tree_hash_text, built_in}

texts :
    (length condition_codes ≡ 34)
    × (constant_line (condition 43 (codes "AGG_SIG_PARENT")) ≡ codes "  (defconstant AGG_SIG_PARENT 43)" ++ 10 ∷ [])
    × (take 3 condition_codes_text ≡ 40 ∷ 10 ∷ 32 ∷ [])
    × (length condition_codes_text ≡ 1355)
    × (take 3 tree_hash_text ≡ 40 ∷ 10 ∷ 32 ∷ [])
    × (length tree_hash_text ≡ 430)
unfolding digits
texts = (refl, refl, refl, refl, refl, refl)

names :
    (built_in (codes "condition_codes") ≡ None)
    × (built_in (codes "Tree_hash.clib") ≡ None)
    × (built_in [] ≡ None)
unfolding built_in
names = (refl, refl, refl)
