-- The lengths of generators.
use Rattle.std.proofs.Common.{◌≡◌, ℕ, ◌+◌, List, [], ◌∷◌, ◌++◌, length, refl, ap, sym, ◌∙◌, arith, length-append}
use Rattle.std.specs.List.{sum_by}
use Rattle.std.proofs.lemmas.List.Sums.{sum_by-cons}
use Rattle.clvm_spec.specs.Spelling.{spelling}
use Rattle.block_spec.specs.declared.spend.Spend.{Spend}
use Rattle.block_spec.specs.BundleTree.{spend_tree, spends_tree}
use Rattle.block_spec.specs.Added.{added_bytes, AddsUp}

length-pair : (first rest : List ℕ) → length (0xff ∷ first ++ rest) ≡ 1 + length first + length rest
length-pair first rest = omega (arith, length-append first rest)

length-spends_tree : (spends : List Spend) → length (spelling (spends_tree spends)) ≡ 1 + sum_by added_bytes spends
length-spends_tree [] = refl
length-spends_tree (spend ∷ spends) =
    length-pair (spelling (spend_tree spend)) (spelling (spends_tree spends))
    ∙ ap (λ n. 1 + length (spelling (spend_tree spend)) + n) (length-spends_tree spends)
    ∙ regroup (length (spelling (spend_tree spend))) (sum_by added_bytes spends)
    ∙ ap (λ n. 1 + n) (sym (sum_by-cons added_bytes spend spends))
  where
    regroup : (m n : ℕ) → 1 + m + (1 + n) ≡ 1 + ((1 + m) + n)
    regroup m n = omega arith

pub adds_up : (spends : List Spend) → AddsUp spends
adds_up spends = around (spelling (spends_tree spends)) (sum_by added_bytes spends) (length-spends_tree spends)
  where
    around : (list : List ℕ) (n : ℕ) → length list ≡ 1 + n → length (0xff ∷ (1 ∷ []) ++ (0xff ∷ list ++ 0x80 ∷ [])) ≡ 5 + n
    around list n e = omega (arith, length-append list (0x80 ∷ []))
