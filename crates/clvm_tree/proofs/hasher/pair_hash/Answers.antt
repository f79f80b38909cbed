use Rattle.std.proofs.Common.{◌≡◌, ℕ, List, [], ◌∷◌, ◌++◌, refl, ◌∙◌, ap, length, take, drop, arith}
use Rattle.std.proofs.lemmas.List.{append-nil, length-append, length-drop, take-append-le, take_all, drop_all}
use Rattle.sha2.specs.Sha256.{sha256}
use Rattle.clvm_tree.proofs.hasher.pair_hash.Goals as goal

-- the message once both hashes are written over what was there
message_is : (a b more first rest : List ℕ) → a ≡ first → b ≡ rest → length first ≡ 32 → length more ≡ 32 → 2 ∷ (take 32 (a ++ more) ++ (b ++ drop 32 (drop 33 (2 ∷ (a ++ more))))) ≡ 2 ∷ (first ++ rest)
message_is a b more first rest is_first is_rest long left =
    let all = 2 ∷ (a ++ more) in
    let long_a : length a ≡ 32 = ap length is_first ∙ long in
    let front : take 32 (a ++ more) ≡ a = take-append-le 32 a more (omega (arith, long_a)) ∙ take_all 32 a (omega (arith, long_a)) in
    let none : drop 32 (drop 33 all) ≡ [] = drop_all 32 (drop 33 all) (omega (arith, length-drop 33 all, length-append a more, long_a, left)) in
    ap (λ t. 2 ∷ (t ++ (b ++ drop 32 (drop 33 all)))) (front ∙ is_first)
    ∙ ap (λ t. 2 ∷ (first ++ (b ++ t))) none
    ∙ ap (λ t. 2 ∷ (first ++ t)) (append-nil b ∙ is_rest)

pub returns : goal.returns
returns c =
    let digest : c.digest.result ≡ sha256 c.as_slice-3.result.now = c.digest.ensures in
    let message = message_is _ _ _ c.args.first.now c.args.rest.now (c.copy_from_slice.ensures.after ∙ c.as_slice.ensures) (c.copy_from_slice-2.ensures.after ∙ c.as_slice-2.ensures) c.told-first refl in
    digest ∙ ap sha256 (c.as_slice-3.ensures ∙ message)
