-- Trees whose spelling is too long.
use Rattle.std.proofs.Common.{◌≡◌, length, Bool, true, false, nat_le, refl, sym, arith, leb-true}
use Rattle.clvm_spec.specs.declared.limits.TheConstants.{MOST_WRITTEN}
use Rattle.clvm_spec.specs.Tree.{Tree}
use Rattle.clvm_spec.specs.Spelling.{spelling}
use Rattle.clvm_spec.proofs.SpellingLaws.{short_has_spelling}
use Rattle.clvm_tree.specs.Writes.{HasSpellingWithin}

-- A tree that isn't written has a longer spelling.
pub long-if-refused : (tree : Tree) (b : Bool) → b ≡ nat_le (length (spelling tree)) MOST_WRITTEN → (HasSpellingWithin MOST_WRITTEN tree → ⊥) → b ≡ false
long-if-refused tree false is refused = refl
long-if-refused tree true is refused =
    let short = leb-true (length (spelling tree)) MOST_WRITTEN (sym is) in
    absurd (refused (record { spelled = short_has_spelling tree (omega (arith, short)); within = short }))
