-- What some words and texts stand for, worked out.
use Rattle.std.proofs.Common.{◌≡◌, [], ◌∷◌, Some, None, refl, codes}
use Rattle.hex.specs.Hex.{decode_pairs}
use Rattle.clvm_spec.specs.Reading.{head_at, tree_at_front}
use Rattle.clvm_input.specs.Texts.{trimmed}
use Rattle.clvm_input.specs.Words.{word_of}

nil : word_of (codes "80") ≡ Some (0x80 ∷ [])
unfolding decode_pairs head_at tree_at_front
nil = refl

either_case : word_of (codes "0xFf01fF0280") ≡ Some (0xff ∷ 0x01 ∷ 0xff ∷ 0x02 ∷ 0x80 ∷ [])
unfolding decode_pairs head_at tree_at_front
either_case = refl

empty : word_of [] ≡ None
unfolding decode_pairs head_at tree_at_front
empty = refl

prefix_alone : word_of (codes "0x") ≡ None
unfolding decode_pairs head_at tree_at_front
prefix_alone = refl

other_prefix : word_of (codes "0X80") ≡ None
unfolding decode_pairs head_at tree_at_front
other_prefix = refl

odd : word_of (codes "8") ≡ None
unfolding decode_pairs head_at tree_at_front
odd = refl

blank_in_front : word_of (codes " 80") ≡ None
unfolding decode_pairs head_at tree_at_front
blank_in_front = refl

two_trees : word_of (codes "8080") ≡ None
unfolding decode_pairs head_at tree_at_front
two_trees = refl

cut : word_of (codes "ff01") ≡ None
unfolding decode_pairs head_at tree_at_front
cut = refl

long_spelling : word_of (codes "8101") ≡ None
unfolding decode_pairs head_at tree_at_front
long_spelling = refl

blanks_at_both_ends : trimmed (codes "  8 0 ") ≡ codes "8 0"
blanks_at_both_ends = refl

blanks_alone : trimmed (codes "  ") ≡ []
blanks_alone = refl
