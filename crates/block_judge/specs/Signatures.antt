-- Pairs of a key and a message, in sets and as conditions want them. Source: this project's own.
use Rattle.std.specs.Prelude.{◌≡◌, ◌&&◌, List, Bool, Option, option_map, option_to_list}
use Rattle.std.specs.HashSet.{HashSet, contains}
use Rattle.std.specs.Str.{bytes_eq}
use Rattle.std.specs.declared.hash.FoldHasher.{FoldHasher}
use Rattle.std.specs.declared.hash.BuildHasherDefault.{BuildHasherDefault}
use Rattle.block_spec.specs.declared.attested.Signed.{Signed}
use Rattle.cond_spec.specs.Signing.{ToSign}
use Rattle.judge_spec.specs.Checks.{is_attested}
use Rattle.block_judge.specs.declared.signing.Pair.{Pair}

abbrev pub PairSet : Type 0
PairSet = HashSet Pair (BuildHasherDefault FoldHasher)

abbrev pub is_same_pair : Pair → Pair → Bool
is_same_pair a b = bytes_eq a.key b.key && bytes_eq a.message b.message

abbrev pub seen : Pair → ToSign
seen pair = record { key = pair.key; message = pair.message }

abbrev pub pair_of : ToSign → Pair
pair_of pair = record { key = pair.key; message = pair.message }

abbrev pub is_in : PairSet → ToSign → Bool
is_in set pair = contains is_same_pair set (pair_of pair)

-- The set has just these pairs.
abbrev pub HasPairs : PairSet → List Signed → Type 0
HasPairs set attested = (pair : ToSign) → is_in set pair ≡ is_attested attested pair

abbrev pub wanted : Option Pair → List ToSign
wanted pair = option_to_list (option_map seen pair)
