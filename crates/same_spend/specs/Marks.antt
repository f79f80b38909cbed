-- Which spends of a bundle are Forward, by their puzzle hashes and by what is told of their shapes. Source: this project's
-- own.
use Rattle.std.specs.Prelude.{◌≡◌, ℕ, ◌&&◌, List, map, zip, count_by, nat_lt, Bool, not}
use Rattle.std.specs.List.{list_all}
use Rattle.std.specs.HashSet.{HashSet, contains}
use Rattle.std.specs.declared.hash.FoldHasher.{FoldHasher}
use Rattle.std.specs.declared.hash.BuildHasherDefault.{BuildHasherDefault}
use Rattle.coin_facts.specs.declared.hash32.Hash32.{Hash32}
use Rattle.coin_facts.specs.IdLists.{is_same_id}

abbrev pub HashesSet : Type 0
HashesSet = HashSet Hash32 (BuildHasherDefault FoldHasher)

-- how often a hash stands in a list
abbrev pub times : List Hash32 → Hash32 → ℕ
times hashes hash = count_by (λ other. is_same_id other hash) hashes

-- The set has just the hashes that stand in the list more than once.
abbrev pub HasRepeated : HashesSet → List Hash32 → Type 0
HasRepeated set hashes = (hash : Hash32) → contains is_same_id set hash ≡ nat_lt 1 (times hashes hash)

-- The spend has the shape, and no other has its puzzle hash.
abbrev pub has_lone_shape : List Hash32 → Hash32 × Bool → Bool
has_lone_shape hashes pair = pair.1 && not (nat_lt 1 (times hashes pair.0))

-- Those are Forward, unless all spends are such.
abbrev pub forwards : List Hash32 → List Bool → List Bool
forwards hashes shaped =
    let lone = map (has_lone_shape hashes) (zip hashes shaped) in
    map (λ is_lone. is_lone && not (list_all (λ other. other) lone)) lone
