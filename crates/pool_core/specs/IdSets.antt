-- A set has just the ids of a list. Source: this project's own.
use Rattle.std.specs.Prelude.{◌≡◌, List}
use Rattle.std.specs.HashSet.{HashSet, contains}
use Rattle.std.specs.declared.hash.FoldHasher.{FoldHasher}
use Rattle.std.specs.declared.hash.BuildHasherDefault.{BuildHasherDefault}
use Rattle.coin_facts.specs.declared.hash32.Hash32.{Hash32}
use Rattle.coin_facts.specs.IdLists.{is_same_id}
use Rattle.coin_facts.specs.IdLists.{is_among}

abbrev pub IdSet : Type 0
IdSet = HashSet Hash32 (BuildHasherDefault FoldHasher)

abbrev pub HasIds : IdSet → List Hash32 → Type 0
HasIds set ids = (id : Hash32) → contains is_same_id set id ≡ is_among ids id
