use Rattle.std.proofs.Common.{◌≡◌, ◌<◌, ◌≤◌, subst, sym, ◌∙◌, ap, arith}
use Rattle.clvm_spec.specs.Tree.{Pair}
use Rattle.clvm_spec.specs.Hashing.{pair_hash, tree_hash}
use Rattle.clvm_tree.specs.Nodes.{tree_at}
use Rattle.clvm_tree.specs.Arena.{trees_of}
use Rattle.clvm_tree.specs.Uses.{use_of, HasUsedParts}
use Rattle.clvm_tree.specs.declared.entry.Entry.TheVariants.{Bytes, Two}
use Rattle.clvm_tree.proofs.ArenaLaws.{entry_is}
use Rattle.clvm_tree.proofs.ReadyLaws.{ready_later, ready_pair, ready_atom}
use Rattle.clvm_tree.proofs.hasher.hash_pair_at.Goals as goal
use Rattle.clvm_tree.proofs.hasher.hash_pair_at.Goals.{In-Two}

-- its parts are earlier, and it is their pair
parts_of : (c : In-Two) → ((c.in-Two.first.0 < c.args.place) × (c.in-Two.rest.0 < c.args.place)) × (tree_at (trees_of c.args.bytes.now c.args.entries.now) c.args.place ≡ Pair (tree_at (trees_of c.args.bytes.now c.args.entries.now) c.in-Two.first.0) (tree_at (trees_of c.args.bytes.now c.args.entries.now) c.in-Two.rest.0))
parts_of c = entry_is c.args.entries.now c.args.bytes.now c.args.place (Bytes 0 0) (Two c.in-Two.first c.in-Two.rest) c.requires.arena c.requires.entry c.requires.known (c.entry_at.ensures (Bytes 0 0) ∙ c.in-Two.is)

uses_of : (c : In-Two) → (c.args.place ≤ use_of c.args.uses.now c.in-Two.first.0) × (c.args.place ≤ use_of c.args.uses.now c.in-Two.rest.0)
uses_of c = subst (HasUsedParts c.args.uses.now c.args.place) (c.entry_at.ensures (Bytes 0 0) ∙ c.in-Two.is) (c.requires.parts (Bytes 0 0))

pub hash_at-requires-clause-known : goal.hash_at-requires-clause-known
hash_at-requires-clause-known c = let parts = (parts_of (goal.at.hash_at-requires-clause-known c).In-Two).0 in omega (arith, parts.0, c.requires.known)

pub hash_at-requires-clause-within : goal.hash_at-requires-clause-within
hash_at-requires-clause-within c = let parts = (parts_of (goal.at.hash_at-requires-clause-within c).In-Two).0 in omega (arith, parts.0, c.requires.within)

pub hash_at-requires-clause-earlier : goal.hash_at-requires-clause-earlier
hash_at-requires-clause-earlier c = (parts_of (goal.at.hash_at-requires-clause-earlier c).In-Two).0.0

pub hash_at-requires-clause-used : goal.hash_at-requires-clause-used
hash_at-requires-clause-used c = (uses_of (goal.at.hash_at-requires-clause-used c).In-Two).0

pub hash_at-requires-in-Two-clause-known : goal.hash_at-requires-in-Two-clause-known
hash_at-requires-in-Two-clause-known c = let parts = (parts_of (goal.at.hash_at-requires-in-Two-clause-known c).In-Two).0 in omega (arith, parts.1, c.requires.known)

pub hash_at-requires-in-Two-clause-within : goal.hash_at-requires-in-Two-clause-within
hash_at-requires-in-Two-clause-within c = let parts = (parts_of (goal.at.hash_at-requires-in-Two-clause-within c).In-Two).0 in omega (arith, parts.1, c.requires.within)

pub hash_at-requires-in-Two-clause-earlier : goal.hash_at-requires-in-Two-clause-earlier
hash_at-requires-in-Two-clause-earlier c = (parts_of (goal.at.hash_at-requires-in-Two-clause-earlier c).In-Two).0.1

pub hash_at-requires-in-Two-clause-used : goal.hash_at-requires-in-Two-clause-used
hash_at-requires-in-Two-clause-used c = (uses_of (goal.at.hash_at-requires-in-Two-clause-used c).In-Two).1

pub let_go-requires-clause-within : goal.let_go-requires-clause-within
let_go-requires-clause-within c = let parts = (parts_of (goal.at.let_go-requires-clause-within c).In-Two).0 in omega (arith, parts.0, c.requires.within)

pub let_go-requires-in-Two-clause-within : goal.let_go-requires-in-Two-clause-within
let_go-requires-in-Two-clause-within c = let parts = (parts_of (goal.at.let_go-requires-in-Two-clause-within c).In-Two).0 in omega (arith, parts.1, c.requires.within)

pub let_go-requires-in-Two-clause-long : goal.let_go-requires-in-Two-clause-long
let_go-requires-in-Two-clause-long c =
    let trees = trees_of c.args.bytes.now c.args.entries.now in
    (c.let_go.ensures trees (ready_later trees c.args.uses.now c.hash_at-in-Two.new.kept c.args.place c.args.place c.in_ok-rest_hash.ensures.ready)).long

pub put-requires : goal.put-requires
put-requires c =
    let trees = trees_of c.args.bytes.now c.args.entries.now in
    let before = c.let_go.ensures trees (ready_later trees c.args.uses.now c.hash_at-in-Two.new.kept c.args.place c.args.place c.in_ok-rest_hash.ensures.ready) in
    omega (arith, (c.let_go-in-Two.ensures trees before).long, c.requires.within)

pub returns-in_ok-put : goal.returns-in_ok-put
returns-in_ok-put c =
    let trees = trees_of c.args.bytes.now c.args.entries.now in
    let facts = parts_of (goal.at.returns-in_ok-put c).In-Two in
    let before = c.let_go.ensures trees (ready_later trees c.args.uses.now c.hash_at-in-Two.new.kept c.args.place c.args.place c.in_ok-rest_hash.ensures.ready) in
    ready_pair trees c.args.uses.now c.let_go-in-Two.new.kept c.put.new.self c.args.place c.pair_hash.result (c.let_go-in-Two.ensures trees before) c.in_ok-put.ensures
    (c.pair_hash.ensures ∙ ap (λ h. pair_hash h c.in_ok-rest_hash.rest_hash) c.in_ok-first_hash.ensures.hash
    ∙ ap (pair_hash (tree_hash (tree_at trees c.in-Two.first.0))) c.in_ok-rest_hash.ensures.hash ∙ ap tree_hash (sym facts.1))

pub returns-in_default : goal.returns-in_default
returns-in_default c =
    let facts = entry_is c.args.entries.now c.args.bytes.now c.args.place (Bytes 0 0) (Bytes c.in_default.field-0 c.in_default.field-1) c.requires.arena c.requires.entry c.requires.known (c.entry_at.ensures (Bytes 0 0) ∙ c.in_default.is) in
    ready_atom (trees_of c.args.bytes.now c.args.entries.now) c.args.uses.now c.args.kept.now c.args.place _ c.requires.ready facts.1
