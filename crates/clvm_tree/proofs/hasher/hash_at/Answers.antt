use Rattle.std.proofs.Common.{sym}
use Rattle.clvm_tree.specs.Arena.{trees_of}
use Rattle.clvm_tree.proofs.ReadyLaws.{hash_of_atom, ready_put}
use Rattle.clvm_tree.proofs.hasher.hash_at.Goals as goal

pub returns-in_ok-put-clause-hash : goal.returns-in_ok-put-clause-hash
returns-in_ok-put-clause-hash c =
    hash_of_atom (trees_of c.args.bytes.now c.args.entries.now) c.args.uses.now c.args.kept.now c.args.place c.args.node.0 c.atom_at.result.now c.atom_hash-hash.result
    c.requires.ready c.requires.earlier c.requires.used (sym c.in_default.ensures) c.atom_at.ensures c.atom_hash-hash.ensures

pub returns-in_ok-put-clause-ready : goal.returns-in_ok-put-clause-ready
returns-in_ok-put-clause-ready c =
    ready_put (trees_of c.args.bytes.now c.args.entries.now) c.args.uses.now c.args.kept.now c.put.new.self c.args.node.0 c.args.place c.args.place c.atom_hash-hash.result
    c.requires.ready c.in_ok-put.ensures (returns-in_ok-put-clause-hash c)

pub returns-else-uses-node-clause-hash : goal.returns-else-uses-node-clause-hash
returns-else-uses-node-clause-hash c =
    hash_of_atom (trees_of c.args.bytes.now c.args.entries.now) c.args.uses.now c.args.kept.now c.args.place c.args.node.0 c.atom_at.result.now c.atom_hash-hash.result
    c.requires.ready c.requires.earlier c.requires.used (sym c.in_default.ensures) c.atom_at.ensures c.atom_hash-hash.ensures
