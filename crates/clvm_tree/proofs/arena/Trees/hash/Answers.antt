use Rattle.std.proofs.Common.{length, subst, sym, ap, arith}
use Rattle.clvm_tree.specs.Uses.{AllEarlier}
use Rattle.clvm_tree.proofs.ArenaLaws.{length-trees_of}
use Rattle.clvm_tree.proofs.UseLaws.{all_earlier}
use Rattle.clvm_tree.proofs.arena.Trees.hash.Goals as goal

pub uses_up_to-requires-clause-earlier : goal.uses_up_to-requires-clause-earlier
uses_up_to-requires-clause-earlier c =
    subst AllEarlier (sym c.deref.ensures.value) (all_earlier c.self.inside.entries.items (length c.self.inside.bytes.items) c.self.invariant.sound)

pub uses_up_to-requires-clause-known : goal.uses_up_to-requires-clause-known
uses_up_to-requires-clause-known c =
    omega (arith, length-trees_of c.self.inside.bytes.items c.self.inside.entries.items, ap length c.self.view_is, ap length c.deref.ensures.value)

pub last_hash-requires-clause-known : goal.last_hash-requires-clause-known
last_hash-requires-clause-known c =
    omega (arith, length-trees_of c.self.inside.bytes.items c.self.inside.entries.items, ap length c.self.view_is, ap length c.deref-2.ensures.value)
