use Rattle.std.proofs.Common.{◌≡◌, ℕ, List, [], ◌∷◌, ◌<◌, ◌≤◌, length, get_or, refl, ◌∙◌, ap, arith}
use Rattle.clvm_spec.specs.Tree.{Atom}
use Rattle.clvm_tree.proofs.ArenaLaws.{same_node}
use Rattle.clvm_tree.proofs.arena.Trees.atom.Goals as goal

no_bytes : (xs : List ℕ) → length xs < 1 → [] ≡ xs
no_bytes [] h = refl
no_bytes (x ∷ xs) h = absurd (omega arith)

one_byte : (xs : List ℕ) → length xs < 2 → 1 ≤ length xs → get_or xs 0 0 ∷ [] ≡ xs
one_byte [] h l = absurd (omega arith)
one_byte (y ∷ []) h l = refl
one_byte (y ∷ z ∷ xs) h l = absurd (omega arith)

pub returns-in-empty-clause-ok : goal.returns-in-empty-clause-ok
returns-in-empty-clause-ok c =
    same_node c.args.self.now c.nil.result.0 (Atom c.args.bytes.now) c.nil.ensures.known
    (c.nil.ensures.stands ∙ ap Atom (no_bytes c.args.bytes.now c.in-empty.len_below))

pub returns-in-len1-clause-ok : goal.returns-in-len1-clause-ok
returns-in-len1-clause-ok c =
    same_node c.args.self.now c.byte.result.0 (Atom c.args.bytes.now) c.byte.ensures.known
    (c.byte.ensures.stands ∙ ap Atom (one_byte c.args.bytes.now c.in-len1.len_below c.in-len1.len_at_least))
