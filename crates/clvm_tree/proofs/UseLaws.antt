-- Parts are earlier than their pairs.
use Rattle.std.proofs.Common.{◌≡◌, ℕ, ◌+◌, List, get_or, subst, arith}
use Rattle.clvm_tree.specs.Arena.{HasEarlierParts, IsSoundAt, AreSound}
use Rattle.clvm_tree.specs.Uses.{AllEarlier}
use Rattle.clvm_tree.specs.declared.entry.Entry.{Entry}
use Rattle.clvm_tree.specs.declared.entry.Entry.TheVariants.{Bytes, Two}
use Rattle.clvm_tree.specs.declared.arena.TheConstants.{FIRST_COUNT}
use Rattle.clvm_tree.proofs.ArenaLaws.{sound_at}

earlier_parts : (place size : ℕ) (e : Entry) → IsSoundAt place size e → HasEarlierParts place e
earlier_parts place size (Bytes start end) h = tt
earlier_parts place size (Two first rest) h = h

pub all_earlier : (entries : List Entry) (size : ℕ) → AreSound FIRST_COUNT size entries → AllEarlier entries
all_earlier entries size sound = λ k d within.
    let eq : FIRST_COUNT + k ≡ k + FIRST_COUNT = omega arith in
    earlier_parts (k + FIRST_COUNT) size (get_or entries k d) (subst (λ p. IsSoundAt p size (get_or entries k d)) eq (sound_at FIRST_COUNT size entries k d sound within))
