-- A name that is none of the commands'.
use Rattle.std.proofs.Common.{◌≡◌, List, false, None, refl, codes, bytes_eq}
use Rattle.std.proofs.lemmas.Bool.{false_from_ne_true}
use Rattle.std.proofs.lemmas.Slice.Eq.{bytes_eq-Decides}
use Rattle.tool_words.specs.Rows.{Text}
use Rattle.tool_words.specs.Commands.{command_by}

differs : (one other : Text) → ¬ (one ≡ other) → bytes_eq one other ≡ false
differs one other not_same = false_from_ne_true (bytes_eq one other) (λ same. not_same ((bytes_eq-Decides one other).0 same))

pub other_name : (name : Text) (words : List Text) → ¬ (name ≡ codes "session") → ¬ (name ≡ codes "hash") → ¬ (name ≡ codes "eval") → ¬ (name ≡ codes "curry") → command_by name words ≡ None
other_name name words not_session not_hash not_eval not_curry =
    rw (differs name (codes "session") not_session, differs name (codes "hash") not_hash, differs name (codes "eval") not_eval, differs name (codes "curry") not_curry) refl
