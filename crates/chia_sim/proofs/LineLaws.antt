-- What a line says, by what the reader of JSON answers.
use Rattle.std.proofs.Common.{◌≡◌, ◌∙◌, ℕ, List, Bool, true, false, Some, None, refl, ap, if◌then◌else◌}
use Rattle.std.specs.Prelude.{is_some, IsUtf8}
use Rattle.std.specs.Str.{is_utf8}
use Rattle.std.proofs.lemmas.Str.{IsUtf8-from_is_utf8, is_utf8-from_IsUtf8}
use Rattle.serde_json.specs.Data.{Data, null, boolean, number, string, array, object}
use Rattle.serde_json.specs.Read.{read}
use Rattle.serde_json.specs.Find.{as_object}
use Rattle.session_spec.specs.Steps.{◌>>=◌}
use Rattle.session_spec.specs.Lines.{object_of, if_object}

if_object-is : (value : Data) → is_some (as_object value) ≡ true → if_object value ≡ Some value
if_object-is null e = cc
if_object-is (boolean b) e = cc
if_object-is (number n) e = cc
if_object-is (string s) e = cc
if_object-is (array ds) e = cc
if_object-is (object ms) e = refl

at_text : (line : List ℕ) → IsUtf8 line → object_of line ≡ (read line >>= if_object)
at_text line text = ap (λ b. if b then read line >>= if_object else None) (is_utf8-from_IsUtf8 line text)

pub object_of-object : (line : List ℕ) (value : Data) → IsUtf8 line → read line ≡ Some value → is_some (as_object value) ≡ true → object_of line ≡ Some value
object_of-object line value text found is = at_text line text ∙ ap (λ r. r >>= if_object) found ∙ if_object-is value is

unread : (line : List ℕ) (b : Bool) → (b ≡ true → read line ≡ None) → (if b then read line >>= if_object else None) ≡ None
unread line true none = ap (λ r. r >>= if_object) (none refl)
unread line false none = refl

pub object_of-unread : (line : List ℕ) → (IsUtf8 line → read line ≡ None) → object_of line ≡ None
object_of-unread line none = unread line (is_utf8 line) (λ e. none (IsUtf8-from_is_utf8 line e))
