-- What a library is asked for. This project's own.
use Rattle.std.specs.Prelude.{◌≡◌, ℕ, ◌<◌, false, List, length, Option, Some, None, Err, bytes_eq, if◌then◌else◌}
use Rattle.lisp_spec.specs.Forms.{Form, Place}
use Rattle.lisp_spec.specs.BuiltIns.{built_in}
use Rattle.lisp_spec.specs.ModuleFaults.{IncludeMissing, fault, Judged, ◌>>=◌, is_among}
use Rattle.lisp_spec.specs.Definitions.{Includes, entry_of}
use Rattle.lisp_spec.specs.Inclusion.{Walk, Texts, most_texts, parts_of_text, definitions_of}

-- these texts, but with this answer for one name
abbrev pub with_answer : Texts → List ℕ → Option (List ℕ) → Texts
with_answer texts name answer asked = if bytes_eq asked name then answer else texts asked

-- What is judged over these texts hangs on the text of a name that isn't built in: the first fault without it is that it is
-- missing, at an include, and that isn't the first fault with some text of that name.
pub record AsksFor {A : Type 0} (judged : Texts → Judged A) (texts : Texts) : Type 0 where
  pub name : List ℕ
  pub not_built_in : built_in name ≡ None
  pub place : Place
  pub missing : judged (with_answer texts name None) ≡ Err (fault IncludeMissing place)
  pub text : List ℕ
  pub found : ¬ (judged (with_answer texts name (Some text)) ≡ Err (fault IncludeMissing place))

-- the same of a module's text
abbrev pub TextAsks : List ℕ → Texts → Type 0
TextAsks text texts = AsksFor (λ others. parts_of_text text >>= definitions_of others) texts

-- ---- along the walk

-- A text of this name is added, and a library has to have it.
pub record IsAskedFor (name : List ℕ) (walk : Walk) : Type 0 where
  pub not_built_in : built_in name ≡ None
  pub new : is_among name walk.included ≡ false
  pub room : length walk.included < most_texts

-- The form includes such a text.
abbrev pub FormAsks : Form → Walk → Type 0
FormAsks form walk = (name : List ℕ) × (entry_of form ≡ Includes name) × IsAskedFor name walk
