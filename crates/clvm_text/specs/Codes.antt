-- How what a form names is stored, where a type of the program is seen as that. This project's own.
use Rattle.std.specs.Prelude.{◌≡◌, ℕ, List, [], Option, Some, None, refl}
use Rattle.std.specs.Coded.{Coded, code_by, coded_list, coded_option, coded_ℕ, coded×}
use Rattle.clvm_spec.specs.Tree.{Tree}
use Rattle.clvm_spec.specs.TreeCode.{tree_code}
use Rattle.clvm_spec.specs.Text.{Named, Names, Unknown}

abbrev pub nothing : Named
nothing = Unknown []

abbrev pub parts : Named → Option Tree × List ℕ
parts (Names tree) = (Some tree, [])
parts (Unknown from) = (None, from)

abbrev pub joined : Option Tree × List ℕ → Named
joined (Some tree, from) = Names tree
joined (None, from) = Unknown from

pub joined-parts : (named : Named) → joined (parts named) ≡ named
joined-parts (Names tree) = refl
joined-parts (Unknown from) = refl

abbrev pub named_code : Coded Named
named_code = code_by (Option Tree × List ℕ) (coded× (coded_option tree_code) (coded_list coded_ℕ)) parts joined joined-parts
