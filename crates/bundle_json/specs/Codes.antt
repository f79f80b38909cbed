-- The codes of earlier modules, as contracts see them. Source: this project's own.
use Rattle.std.specs.Prelude.{◌≡◌, ◌≤◌, ℕ, List, length, map, IsTrue, Option, None, option_map}
use Rattle.std.specs.List.{IsDistinct}
use Rattle.std.specs.Str.{bytes_eq}
use Rattle.clvm_spec.specs.declared.limits.TheConstants.{MOST_WRITTEN}
use Rattle.clvm_spec.specs.Spelled.{is_spelled, spelled_tree}
use Rattle.coin_facts.specs.declared.hash32.Hash32.{Hash32}
use Rattle.block_spec.specs.BlockReading.{hash_of_tree}
use Rattle.session_spec.specs.LineMembers.{Compiled, module_named}

-- a module's name, and the bytes of its code
pub record NamedCode : Type 0 where
  pub name : List ℕ
  pub code : List ℕ

-- These bytes spell one tree, and are not too many for a module's code.
abbrev pub IsCode : List ℕ → Type 0
IsCode code = IsTrue (is_spelled code) × (length code ≤ MOST_WRITTEN)

abbrev pub hash_of_code : List ℕ → Hash32
hash_of_code code = hash_of_tree (spelled_tree code)

-- A member's form looks at a module's name and code, and not at its text.
abbrev pub without_text : NamedCode → Compiled
without_text named = record { name = named.name; source = None; code = named.code }

abbrev pub modules_of : List NamedCode → List Compiled
modules_of codes = map without_text codes

abbrev pub code_named : List NamedCode → List ℕ → Option (List ℕ)
code_named codes name = option_map (λ m. m.code) (module_named (modules_of codes) name)

abbrev pub HasDistinctNames : List NamedCode → Type 0
HasDistinctNames codes = IsDistinct bytes_eq (map (λ c. c.name) codes)
