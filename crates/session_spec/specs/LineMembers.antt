-- The members of a line and of the objects in it, each with its faults: it isn't there, it isn't of its form, it names a
-- module that isn't there. Source: this project's own.
use Rattle.std.specs.Prelude.{ℕ, ◌==◌, ◌||◌, List, [], ◌∷◌, ◌++◌, map, find, bytes_eq, Bool, Option, Some, None, option_map, Result, Ok, Err, ok_or, codes, if◌then◌else◌}
use Rattle.std.specs.Result.{is_err}
use Rattle.serde_json.specs.Data.{Data}
use Rattle.serde_json.specs.Find.{get, as_str}
use Rattle.clvm_spec.specs.Spelled.{spelled_tree}
use Rattle.coin_facts.specs.declared.hash32.Hash32.{Hash32}
use Rattle.block_spec.specs.BlockReading.{hash_of_tree}
use Rattle.lisp_spec.specs.Modules.{Module}
use Rattle.session_spec.specs.declared.member.Member.{Member}
use Rattle.session_spec.specs.MemberNames.{name_of}
use Rattle.session_spec.specs.LineFaults.{What, Missing, Bad, UnknownName}
use Rattle.session_spec.specs.Results.{◌>>=◌, each_of}
use Rattle.session_spec.specs.Values.{values, is_name, text_of_hash, text_of_code}

-- ---- the value of a member

pub data Wrong : Type 0 where
  -- The value isn't of its form.
  NotOfItsForm : Wrong
  -- It names a module that isn't there.
  NoSuchModule : Wrong

-- a value that can name no module
abbrev pub plain : {A : Type 0} → (Data → Option A) → Data → Result A Wrong
plain read value = ok_or (read value) NotOfItsForm

-- ---- what stands for the code of an earlier module

-- a module line: its name, the module where it has a text, and the bytes of its code
pub record Compiled : Type 0 where
  pub name : List ℕ
  pub source : Option Module
  pub code : List ℕ

abbrev pub module_named : List Compiled → List ℕ → Option Compiled
module_named modules name = find (λ m. bytes_eq m.name name) modules

-- what stands behind an `@`
abbrev pub behind_at : List ℕ → Option (List ℕ)
behind_at [] = None
behind_at (b ∷ rest) = if b == 64 then Some rest else None

-- `@` and something that isn't a name is of no form.
abbrev pub by_name : {A : Type 0} → (Compiled → A) → List Compiled → List ℕ → Result A Wrong
by_name part modules name = if is_name name then ok_or (option_map part (module_named modules name)) NoSuchModule else Err NotOfItsForm

abbrev pub named_or : {A : Type 0} → (Compiled → A) → (List ℕ → Option A) → List Compiled → List ℕ → Option (List ℕ) → Result A Wrong
named_or part read modules text (Some name) = by_name part modules name
named_or part read modules text None = ok_or (read text) NotOfItsForm

abbrev pub text_or_name : {A : Type 0} → (Compiled → A) → (List ℕ → Option A) → List Compiled → Data → Result A Wrong
text_or_name part read modules value = ok_or (as_str value) NotOfItsForm >>= λ text. named_or part read modules text (behind_at text)

-- the bytes of one spelled tree, or the code of an earlier module by `@name`
abbrev pub code_value : List Compiled → Data → Result (List ℕ) Wrong
code_value modules value = text_or_name (λ m. m.code) text_of_code modules value

-- 32 bytes, or the tree hash of such a code
abbrev pub hash_value : List Compiled → Data → Result Hash32 Wrong
hash_value modules value = text_or_name (λ m. hash_of_tree (spelled_tree m.code)) text_of_hash modules value

-- Of a list of codes each is of the form before one may name a module that isn't there.
abbrev pub with_code : Result (List ℕ) Wrong → Result (List (List ℕ)) Wrong → Result (List (List ℕ)) Wrong
with_code (Ok code) others = others >>= λ codes. Ok (code ∷ codes)
with_code (Err NotOfItsForm) others = Err NotOfItsForm
with_code (Err NoSuchModule) (Ok codes) = Err NoSuchModule
with_code (Err NoSuchModule) (Err wrong) = Err wrong

abbrev pub codes_of : List Compiled → List Data → Result (List (List ℕ)) Wrong
codes_of modules [] = Ok []
codes_of modules (value ∷ more) = with_code (code_value modules value) (codes_of modules more)

abbrev pub code_values : List Compiled → Data → Result (List (List ℕ)) Wrong
code_values modules value = ok_or (values value) NotOfItsForm >>= codes_of modules

-- ---- members

abbrev pub fault_of_member : Member → Wrong → What
fault_of_member member NotOfItsForm = Bad member
fault_of_member member NoSuchModule = UnknownName member

abbrev pub of_form : {A : Type 0} → Member → Result A Wrong → Result A What
of_form member (Ok found) = Ok found
of_form member (Err wrong) = Err (fault_of_member member wrong)

abbrev pub found_or : {A : Type 0} → Result A What → Member → (Data → Result A Wrong) → Option Data → Result A What
found_or absent member read None = absent
found_or absent member read (Some value) = of_form member (read value)

-- a member that has to be there
abbrev pub required : {A : Type 0} → Member → (Data → Result A Wrong) → Data → Result A What
required member read value = found_or (Err (Missing member)) member read (get (name_of member) value)

-- a member that may be left out, for this value
abbrev pub optional : {A : Type 0} → Member → A → (Data → Result A Wrong) → Data → Result A What
optional member default read value = found_or (Ok default) member read (get (name_of member) value)
