-- A code with a new name goes last, and is found by its name.
use Rattle.std.proofs.Common.{◌≡◌, ℕ, Bool, true, false, List, [], ◌∷◌, ◌++◌, map, Option, Some, None, option_map, string_bytes, String, bytes_eq, refl, ap, sym, ◌∙◌}
use Rattle.std.specs.declared.alloc.Global.{Global}
use Rattle.std.specs.Prelude.{slice_get}
use Rattle.std.specs.Cmp.Lexicographic.{nat_list_eq_equiv}
use Rattle.std.specs.List.{IsDistinct, AllByRecursion}
use Rattle.std.specs.Map.{lookup, keys_of}
use Rattle.std.specs.String.{string_eq}
use Rattle.std.proofs.lemmas.Bool.{cond-true, cond-false}
use Rattle.std.proofs.lemmas.List.{map-append}
use Rattle.std.proofs.lemmas.Option.{slice_get-map}
use Rattle.bundle_json.specs.Codes.{code_named, HasDistinctNames}
use Rattle.bundle_json.specs.Inside.{named_entry, codes_of}

abbrev pub Entry : Type 0
Entry = String Global × List ℕ

turned : (a b : List ℕ) → bytes_eq a b ≡ bytes_eq b a
turned a b = nat_list_eq_equiv.symm a b

module _ (entry : Entry) (entries : List Entry) (name : List ℕ) where
  found_more : (b : Bool) → bytes_eq (string_bytes entry.0) name ≡ b → lookup (λ key. bytes_eq name (string_bytes key)) entries ≡ code_named (codes_of entries) name
      → lookup (λ key. bytes_eq name (string_bytes key)) (entry ∷ entries) ≡ code_named (codes_of (entry ∷ entries)) name
  found_more true is more =
      cond-true (bytes_eq name (string_bytes entry.0)) _ _ (turned name (string_bytes entry.0) ∙ is)
      ∙ sym (ap (option_map (λ m. m.code)) (cond-true (bytes_eq (string_bytes entry.0) name) _ _ is))
  found_more false is more =
      cond-false (bytes_eq name (string_bytes entry.0)) _ _ (turned name (string_bytes entry.0) ∙ is) ∙ more
      ∙ sym (ap (option_map (λ m. m.code)) (cond-false (bytes_eq (string_bytes entry.0) name) _ _ is))

-- The map finds the code of a name.
pub lookup-codes_of : (entries : List Entry) (name : List ℕ) → lookup (λ key. bytes_eq name (string_bytes key)) entries ≡ code_named (codes_of entries) name
lookup-codes_of [] name = refl
lookup-codes_of (entry ∷ entries) name = found_more entry entries name (bytes_eq (string_bytes entry.0) name) refl (lookup-codes_of entries name)

pub codes_of-push : (entries : List Entry) (entry : Entry) → codes_of (entries ++ entry ∷ []) ≡ codes_of entries ++ named_entry entry ∷ []
codes_of-push entries entry = map-append named_entry entries (entry ∷ [])

pub slice_get-codes_of : (entries : List Entry) (place : ℕ) → slice_get (codes_of entries) place ≡ option_map named_entry (slice_get entries place)
slice_get-codes_of entries place = slice_get-map named_entry entries place

-- ---- distinct names

apart : (entry : Entry) (entries : List Entry) → AllByRecursion (λ key. string_eq entry.0 key ≡ false) (keys_of entries)
    → AllByRecursion (λ name. bytes_eq (string_bytes entry.0) name ≡ false) (map (λ c. c.name) (codes_of entries))
apart entry [] all = tt
apart entry (other ∷ entries) all = (all.0, apart entry entries all.1)

pub distinct_names : (entries : List Entry) → IsDistinct string_eq (keys_of entries) → HasDistinctNames (codes_of entries)
unfolding IsDistinct
distinct_names [] distinct = tt
distinct_names (entry ∷ entries) distinct = (apart entry entries distinct.0, distinct_names entries distinct.1)
