-- The codes that the entries of a map stand for. This project's own.
use Rattle.std.specs.Prelude.{ℕ, List, map, string_bytes, String}
use Rattle.std.specs.declared.alloc.Global.{Global}
use Rattle.bundle_json.specs.Codes.{NamedCode}

abbrev pub named_entry : String Global × List ℕ → NamedCode
named_entry entry = record { name = string_bytes entry.0; code = entry.1 }

abbrev pub codes_of : List (String Global × List ℕ) → List NamedCode
codes_of entries = map named_entry entries
