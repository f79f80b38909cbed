-- A library in memory as contracts see it. This project's own.
use Rattle.std.specs.Prelude.{ℕ, List, Option, option_map}
use Rattle.std.specs.BTreeMap.{get_by_text}
use Rattle.ports_io.specs.declared.memory.memory_library.MemoryLibrary.{MemoryLibrary}

-- the text of this name, if it was put in
abbrev pub text_of : MemoryLibrary → List ℕ → Option (List ℕ)
text_of library name = option_map (λ text. text.items) (get_by_text library.texts name)
