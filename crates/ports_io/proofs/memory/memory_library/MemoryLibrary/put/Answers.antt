use Rattle.std.proofs.Common.{◌≡◌, ap, arith}
use Rattle.std.specs.Prelude.{option_map}
use Rattle.std.specs.BTreeMap.{get_by_text}
use Rattle.std.proofs.lemmas.Map.Text.{text_keys}
use Rattle.ports_io.proofs.memory.memory_library.MemoryLibrary.put.Goals as goal

pub returns-clause-others : goal.returns-clause-others
returns-clause-others c = λ other differs.
    let named = c.in_ok-name.ensures in
    let same : get_by_text c.insert.new.self other ≡ get_by_text c.args.self.now.texts other = grind (arith, text_keys) in
    ap (option_map (λ text. text.items)) same
