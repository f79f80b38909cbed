use Rattle.std.proofs.Common.{◌≡◌, [], ◌∷◌, ◌++◌, None, string_bytes, ap, ◌∙◌}
use Rattle.std.specs.String.{string_eq}
use Rattle.indexmap.specs.IndexMap.{get}
use Rattle.indexmap.proofs.CallerLemmas.{insert_entry-new}
use Rattle.bundle_json.specs.Codes.{code_named}
use Rattle.bundle_json.specs.Inside.{codes_of}
use Rattle.bundle_json.proofs.CodeLaws.{lookup-codes_of, codes_of-push}
use Rattle.bundle_json.proofs.codes.Codes.add.Goals as goal

pub returns-clause-ok : goal.returns-clause-ok
returns-clause-ok c =
    let map = c.self.inside.by_name in
    let name = c.in_ok-name.name in
    let same : string_bytes name ≡ c.args.name.now = c.in_ok-name.ensures.ok in
    let absent : get string_eq map name ≡ None =
    lookup-codes_of map.entries (string_bytes name) ∙ ap (code_named (codes_of map.entries)) same
    ∙ ap (λ codes. code_named codes c.args.name.now) c.self.view_is ∙ c.requires.new in
    ap codes_of (c.in_ok-insert.ensures.entries ∙ insert_entry-new string_eq map name c.new.result absent)
    ∙ codes_of-push map.entries (name, c.new.result)
    ∙ (λ i. c.self.view_is i ++ record { name = same i; code = c.new.ensures i } ∷ [])
