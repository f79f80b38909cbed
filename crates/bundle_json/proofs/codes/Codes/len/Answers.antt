use Rattle.std.proofs.Common.{subst}
use Rattle.bundle_json.specs.Codes.{HasDistinctNames}
use Rattle.bundle_json.proofs.CodeLaws.{distinct_names}
use Rattle.bundle_json.proofs.codes.Codes.len.Goals as goal

pub returns-clause-distinct : goal.returns-clause-distinct
returns-clause-distinct c = subst HasDistinctNames c.self.view_is (distinct_names c.self.inside.by_name.entries c.len.ensures.unique)
