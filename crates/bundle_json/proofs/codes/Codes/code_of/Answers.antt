use Rattle.std.proofs.Common.{Some, ap, ◌∙◌}
use Rattle.bundle_json.specs.Codes.{code_named}
use Rattle.bundle_json.proofs.CodeLaws.{lookup-codes_of}
use Rattle.bundle_json.proofs.codes.Codes.code_of.Goals as goal

pub returns-in_err-code-clause-code : goal.returns-in_err-code-clause-code
returns-in_err-code-clause-code c =
    rw c.from_residual.ensures
    (c.in_err-code.ensures.value ∙ lookup-codes_of c.self.inside.by_name.entries c.args.name.now ∙ ap (λ codes. code_named codes c.args.name.now) c.self.view_is)

pub returns-clause-code : goal.returns-clause-code
returns-clause-code c =
    ap Some c.bytes.ensures.value ∙ c.in_ok-code.ensures.value ∙ lookup-codes_of c.self.inside.by_name.entries c.args.name.now
    ∙ ap (λ codes. code_named codes c.args.name.now) c.self.view_is
