use Rattle.case_table.proofs.Names.{no_code}
use Rattle.case_table.proofs.operator_table.code_of.Goals as goal

pub returns-in_default : goal.returns-in_default
returns-in_default c = let d = c.in_default in no_code c.args.name.now (d.not-q, (d.not-a, (d.not-i, (d.not-c, (d.not-f, (d.not-r, (d.not-l, (d.not-x, (d.not-text, (d.not-text-2, (d.not-sha256, (d.not-substr, (d.not-strlen, (d.not-concat, (d.not-text-3, (d.not-text-4, (d.not-text-5, (d.not-text-6, (d.not-divmod, (d.not-text-7, (d.not-ash, (d.not-lsh, (d.not-logand, (d.not-logior, (d.not-logxor, (d.not-lognot, (d.not-not, (d.not-any, (d.not-all, tt)))))))))))))))))))))))))))))
