use Rattle.std.proofs.Common.{subst, sym}
use Rattle.std.specs.Str.{IsUtf8}
use Rattle.lisp_parts.proofs.EntryLaws.{is_text}
use Rattle.lisp_parts.proofs.names.as_text.Goals as goal

pub unreachable-requires : goal.unreachable-requires
unreachable-requires c = c.in-Err.ensures.cases.0 (subst IsUtf8 (sym c.as_slice.ensures) (is_text c.args.name.now c.requires))
