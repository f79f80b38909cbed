use Rattle.std.proofs.Common.{map, string_bytes, codes, sym}
use Rattle.clap.specs.Walk.{rows_of}
use Rattle.clap.specs.Matches.{found_of}
use Rattle.clap.proofs.WalkLemmas.{one_text-rows}
use Rattle.tool_words.proofs.Evaluations.{cost_digits, eval_said}
use Rattle.tool_words.proofs.evaluation.evaluation.Goals as goal

pub cost-requires : goal.cost-requires
cost-requires c = cost_digits (map string_bytes c.args.words.now) (rows_of (found_of c.in_ok-matches.matches)) c.in_ok-matches.ensures

pub returns : goal.returns
returns c =
    eval_said (map string_bytes c.args.words.now) (rows_of (found_of c.in_ok-matches.matches)) c.in-Some.cost c.in_ok-env.env c.get_flag.result _ c.in_ok-matches.ensures
    (sym c.in-Some.ensures) c.in_ok-env.ensures (one_text-rows (found_of c.in_ok-matches.matches) (codes "text"))
    c.get_flag.ensures.value c.get_flag.ensures.other
