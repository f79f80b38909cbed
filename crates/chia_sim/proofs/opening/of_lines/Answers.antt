use Rattle.std.proofs.Common.{◌≡◌, ◌∙◌, ◌∷◌, Some, map, sym, subst, refl}
use Rattle.std.proofs.lemmas.Option.{MatchOption-at_some}
use Rattle.std.proofs.lemmas.Result.{err_from_is_err_and}
use Rattle.serde_json.specs.View.{view}
use Rattle.session_spec.specs.Steps.{◌>>=◌, all_of}
use Rattle.session_spec.specs.FirstForm.{coin_of, with_commands, first_form_of_lines}
use Rattle.session_spec.proofs.StartCoins.{started}
use Rattle.chia_sim.specs.Opening.{Opens}
use Rattle.chia_sim.proofs.SessionLaws.{first_form_of_lines-started, Opens-refused}
use Rattle.chia_sim.proofs.opening.of_lines.Goals as goal

pub returns-in_err-store-2 : goal.returns-in_err-store-2
returns-in_err-store-2 c =
    let p = err_from_is_err_and c.from_residual-in_err-store-2.result c.from_residual-in_err-store-2.ensures.1 in
    let front = c.split_at.result.0.now in
    let back = c.split_at.result.1.now in
    let coins = started c.in_ok-store.store (all_of coin_of (map view front)) in
    let whole : c.args.lines.now ≡ c.in_ok-first.first.now ∷ c.in_ok-first.others.now = (MatchOption-at_some _ _ _ c.in_ok-first.ensures.ok_part c.split_first.ensures.cases).0 in
    let same : first_form_of_lines (map view c.args.lines.now) ≡ (coins >>= λ s. with_commands s (map view back)) =
    first_form_of_lines-started c.args.lines.now c.in_ok-first.others.now front back c.in_ok-first.first.now c.in_ok-store.store c.coin_count.result coins whole (sym c.header.ensures ∙ c.in_ok-store.ensures.ok_part) c.coin_count.ensures.value c.split_at.ensures.front c.split_at.ensures.back refl in
    rw (p.1, p.2) (Opens-refused _ coins (λ s. with_commands s (map view back)) _ same c.in_err-store-2.ensures)

pub returns : goal.returns
returns c =
    let front = c.split_at.result.0.now in
    let back = c.split_at.result.1.now in
    let whole : c.args.lines.now ≡ c.in_ok-first.first.now ∷ c.in_ok-first.others.now = (MatchOption-at_some _ _ _ c.in_ok-first.ensures.ok_part c.split_first.ensures.cases).0 in
    let same : first_form_of_lines (map view c.args.lines.now) ≡ with_commands c.in_ok-store-2.store (map view back) =
    first_form_of_lines-started c.args.lines.now c.in_ok-first.others.now front back c.in_ok-first.first.now c.in_ok-store.store c.coin_count.result (Some c.in_ok-store-2.store) whole (sym c.header.ensures ∙ c.in_ok-store.ensures.ok_part) c.coin_count.ensures.value c.split_at.ensures.front c.split_at.ensures.back c.in_ok-store-2.ensures in
    subst (λ read. Opens read c.with_commands.result) (sym same) c.with_commands.ensures
