use Rattle.std.proofs.Common.{◌≡◌, ◌++◌, IsTrue, length, drop, sym, ap, ◌∙◌, subst, refl, arith}
use Rattle.clvm_spec.specs.Spelled.{is_spelled}
use Rattle.clvm_spec.specs.Spelling.{spelling}
use Rattle.clvm_spec.proofs.NumberLaws.{all_bytes}
use Rattle.pool_spec.specs.Fit.{moved_solution, solution_tree}
use Rattle.singleton_forward.specs.Heads.{head_of, moved_bytes}
use Rattle.singleton_forward.specs.Solutions.{with_last}
use Rattle.singleton_forward.proofs.SpelledLaws.{head-within, moved-bytes, moved-spelled}
use Rattle.singleton_forward.proofs.rewriting.moved_solution.Goals as goal

pub behind-last-requires : goal.behind-last-requires
behind-last-requires c =
    let bytes = c.args.solution.now in
    let solution = with_last c.args.proof.now c.requires.proof.last in
    let head : c.as_slice.result.now ≡ head_of solution.proof c.args.own = c.as_slice.ensures.value ∙ c.in_ok-old.ensures.value in
    omega (
      arith,
      ap length head,
      head-within c.args.own bytes solution (all_bytes bytes (λ i. omega (arith, c.type_inv.solution i))) c.requires.spelled c.requires.proof.says,
    )

pub returns-clause-value : goal.returns-clause-value
returns-clause-value c =
    let bytes = c.args.solution.now in
    let lineage = c.args.lineage.now in
    let solution = with_last c.args.proof.now c.requires.proof.last in
    let moved = moved_solution solution lineage.parent in
    let head : c.as_slice.result.now ≡ head_of solution.proof c.args.own = c.as_slice.ensures.value ∙ c.in_ok-old.ensures.value in
    let last : c.behind-last.result.now ≡ drop (length (head_of solution.proof c.args.own)) bytes = c.behind-last.ensures ∙ ap (λ h. drop (length h) bytes) head in
    c.in_ok-extend_from_slice.ensures.items
    ∙ (λ i. c.in_ok-bytes.ensures.value i ++ last i)
    ∙ moved-bytes c.args.own bytes solution moved lineage.coin.amount (all_bytes bytes (λ i. omega (arith, c.type_inv.solution i))) c.requires.spelled c.requires.proof.says refl
    ∙ ap (λ read. moved_bytes read c.args.proof.now lineage) (sym c.requires.proof.says)

pub returns-clause-spelled : goal.returns-clause-spelled
returns-clause-spelled c =
    let bytes = c.args.solution.now in
    let lineage = c.args.lineage.now in
    let solution = with_last c.args.proof.now c.requires.proof.last in
    let moved = moved_solution solution lineage.parent in
    let are = all_bytes bytes (λ i. omega (arith, c.type_inv.solution i)) in
    let head : c.as_slice.result.now ≡ head_of solution.proof c.args.own = c.as_slice.ensures.value ∙ c.in_ok-old.ensures.value in
    let last : c.behind-last.result.now ≡ drop (length (head_of solution.proof c.args.own)) bytes = c.behind-last.ensures ∙ ap (λ h. drop (length h) bytes) head in
    let all : c.extend_from_slice.new.self.items ≡ spelling (solution_tree lineage.coin.amount moved) = c.in_ok-extend_from_slice.ensures.items
    ∙ (λ i. c.in_ok-bytes.ensures.value i ++ last i)
    ∙ moved-bytes c.args.own bytes solution moved lineage.coin.amount are c.requires.spelled c.requires.proof.says refl in
    let short : length (head_of moved.proof lineage.coin.amount) ≡ length c.in_ok-bytes.bytes.items = ap length (sym c.in_ok-bytes.ensures.value) in
    subst (λ b. IsTrue (is_spelled b)) (sym all)
    (moved-spelled c.args.own bytes solution moved lineage.coin.amount are c.requires.spelled c.requires.proof.says refl (omega (arith, short, c.in_ok-bytes.ensures.short)))
