use Rattle.std.proofs.Common.{◌≡◌, Some, pos, ap, ◌∙◌, arith, true, false}
use Rattle.std.proofs.lemmas.Bool.{lt-ltb, le-ltb}
use Rattle.clvm_spec.specs.Numbers.{shortest_atom, without_sign_bytes}
use Rattle.singleton_forward.proofs.NumberLaws.{long_is_none, is_number_below, not_below}
use Rattle.singleton_forward.proofs.atoms.number_below.Goals as goal
use Rattle.singleton_forward.proofs.atoms.number_below.Goals.{else-value-limit-via-then-value-limit+else-eq, else-value-limit-via-else-value-limit}

pub returns-then-bytes-gt-NUMBER_BYTES-clause-value : goal.returns-then-bytes-gt-NUMBER_BYTES-clause-value
returns-then-bytes-gt-NUMBER_BYTES-clause-value c = long_is_none c.args.limit c.args.bytes.now (omega arith)

pub returns-then-eq-clause-value : goal.returns-then-eq-clause-value
unfolding shortest_atom
returns-then-eq-clause-value c =
    let value = c.unsigned-value.result in
    let short : c.shortest_bytes.result.now ≡ shortest_atom (pos value) = c.shortest_bytes.ensures ∙ ap without_sign_bytes (c.as_slice.ensures ∙ c.to_be_bytes-digits.ensures) in
    ap Some c.unsigned-value.ensures
    ∙ is_number_below c.args.limit value c.args.bytes.now c.shortest_bytes.result.now true c.unsigned-value.ensures short (lt-ltb value c.args.limit c.if-value-limit.true) c.if-eq.ensures

pub returns-else-value-limit-clause-value : goal.returns-else-value-limit-clause-value
unfolding shortest_atom
returns-else-value-limit-clause-value c =
    let value = c.unsigned-value.result in
    elim c.else-value-limit.branch [
      | else-value-limit-via-then-value-limit+else-eq w ↦
          let short : w.shortest_bytes.result.now ≡ shortest_atom (pos value) = w.shortest_bytes.ensures ∙ ap without_sign_bytes (w.as_slice.ensures ∙ c.to_be_bytes-digits.ensures) in
          is_number_below c.args.limit value c.args.bytes.now w.shortest_bytes.result.now false c.unsigned-value.ensures short (lt-ltb value c.args.limit w.if-value-limit.true) w.if-eq.ensures
      | else-value-limit-via-else-value-limit w ↦ not_below c.args.limit value c.args.bytes.now c.unsigned-value.ensures (le-ltb value c.args.limit w.if-value-limit.false)
    ]
