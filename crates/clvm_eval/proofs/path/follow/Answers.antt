use Rattle.std.proofs.Common.{◌≡◌, ◌+◌, ◌-◌, ◌*◌, ◌^◌, ◌<◌, ◌≤◌, length, take, get_or, refl, sym, ◌∙◌, ap, subst, arith}
use Rattle.std.proofs.lemmas.List.{take_all}
use Rattle.std.proofs.Math.Nat.{pow-le-pow_right}
use Rattle.clvm_spec.specs.Numbers.{unsigned}
use Rattle.clvm_spec.specs.Path.{Reached, Astray, followed, path_value, leading_zeros}
use Rattle.clvm_tree.specs.Nodes.{tree_at}
use Rattle.clvm_eval.specs.Paths.{IsFollowed, IsAstray, IsReached}
use Rattle.clvm_eval.proofs.PathLaws.{from_there, followed-byte, leading_zeros-le, first_byte, unsigned-zeros, some_number, path_value-some, path_value-none, on_option}
use Rattle.clvm_eval.proofs.path.follow.Goals as goal

pub returns-then-zeros-path : goal.returns-then-zeros-path
returns-then-zeros-path c =
    let path = c.args.path.now in
    let env = tree_at c.args.trees.now c.args.env.0 in
    let all : leading_zeros path ≡ length path = omega (arith, c.leading_zero_bytes-zeros.ensures, c.if-zeros-path.true) in
    record {
      known = c.nil.ensures.known;
      reached = path_value-none path env (unsigned-zeros path all) ∙ ap (λ t. Reached t 0) (sym c.nil.ensures.stands);
    }

pub bytes-init : goal.bytes-init
bytes-init c =
    let path = c.args.path.now in
    let env = tree_at c.args.trees.now c.args.env.0 in
    let z = c.leading_zero_bytes-zeros.ensures in
    let most = leading_zeros-le path in
    let low : leading_zeros path < length path = omega (arith, z, most, c.if-zeros-path.false) in
    let whole : take (length path) path ≡ path = take_all (length path) path (omega arith) in
    let some : 1 ≤ unsigned path = subst (λ bytes. 1 ≤ unsigned bytes) whole (some_number path (length path) low (omega arith)) in
    record {
      low = omega arith;
      high = omega arith;
      known = c.requires;
      few = omega arith;
      same = path_value-some path env some ∙ ap (λ bytes. followed (8 * length path) (unsigned bytes) 0 env) (sym whole);
    }

pub returns-in_err-at : goal.returns-in_err-at
returns-in_err-at c =
    let path = c.args.path.now in
    let at = c.bytes.at in
    let tree = tree_at c.args.trees.now at.node.0 in
    let i = c.bytes.end - 1 in
    let byte = (c.type_inv.path i).fits in
    let z = c.leading_zero_bytes-zeros.ensures in
    let end : c.bytes.end ≡ i + 1 = omega (arith, c.bytes-test.true) in
    let within : i < length path = omega (arith, end, c.bytes.invariant.high) in
    let some = some_number path i (omega (arith, z, c.bytes-test.true)) (omega arith) in
    let astray = c.in_err-at.ensures 9 (omega arith) in
    rw c.from_residual.ensures (
    c.bytes.invariant.same ∙ ap (λ k. followed (8 * k) (unsigned (take k path)) at.steps tree) end
    ∙ followed-byte path i at.steps (256 + get_or path i 0) tree within byte refl some
    ∙ ap (λ r. from_there r (λ t s. followed (8 * i) (unsigned (take i path)) s t)) astray)

pub bytes-preserved : goal.bytes-preserved
bytes-preserved c =
    let path = c.args.path.now in
    let at = c.bytes.at in
    let tree = tree_at c.args.trees.now at.node.0 in
    let i = c.bytes.end - 1 in
    let byte = (c.type_inv.path i).fits in
    let z = c.leading_zero_bytes-zeros.ensures in
    let end : c.bytes.end ≡ i + 1 = omega (arith, c.bytes-test.true) in
    let within : i < length path = omega (arith, end, c.bytes.invariant.high) in
    let some = some_number path i (omega (arith, z, c.bytes-test.true)) (omega arith) in
    let on = c.in_ok-at.ensures in
    let reached = on.reached 9 (omega arith) in
    record {
      low = omega (arith, c.bytes-test.true);
      high = omega arith;
      known = on.known;
      few = omega (arith, on.few, c.bytes.invariant.few);
      same =
          c.bytes.invariant.same ∙ ap (λ k. followed (8 * k) (unsigned (take k path)) at.steps tree) end
          ∙ followed-byte path i at.steps (256 + get_or path i 0) tree within byte refl some
          ∙ ap (λ r. from_there r (λ t s. followed (8 * i) (unsigned (take i path)) s t)) reached;
    }

pub returns : goal.returns
returns c =
    let path = c.args.path.now in
    let trees = c.args.trees.now in
    let env = tree_at trees c.args.env.0 in
    let at = c.bytes.at in
    let zeros = c.leading_zero_bytes-zeros.result in
    let z : zeros ≡ leading_zeros path = c.leading_zero_bytes-zeros.ensures in
    let end_is : c.bytes.end ≡ leading_zeros path + 1 = omega (arith, z, c.bytes.invariant.low, c.bytes-test.false) in
    let within : leading_zeros path < length path = omega (arith, end_is, c.bytes.invariant.high) in
    let bits_are : unsigned (take c.bytes.end path) ≡ get_or path zeros 0 =
    ap (λ k. unsigned (take k path)) end_is ∙ (first_byte path within).0 ∙ ap (λ k. get_or path k 0) (sym z)
    in
    let whole = c.bytes.invariant.same ∙ ap (λ n. followed (8 * c.bytes.end) n at.steps (tree_at trees at.node.0)) bits_are in
    let base : 0 < 2 = omega arith in
    let higher : 8 ≤ 8 * c.bytes.end = omega arith in
    let top : 2 ^ 8 ≤ 2 ^ (8 * c.bytes.end) = pow-le-pow_right base higher in
    let byte = (c.type_inv.path zeros).fits in
    let below : get_or path zeros 0 < 2 ^ (8 * c.bytes.end) = omega (arith, byte, top) in
    on_option c.descend-2.result (IsAstray trees at (get_or path zeros 0)) (path_value path env ≡ Astray) (IsFollowed trees at (get_or path zeros 0)) (IsReached trees path env)
    (λ astray. whole ∙ astray (8 * c.bytes.end) below)
    (λ to on. record { known = on.known; reached = whole ∙ on.reached (8 * c.bytes.end) below })
    c.descend-2.ensures
