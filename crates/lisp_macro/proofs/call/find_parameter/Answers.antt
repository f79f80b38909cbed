use Rattle.std.proofs.Common.{◌≡◌, true, false, Some, None, bytes_eq, cond, ap, ap₂, sym, ◌∙◌, arith, rules}
use Rattle.lisp_read.specs.Forms.{Atom, Symbol, Pair}
use Rattle.lisp_read.specs.Views.{form_of}
use Rattle.lisp_read.specs.Copies.{size}
use Rattle.lisp_macro.specs.Bindings.{part_of, or_else, named_in}
use Rattle.lisp_macro.specs.Found.{parts_named, parts_left}
use Rattle.lisp_macro.proofs.BindingLaws.{popped, both_put, left_push}
use Rattle.lisp_macro.proofs.BodyLaws.{whole}
use Rattle.lisp_macro.proofs.call.find_parameter.Goals as goal

pub parts-smaller-in-Atom : goal.parts-smaller-in-Atom
parts-smaller-in-Atom c = omega (arith, ap parts_left c.in-Some.ensures.items, left_push c.pop.new.self.items c.in-Some.part, ap (λ f. size (form_of f)) c.in-Atom.is)

pub parts-preserved-in-Atom : goal.parts-preserved-in-Atom
parts-preserved-in-Atom c =
    popped c.args.name.now c.parts.parts.items c.pop.new.self.items c.in-Some.part (Atom c.in-Atom.field-0 c.in-Atom.field-1) _ c.in-Some.ensures.items (ap form_of c.in-Atom.is) c.parts.invariant

pub returns-then-eq : goal.returns-then-eq
returns-then-eq c =
    let e : bytes_eq c.in-Symbol.other c.args.name.now ≡ true = ap (λ name. bytes_eq name c.args.name.now) (sym c.as_slice.ensures) ∙ sym c.if-eq.ensures in
    c.found_at.ensures
    ∙ ap (λ b. or_else (cond b (Some (part_of c.in-Some.part.operand)) None) (parts_named c.args.name.now c.pop.new.self.items)) (sym e)
    ∙ popped c.args.name.now c.parts.parts.items c.pop.new.self.items c.in-Some.part (Symbol c.in-Symbol.field-0 c.in-Symbol.other) _ c.in-Some.ensures.items (ap form_of c.in-Symbol.is) c.parts.invariant

pub parts-smaller-else-eq : goal.parts-smaller-else-eq
parts-smaller-else-eq c = omega (arith, ap parts_left c.in-Some.ensures.items, left_push c.pop.new.self.items c.in-Some.part, ap (λ f. size (form_of f)) c.in-Symbol.is)

pub parts-preserved-else-eq : goal.parts-preserved-else-eq
parts-preserved-else-eq c =
    let e : bytes_eq c.in-Symbol.other c.args.name.now ≡ false = ap (λ name. bytes_eq name c.args.name.now) (sym c.as_slice.ensures) ∙ sym c.if-eq.ensures in
    ap (λ b. or_else (cond b (Some (part_of c.in-Some.part.operand)) None) (parts_named c.args.name.now c.pop.new.self.items)) (sym e)
    ∙ popped c.args.name.now c.parts.parts.items c.pop.new.self.items c.in-Some.part (Symbol c.in-Symbol.field-0 c.in-Symbol.other) _ c.in-Some.ensures.items (ap form_of c.in-Symbol.is) c.parts.invariant

pub parts-smaller : goal.parts-smaller
parts-smaller c =
    let pair = whole (form_of c.in-Some.part.params.now) c.in-Pair.field-0 c.in-Pair.first c.in-Pair.rest (form_of c.get-in-Pair.result.now) (form_of c.get.result.now) (ap form_of c.in-Pair.is) c.get-in-Pair.ensures c.get.ensures in
    omega (
      arith,
      ap parts_left c.in-Some.ensures.items,
      left_push c.pop.new.self.items c.in-Some.part,
      ap parts_left c.in_ok-push-in-Pair.ensures.items,
      left_push c.pop.new.self.items (record { params = c.get.result; operand = c.rest_of.result }),
      ap parts_left c.in_ok-push-in-Pair-2.ensures.items,
      left_push c.push-in-Pair.new.self.items (record { params = c.get-in-Pair.result; operand = c.first_of.result }),
      ap size pair,
    )

pub parts-preserved : goal.parts-preserved
parts-preserved c =
    let pair = whole (form_of c.in-Some.part.params.now) c.in-Pair.field-0 c.in-Pair.first c.in-Pair.rest (form_of c.get-in-Pair.result.now) (form_of c.get.result.now) (ap form_of c.in-Pair.is) c.get-in-Pair.ensures c.get.ensures in
    both_put c.args.name.now c.pop.new.self.items c.push-in-Pair.new.self.items c.push-in-Pair-2.new.self.items c.in-Some.part (record { params = c.get.result; operand = c.rest_of.result }) (record { params = c.get-in-Pair.result; operand = c.first_of.result }) c.in-Pair.field-0 _
    c.in_ok-push-in-Pair.ensures.items c.in_ok-push-in-Pair-2.ensures.items c.rest_of.ensures c.first_of.ensures
    (popped c.args.name.now c.parts.parts.items c.pop.new.self.items c.in-Some.part (Pair c.in-Pair.field-0 (form_of c.get-in-Pair.result.now) (form_of c.get.result.now)) _ c.in-Some.ensures.items pair c.parts.invariant)
