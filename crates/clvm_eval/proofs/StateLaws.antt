-- How open forms keep their meaning while trees are added, and what becomes of them when a value is given.
use Rattle.std.proofs.Common.{◌≡◌, ℕ, zero, suc, ◌+◌, ◌-◌, ◌<◌, ◌≤◌, List, [], ◌∷◌, ◌++◌, length, get_or, set, take, drop, refl, sym, ◌∙◌, ap, ap₂, subst, arith}
use Rattle.std.specs.Prelude.{Result, Ok, Err, vec_len}
use Rattle.std.proofs.lemmas.List.{map-append, length-append, length-set, length-drop, take_all, take-take, drop-take, drop-drop, take_more, take-set, drop-set, take-set-le, drop-set-add, get_or-drop}
use Rattle.clvm_spec.specs.declared.fuel.Fuel.{Fuel}
use Rattle.clvm_spec.specs.Tree.{Tree}
use Rattle.clvm_spec.specs.Outcomes.{Outcome, Done}
use Rattle.clvm_spec.specs.Evaluation.{if_done, evaluation}
use Rattle.clvm_tree.specs.Nodes.{tree_at, IsKnown, AreKnown, Grows}
use Rattle.clvm_tree.specs.Operators.{trees_at}
use Rattle.clvm_tree.specs.declared.Node.{Node}
use Rattle.clvm_tree.proofs.NodeLaws.{grows_length, stays}
use Rattle.clvm_eval.specs.declared.RunFault.{RunFault}
use Rattle.clvm_eval.specs.declared.state.Frame.{Frame}
use Rattle.clvm_eval.specs.declared.state.State.{State}
use Rattle.clvm_eval.specs.declared.state.Step.{Step}
use Rattle.clvm_eval.specs.declared.state.Step.TheVariants as step
use Rattle.clvm_eval.specs.OpenForms.{OpenForm, form_outcome, with_value, goes_through}
use Rattle.clvm_eval.specs.Runs.{IsRunFault}
use Rattle.clvm_eval.specs.Steps.{form_of, waiting_form, open_form, waiting_forms, operand_count, outcome_of, outcome_with, IsFrame, IsWaiting, AreWaiting, IsState, IsOpen, HasValue, Advances, StepsTo, Gives, IsValueOf}
use Rattle.clvm_eval.proofs.EvaluationLaws.{paid-enough, if_done-again, form-last, goes_through-last}

-- ---- nodes

pub AreKnown-take : (trees : List Tree) (n : ℕ) (nodes : List Node) → AreKnown trees nodes → AreKnown trees (take n nodes)
AreKnown-take trees zero nodes h = tt
AreKnown-take trees (suc n) [] h = tt
AreKnown-take trees (suc n) (node ∷ nodes) h = (h.0, AreKnown-take trees n nodes h.1)

pub AreKnown-drop : (trees : List Tree) (n : ℕ) (nodes : List Node) → AreKnown trees nodes → AreKnown trees (drop n nodes)
AreKnown-drop trees zero nodes h = h
AreKnown-drop trees (suc n) [] h = tt
AreKnown-drop trees (suc n) (node ∷ nodes) h = AreKnown-drop trees n nodes h.1

pub AreKnown-append : (trees : List Tree) (xs ys : List Node) → AreKnown trees xs → AreKnown trees ys → AreKnown trees (xs ++ ys)
AreKnown-append trees [] ys h k = k
AreKnown-append trees (x ∷ xs) ys h k = (h.0, AreKnown-append trees xs ys h.1 k)

pub AreKnown-set : (trees : List Tree) (nodes : List Node) (i : ℕ) (node : Node) → AreKnown trees nodes → IsKnown trees node.0 → AreKnown trees (set nodes i node)
AreKnown-set trees [] i node h k = tt
AreKnown-set trees (n ∷ nodes) zero node h k = (k, h.1)
AreKnown-set trees (n ∷ nodes) (suc i) node h k = (h.0, AreKnown-set trees nodes i node h.1 k)

pub AreKnown-at : (trees : List Tree) (nodes : List Node) (i : ℕ) (d : Node) → AreKnown trees nodes → i < length nodes → IsKnown trees (get_or nodes i d).0
AreKnown-at trees [] i d h lt = absurd (omega arith)
AreKnown-at trees (n ∷ nodes) zero d h lt = h.0
AreKnown-at trees (n ∷ nodes) (suc i) d h lt = AreKnown-at trees nodes i d h.1 (omega arith)

pub AreKnown-grows : (a b : List Tree) (nodes : List Node) → Grows a b → AreKnown a nodes → AreKnown b nodes
AreKnown-grows a b [] g h = tt
AreKnown-grows a b (node ∷ nodes) g h = let more = grows_length a b g in let k = h.0 in (omega arith, AreKnown-grows a b nodes g h.1)

pub trees_at-grows : (a b : List Tree) (nodes : List Node) → Grows a b → AreKnown a nodes → trees_at b nodes ≡ trees_at a nodes
trees_at-grows a b [] g h = refl
trees_at-grows a b (node ∷ nodes) g h = ap (λ t. t ∷ trees_at b nodes) (stays a b node.0 g h.0) ∙ ap (λ ts. tree_at a node.0 ∷ ts) (trees_at-grows a b nodes g h.1)

-- ---- frames

pub IsFrame-grows : (a b : List Tree) (frame : Frame) → Grows a b → IsFrame a frame → IsFrame b frame
IsFrame-grows a b frame g h =
    let more = grows_length a b g in
    let c = h.code in
    let f = h.form in
    let e = h.env in
    let n = h.few in
    record { code = omega arith; form = omega arith; env = omega arith; few = omega arith }

pub AreWaiting-grows : (a b : List Tree) (frames : List Frame) → Grows a b → AreWaiting a frames → AreWaiting b frames
AreWaiting-grows a b [] g h = tt
AreWaiting-grows a b (frame ∷ frames) g h = (record { sound = IsFrame-grows a b frame g h.0.sound; awaits = h.0.awaits }, AreWaiting-grows a b frames g h.1)

pub AreWaiting-push : (trees : List Tree) (frames : List Frame) (frame : Frame) → AreWaiting trees frames → IsWaiting trees frame → AreWaiting trees (frames ++ frame ∷ [])
AreWaiting-push trees [] frame h k = (k, tt)
AreWaiting-push trees (f ∷ frames) frame h k = (h.0, AreWaiting-push trees frames frame h.1 k)

pub AreWaiting-init : (trees : List Tree) (frames : List Frame) (frame : Frame) → AreWaiting trees (frames ++ frame ∷ []) → AreWaiting trees frames × IsWaiting trees frame
AreWaiting-init trees [] frame h = (tt, h.0)
AreWaiting-init trees (f ∷ frames) frame h = let more = AreWaiting-init trees frames frame h.1 in ((h.0, more.0), more.1)

pub operand_count-push : (frames : List Frame) (frame : Frame) → operand_count (frames ++ frame ∷ []) ≡ operand_count frames + frame.count
operand_count-push [] frame = omega arith
operand_count-push (f ∷ frames) frame = let e = operand_count-push frames frame in omega arith

-- ---- the forms of frames

form_of-grows : (a b : List Tree) (depth : ℕ) (frame : Frame) (operands : List Node) (place : ℕ) → Grows a b → IsFrame a frame → AreKnown a operands → form_of b depth frame operands place ≡ form_of a depth frame operands place
form_of-grows a b depth frame operands place g h k =
    let programs = trees_at-grows a b (take frame.programs operands) g (AreKnown-take a frame.programs operands k) in
    let values = trees_at-grows a b (drop place operands) g (AreKnown-drop a place operands k) in
    λ i. record {
      code = stays a b frame.code.0 g h.code i;
      form = stays a b frame.form.0 g h.form i;
      env = stays a b frame.env.0 g h.env i;
      depth = depth;
      programs = programs i;
      values = values i;
    }

pub waiting_forms-grows : (a b : List Tree) (depth : ℕ) (frames : List Frame) (operands : List Node) → Grows a b → AreWaiting a frames → AreKnown a operands → waiting_forms b depth frames operands ≡ waiting_forms a depth frames operands
waiting_forms-grows a b depth [] operands g h k = refl
waiting_forms-grows a b depth (frame ∷ frames) operands g h k =
    ap₂ (λ form forms. form ∷ forms) (form_of-grows a b depth frame (take frame.count operands) (frame.programs + 1) g h.0.sound (AreKnown-take a frame.count operands k))
    (waiting_forms-grows a b (suc depth) frames (drop frame.count operands) g h.1 (AreKnown-drop a frame.count operands k))

-- Only their own operands matter.
pub waiting_forms-same : (trees : List Tree) (depth : ℕ) (frames : List Frame) (xs ys : List Node) → take (operand_count frames) xs ≡ take (operand_count frames) ys → waiting_forms trees depth frames xs ≡ waiting_forms trees depth frames ys
waiting_forms-same trees depth [] xs ys same = refl
waiting_forms-same trees depth (frame ∷ frames) xs ys same =
    let n = frame.count in
    let m = operand_count frames in
    let own : take n xs ≡ take n ys = sym (take-take n (n + m) xs (omega arith)) ∙ ap (take n) same ∙ take-take n (n + m) ys (omega arith) in
    let later : take m (drop n xs) ≡ take m (drop n ys) = sym (drop-take n m xs) ∙ ap (drop n) same ∙ drop-take n m ys in
    ap₂ (λ form forms. form ∷ forms) (ap (waiting_form trees depth frame) own) (waiting_forms-same trees (suc depth) frames (drop n xs) (drop n ys) later)

-- the innermost form
waiting_forms-last : (trees : List Tree) (depth inner : ℕ) (frames : List Frame) (frame : Frame) (operands : List Node) → inner ≡ depth + length frames →
    waiting_forms trees depth (frames ++ frame ∷ []) operands ≡ waiting_forms trees depth frames operands ++ waiting_form trees inner frame (take frame.count (drop (operand_count frames) operands)) ∷ []
waiting_forms-last trees depth inner [] frame operands at =
    let same : depth ≡ inner = omega arith in
    ap (λ d. waiting_form trees d frame (take frame.count operands) ∷ []) same
waiting_forms-last trees depth inner (f ∷ frames) frame operands at =
    ap (λ forms. waiting_form trees depth f (take f.count operands) ∷ forms)
    (waiting_forms-last trees (suc depth) inner frames frame (drop f.count operands) (omega arith)
    ∙ ap (λ own. waiting_forms trees (suc depth) frames (drop f.count operands) ++ waiting_form trees inner frame (take frame.count own) ∷ []) (drop-drop (operand_count frames) f.count operands))

-- what goes on with a value, where forms wait at nodes
abbrev pub goes_from : List Tree → List Frame → List Node → Tree → Fuel → Outcome
goes_from trees frames operands = goes_through (waiting_forms trees 0 frames operands) Done

-- what an open form comes to, whose operands are the last ones
abbrev pub comes_to : List Tree → List Frame → List Node → Frame → Fuel → Outcome
comes_to trees frames operands frame left =
    if_done (form_outcome (open_form trees (length frames) frame (drop (length operands - frame.count) operands)) left) (goes_from trees frames operands)

pub goes_from-last : (trees : List Tree) (frames : List Frame) (frame : Frame) (operands : List Node) → operand_count frames + frame.count ≡ length operands →
    goes_from trees (frames ++ frame ∷ []) operands
    ≡ (λ value left. if_done (form_outcome (with_value (waiting_form trees (length frames) frame (drop (length operands - frame.count) operands)) value) left) (goes_from trees frames operands))
goes_from-last trees frames frame operands whole =
    let base : operand_count frames ≡ length operands - frame.count = omega arith in
    let own : take frame.count (drop (operand_count frames) operands) ≡ drop (length operands - frame.count) operands =
    take_all frame.count (drop (operand_count frames) operands) (omega (arith, length-drop (operand_count frames) operands)) ∙ ap (λ b. drop b operands) base
    in
    let w = λ (nodes : List Node). waiting_form trees (length frames) frame nodes in
    ap (λ forms. goes_through forms Done) (waiting_forms-last trees 0 (length frames) frames frame operands (omega arith))
    ∙ goes_through-last (waiting_forms trees 0 frames operands) (w (take frame.count (drop (operand_count frames) operands))) Done
    ∙ ap (λ nodes value left. if_done (form_outcome (with_value (w nodes) value) left) (goes_from trees frames operands)) own

-- ---- a value is given

open_given : (trees : List Tree) (depth : ℕ) (frame : Frame) (nodes : List Node) (value : Node) → frame.programs < length nodes →
    open_form trees depth frame (set nodes frame.programs value) ≡ with_value (waiting_form trees depth frame nodes) (tree_at trees value.0)
open_given trees depth frame nodes value lt =
    let programs = ap (trees_at trees) (take-set nodes frame.programs value) in
    let values = ap (trees_at trees) (drop-set nodes frame.programs value lt) in
    λ i. record {
      code = tree_at trees frame.code.0;
      form = tree_at trees frame.form.0;
      env = tree_at trees frame.env.0;
      depth = depth;
      programs = programs i;
      values = values i;
    }

pub comes_to-given : (trees : List Tree) (frames : List Frame) (frame : Frame) (operands given : List Node) (value : Node) (place : ℕ) (left : Fuel) → operand_count frames + frame.count ≡ length operands →
    frame.programs < frame.count → place ≡ length operands - frame.count + frame.programs → given ≡ set operands place value →
    comes_to trees frames given frame left
    ≡ if_done (form_outcome (with_value (waiting_form trees (length frames) frame (drop (length operands - frame.count) operands)) (tree_at trees value.0)) left) (goes_from trees frames operands)
comes_to-given trees frames frame operands given value place left whole lt at is =
    let base = length operands - frame.count in
    let long : length given - frame.count ≡ base = omega (arith, ap length is, length-set operands place value) in
    let own : drop (length given - frame.count) given ≡ set (drop base operands) frame.programs value =
    ap₂ drop long is ∙ ap (λ p. drop base (set operands p value)) at ∙ drop-set-add base operands frame.programs value
    in
    let nodes = drop base operands in
    let below : take (operand_count frames) given ≡ take (operand_count frames) operands = ap (take (operand_count frames)) is ∙ take-set-le (operand_count frames) operands place value (omega arith) in
    ap₂ (λ own forms. if_done (form_outcome (open_form trees (length frames) frame own) left) (goes_through forms Done)) own (waiting_forms-same trees 0 frames given operands below)
    ∙ ap (λ form. if_done (form_outcome form left) (goes_from trees frames operands)) (open_given trees (length frames) frame nodes value (omega (arith, length-drop base operands)))

-- ---- an operand is evaluated

abbrev pub without_last : Frame → ℕ → Frame
without_last frame programs = record frame { programs = programs }

module _ (trees : List Tree) (frames : List Frame) (frame : Frame) (operands : List Node) (program : Node) (rest place : ℕ) (left : Fuel) (whole : operand_count frames + frame.count ≡ length operands) (within : frame.programs ≤ frame.count) (some : frame.programs ≡ rest + 1) (at : place ≡ length operands - frame.count + rest) (is : program ≡ get_or operands place program) where
  abbrev nodes : List Node
  nodes = drop (length operands - frame.count) operands

  -- The last program is evaluated one deeper, and the form goes on with its value.
  pub operand_first : comes_to trees frames operands frame left
      ≡ if_done (evaluation (tree_at trees program.0) (tree_at trees frame.env.0) (suc (length frames)) left)
      (λ value after. if_done (form_outcome (with_value (waiting_form trees (length frames) (without_last frame rest) nodes) value) after) (goes_from trees frames operands))
  operand_first =
      let base = length operands - frame.count in
      let there : rest < length nodes = omega (arith, length-drop base operands) in
      let last : get_or nodes rest program ≡ program = get_or-drop base operands rest program ∙ ap (λ p. get_or operands p program) (sym at) ∙ sym is in
      let programs : trees_at trees (take frame.programs nodes) ≡ trees_at trees (take rest nodes) ++ tree_at trees program.0 ∷ [] =
      ap (λ n. trees_at trees (take n nodes)) some ∙ ap (trees_at trees) (take_more nodes rest program there)
      ∙ map-append (λ (node : Node). tree_at trees node.0) (take rest nodes) (get_or nodes rest program ∷ [])
      ∙ ap (λ (n : Node). trees_at trees (take rest nodes) ++ tree_at trees n.0 ∷ []) last
      in
      let opened = open_form trees (length frames) frame nodes in
      let before = record opened { programs = trees_at trees (take rest nodes) } in
      let waiting = waiting_form trees (length frames) (without_last frame rest) nodes in
      let same : before ≡ waiting = ap (λ n. record opened { programs = trees_at trees (take rest nodes); values = trees_at trees (drop n nodes) }) some in
      let one = evaluation (tree_at trees program.0) (tree_at trees frame.env.0) (suc (length frames)) left in
      ap (λ o. if_done o (goes_from trees frames operands)) (form-last opened (trees_at trees (take rest nodes)) (tree_at trees program.0) left programs)
      ∙ if_done-again one (λ v after. form_outcome (with_value before v) after) (goes_from trees frames operands)
      ∙ ap (λ (w : OpenForm). if_done one (λ v after. if_done (form_outcome (with_value w v) after) (goes_from trees frames operands))) same

  -- where it has a value
  pub operand_done : (value : Node) (given : List Node) (after : Fuel) → evaluation (tree_at trees program.0) (tree_at trees frame.env.0) (suc (length frames)) left ≡ Done (tree_at trees value.0) after →
      given ≡ set operands place value → comes_to trees frames given (without_last frame rest) after ≡ comes_to trees frames operands frame left
  operand_done value given after done given_is =
      comes_to-given trees frames (without_last frame rest) operands given value place after whole (omega arith) at given_is
      ∙ sym (operand_first ∙ ap (λ o. if_done o (λ value after. if_done (form_outcome (with_value (waiting_form trees (length frames) (without_last frame rest) nodes) value) after) (goes_from trees frames operands))) done)

  -- where its form awaits it
  pub operand_begun : (pushed : List Frame) → pushed ≡ frames ++ without_last frame rest ∷ [] →
      if_done (evaluation (tree_at trees program.0) (tree_at trees frame.env.0) (length pushed) left) (goes_from trees pushed operands) ≡ comes_to trees frames operands frame left
  operand_begun pushed pushed_is =
      let deep : length pushed ≡ suc (length frames) = omega (arith, ap length pushed_is, length-append frames (without_last frame rest ∷ [])) in
      ap₂ (λ depth go. if_done (evaluation (tree_at trees program.0) (tree_at trees frame.env.0) depth left) go) deep
      (ap (λ fs. goes_from trees fs operands) pushed_is ∙ goes_from-last trees frames (without_last frame rest) operands whole)
      ∙ sym operand_first

-- ---- a value ends an operand

pub frame_popped : (trees : List Tree) (before : State) (popped : List Frame) (frame : Frame) → IsState trees before 0 → before.frames.items ≡ popped ++ frame ∷ [] →
    (operand_count popped + frame.count ≡ length before.operands.items) × (frame.programs < frame.count)
frame_popped trees before popped frame state is =
    let whole = state.whole in
    let last = AreWaiting-init trees popped frame (subst (λ fs. AreWaiting trees fs) is state.frames) in
    (omega (arith, operand_count-push popped frame, ap operand_count is), last.1.awaits)

pub value_given : (trees : List Tree) (before after : State) (frame : Frame) (value : Node) (place : ℕ) → HasValue trees before value.0 → before.frames.items ≡ after.frames.items ++ frame ∷ [] →
    place ≡ length before.operands.items - frame.count + frame.programs → after.operands.items ≡ set before.operands.items place value → after.left ≡ before.left →
    Gives trees before after value.0 (step.Open frame)
value_given trees before after frame value place there is at given left =
    let popped = frame_popped trees before after.frames.items frame there.state is in
    let last = AreWaiting-init trees after.frames.items frame (subst (λ fs. AreWaiting trees fs) is there.state.frames) in
    let whole = popped.0 in
    let room = there.state.room in
    let long = length-set before.operands.items place value in
    let e = ap length given in
    let pairs : after.left.pairs ≡ before.left.pairs = ap (λ (l : Fuel). l.pairs) left in
    let bytes : after.left.bytes ≡ before.left.bytes = ap (λ (l : Fuel). l.bytes) left in
    let awaits = last.1.awaits in
    record {
      sound = record {
        state = record {
          frames = last.0;
          operands = subst (AreKnown trees) (sym given) (AreKnown-set trees before.operands.items place value there.state.operands there.known);
          whole = omega arith;
          room = omega arith;
        };
        sound = last.1.sound;
        within = omega arith;
      };
      left = left;
      same =
          comes_to-given trees after.frames.items frame before.operands.items after.operands.items value place after.left whole awaits at given
          ∙ ap (λ (go : Tree → Fuel → Outcome). go (tree_at trees value.0) after.left) (sym (goes_from-last trees after.frames.items frame before.operands.items whole))
          ∙ ap (λ fs. goes_from trees fs before.operands.items (tree_at trees value.0) after.left) (sym is)
          ∙ ap (goes_from trees before.frames.items before.operands.items (tree_at trees value.0)) left;
    }

-- ---- an operand is evaluated, in the state

-- The program is the last operand of the open form that isn't evaluated, and the others are so many.
pub record IsLastProgram (trees : List Tree) (before : State) (frame : Frame) (rest place : ℕ) (program : Node) : Type 0 where
  pub opened : IsOpen trees before frame
  pub some : frame.programs ≡ rest + 1
  pub at : place ≡ length before.operands.items - frame.count + rest
  pub is : program ≡ get_or before.operands.items place program

pub last_program : (trees : List Tree) (before : State) (frame : Frame) (len : ℕ) (program : Node) → IsOpen trees before frame → 0 < frame.programs → len ≡ vec_len before.operands →
    program ≡ get_or before.operands.items (len - frame.count + (frame.programs - 1)) program → IsLastProgram trees before frame (frame.programs - 1) (len - frame.count + (frame.programs - 1)) program
last_program trees before frame len program opened some long is = record {
  opened = opened;
  some = omega arith;
  at = omega (arith, before.operands.ok.0);
  is = is;
}

module _ (trees : List Tree) (before : State) (frame : Frame) (rest place : ℕ) (program : Node) (last : IsLastProgram trees before frame rest place program) where
  pub place_within : place < length before.operands.items
  place_within =
      let whole = last.opened.state.whole in
      let within = last.opened.within in
      let at = last.at in
      let some = last.some in
      omega arith

  pub program_known : IsKnown trees program.0
  program_known = subst (λ (n : Node). IsKnown trees n.0) (sym last.is) (AreKnown-at trees before.operands.items place program last.opened.state.operands place_within)

  pub operand_same : outcome_of trees before (step.Open frame)
      ≡ if_done (evaluation (tree_at trees program.0) (tree_at trees frame.env.0) (suc (length before.frames.items)) before.left)
      (λ value after. if_done (form_outcome (with_value (waiting_form trees (length before.frames.items) (without_last frame rest) (drop (length before.operands.items - frame.count) before.operands.items)) value) after) (goes_from trees before.frames.items before.operands.items))
  operand_same = operand_first trees before.frames.items frame before.operands.items program rest place before.left last.opened.state.whole last.opened.within last.some last.at last.is

  pub operand_valued : (after : State) (value : Node) → IsValueOf trees program.0 frame.env.0 before.left after.left value.0 → after.frames.items ≡ before.frames.items → after.operands.items ≡ set before.operands.items place value →
      Advances trees trees before after (outcome_of trees before (step.Open frame)) (step.Open (without_last frame rest))
  operand_valued after value valued frames given =
      let left = valued.paid.is in
      let enough = paid-enough valued.cost before.left after.left valued.paid in
      let costs : after.left.cost ≡ before.left.cost - valued.cost = ap (λ (l : Fuel). l.cost) left in
      let pairs : after.left.pairs ≡ before.left.pairs = ap (λ (l : Fuel). l.pairs) left in
      let bytes : after.left.bytes ≡ before.left.bytes = ap (λ (l : Fuel). l.bytes) left in
      let more = valued.some in
      let whole = last.opened.state.whole in
      let room = last.opened.state.room in
      let within = last.opened.within in
      let some = last.some in
      let long = length-set before.operands.items place value in
      let e = ap length given in
      let count : operand_count after.frames.items ≡ operand_count before.frames.items = ap operand_count frames in
      let sound : IsOpen trees after (without_last frame rest) = record {
        state = record {
          frames = subst (λ fs. AreWaiting trees fs) (sym frames) last.opened.state.frames;
          operands = subst (AreKnown trees) (sym given) (AreKnown-set trees before.operands.items place value last.opened.state.operands valued.known);
          whole = omega arith;
          room = omega arith;
        };
        sound = record { code = last.opened.sound.code; form = last.opened.sound.form; env = last.opened.sound.env; few = last.opened.sound.few };
        within = omega arith;
      } in
      record {
        sound = sound;
        room = omega arith;
        cheaper = omega arith;
        same =
            ap (λ fs. comes_to trees fs after.operands.items (without_last frame rest) after.left) frames
            ∙ operand_done trees before.frames.items frame before.operands.items program rest place before.left last.opened.state.whole last.opened.within last.some last.at last.is value after.operands.items after.left
            (valued.done (suc (length before.frames.items))) given;
      }

  -- the state in which the form awaits its operand
  module _ (pushed : State) (frames : pushed.frames.items ≡ before.frames.items ++ without_last frame rest ∷ []) (operands : pushed.operands.items ≡ before.operands.items) (left : pushed.left ≡ before.left) where
    pub pushed_state : IsState trees pushed 0
    pushed_state =
        let whole = last.opened.state.whole in
        let within = last.opened.within in
        let some = last.some in
        let room = last.opened.state.room in
        let pairs : pushed.left.pairs ≡ before.left.pairs = ap (λ (l : Fuel). l.pairs) left in
        let bytes : pushed.left.bytes ≡ before.left.bytes = ap (λ (l : Fuel). l.bytes) left in
        let e = ap length operands in
        let waits : IsWaiting trees (without_last frame rest) = record {
          sound = record { code = last.opened.sound.code; form = last.opened.sound.form; env = last.opened.sound.env; few = last.opened.sound.few };
          awaits = omega arith;
        } in
        record {
          frames = subst (λ fs. AreWaiting trees fs) (sym frames) (AreWaiting-push trees before.frames.items (without_last frame rest) last.opened.state.frames waits);
          operands = subst (AreKnown trees) (sym operands) last.opened.state.operands;
          whole = omega (arith, operand_count-push before.frames.items (without_last frame rest), ap operand_count frames);
          room = omega arith;
        }

    pub pushed_same : outcome_with trees pushed program.0 frame.env.0 ≡ outcome_of trees before (step.Open frame)
    pushed_same =
        ap₂ (λ left ops. if_done (evaluation (tree_at trees program.0) (tree_at trees frame.env.0) (length pushed.frames.items) left) (goes_from trees pushed.frames.items ops)) left operands
        ∙ operand_begun trees before.frames.items frame before.operands.items program rest place before.left last.opened.state.whole last.opened.within last.some last.at last.is pushed.frames.items frames

-- Of a run that has gone on from a state with the same fuel.
pub advances_from : (trees : List Tree) (before mid after : State) (whole part : Outcome) (next : Step) → mid.left ≡ before.left → part ≡ whole → Advances trees trees mid after part next → Advances trees trees before after whole next
advances_from trees before mid after whole part next left is advances =
    let costs : mid.left.cost ≡ before.left.cost = ap (λ (l : Fuel). l.cost) left in
    let pairs : mid.left.pairs ≡ before.left.pairs = ap (λ (l : Fuel). l.pairs) left in
    let bytes : mid.left.bytes ≡ before.left.bytes = ap (λ (l : Fuel). l.bytes) left in
    let r = advances.room in
    let c = advances.cheaper in
    record { sound = advances.sound; room = omega arith; cheaper = omega arith; same = advances.same ∙ is }

pub steps_from : (trees : List Tree) (before mid after : State) (whole part : Outcome) (result : Result Step RunFault) → mid.left ≡ before.left → part ≡ whole → StepsTo trees mid after part result → StepsTo trees before after whole result
steps_from trees before mid after whole part (Ok next) left is h = advances_from trees before mid after whole part next left is h
steps_from trees before mid after whole part (Err f) left is h = subst (λ o. IsRunFault trees o f) is h

-- Of a run that has evaluated some operands of its open form, each at some cost.
pub steps_later : (trees : List Tree) (before mid after : State) (first frame : Frame) (whole part : Outcome) (result : Result Step RunFault) → frame.programs ≤ first.programs →
    mid.left.pairs + mid.left.bytes ≤ before.left.pairs + before.left.bytes → mid.left.cost + first.programs ≤ before.left.cost + frame.programs → part ≡ whole → StepsTo trees mid after part result → StepsTo trees before after whole result
steps_later trees before mid after first frame whole part (Ok next) fewer room cheaper is h =
    let r = h.room in
    let c = h.cheaper in
    record { sound = h.sound; room = omega arith; cheaper = omega arith; same = h.same ∙ is }
steps_later trees before mid after first frame whole part (Err f) fewer room cheaper is h = subst (λ o. IsRunFault trees o f) is h
