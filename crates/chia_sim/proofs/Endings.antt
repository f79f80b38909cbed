-- What a run ends with, and what decides its status.
use Rattle.std.proofs.Common.{◌≡◌, ◌∙◌, ℕ, ◌<◌, ◌≤◌, ◌⊎◌, inl, inr, List, ◌++◌, length, Option, Some, None, string_bytes, rules, refl, ap, subst, arith, length-append, append-nil}
use Rattle.std.specs.Io.KnownBytes.{Consumes, IsAtEnd}
use Rattle.ports_io.specs.Outside.{Rose}
use Rattle.session_spec.specs.Texts.{line_feed}
use Rattle.tool_words.specs.declared.said.Command.{Command}
use Rattle.tool_words.specs.declared.said.Command.TheVariants as command
use Rattle.chia_sim.specs.Outside.{Reading, Writing, IsInput, IsTooLong, Writes, WritesLine, FailsToWrite}
use Rattle.chia_sim.specs.declared.limits.TheConstants.{MOST_INPUT}
use Rattle.chia_sim.specs.Outputs.{HasOutput, HasFault, IsInForm}
use Rattle.chia_sim.specs.Headline.{IsOutput, IsFault, Ends, Finished, Refused, NoCommand, ReadFault, WriteFault, NoMemory, TooLong}
use Rattle.chia_sim.specs.Causes.{IsRead, EndsWith, IsComplete, NamesFault, NamesTooLong}
use Rattle.chia_sim.specs.Stops.{HasCause, IsAnswer, IsAnswerTo, Finishes, words_of, status_of}
use Rattle.chia_sim.specs.declared.answer.Answer.{Answer}
use Rattle.chia_sim.specs.declared.answer.Answer.TheVariants as answer
use Rattle.chia_sim.specs.declared.stop.Stop.{Stop}
use Rattle.chia_sim.specs.declared.stop.Stop.TheVariants as because

-- what was taken to the end is what was told
taken_to_end : (left after : Option (List ℕ)) (input taken : List ℕ) → left ≡ Some input → Consumes left after taken → IsAtEnd after → taken ≡ input
taken_to_end None after input taken told c end = absurd (search rules)
taken_to_end (Some xs) None input taken told c end = absurd c
taken_to_end (Some xs) (Some ys) input taken told c end =
    let whole = c ∙ ap (λ t. taken ++ t) end ∙ append-nil taken in cc

-- no more was taken than was told
taken-le : (left after : Option (List ℕ)) (input taken : List ℕ) → left ≡ Some input → Consumes left after taken → length taken ≤ length input
taken-le None after input taken told c = absurd (search rules)
taken-le (Some xs) None input taken told c = absurd c
taken-le (Some xs) (Some ys) input taken told c =
    let same : xs ≡ input = cc in
    omega (arith, length-append taken ys, ap length c, ap length same)

input-is : (reading : Reading) (input read : List ℕ) → reading.left ≡ Some input → IsInput reading read → read ≡ input
input-is reading input read told is = taken_to_end reading.left reading.left_after input read told is.taken is.ended

not-long : (reading : Reading) (input read : List ℕ) → reading.left ≡ Some input → IsInput reading read → MOST_INPUT < length input → ⊥
not-long reading input read told is long = omega (arith, long, is.within, ap length (input-is reading input read told is))

long-is : (reading : Reading) (input : List ℕ) → reading.left ≡ Some input → IsTooLong reading → MOST_INPUT < length input
long-is reading input told long = omega (arith, long.1, taken-le reading.left reading.left_after input long.0 told long.2)

same-command : (said : Option Command) (it other : Command) → said ≡ Some it → said ≡ Some other → other ≡ it
same-command said it other is be = cc

-- an input of the form has no fault
form-or-fault : (it : Command) (input words : List ℕ) → IsInForm it input → HasFault it input words → ⊥
form-or-fault command.Session input words form fault = let none = fault.0 in absurd (search rules)
form-or-fault command.Hash input words form fault = absurd (search rules)
form-or-fault (command.Eval cost as_text env) input words form fault = absurd (search rules)
form-or-fault (command.Curry arguments) input words form fault = absurd (search rules)

-- an input with an output has no fault
output-or-fault : (it : Command) (input output words : List ℕ) → HasOutput it input output → HasFault it input words → ⊥
output-or-fault command.Session input output words out fault = let one = out.of_input in let none = fault.0 in absurd (search rules)
output-or-fault command.Hash input output words out fault = absurd (search rules)
output-or-fault (command.Eval cost as_text env) input output words out fault = absurd (search rules)
output-or-fault (command.Curry arguments) input output words out fault = absurd (search rules)

-- the same of what was read
fault-of : (said : Option Command) (reading : Reading) (it other : Command) (input words : List ℕ)
    → IsRead said it reading input → said ≡ Some other → IsFault other reading words → HasFault it input words
fault-of said reading it other input words run is fault =
    subst (λ c. HasFault c input words) (same-command said it other run.words_are is)
    (subst (λ i. HasFault other i words) (input-is reading input fault.0 run.tells fault.1) fault.2)

output-of : (said : Option Command) (reading : Reading) (it other : Command) (input output : List ℕ)
    → IsRead said it reading input → said ≡ Some other → IsOutput other reading output → HasOutput it input output
output-of said reading it other input output run is out =
    subst (λ c. HasOutput c input output) (same-command said it other run.words_are is)
    (subst (λ i. HasOutput other i output) (input-is reading input out.0 run.tells out.1) out.2)

some-none : {A : Type 0} (found : Option A) {x : A} → found ≡ Some x → found ≡ None → ⊥
some-none found is none = absurd (search rules)

pub ends-complete : (said : Option Command) (reading : Reading) (writing : Writing) (status : ℕ) → Ends said reading writing status → IsComplete said reading writing status
ends-complete said reading writing status (Finished other output so out writes is) it input run writable within form = inl is
ends-complete said reading writing status (Refused other words so fault line is) it input run writable within form =
    absurd (form-or-fault it input words form (fault-of said reading it other input words run so fault))
ends-complete said reading writing status (NoCommand none same line is) it input run writable within form = absurd (some-none said run.words_are none)
ends-complete said reading writing status (ReadFault other so fails line is) it input run writable within form = absurd (run.reads fails.rose)
ends-complete said reading writing status (WriteFault other output so out fails is) it input run writable within form = absurd (writable fails.rose)
ends-complete said reading writing status (NoMemory line is) it input run writable within form = inr is
ends-complete said reading writing status (TooLong other so long line is) it input run writable within form =
    absurd (omega (arith, within, long-is reading input run.tells long))

pub ends-fault : (said : Option Command) (reading : Reading) (writing : Writing) (status : ℕ) → Ends said reading writing status → NamesFault said reading status
ends-fault said reading writing status (Finished other output so out writes is) it input words run within fault =
    absurd (output-or-fault it input output words (output-of said reading it other input output run so out) fault)
ends-fault said reading writing status (Refused other line_words so has line is) it input words run within fault = inl is
ends-fault said reading writing status (NoCommand none same line is) it input words run within fault = absurd (some-none said run.words_are none)
ends-fault said reading writing status (ReadFault other so fails line is) it input words run within fault = absurd (run.reads fails.rose)
ends-fault said reading writing status (WriteFault other output so out fails is) it input words run within fault =
    absurd (output-or-fault it input output words (output-of said reading it other input output run so out) fault)
ends-fault said reading writing status (NoMemory line is) it input words run within fault = inr is
ends-fault said reading writing status (TooLong other so long line is) it input words run within fault =
    absurd (omega (arith, within, long-is reading input run.tells long))

pub ends-too_long : (said : Option Command) (reading : Reading) (writing : Writing) (status : ℕ) → Ends said reading writing status → NamesTooLong said reading status
ends-too_long said reading writing status (Finished other output so out writes is) it input run long = absurd (not-long reading input out.0 run.tells out.1 long)
ends-too_long said reading writing status (Refused other words so fault line is) it input run long = absurd (not-long reading input fault.0 run.tells fault.1 long)
ends-too_long said reading writing status (NoCommand none same line is) it input run long = absurd (some-none said run.words_are none)
ends-too_long said reading writing status (ReadFault other so fails line is) it input run long = absurd (run.reads fails.rose)
ends-too_long said reading writing status (WriteFault other output so out fails is) it input run long = absurd (not-long reading input out.0 run.tells out.1 long)
ends-too_long said reading writing status (NoMemory line is) it input run long = inr is
ends-too_long said reading writing status (TooLong other so has line is) it input run long = inl is

pub ends-no_command : (said : Option Command) (reading : Reading) (writing : Writing) (status : ℕ) → Ends said reading writing status → said ≡ None → EndsWith 2 status
ends-no_command said reading writing status (Finished other output so out writes is) none = absurd (some-none said so none)
ends-no_command said reading writing status (Refused other words so fault line is) none = absurd (some-none said so none)
ends-no_command said reading writing status (NoCommand also same line is) none = inl is
ends-no_command said reading writing status (ReadFault other so fails line is) none = absurd (some-none said so none)
ends-no_command said reading writing status (WriteFault other output so out fails is) none = absurd (some-none said so none)
ends-no_command said reading writing status (NoMemory line is) none = inr is
ends-no_command said reading writing status (TooLong other so long line is) none = absurd (some-none said so none)

pub ends-read_fault : (said : Option Command) (reading : Reading) (writing : Writing) (status : ℕ) → Ends said reading writing status → status ≡ 3 → Rose reading.faults reading.faults_after
ends-read_fault said reading writing status (Finished other output so out writes is) three = absurd (omega (arith, is, three))
ends-read_fault said reading writing status (Refused other words so fault line is) three = absurd (omega (arith, is, three))
ends-read_fault said reading writing status (NoCommand none same line is) three = absurd (omega (arith, is, three))
ends-read_fault said reading writing status (ReadFault other so fails line is) three = fails.rose
ends-read_fault said reading writing status (WriteFault other output so out fails is) three = absurd (omega (arith, is, three))
ends-read_fault said reading writing status (NoMemory line is) three = absurd (omega (arith, is, three))
ends-read_fault said reading writing status (TooLong other so long line is) three = absurd (omega (arith, is, three))

pub ends-write_fault : (said : Option Command) (reading : Reading) (writing : Writing) (status : ℕ) → Ends said reading writing status → status ≡ 4 → Rose writing.faults writing.faults_after
ends-write_fault said reading writing status (Finished other output so out writes is) four = absurd (omega (arith, is, four))
ends-write_fault said reading writing status (Refused other words so fault line is) four = absurd (omega (arith, is, four))
ends-write_fault said reading writing status (NoCommand none same line is) four = absurd (omega (arith, is, four))
ends-write_fault said reading writing status (ReadFault other so fails line is) four = absurd (omega (arith, is, four))
ends-write_fault said reading writing status (WriteFault other output so out fails is) four = fails.rose
ends-write_fault said reading writing status (NoMemory line is) four = absurd (omega (arith, is, four))
ends-write_fault said reading writing status (TooLong other so long line is) four = absurd (omega (arith, is, four))

-- What is answered to an input is answered to what was read.
pub answer-read : (it : Command) (reading : Reading) (input : List ℕ) (says : Answer) → IsInput reading input → IsAnswer it input says → IsAnswerTo it reading says
answer-read it reading input (answer.Output text) is has = (input, is, has)
answer-read it reading input (answer.Refusal text) is has = (has.0, (input, is, has.1), has.2)

line-of : (writing : Writing) (text words : List ℕ) → text ≡ words ++ line_feed → Writes writing text ⊎ FailsToWrite writing text → WritesLine writing words
line-of writing text words same written = subst (λ t. Writes writing t ⊎ FailsToWrite writing t) same written

pub answered-ends : (it : Command) (reading : Reading) (writing : Writing) (says : Answer) (status : ℕ)
    → IsAnswerTo it reading says → Finishes writing says status → Ends (Some it) reading writing status
answered-ends it reading writing (answer.Output text) status out (inl done) = Finished it (string_bytes text) refl out done.0 done.1
answered-ends it reading writing (answer.Output text) status out (inr failed) = WriteFault it (string_bytes text) refl out failed.0 failed.1
answered-ends it reading writing (answer.Refusal text) status has written =
    Refused it has.0 refl has.1 (line-of writing (string_bytes text) has.0 has.2 written.0) written.1

pub stopped-ends : (it : Command) (reading : Reading) (writing : Writing) (stop : Stop) (status : ℕ)
    → HasCause reading stop → WritesLine writing (words_of stop) → status ≡ status_of stop → Ends (Some it) reading writing status
stopped-ends it reading writing because.Words status cause line is = absurd cause
stopped-ends it reading writing because.ReadFault status cause line is = ReadFault it refl cause line is
stopped-ends it reading writing because.OutOfMemory status cause line is = NoMemory line is
stopped-ends it reading writing because.TooLong status cause line is = TooLong it refl cause line is
