use Rattle.std.proofs.Common.{◌≡◌, ◌∷◌, ◌+◌, Some, length, drop, false, refl, sym, ap, ◌∙◌, arith}
use Rattle.std.specs.Prelude.{slice_get, ◌==◌}
use Rattle.std.proofs.lemmas.Grind.{common_steps}
use Rattle.std.proofs.lemmas.Option.{slice_get_read}
use Rattle.script_tree.specs.declared.limits.TheConstants.{MOST_CALL_DEPTH}
use Rattle.script_code.specs.CodeRun.{Frame}
use Rattle.machine.specs.Gives.{progress_of}
use Rattle.machine.proofs.Parts.{call_enters}
use Rattle.machine.proofs.run.Run.call.Goals as goal

pub returns-clause-acts : goal.returns-clause-acts
returns-clause-acts c q next ops more ends =
    let m = c.args.self.now in
    let functions = c.args.functions.now in
    let start = c.in-Some.start.now in
    let found : slice_get functions c.args.function ≡ Some start
    = slice_get_read functions (length functions) c.args.function start refl c.in-Some.ensures.lookup.3.0 c.in-Some.ensures.lookup.1 in
    let shallow : (length m.frames == MOST_CALL_DEPTH) ≡ false = grind (arith, common_steps) in
    let frame : Frame = record { place = c.args.place + 1; stack = drop c.args.count m.state.stack; slots = m.state.slots.items } in
    let frames : c.push.new.self ≡ frame ∷ m.frames = grind (arith, common_steps) in
    let values = ap (λ v. v.items) c.replace-2.ensures.after ∙ c.in_ok-values.ensures.values in
    call_enters q functions next m.frames c.args.place c.args.function c.args.count start m.state.stack m.state.slots.items c.replace-2.new.dest.items
    c.replace.new.dest c.push.new.self (progress_of m.state.account ops more) (progress_of c.charge.new.self ops more)
    (sym values) (c.in_ok-charge.ensures.gives ops more) found shallow (c.replace.ensures.after ∙ c.empty_stack-stack.ensures.empty) frames
