use Rattle.std.proofs.Common.{◌≡◌, ◌+◌, ◌≤◌, length, Some, refl, sym, ap, subst, ◌∙◌, arith, rules}
use Rattle.std.specs.Prelude.{slice_get}
use Rattle.std.proofs.lemmas.Option.{slice_get_read}
use Rattle.script_code.specs.CodeRun.{exec}
use Rattle.script_code.specs.declared.instruction.Instruction.TheVariants.{Push, Load, Binary, Assign}
use Rattle.machine.specs.Does.{Leaves}
use Rattle.machine.specs.Gives.{progress_of}
use Rattle.machine.proofs.Runs.{ends_at, none_next, one_next, update_next, push_next, load_next}
use Rattle.machine.proofs.run.Run.step.Goals as goal

pub returns-in-None-clause-gives : goal.returns-in-None-clause-gives
returns-in-None-clause-gives c =
    let m = c.args.self.now in
    let code = c.args.code.now.instructions.items in
    let past : length code ≤ m.place = search rules in
    (0, λ k ops more. none_next c.args.request.now c.args.code.now.functions.items code k m.frames m.place m.state.stack m.state.slots.items (progress_of m.state.account ops more) past)

pub returns-in_default-clause-gives : goal.returns-in_default-clause-gives
returns-in_default-clause-gives c =
    let m = c.args.self.now in
    let code = c.args.code.now.instructions.items in
    let functions = c.args.code.now.functions.items in
    let q = c.args.request.now in
    let i = c.in-Some.instruction.now in
    let here : slice_get code m.place ≡ Some i = ap (λ l. slice_get l m.place) (sym c.deref.ensures.value) ∙ slice_get_read c.deref.result.now (length c.deref.result.now) m.place i refl c.in-Some.ensures.lookup.3.0 c.in-Some.ensures.lookup.1 in (
      0,
      λ k ops more.
          let next = exec q functions code k in
          subst (Leaves (next c.act.new.self.frames c.act.new.self.place) ops more c.act.result c.act.new.self.state)
          (sym (one_next q functions code k m.frames m.place m.state.stack m.state.slots.items (progress_of m.state.account ops more) i here)) (c.act.ensures.acts next ops more (ends_at q functions code k)),
    )

pub returns-in-Binary-Some-Assign-clause-gives : goal.returns-in-Binary-Some-Assign-clause-gives
returns-in-Binary-Some-Assign-clause-gives c =
    let m = c.args.self.now in
    let code = c.args.code.now.instructions.items in
    let functions = c.args.code.now.functions.items in
    let q = c.args.request.now in
    let both = c.in-Binary-Some-Assign in
    let here : slice_get code m.place ≡ Some c.in-Some.instruction.now =
    ap (λ l. slice_get l m.place) (sym c.deref.ensures.value) ∙ slice_get_read c.deref.result.now (length c.deref.result.now) m.place c.in-Some.instruction.now refl c.in-Some.ensures.lookup.3.0 c.in-Some.ensures.lookup.1 in
    let behind : slice_get code (m.place + 1) ≡ Some both.field-0-1.now =
    ap (λ l. slice_get l (m.place + 1)) (sym c.deref-in-Some.ensures.value)
    ∙ slice_get_read c.deref-in-Some.result.now (length c.deref-in-Some.result.now)
    (m.place + 1) both.field-0-1.now refl both.ensures.lookup.3.0 both.ensures.lookup.1 in
    let first : c.in-Some.instruction.now ≡ Binary both.operator = search rules in
    let second : both.field-0-1.now ≡ Assign both.slot = search rules in
    let two : m.place + 1 + 1 ≡ m.place + 2 = omega arith in (
      1,
      λ k ops more.
          let next = exec q functions code k in
          subst (Leaves (next m.frames (m.place + 2)) ops more c.update.result c.update.new.self)
          (sym (update_next q functions code k m.frames m.place m.state.stack m.state.slots.items (progress_of m.state.account ops more) both.operator both.slot (here ∙ ap Some first) (behind ∙ ap Some second)))
          (rw (← two) (c.update.ensures.does q functions next m.frames m.place ops more)),
    )

pub returns-in-Push-Some-Binary-clause-gives : goal.returns-in-Push-Some-Binary-clause-gives
returns-in-Push-Some-Binary-clause-gives c =
    let m = c.args.self.now in
    let code = c.args.code.now.instructions.items in
    let functions = c.args.code.now.functions.items in
    let q = c.args.request.now in
    let both = c.in-Push-Some-Binary in
    let here : slice_get code m.place ≡ Some c.in-Some.instruction.now =
    ap (λ l. slice_get l m.place) (sym c.deref.ensures.value) ∙ slice_get_read c.deref.result.now (length c.deref.result.now) m.place c.in-Some.instruction.now refl c.in-Some.ensures.lookup.3.0 c.in-Some.ensures.lookup.1 in
    let behind : slice_get code (m.place + 1) ≡ Some both.field-0-1.now =
    ap (λ l. slice_get l (m.place + 1)) (sym c.deref-in-Some.ensures.value)
    ∙ slice_get_read c.deref-in-Some.result.now (length c.deref-in-Some.result.now)
    (m.place + 1) both.field-0-1.now refl both.ensures.lookup.3.0 both.ensures.lookup.1 in
    let first : c.in-Some.instruction.now ≡ Push both.value = search rules in
    let second : both.field-0-1.now ≡ Binary both.operator = search rules in
    let two : m.place + 1 + 1 ≡ m.place + 2 = omega arith in (
      1,
      λ k ops more.
          let next = exec q functions code k in
          subst (Leaves (next m.frames (m.place + 2)) ops more c.push_and_binary.result c.push_and_binary.new.self)
          (sym (push_next q functions code k m.frames m.place m.state.stack m.state.slots.items (progress_of m.state.account ops more) both.value both.operator (here ∙ ap Some first) (behind ∙ ap Some second)))
          (rw (← two) (c.push_and_binary.ensures.does q functions next m.frames m.place ops more)),
    )

pub returns-in-Load-Some-Binary-clause-gives : goal.returns-in-Load-Some-Binary-clause-gives
returns-in-Load-Some-Binary-clause-gives c =
    let m = c.args.self.now in
    let code = c.args.code.now.instructions.items in
    let functions = c.args.code.now.functions.items in
    let q = c.args.request.now in
    let both = c.in-Load-Some-Binary in
    let here : slice_get code m.place ≡ Some c.in-Some.instruction.now =
    ap (λ l. slice_get l m.place) (sym c.deref.ensures.value) ∙ slice_get_read c.deref.result.now (length c.deref.result.now) m.place c.in-Some.instruction.now refl c.in-Some.ensures.lookup.3.0 c.in-Some.ensures.lookup.1 in
    let behind : slice_get code (m.place + 1) ≡ Some both.field-0-1.now =
    ap (λ l. slice_get l (m.place + 1)) (sym c.deref-in-Some.ensures.value)
    ∙ slice_get_read c.deref-in-Some.result.now (length c.deref-in-Some.result.now)
    (m.place + 1) both.field-0-1.now refl both.ensures.lookup.3.0 both.ensures.lookup.1 in
    let first : c.in-Some.instruction.now ≡ Load both.slot = search rules in
    let second : both.field-0-1.now ≡ Binary both.operator = search rules in
    let two : m.place + 1 + 1 ≡ m.place + 2 = omega arith in (
      1,
      λ k ops more.
          let next = exec q functions code k in
          subst (Leaves (next m.frames (m.place + 2)) ops more c.load_and_binary.result c.load_and_binary.new.self)
          (sym (load_next q functions code k m.frames m.place m.state.stack m.state.slots.items (progress_of m.state.account ops more) both.slot both.operator (here ∙ ap Some first) (behind ∙ ap Some second)))
          (rw (← two) (c.load_and_binary.ensures.does q functions next m.frames m.place ops more)),
    )
