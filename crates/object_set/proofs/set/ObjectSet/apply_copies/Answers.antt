use Rattle.std.proofs.Common.{◌≡◌, ◌∙◌, inl, inr, sym, subst}
use Rattle.script_tree.specs.declared.operation.Act.{Act}
use Rattle.script_tree.specs.declared.operation.Object.TheVariants.{Tables}
use Rattle.object_set.specs.Applied.{DoesTimes, IsOpOf, answer_now, op_of, told}
use Rattle.object_set.proofs.Acting.{IsChange, changes_answer, now_told, roll_told, transact_object}
use Rattle.object_set.proofs.set.ObjectSet.apply_copies.Goals as goal

-- an act that is read or rolled answers the number of the choice
pub apply_giving-requires-in-Now-clause-known : goal.apply_giving-requires-in-Now-clause-known
apply_giving-requires-in-Now-clause-known c =
    let object = c.args.op.now.object in
    let h = c.args.self.now in
    let answers : Act → Type 0 = λ act. IsOpOf h (op_of object act) → told c.args.choice ≡ answer_now object act c.args.choice h in
    c.told.ensures ∙ elim c.in-Now.is [
      | inl now ↦ subst answers (sym now) (now_told object c.args.choice h) c.requires
      | inr roll ↦ subst answers (sym roll.1) (roll_told object roll.0 c.args.choice h) c.requires
    ]

pub apply_giving-requires-in-Write-clause-known : goal.apply_giving-requires-in-Write-clause-known
apply_giving-requires-in-Write-clause-known c =
    let object = c.args.op.now.object in
    let h = c.args.self.now in
    c.null.ensures ∙ changes_answer object c.args.op.now.act c.args.choice h (elim c.in-Write.is [
      | inl write ↦ subst IsChange (sym write.1) tt
      | inr other ↦ elim other [
        | inl put ↦ subst IsChange (sym put.2) tt
        | inr remove ↦ subst IsChange (sym remove.1) tt
      ]
    ])

pub returns-in_ok-on_tables_copies-in-Transact : goal.returns-in_ok-on_tables_copies-in-Transact
returns-in_ok-on_tables_copies-in-Transact c =
    let object : c.args.op.now.object ≡ Tables = transact_object c.args.op.now.object c.in-Transact.field-0 c.args.self.now
    (subst (λ act. IsOpOf c.args.self.now (op_of c.args.op.now.object act)) c.in-Transact.is c.requires) in (
      sym c.takes.ensures ∙ c.if-not-takes.false,
      subst (λ object. DoesTimes c.args.count (op_of object c.args.op.now.act) c.args.choice c.args.self.now c.on_tables_copies.new.self c.in_ok-on_tables_copies-in-Transact.field-0) (sym object)
          (c.in_ok-on_tables_copies-in-Transact.ensures.done c.args.choice),
    )
