use Rattle.std.proofs.Common.{sym, subst, ◌∙◌}
use Rattle.object_set.specs.Applied.{Does, op_of}
use Rattle.object_set.proofs.set.ObjectSet.apply.Goals as goal

pub returns-in_ok-on_register-in-Register : goal.returns-in_ok-on_register-in-Register
returns-in_ok-on_register-in-Register c = (
  sym c.takes.ensures ∙ c.if-not-takes.false,
  subst (λ o. Does (op_of o c.args.op.now.act) c.args.choice c.args.self.now c.on_register.new.self c.in_ok-on_register-in-Register.field-0) (sym c.in-Register.is)
      (c.in_ok-on_register-in-Register.ensures.done c.args.choice),
)

pub returns-in_ok-on_store-in-Store : goal.returns-in_ok-on_store-in-Store
returns-in_ok-on_store-in-Store c = (
  sym c.takes.ensures ∙ c.if-not-takes.false,
  subst (λ o. Does (op_of o c.args.op.now.act) c.args.choice c.args.self.now c.on_store.new.self c.in_ok-on_store-in-Store.field-0) (sym c.in-Store.is)
      (c.in_ok-on_store-in-Store.ensures.done c.args.choice),
)

pub returns-in_ok-on_tables-in-Tables : goal.returns-in_ok-on_tables-in-Tables
returns-in_ok-on_tables-in-Tables c = (
  sym c.takes.ensures ∙ c.if-not-takes.false,
  subst (λ o. Does (op_of o c.args.op.now.act) c.args.choice c.args.self.now c.on_tables.new.self c.in_ok-on_tables-in-Tables.field-0) (sym c.in-Tables.is)
      (c.in_ok-on_tables-in-Tables.ensures.done c.args.choice),
)
