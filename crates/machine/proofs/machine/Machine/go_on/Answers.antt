use Rattle.std.proofs.Common.{◌≡◌, [], Err, refl, ap, subst, ◌∙◌}
use Rattle.std.proofs.lemmas.Result.{IfOk-weaker}
use Rattle.script_tree.specs.declared.path.End.TheVariants.{Normal, Fault as FaultEnd}
use Rattle.script_meaning.specs.Conduct.{Wants, Ends, conduct, fault_response, path_of, response_of}
use Rattle.machine.specs.Does.{Runs}
use Rattle.machine.specs.Gives.{progress_of}
use Rattle.machine.specs.Told.{ending_of}
use Rattle.machine.proofs.Following.{ops_so_far, over_tells, over_leaves, fault_tells, fault_leaves, wants_tells, wants_follows, waits_over}
use Rattle.machine.proofs.machine.Machine.go_on.Goals as goal

pub returns-in-Ok-clause-tells : goal.returns-in-Ok-clause-tells
returns-in-Ok-clause-tells c program q answers f =
    let m = c.args.self.now in
    let new = c.run.new.self in
    let ops = ops_so_far program q answers m f c.requires in
    let p = progress_of new.state.account ops [] in
    IfOk-weaker c.ended.result (λ step. ending_of step ≡ Ends (response_of p) (path_of m.page p Normal))
    (λ step. ending_of step ≡ (conduct program q answers).ending)
    (λ step e. e ∙ over_tells program q answers m f c.requires new c.in-Ok.ensures) (c.ended.ensures.ends ops [])

pub returns-in-Ok-clause-follows : goal.returns-in-Ok-clause-follows
returns-in-Ok-clause-follows c program q answers f =
    let trail = ap (λ a. a.trail.items) c.ended.ensures.rest ∙ over_leaves program q answers c.args.self.now f c.requires c.run.new.self c.in-Ok.ensures in
    IfOk-weaker c.ended.result _ _ (λ step e. record { code = f.code; request = f.request; stands = trail }) (c.ended.ensures.ends [] [])

pub returns-in-Ok-clause-waits : goal.returns-in-Ok-clause-waits
returns-in-Ok-clause-waits c = IfOk-weaker c.ended.result _ _ (λ step e. waits_over step _ _ _ refl e) (c.ended.ensures.ends [] [])

pub returns-in-Err-Wants-clause-tells : goal.returns-in-Err-Wants-clause-tells
returns-in-Err-Wants-clause-tells c program q answers f =
    ap Wants c.into_op.ensures
    ∙ wants_tells program q answers c.args.self.now f c.requires c.run.new.self c.in-Err-Wants.wanted
    (subst (λ e. Runs c.args.self.now.request c.args.self.now.code.now.functions.items c.args.self.now.code.now.instructions.items c.args.self.now.run (Err e) c.run.new.self) c.in-Err-Wants.field-0-is c.in-Err-Wants.ensures)

pub returns-in-Err-Wants-clause-follows : goal.returns-in-Err-Wants-clause-follows
returns-in-Err-Wants-clause-follows c program q answers f = record {
  code = f.code;
  request = f.request;
  stands =
      wants_follows program q answers c.args.self.now f c.requires c.run.new.self c.in-Err-Wants.wanted
      (subst (λ e. Runs c.args.self.now.request c.args.self.now.code.now.functions.items c.args.self.now.code.now.instructions.items c.args.self.now.run (Err e) c.run.new.self) c.in-Err-Wants.field-0-is c.in-Err-Wants.ensures);
}

pub returns-in-Err-Fault-clause-tells : goal.returns-in-Err-Fault-clause-tells
returns-in-Err-Fault-clause-tells c program q answers f =
    let m = c.args.self.now in
    let new = c.run.new.self in
    let j = c.in-Err-Fault.fault in
    let p = progress_of new.state.account (ops_so_far program q answers m f c.requires) [] in
    let runs = subst (λ e. Runs m.request m.code.now.functions.items m.code.now.instructions.items m.run (Err e) new) c.in-Err-Fault.field-0-is c.in-Err-Fault.ensures in
    IfOk-weaker c.faulted.result (λ step. ending_of step ≡ Ends (fault_response j) (path_of m.page p (FaultEnd j)))
    (λ step. ending_of step ≡ (conduct program q answers).ending)
    (λ step e. e ∙ fault_tells program q answers m f c.requires new j runs) (c.faulted.ensures (ops_so_far program q answers m f c.requires) [])

pub returns-in-Err-Fault-clause-follows : goal.returns-in-Err-Fault-clause-follows
returns-in-Err-Fault-clause-follows c program q answers f =
    let m = c.args.self.now in
    let runs = subst (λ e. Runs m.request m.code.now.functions.items m.code.now.instructions.items m.run (Err e) c.run.new.self) c.in-Err-Fault.field-0-is c.in-Err-Fault.ensures in
    let trail = fault_leaves program q answers m f c.requires c.run.new.self c.in-Err-Fault.fault runs in
    IfOk-weaker c.faulted.result _ _ (λ step e. record { code = f.code; request = f.request; stands = trail }) (c.faulted.ensures [] [])

pub returns-in-Err-Fault-clause-waits : goal.returns-in-Err-Fault-clause-waits
returns-in-Err-Fault-clause-waits c = IfOk-weaker c.faulted.result _ _ (λ step e. waits_over step _ _ _ refl e) (c.faulted.ensures [] [])
