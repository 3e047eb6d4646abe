use Rattle.script_code.proofs.translate.write.Goals as goal

pub returns : goal.returns
returns c = c.write_declarations.ensures c.in_ok-emitter.ensures
