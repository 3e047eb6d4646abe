use Rattle.script_code.proofs.translate.translated.Goals as goal

pub returns : goal.returns
returns c =
    c.in_ok-write.ensures
    (record { instructions = c.new.ensures.items; functions = c.new-2.ensures.items; pages = c.new-3.ensures.empty })
