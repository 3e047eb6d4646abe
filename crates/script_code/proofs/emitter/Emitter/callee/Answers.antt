use Rattle.std.proofs.Common.{◌∙◌, ap, Some, None}
use Rattle.script_tree.specs.Builtins.{builtin_of}
use Rattle.script_code.proofs.Numbers.{chosen, told_callee}
use Rattle.script_code.proofs.emitter.Emitter.callee.Goals as goal

pub returns-in-Some : goal.returns-in-Some
returns-in-Some c =
    told_callee c.self.inside.functions c.args.self.now c.self.inside.index c.as_bytes.result.now c.args.name.now
    (Some c.in-Some.number.now) c.self.invariant c.self.view_is c.as_bytes.ensures c.in-Some.ensures.value

pub returns-in-Some-named : goal.returns-in-Some-named
returns-in-Some-named c =
    let version = c.version.ensures ∙ ap (λ program. program.version) (c.program.ensures ∙ c.self.view_is) in
    ap (chosen None) (c.in-Some-named.ensures ∙ (λ j. builtin_of (version j) (c.as_bytes-in-None.ensures j)))
    ∙ told_callee c.self.inside.functions c.args.self.now c.self.inside.index c.as_bytes.result.now c.args.name.now None
    c.self.invariant c.self.view_is c.as_bytes.ensures c.in-None.ensures.value

pub returns-in-None-named : goal.returns-in-None-named
returns-in-None-named c =
    let version = c.version.ensures ∙ ap (λ program. program.version) (c.program.ensures ∙ c.self.view_is) in
    ap (chosen None) (c.in-None-named.ensures ∙ (λ j. builtin_of (version j) (c.as_bytes-in-None.ensures j)))
    ∙ told_callee c.self.inside.functions c.args.self.now c.self.inside.index c.as_bytes.result.now c.args.name.now None
    c.self.invariant c.self.view_is c.as_bytes.ensures c.in-None.ensures.value
