use Rattle.std.proofs.Common.{codes, refl, rules, arith}
use Rattle.std.proofs.lemmas.Slice.Eq.{text_from_reads}
use Rattle.script_tree.proofs.syntax.builtin.of_request.Goals as goal

pub returns-in-param : goal.returns-in-param
returns-in-param c = rw (text_from_reads c.args.name.now (codes "param") (omega arith) (search rules)) refl

pub returns-in-method : goal.returns-in-method
returns-in-method c = rw (text_from_reads c.args.name.now (codes "method") (omega arith) (search rules)) refl

pub returns-in-path : goal.returns-in-path
returns-in-path c = rw (text_from_reads c.args.name.now (codes "path") (omega arith) (search rules)) refl

pub returns-in-body : goal.returns-in-body
returns-in-body c = rw (text_from_reads c.args.name.now (codes "body") (omega arith) (search rules)) refl
