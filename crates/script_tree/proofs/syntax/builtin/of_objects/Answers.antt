use Rattle.std.proofs.Common.{codes, refl, rules, arith}
use Rattle.std.proofs.lemmas.Slice.Eq.{text_from_reads}
use Rattle.script_tree.proofs.syntax.builtin.of_objects.Goals as goal

pub returns-in-read : goal.returns-in-read
returns-in-read c = rw (text_from_reads c.args.name.now (codes "read") (omega arith) (search rules)) refl

pub returns-in-write : goal.returns-in-write
returns-in-write c = rw (text_from_reads c.args.name.now (codes "write") (omega arith) (search rules)) refl

pub returns-in-get : goal.returns-in-get
returns-in-get c = rw (text_from_reads c.args.name.now (codes "get") (omega arith) (search rules)) refl

pub returns-in-put : goal.returns-in-put
returns-in-put c = rw (text_from_reads c.args.name.now (codes "put") (omega arith) (search rules)) refl

pub returns-in-remove : goal.returns-in-remove
returns-in-remove c = rw (text_from_reads c.args.name.now (codes "remove") (omega arith) (search rules)) refl

pub returns-in-clock : goal.returns-in-clock
returns-in-clock c = rw (text_from_reads c.args.name.now (codes "clock") (omega arith) (search rules)) refl

pub returns-in-random : goal.returns-in-random
returns-in-random c = rw (text_from_reads c.args.name.now (codes "random") (omega arith) (search rules)) refl
