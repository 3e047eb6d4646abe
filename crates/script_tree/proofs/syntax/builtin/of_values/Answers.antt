use Rattle.std.proofs.Common.{codes, refl, rules, arith}
use Rattle.std.proofs.lemmas.Slice.Eq.{text_from_reads}
use Rattle.script_tree.proofs.syntax.builtin.of_values.Goals as goal

pub returns-in-len : goal.returns-in-len
returns-in-len c = rw (text_from_reads c.args.name.now (codes "len") (omega arith) (search rules)) refl

pub returns-in-str : goal.returns-in-str
returns-in-str c = rw (text_from_reads c.args.name.now (codes "str") (omega arith) (search rules)) refl

pub returns-in-escape : goal.returns-in-escape
returns-in-escape c = rw (text_from_reads c.args.name.now (codes "escape") (omega arith) (search rules)) refl

pub returns-in-num : goal.returns-in-num
returns-in-num c = rw (text_from_reads c.args.name.now (codes "num") (omega arith) (search rules)) refl

pub returns-in-slice : goal.returns-in-slice
returns-in-slice c = rw (text_from_reads c.args.name.now (codes "slice") (omega arith) (search rules)) refl

pub returns-in-append : goal.returns-in-append
returns-in-append c = rw (text_from_reads c.args.name.now (codes "append") (omega arith) (search rules)) refl

pub returns-in-kind : goal.returns-in-kind
returns-in-kind c = rw (text_from_reads c.args.name.now (codes "kind") (omega arith) (search rules)) refl
