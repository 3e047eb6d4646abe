use Rattle.std.proofs.Common.{length}
use Rattle.versioned_tables.proofs.KeyFacts.{runs_at, reached_more}
use Rattle.versioned_tables.proofs.SameRanges.{alike_reached}
use Rattle.versioned_tables.proofs.keys.add_keys_at.Goals as goal

pub returns-then-look_alike : goal.returns-then-look_alike
returns-then-look_alike c =
    alike_reached c.args.tables.now c.args.keys.now.items c.args.statements.now c.args.i c.index-statements-i.result c.index-statements-i-then-i-gt0.result c.if-i-gt0.true c.requires.within
    c.index-statements-i.is c.index-statements-i-then-i-gt0.is (c.look_alike.ensures c.if-look_alike.true) c.requires.reached

pub add_keys-requires : goal.add_keys-requires
add_keys-requires c = runs_at (length c.args.tables.now) c.args.statements.now c.args.i c.index-statements-i-2.result c.requires.runs c.requires.within c.index-statements-i-2.is

pub returns : goal.returns
returns c =
    reached_more c.args.tables.now c.args.keys.now.items c.add_keys.new.keys.items c.args.statements.now c.args.i c.index-statements-i-2.result c.requires.within c.index-statements-i-2.is
    c.in_ok-add_keys.ensures.grows c.requires.reached c.in_ok-add_keys.ensures.reaches
