use Rattle.std.proofs.Common.{◌≡◌, ◌∙◌, ◌++◌, ◌+◌, suc, length, take, Some, refl, ap, sym, subst, arith, to_z, of_z, w64, rules}
use Rattle.basis.specs.Lists.{nth}
use Rattle.object_set.specs.ObjectSets.{objects_of}
use Rattle.audit_meaning.specs.Lists.{last}
use Rattle.audit_meaning.specs.Spots.{spots_in}
use Rattle.audit_meaning.proofs.Places.{last_take}
use Rattle.log_checker.specs.Entries.{Tracks}
use Rattle.log_checker.specs.EntryFaults.{reason_at}
use Rattle.log_checker.specs.OpMaps.{PutsPlace}
use Rattle.log_checker.proofs.EntryFacts.{LogRead, read_start, read_more, read_wrong, read_all, clock_tracks}
use Rattle.log_checker.proofs.Firsts.{some_at}
use Rattle.log_checker.proofs.entries.EntryChecker.read_log.Goals as goal

pub loop-index-init : goal.loop-index-init
loop-index-init c =
    let back : to_z w64 (of_z w64 c.clock-time.result) ≡ c.clock-time.result = search rules in
    let start = c.args.self.now.start.now in
    let log = c.args.log.now in
    record {
      read = λ program report earlier of knows stands.
          read_start program (objects_of start) c.args.self.now.trace.now report earlier log c.args.map.now _ knows
          (subst (λ t. Tracks log.object t (objects_of start log.object)) (sym (back ∙ c.clock-time.ensures.reading)) (clock_tracks start log.object));
      before = refl;
    }

pub returns-in-Some : goal.returns-in-Some
returns-in-Some c = λ program report earlier of knows stands.
    let h = c.loop-index.invariant.read program report earlier of knows stands in
    let i = c.loop-index.index in
    let log = c.args.log.now in
    let e = c.index-entries-index.result in
    let entries = c.as_slice-entries.result.now in
    let at : nth log.entries i ≡ Some e =
    sym (ap (λ xs. nth xs i) c.as_slice-entries.ensures) ∙ some_at entries i e (omega arith) c.index-entries-index.is in
    let wrong =
    c.in_ok-wrong.ensures.fault program report (earlier ++ take i (spots_in log)) (take i log.entries) of
    (record { knows = h.knows; tracks = h.tracks; before = c.loop-index.invariant.before }) in
    read_wrong program (objects_of c.args.self.now.start.now) c.args.self.now.trace.now report earlier log i c.in-Some.fault c.loop-index.map _ e h at
    (sym c.in-Some.is ∙ wrong)
    ∙ sym (ap (λ r. Some r) c.in_ok-at.ensures ∙ (λ j. Some (reason_at c.in-Some.fault log.object (c.in_ok-position.ensures j))))

pub loop-index-preserved : goal.loop-index-preserved
loop-index-preserved c =
    let start = c.args.self.now.start.now in
    let i = c.loop-index.index in
    let log = c.args.log.now in
    let e = c.index-entries-index.result in
    let entries = c.as_slice-entries.result.now in
    let map = c.first_wrong.new.map in
    let at : nth log.entries i ≡ Some e =
    sym (ap (λ xs. nth xs i) c.as_slice-entries.ensures) ∙ some_at entries i e (omega arith) c.index-entries-index.is in
    record {
      read = λ program report earlier of knows stands.
          let h = c.loop-index.invariant.read program report earlier of knows stands in
          let wrong =
          c.in_ok-wrong.ensures.fault program report (earlier ++ take i (spots_in log)) (take i log.entries) of
          (record { knows = h.knows; tracks = h.tracks; before = c.loop-index.invariant.before }) in
          let puts =
          subst (λ p. PutsPlace e.rid e.number p c.loop-index.map map) (λ j. (c.in_ok-log_number.ensures j, c.in_ok-position.ensures j))
          (c.in_ok-wrong.ensures.puts c.in_default.is) in
          let back : to_z w64 (of_z w64 c.next_reading-time.result) ≡ c.next_reading-time.result = search rules in
          subst (LogRead program (objects_of start) c.args.self.now.trace.now report earlier log (i + 1) map) (sym (back ∙ c.next_reading-time.ensures))
          (read_more program (objects_of start) c.args.self.now.trace.now report earlier log c.args.number i c.loop-index.map map _ e h stands at
          (sym c.in_default.is ∙ wrong) puts c.in_ok-wrong.ensures.counts);
      before =
          sym (ap (λ n. last (take n log.entries)) (let next : i + 1 ≡ suc i = omega arith in next) ∙ last_take log.entries i e at);
    }

pub returns : goal.returns
returns c = λ program report earlier of knows stands.
    read_all program (objects_of c.args.self.now.start.now) c.args.self.now.trace.now report earlier c.args.log.now c.loop-index.index c.loop-index.map _
    (omega (arith, ap length c.as_slice-entries.ensures)) (c.loop-index.invariant.read program report earlier of knows stands)
