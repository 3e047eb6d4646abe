use Rattle.std.proofs.Common.{◌≡◌, ◌∙◌, ◌+◌, ◌∷◌, [], List, length, length-append, Option, Some, IfSome, refl, sym, ap, subst, arith}
use Rattle.std.specs.Prelude.{slice_index_or}
use Rattle.std.specs.Option.{is_some}
use Rattle.basis.specs.Lists.{nth}
use Rattle.basis.proofs.Options.{some_is, none_is_not}
use Rattle.script_tree.specs.Datum.{Datum}
use Rattle.period.specs.declared.report.LogEntry.{LogEntry}
use Rattle.versioned_tables.specs.OverTime.{IsAnswerThen}
use Rattle.versioned_store.specs.Tables.{is_own}
use Rattle.versioned_store.proofs.Kept.{push_nth}
use Rattle.versioned_store.proofs.Telling.{nth_get}
use Rattle.versioned_store.proofs.selects.add_kept.Goals as goal

pub bounds-sources-position : goal.bounds-sources-position
bounds-sources-position c = omega (arith, c.loop-entry.invariant.place, c.loop-entry-test.true, c.requires.count)

pub loop-entry-init : goal.loop-entry-init
loop-entry-init c =
    let none = c.requires.empty in
    record {
      place = refl;
      count = ap (λ (xs : List (Option Datum)). length xs) none;
      own = λ p o at e there. absurd (none_is_not (ap (λ (xs : List (Option Datum)). nth xs p) (sym none) ∙ at));
      answers = λ p o at e there. absurd (none_is_not (ap (λ (xs : List (Option Datum)). nth xs p) (sym none) ∙ at));
    }

pub kept_answer-requires-clause-fits : goal.kept_answer-requires-clause-fits
kept_answer-requires-clause-fits c =
    let e = c.entry-item.result in
    c.requires.fits c.loop-entry.entry-index e (nth_get c.args.entries.now c.loop-entry.entry-index e e c.loop-entry-test.true c.entry-item.is)

pub kept_answer-requires-clause-stands : goal.kept_answer-requires-clause-stands
kept_answer-requires-clause-stands c = c.requires.stands c.loop-entry.position

pub loop-entry-preserved : goal.loop-entry-preserved
loop-entry-preserved c =
    let entries = c.args.entries.now in
    let sources = c.args.sources.now in
    let i = c.loop-entry.entry-index in
    let v = c.loop-entry.invariant in
    let e = c.entry-item.result in
    let o = c.in_ok-kept_answer.field-0 in
    let more = c.in_ok-push.ensures.items in
    let at : nth entries i ≡ Some e = nth_get entries i e e c.loop-entry-test.true c.entry-item.is in
    let old = c.loop-entry.kept.items in
    let new = c.push.new.self.items in
    let own : is_some o ≡ is_own e (slice_index_or sources i 0) i =
    subst (λ n. is_some o ≡ is_own e (slice_index_or sources n 0) n) v.place c.in_ok-kept_answer.ensures.own in
    let answer : IfSome o (IsAnswerThen e.act i c.args.tables.now) = subst (λ n. IfSome o (IsAnswerThen e.act n c.args.tables.now)) v.place c.in_ok-kept_answer.ensures.answer in
    record {
      place = c.in_ok-position.ensures ∙ ap (λ n. n + 1) v.place;
      count = ap (λ (xs : List (Option Datum)). length xs) more ∙ length-append old (o ∷ []) ∙ ap (λ n. n + 1) v.count;
      own = push_nth (λ p o. (x : LogEntry) → nth entries p ≡ Some x → is_some o ≡ is_own x (slice_index_or sources p 0) p) old new i o v.count more v.own
          (λ x at_x. own ∙ ap (λ (y : LogEntry). is_own y (slice_index_or sources i 0) i) (some_is (sym at ∙ at_x)));
      answers = push_nth (λ p o. (x : LogEntry) → nth entries p ≡ Some x → IfSome o (IsAnswerThen x.act p c.args.tables.now)) old new i o v.count more v.answers
          (λ x at_x. subst (λ (y : LogEntry). IfSome o (IsAnswerThen y.act i c.args.tables.now)) (some_is (sym at ∙ at_x)) answer);
    }

pub returns : goal.returns
returns c = record {
  count = let ends = c.loop-entry.auto.entry-index-end in omega (arith, c.loop-entry.invariant.count, c.loop-entry-test.false, ends);
  own = λ p e o at there. c.loop-entry.invariant.own p o there e at;
  answers = λ p e o at there. c.loop-entry.invariant.answers p o there e at;
}
