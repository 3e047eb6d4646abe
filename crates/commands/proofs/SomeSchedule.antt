-- The schedule of an accepted report, which was read with its trace, can be spelled.
use Rattle.std.proofs.Common.{◌≡◌, ◌∙◌, ℕ, zero, suc, ◌<◌, ◌^◌, Bool, true, false, ◌&&◌, cond, List, [], ◌∷◌, ◌++◌, map, Option, Some, None, refl, ap, sym, subst, nat_eq}
use Rattle.std.specs.Prelude.{nat_le}
use Rattle.basis.specs.Lists.{nth}
use Rattle.basis.proofs.Options.{none_is_not, some_is}
use Rattle.basis.proofs.Places.{In, first_some}
use Rattle.script_tree.specs.Objects.{Objects}
use Rattle.script_tree.specs.Programs.{Program}
use Rattle.script_tree.specs.Requests.{Request}
use Rattle.period.specs.declared.report.Log.{Log}
use Rattle.period.specs.declared.report.LogEntry.{LogEntry}
use Rattle.period.specs.declared.report.Report.{Report}
use Rattle.period.specs.declared.schedule.Moment.{Moment}
use Rattle.period.specs.declared.trace.TraceEvent.{TraceEvent}
use Rattle.period.specs.declared.trace.TraceEvent.TheVariants.{Asked}
use Rattle.wire.specs.Files.{Format, MayFollow, Spells}
use Rattle.wire.specs.Spellings.{Field, IsWideChoice}
use Rattle.trace_format.specs.Events.{trace_format}
use Rattle.report_format.specs.Parts.{AllAllowed}
use Rattle.report_format.specs.Reports.{entry_field, log_field, report_format, records_of}
use Rattle.report_format.proofs.ReadAgain.{may_be_spelled}
use Rattle.schedule_format.specs.Moments.{AreMoments, IsMoment, schedule_format}
use Rattle.schedule_format.proofs.Following.{follow}
use Rattle.audit_meaning.specs.Edges.{edges}
use Rattle.audit_meaning.specs.Lists.{befores_from}
use Rattle.audit_meaning.specs.Nodes.{choice_at, moment, node_at, nodes, nodes_in}
use Rattle.audit_meaning.specs.declared.node.Node.{Node}
use Rattle.audit_meaning.specs.declared.node.Node.TheVariants.{Number as step, End as close}
use Rattle.audit_meaning.specs.Orders.{order_of}
use Rattle.audit_meaning.specs.Spots.{Spot, count_of, if_named, spot_of, spots, spots_in}
use Rattle.audit_meaning.specs.Verdicts.{verdict}
use Rattle.audit_meaning.specs.declared.verdict.Verdict.TheVariants.{Accepted}
use Rattle.audit_meaning.proofs.GraphOrder.{node_in_event}
use Rattle.audit_meaning.proofs.Orders.{ordered_is}
use Rattle.audit_meaning.proofs.Places.{in_flat_back}
use Rattle.audit_meaning.proofs.Words.{nth_map}
use Rattle.audit_completeness.proofs.Fitting.{accepted_parts}

-- each record of a file is one that may stand behind some others
allowed_at : {A : Type 0} (format : Format A) (before xs : List A) (i : ℕ) (x : A) → MayFollow format before xs
    → nth xs i ≡ Some x → (behind : List A) × format.allows behind x
allowed_at format before [] i x may at = absurd (none_is_not at)
allowed_at format before (y ∷ ys) zero x may at = (before, subst (format.allows before) (some_is at) may.0.0)
allowed_at format before (y ∷ ys) (suc i) x may at = allowed_at format (before ++ y ∷ []) ys i x may.1 at

-- each of them may stand
member_allowed : {A : Type 0} (field : Field A) (xs : List A) (i : ℕ) (x : A) → AllAllowed field xs → nth xs i ≡ Some x → field.allows x
member_allowed field [] i x all at = absurd (none_is_not at)
member_allowed field (y ∷ ys) zero x all at = subst field.allows (some_is at) all.0
member_allowed field (y ∷ ys) (suc i) x all at = member_allowed field ys i x all.1 at

entry_allowed : (past es : List LogEntry) (i : ℕ) (b : List LogEntry × LogEntry) → AllAllowed entry_field es
    → nth (befores_from past es) i ≡ Some b → entry_field.allows b.1
entry_allowed past [] i b all at = absurd (none_is_not at)
entry_allowed past (e ∷ es) zero b all at = subst (λ (z : List LogEntry × LogEntry). entry_field.allows z.1) (some_is at) all.0
entry_allowed past (e ∷ es) (suc i) b all at = entry_allowed (past ++ e ∷ []) es i b all.1 at

module _ (T : List TraceEvent) (R : Report) (trace_bytes report_bytes : List ℕ)
    (trace : Spells trace_format trace_bytes T) (report : Spells report_format report_bytes (records_of R)) where
  narrow : (r i : ℕ) (q : Request) → nth T i ≡ Some (Asked r q) → r < 2 ^ 32
  narrow r i q at = let may = allowed_at trace_format [] T i (Asked r q) trace.allowed at in may.1.0

  wide : (s : Spot) → In (spots R.logs) s → IsWideChoice s.entry.choice
  wide s m =
      let from = in_flat_back spots_in R.logs s m.0 m.1 in
      let log = member_allowed log_field R.logs from.1.0 from.0 (may_be_spelled R report_bytes report).logs from.1.1 in
      let b = nth_map _ _ from.2.0 s from.2.1 in
      let entry = entry_allowed [] from.0.entries from.2.0 b.0 log.1.1 b.1 in
      subst (λ (z : Spot). IsWideChoice z.entry.choice) b.2 entry.1.1.1

  named : (r k : ℕ) (x s : Spot) (b : Bool) → (nat_eq r x.entry.rid && nat_eq k x.entry.number) ≡ b → if_named r k x ≡ Some s → x ≡ s
  named r k x s true is found = some_is (sym (ap (λ b. cond b (Some x) None) is) ∙ found)
  named r k x s false is found = absurd (none_is_not (sym (ap (λ b. cond b (Some x) None) is) ∙ found))

  wide_choice : (r k : ℕ) (o : Option Spot) → spot_of R r k ≡ o → IsWideChoice (choice_at o)
  unfolding spot_of
  wide_choice r k None is = tt
  wide_choice r k (Some s) is =
      let x = first_some (if_named r k) (spots R.logs) s is in
      subst (λ (z : Spot). IsWideChoice z.entry.choice) (named r k x.0 s _ refl x.2) (wide x.0 x.1)

  node_fits : (r i : ℕ) → r < 2 ^ 32 → (b : Bool) → IsMoment (moment R (cond b (step r i) (close r)))
  node_fits r zero low true = low
  node_fits r (suc k) low true = (low, wide_choice r (suc k) (spot_of R r (suc k)) refl)
  node_fits r i low false = low

  moment_fits : (x : Node) → In (nodes T R) x → IsMoment (moment R x)
  unfolding nodes
  moment_fits x m =
      let from = in_flat_back (nodes_in R) T x m.0 m.1 in
      let n = node_in_event R from.0 x from.2 in
      let low = narrow n.0 from.1.0 n.1 (from.1.1 ∙ ap (λ e. Some e) n.2) in
      subst (λ y. IsMoment (moment R y)) n.5 (node_fits n.0 n.3 low (nat_le n.3 (count_of R n.0)))

  moments_fit : (xs : List Node) → ((x : Node) → In xs x → In (nodes T R) x) → AreMoments (map (moment R) xs)
  moments_fit [] only = tt
  moments_fit (x ∷ xs) only =
      (moment_fits x (only x (0, refl)), moments_fit xs (λ z m. only z (suc m.0, m.1)))

  -- so its file's bytes spell it
  pub spelled_schedule : (program : Program) (start : Objects) (schedule : List Moment) (evaluated steps : ℕ)
      → verdict program start T R ≡ Accepted schedule evaluated steps → MayFollow schedule_format [] schedule
  unfolding verdict order_of
  spelled_schedule program start schedule evaluated steps accepted =
      let parts = accepted_parts _ _ _ _ R _ _ schedule evaluated steps accepted in
      let order = ordered_is (edges T R) _ (nodes T R) parts.0 refl parts.2 in
      subst (MayFollow schedule_format []) parts.4
      (follow [] (map (moment R) parts.0) (moments_fit parts.0 (λ x m. order.only x m.0 m.1)))
