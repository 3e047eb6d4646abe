-- An accepted report's schedule explains the trace.
use Rattle.std.proofs.Common.{◌≡◌, ℕ, true, List, [], length, take, map, Some, None, Option, refl, sym, ap, subst, ◌∙◌, nat_eq}
use Rattle.std.specs.List.{list_any}
use Rattle.std.proofs.lemmas.Bool.{eqb-true, not-false}
use Rattle.basis.proofs.Places.{any_true}
use Rattle.script_tree.specs.Programs.{Program}
use Rattle.audit_meaning.specs.Lists.{befores}
use Rattle.script_tree.specs.Requests.{Request}
use Rattle.period.specs.declared.trace.TraceEvent.{TraceEvent}
use Rattle.period.specs.declared.trace.TraceEvent.TheVariants.{Asked}
use Rattle.period.specs.declared.report.Report.{Report}
use Rattle.period.specs.declared.schedule.Moment.{Moment}
use Rattle.script_tree.specs.Objects.{Objects}
use Rattle.period.specs.Traces.{request_of}
use Rattle.script_meaning.specs.Explains.{Explains}
use Rattle.audit_meaning.specs.Nodes.{Node, moment}
use Rattle.audit_meaning.specs.Groups.{group_fault, unsound_group}
use Rattle.audit_meaning.specs.declared.reason.Reason.{Reason}
use Rattle.audit_meaning.specs.GroupFaults.{member_of_no_request, second_member, request_without_group, if_without_group, grouping_fault, members}
use Rattle.audit_meaning.specs.Verdicts.{Verdict, Accepted, Rejected, judged, verdict}
use Rattle.audit_meaning.specs.Soundness.{AcceptedExplains}
use Rattle.audit_meaning.proofs.Places.{in_flat_back, first_none, or_none, answer_none, befores_at}
use Rattle.audit_meaning.proofs.Checks.{Checked, checked}
use Rattle.audit_meaning.proofs.Logs.{spot_here, spot_stands, one_spot, found}
use Rattle.audit_meaning.proofs.GraphOrder.{request_there, is_order}
use Rattle.audit_meaning.proofs.Members.{sound_member}
use Rattle.audit_meaning.proofs.Induction.{IsSoundMember, Facts, explains}

abbrev IsAccepted : Verdict → Type 0
IsAccepted (Accepted S v n) = Unit {0}
IsAccepted (Rejected r) = ⊥

abbrev schedule_of : Verdict → List Moment
schedule_of (Accepted S v n) = S
schedule_of (Rejected r) = []

accepted_parts : (a : Option Reason) (C : List Node) (n : Option (List Node)) (l : Option Reason) (R : Report)
    (evaluated steps : ℕ) (S : List Moment) (v k : ℕ) → judged a C n l R evaluated steps ≡ Accepted S v k
    → (N : List Node) × (a ≡ None) × (n ≡ Some N) × (l ≡ None) × (map (moment R) N ≡ S)
accepted_parts (Some r) C n l R evaluated steps S v k e = absurd (subst IsAccepted (sym e) tt)
accepted_parts None C None l R evaluated steps S v k e = absurd (subst IsAccepted (sym e) tt)
accepted_parts None C (Some N) (Some r) R evaluated steps S v k e = absurd (subst IsAccepted (sym e) tt)
accepted_parts None C (Some N) None R evaluated steps S v k e = (N, refl, refl, refl, ap schedule_of e)

module _ (P : Program) (O : Objects) (T : List TraceEvent) (R : Report) where
  all_members : grouping_fault T R ≡ None → unsound_group P O T R ≡ None → (r : ℕ) (q : Request) → request_of T r ≡ Some q → IsSoundMember P O T R r q
  unfolding grouping_fault request_without_group members unsound_group
  all_members h k r q asked_q =
      let h14 = or_none (member_of_no_request T R) _ h in
      let h15 = or_none (second_member R) (request_without_group T R) h14.1 in
      let there = request_there T r q asked_q in
      let grouped : list_any (nat_eq r) (members R) ≡ true = not-false _ (answer_none _ _ (first_none (if_without_group R) T there.0 (Asked r q) h15.1 there.1)) in
      let m = any_true (nat_eq r) (members R) grouped in
      let from = in_flat_back (λ (g : List ℕ). g) R.groups m.0 m.1.0 m.1.1 in
      let g = from.0 in
      let none : group_fault P O T R (length (take from.1.0 R.groups)) g ≡ None =
      first_none (λ b. group_fault P O T R (length b.0) b.1) (befores R.groups) from.1.0 (take from.1.0 R.groups, g) k
      (befores_at R.groups from.1.0 g from.1.1) in
      sound_member P O T R (length (take from.1.0 R.groups)) g r from.2.0 q none (from.2.1 ∙ ap (λ x. Some x) (sym (eqb-true r m.0 m.2))) asked_q

  all_facts : Checked P O T R → ((r : ℕ) (q : Request) → request_of T r ≡ Some q → IsSoundMember P O T R r q) → Facts P O T R
  all_facts c sound = record {
    in_range = λ o i e h. let m = spot_here R o i e h in let p = c.passes m.0 _ m.1 in (p.in_trace.0, p.in_trace.1, p.positive, p.counted);
    one_log = λ o p i k e f h g same. let m = spot_here R o i e h in let n = spot_here R p k f g in ap (λ s. s.object) (one_spot P O T R c m.0 n.0 _ _ m.1 n.1 same);
    names = λ r k s h. (found P O T R c r k s h).1;
    stands = λ r k s h. let m = (found P O T R c r k s h).0 in (spot_stands P O T R c m.0 s m.1).0;
    stands_after = λ r k s h. let m = (found P O T R c r k s h).0 in (spot_stands P O T R c m.0 s m.1).1;
    fits = λ o i e h. let m = spot_here R o i e h in (c.passes m.0 _ m.1).fits;
    members = sound;
  }

pub soundness : AcceptedExplains
unfolding verdict
soundness P O T R S v n balanced h =
    let parts = accepted_parts _ _ _ _ R _ _ S v n h in
    let later = or_none (grouping_fault T R) (unsound_group P O T R) parts.3 in
    let c = checked P O T R parts.1 in
    subst (Explains P O T) parts.4
    (explains P O T R parts.0 (all_facts P O T R c (all_members P O T R later.0 later.1)) (is_order P O T R parts.0 balanced c parts.2))
