-- Members of groups, one after another.
use Rattle.std.proofs.Common.{◌≡◌, ◌∙◌, ◌+◌, ◌++◌, ℕ, List, [], ◌∷◌, length, take, flat_map, Option, Some, None, Bool, true, false, ◌||◌, not, cond, is_none, nat_eq, refl, ap, sym, arith}
use Rattle.std.specs.BTreeSet.{BTreeSet, Updates, IsEmpty, contains}
use Rattle.std.specs.BTreeMap.{is_at}
use Rattle.std.specs.List.{list_any}
use Rattle.std.specs.Ordering.{nat_cmp, is_eq}
use Rattle.std.proofs.lemmas.Bool.{not-false}
use Rattle.std.proofs.lemmas.Grind.{flat_map-append}
use Rattle.std.proofs.lemmas.List.{append-nil}
use Rattle.basis.specs.Lists.{nth, or_else}
use Rattle.script_tree.specs.Requests.{Request}
use Rattle.period.specs.Traces.{request_of}
use Rattle.period.specs.declared.trace.TraceEvent.{TraceEvent}
use Rattle.period.specs.declared.trace.TraceEvent.TheVariants.{Asked}
use Rattle.period.specs.declared.report.Report.{Report}
use Rattle.audit_meaning.specs.GroupFaults.{members, member_of_no_request, second_member, if_without_group, request_without_group, grouping_fault}
use Rattle.audit_meaning.specs.Lists.{answer_if, befores}
use Rattle.audit_meaning.specs.declared.reason.Reason.{Reason}
use Rattle.audit_meaning.specs.declared.reason.Reason.TheVariants.{MemberOfNoRequest, SecondMember, RequestWithoutGroup}
use Rattle.audit_meaning.proofs.Places.{befores_at}
use Rattle.log_checker.specs.Grouping.{AreMembers}
use Rattle.log_checker.proofs.CountFacts.{befores_count}
use Rattle.log_checker.proofs.EntryFacts.{next_take}
use Rattle.log_checker.proofs.Firsts.{NoneBelow, found, none_all, none_more, answers, silent, any_more}
use Rattle.log_checker.proofs.Tables.{all_taken, is_at_eq}
use Rattle.log_checker.proofs.Tests.{eq_sym, not_true, or_flip}

-- ---- all members

pub members_more : (groups : List (List ℕ)) (i : ℕ) (group rids : List ℕ) → nth groups i ≡ Some group → rids ≡ flat_map (λ (g : List ℕ). g) (take i groups)
    → rids ++ group ≡ flat_map (λ (g : List ℕ). g) (take (i + 1) groups)
members_more groups i group rids at is =
    ap (λ xs. xs ++ group) is
    ∙ sym (ap (flat_map (λ (g : List ℕ). g)) (next_take groups i group at) ∙ flat_map-append (λ (g : List ℕ). g) (take i groups) (group ∷ [])
    ∙ ap (λ xs. flat_map (λ (g : List ℕ). g) (take i groups) ++ xs) (append-nil group))

pub members_all : (report : Report) (i : ℕ) (rids : List ℕ) → i ≡ length report.groups → rids ≡ flat_map (λ (g : List ℕ). g) (take i report.groups)
    → rids ≡ members report
unfolding members
members_all report i rids e is = is ∙ ap (flat_map (λ (g : List ℕ). g)) (all_taken report.groups i e)

-- ---- each is a request

-- of a member that isn't in the trace, its reason
abbrev pub if_no_request : List TraceEvent → ℕ → Option Reason
if_no_request trace r = answer_if (is_none (request_of trace r)) (MemberOfNoRequest r)

pub none_is : (trace : List TraceEvent) (report : Report) (i r : ℕ) (b : Bool) → NoneBelow (if_no_request trace) (members report) i
    → nth (members report) i ≡ Some r
    → b ≡ is_none (request_of trace r) → b ≡ true → member_of_no_request trace report ≡ Some (MemberOfNoRequest r)
unfolding member_of_no_request
none_is trace report i r b none at told t = found (if_no_request trace) (members report) i r (MemberOfNoRequest r) none at (answers _ _ (sym told ∙ t))

pub none_next : (trace : List TraceEvent) (rids : List ℕ) (i r : ℕ) (b : Bool) → NoneBelow (if_no_request trace) rids i → nth rids i ≡ Some r
    → b ≡ is_none (request_of trace r) → b ≡ false → NoneBelow (if_no_request trace) rids (i + 1)
none_next trace rids i r b none at told t = none_more (if_no_request trace) rids i r none at (silent _ _ (sym told ∙ t))

pub none_end : (trace : List TraceEvent) (report : Report) (n : ℕ) → n ≡ length (members report) → NoneBelow (if_no_request trace) (members report) n
    → member_of_no_request trace report ≡ None
unfolding member_of_no_request
none_end trace report n e none = none_all (if_no_request trace) (members report) (λ k x lt at. none k x (omega arith) at)

-- ---- each stands once

put_in : (b c : Bool) → cond b true c ≡ (b || c)
put_in true c = refl
put_in false c = refl

pub members_next : (rids : List ℕ) (i r : ℕ) (old new : BTreeSet ℕ) → nth rids i ≡ Some r → AreMembers (take i rids) old → Updates nat_cmp old new r true
    → AreMembers (take (i + 1) rids) new
members_next rids i r old new at of u q =
    u.0 q
    ∙ put_in (is_eq (nat_cmp r q)) (contains nat_cmp old q)
    ∙ ap (λ b. b || contains nat_cmp old q) (is_at_eq r q ∙ eq_sym r q)
    ∙ ap (λ b. nat_eq q r || b) (of q)
    ∙ or_flip (nat_eq q r) (list_any (nat_eq q) (take i rids))
    ∙ sym (any_more (nat_eq q) (take i rids) r)
    ∙ ap (list_any (nat_eq q)) (sym (next_take rids i r at))

-- of a member that stood earlier, its reason
abbrev pub if_earlier : List ℕ × ℕ → Option Reason
if_earlier b = answer_if (list_any (nat_eq b.1) b.0) (SecondMember b.1)

pub earlier_is : (report : Report) (i r : ℕ) (seen : BTreeSet ℕ) (b : Bool) → NoneBelow if_earlier (befores (members report)) i
    → nth (members report) i ≡ Some r
    → AreMembers (take i (members report)) seen → b ≡ not (contains nat_cmp seen r) → b ≡ false → second_member report ≡ Some (SecondMember r)
unfolding second_member
earlier_is report i r seen b none at of is t =
    found if_earlier (befores (members report)) i (take i (members report), r) (SecondMember r) none (befores_at (members report) i r at)
    (answers _ _ (sym (of r) ∙ not-false _ (sym is ∙ t)))

pub earlier_next : (rids : List ℕ) (i r : ℕ) (seen : BTreeSet ℕ) (b : Bool) → NoneBelow if_earlier (befores rids) i → nth rids i ≡ Some r
    → AreMembers (take i rids) seen → b ≡ not (contains nat_cmp seen r) → b ≡ true → NoneBelow if_earlier (befores rids) (i + 1)
earlier_next rids i r seen b none at of is t =
    none_more if_earlier (befores rids) i (take i rids, r) none (befores_at rids i r at) (silent _ _ (sym (of r) ∙ not_true _ (sym is ∙ t)))

pub earlier_end : (report : Report) (n : ℕ) (seen : BTreeSet ℕ) → n ≡ length (members report) → NoneBelow if_earlier (befores (members report)) n
    → AreMembers (take n (members report)) seen → (second_member report ≡ None) × AreMembers (members report) seen
unfolding second_member
earlier_end report n seen e none of = (
  none_all if_earlier (befores (members report)) (λ k x lt at. none k x (omega (arith, befores_count (members report))) at),
  λ r. of r ∙ ap (list_any (nat_eq r)) (all_taken (members report) n e),
)

pub empty_set : (s : BTreeSet ℕ) → IsEmpty s → AreMembers [] s
empty_set s e r = ap (list_any (is_at (nat_cmp r))) e

-- ---- each request is one

pub outside_is : (trace : List TraceEvent) (report : Report) (i r : ℕ) (q : Request) (b : Bool) → NoneBelow (if_without_group report) trace i
    → nth trace i ≡ Some (Asked r q)
    → b ≡ list_any (nat_eq r) (members report) → b ≡ false → request_without_group trace report ≡ Some (RequestWithoutGroup r)
unfolding request_without_group
outside_is trace report i r q b none at told t =
    found (if_without_group report) trace i (Asked r q) (RequestWithoutGroup r) none at (answers _ _ (ap not (sym told ∙ t)))

pub outside_next : (trace : List TraceEvent) (report : Report) (i r : ℕ) (q : Request) (b : Bool) → NoneBelow (if_without_group report) trace i
    → nth trace i ≡ Some (Asked r q)
    → b ≡ list_any (nat_eq r) (members report) → b ≡ true → NoneBelow (if_without_group report) trace (i + 1)
outside_next trace report i r q b none at told t = none_more (if_without_group report) trace i (Asked r q) none at (silent _ _ (ap not (sym told ∙ t)))

pub outside_end : (trace : List TraceEvent) (report : Report) (n : ℕ) → n ≡ length trace → NoneBelow (if_without_group report) trace n
    → request_without_group trace report ≡ None
unfolding request_without_group
outside_end trace report n e none = none_all (if_without_group report) trace (λ k x lt at. none k x (omega arith) at)

-- ---- the whole

-- the faults of a grouping, in their order
pub group_order : (trace : List TraceEvent) (report : Report) (o : Option Reason)
    → or_else (member_of_no_request trace report) (or_else (second_member report) (request_without_group trace report)) ≡ o → grouping_fault trace report ≡ o
unfolding grouping_fault
group_order trace report o h = h
