-- Entries of operations.
use Rattle.std.proofs.Common.{◌≡◌, ◌∙◌, ◌<◌, ◌&&◌, ℕ, suc, true, false, List, [], ◌∷◌, zero, length, take, get_or, map, Some, None, unwrap_or, refl, ap, sym, subst}
use Rattle.std.proofs.lemmas.Map.Text.{is_eq-slice_cmp}
use Rattle.basis.specs.Lists.{nth}
use Rattle.basis.proofs.Options.{some_is, none_is_not}
use Rattle.basis.proofs.Places.{nth_within}
use Rattle.script_tree.specs.Alike.{same_act}
use Rattle.script_tree.specs.Datum.{Datum}
use Rattle.script_tree.specs.Objects.{is_same}
use Rattle.script_tree.specs.contracts.operation.ObjectPartialEq.TheImpl as object_eq
use Rattle.script_tree.specs.declared.operation.Object.{Object}
use Rattle.script_tree.specs.declared.operation.Object.TheVariants.{Register, Store, Tables, Clock, Dice}
use Rattle.script_tree.specs.declared.operation.Op.{Op}
use Rattle.period.specs.declared.report.Log.{Log}
use Rattle.period.specs.declared.report.LogEntry.{LogEntry}
use Rattle.period.specs.declared.report.Report.{Report}
use Rattle.script_meaning.specs.Conduct.{Wants}
use Rattle.object_set.specs.ObjectSets.{HeldObjects, objects_of}
use Rattle.versioned_store.specs.Entries.{HasEntry, IsAnswerIn}
use Rattle.versioned_store.specs.Logged.{logged}
use Rattle.audit_meaning.specs.Members.{answer_at, is_entry_of}
use Rattle.audit_meaning.specs.Spots.{Spot, spot_of, count_of}
use Rattle.log_checker.specs.OpMaps.{IsMapOf, IsSpotAt, Points, count_in, place_in}
use Rattle.log_checker.specs.declared.op_map.OpMap.{OpMap}
use Rattle.log_checker.proofs.Firsts.{answers, silent, some_at}
use Rattle.group_runner.specs.Told.{Told, answer_to}

-- the test of the code is the definition's
pub same_objects : (a b : Object) → (object_eq.ghosts).eq a b ≡ is_same a b
same_objects (Register a) (Register b) = is_eq-slice_cmp a b
same_objects (Store a) (Store b) = is_eq-slice_cmp a b
same_objects Tables Tables = refl
same_objects Clock Clock = refl
same_objects Dice Dice = refl
same_objects a b = refl

pub count_is : (report : Report) (map : OpMap) (r : ℕ) → IsMapOf report map → count_in map r ≡ count_of report r
unfolding count_of
count_is report map r h = ap (λ o. unwrap_or o 0) (h.counts r)

-- what was read at a place of a list
pub read_at : {A : Type 0} (xs ys : List A) (i : ℕ) (x : A) → xs ≡ ys → i < length ys → x ≡ get_or xs i x → nth ys i ≡ Some x
read_at xs ys i x same lt is = some_at ys i x lt (is ∙ ap (λ zs. get_or zs i x) same)

pub within : {A : Type 0} (xs ys : List A) (i : ℕ) (x : A) → xs ≡ ys → nth ys i ≡ Some x → i < length xs
within xs ys i x same at = subst (λ zs. i < length zs) (sym same) (nth_within ys i x at)

-- ---- the entry of an operation

pub points_to : (report : Report) (map : OpMap) (r k : ℕ) (place : ℕ × ℕ) → IsMapOf report map
    → place_in map r k ≡ Some place → Points report.logs (Some place) (spot_of report r k)
points_to report map r k place h is = subst (λ p. Points report.logs p (spot_of report r k)) is (h.places r k)

pub points_nowhere : (report : Report) (map : OpMap) (r k : ℕ) → IsMapOf report map → place_in map r k ≡ None → spot_of report r k ≡ None
points_nowhere report map r k h is = subst (λ p. Points report.logs p (spot_of report r k)) is (h.places r k)

-- the entry that was read where the map points
pub entry_read : (logs : List Log) (place : ℕ × ℕ) (log : Log) (s : Spot) → nth logs place.0 ≡ Some log
    → IsSpotAt logs place s → (entry : LogEntry) × (nth log.entries place.1 ≡ Some entry)
entry_read logs place log s stands at = (at.entry, ap (λ l. nth l.entries place.1) (some_is (sym stands ∙ at.stands)) ∙ at.holds)

-- there is none
pub no_entry : (t : Told) (r k : ℕ) (op : Op) → spot_of t.report r k ≡ None → answer_to t r k (Wants op) ≡ None
no_entry t r k op none = silent (is_entry_of op (spot_of t.report r k)) (answer_at (objects_of t.start) (spot_of t.report r k)) (ap (is_entry_of op) none)

module _ (t : Told) (r k : ℕ) (op : Op) (place : ℕ × ℕ) (log : Log) (entry : LogEntry) (s : Spot)
    (found : spot_of t.report r k ≡ Some s) (at : IsSpotAt t.report.logs place s)
    (stands : nth t.report.logs place.0 ≡ Some log) (holds : nth log.entries place.1 ≡ Some entry) where
  spot_is : s ≡ record { object = log.object; past = take place.1 log.entries; entry = entry }
  spot_is =
      let same : at.log ≡ log = some_is (sym at.stands ∙ stands) in
      let same' : at.entry ≡ entry = some_is (sym at.holds ∙ ap (λ l. nth l.entries place.1) same ∙ holds) in
      at.is ∙ (λ i. record { object = (same i).object; past = take place.1 (same i).entries; entry = same' i })

  entry_tells : is_entry_of op (spot_of t.report r k) ≡ (is_same log.object op.object && same_act entry.act op.act)
  entry_tells = ap (is_entry_of op) (found ∙ ap (λ x. Some x) spot_is)

  -- it is another operation's
  pub other_entry : (is_same log.object op.object && same_act entry.act op.act) ≡ false → answer_to t r k (Wants op) ≡ None
  other_entry isnt = silent (is_entry_of op (spot_of t.report r k)) (answer_at (objects_of t.start) (spot_of t.report r k)) (entry_tells ∙ isnt)

  -- it is this one's
  pub own_entry : (is_same log.object op.object && same_act entry.act op.act) ≡ true → (d : Datum)
      → IsAnswerIn (map (logged t.start) t.report.logs) place.0 place.1 d
      → nth (map (logged t.start) t.report.logs) place.0 ≡ Some (logged t.start log)
      → Some d ≡ answer_to t r k (Wants op)
  own_entry does d is logged_at =
      ap (λ x. Some x) (is (logged t.start log) logged_at entry holds ∙ ap (answer_at (objects_of t.start)) (sym (found ∙ ap (λ x. Some x) spot_is)))
      ∙ sym (answers (is_entry_of op (spot_of t.report r k)) (answer_at (objects_of t.start) (spot_of t.report r k)) (entry_tells ∙ does))

-- the store has it
pub logged_there : (start : HeldObjects) (logs : List Log) (l : ℕ) (log : Log) → nth logs l ≡ Some log
    → nth (map (logged start) logs) l ≡ Some (logged start log)
logged_there start [] l log at = absurd (none_is_not at)
logged_there start (x ∷ logs) zero log at = ap (λ y. Some (logged start y)) (some_is at)
logged_there start (x ∷ logs) (suc l) log at = logged_there start logs l log at

pub has_entry : (start : HeldObjects) (logs : List Log) (l p : ℕ) (log : Log) (entry : LogEntry)
    → nth logs l ≡ Some log → nth log.entries p ≡ Some entry → HasEntry (map (logged start) logs) l p
has_entry start logs l p log entry stands holds = record { object = logged start log; log_is = logged_there start logs l log stands; within = nth_within log.entries p entry holds }
