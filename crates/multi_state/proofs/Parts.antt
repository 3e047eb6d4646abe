-- One part of a run after another, done by all members.
use Rattle.std.proofs.Common.{◌≡◌, ◌<◌, ℕ, Ok, Err, Result, ap, ◌∙◌}
use Rattle.script_tree.specs.declared.fault.ScriptFault.{ScriptFault}
use Rattle.script_meaning.specs.Run.{Progress, Ran, stops, Run}
use Rattle.script_meaning.specs.declared.run.Stop.TheVariants.{Fault as fault}
use Rattle.multivalue.specs.declared.apart.Apart.{Apart}
use Rattle.multivalue.specs.declared.apart.Apart.TheVariants.{Memory, Fault, Differ}
use Rattle.multi_state.specs.AllDo.{Gives, Comes, AllDo, AllGo}
use Rattle.multi_state.specs.Progress.{Charges, Unseen, progress_at}
use Rattle.multi_state.specs.declared.account.Account.{Account}

-- what holds of each member has a consequence
pub comes_to : (n before after' : ℕ) (P Q : Charges → Charges → ℕ → Unseen → Type 0)
    → ((cs ds : Charges) (i : ℕ) → i < n → (u : Unseen) → P cs ds i u → Q cs ds i u) → Comes n before after' P
    → Comes n before after' Q
comes_to n before after' P Q f h cs = let r = h cs in (r.0, r.1, λ i lt u. f cs r.0 i lt u (r.2 i lt u))

-- the same, of what was returned
pub do_to : {X : Type 0} (n before after' : ℕ) (result : Result X Apart)
    (P Q : Charges → Charges → ℕ → Unseen → Type 0) (D E : Type 0)
    → ((cs ds : Charges) (i : ℕ) → i < n → (u : Unseen) → P cs ds i u → Q cs ds i u) → (D → E)
    → AllDo n before after' result P D → AllDo n before after' result Q E
do_to n before after' (Ok x) P Q D E f parts h = comes_to n before after' P Q f h
do_to n before after' (Err Memory) P Q D E f parts h = tt
do_to n before after' (Err (Fault k)) P Q D E f parts h = comes_to n before after' P Q f h
do_to n before after' (Err Differ) P Q D E f parts h = parts h

-- the rest of a run, which a fault doesn't reach
abbrev pub PassesFaults : {A B : Type 0} → (Ran A → Ran B) → Type 0
PassesFaults F = (f : ScriptFault) (p : Progress) → F (stops (fault f) p) ≡ stops (fault f) p

module _ {X Y A B : Type 0} (n before after' : ℕ) (part : ℕ → Run A) (F : ℕ → Ran A → Ran B) (seen : ℕ → X → Run A) (then' : ℕ → Y → Run B)
    (D E : Type 0) (parts : D → E) where
  -- where all halt in the first part
  pub halted : (e : Apart) (old new : Account) → ((i : ℕ) → PassesFaults (F i))
      → AllDo {X = X} n before after' (Err e) (λ cs ds i u. Gives (seen i) (Err e) (progress_at new ds i u) (part i (progress_at old cs i u))) D
      → AllDo {X = Y} n before after' (Err e) (λ cs ds i u. Gives (then' i) (Err e) (progress_at new ds i u) (F i (part i (progress_at old cs i u)))) E
  halted Memory old new passes h = tt
  halted (Fault f) old new passes h = λ cs. let r = h cs in (r.0, r.1, λ i lt u. ap (F i) (r.2 i lt u) ∙ passes i f (progress_at new r.0 i u))
  halted Differ old new passes h = parts h

  -- a second part, which spends nothing
  pub and_then : (x : X) (old mid new : Account) (result : Result Y Apart)
      → Comes n before after' (λ cs ds i u. part i (progress_at old cs i u) ≡ seen i x (progress_at mid ds i u))
      → AllGo n result (λ cs i u. Gives (then' i) result (progress_at new cs i u) (F i (seen i x (progress_at mid cs i u)))) D
      → AllDo n before after' result (λ cs ds i u. Gives (then' i) result (progress_at new ds i u) (F i (part i (progress_at old cs i u)))) E
  and_then x old mid new (Ok y) h g = λ cs. let r = h cs in (r.0, r.1, λ i lt u. ap (F i) (r.2 i lt u) ∙ g r.0 i lt u)
  and_then x old mid new (Err Memory) h g = tt
  and_then x old mid new (Err (Fault f)) h g = λ cs. let r = h cs in (r.0, r.1, λ i lt u. ap (F i) (r.2 i lt u) ∙ g r.0 i lt u)
  and_then x old mid new (Err Differ) h g = parts g
