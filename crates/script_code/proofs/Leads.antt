-- From place to place: the machine gets from here to there by some number of instructions.
use Rattle.std.proofs.Common.{◌≡◌, ◌≤◌, ◌<◌, ◌+◌, ℕ, suc, List, [], ◌∷◌, ◌++◌, length, Some, refl, ap, ◌∙◌, subst, arith, append_assoc, length-append}
use Rattle.std.specs.Prelude.{slice_get}
use Rattle.std.proofs.Math.Seq.{get_or-append_seam}
use Rattle.std.proofs.lemmas.Option.{slice_get-get_or}
use Rattle.script_tree.specs.Datum.{Datum}
use Rattle.script_tree.specs.Requests.{Request}
use Rattle.script_tree.specs.declared.limits.TheConstants.{MOST_STEPS}
use Rattle.script_meaning.specs.Evaluate.{Flow}
use Rattle.script_meaning.specs.Run.{Run, Progress, Ran, goes, stops, after, ◌>>=◌}
use Rattle.script_code.specs.Code.{Instructions}
use Rattle.script_code.specs.CodeRun.{Frame, step, exec}
use Rattle.script_code.specs.declared.instruction.Instruction.{Instruction}
use Rattle.script_code.proofs.Spends.{Spent, Spends}

-- what comes of a place, by the number of instructions that may still be made
abbrev pub Goal : Type 0
Goal = ℕ → Ran Flow

pub record Leads (here there : Goal) : Type 0 where
  pub count : ℕ
  pub by : (k : ℕ) → here (count + k) ≡ there k

pub leads_same : (here there : Goal) → ((k : ℕ) → here k ≡ there k) → Leads here there
leads_same here there h = record { count = 0; by = λ k. let e : 0 + k ≡ k = omega arith in ap here e ∙ h k }

pub leads_on : (here there end : Goal) → Leads here there → Leads there end → Leads here end
leads_on here there end l m = record {
  count = l.count + m.count;
  by = λ k. let e : l.count + m.count + k ≡ l.count + (m.count + k) = omega arith in ap here e ∙ l.by (m.count + k) ∙ m.by k;
}

pub leads_one : (here there : Goal) → ((k : ℕ) → here (suc k) ≡ there k) → Leads here there
leads_one here there h = record { count = 1; by = λ k. let e : 1 + k ≡ suc k = omega arith in ap here e ∙ h k }

-- From here the machine does as the run did: it gets there with a value and a progress of which P holds, or stops so.
abbrev pub Does : {A : Type 0} → Goal → (A → Progress → Type 0) → (A → Progress → Goal) → Ran A → Type 0
Does here P there (goes a q) = P a q × Leads here (there a q)
Does here P there (stops e q) = Leads here (λ k. stops e q)

pub does_from : {A : Type 0} (here start : Goal) (P : A → Progress → Type 0) (there : A → Progress → Goal) (o : Ran A)
    → Leads here start → Does start P there o → Does here P there o
does_from here start P there (goes a q) l d = (d.0, leads_on here start (there a q) l d.1)
does_from here start P there (stops e q) l d = leads_on here start (λ k. stops e q) l d

pub does_then : {A B : Type 0} (here : Goal) (P : A → Progress → Type 0) (Q : B → Progress → Type 0)
    (mid : A → Progress → Goal) (there : B → Progress → Goal) (o : Ran A) (f : A → Run B)
    → Does here P mid o → ((a : A) (q : Progress) → P a q → Does (mid a q) Q there (f a q)) → Does here Q there (after o f)
does_then here P Q mid there (goes a q) f d h = does_from here (mid a q) Q there (f a q) d.1 (h a q d.0)
does_then here P Q mid there (stops e q) f d h = d

pub does_to : {A : Type 0} (here : Goal) (P Q : A → Progress → Type 0) (mid there : A → Progress → Goal) (o : Ran A)
    → Does here P mid o → ((a : A) (q : Progress) → P a q → Q a q × Leads (mid a q) (there a q)) → Does here Q there o
does_to here P Q mid there (goes a q) d h = let k = h a q d.0 in (k.0, leads_on here (mid a q) (there a q) d.1 k.1)
does_to here P Q mid there (stops e q) d h = d

-- ---- places in the code

-- the instructions stand in the code at this place
abbrev pub HasAt : Instructions → ℕ → Instructions → Type 0
HasAt code pc [] = Unit {0}
HasAt code pc (i ∷ is) = (slice_get code pc ≡ Some i) × HasAt code (pc + 1) is

pub has_front : (code : Instructions) (pc : ℕ) (a b : Instructions) → HasAt code pc (a ++ b) → HasAt code pc a
has_front code pc [] b h = tt
has_front code pc (i ∷ a) b h = (h.0, has_front code (pc + 1) a b h.1)

pub has_back : (code : Instructions) (pc : ℕ) (a b : Instructions) → HasAt code pc (a ++ b) → HasAt code (pc + length a) b
has_back code pc [] b h = let e : pc ≡ pc + 0 = omega arith in subst (λ n. HasAt code n b) e h
has_back code pc (i ∷ a) b h =
    let e : pc + 1 + length a ≡ pc + length (i ∷ a) = omega arith in
    subst (λ n. HasAt code n b) e (has_back code (pc + 1) a b h.1)

pub has_all : (is pre : Instructions) → HasAt (pre ++ is) (length pre) is
has_all [] pre = tt
has_all (i ∷ is) pre =
    let within : length pre < length (pre ++ i ∷ is) = omega (arith, length-append pre (i ∷ is)) in
    let here = slice_get-get_or (pre ++ i ∷ is) (length pre) i within ∙ ap Some (get_or-append_seam pre i is i) in
    let n : length (pre ++ i ∷ []) ≡ length pre + 1 = omega (arith, length-append pre (i ∷ [])) in
    let rest = has_all is (pre ++ i ∷ []) in
    let rest' = subst (λ l. HasAt l (length (pre ++ i ∷ [])) is) (append_assoc pre (i ∷ []) is) rest in
    (here, subst (λ m. HasAt (pre ++ i ∷ is) m is) n rest')

-- the steps are within bounds
pub record Fine (low : ℕ) (q : Progress) : Type 0 where
  pub least : low ≤ q.steps
  pub most : q.steps ≤ MOST_STEPS

pub lower : (low low' : ℕ) (q : Progress) → low' ≤ low → Fine low q → Fine low' q
lower low low' q le h = record { least = omega (arith, h.least, le); most = h.most }

-- what is done after what was done
pub after_after : {A B C : Type 0} (o : Ran A) (f : A → Run B) (g : B → Run C) → after (after o f) g ≡ after o (λ a. f a >>= g)
after_after (goes a q) f g = refl
after_after (stops e q) f g = refl

prim_ways : {A : Type 0} (here : Goal) (there : A → Progress → Goal) (n : ℕ) (p : Progress) (o : Ran A) → Spent n p o
    → p.steps ≤ MOST_STEPS → ((k : ℕ) → here (suc k) ≡ after o (λ a q. there a q k))
    → Does here (λ a q. Fine (n + p.steps) q) there o
prim_ways here there n p (goes a q) s most h = (record { least = s.0; most = s.1 most }, leads_one here (there a q) h)
prim_ways here there n p (stops e q) s most h = leads_one here (λ k. stops e q) h

module _ (request : Request) (functions : List ℕ) (code : Instructions) where
  -- the machine at a place
  abbrev pub at : List Frame → ℕ → List Datum → List Datum → Progress → Goal
  at fs pc st vs p = λ k. exec request functions code k fs pc st vs p

  -- an instruction that does what m does, and then goes on
  pub prim : {A : Type 0} (fs : List Frame) (pc : ℕ) (st vs : List Datum) (p : Progress) (n : ℕ) (i : Instruction)
      → slice_get code pc ≡ Some i → p.steps ≤ MOST_STEPS → (m : Run A) → Spends n m → (there : A → Progress → Goal)
      → ((k : ℕ) → step request functions (Some i) (exec request functions code k) fs pc st vs p ≡ after (m p) (λ a q. there a q k))
      → Does (at fs pc st vs p) (λ a q. Fine (n + p.steps) q) there (m p)
  prim fs pc st vs p n i here most m s there h =
      prim_ways (at fs pc st vs p) there n p (m p) (s.by p) most
      (λ k. ap (λ o. step request functions o (exec request functions code k) fs pc st vs p) here ∙ h k)

  -- an instruction that does nothing but go on
  pub move : (fs : List Frame) (pc : ℕ) (st vs : List Datum) (p : Progress) (i : Instruction) → slice_get code pc ≡ Some i → (there : Goal)
      → ((k : ℕ) → step request functions (Some i) (exec request functions code k) fs pc st vs p ≡ there k) → Leads (at fs pc st vs p) there
  move fs pc st vs p i here there h = leads_one (at fs pc st vs p) there
      (λ k. ap (λ o. step request functions o (exec request functions code k) fs pc st vs p) here ∙ h k)

  pub same_place : (fs : List Frame) (pc pc' : ℕ) (st vs : List Datum) (p : Progress) → pc ≡ pc' → Leads (at fs pc st vs p) (at fs pc' st vs p)
  same_place fs pc pc' st vs p e = leads_same (at fs pc st vs p) (at fs pc' st vs p) (λ k. ap (λ n. exec request functions code k fs n st vs p) e)
