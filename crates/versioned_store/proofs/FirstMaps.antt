-- Maps from acts to the entries where they come first.
use Rattle.std.proofs.Common.{◌≡◌, ◌∙◌, ℕ, Bool, true, false, ◌&&◌, cond, unwrap_or, List, Some, None, refl, sym, ap, subst}
use Rattle.std.specs.Map.{lookup}
use Rattle.std.specs.Ordering.{is_eq}
use Rattle.script_tree.specs.Alike.{same_act}
use Rattle.script_tree.specs.declared.operation.Act.{Act}
use Rattle.script_tree.specs.contracts.operation.ActOrd.TheImpl as act_ord
use Rattle.script_tree.proofs.Equals.{act_is}
use Rattle.script_tree.proofs.SameActs.{acts_tie}
use Rattle.versioned_store.specs.Firsts.{Firsts, firsts_in, source_by, with_entry}
use Rattle.versioned_store.specs.Sources.{selects_alone}

-- what a search finds
pub sought : {K : Type 0} (act_of : K → Act) (entries : List (K × ℕ)) (act : Act)
    → lookup (λ k. is_eq ((act_ord.ghosts).cmp act (act_of k))) entries ≡ firsts_in act_of entries act
sought act_of entries act = ap (λ f. lookup f entries) (λ i k. acts_tie act (act_of k) i)

-- ---- an act that has come

pub source_found : (firsts : Firsts) (act : Act) (p q : ℕ) → true ≡ selects_alone act → firsts act ≡ Some q → q ≡ source_by firsts act p
source_found firsts act p q s e = ap (λ b. cond b q p) s ∙ ap (λ o. cond (selects_alone act) (unwrap_or o p) p) (sym e)

pub firsts_stay : (firsts : Firsts) (act : Act) (p q : ℕ) → true ≡ selects_alone act → firsts act ≡ Some q → firsts ≡ with_entry firsts act p
firsts_stay firsts act p q s e = λ i other. at other (same_act act other) refl i where
  at : (other : Act) (b : Bool) → same_act act other ≡ b → firsts other ≡ with_entry firsts act p other
  at other true m =
      ap firsts (sym (act_is act other m)) ∙ e ∙ ap Some (source_found firsts act p q s e)
      ∙ ap (λ b. cond b (Some (source_by firsts act p)) (firsts other)) (ap (λ b. b && true) s ∙ ap (λ b. selects_alone act && b) (sym m))
  at other false m = ap (λ b. cond b (Some (source_by firsts act p)) (firsts other)) (no (selects_alone act) ∙ ap (λ b. selects_alone act && b) (sym m)) where
    no : (b : Bool) → false ≡ (b && false)
    no true = refl
    no false = refl

-- ---- an act that comes first

pub source_new : (firsts : Firsts) (act : Act) (p : ℕ) → firsts act ≡ None → p ≡ source_by firsts act p
source_new firsts act p e = both (selects_alone act) ∙ ap (λ o. cond (selects_alone act) (unwrap_or o p) p) (sym e) where
  both : (b : Bool) → p ≡ cond b p p
  both true = refl
  both false = refl

pub firsts_new : {K : Type 0} (act_of : K → Act) (with_act : Act → K) (key : K) (old new : List (K × ℕ)) (p : ℕ) → ((act : Act) → act_of (with_act act) ≡ act)
    → ((k : K) → lookup (λ j. is_eq ((act_ord.ghosts).cmp (act_of k) (act_of j))) new
    ≡ cond (is_eq ((act_ord.ghosts).cmp (act_of key) (act_of k))) (Some p) (lookup (λ j. is_eq ((act_ord.ghosts).cmp (act_of k) (act_of j))) old))
    → true ≡ selects_alone (act_of key) → firsts_in act_of old (act_of key) ≡ None → firsts_in act_of new ≡ with_entry (firsts_in act_of old) (act_of key) p
firsts_new act_of with_act key old new p has updates s e = λ i other. (at other ∙ told other) i where
  firsts : Firsts
  firsts = firsts_in act_of old

  at : (other : Act) → firsts_in act_of new other ≡ cond (same_act (act_of key) other) (Some p) (firsts other)
  at other = subst (λ a. firsts_in act_of new a ≡ cond (same_act (act_of key) a) (Some p) (firsts a)) (has other)
      (sym (sought act_of new (act_of (with_act other))) ∙ updates (with_act other)
      ∙ ap (λ b. cond b (Some p) (lookup (λ j. is_eq ((act_ord.ghosts).cmp (act_of (with_act other)) (act_of j))) old)) (acts_tie (act_of key) (act_of (with_act other)))
      ∙ ap (cond (same_act (act_of key) (act_of (with_act other))) (Some p)) (sought act_of old (act_of (with_act other))))

  told : (other : Act) → cond (same_act (act_of key) other) (Some p) (firsts other) ≡ with_entry firsts (act_of key) p other
  told other =
      ap (λ n. cond (same_act (act_of key) other) (Some n) (firsts other)) (source_new firsts (act_of key) p e)
      ∙ ap (λ b. cond (b && same_act (act_of key) other) (Some (source_by firsts (act_of key) p)) (firsts other)) s

-- ---- an act that is no transaction of selects alone

pub source_other : (firsts : Firsts) (act : Act) (p : ℕ) → selects_alone act ≡ false → p ≡ source_by firsts act p
source_other firsts act p s = ap (λ b. cond b (unwrap_or (firsts act) p) p) (sym s)

pub firsts_other : (firsts : Firsts) (act : Act) (p : ℕ) → selects_alone act ≡ false → firsts ≡ with_entry firsts act p
firsts_other firsts act p s = λ i other. ap (λ b. cond (b && same_act act other) (Some (source_by firsts act p)) (firsts other)) (sym s) i
