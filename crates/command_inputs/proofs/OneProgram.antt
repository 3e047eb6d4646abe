-- A text is one program, or has one first fault.
use Rattle.std.proofs.Common.{◌≡◌, ◌∙◌, ℕ, List, [], ◌∷◌, ◌++◌, length, inl, inr, refl, ap, ap₂, sym, subst, append_assoc, arith}
use Rattle.std.specs.Prelude.{nat_eq, if◌then◌else◌}
use Rattle.std.specs.List.{All}
use Rattle.std.proofs.lemmas.List.Elements.{All-head, All-tail}
use Rattle.script_tree.specs.Programs.{Program}
use Rattle.script_tokens.specs.Kinds.{Token}
use Rattle.script_tokens.specs.Scans.{scan_of}
use Rattle.script_tokens.specs.Tokens.{IsSpelled}
use Rattle.script_tokens.specs.declared.fault.End.{End}
use Rattle.script_tokens.specs.declared.fault.End.TheVariants.{File, Fault}
use Rattle.script_tokens.specs.declared.fault.SyntaxFault.{SyntaxFault}
use Rattle.script_tokens.proofs.Spelled.{each_is_spelled}
use Rattle.script_grammar.specs.Files.{Spells, IsAtToken, IsAtEnd, IsSyntaxFault, ungrammatical}
use Rattle.script_grammar.specs.Grammar.{IsTreeOf, AreSpelled, Begins}
use Rattle.script_grammar.proofs.Exact.{one_tree}
use Rattle.script_check.specs.Least.{number_of, IsLeastFault, IsNotAbove}
use Rattle.script_check.specs.declared.fault.CheckFault.{CheckFault}
use Rattle.script_check.specs.declared.fault.CheckFaultKind.{CheckFaultKind}
use Rattle.script_check.specs.declared.fault.CheckFaultKind.TheVariants.{Undeclared, DeclaredTwice, WrongCount, Unknown, KeyWritten, PageTwice}
use Rattle.command_inputs.specs.Program.{SpellsProgram, IsProgramFault}
use Rattle.command_inputs.specs.declared.fault.InputFault.{InputFault}
use Rattle.command_inputs.specs.declared.fault.InputFault.TheVariants.{Syntax, Check}

-- ---- tokens that bytes spell

all_spelled : (ts : List Token) → All (λ t. IsSpelled t.kind) ts → AreSpelled ts
all_spelled [] h = tt
all_spelled (t ∷ ts) h = (All-head (λ (u : Token). IsSpelled u.kind) t ts h, all_spelled ts (All-tail (λ (u : Token). IsSpelled u.kind) t ts h))

both_spelled : (ts us : List Token) → AreSpelled ts → AreSpelled us → AreSpelled (ts ++ us)
both_spelled [] us p q = q
both_spelled (t ∷ ts) us p q = (p.0, both_spelled ts us p.1 q)

behind_spelled : (ts us : List Token) → AreSpelled (ts ++ us) → AreSpelled us
behind_spelled [] us p = p
behind_spelled (t ∷ ts) us p = behind_spelled ts us p.1

before_spelled : (ts us : List Token) → AreSpelled (ts ++ us) → AreSpelled ts
before_spelled [] us p = tt
before_spelled (t ∷ ts) us p = (p.0, before_spelled ts us p.1)

-- ---- the first fault of a text

-- what stands before more tokens, with which it begins a program, begins one
begins_before : (read more : List Token) → AreSpelled more → Begins (read ++ more) → Begins read
begins_before read more real b = record {
  more = more ++ b.more;
  tree = b.tree;
  real = both_spelled more b.more real b.real;
  whole = subst (λ ts. IsTreeOf ts b.tree) (append_assoc read more b.more) b.whole;
}

-- up to its fault, tokens begin no program
no_program : (ts read rest : List Token) (t : Token) → AreSpelled ts → ts ≡ read ++ t ∷ rest → (Begins (read ++ t ∷ []) → ⊥) → Begins ts → ⊥
no_program ts read rest t real split none b =
    let same : ts ≡ (read ++ t ∷ []) ++ rest = split ∙ sym (append_assoc read (t ∷ []) rest) in
    none (begins_before (read ++ t ∷ []) rest (behind_spelled (read ++ t ∷ []) rest (subst AreSpelled same real)) (subst Begins same b))

-- of two places in one list, both are one, or what stands before one of them goes on to the other
pub data Compared (r s : List Token) (t u : Token) : Type 0 where
  same : t ≡ u → Compared r s t u
  sooner : (mid : List Token) → s ≡ r ++ t ∷ mid → Compared r s t u
  later : (mid : List Token) → r ≡ s ++ u ∷ mid → Compared r s t u

behind_first : (x : Token) (r s : List Token) (t u : Token) → Compared r s t u → Compared (x ∷ r) (x ∷ s) t u
behind_first x r s t u (same e) = same e
behind_first x r s t u (sooner mid e) = sooner mid (ap (λ l. x ∷ l) e)
behind_first x r s t u (later mid e) = later mid (ap (λ l. x ∷ l) e)

compared : (r s : List Token) (t u : Token) (m n : List Token) → r ++ t ∷ m ≡ s ++ u ∷ n → Compared r s t u
compared [] [] t u m n e = same cc
compared [] (y ∷ s) t u m n e = sooner s (let first : y ≡ t = cc in ap (λ x. x ∷ s) first)
compared (x ∷ r) [] t u m n e = later r (let first : x ≡ u = cc in ap (λ y. y ∷ r) first)
compared (x ∷ r) (y ∷ s) t u m n e =
    let first : x ≡ y = cc in
    let rest : r ++ t ∷ m ≡ s ++ u ∷ n = cc in
    subst (λ z. Compared (x ∷ r) (z ∷ s) t u) first (behind_first x r s t u (compared r s t u m n rest))

-- tokens that begin a program go on past no fault
not_past : (ts r mid n : List Token) (t u : Token) → AreSpelled ts → ts ≡ (r ++ t ∷ mid) ++ u ∷ n → (Begins (r ++ t ∷ []) → ⊥) → Begins (r ++ t ∷ mid) → ⊥
not_past ts r mid n t u real split none =
    no_program (r ++ t ∷ mid) r mid t (before_spelled (r ++ t ∷ mid) (u ∷ n) (subst AreSpelled split real)) refl none

at_tokens : (ts : List Token) (f g : SyntaxFault) → AreSpelled ts → IsAtToken ts f → IsAtToken ts g → f ≡ g
at_tokens ts f g real p q = by (compared p.fault_at.0 q.fault_at.0 p.first q.first p.rest q.rest (sym p.fault_at.1 ∙ q.fault_at.1))
  where
    by : Compared p.fault_at.0 q.fault_at.0 p.first q.first → f ≡ g
    by (same e) = p.fault_is ∙ ap (λ (t : Token). ungrammatical t.at) e ∙ sym q.fault_is
    by (sooner mid e) =
        absurd (not_past ts p.fault_at.0 mid q.rest p.first q.first real
        (q.fault_at.1 ∙ ap (λ l. l ++ q.first ∷ q.rest) e) p.fault_at.3 (subst Begins e q.fault_at.2))
    by (later mid e) =
        absurd (not_past ts q.fault_at.0 mid p.rest q.first p.first real
        (p.fault_at.1 ∙ ap (λ l. l ++ p.first ∷ p.rest) e) q.fault_at.3 (subst Begins e p.fault_at.2))

begin_all : (end : End) (ts : List Token) (f : SyntaxFault) → IsAtEnd end ts f → Begins ts
begin_all (File len) ts f h = h.0.0
begin_all (Fault behind) ts f h = h.0

at_ends : (end : End) (ts : List Token) (f g : SyntaxFault) → IsAtEnd end ts f → IsAtEnd end ts g → f ≡ g
at_ends (File len) ts f g p q = p.1 ∙ sym q.1
at_ends (Fault behind) ts f g p q = p.1 ∙ sym q.1

not_both : (end : End) (ts : List Token) (f g : SyntaxFault) → AreSpelled ts → IsAtToken ts f → IsAtEnd end ts g → ⊥
not_both end ts f g real p q = no_program ts p.fault_at.0 p.rest p.first real p.fault_at.1 p.fault_at.3 (begin_all end ts g q)

one_syntax_fault : (bytes : List ℕ) (f g : SyntaxFault) → IsSyntaxFault bytes f → IsSyntaxFault bytes g → f ≡ g
one_syntax_fault bytes f g p q = by p q
  where
    real : AreSpelled (scan_of bytes).tokens
    real = all_spelled (scan_of bytes).tokens (each_is_spelled bytes)

    by : IsSyntaxFault bytes f → IsSyntaxFault bytes g → f ≡ g
    by (inl p) (inl q) = at_tokens (scan_of bytes).tokens f g real p q
    by (inl p) (inr q) = absurd (not_both (scan_of bytes).end (scan_of bytes).tokens f g real p q)
    by (inr p) (inl q) = absurd (not_both (scan_of bytes).end (scan_of bytes).tokens g f real q p)
    by (inr p) (inr q) = at_ends (scan_of bytes).end (scan_of bytes).tokens f g p q

-- ---- the least fault of a tree

kind_of : ℕ → CheckFaultKind
kind_of n =
    if nat_eq n 1 then Undeclared
    else (if nat_eq n 2 then DeclaredTwice
    else (if nat_eq n 3 then WrongCount
    else (if nat_eq n 4 then Unknown
    else (if nat_eq n 5 then KeyWritten else PageTwice))))

kind_again : (k : CheckFaultKind) → kind_of (number_of k) ≡ k
unfolding kind_of
kind_again Undeclared = refl
kind_again DeclaredTwice = refl
kind_again WrongCount = refl
kind_again Unknown = refl
kind_again KeyWritten = refl
kind_again PageTwice = refl

same_kind : (k l : CheckFaultKind) → number_of k ≡ number_of l → k ≡ l
same_kind k l e = sym (kind_again k) ∙ ap kind_of e ∙ kind_again l

neither_above : (f g : CheckFault) → IsNotAbove f g → IsNotAbove g f → f ≡ g
neither_above f g (inl p) (inl q) = absurd (omega (arith, p, q))
neither_above f g (inl p) (inr q) = absurd (omega (arith, p, q.0))
neither_above f g (inr p) (inl q) = absurd (omega (arith, p.0, q))
neither_above f g (inr p) (inr q) =
    let kinds : number_of f.kind ≡ number_of g.kind = omega (arith, p.1, q.1) in
    ap₂ (λ at kind. record { at = at; kind = kind }) p.0 (same_kind f.kind g.kind kinds)

one_least : (tree : Program) (f g : CheckFault) → IsLeastFault tree f → IsLeastFault tree g → f ≡ g
one_least tree f g p q = neither_above f g (p.least g q.there) (q.least f p.there)

-- ---- programs

same_tree : (bytes : List ℕ) (x y : Program) → Spells bytes x → Spells bytes y → x ≡ y
same_tree bytes x y p q = one_tree (scan_of bytes).tokens x y p.tree_is q.tree_is

pub one_program : (bytes : List ℕ) (x y : Program) → SpellsProgram bytes x → SpellsProgram bytes y → x ≡ y
one_program bytes x y p q = same_tree bytes x y p.tree q.tree

pub one_fault : (bytes : List ℕ) (f g : InputFault) → IsProgramFault bytes f → IsProgramFault bytes g → f ≡ g
one_fault bytes f g (inl p) (inl q) =
    p.fault_is ∙ ap Syntax (one_syntax_fault bytes p.first q.first p.none.fault_is q.none.fault_is) ∙ sym q.fault_is
one_fault bytes f g (inl p) (inr q) = absurd (p.none.none q.tree q.spells)
one_fault bytes f g (inr p) (inl q) = absurd (q.none.none p.tree p.spells)
one_fault bytes f g (inr p) (inr q) =
    let tree : q.tree ≡ p.tree = same_tree bytes q.tree p.tree q.spells p.spells in
    let least : IsLeastFault p.tree q.least = subst (λ t. IsLeastFault t q.least) tree q.is_least in
    p.fault_is ∙ ap Check (one_least p.tree p.least q.least p.is_least least) ∙ sym q.fault_is

pub program_or_fault : (bytes : List ℕ) (x : Program) (f : InputFault) → SpellsProgram bytes x → IsProgramFault bytes f → ⊥
program_or_fault bytes x f p (inl q) = q.none.none x p.tree
program_or_fault bytes x f p (inr q) =
    let tree : q.tree ≡ x = same_tree bytes q.tree x q.spells p.tree in
    let least : IsLeastFault x q.least = subst (λ t. IsLeastFault t q.least) tree q.is_least in
    absurd (omega (arith, least.there.1, ap length p.valid))
