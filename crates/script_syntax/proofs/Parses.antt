-- What the machine makes of a file's tokens is what the bytes spell.
use Rattle.std.proofs.Common.{◌≡◌, ℕ, List, [], ◌∷◌, ◌⊎◌, inl, inr, Some, None, Result, Ok, Err, refl, sym, ap, ◌∙◌, subst, append-nil}
use Rattle.basis.specs.declared.or_memory.OrMemory.{OrMemory}
use Rattle.basis.specs.declared.or_memory.OrMemory.TheVariants.{Memory, Other}
use Rattle.script_tree.specs.Programs.{Program, program_of}
use Rattle.script_tree.specs.declared.syntax.declaration.Declaration.{Declaration}
use Rattle.script_tokens.specs.Feed.{fault_of, end_behind, end_at}
use Rattle.script_tokens.specs.Kinds.{Token}
use Rattle.script_tokens.specs.Scans.{Scan, scan_of}
use Rattle.script_tokens.specs.declared.fault.End.{End}
use Rattle.script_tokens.specs.declared.fault.End.TheVariants.{File, Fault}
use Rattle.script_tokens.specs.declared.fault.SyntaxFault.{SyntaxFault}
use Rattle.script_grammar.specs.Files.{IsWhole, IsAtToken, IsAtEnd, SpellsOnly, SpellsNone, IsParsed}
use Rattle.script_grammar.specs.Grammar.{IsTreeOf, Begins, IsFaultAt}
use Rattle.script_grammar.specs.Machine.{Val, of_declarations, declarations, Parsing, done, stuck, run_file}
use Rattle.script_grammar.proofs.Exact.{Answers, exact, one_tree, tree_read}
use Rattle.script_syntax.specs.Parses.{reading, stuck_fault, fault_in, IsFileRead, IsWholeTree}

no_fault : {P : Type 0} (f : SyntaxFault) → None ≡ Some f → P
no_fault f h = cc

the_fault : (f g : SyntaxFault) → Some f ≡ Some g → g ≡ f
the_fault f g h = cc

never_stuck : {P : Type 0} (vs : List Val) (rest : List Token) → done vs ≡ stuck rest → P
never_stuck vs rest h = cc

never_done : {P : Type 0} (vs : List Val) (rest : List Token) → stuck rest ≡ done vs → P
never_done vs rest h = cc

the_values : (ds es : List Declaration) → of_declarations ds ∷ [] ≡ of_declarations es ∷ [] → ds ≡ es
the_values ds es h = cc

same_done : (vs us : List Val) → done vs ≡ done us → vs ≡ us
same_done vs us h = cc

read_tree : (ts : List Token) (ds : List Declaration) (o : Parsing) → Answers ts o → o ≡ done (of_declarations ds ∷ []) → IsTreeOf ts (program_of ds)
read_tree ts ds (done vs) a h =
    let e : ds ≡ a.0 = sym (the_values a.0 ds (sym a.1 ∙ same_done vs (of_declarations ds ∷ []) h)) in
    subst (λ z. IsTreeOf ts (program_of z)) (sym e) a.2
read_tree ts ds (stuck rest) a h = never_done (of_declarations ds ∷ []) rest h

tree_of : (ts : List Token) (ds : List Declaration) → run_file ts ≡ done (of_declarations ds ∷ []) → IsTreeOf ts (program_of ds)
tree_of ts ds h = read_tree ts ds (run_file ts) (exact ts) h

no_tree : (ts : List Token) (rest : List Token) → run_file ts ≡ stuck rest → (tree : Program) → IsTreeOf ts tree → ⊥
no_tree ts rest h tree t = never_stuck (of_declarations tree.declarations ∷ []) rest (sym (tree_read ts tree t) ∙ h)

-- ---- a file that is read

pub whole_file : (bytes : List ℕ) (ds : List Declaration) (n : ℕ)
    → run_file (scan_of bytes).tokens ≡ done (of_declarations ds ∷ []) → (scan_of bytes).end ≡ File n
    → SpellsOnly bytes (program_of ds)
whole_file bytes ds n h e =
    let t : IsTreeOf (scan_of bytes).tokens (program_of ds) = tree_of (scan_of bytes).tokens ds h in
    record {
      spells = record { whole = subst IsWhole (sym e) tt; tree_is = t };
      only = λ other s. one_tree (scan_of bytes).tokens other (program_of ds) s.tree_is t;
    }

not_whole : (f : SyntaxFault) (e : End) → e ≡ Fault f → IsWhole e → ⊥
not_whole f e h w = subst IsWhole h w

pub faulty_end : (bytes : List ℕ) (ds : List Declaration) (f : SyntaxFault)
    → run_file (scan_of bytes).tokens ≡ done (of_declarations ds ∷ []) → (scan_of bytes).end ≡ Fault f
    → SpellsNone bytes f
faulty_end bytes ds f h e =
    let ts = (scan_of bytes).tokens in
    let t : IsTreeOf ts (program_of ds) = tree_of ts ds h in
    let b : Begins ts = record { more = []; tree = program_of ds; real = tt; whole = subst (λ z. IsTreeOf z (program_of ds)) (sym (append-nil ts)) t } in
    record {
      fault_is = inr (subst (λ z. IsAtEnd z ts f) (sym e) (b, refl));
      none = λ tree s. not_whole f (scan_of bytes).end e s.whole;
    }

-- ---- a file that isn't

fault_at_end : (ts : List Token) (end : End) (f : SyntaxFault) → IsFaultAt ts [] → f ≡ fault_of [] end → IsAtEnd end ts f
fault_at_end ts (File n) f a e = (a, e)
fault_at_end ts (Fault g) f a e = (a.0, e)

fault_is_at : (ts rest : List Token) (end : End) (f : SyntaxFault) → IsFaultAt ts rest → f ≡ fault_of rest end → IsAtToken ts f ⊎ IsAtEnd end ts f
fault_is_at ts [] end f a e = inr (fault_at_end ts end f a e)
fault_is_at ts (t ∷ rest) end f a e = inl (record { first = t; rest = rest; fault_at = a; fault_is = e })

stuck_at : (bytes : List ℕ) (f : SyntaxFault) (o : Parsing) → run_file (scan_of bytes).tokens ≡ o
    → Answers (scan_of bytes).tokens o → stuck_fault o (scan_of bytes).end ≡ Some f → SpellsNone bytes f
stuck_at bytes f (done vs) r a h = no_fault f h
stuck_at bytes f (stuck rest) r a h = record {
  fault_is = fault_is_at (scan_of bytes).tokens rest (scan_of bytes).end f a (the_fault (fault_of rest (scan_of bytes).end) f h);
  none = λ tree s. no_tree (scan_of bytes).tokens rest r tree s.tree_is;
}

pub faulty_file : (bytes : List ℕ) (f : SyntaxFault) → stuck_fault (run_file (scan_of bytes).tokens) (scan_of bytes).end ≡ Some f → SpellsNone bytes f
faulty_file bytes f h = stuck_at bytes f (run_file (scan_of bytes).tokens) refl (exact (scan_of bytes).tokens) h

-- ---- what the parser returns

pub refused : (bytes : List ℕ) (s left : Scan) (e : OrMemory SyntaxFault) → s ≡ scan_of bytes → IsFileRead (Err e) s left → IsParsed bytes (Err e)
refused bytes s left Memory q h = tt
refused bytes s left (Other f) q h = faulty_file bytes f (subst (λ x. fault_in (reading x (declarations ∷ []) (of_declarations [] ∷ [])) ≡ Some f) q h)

the_end : (a b : End) → Some a ≡ Some b → b ≡ a
the_end a b h = cc

by_end : (bytes : List ℕ) (ds : List Declaration) (end : End) (r : Result Program (OrMemory SyntaxFault))
    → run_file (scan_of bytes).tokens ≡ done (of_declarations ds ∷ []) → (scan_of bytes).end ≡ end
    → IsWholeTree (program_of ds) end r → IsParsed bytes r
by_end bytes ds (File n) r h e g = subst (IsParsed bytes) (sym g) (whole_file bytes ds n h e)
by_end bytes ds (Fault f) r h e g = subst (IsParsed bytes) (sym g) (faulty_end bytes ds f h e)

pub accepted : (bytes : List ℕ) (s left : Scan) (ds : List Declaration) (end : End)
    (r : Result Program (OrMemory SyntaxFault)) → s ≡ scan_of bytes → IsFileRead (Ok ds) s left
    → end_at left ≡ Some end → IsWholeTree (program_of ds) end r → IsParsed bytes r
accepted bytes s left ds end r q h e g =
    let p : reading (scan_of bytes) (declarations ∷ []) (of_declarations [] ∷ []) ≡ (done (of_declarations ds ∷ []), left.end) = subst (λ x. reading x (declarations ∷ []) (of_declarations [] ∷ []) ≡ (done (of_declarations ds ∷ []), left.end)) q h.0 in
    let f : end ≡ left.end = the_end left.end end (sym (ap (λ ts. end_behind ts left.end) h.1) ∙ e) in
    by_end bytes ds end r (ap (λ (o : Parsing × End). o.0) p) (ap (λ (o : Parsing × End). o.1) p ∙ sym f) g
