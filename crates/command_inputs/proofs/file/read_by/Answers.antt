use Rattle.std.proofs.Common.{◌≡◌, ◌≤◌, ◌<◌, ◌+◌, ◌++◌, ◌∙◌, ℕ, List, Some, Ok, Err, true, length, take, vec_len, is_ok, refl, sym, ap, arith, length-append}
use Rattle.std.proofs.lemmas.List.{length-take}
use Rattle.std.specs.FinMap.{get}
use Rattle.outside.specs.Shelves.{ShelfTold}
use Rattle.command_inputs.specs.Inputs.{bytes_input}
use Rattle.command_inputs.proofs.Pieces.{chosen, whole, more, longer, is_spelled, is_too_long}
use Rattle.command_inputs.proofs.Once.{read_to-more, read_once-last}
use Rattle.command_inputs.proofs.file.read_by.Goals as goal

pub returns-in-Ok-eq0-clause-read : goal.returns-in-Ok-eq0-clause-read
returns-in-Ok-eq0-clause-read g c = λ files told.
    let bytes = c.pieces.bytes.items in
    let ok = c.pieces.bytes.ok in
    let at : c.len.result ≡ length bytes = c.len.ensures ∙ ok.0 in
    let some : 0 < length c.pieces.piece = omega arith in
    let same = ap (λ (t : ShelfTold). t.files) c.pieces.invariant.still ∙ told in
    let there = whole files c.args.name.now bytes _ _ _ _ at c.in-Ok-eq0.field-0-test some
    (λ file is. c.pieces.invariant.front files told file is ∙ ap (λ n. take n file) ok.0)
    (c.in-Ok-eq0.ensures.used.2 files same) in
    is_spelled (bytes_input c.args.role c.args.most) _ bytes bytes there
    (omega (arith, ok.0, c.pieces.invariant.within)) refl

pub returns-then-count-most-clause-read : goal.returns-then-count-most-clause-read
returns-then-count-most-clause-read g c = λ files told.
    let bytes = c.pieces.bytes.items in
    let ok = c.pieces.bytes.ok in
    let at : c.len.result ≡ length bytes = c.len.ensures ∙ ok.0 in
    let same = ap (λ (t : ShelfTold). t.files) c.pieces.invariant.still ∙ told in
    let over = longer files c.args.name.now bytes _ _ _ _ c.args.most at
    (omega (arith, ok.0, c.pieces.invariant.within))
    (omega (arith, ok.0, c.len-in-pieces.ensures, c.if-count-most.true))
    (c.in-Ok.ensures.used.2 files same) in
    is_too_long (bytes_input c.args.role c.args.most) _ over.0 over.1 over.2

pub returns-in-Ok-eq0-clause-once : goal.returns-in-Ok-eq0-clause-once
returns-in-Ok-eq0-clause-once g c =
    read_once-last _ (Ok c.in-Ok-eq0.field-0) c.pieces.invariant.once c.len.ensures c.in-Ok-eq0.ensures.made

pub returns-in-Err-clause-once : goal.returns-in-Err-clause-once
returns-in-Err-clause-once g c =
    read_once-last _ (Err c.in-Err.fault) c.pieces.invariant.once c.len.ensures c.in-Err.ensures.made

pub returns-then-count-most-clause-once : goal.returns-then-count-most-clause-once
returns-then-count-most-clause-once g c =
    read_once-last _ (Ok c.in-Ok.count) c.pieces.invariant.once c.len.ensures c.in-Ok.ensures.made

pub returns-in_err-extend_from_slice-clause-once : goal.returns-in_err-extend_from_slice-clause-once
returns-in_err-extend_from_slice-clause-once g c =
    read_once-last _ (Ok c.in-Ok.count) c.pieces.invariant.once c.len.ensures c.in-Ok.ensures.made

pub pieces-preserved : goal.pieces-preserved
pieces-preserved g c =
    let bytes = c.pieces.bytes.items in
    let ok = c.pieces.bytes.ok in
    let grown_vec = c.extend_from_slice.new.self in
    let at : c.len.result ≡ length bytes = c.len.ensures ∙ ok.0 in
    let fine : is_ok c.extend_from_slice.result ≡ true = ap is_ok c.in_ok-extend_from_slice.was in
    let grown : grown_vec.items ≡ bytes ++ take c.in-Ok.count c.read_at.new.into =
    chosen _ _ _ _ fine c.extend_from_slice.ensures.items in
    let count : c.in-Ok.count ≤ length c.read_at.new.into =
    omega (arith, c.in-Ok.ensures.used.1, c.read_at.auto.into) in
    let long : length grown_vec.items ≡ length bytes + c.in-Ok.count =
    ap length grown
    ∙ omega (
      arith,
      length-append bytes (take c.in-Ok.count c.read_at.new.into),
      length-take c.in-Ok.count c.read_at.new.into,
      count,
    ) in
    let len : vec_len grown_vec ≡ length bytes + c.in-Ok.count = grown_vec.ok.0 ∙ long in
    record {
      within = omega (
        arith,
        len,
        ok.0,
        c.len-in-pieces.ensures,
        c.if-count-most.false,
        c.pieces.invariant.within,
      );
      still = c.in-Ok.ensures.used.0 ∙ c.pieces.invariant.still;
      front = λ files told file there.
          let same = ap (λ (t : ShelfTold). t.files) c.pieces.invariant.still ∙ told in
          let front : (f : List ℕ) → get files c.args.name.now ≡ Some f → bytes ≡ take (length bytes) f =
          λ f is. c.pieces.invariant.front files told f is ∙ ap (λ n. take n f) ok.0 in
          grown
          ∙ more files c.args.name.now bytes _ _ _ c.in-Ok.count at front
          (c.in-Ok.ensures.used.2 files same) file there
          ∙ ap (λ n. take n file) (sym len);
      once = read_to-more _ _ _ c.pieces.invariant.once c.len.ensures c.in-Ok.ensures.made
          (omega (arith, len, ok.0));
    }
