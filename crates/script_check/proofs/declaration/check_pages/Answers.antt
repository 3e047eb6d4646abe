use Rattle.std.proofs.Common.{◌≡◌, ◌+◌, take, sym, ap, ◌∙◌, subst, not, is_some}
use Rattle.script_tree.specs.Declarations.{page_from}
use Rattle.script_check.specs.Least.{lower}
use Rattle.script_check.specs.Indexes.{TellsPages}
use Rattle.script_check.specs.Passes.{page_twice}
use Rattle.script_check.specs.Validity.{fault_unless}
use Rattle.script_check.specs.declared.fault.CheckFaultKind.TheVariants.{PageTwice}
use Rattle.script_check.proofs.InTurn.{page_more, page_same, no_page}
use Rattle.script_check.proofs.Least.{lower_none}
use Rattle.script_check.proofs.Lists.{taken, one_on, all_on}
use Rattle.script_check.proofs.declaration.check_pages.Goals as goal
use Rattle.script_check.proofs.declaration.check_pages.Goals.{in-Page+in_ok-is_new, in_default}

pub loop-declaration-preserved : goal.loop-declaration-preserved
loop-declaration-preserved c =
    let ds = c.args.declarations.now in
    let i = c.loop-declaration.declaration-index in
    let d = c.declaration-item.result in
    let earlier = take i ds in
    let next = taken ds i d c.loop-declaration-test.true c.declaration-item.is in
    let l = c.loop-declaration.found.least in
    let m = c.match-declaration.found.least in
    let told = c.loop-declaration.invariant.pages in
    let so_far = c.loop-declaration.invariant.faults in
    elim c.match-declaration.branch [
      | in-Page+in_ok-is_new w ↦
          let found : m ≡ lower l (page_twice earlier d) =
          ap (λ f. f.least) w.found-is ∙ w.unless.ensures
          ∙ ap (λ b. lower l (fault_unless b w.in-Page.path.at PageTwice)) (w.in_ok-is_new.ensures.added ∙ ap not (told w.as_bytes.result.now ∙ ap (λ t. is_some (page_from 0 t earlier)) w.as_bytes.ensures))
          ∙ ap (λ e. lower l (page_twice earlier e)) (sym w.in-Page.is) in
          record {
            pages = subst (λ s. TellsPages (take (i + 1) ds) s) (sym w.pages-is) (subst (λ t. TellsPages t w.insert.new.self) (sym next)
                (page_more earlier d w.in-Page.at w.in-Page.path w.in-Page.body w.as_bytes.result c.loop-declaration.pages w.insert.new.self w.in-Page.is w.as_bytes.ensures told w.in_ok-is_new.ensures.updates));
            faults = one_on page_twice ds i d l m c.loop-declaration-test.true c.declaration-item.is found ∙ so_far;
          }
      | in_default w ↦
          let found : m ≡ lower l (page_twice earlier d) = ap (λ f. f.least) w.found-is ∙ sym (lower_none l) ∙ ap (lower l) (sym (no_page earlier d w.in_default.not-Page)) in
          record {
            pages = subst (λ s. TellsPages (take (i + 1) ds) s) (sym w.pages-is)
                (subst (λ t. TellsPages t c.loop-declaration.pages) (sym next)
                (page_same earlier d c.loop-declaration.pages w.in_default.not-Page told));
            faults = one_on page_twice ds i d l m c.loop-declaration-test.true c.declaration-item.is found ∙ so_far;
          }
    ]

pub returns : goal.returns
returns c = all_on page_twice c.args.declarations.now c.loop-declaration.declaration-index c.args.found.now.least c.loop-declaration.found.least c.loop-declaration-test.false c.loop-declaration.invariant.faults
