use Rattle.std.proofs.Common.{◌≡◌, ◌∙◌, [], None, if◌then◌else◌, refl, sym, ap, pos, codes, option_map}
use Rattle.serde_json.specs.Find.{get_member}
use Rattle.serde_json.specs.View.{view, members_view}
use Rattle.json_texts.specs.Shapes.{read_or}
use Rattle.state_file.specs.Givens.{entries_of, stores_of, tables_of, clock_of, whole}
use Rattle.json_texts.proofs.Members.{found_in, taken_out}
use Rattle.state_file.proofs.given.parts_in.Goals as goal

pub returns-clause-given : goal.returns-clause-given
returns-clause-given c =
    let members = c.args.members.now in
    let ms = members_view members.entries in
    let a = c.remove-registers.new.self in
    let b = c.remove-stores.new.self in
    let d = c.remove-tables.new.self in
    let registers : option_map view c.remove-registers.result ≡ get_member (codes "registers") ms = found_in (codes "registers") members c.remove-registers.result c.remove-registers.ensures.value in
    let stores : option_map view c.remove-stores.result ≡ get_member (codes "stores") ms =
    found_in (codes "stores") members c.remove-stores.result
    (c.remove-stores.ensures.value ∙ taken_out (codes "registers")
    (codes "stores") members a c.remove-registers.ensures.updates refl) in
    let tables : option_map view c.remove-tables.result ≡ get_member (codes "tables") ms =
    found_in (codes "tables") members c.remove-tables.result
    (c.remove-tables.ensures.value ∙ taken_out (codes "stores")
    (codes "tables") a b c.remove-stores.ensures.updates refl
    ∙ taken_out (codes "registers") (codes "tables") members a c.remove-registers.ensures.updates refl) in
    let clock : option_map view c.remove-clock.result ≡ get_member (codes "clock") ms =
    found_in (codes "clock") members c.remove-clock.result
    (c.remove-clock.ensures.value ∙ taken_out (codes "tables")
    (codes "clock") b d c.remove-tables.ensures.updates refl
    ∙ taken_out (codes "stores") (codes "clock") a b c.remove-stores.ensures.updates refl
    ∙ taken_out (codes "registers") (codes "clock") members a c.remove-registers.ensures.updates refl) in
    let r = c.in_ok-registers.ensures ∙ ap (read_or [] entries_of) registers in
    let s = c.in_ok-stores.ensures.given ∙ ap (read_or [] stores_of) stores in
    let t = c.in_ok-tables.ensures.given ∙ ap (read_or [] tables_of) tables in
    let last = c.given_clock.ensures ∙ ap (read_or (pos 0) clock_of) clock in
    let known = c.requires in
    c.whole.ensures.whole ∙ (λ i. if sym known i then whole (r i) (s i) (t i) (last i) else None)
