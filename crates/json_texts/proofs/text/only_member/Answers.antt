use Rattle.std.proofs.Common.{◌∙◌, sym, ap, option_map}
use Rattle.serde_json.proofs.Views.{members_len-members_view, view-lookup, view_of_ref}
use Rattle.serde_json.specs.View.{view, members_view}
use Rattle.json_texts.proofs.Members.{one_member, other_members}
use Rattle.json_texts.proofs.text.only_member.Goals as goal

pub returns-then-len-eq1 : goal.returns-then-len-eq1
returns-then-len-eq1 c =
    let es = c.args.members.now.entries in
    let name = c.args.name.now in
    view_of_ref c.get.result ∙ ap (option_map view) c.get.ensures.value ∙ view-lookup name es
    ∙ one_member name (members_view es) (members_len-members_view es ∙ sym c.len.ensures.len ∙ c.if-len-eq1.true)

pub returns-else-len-eq1 : goal.returns-else-len-eq1
returns-else-len-eq1 c =
    let es = c.args.members.now.entries in
    sym (other_members c.args.name.now (members_view es) (λ one. c.if-len-eq1.false (c.len.ensures.len ∙ sym (members_len-members_view es) ∙ one)))
