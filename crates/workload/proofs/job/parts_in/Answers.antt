use Rattle.std.proofs.Common.{◌≡◌, ◌∙◌, [], None, if◌then◌else◌, refl, sym, ap, codes, option_map, option_and_then}
use Rattle.serde_json.specs.Find.{get_member}
use Rattle.serde_json.specs.View.{view, members_view}
use Rattle.json_texts.specs.Shapes.{read_or}
use Rattle.json_texts.specs.Texts.{text_of}
use Rattle.json_texts.proofs.Members.{found_in, taken_out}
use Rattle.workload.specs.Jobs.{parameters_of, job_with}
use Rattle.workload.proofs.job.parts_in.Goals as goal

pub returns : goal.returns
returns c =
    let members = c.args.members.now in
    let ms = members_view members.entries in
    let a = c.remove-method.new.self in
    let b = c.remove-path.new.self in
    let d = c.remove-parameters.new.self in
    let method : option_map view c.remove-method.result ≡ get_member (codes "method") ms = found_in (codes "method") members c.remove-method.result c.remove-method.ensures.value in
    let path : option_map view c.remove-path.result ≡ get_member (codes "path") ms =
    found_in (codes "path") members c.remove-path.result
    (c.remove-path.ensures.value ∙ taken_out (codes "method")
    (codes "path") members a c.remove-method.ensures.updates refl) in
    let parameters : option_map view c.remove-parameters.result ≡ get_member (codes "params") ms =
    found_in (codes "params") members c.remove-parameters.result
    (c.remove-parameters.ensures.value ∙ taken_out (codes "path")
    (codes "params") a b c.remove-path.ensures.updates refl
    ∙ taken_out (codes "method") (codes "params") members a c.remove-method.ensures.updates refl) in
    let body : option_map view c.remove-body.result ≡ get_member (codes "body") ms =
    found_in (codes "body") members c.remove-body.result
    (c.remove-body.ensures.value ∙ taken_out (codes "params")
    (codes "body") b d c.remove-parameters.ensures.updates refl
    ∙ taken_out (codes "path") (codes "body") a b c.remove-path.ensures.updates refl
    ∙ taken_out (codes "method") (codes "body") members a c.remove-method.ensures.updates refl) in
    let m = c.in_ok-method.ensures ∙ ap (read_or (codes "GET") text_of) method in
    let p = c.in_ok-path.ensures ∙ ap (option_and_then text_of) path in
    let ps = c.in_ok-parameters.ensures ∙ ap (read_or [] parameters_of) parameters in
    let t = c.in_ok-body.ensures ∙ ap (read_or [] text_of) body in
    let known = c.requires in
    c.job_with.ensures ∙ (λ i. if sym known i then job_with (m i) (p i) (ps i) (t i) else None)
