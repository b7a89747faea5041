use Rattle.std.proofs.Common.{◌≡◌, ◌<◌, ◌≤◌, ℕ, List, false, get_or, length, ap, sym, subst, ◌∙◌}
use Rattle.std.proofs.lemmas.List.{get_or_read}
use Rattle.depend_graph.specs.Shape.{times, needs_of, is_done}
use Rattle.deploy_core.proofs.EndLemmas.{first_undone}
use Rattle.deploy_core.proofs.ending.undone_need.Goals as goal

pub returns : goal.returns
returns c =
    let e = c.in_ok-needs.ensures in
    let l : 0 < length c.in_ok-needs.needs.items = subst (λ (ns : List ℕ). 0 < length ns) (sym e) c.requires in
    let i = get_or_read c.in_ok-needs.needs.items 0 c.index.result.now l c.index.ensures 0
    ∙ ap (λ (ns : List ℕ). get_or ns 0 0) e in
    subst (λ (v : ℕ). (1 ≤ times (needs_of c.args.agenda.now.graph c.args.task) v)
    × (is_done c.args.agenda.now.graph v ≡ false)) (sym i)
    (first_undone c.args.agenda.now.graph.done (needs_of c.args.agenda.now.graph c.args.task) c.requires)
