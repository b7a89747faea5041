use Rattle.std.proofs.Common.{◌<◌, ◌∙◌, ℕ, [], length, get_or, sym, ap, subst, List}
use Rattle.std.proofs.lemmas.List.{get_or-map}
use Rattle.std.specs.declared.vec.Vec.{Vec}
use Rattle.std.specs.declared.alloc.Global.{Global}
use Rattle.foundation.proofs.Comparisons.{lt_of_true}
use Rattle.depend_graph.proofs.Keeping.{dependents_once}
use Rattle.depend_graph.proofs.graph.Graph.dependents.Goals as goal

pub returns-in-Some-clause-once : goal.returns-in-Some-clause-once
returns-in-Some-clause-once c =
    let node = c.args.node in
    let list = c.in-Some.dependents.now in
    let lists = c.self.inside.dependents.items in
    let P : List (Vec ℕ Global) → Type 0 = λ xs. node < length xs in
    let within : node < length lists =
    subst P c.deref.ensures.value (lt_of_true node (length c.deref.result.now) (sym c.in-Some.ensures.lookup.0)) in
    let items = (λ (v : Vec ℕ Global). v.items) in
    λ u. dependents_once _ _ _ _ node u c.as_slice.result.now c.self.invariant (c.as_slice.ensures.value
    ∙ ap items (c.in-Some.ensures.lookup.1 ∙ ap (λ xs. get_or xs node list) c.deref.ensures.value)
    ∙ sym (get_or-map items lists node list [] within))
