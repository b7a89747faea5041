use Rattle.std.proofs.Common.{◌∙◌, length, sym, ap}
use Rattle.depend_graph.proofs.Keeping.{written_back}
use Rattle.depend_graph.proofs.Walking.{circle_before}
use Rattle.depend_graph.proofs.graph.Graph.circle_from.Goals as goal

pub returns-clause-circle : goal.returns-clause-circle
returns-clause-circle c =
    let circle = c.in_ok-circle.circle in
    let before = circle_before c.args.self.now c.args.done.now circle.items c.requires.later
    c.in_ok-circle.ensures.circle in
    let turned = c.turn.ensures.circle c.args.self.now (rw c.deref_mut.ensures.value before) in
    rw (written_back circle.items c.turn.new.circle circle.len (c.turn.ensures.size
    ∙ ap length c.deref_mut.ensures.value ∙ sym circle.ok.0) (sym circle.ok.0)) turned
