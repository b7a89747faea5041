use Rattle.std.proofs.Common.{◌≡◌, length, map, sym, ap, ◌∙◌, arith}
use Rattle.std.proofs.lemmas.List.{length-map}
use Rattle.arm_expr.specs.View.{tree_of}
use Rattle.arm_expr.proofs.ViewLemmas.{tree_of-Call}
use Rattle.emitted_resources.specs.Heads.{is_always}
use Rattle.emitted_resources.proofs.TextLemmas.{without_arguments, with_arguments}
use Rattle.emitted_resources.proofs.names.is_always.Goals as goal

pub returns-then-len-eq0 : goal.returns-then-len-eq0
returns-then-len-eq0 c =
    let es = c.in-Call.arguments.items in
    let size = length-map es tree_of in
    let none : length (map tree_of es) ≡ 0 = omega (arith, size, c.len.ensures, c.if-len-eq0.true) in
    c.is_true.ensures
    ∙ sym (ap is_always (ap tree_of c.in-Call.is ∙ tree_of-Call c.in-Call.name c.in-Call.arguments)
    ∙ without_arguments c.in-Call.name (map tree_of es) none)

pub returns-else-len-eq0 : goal.returns-else-len-eq0
returns-else-len-eq0 c =
    let es = c.in-Call.arguments.items in
    let size = length-map es tree_of in
    sym (ap is_always (ap tree_of c.in-Call.is ∙ tree_of-Call c.in-Call.name c.in-Call.arguments)
    ∙ with_arguments c.in-Call.name (map tree_of es)
    (λ e. absurd (omega (arith, e, size, c.len.ensures, c.if-len-eq0.false))))
