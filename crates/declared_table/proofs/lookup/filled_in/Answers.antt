use Rattle.std.proofs.Common.{sym, subst, refl}
use Rattle.foundation.proofs.Comparisons.{lt_of_true, le_of_false}
use Rattle.ordered_emissions.specs.Holes.{fill, nearest}
use Rattle.emitted_expressions.specs.Built.{Is}
use Rattle.emitted_expressions.specs.Sight.{frame_of}
use Rattle.declared_table.proofs.RunLemmas.{first_run, no_run}
use Rattle.declared_table.proofs.lookup.filled_in.Goals as goal

pub returns-in-Some : goal.returns-in-Some
returns-in-Some c = λ t h.
    let turn = c.in-Some.turn.now in
    subst (λ f. Is (fill f t) c.filled.result)
    (sym (first_run c.args.turns.now turn (lt_of_true _ _ (sym c.in-Some.ensures.lookup.0))
    c.in-Some.ensures.lookup.1))
    (c.filled.ensures t (frame_of turn) h refl refl)

pub returns-in-None : goal.returns-in-None
returns-in-None c = λ t h.
    subst (λ fs. Is (fill (nearest fs) t) c.filled_without.result)
    (sym (no_run c.args.turns.now (le_of_false _ _ (sym c.in-None.ensures.lookup.0))))
    (c.filled_without.ensures t h)
