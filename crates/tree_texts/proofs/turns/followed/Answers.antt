use Rattle.std.proofs.Common.{◌++◌, ap, ◌∙◌}
use Rattle.foundation.proofs.Options.{if_ok}
use Rattle.emitted_expressions.specs.Sight.{frames_of}
use Rattle.tree_texts.proofs.TurnLemmas.{first_frame}
use Rattle.tree_texts.proofs.turns.followed.Goals as goal

pub returns-in-Ok : goal.returns-in-Ok
returns-in-Ok c = λ f h.
    if_ok _ _ c.with_all.result c.with_all.ensures
    (λ ts e.
    e
    ∙ ap (λ fs. fs ++ frames_of c.args.turns.now)
    (first_frame c.new.result f c.args.first c.in-Ok.all c.new.ensures.items c.in-Ok.ensures h))
