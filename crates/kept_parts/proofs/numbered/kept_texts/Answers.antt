use Rattle.std.proofs.Common.{map, take, ap, sym, subst, ◌∙◌}
use Rattle.std.specs.Prelude.{Ok}
use Rattle.foundation.proofs.Lists.{map-push}
use Rattle.arm_expr.specs.Tree.{text}
use Rattle.kept_expressions.specs.Kept.{AreKeptHoles}
use Rattle.kept_parts.proofs.ListLemmas.{kept_more, take_next}
use Rattle.kept_parts.proofs.numbered.kept_texts.Goals as goal

pub loop-text-preserved : goal.loop-text-preserved
loop-text-preserved c =
    let i = c.loop-text.text-index in
    let x = c.text-item.result in
    subst (λ us. AreKeptHoles us c.in-Ok.more.items)
    (sym (ap (map text) (take_next c.args.texts.now i x c.loop-text-test.true c.text-item.is)
    ∙ map-push text (take i c.args.texts.now) x))
    (kept_more (map text (take i c.args.texts.now)) (text x) (Ok c.loop-text.all) c.kept_text.result (Ok c.in-Ok.more)
    c.in-Ok.ensures c.loop-text.invariant c.kept_text.ensures)
