use Rattle.std.proofs.Common.{sym, ap, ◌∙◌, map}
use Rattle.plan_sight.specs.Sites.{symbols_in}
use Rattle.plan_table.specs.Listed.{listed_of}
use Rattle.plan_sight.proofs.LookLemmas.{scope_is}
use Rattle.plan_telling.specs.Symbols.{symbolic, symbols_at}
use Rattle.plan_telling.proofs.telling.told_anew.Goals as goal

pub told_lent-told-requires-clause-symbols : goal.told_lent-told-requires-clause-symbols
told_lent-told-requires-clause-symbols c =
    ap (map symbolic) c.as_slice-in-Ok.ensures.value ∙ c.in-Ok.ensures
    ∙ ap (λ xs. symbols_in (map listed_of xs)) c.as_slice.ensures.value
    ∙ ap symbols_at (sym (scope_is c.args.register.now.table c.args.site.now.frame c.index.result.now c.requires.there
    c.index.ensures))
