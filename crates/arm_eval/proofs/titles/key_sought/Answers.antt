use Rattle.std.proofs.Common.{None, option_map, sym, ap, ◌∙◌}
use Rattle.reading.specs.Knowledge.{told}
use Rattle.arm_eval.specs.Titles.{key_sought}
use Rattle.arm_eval.specs.Words.{title_in, titles_in}
use Rattle.arm_env.proofs.Answers.{told-done}
use Rattle.arm_eval.proofs.titles.key_sought.Goals as goal

pub returns-in-None : goal.returns-in-None
returns-in-None g c =
    let p = g.K.Entries.known c.args.entries.now in
    ap (λ o. told p (key_sought (titles_in c.args.titles.now) c.args.place.now o))
    (sym c.in_ok-title.ensures ∙ ap (option_map title_in) c.in-None.is) ∙ told-done p None
