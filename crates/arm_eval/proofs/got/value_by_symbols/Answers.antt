use Rattle.std.proofs.Common.{◌≡◌, ◌∙◌, [], List, map, ap, subst}
use Rattle.arm_value.specs.View.{json}
use Rattle.reading.specs.Reading.{through}
use Rattle.reading.specs.Knowledge.{told}
use Rattle.arm_env.specs.Answer.{Gives}
use Rattle.arm_env.specs.Known.{known_in}
use Rattle.arm_env.specs.Sight.{here}
use Rattle.arm_expr.specs.View.{tree_of}
use Rattle.expression_values.specs.Meaning.{value}
use Rattle.arm_eval.specs.Titles.{Listed, titled, unnamed}
use Rattle.arm_eval.specs.Words.{listed_in}
use Rattle.arm_eval.proofs.got.value_by_symbols.Goals as goal

pub returns : goal.returns
returns c =
    let listed : map listed_in c.as_slice.result.now ≡ map unnamed c.args.env.now.symbols.items =
    ap (map listed_in) c.as_slice.ensures.value ∙ c.in_ok-symbols.ensures ∙ ap (map unnamed) c.deref.ensures.value in
    subst (λ (ls : List Listed). Gives json c.titled_value_of-found.result (told (known_in c.args.env.now)
    (through (titled (record { symbols = ls; loops = [] }) c.args.around.now.place.now)
    (value (here c.args.around.now) (tree_of c.args.e.now))))) listed c.titled_value_of-found.ensures
