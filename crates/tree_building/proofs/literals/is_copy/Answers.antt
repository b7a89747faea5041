use Rattle.std.proofs.Common.{codes, chars, bytes_eq, ap, ◌∙◌, rules}
use Rattle.arm_value.proofs.TextLemmas.{bytes_eq-chars}
use Rattle.arm_env.proofs.Words.{word_copy}
use Rattle.tree_building.proofs.literals.is_copy.Goals as goal

pub returns : goal.returns
returns c =
    c.eq.ensures ∙ bytes_eq-chars c.as_str.result.now (codes "copy") c.as_str.utf8 (search rules)
    ∙ ap (λ n. bytes_eq n (chars (codes "copy"))) c.as_str.ensures.characters
    ∙ ap (bytes_eq c.args.name.now) word_copy
