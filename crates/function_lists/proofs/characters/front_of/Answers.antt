use Rattle.std.proofs.Common.{◌∙◌, ap}
use Rattle.std.specs.Str.{chars}
use Rattle.function_lists.proofs.CharacterLemmas.{rest_fits, front_ends, front_alone}
use Rattle.function_lists.proofs.characters.front_of.Goals as goal

pub overflow_sub-text : goal.overflow_sub-text
overflow_sub-text c =
    rest_fits c.args.text.now c.after_front-rest.result.now c.args.count c.utf8.text c.after_front-rest.utf8
    c.after_front-rest.ensures

pub split_at-requires : goal.split_at-requires
split_at-requires c =
    front_ends c.args.text.now c.after_front-rest.result.now c.args.count c.utf8.text c.after_front-rest.utf8
    c.after_front-rest.ensures

pub returns : goal.returns
returns c =
    ap chars c.split_at.ensures.front
    ∙ front_alone c.args.text.now c.after_front-rest.result.now c.args.count c.utf8.text c.after_front-rest.utf8
    c.after_front-rest.ensures
