use Rattle.std.proofs.Common.{◌∙◌, ap, ◌++◌, ◌∷◌, []}
use Rattle.tag_needs.proofs.NumberLemmas.{one_more}
use Rattle.tag_needs.proofs.numbers.list_tag.Goals as goal

pub returns : goal.returns
returns c =
    one_more c.args.numbers.now c.take_numbers-list.new.numbers c.insert.new.self c.args.tag _ c.args.number
    c.take_numbers-list.ensures.away c.in_ok-insert.ensures.updates
    (c.in_ok-push.ensures.items ∙ ap (λ xs. xs ++ c.args.number ∷ []) c.take_numbers-list.ensures.taken)
