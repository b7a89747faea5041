use Rattle.std.proofs.Common.{◌≡◌, [], ◌∷◌, ◌++◌, ap, ◌∙◌, length, map, rules}
use Rattle.plan_table.specs.declared.line.Line.{Line}
use Rattle.plan_table.specs.Opened.{opened_of}
use Rattle.plan_table.proofs.StepLemmas.{listed_more}
use Rattle.plan_table.proofs.listing.list_spot.Goals as goal

pub returns-in_ok-insert-in-Ok-clause-indexed : goal.returns-in_ok-insert-in-Ok-clause-indexed
returns-in_ok-insert-in-Ok-clause-indexed c =
    let count : c.len-number.result ≡ length c.args.lines.now.items = search rules in
    listed_more (map opened_of c.args.frames.now) c.args.index.now c.insert.new.self c.args.lines.now.items
    c.push.new.self.items c.args.spot c.in_ok-key.key c.len-number.result c.requires.indexed c.in_ok-key.ensures
    count c.in_ok-insert-in-Ok.ensures.updates
    (c.in-Ok.ensures.items ∙ ap (λ (l : Line). c.args.lines.now.items ++ l ∷ []) c.new_line.ensures)
