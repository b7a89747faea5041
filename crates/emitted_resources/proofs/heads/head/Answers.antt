use Rattle.std.proofs.Common.{sym, subst}
use Rattle.bicep_declared.specs.View.{body_tree}
use Rattle.emitted_values.specs.EmittedTrees.{count_of}
use Rattle.emitted_values.specs.Values.{AreBoth}
use Rattle.emitted_values.specs.Seen.{whole_in}
use Rattle.emitted_values.proofs.FilledLemmas.{items_given}
use Rattle.emitted_resources.specs.Heads.{IsLoopOf}
use Rattle.emitted_resources.specs.Resources.{IsHead}
use Rattle.emitted_resources.proofs.HeadLemmas.{head_is}
use Rattle.emitted_resources.proofs.heads.head.Goals as goal

pub returns-in-Ok-copy : goal.returns-in-Ok-copy
returns-in-Ok-copy c = λ k t a.
    let s = c.args.table.now in
    let n = c.args.number in
    let l = (body_tree c.args.body.now).each in
    let symbol = c.args.symbol.now in
    let needs = c.args.needs in
    subst (IsHead (whole_in s) n l k symbol needs) (sym c.joined.ensures)
    (head_is (whole_in s) n l k symbol needs c.args.kind c.in-Ok.names c.in-Ok-copy.copy t a c.in-Ok.ensures
    (subst (λ x. AreBoth (λ l c. IsLoopOf symbol (count_of x) needs.batches c) l c.in-Ok-copy.copy)
    (items_given s c.requires n) c.in-Ok-copy.ensures))
