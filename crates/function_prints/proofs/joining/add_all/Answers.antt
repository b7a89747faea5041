use Rattle.std.proofs.Common.{ℕ, List, ◌++◌, ◌∙◌, ap, string_bytes}
use Rattle.std.specs.Str.{chars}
use Rattle.function_prints.proofs.TextLemmas.{between_more, between_ends}
use Rattle.function_prints.proofs.joining.add_all.Goals as goal

pub loop-value-preserved : goal.loop-value-preserved
loop-value-preserved c =
    between_more (chars (string_bytes c.loop-value.out)) (chars (string_bytes c.add.new.out))
    (chars (string_bytes c.add-in-loop-value.new.out)) c.args.between.now c.args.values.now
    c.loop-value.value-index c.value-item.result _ c.loop-value-test.true c.value-item.is
    c.in_ok-add.ensures (c.in_ok-add-2.ensures
    ∙ ap (λ (r : List ℕ). chars (string_bytes c.add.new.out) ++ r) c.in_ok-text.ensures) c.loop-value.invariant

pub returns : goal.returns
returns c = between_ends (chars (string_bytes c.loop-value.out)) c.args.between.now c.args.values.now
    c.loop-value.value-index _ c.loop-value-test.false c.loop-value.invariant
