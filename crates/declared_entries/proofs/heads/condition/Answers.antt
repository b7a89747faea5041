use Rattle.std.proofs.Common.{ap, sym, ◌∙◌}
use Rattle.std.specs.Prelude.{option_map}
use Rattle.bicep_resolved.specs.View.{source_of}
use Rattle.bicep_declared.specs.View.{declared_tree, body_tree}
use Rattle.declared_table.specs.Seen.{file_in}
use Rattle.declared_entries.proofs.SoundLemmas.{own_condition, borrowed}
use Rattle.declared_entries.proofs.heads.condition.Goals as goal

pub body_condition-requires-clause-own : goal.body_condition-requires-clause-own
body_condition-requires-clause-own c = λ e h.
    own_condition (file_in c.args.table.now) c.args.number (option_map (λ d. declared_tree d.now) c.args.declared)
    c.requires.sound c.requires.declared (body_tree c.in-Some.body.now) (sym c.in-Some.ensures) e
    (ap (option_map source_of) (sym c.as_ref.ensures.value) ∙ borrowed c.as_ref.result ∙ h)
