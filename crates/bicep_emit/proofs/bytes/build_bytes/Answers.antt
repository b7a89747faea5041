use Rattle.std.proofs.Common.{inl, refl}
use Rattle.arm_value.specs.View.{json}
use Rattle.template_tree.specs.View.{template_tree}
use Rattle.bicep_emit.proofs.BytesLemmas.{of_template, fault_of_template}
use Rattle.bicep_emit.proofs.bytes.build_bytes.Goals as goal

pub returns-in-Ok-clause-bytes : goal.returns-in-Ok-clause-bytes
returns-in-Ok-clause-bytes c =
    let t = c.args.template.now in
    of_template t (json c.in-Ok.value) c.in-Ok.ensures
    (c.written_templates_are_described.ensures (template_tree t) c.requires.keeps) c.bytes_of.result
    c.bytes_of.ensures.bytes

pub returns-in-Ok-clause-fault : goal.returns-in-Ok-clause-fault
returns-in-Ok-clause-fault c =
    fault_of_template c.args.template.now (json c.in-Ok.value) c.in-Ok.ensures c.bytes_of.result
    c.bytes_of.ensures.fault

pub returns-in-Err-clause-fault : goal.returns-in-Err-clause-fault
returns-in-Err-clause-fault c = inl refl
