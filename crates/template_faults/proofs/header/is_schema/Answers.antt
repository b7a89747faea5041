use Rattle.std.proofs.Common.{◌∙◌, ap}
use Rattle.arm_value.specs.Look.{fold}
use Rattle.arm_value.proofs.TextLemmas.{fold-encodes}
use Rattle.template_faults.specs.Header.{ends_as_schema, is_schema}
use Rattle.template_faults.proofs.header.is_schema.Goals as goal

pub returns : goal.returns
unfolding is_schema
returns c =
    c.ends_as_schema.ensures
    ∙ ap ends_as_schema
    (c.as_bytes.ensures.value ∙ c.in_ok-address.ensures ∙ ap fold c.as_str.ensures.bytes ∙ fold-encodes c.args.text.now)
