use Rattle.arm_value.specs.View.{json}
use Rattle.std.proofs.Common.{inl, refl}
use Rattle.bicep_emit.proofs.BytesLemmas.{short_bytes, long_bytes}
use Rattle.bicep_emit.proofs.bytes.bytes_of.Goals as goal

pub returns-in-Ok-clause-bytes : goal.returns-in-Ok-clause-bytes
returns-in-Ok-clause-bytes c =
    short_bytes (json c.args.value.now) c.in-Ok.bytes c.in-Ok.ensures.text c.in-Ok.ensures.reads_back
    c.know_characters.ensures c.has_whole_numbers.ensures c.short.result c.short.ensures.short

pub returns-in-Ok-clause-fault : goal.returns-in-Ok-clause-fault
returns-in-Ok-clause-fault c =
    long_bytes (json c.args.value.now) c.in-Ok.bytes c.in-Ok.ensures.text c.short.result c.short.ensures.fault

pub returns-in-Err-clause-fault : goal.returns-in-Err-clause-fault
returns-in-Err-clause-fault c = inl refl
