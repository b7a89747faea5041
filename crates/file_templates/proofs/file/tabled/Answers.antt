use Rattle.std.proofs.Common.{refl}
use Rattle.file_templates.specs.Faults.{IsCountOrMemory}
use Rattle.file_templates.specs.Parts.{AreWithTable}
use Rattle.file_templates.specs.Texts.{text_of}
use Rattle.file_templates.proofs.FaultLemmas.{refused, no_value}
use Rattle.file_templates.proofs.file.tabled.Goals as goal

pub returns-in-Ok-clause-parts : goal.returns-in-Ok-clause-parts
returns-in-Ok-clause-parts c = record { form = refl; table = refl; parts = c.in-Ok.ensures.parts }

pub returns-in-Err-clause-parts : goal.returns-in-Err-clause-parts
returns-in-Err-clause-parts c =
    no_value (AreWithTable c.args.form (text_of c.args.source.now) c.args.table) c.refuse.result c.in-Err.fault
    c.refuse.ensures

pub returns-in-Err-clause-fault : goal.returns-in-Err-clause-fault
returns-in-Err-clause-fault c =
    refused (IsCountOrMemory c.args.table) c.refuse.result c.in-Err.fault c.refuse.ensures c.in-Err.ensures.fault
