use Rattle.std.proofs.Common.{List, Option, refl, sym, subst}
use Rattle.std.specs.BTreeSet.{BTreeSet}
use Rattle.std.specs.Prelude.{ℕ}
use Rattle.template_parts.specs.declared.parameter.Parameter.{Parameter}
use Rattle.source_templates.specs.Fits.{AreMentioned}
use Rattle.file_templates.specs.Faults.{IsMemoryFault}
use Rattle.file_templates.specs.Parts.{AreParts, IsMeasureOf}
use Rattle.file_templates.specs.declared.fault.EmitFault.TheVariants as fault
use Rattle.file_templates.proofs.FaultLemmas.{refused, no_value}
use Rattle.file_templates.proofs.file.measured_parts.Goals as goal

pub measure_of-requires-clause-mentioned : goal.measure_of-requires-clause-mentioned
measure_of-requires-clause-mentioned c =
    subst (λ (l : List (BTreeSet ℕ)). AreMentioned c.args.table.now l) (sym c.as_slice-2.ensures.value)
    c.requires.mentioned

pub returns-in-Ok-clause-parts : goal.returns-in-Ok-clause-parts
returns-in-Ok-clause-parts c = record {
  rules_are = refl;
  metadata_is = refl;
  mentioned_are = refl;
  measure =
      subst
      (λ (l : List (Option Parameter)). IsMeasureOf c.args.form c.args.table.now l c.args.metadata c.in-Ok.measure)
      c.as_slice.ensures.value
      c.in-Ok.ensures;
}

pub returns-in-Err-clause-parts : goal.returns-in-Err-clause-parts
returns-in-Err-clause-parts c =
    no_value (AreParts c.args.form c.args.table.now c.args.rules.items c.args.metadata c.args.mentioned.items)
    c.refuse.result fault.OutOfMemory
    c.refuse.ensures

pub returns-in-Err-clause-fault : goal.returns-in-Err-clause-fault
returns-in-Err-clause-fault c = refused IsMemoryFault c.refuse.result fault.OutOfMemory c.refuse.ensures refl
