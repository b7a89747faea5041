use Rattle.std.proofs.Common.{Some, refl, sym, ap, ◌∙◌}
use Rattle.std.specs.Prelude.{codes}
use Rattle.std.proofs.lemmas.Int.{to_z-of_z}
use Rattle.foundation.proofs.AsciiWords.{word}
use Rattle.template_parts.specs.declared.fault.BindFault.TheVariants.{OutOfBounds}
use Rattle.fault_finding.proofs.BreakLemmas.{negative_count}
use Rattle.fault_finding.proofs.breaking.bounds_fault.Goals as goal

pub returns-in_ok-name : goal.returns-in_ok-name
returns-in_ok-name c =
    let fits = c.ranges.number in
    ap (λ x. Some (OutOfBounds x)) (c.in_ok-name.ensures ∙ word (codes "count") refl)
    ∙ sym (negative_count c.args.number (simp to_z-of_z at c.if-number-lt0.true))
