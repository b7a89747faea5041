use Rattle.std.proofs.Common.{Some, sym, ap, ◌∙◌}
use Rattle.foundation.proofs.AsciiWords.{word}
use Rattle.template_parts.specs.declared.fault.BindFault.TheVariants.{WrongType}
use Rattle.plan_faults.specs.Rules.{wrong_unless}
use Rattle.fault_finding.proofs.breaking.wrong_unless.Goals as goal

pub returns-in_ok-name : goal.returns-in_ok-name
returns-in_ok-name c =
    ap (λ x. Some (WrongType x)) (c.in_ok-name.ensures ∙ word c.args.name.now c.requires.word)
    ∙ ap (λ b. wrong_unless b c.args.name.now) (sym c.if-is_right.false)
