use Rattle.std.proofs.Common.{ℕ, List, None, Some, sym, ap, ◌∙◌}
use Rattle.arm_value.specs.Look.{is_same_folded}
use Rattle.template_parts.specs.declared.value_type.ValueType.TheVariants as type
use Rattle.template_members.proofs.ItemLemmas.{neither}
use Rattle.template_members.proofs.WordLemmas.{chars_object, chars_secureObject}
use Rattle.template_members.proofs.kind.object_type.Goals as goal

pub returns : goal.returns
returns c =
    neither _ _ (Some type.Object) (Some type.SecureObject) None
    (sym (c.equals_ignore_case.ensures ∙ ap (λ (w : List ℕ). is_same_folded w c.args.word.now) chars_object)
    ∙ c.if-equals_ignore_case.false)
    (sym (c.equals_ignore_case-2.ensures ∙ ap (λ (w : List ℕ). is_same_folded w c.args.word.now) chars_secureObject)
    ∙ c.if-equals_ignore_case-2.false)
