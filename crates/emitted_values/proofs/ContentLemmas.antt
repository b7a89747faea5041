-- Values and loops that are built, as a template has them.
use Rattle.std.proofs.Common.{◌≡◌, Ok, Err, ap, ◌∙◌}
use Rattle.std.specs.Prelude.{Result, IfOk}
use Rattle.std.specs.declared.alloc.AllocError.{AllocError}
use Rattle.arm_value.specs.Json.{text}
use Rattle.arm_value.specs.View.{json}
use Rattle.arm_value.specs.declared.value.Value.{Value}
use Rattle.arm_value.specs.declared.value.Value.TheVariants as value
use Rattle.emitted_files.specs.Values.{IsContent, IsTree}
use Rattle.tree_building.specs.Templates.{TemplateTree, TemplateValue}
use Rattle.tree_building.specs.Templates as t
use Rattle.tree_building.specs.Written.{tree_json, IsWithin, ValueIsWithin}
use Rattle.template_parts.specs.declared.content.Content.TheVariants as content
use Rattle.tree_building.specs.Built.{Matches}
use Rattle.tree_building.specs.declared.parts.Looped.{Looped}
use Rattle.tree_building.specs.declared.parts.Written.TheVariants as w

pub plain_content : (v : TemplateValue) (x : Value) → Matches v (w.Tree x) → ValueIsWithin v
    → IsContent v (content.Value x)
plain_content (t.plain e) x m h = record { is = m; is_within = h }
plain_content (t.each c e) x m h = absurd m

pub looped : (v : TemplateValue) (l : Looped) → Matches v (w.Each l) → ValueIsWithin v
    → IsContent v (content.Copy (value.Text l.count) l.input)
looped (t.plain e) l m h = absurd m
looped (t.each c e) l m h = (record { is = ap text m.0; is_writable = h.0 }, record { is = m.1; is_within = h.1 })

-- a value that is no loop
pub is_tree : (e a : TemplateTree) → a ≡ e → IsWithin e → (r : Result Value AllocError)
    → IfOk r (λ v. json v ≡ tree_json a) → IfOk r (λ v. IsTree e (json v))
is_tree e a same h (Ok v) is = record { is = is ∙ ap tree_json same; is_within = h }
is_tree e a same h (Err x) is = tt
