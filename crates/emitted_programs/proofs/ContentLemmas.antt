-- Values and loops of a template, read as what they are written of.
use Rattle.std.proofs.Common.{◌≡◌, ℕ, List, ap, ap₂}
use Rattle.arm_env.specs.Look.{Surroundings}
use Rattle.arm_eval.specs.Trees.{tree_value}
use Rattle.arm_eval.specs.Looped.{looped}
use Rattle.arm_eval.specs.Outputs as outputs
use Rattle.template_parts.specs.declared.content.Content.{Content}
use Rattle.template_parts.specs.declared.content.Content.TheVariants as content
use Rattle.plan_cells.specs.Meaning as template
use Rattle.emitted_trees.specs.Standing.{named_value, output_value}
use Rattle.emitted_trees.specs.Templates.{TemplateValue}
use Rattle.emitted_trees.specs.Templates as t
use Rattle.emitted_trees.specs.Written.{ValueIsWithin}
use Rattle.emitted_sites.specs.Values.{IsContent}

pub content_within : (v : TemplateValue) (c : Content) → IsContent v c → ValueIsWithin v
content_within (t.plain e) (content.Value j) h = h.is_within
content_within (t.plain e) (content.Copy n input) h = absurd h
content_within (t.each k e) (content.Value j) h = absurd h
content_within (t.each k e) (content.Copy n input) h = (h.0.is_writable, h.1.is_within)

pub named_content : (name : List ℕ) (v : TemplateValue) (c : Content) (around : Surroundings) → IsContent v c
    → template.content_value name c around ≡ named_value name v around
named_content name (t.plain e) (content.Value j) around h = ap (λ j. tree_value j around) h.is
named_content name (t.plain e) (content.Copy n input) around h = absurd h
named_content name (t.each k e) (content.Value j) around h = absurd h
named_content name (t.each k e) (content.Copy n input) around h =
    ap₂ (λ n j. looped name n j around) h.0.is h.1.is

pub output_content : (v : TemplateValue) (c : Content) (around : Surroundings) → IsContent v c
    → template.output_content c around ≡ output_value v around
output_content (t.plain e) (content.Value j) around h = ap (λ j. tree_value j around) h.is
output_content (t.plain e) (content.Copy n input) around h = absurd h
output_content (t.each k e) (content.Value j) around h = absurd h
output_content (t.each k e) (content.Copy n input) around h =
    ap₂ (λ n j. outputs.content_value (outputs.a_copy (record { count = n; input = j })) around) h.0.is h.1.is
