-- What is written of a template that some value states.
use Rattle.std.proofs.Common.{◌≡◌, ◌≤◌, Some, Result, Ok, Err, IfOk, sym, subst, arith}
use Rattle.std.specs.declared.alloc.AllocError.{AllocError}
use Rattle.arm_value.specs.Json.{Json, nesting}
use Rattle.arm_value.specs.View.{json}
use Rattle.arm_value.specs.declared.value.Value.{Value}
use Rattle.template_meaning.proofs.OnceLemmas.{once_template}
use Rattle.template_tree.specs.Tree.{TemplateTree}
use Rattle.template_written.specs.Keeps.{Keeps}
use Rattle.template_written.specs.Written.{written}
use Rattle.template_written.proofs.DescribedLemmas.{described}
use Rattle.template_written.proofs.KeptLemmas.{described_keep}
use Rattle.template_trips.proofs.TemplateLemmas.{fault_kept, nesting_kept}
use Rattle.arm_template.specs.States.{States, IsStated}

-- a template that some value states keeps the rules by which it can be written
pub stated_keeps : (t : TemplateTree) → IsStated t → Keeps t
stated_keeps t s = described_keep (Some s.by) t s.value.0 s.states.described

pub stated_nests : (t : TemplateTree) → IsStated t → nesting (written t) ≤ 120
stated_nests t s =
    omega (arith, nesting_kept s.by t s.states.faultless s.states.described, s.value.1)

pub written_states : (t : TemplateTree) → IsStated t → States (written t) t
written_states t s = record {
  faultless = fault_kept s.by t s.states.faultless s.states.described;
  described = described t (stated_keeps t s);
}

pub states_once : (v : Json) (t u : TemplateTree) → States v t → States v u → t ≡ u
states_once v t u a b = once_template (Some v) t u a.described b.described

-- what was written of such a template states it
pub all_state : (t : TemplateTree) → IsStated t → (r : Result Value AllocError) → IfOk r (λ v. json v ≡ written t)
    → IfOk r (λ v. States (json v) t)
all_state t s (Ok v) e = subst (λ j. States j t) (sym e) (written_states t s)
all_state t s (Err e) h = h
