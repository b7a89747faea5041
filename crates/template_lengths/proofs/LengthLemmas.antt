-- A template that is measured as nesting above 120 is written so.
use Rattle.std.proofs.Common.{◌≡◌, ◌≤◌, ◌<◌, ℕ, subst, arith}
use Rattle.arm_value.specs.Json.{nesting}
use Rattle.template_tree.specs.Tree.{TemplateTree}
use Rattle.template_written.specs.Keeps.{Keeps}
use Rattle.template_written.specs.Written.{written}
use Rattle.template_nestings.specs.Laws.{NestsNoDeeper, NestsAsDeep}
use Rattle.template_nestings.specs.Nestings.{template_nesting}
use Rattle.template_lengths.specs.Lengths.{IsLength}

pub too_deep : NestsAsDeep → (t : TemplateTree) → Keeps t → (d : ℕ) → d ≡ template_nesting t → 120 < d → IsLength t 0
too_deep law t keeps d e l = record {
  least = omega arith;
  exact = λ h. absurd (no (law t keeps 120 h));
}
  where
    no : template_nesting t ≤ 120 → ⊥
    no h = omega (arith, h, e, l)

pub flat : NestsNoDeeper → (t : TemplateTree) (d : ℕ) → d ≡ template_nesting t → d ≤ 120 → nesting (written t) ≤ 120
flat law t d e l = law t 120 (omega arith) (subst (λ n. n ≤ 120) e l)
