-- What holds of how deep templates nest.
use Rattle.std.specs.Prelude.{◌≤◌, ◌<◌, ◌-◌, ◌^◌, ℕ}
use Rattle.arm_value.specs.Json.{nesting}
use Rattle.template_tree.specs.Tree.{TemplateTree}
use Rattle.template_written.specs.Keeps.{Keeps}
use Rattle.template_written.specs.Written.{written}
use Rattle.template_nestings.specs.Nestings.{template_nesting}

-- what is written of a template nests no deeper
abbrev pub NestsNoDeeper : Type 0
NestsNoDeeper =
    (u : TemplateTree) (n : ℕ) → n < 2 ^ 64 - 1 → template_nesting u ≤ n → nesting (written u) ≤ n

-- and as deep, where the template keeps the rules
abbrev pub NestsAsDeep : Type 0
NestsAsDeep = (u : TemplateTree) → Keeps u → (n : ℕ) → nesting (written u) ≤ n → template_nesting u ≤ n
