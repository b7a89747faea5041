-- What declares resources and modules.
use Rattle.std.proofs.Common.{◌≡◌, ℕ, false, List, Option, Result, Ok, Err, refl, ap, ◌∙◌, subst, sym}
use Rattle.std.specs.Prelude.{IfOk}
use Rattle.std.specs.declared.alloc.AllocError.{AllocError}
use Rattle.arm_expr.specs.Tree.{Tree}
use Rattle.arm_value.specs.View.{json}
use Rattle.arm_value.specs.declared.value.Value.{Value}
use Rattle.template_parts.specs.declared.looping.ResourceCopy.{ResourceCopy}
use Rattle.deploy_cells.specs.Puts.{Kind}
use Rattle.bicep_resolved.specs.Source.{PropertyTrees, LoopTree}
use Rattle.bicep_declared.specs.Declarations.{BodyTree}
use Rattle.bicep_meaning.specs.Instances.{body_fields}
use Rattle.emitted_expressions.specs.Emitted.{Frame}
use Rattle.emission_laws.specs.Sound.{IsSound}
use Rattle.emitted_declarations.specs.Declared.{Emission}
use Rattle.emitted_values.specs.Written.{tree_json}
use Rattle.emitted_values.specs.Files.{frames_around}
use Rattle.emitted_values.specs.Values.{AreBoth, plain_or_expression}
use Rattle.emitted_values.specs.Seen.{Shape, sight, file_in, whole_in, full_name_in, condition_in}
use Rattle.emitted_values.specs.Filled.{IsFilled, emission_sight}
use Rattle.emitted_values.proofs.SameLemmas.{members_same}
use Rattle.emitted_values.proofs.FilledLemmas.{expressions_given}
use Rattle.emitted_bodies.specs.Bodies.{body_members}
use Rattle.emitted_resources.specs.Heads.{whole_name, whole_condition, loop_count, IsConditionText, IsLoopOf}
use Rattle.emitted_resources.specs.Limits.{members_at}
use Rattle.emitted_resources.specs.Resources.{IsHead}
use Rattle.emitted_resources.specs.declared.needs.Needs.{Needs}
use Rattle.emitted_resources.proofs.TurnLemmas.{is_run}

-- a name and a condition
abbrev pub AreNames : Tree → Tree → Value × Option Value → Type 0
AreNames a b x = (json x.0 ≡ tree_json (plain_or_expression a)) × IsConditionText b x.1

module _ (s : Shape) (filled : IsFilled s) (n : ℕ) where
  module _ (l : Option LoopTree) (gs : List Frame) (is : gs ≡ frames_around (whole_in s) n l) where
    pub name_placed : full_name_in s n gs ≡ whole_name (whole_in s) n l
    name_placed =
        ap (full_name_in s n) is
        ∙ filled.names n (frames_around (whole_in s) n l) (is_run (whole_in s) n l)

    pub condition_placed : condition_in s n gs ≡ whole_condition (whole_in s) n l
    condition_placed =
        ap (condition_in s n) is
        ∙ filled.conditions n (frames_around (whole_in s) n l) (is_run (whole_in s) n l)

    pub names_placed : (r : Result (Value × Option Value) AllocError)
        → IfOk r (AreNames (full_name_in s n gs) (condition_in s n gs))
        → IfOk r (AreNames (whole_name (whole_in s) n l) (whole_condition (whole_in s) n l))
    names_placed (Err e) h = tt
    names_placed (Ok x) h = (
      h.0 ∙ ap (λ e. tree_json (plain_or_expression e)) name_placed,
      subst (λ e. IsConditionText e x.1) condition_placed h.1,
    )

  module _ (b : BodyTree) (sound : IsSound (file_in s)) where
    pub members_placed : (ps : PropertyTrees) (gs : List Frame) → ps ≡ b.fields
        → gs ≡ frames_around (whole_in s) n b.each → body_members (sight s) ps gs ≡ members_at s n b
    members_placed ps gs p q =
        members_same (sight s) (emission_sight s) (expressions_given s filled sound) (body_fields ps) gs
        ∙ (λ i. body_members (emission_sight s) (p i) (q i))

-- what was joined declares the resource
pub head_is : (e : Emission) (n : ℕ) (l : Option LoopTree) (k : Kind) (symbol : List ℕ) (needs : Needs)
    (kind : List ℕ × List ℕ) (names : Value × Option Value) (copy : Option ResourceCopy) → k.type ≡ kind.0
    → k.api ≡ kind.1 → AreNames (whole_name e n l) (whole_condition e n l) names
    → AreBoth (λ l c. IsLoopOf symbol (loop_count e n) needs.batches c) l copy
    → IsHead e n l k symbol needs (record {
      symbol = needs.symbol;
      existing = false;
      kind = kind.0;
      api_version = kind.1;
      name = names.0;
      condition = names.1;
      depends_on = needs.depends_on;
      copy = copy;
      metadata = needs.metadata;
    })
head_is e n l k symbol needs kind names copy t a h c = record {
  kind = sym t;
  api = sym a;
  name = h.0;
  condition = h.1;
  loop = c;
  symbol = refl;
  depends_on = refl;
  existing = refl;
  metadata = refl;
}
