-- What is planned is what the program in the files means.
use Rattle.std.proofs.Common.{◌≡◌, ◌≤◌, ◌∙◌, ℕ, List, [], Option, Some, None, refl, sym, subst, chars}
use Rattle.arm_ids.specs.Held.{HeldResource}
use Rattle.arm_ids.specs.declared.id.Place.{Place}
use Rattle.arm_value.specs.Fault.{Gives}
use Rattle.arm_value.specs.Json.{Json}
use Rattle.arm_value.specs.Reading.{reading, data_of, not_whole}
use Rattle.serde_json.specs.Data.{Data, depth}
use Rattle.bicep_emission.specs.Answered as emission
use Rattle.deployment_theorem.specs.Laws.{PlansAreOfSources}
use Rattle.deployment_theorem.proofs.OrderlyLemmas.{defaults_orderly}
use Rattle.emitted_worlds.specs.Facts.{HoldsResources}
use Rattle.plan_cells.specs.Desired.{held_state}
use Rattle.read_backs.specs.Characters.{HasCharacters}
use Rattle.request_places.specs.Places.{PlacesArePlain, HasNoSlash, place_of}
use Rattle.source_builds.specs.Laws.{BuiltProgramsArePlanned}
use Rattle.source_deployments.specs.Laws.{DesiredStatesAreOfSources}
use Rattle.source_deployments.specs.Sources.{AreBytesOf, HasOrderlyDefaults}
use Rattle.template_meaning.specs.Describes.{Describes}
use Rattle.template_tree.specs.Tree.{TemplateTree}
use Rattle.read_backs.specs.Texts.{IsReadBack}

one_data : {a b : Data} → Some a ≡ Some b → a ≡ b
one_data e = cc

-- what was read back is what was written
same_value : ((read : Option Data) (j k : Json) → HasCharacters j → HasCharacters k → Gives read j → Gives read k
    → j ≡ k) → (read : Option Data) (j k : Json) → read ≡ Some (data_of j) → HasCharacters j → HasCharacters k
    → Gives read k → j ≡ k
same_value once read j k is h i g =
    once read j k h i (subst (λ (d : Data). (read ≡ Some d) × (depth d ≤ 120) × (not_whole d ≡ None)) same g) g
  where
    same : data_of k ≡ data_of j
    same = one_data (sym g.0 ∙ is)

-- the template whose bytes were read back has orderly defaults
read_orderly : ((read : Option Data) (j k : Json) → HasCharacters j → HasCharacters k → Gives read j → Gives read k
    → j ≡ k) → (u : TemplateTree) (bytes : List ℕ) (v : Json) → AreBytesOf u bytes → IsReadBack bytes v
    → HasOrderlyDefaults u
read_orderly once u bytes v are back =
    defaults_orderly v u
    (subst (λ (j : Json). Describes j u)
    (same_value once (reading bytes) are.value v are.reads are.characters back.characters back.gives) are.described)
    back.rules.0

-- nothing is held
nothing_held : (held : List HeldResource) → held ≡ [] → HoldsResources (held_state held)
nothing_held held e =
    subst (λ (h : List HeldResource). HoldsResources (held_state h)) (sym e) (λ k types. refl)

plain_so : (a b : Place) → a ≡ b → HasNoSlash b → emission.IsPlainPlace a
plain_so a b e h =
    subst emission.IsPlainPlace (sym e) (record { subscription = h.subscription; group = h.group })

pub plans_of : ((read : Option Data) (j k : Json) → HasCharacters j → HasCharacters k → Gives read j → Gives read k
    → j ≡ k) → PlacesArePlain → BuiltProgramsArePlanned → DesiredStatesAreOfSources → PlansAreOfSources
plans_of once places planned states folder d bytes x built plan =
    let q = plan.request in
    let source = planned folder d.file d.form bytes plan.value q x built plan.is_read plan.is_plan in
    record {
      bytes = bytes;
      request = q;
      asked = plan.asked;
      source = source;
      means =
          states folder (chars d.file) d.form source.sources bytes q x source.program source.is_plan
          (read_orderly once source.is_plan.template bytes plan.value source.is_plan.are_bytes plan.is_read)
          (plain_so q.place (place_of d.subscription d.group d.name) plan.asked.place
          (places d.subscription d.group d.name plan.asked.in_form))
          (nothing_held q.held plan.asked.held);
    }
