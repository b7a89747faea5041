-- Members of a body, of which some are left.
use Rattle.std.proofs.Common.{◌≡◌, ◌≤◌, ℕ, max, Bool, true, false, List, [], ◌∷◌, Some, refl, arith}
use Rattle.std.specs.Prelude.{if◌then◌else◌}
use Rattle.bicep_resolved.specs.Source.{PropertyTrees}
use Rattle.bicep_resolved.specs.Source as s
use Rattle.bicep_resolved.specs.View.{PropertyTree, properties}
use Rattle.bicep_meaning.specs.Instances.{is_own, body_fields}
use Rattle.measured_expressions.specs.Emitted.{Frame}
use Rattle.emitted_expressions.specs.Sight.{Sight}
use Rattle.tree_building.specs.Built.{Members, all_grown}
use Rattle.tree_building.specs.Depth.{members_depth}
use Rattle.tree_building.specs.Each.{MembersAreSmall}
use Rattle.tree_building.specs.Sight as spec
use Rattle.measured_trees.specs.Extremes.{joined, members_extremes, value_extremes}
use Rattle.emitted_bodies.specs.Bodies.{body_members}

module _ (w : Sight) (fs : List Frame) (p : PropertyTree) where
  -- the fields, where the first is left out or not
  abbrev fields_by : Bool → PropertyTrees → PropertyTrees
  fields_by b rest = if b then rest else s.property p.0 p.1 p.2 rest

  module _ (rest : PropertyTrees) where
    grown_by : (b : Bool) (q : Members)
        → all_grown (spec.members w (fields_by b rest) fs) q
        ≡ all_grown (spec.members w rest fs) (all_grown (spec.members w (fields_by b s.no_property) fs) q)
    grown_by true q = refl
    grown_by false q = refl

    first_by : (b : Bool) → MembersAreSmall (spec.members w (fields_by b rest) fs)
        → MembersAreSmall (spec.members w (fields_by b s.no_property) fs)
    first_by true h = tt
    first_by false h = (h.0, tt)

    others_by : (b : Bool) → MembersAreSmall (spec.members w (fields_by b rest) fs)
        → MembersAreSmall (spec.members w rest fs)
    others_by true h = h
    others_by false h = h.1

    first_flat_by : (b : Bool) → members_depth (spec.members w (fields_by b rest) fs) ≤ 119
        → members_depth (spec.members w (fields_by b s.no_property) fs) ≤ 119
    first_flat_by true h = omega arith
    first_flat_by false h = omega arith

    others_flat_by : (b : Bool) → members_depth (spec.members w (fields_by b rest) fs) ≤ 119
        → members_depth (spec.members w rest fs) ≤ 119
    others_flat_by true h = h
    others_flat_by false h = omega arith

  module _ (ps : List PropertyTree) where
    -- what one more field adds, and what the others add then
    pub fields_grown : (q : Members)
        → all_grown (body_members w (properties (p ∷ ps)) fs) q
        ≡ all_grown (body_members w (properties ps) fs) (all_grown (body_members w (properties (p ∷ [])) fs) q)
    fields_grown q = grown_by (body_fields (properties ps)) (is_own p.1) q

    pub first_within : MembersAreSmall (body_members w (properties (p ∷ ps)) fs)
        → MembersAreSmall (body_members w (properties (p ∷ [])) fs)
    first_within h = first_by (body_fields (properties ps)) (is_own p.1) h

    pub others_within : MembersAreSmall (body_members w (properties (p ∷ ps)) fs)
        → MembersAreSmall (body_members w (properties ps) fs)
    others_within h = others_by (body_fields (properties ps)) (is_own p.1) h

    pub first_flat : members_depth (body_members w (properties (p ∷ ps)) fs) ≤ 119
        → members_depth (body_members w (properties (p ∷ [])) fs) ≤ 119
    first_flat h = first_flat_by (body_fields (properties ps)) (is_own p.1) h

    pub others_flat : members_depth (body_members w (properties (p ∷ ps)) fs) ≤ 119
        → members_depth (body_members w (properties ps) fs) ≤ 119
    others_flat h = others_flat_by (body_fields (properties ps)) (is_own p.1) h

-- ---- what fields take of the limits

no_more : (x : ℕ) → max 0 x ≡ x
no_more x = omega arith

and_none : (x y : ℕ) → max (max x 0) y ≡ max x y
and_none x y = omega arith

module _ (w : Sight) (fs : List Frame) (p : PropertyTree) where
  joined_by : (b : Bool) (rest : PropertyTrees)
      → joined (members_extremes (spec.members w (fields_by w fs p b s.no_property) fs))
      (members_extremes (spec.members w rest fs))
      ≡ members_extremes (spec.members w (fields_by w fs p b rest) fs)
  joined_by true rest =
      let x = members_extremes (spec.members w rest fs) in
      λ i. record { longest = no_more x.longest i; deepest = no_more x.deepest i; depth = no_more x.depth i }
  joined_by false rest =
      let v = value_extremes (spec.value w (Some p.1) p.2 fs) in
      let x = members_extremes (spec.members w rest fs) in
      λ i. record {
        longest = and_none v.longest x.longest i;
        deepest = and_none v.deepest x.deepest i;
        depth = and_none v.depth x.depth i;
      }

  pub fields_joined : (ps : List PropertyTree)
      → joined (members_extremes (body_members w (properties (p ∷ [])) fs))
      (members_extremes (body_members w (properties ps) fs))
      ≡ members_extremes (body_members w (properties (p ∷ ps)) fs)
  fields_joined ps = joined_by (is_own p.1) (body_fields (properties ps))
