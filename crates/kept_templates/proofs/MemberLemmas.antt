-- The members of the body of a resource that plain fields become.
use Rattle.std.proofs.Common.{◌≡◌, ℕ, Bool, true, false, List, [], ◌∷◌, ◌++◌, Option, Ordering, Less, Equal, Greater}
use Rattle.std.proofs.Common.{refl, sym, ap, subst}
use Rattle.std.specs.Prelude.{if◌then◌else◌}
use Rattle.std.specs.Ordering.{match_ordering}
use Rattle.std.proofs.lemmas.List.{append-nil}
use Rattle.arm_value.specs.Json.{Json, null, bool, int, text, array, object, Member, pairs, pair_keys, keys, key_cmp}
use Rattle.arm_value.specs.Json.{put, put_each}
use Rattle.template_meaning.specs.Resources.{is_outside}
use Rattle.template_written.specs.Keeps.{AllInside}
use Rattle.bicep_resolved.specs.Source.{PropertyTrees, ValueTree}
use Rattle.bicep_resolved.specs.Source as s
use Rattle.bicep_meaning.specs.Instances.{is_own, body_fields}
use Rattle.bicep_emission.specs.Emitted.{Frame}
use Rattle.emitted_expressions.specs.Sight.{Sight}
use Rattle.emitted_trees.specs.Templates as t
use Rattle.emitted_trees.specs.Written.{tree_json, own_members, loops, copy_member}
use Rattle.emitted_bodies.specs.Bodies.{body_members}
use Rattle.tree_building.specs.Sight.{members}
use Rattle.placed_files.specs.Placed.{IsPlain, IsBodyName, AreFieldsPlaced}

-- ---- members that are put

module _ (symbol : Option (List ℕ)) where
  put_by : (o : Ordering) (k : List ℕ) (j : Json) (m : Member) (ms : List Member) → is_outside symbol k ≡ false
      → AllInside symbol (keys (m ∷ ms)) → AllInside symbol (keys (put k j ms))
      → AllInside symbol (keys (match_ordering o ((k, j) ∷ m ∷ ms) ((k, j) ∷ ms) (m ∷ put k j ms)))
  put_by Less k j m ms e h r = (e, h)
  put_by Equal k j m ms e h r = (e, h.1)
  put_by Greater k j m ms e h r = (h.0, r)

  put_inside : (k : List ℕ) (j : Json) (ms : List Member) → is_outside symbol k ≡ false → AllInside symbol (keys ms)
      → AllInside symbol (keys (put k j ms))
  put_inside k j [] e h = (e, tt)
  put_inside k j (m ∷ ms) e h = put_by (key_cmp k m.0) k j m ms e h (put_inside k j ms e h.1)

  each_inside : (ms ns : List Member) → AllInside symbol (keys ms) → AllInside symbol (keys ns)
      → AllInside symbol (keys (put_each ms ns))
  each_inside ms [] h k = h
  each_inside ms (n ∷ ns) h k = each_inside (put n.0 n.1 ms) ns (put_inside n.0 n.1 ms k.0 h) k.1

-- ---- members of plain fields

module _ (symbol : Option (List ℕ)) (w : Sight) (fs : List Frame) where
  abbrev made : PropertyTrees → t.TemplateMembers
  made ps = members w ps fs

  -- they are no loops, and each is one of the body
  abbrev AreInside : PropertyTrees → Type 0
  AreInside ps = AllInside symbol (keys (own_members (made ps))) × (loops (made ps) ≡ [])

  one_more : (at : ℕ) (x : List ℕ) (v : ValueTree) (ps : PropertyTrees) → IsPlain v → IsBodyName x
      → AreInside ps → AreInside (s.property at x v ps)
  one_more at x (s.plain e) ps h i r = ((i symbol, r.0), r.1)
  one_more at x (s.each l e) ps h i r = absurd h

  one_by : (own : Bool) (at : ℕ) (x : List ℕ) (v : ValueTree) (ps : PropertyTrees)
      → (own ≡ false → IsPlain v × IsBodyName x) → AreInside ps
      → AreInside (if own then ps else s.property at x v ps)
  one_by true at x v ps h r = r
  one_by false at x v ps h r =
      let p = h refl in
      one_more at x v ps p.0 p.1 r

  fields_inside : (ps : PropertyTrees) → AreFieldsPlaced ps → AreInside (body_fields ps)
  fields_inside s.no_property h = (tt, refl)
  fields_inside (s.property at x v ps) h = one_by (is_own x) at x v (body_fields ps) h.0 (fields_inside ps h.1)

  -- ---- the names of the members of an object

  abbrev names_in : Json → List (List ℕ)
  names_in (object ms) = pair_keys ms
  names_in null = []
  names_in (bool b) = []
  names_in (int z) = []
  names_in (text x) = []
  names_in (array js) = []

  pub members_inside : (ps : PropertyTrees) (ms : List Member) → AreFieldsPlaced ps
      → object (pairs ms) ≡ tree_json (t.object (body_members w ps fs)) → AllInside symbol (keys ms)
  members_inside ps ms h e =
      let r = fields_inside ps h in
      let own = own_members (made (body_fields ps)) in
      subst (AllInside symbol) (sym (ap names_in e))
      (subst (λ js. AllInside symbol (keys (put_each [] (own ++ copy_member js)))) (sym r.1)
      (subst (λ ns. AllInside symbol (keys (put_each [] ns))) (sym (append-nil own))
      (each_inside symbol [] own tt r.0)))
