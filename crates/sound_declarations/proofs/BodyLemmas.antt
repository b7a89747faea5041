-- The bodies of resources and modules in which nothing is misplaced and no name is given twice.
use Rattle.std.proofs.Common.{◌≡◌, ◌||◌, ℕ, Bool, true, false, true≢false, List, [], ◌∷◌, Some, None}
use Rattle.std.proofs.Common.{refl, sym, ap, ◌∙◌, subst}
use Rattle.std.specs.Prelude.{bytes_eq, if◌then◌else◌}
use Rattle.std.proofs.lemmas.Option.{none-some, same_Some}
use Rattle.foundation.specs.Options.{or_else}
use Rattle.foundation.proofs.TruthValues.{or_right, nor}
use Rattle.arm_expr.specs.Brackets as brackets
use Rattle.bicep_found.specs.Found.{found, both}
use Rattle.bicep_tree.specs.declared.leaf.Label.{Label}
use Rattle.bicep_tree.specs.declared.leaf.LoopNames.{LoopNames}
use Rattle.bicep_tree.specs.Offset.{label_offset}
use Rattle.bicep_tree.specs.Symbol.{label_text}
use Rattle.bicep_tree.specs.Tree.{Tree, MemberTrees}
use Rattle.bicep_tree.specs.Tree as tree
use Rattle.bicep_resolved.specs.Source.{SourceTree, ReachTree, PropertyTrees, ValueTree}
use Rattle.bicep_resolved.specs.Source as s
use Rattle.bicep_names.specs.Scope.{Scope}
use Rattle.bicep_names.specs.Resolve.{resolved, resolved_members, resolved_value}
use Rattle.bicep_members.specs.Labels.{repeated_label, repeated_index}
use Rattle.bicep_members.specs.Parts.{repeated_in, repeated_in_value, repeated_in_loop, repeated_in_body}
use Rattle.bicep_members.specs.Parts.{repeated_in_fields, repeated_in_all_fields, repeated_in_field}
use Rattle.bicep_misplaced.specs.declared.spot.Owner.{Owner}
use Rattle.bicep_misplaced.specs.declared.spot.Repeated.{Repeated}
use Rattle.bicep_misplaced.specs.declared.spot.Repeated.TheVariants as repeated
use Rattle.bicep_misplaced.specs.declared.spot.Spot.TheVariants as spot
use Rattle.bicep_misplaced.specs.Words.{is_bad_name, is_bad_field, is_copy}
use Rattle.bicep_misplaced.specs.Expressions.{bad_in}
use Rattle.bicep_misplaced.specs.Resources.{bad_field, bad_in_field_value, bad_in_body, bad_in_fields}
use Rattle.bicep_misplaced.specs.Resources.{bad_in_all_fields, bad_in_field}
use Rattle.bicep_placed.specs.Loops.{loop_in, loop_in_value}
use Rattle.bicep_declared.specs.Declarations.{BodyTree}
use Rattle.bicep_declared.specs.Declare.{body_of, plain_body, body_if, body_each, body_each_if}
use Rattle.bicep_resolved.specs.Source.{field_named}
use Rattle.bicep_emission.specs.Emittable.{IsEmittable, IsValue, IsReach}
use Rattle.sound_values.specs.EmittedTrees.{has_copy}
use Rattle.sound_values.specs.Sound.{allowed, IsSound, AreSoundMembers, IsSoundValue}
use Rattle.sound_values.specs.FewHoles.{HasFewHoles, MembersHaveFew, ValueHasFew}
use Rattle.sound_values.proofs.FoundLemmas.{of_mapped, of_both, first_none, second_none}
use Rattle.sound_values.proofs.NameLemmas.{not_copy}
use Rattle.sound_values.proofs.SoundLemmas.{ReachIsGood, good, field_sound, members_differ}
use Rattle.sound_declarations.specs.Few.{BodyHasFew}
use Rattle.sound_declarations.specs.Values.{IsBodySound}
use Rattle.sound_declarations.proofs.PlainLemmas.{inside_plain}

-- what a field may be: the resource in the field `parent`, and a name
pub record Link (v : ValueTree) : Type 0 where
  pub reach : (r : ReachTree) → v ≡ s.plain (s.instance r) → IsReach r
  pub value : loop_in_value v ≡ None → IsValue v

abbrev pub AreLinks : PropertyTrees → Type 0
AreLinks s.no_property = Unit {0}
AreLinks (s.property at name v ps) = Link v × AreLinks ps

by_name : (name : List ℕ) (y v : ValueTree) (ps : PropertyTrees) (b : Bool) → Link y
    → (field_named name ps ≡ Some v → Link v) → (if b then Some y else field_named name ps) ≡ Some v → Link v
by_name name y v ps true h rest e = subst Link (same_Some y v e) h
by_name name y v ps false h rest e = rest e

-- the field of a name
pub link_named : (name : List ℕ) (ps : PropertyTrees) (v : ValueTree) → AreLinks ps → field_named name ps ≡ Some v
    → Link v
link_named name s.no_property v h e = absurd (none-some v e)
link_named name (s.property at x y ps) v h e =
    by_name name y v ps (bytes_eq x name) h.0 (link_named name ps v h.1) e

-- ---- names of fields

pub unset : (b : Bool) (at : ℕ) → (if b then Some at else None) ≡ None → b ≡ false
unset true at e = absurd cc
unset false at e = refl

label_is : (o : Owner) (l : Label) → bad_field o l ≡ None → brackets.is_copy (label_text l) ≡ false
label_is o l e =
    not_copy (label_text l)
    (or_right (brackets.is_bracketed (label_text l)) (is_copy (label_text l))
    (or_right (is_bad_field o (label_text l)) (is_bad_name spot.Field (label_text l))
    (unset (is_bad_field o (label_text l) || is_bad_name spot.Field (label_text l)) (label_offset l) e)))

same_plain : (x y : SourceTree) → s.plain x ≡ s.plain y → x ≡ y
same_plain x y e = cc

-- the fields of a body
pub record Fields (ps : PropertyTrees) : Type 0 where
  pub sound : AreSoundMembers allowed ps
  pub copies : has_copy ps ≡ false
  pub links : AreLinks ps

pub record Held (at : ℕ) (ps : PropertyTrees) : Type 0 where
  pub sound : IsSound allowed (s.object at ps)
  pub copies : has_copy ps ≡ false
  pub links : AreLinks ps

-- the body of a resource or a module
pub record BodyGood (b : BodyTree) : Type 0 where
  pub sound : IsBodySound b
  pub links : AreLinks b.fields

module _ (sc : Scope) where
  -- ---- the value of a field

  record Field (v : ValueTree) : Type 0 where
    sound : IsSoundValue allowed v
    link : Link v

  plain_field : (e : Tree) (ls : List LoopNames) (x : SourceTree) → bad_in spot.Field e ≡ None → repeated_in e ≡ None
      → resolved sc e ls ≡ found x → HasFewHoles x → Field (s.plain x)
  plain_field e ls x b r h few = record {
    sound = field_sound sc e ls x b r h few;
    link = record {
      reach = λ y q.
          let own = same_plain x (s.instance y) q in
          subst ReachIsGood own
          (good sc spot.Inside tt e ls x (inside_plain sc e ls x b h (ap loop_in own)) r h few).reach;
      value = λ none. (good sc spot.Inside tt e ls x (inside_plain sc e ls x b h none) r h few).emittable;
    };
  }

  field_good : (v : tree.ValueTree) (ls : List LoopNames) (x : ValueTree) → bad_in_field_value v ≡ None
      → repeated_in_value v ≡ None → resolved_value sc v ls ≡ found x → ValueHasFew x → Field x
  field_good (tree.plain e) ls x b r h few =
      let g = of_mapped (λ y. s.plain y) (resolved sc e ls) x h in
      subst Field g.made (plain_field e ls g.part b r g.is (subst ValueHasFew (sym g.made) few))
  field_good (tree.each (tree.loop at ns xs) e) ls x b r h few = absurd cc

  -- ---- fields

  fields_good : (o : Owner) (t : Repeated) (ms : MemberTrees) (ls : List LoopNames) (ps : PropertyTrees)
      → bad_in_all_fields o t ms ≡ None → repeated_in_all_fields ms ≡ None → resolved_members sc ms ls ≡ found ps
      → MembersHaveFew ps → Fields ps
  fields_good o t tree.no_member ls ps b r h few =
      let same : s.no_property ≡ ps = cc in
      subst Fields same (record { sound = tt; copies = refl; links = tt })
  fields_good o t (tree.and_member (tree.property l v) ms) ls ps b r h few =
      let g = of_mapped (λ p. s.property (label_offset l) (label_text l) p.0 p.1)
      (both (resolved_value sc v ls) (resolved_members sc ms ls)) ps h in
      let p = of_both (resolved_value sc v ls) (resolved_members sc ms ls) g.part g.is in
      let f = subst MembersHaveFew (sym g.made) few in
      let b1 = first_none (bad_in_field o t (tree.property l v)) (bad_in_all_fields o t ms) b in
      let a = field_good v ls g.part.0 (second_none (bad_field o l) (bad_in_field_value v) b1)
      (first_none (repeated_in_field (tree.property l v)) (repeated_in_all_fields ms) r) p.first f.0 in
      let c = fields_good o t ms ls g.part.1
      (second_none (bad_in_field o t (tree.property l v)) (bad_in_all_fields o t ms) b)
      (second_none (repeated_in_field (tree.property l v)) (repeated_in_all_fields ms) r) p.second f.1 in
      subst Fields g.made
      (record {
        sound = (a.sound, c.sound);
        copies =
            nor (brackets.is_copy (label_text l)) (has_copy g.part.1)
            (label_is o l (first_none (bad_field o l) (bad_in_field_value v) b1)) c.copies;
        links = (a.link, c.links);
      })
  fields_good o t (tree.and_member (tree.child ds q) ms) ls ps b r h few =
      fields_good o t ms ls ps (second_none (bad_in_field o t (tree.child ds q)) (bad_in_all_fields o t ms) b)
      (second_none (repeated_in_field (tree.child ds q)) (repeated_in_all_fields ms) r) h few

  held : (o : Owner) (t : Repeated) (at : ℕ) (ms : MemberTrees) (ls : List LoopNames) (ps : PropertyTrees)
      → bad_in_fields o t (tree.braces at ms) ≡ None → repeated_in_fields (tree.braces at ms) ≡ None
      → resolved_members sc ms ls ≡ found ps → MembersHaveFew ps → Held at ps
  held o t at ms ls ps b r h few =
      let a = fields_good o t ms ls ps b (second_none (repeated_label ms) (repeated_in_all_fields ms) r) h few in
      record {
        sound = (
          (λ c. absurd (true≢false (sym c ∙ a.copies))),
          (members_differ sc ms ls ps h (first_none (repeated_label ms) (repeated_in_all_fields ms) r), a.sound),
        );
        copies = a.copies;
        links = a.links;
      }

  -- ---- bodies

  over : (ns : LoopNames) (xs : Tree) (x : SourceTree) → bad_in spot.Inside xs ≡ None
      → or_else (repeated_index ns) (repeated_in xs) ≡ None → resolved sc xs [] ≡ found x → HasFewHoles x
      → IsEmittable x
  over ns xs x b r h few =
      (good sc spot.Inside tt xs [] x b (second_none (repeated_index ns) (repeated_in xs) r) h few).emittable

  pub body_good : (o : Owner) (b : tree.BodyTree) (x : BodyTree) → bad_in_body o b ≡ None → repeated_in_body b ≡ None
      → body_of sc b ≡ found x → BodyHasFew x → BodyGood x
  body_good o (tree.body_plain (tree.braces at ms)) x b r h few =
      let g = of_mapped (plain_body at) (resolved_members sc ms []) x h in
      let f = subst BodyHasFew (sym g.made) few in
      let a = held o repeated.Once at ms [] g.part b r g.is f.1.1 in
      subst BodyGood g.made (record {
        sound = record { each = tt; condition = tt; fields = a.sound; no_copy = a.copies };
        links = a.links;
      })
  body_good o (tree.body_if place c (tree.braces at ms)) x b r h few =
      let g = of_mapped (body_if at) (both (resolved sc c []) (resolved_members sc ms [])) x h in
      let p = of_both (resolved sc c []) (resolved_members sc ms []) g.part g.is in
      let f = subst BodyHasFew (sym g.made) few in
      let cb = bad_in spot.Inside c in
      let fb = bad_in_fields o repeated.Once (tree.braces at ms) in
      let fr = repeated_in_fields (tree.braces at ms) in
      let a = held o repeated.Once at ms [] g.part.1 (second_none cb fb b) (second_none (repeated_in c) fr r) p.second
      f.1.1 in
      subst BodyGood g.made (record {
        sound = record {
          each = tt;
          condition =
              (good sc spot.Inside tt c [] g.part.0 (first_none cb fb b) (first_none (repeated_in c) fr r) p.first
              f.1.0).emittable;
          fields = a.sound;
          no_copy = a.copies;
        };
        links = a.links;
      })
  body_good o (tree.body_each (tree.loop place ns xs) (tree.braces at ms)) x b r h few =
      let g = of_mapped (body_each place at) (both (resolved sc xs []) (resolved_members sc ms (ns ∷ []))) x h in
      let p = of_both (resolved sc xs []) (resolved_members sc ms (ns ∷ [])) g.part g.is in
      let f = subst BodyHasFew (sym g.made) few in
      let xb = bad_in spot.Inside xs in
      let xr = repeated_in_loop (tree.loop place ns xs) in
      let fb = bad_in_fields o repeated.Each (tree.braces at ms) in
      let fr = repeated_in_fields (tree.braces at ms) in
      let a = held o repeated.Each at ms (ns ∷ []) g.part.1 (second_none xb fb b) (second_none xr fr r) p.second
      f.1.1 in
      subst BodyGood g.made (record {
        sound = record {
          each = over ns xs g.part.0 (first_none xb fb b) (first_none xr fr r) p.first f.0;
          condition = tt;
          fields = a.sound;
          no_copy = a.copies;
        };
        links = a.links;
      })
  body_good o (tree.body_each_if (tree.loop place ns xs) from c (tree.braces at ms)) x b r h few =
      let inner = both (resolved sc c (ns ∷ [])) (resolved_members sc ms (ns ∷ [])) in
      let g = of_mapped (body_each_if place at) (both (resolved sc xs []) inner) x h in
      let p = of_both (resolved sc xs []) inner g.part g.is in
      let q = of_both (resolved sc c (ns ∷ [])) (resolved_members sc ms (ns ∷ [])) g.part.1 p.second in
      let f = subst BodyHasFew (sym g.made) few in
      let xb = bad_in spot.Inside xs in
      let xr = repeated_in_loop (tree.loop place ns xs) in
      let cb = bad_in spot.Inside c in
      let fb = bad_in_fields o repeated.Each (tree.braces at ms) in
      let fr = repeated_in_fields (tree.braces at ms) in
      let b1 = second_none xb (or_else cb fb) b in
      let r1 = second_none xr (or_else (repeated_in c) fr) r in
      let a = held o repeated.Each at ms (ns ∷ []) g.part.1.1 (second_none cb fb b1)
      (second_none (repeated_in c) fr r1) q.second f.1.1 in
      subst BodyGood g.made (record {
        sound = record {
          each =
              over ns xs g.part.0 (first_none xb (or_else cb fb) b) (first_none xr (or_else (repeated_in c) fr) r)
              p.first f.0;
          condition =
              (good sc spot.Inside tt c (ns ∷ []) g.part.1.0 (first_none cb fb b1) (first_none (repeated_in c) fr r1)
              q.first f.1.0).emittable;
          fields = a.sound;
          no_copy = a.copies;
        };
        links = a.links;
      })
