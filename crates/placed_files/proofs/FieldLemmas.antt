-- Fields of resources and modules in which nothing is misplaced.
use Rattle.std.proofs.Common.{◌≡◌, ◌||◌, ℕ, Bool, true, false, List, Option, Some, None, codes, bytes_eq}
use Rattle.std.proofs.Common.{refl, ap, ◌∙◌}
use Rattle.std.specs.Prelude.{if◌then◌else◌}
use Rattle.foundation.proofs.TruthValues.{neither}
use Rattle.bicep_found.specs.Found.{Found, both, mapped}
use Rattle.bicep_tree.specs.declared.leaf.Access.{Access}
use Rattle.bicep_tree.specs.declared.leaf.Access.TheVariants as access
use Rattle.bicep_tree.specs.declared.leaf.Indexing.{Indexing}
use Rattle.bicep_tree.specs.declared.leaf.Indexing.TheVariants as indexing
use Rattle.bicep_tree.specs.declared.leaf.Label.{Label}
use Rattle.bicep_tree.specs.declared.leaf.LoopNames.{LoopNames}
use Rattle.bicep_tree.specs.declared.leaf.Name.{Name}
use Rattle.bicep_tree.specs.Offset.{label_offset, function_offset}
use Rattle.bicep_tree.specs.Symbol.{label_text}
use Rattle.bicep_tree.specs.Tree.{Tree, MemberTrees}
use Rattle.bicep_tree.specs.Tree as tree
use Rattle.bicep_resolved.specs.declared.leaf.Target.{Target}
use Rattle.bicep_resolved.specs.Source.{SourceTree, PropertyTrees, ReachTree, ValueTree, field_named}
use Rattle.bicep_resolved.specs.Source as s
use Rattle.bicep_resolved.specs.Place.{reach_offset}
use Rattle.bicep_resolved.specs.Target.{number_of, target_of}
use Rattle.bicep_names.specs.declared.kind.Named.{Named}
use Rattle.bicep_names.specs.declared.kind.Named.TheVariants as named
use Rattle.bicep_names.specs.Functions.{function_named}
use Rattle.bicep_names.specs.Scope.{Scope, Symbols, OutputNames, meaning_of, nested_named}
use Rattle.bicep_names.specs.Resolve.{name_at, output_of, output_at, member_by, member_of, reach_in, outputs_in}
use Rattle.bicep_names.specs.Resolve.{nested_at, nested_within, nested_of, accessed, whole_in, element_by, element_of}
use Rattle.bicep_names.specs.Resolve.{indexed, function_name, called_by, resolved, resolved_all, resolved_holes}
use Rattle.bicep_names.specs.Resolve.{resolved_members, resolved_value}
use Rattle.bicep_misplaced.specs.declared.spot.Owner.{Owner}
use Rattle.bicep_misplaced.specs.declared.spot.Repeated.{Repeated}
use Rattle.bicep_misplaced.specs.declared.spot.Spot.{Spot}
use Rattle.bicep_misplaced.specs.declared.spot.Spot.TheVariants as spot
use Rattle.bicep_misplaced.specs.Words.{is_bad_name, is_bad_field, is_copy}
use Rattle.bicep_misplaced.specs.Expressions.{inner, bad_label, bad_in, bad_in_members, bad_in_member, bad_in_value}
use Rattle.bicep_misplaced.specs.Resources.{bad_field, bad_in_field_value, bad_in_all_fields, bad_in_field}
use Rattle.bicep_meaning.specs.Instances.{is_own, argument_named, argument_in}
use Rattle.sound_values.proofs.FoundLemmas.{first_none, second_none}
use Rattle.placed_files.specs.Placed.{IsPlain, IsBodyName, AreFieldsPlaced}
use Rattle.placed_files.proofs.FoundLemmas.{Always, weaker, always_mapped, always_made, always_then}
use Rattle.placed_files.proofs.FoundLemmas.{always_second, always_both}
use Rattle.placed_files.proofs.NameLemmas.{not_found, IsInside, copy_is_bad, field_is_inside}

abbrev copy : List ℕ
copy = codes "copy"

-- no member of these is named `copy`
abbrev pub NoneNamed : PropertyTrees → Type 0
NoneNamed ps = argument_named copy ps ≡ None

-- and no member of an object
abbrev pub NoCopies : SourceTree → Type 0
NoCopies (s.object at ps) = NoneNamed ps
NoCopies (s.name at x) = Unit {0}
NoCopies (s.literal at v) = Unit {0}
NoCopies (s.interpolated at front ps) = Unit {0}
NoCopies (s.array at es) = Unit {0}
NoCopies (s.call at x es) = Unit {0}
NoCopies (s.instance r) = Unit {0}
NoCopies (s.field r at x) = Unit {0}
NoCopies (s.output r at k) = Unit {0}
NoCopies (s.member e k n) = Unit {0}
NoCopies (s.index e k i) = Unit {0}
NoCopies (s.prefixed at p e) = Unit {0}
NoCopies (s.binary o a b) = Unit {0}
NoCopies (s.conditional c a b) = Unit {0}

-- ---- what is no object

of_name : (at : ℕ) (o : Option Named) → Always NoCopies (name_at at o)
of_name at None = tt
of_name at (Some (named.Value x)) = tt
of_name at (Some (named.Instance x)) = tt

of_output : (r : ReachTree) (at : ℕ) (o : Option ℕ) → Always NoCopies (output_at r at o)
of_output r at None = tt
of_output r at (Some k) = tt

of_member_by : (os : List OutputNames) (o q : Option ReachTree) (e : SourceTree) (n : Name)
    → Always NoCopies (member_by os o q e n)
of_member_by os (Some r) q e n = tt
of_member_by os None (Some r) e n = of_output r n.at (output_of os (target_of r) n.text)
of_member_by os None None e n = tt

of_member : (os : List OutputNames) (e : SourceTree) (n : Name) → Always NoCopies (member_of os e n)
unfolding member_of
of_member os e n = of_member_by os (reach_in e) (outputs_in e) e n

of_nested_at : (at place : ℕ) (o : Option Target) → Always NoCopies (nested_at at place o)
of_nested_at at place None = tt
of_nested_at at place (Some x) = tt

of_nested_within : (ss : Symbols) (o : Option ReachTree) (n : Name) → Always NoCopies (nested_within ss o n)
of_nested_within ss None n = tt
of_nested_within ss (Some r) n =
    of_nested_at (reach_offset r) n.at (nested_named ss (number_of (target_of r)) n.text)

of_nested : (ss : Symbols) (e : SourceTree) (n : Name) → Always NoCopies (nested_of ss e n)
unfolding nested_of
of_nested ss e n = of_nested_within ss (reach_in e) n

of_access : (sc : Scope) (k : Access) (n : Name) (e : SourceTree) → Always NoCopies (accessed sc e k n)
of_access sc access.Member n e = of_member sc.outputs e n
of_access sc access.SafeMember n e = tt
of_access sc access.Nested n e = of_nested sc.symbols e n

of_element_by : (o : Option (ℕ × Target)) (e i : SourceTree) → NoCopies (element_by o e i)
of_element_by (Some p) e i = tt
of_element_by None e i = tt

of_index : (k : Indexing) (p : SourceTree × SourceTree) → NoCopies (indexed p.0 k p.1)
unfolding element_of
of_index indexing.Plain p = of_element_by (whole_in p.0) p.0 p.1
of_index indexing.Safe p = tt

of_call : (at place : ℕ) (o : Option (List ℕ)) (es : Found s.SourceTrees) → Always NoCopies (called_by at place o es)
of_call at place None es = tt
of_call at place (Some x) es = always_made NoCopies (λ xs. s.call at x xs) es (λ xs. tt)

-- ---- objects

pub unset : (b : Bool) (at : ℕ) → (if b then Some at else None) ≡ None → b ≡ false
unset true at e = absurd cc
unset false at e = refl

label_is : (sp : Spot) (l : Label) → IsInside sp → bad_label sp l ≡ None → is_copy (label_text l) ≡ false
label_is sp l i e =
    copy_is_bad sp (label_text l) i (unset (is_bad_name sp (label_text l)) (label_offset l) e)

none_more : (at : ℕ) (x : List ℕ) (v : ValueTree) (ps : PropertyTrees) → is_copy x ≡ false → NoneNamed ps
    → NoneNamed (s.property at x v ps)
none_more at x v ps e h = ap (λ b. if b then Some v else argument_named copy ps) (not_found x e) ∙ h

module _ (sc : Scope) where
  of_members : (sp : Spot) → IsInside sp → (ms : MemberTrees) (ls : List LoopNames) → bad_in_members sp ms ≡ None
      → Always NoneNamed (resolved_members sc ms ls)
  of_members sp i tree.no_member ls b = refl
  of_members sp i (tree.and_member (tree.property l v) ms) ls b =
      let first = first_none (bad_in_member sp (tree.property l v)) (bad_in_members sp ms) b in
      let own = label_is sp l i (first_none (bad_label sp l) (bad_in_value sp v) first) in
      let rest = of_members sp i ms ls (second_none (bad_in_member sp (tree.property l v)) (bad_in_members sp ms) b) in
      always_mapped NoneNamed (λ p. s.property (label_offset l) (label_text l) p.0 p.1)
      (both (resolved_value sc v ls) (resolved_members sc ms ls))
      (weaker (λ p. NoneNamed p.1) (λ p. NoneNamed (s.property (label_offset l) (label_text l) p.0 p.1))
      (λ p. none_more (label_offset l) (label_text l) p.0 p.1 own)
      (both (resolved_value sc v ls) (resolved_members sc ms ls))
      (always_second NoneNamed (resolved_value sc v ls) (resolved_members sc ms ls) rest))
  of_members sp i (tree.and_member (tree.child ds r) ms) ls b =
      of_members sp i ms ls (second_none (bad_in_member sp (tree.child ds r)) (bad_in_members sp ms) b)

  inner_inside : (sp : Spot) → IsInside sp → IsInside (inner sp)
  inner_inside spot.Outside i = absurd i
  inner_inside spot.Field i = tt
  inner_inside spot.Inside i = tt

  of_tree : (sp : Spot) → IsInside sp → (e : Tree) (ls : List LoopNames) → bad_in sp e ≡ None
      → Always NoCopies (resolved sc e ls)
  of_tree sp i (tree.name n) ls b = of_name n.at (meaning_of sc.symbols ls n.text)
  of_tree sp i (tree.literal at v) ls b = tt
  of_tree sp i (tree.interpolated at front hs) ls b =
      always_made NoCopies (λ ps. s.interpolated at front ps) (resolved_holes sc hs ls) (λ ps. tt)
  of_tree sp i (tree.object (tree.braces at ms)) ls b =
      always_mapped NoCopies (λ ps. s.object at ps) (resolved_members sc ms ls) (of_members sp i ms ls b)
  of_tree sp i (tree.array at es) ls b =
      always_made NoCopies (λ xs. s.array at xs) (resolved_all sc es ls) (λ xs. tt)
  of_tree sp i (tree.parentheses at e) ls b = of_tree (inner sp) (inner_inside sp i) e ls b
  of_tree sp i (tree.call g es) ls b =
      of_call (function_offset g) (function_name g).at (function_named (function_name g).text) (resolved_all sc es ls)
  of_tree sp i (tree.access e k n) ls b =
      always_then NoCopies (λ x. accessed sc x k n) (resolved sc e ls) (of_access sc k n)
  of_tree sp i (tree.index e k j) ls b =
      always_made NoCopies (λ p. indexed p.0 k p.1) (both (resolved sc e ls) (resolved sc j ls)) (of_index k)
  of_tree sp i (tree.not_null e) ls b = of_tree (inner sp) (inner_inside sp i) e ls b
  of_tree sp i (tree.prefixed at p e) ls b =
      always_made NoCopies (λ x. s.prefixed at p x) (resolved sc e ls) (λ x. tt)
  of_tree sp i (tree.binary o x y) ls b =
      always_made NoCopies (λ p. s.binary o p.0 p.1) (both (resolved sc x ls) (resolved sc y ls)) (λ p. tt)
  of_tree sp i (tree.conditional c x y) ls b =
      always_made NoCopies (λ p. s.conditional p.0 p.1.0 p.1.1)
      (both (resolved sc c ls) (both (resolved sc x ls) (resolved sc y ls))) (λ p. tt)

-- ---- fields

-- what the value of a field may be
abbrev pub ValueIsPlaced : ValueTree → Type 0
ValueIsPlaced (s.plain e) = NoCopies e
ValueIsPlaced (s.each l e) = ⊥

-- fields of a body, and of none a value has a member `copy`
abbrev pub AreAllPlaced : PropertyTrees → Type 0
AreAllPlaced s.no_property = Unit {0}
AreAllPlaced (s.property at x v ps) =
    ((is_own x ≡ false → IsBodyName x) × ValueIsPlaced v) × AreAllPlaced ps

module _ (sc : Scope) where
  of_value : (v : tree.ValueTree) (ls : List LoopNames) → bad_in_field_value v ≡ None
      → Always ValueIsPlaced (resolved_value sc v ls)
  of_value (tree.plain e) ls b =
      always_mapped ValueIsPlaced (λ x. s.plain x) (resolved sc e ls) (of_tree sc spot.Field tt e ls b)
  of_value (tree.each (tree.loop at ns xs) e) ls b = absurd cc

  of_label : (o : Owner) (l : Label) → bad_field o l ≡ None → is_own (label_text l) ≡ false
      → IsBodyName (label_text l)
  of_label o l e m =
      let x = label_text l in
      let p = neither (is_bad_field o x) (is_bad_name spot.Field x)
      (unset (is_bad_field o x || is_bad_name spot.Field x) (label_offset l) e) in
      field_is_inside o x p.0 (copy_is_bad spot.Field x tt p.1) m

  one_field : (o : Owner) (l : Label) (v : tree.ValueTree) (ls : List LoopNames) (rest : Found PropertyTrees)
      → bad_field o l ≡ None → bad_in_field_value v ≡ None → Always AreAllPlaced rest
      → Always AreAllPlaced
      (mapped (λ p. s.property (label_offset l) (label_text l) p.0 p.1) (both (resolved_value sc v ls) rest))
  one_field o l v ls rest e b h =
      always_mapped AreAllPlaced (λ p. s.property (label_offset l) (label_text l) p.0 p.1)
      (both (resolved_value sc v ls) rest)
      (always_both (λ v. (is_own (label_text l) ≡ false → IsBodyName (label_text l)) × ValueIsPlaced v)
      AreAllPlaced (resolved_value sc v ls) rest
      (weaker ValueIsPlaced
      (λ v. (is_own (label_text l) ≡ false → IsBodyName (label_text l)) × ValueIsPlaced v)
      (λ v h. (of_label o l e, h)) (resolved_value sc v ls) (of_value v ls b)) h)

  pub of_fields : (o : Owner) (t : Repeated) (ms : MemberTrees) (ls : List LoopNames)
      → bad_in_all_fields o t ms ≡ None → Always AreAllPlaced (resolved_members sc ms ls)
  of_fields o t tree.no_member ls b = tt
  of_fields o t (tree.and_member (tree.property l v) ms) ls b =
      let own = first_none (bad_in_field o t (tree.property l v)) (bad_in_all_fields o t ms) b in
      one_field o l v ls (resolved_members sc ms ls) (first_none (bad_field o l) (bad_in_field_value v) own)
      (second_none (bad_field o l) (bad_in_field_value v) own)
      (of_fields o t ms ls (second_none (bad_in_field o t (tree.property l v)) (bad_in_all_fields o t ms) b))
  of_fields o t (tree.and_member (tree.child ds r) ms) ls b =
      of_fields o t ms ls (second_none (bad_in_field o t (tree.child ds r)) (bad_in_all_fields o t ms) b)

-- ---- what fields are

plain_by : (v : ValueTree) → ValueIsPlaced v → IsPlain v
plain_by (s.plain e) h = tt
plain_by (s.each l e) h = h

pub fields_placed : (ps : PropertyTrees) → AreAllPlaced ps → AreFieldsPlaced ps
fields_placed s.no_property h = tt
fields_placed (s.property at x v ps) h = ((λ m. (plain_by v h.0.1, h.0.0 m)), fields_placed ps h.1)

no_argument : (v : ValueTree) → ValueIsPlaced v → argument_in copy (Some v) ≡ None
no_argument (s.plain (s.object at ps)) h = h
no_argument (s.plain (s.name at x)) h = refl
no_argument (s.plain (s.literal at v)) h = refl
no_argument (s.plain (s.interpolated at front ps)) h = refl
no_argument (s.plain (s.array at es)) h = refl
no_argument (s.plain (s.call at x es)) h = refl
no_argument (s.plain (s.instance r)) h = refl
no_argument (s.plain (s.field r at x)) h = refl
no_argument (s.plain (s.output r at k)) h = refl
no_argument (s.plain (s.member e k n)) h = refl
no_argument (s.plain (s.index e k i)) h = refl
no_argument (s.plain (s.prefixed at p e)) h = refl
no_argument (s.plain (s.binary o a b)) h = refl
no_argument (s.plain (s.conditional c a b)) h = refl
no_argument (s.each l e) h = absurd h

none_by : (b : Bool) (v : ValueTree) (o : Option ValueTree) → argument_in copy (Some v) ≡ None
    → argument_in copy o ≡ None → argument_in copy (if b then Some v else o) ≡ None
none_by true v o h r = h
none_by false v o h r = r

-- no argument of a module with these fields is named `copy`
pub arguments_placed : (x : List ℕ) (ps : PropertyTrees) → AreAllPlaced ps → argument_in copy (field_named x ps) ≡ None
arguments_placed x s.no_property h = refl
arguments_placed x (s.property at y v ps) h =
    none_by (bytes_eq y x) v (field_named x ps) (no_argument v h.0.1) (arguments_placed x ps h.1)
