-- The values of a sound file, in each place where a template has one.
use Rattle.std.proofs.Common.{◌≡◌, ◌≢◌, ℕ, Bool, true, false, true≢false, List, Option, Some, None, refl, sym}
use Rattle.std.proofs.Common.{◌∙◌, subst, codes}
use Rattle.std.proofs.lemmas.Option.{none-some, same_Some}
use Rattle.std.specs.Prelude.{bytes_eq, position, slice_get, option_and_then, if◌then◌else◌}
use Rattle.std.specs.List.{AllByRecursion}
use Rattle.foundation.proofs.TruthValues.{or_left, or_right, nor}
use Rattle.arm_value.specs.Look.{fold}
use Rattle.arm_expr.specs.Brackets.{is_copy}
use Rattle.bicep_resolved.specs.Source.{SourceTree, PropertyTrees, ValueTree}
use Rattle.bicep_resolved.specs.Source as s
use Rattle.bicep_declared.specs.Declarations.{DeclaredTree, OutputTree}
use Rattle.bicep_declared.specs.Declarations as d
use Rattle.bicep_program.proofs.LoadLemmas.{at_place}
use Rattle.bicep_meaning.specs.Files.{SourceFile, declaration}
use Rattle.bicep_resolved.specs.Source.{field_named}
use Rattle.bicep_meaning.specs.Instances.{Put, put_by, resource_kind, module_kind, is_own}
use Rattle.bicep_meaning.specs.Instances.{body_fields, variable_by, symbol_folded, argument_named, argument_in}
use Rattle.bicep_meaning.specs.Instances.{argument_of, default_of}
use Rattle.declaration_laws.specs.Sound as declarations
use Rattle.emitted_trees.specs.EmittedTrees.{has_copy}
use Rattle.emitted_trees.specs.Sound.{names, Differ, IsSound, AreSoundMembers, IsSoundValue, allowed}
use Rattle.sound_declarations.specs.Values.{IsBodySound, IsDeclaredSound, AreValuesSound}
use Rattle.emitted_needs.specs.Sound.{IsSoundFile}

-- ---- fields

value_by : (name : List ℕ) (y v : ValueTree) (ps : PropertyTrees) (b : Bool) → IsSoundValue allowed y
    → (field_named name ps ≡ Some v → IsSoundValue allowed v)
    → (if b then Some y else field_named name ps) ≡ Some v → IsSoundValue allowed v
value_by name y v ps true h rest e = subst (IsSoundValue allowed) (same_Some y v e) h
value_by name y v ps false h rest e = rest e

value_named : (name : List ℕ) (ps : PropertyTrees) (v : ValueTree) → AreSoundMembers allowed ps
    → field_named name ps ≡ Some v → IsSoundValue allowed v
value_named name s.no_property v h e = absurd (none-some v e)
value_named name (s.property at x y ps) v h e =
    value_by name y v ps (bytes_eq x name) h.0 (value_named name ps v h.1) e

-- ---- arguments

argument_by : (x : List ℕ) (y v : ValueTree) (ps : PropertyTrees) (b : Bool) → IsSoundValue allowed y
    → (argument_named x ps ≡ Some v → IsSoundValue allowed v)
    → (if b then Some y else argument_named x ps) ≡ Some v → IsSoundValue allowed v
argument_by x y v ps true h rest e = subst (IsSoundValue allowed) (same_Some y v e) h
argument_by x y v ps false h rest e = rest e

argument_sound : (x : List ℕ) (ps : PropertyTrees) (v : ValueTree) → AreSoundMembers allowed ps
    → argument_named x ps ≡ Some v → IsSoundValue allowed v
argument_sound x s.no_property v h e = absurd (none-some v e)
argument_sound x (s.property at n y ps) v h e =
    argument_by x y v ps (bytes_eq x (fold n)) h.0 (argument_sound x ps v h.1) e

argument_in_sound : (x : List ℕ) (o : Option ValueTree) (v : ValueTree)
    → ((y : ValueTree) → o ≡ Some y → IsSoundValue allowed y) → argument_in x o ≡ Some v → IsSoundValue allowed v
argument_in_sound x None v h e = absurd (none-some v e)
argument_in_sound x (Some (s.each l y)) v h e = absurd (none-some v e)
argument_in_sound x (Some (s.plain (s.name at y))) v h e = absurd (none-some v e)
argument_in_sound x (Some (s.plain (s.literal at y))) v h e = absurd (none-some v e)
argument_in_sound x (Some (s.plain (s.interpolated at first ps))) v h e = absurd (none-some v e)
argument_in_sound x (Some (s.plain (s.object at ps))) v h e =
    argument_sound x ps v (h (s.plain (s.object at ps)) refl).1.1 e
argument_in_sound x (Some (s.plain (s.array at es))) v h e = absurd (none-some v e)
argument_in_sound x (Some (s.plain (s.call at name es))) v h e = absurd (none-some v e)
argument_in_sound x (Some (s.plain (s.instance r))) v h e = absurd (none-some v e)
argument_in_sound x (Some (s.plain (s.field r at y))) v h e = absurd (none-some v e)
argument_in_sound x (Some (s.plain (s.output r at k))) v h e = absurd (none-some v e)
argument_in_sound x (Some (s.plain (s.member y k n))) v h e = absurd (none-some v e)
argument_in_sound x (Some (s.plain (s.index y k i))) v h e = absurd (none-some v e)
argument_in_sound x (Some (s.plain (s.prefixed at p y))) v h e = absurd (none-some v e)
argument_in_sound x (Some (s.plain (s.binary o y z))) v h e = absurd (none-some v e)
argument_in_sound x (Some (s.plain (s.conditional c y z))) v h e = absurd (none-some v e)

-- ---- the fields that are put

-- some fields of a body
record Fields (ps qs : PropertyTrees) : Type 0 where
  others : (x : List ℕ) → AllByRecursion (λ y. x ≢ y) (names ps) → AllByRecursion (λ y. x ≢ y) (names qs)
  differ : Differ (names ps) → Differ (names qs)
  sound : AreSoundMembers allowed ps → AreSoundMembers allowed qs
  copies : has_copy ps ≡ false → has_copy qs ≡ false

kept_or_not : (at : ℕ) (x : List ℕ) (v : ValueTree) (ps qs : PropertyTrees) (b : Bool) → Fields ps qs
    → Fields (s.property at x v ps) (if b then qs else s.property at x v qs)
kept_or_not at x v ps qs true h = record {
  others = λ y a. h.others y a.1;
  differ = λ a. h.differ a.1;
  sound = λ a. h.sound a.1;
  copies = λ a. h.copies (or_right (is_copy x) (has_copy ps) a);
}
kept_or_not at x v ps qs false h = record {
  others = λ y a. (a.0, h.others y a.1);
  differ = λ a. (h.others x a.0, h.differ a.1);
  sound = λ a. (a.0, h.sound a.1);
  copies = λ a. nor (is_copy x) (has_copy qs) (or_left (is_copy x) (has_copy ps) a)
      (h.copies (or_right (is_copy x) (has_copy ps) a));
}

fields_of : (ps : PropertyTrees) → Fields ps (body_fields ps)
fields_of s.no_property = record { others = λ x a. a; differ = λ a. a; sound = λ a. a; copies = λ a. a }
fields_of (s.property at x v ps) = kept_or_not at x v ps (body_fields ps) (is_own x) (fields_of ps)

-- what is asked of a resource that is put
record IsPut (y : Put) : Type 0 where
  body : IsSound allowed (s.object y.body.at (body_fields y.body.fields))
  no_copy : has_copy (body_fields y.body.fields) ≡ false

body_put : (y : Put) → IsBodySound y.body → IsPut y
body_put y h =
    let g = fields_of y.body.fields in
    let none = g.copies h.no_copy in
    record {
      body = (λ c. absurd (true≢false (sym c ∙ none)), (g.differ h.fields.1.0, g.sound h.fields.1.1));
      no_copy = none;
    }

put_sound : (f : SourceFile) (n : ℕ) (o : Option DeclaredTree) (y : Put)
    → ((x : DeclaredTree) → o ≡ Some x → IsDeclaredSound x) → put_by f n o ≡ Some y → y.kind.is_deployment ≡ false
    → IsPut y
put_sound f n None y h e k = absurd (none-some y e)
put_sound f n (Some (d.parameter at t)) y h e k = absurd (none-some y e)
put_sound f n (Some (d.parameter_with at t x)) y h e k = absurd (none-some y e)
put_sound f n (Some (d.variable at v)) y h e k = absurd (none-some y e)
put_sound f n (Some (d.a_resource at q true b)) y h e k = absurd (none-some y e)
put_sound f n (Some (d.a_resource at q false b)) y h e k =
    let z : Put = record { number = n; body = b; kind = resource_kind f n } in
    subst IsPut (same_Some z y e) (body_put z (h (d.a_resource at q false b) refl))
put_sound f n (Some (d.a_module at b)) y h e k =
    let z : Put = record { number = n; body = b; kind = module_kind } in
    let same = same_Some z y e in
    absurd (true≢false (subst (λ (p : Put). p.kind.is_deployment ≡ false) (sym same) k))

-- ---- declarations

variable_sound : (f : SourceFile) (n : ℕ) (o : Option DeclaredTree) (v : ValueTree)
    → ((x : DeclaredTree) → o ≡ Some x → IsDeclaredSound x) → variable_by f n o ≡ Some v → IsSoundValue allowed v
variable_sound f n None v h e = absurd (none-some v e)
variable_sound f n (Some (d.parameter at t)) v h e = absurd (none-some v e)
variable_sound f n (Some (d.parameter_with at t x)) v h e = absurd (none-some v e)
variable_sound f n (Some (d.variable at y)) v h e = by (f.has_entry n) e
  where
    by : (b : Bool) → (if b then Some y else None) ≡ Some v → IsSoundValue allowed v
    by true g = subst (IsSoundValue allowed) (same_Some y v g) (h (d.variable at y) refl)
    by false g = absurd (none-some v g)
variable_sound f n (Some (d.a_resource at q existing b)) v h e = absurd (none-some v e)
variable_sound f n (Some (d.a_module at b)) v h e = absurd (none-some v e)

default_sound : (o : Option DeclaredTree) (e : SourceTree) → ((x : DeclaredTree) → o ≡ Some x → IsDeclaredSound x)
    → option_and_then default_of o ≡ Some e → IsSound allowed e
default_sound None e h g = absurd (none-some e g)
default_sound (Some (d.parameter at t)) e h g = absurd (none-some e g)
default_sound (Some (d.parameter_with at t x)) e h g =
    subst (IsSound allowed) (same_Some x e g) (h (d.parameter_with at t x) refl).1
default_sound (Some (d.variable at v)) e h g = absurd (none-some e g)
default_sound (Some (d.a_resource at q existing b)) e h g = absurd (none-some e g)
default_sound (Some (d.a_module at b)) e h g = absurd (none-some e g)

module_sound : (x : List ℕ) (o : Option DeclaredTree) (v : ValueTree)
    → ((y : DeclaredTree) → o ≡ Some y → IsDeclaredSound y) → argument_of x o ≡ Some v → IsSoundValue allowed v
module_sound x None v h e = absurd (none-some v e)
module_sound x (Some (d.parameter at t)) v h e = absurd (none-some v e)
module_sound x (Some (d.parameter_with at t y)) v h e = absurd (none-some v e)
module_sound x (Some (d.variable at y)) v h e = absurd (none-some v e)
module_sound x (Some (d.a_resource at q existing b)) v h e = absurd (none-some v e)
module_sound x (Some (d.a_module at b)) v h e =
    argument_in_sound x (field_named (codes "params") b.fields) v
    (λ y g. value_named (codes "params") b.fields y (h (d.a_module at b) refl).fields.1.1 g) e

module _ (f : SourceFile) (own : declarations.IsSound f) (h : AreValuesSound f.declared) where
  declared_at : (n : ℕ) (x : DeclaredTree) → declaration f n ≡ Some x → IsDeclaredSound x
  declared_at n x e = at_place IsDeclaredSound f.declared.declarations n x e h.declarations

  numbered_variable : (o : Option ℕ) (v : ValueTree)
      → option_and_then (λ n. variable_by f n (declaration f n)) o ≡ Some v → IsSoundValue allowed v
  numbered_variable None v e = absurd (none-some v e)
  numbered_variable (Some n) v e = variable_sound f n (declaration f n) v (declared_at n) e

  numbered_output : (o : Option ℕ) (x : OutputTree) → option_and_then (slice_get f.declared.outputs) o ≡ Some x
      → IsSoundValue allowed x.value
  numbered_output None x e = absurd (none-some x e)
  numbered_output (Some n) x e = at_place (λ y. IsSoundValue allowed y.value) f.declared.outputs n x e h.outputs

  pub file_sound : IsSoundFile f
  file_sound = record {
    declarations = own;
    variables = λ x v e. numbered_variable (symbol_folded f x) v e;
    outputs = λ x o e. numbered_output (position (λ y. bytes_eq x (fold y)) f.outputs) o e;
    defaults = λ n e g. default_sound (declaration f n) e (declared_at n) g;
    arguments = λ n x v e. module_sound x (declaration f n) v (declared_at n) e;
    bodies = λ n y e k. (put_sound f n (declaration f n) y (declared_at n) e k).body;
    no_copies = λ n y e k. (put_sound f n (declaration f n) y (declared_at n) e k).no_copy;
  }
