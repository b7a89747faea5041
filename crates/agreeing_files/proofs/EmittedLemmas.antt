-- Files that differ in what emission does not look at: what their expressions become.
use Rattle.std.proofs.Common.{◌≡◌, ℕ, zero, suc, List, [], ◌∷◌, codes, Option, Some, None, refl, ap, sym, ◌∙◌}
use Rattle.std.specs.Prelude.{slice_get, option_and_then}
use Rattle.arm_expr.specs.Tree.{text, call, index, more}
use Rattle.bicep_resolved.specs.declared.leaf.Field.{Field}
use Rattle.bicep_resolved.specs.declared.leaf.Field.TheVariants as field
use Rattle.bicep_resolved.specs.declared.leaf.Meaning.{Meaning}
use Rattle.bicep_resolved.specs.declared.leaf.Meaning.TheVariants as m
use Rattle.bicep_resolved.specs.declared.leaf.Target.{Target}
use Rattle.bicep_resolved.specs.Source.{SourceTree, SourceTrees, PieceTrees, ReachTree, PropertyTrees, ValueTree}
use Rattle.bicep_resolved.specs.Source as s
use Rattle.bicep_resolved.specs.Target.{number_of, target_of}
use Rattle.bicep_meaning.specs.Files.{SourceFile}
use Rattle.bicep_meaning.specs.Meaning.{file_of}
use Rattle.bicep_emission.specs.Emitted.{Frame, Scope, element, three, named, emitted, all_of, holes_of, members_of}
use Rattle.bicep_emission.specs.Emitted.{emitted_value, frames_of, field_of, output_of, output_named, member_of}
use Rattle.bicep_emission.specs.Emitted.{part_at, prefix_of, binary_of, properties_of, state_member_of}
use Rattle.bicep_emission.specs.Spelled.{spelled}
use Rattle.bicep_emission.specs.Texts.{format_text}
use Rattle.agreeing_files.specs.Agreeing.{outputs_of}
use Rattle.agreeing_files.proofs.TypeLemmas.{other, type_same}

-- ---- outputs

output_in : (fs : List SourceFile) (n k : ℕ)
    → option_and_then (λ f. slice_get f.outputs k) (slice_get fs n)
    ≡ option_and_then (λ o. slice_get o k) (slice_get (outputs_of fs) n)
output_in [] zero k = refl
output_in [] (suc n) k = refl
output_in (f ∷ fs) zero k = refl
output_in (f ∷ fs) (suc n) k = output_in fs n k

module _ (f from : SourceFile) (fs gs : List SourceFile) (same : outputs_of fs ≡ outputs_of gs) where
  abbrev g : SourceFile
  g = other f from

  output_at : (o : Option ℕ) (k : ℕ)
      → option_and_then (λ f. slice_get f.outputs k) (option_and_then (slice_get fs) o)
      ≡ option_and_then (λ f. slice_get f.outputs k) (option_and_then (slice_get gs) o)
  output_at None k = refl
  output_at (Some n) k =
      output_in fs n k ∙ ap (λ os. option_and_then (λ o. slice_get o k) (slice_get os n)) same
      ∙ sym (output_in gs n k)

  module _ (sc : Scope) where
    output_same : (x : Target) (k : ℕ) → output_named f fs sc x k ≡ output_named g gs sc x k
    output_same x k = output_at (file_of x) k

    named_same : (x : Meaning) (ts : List Frame) → named f fs sc x ts ≡ named g gs sc x ts
    named_same (m.Parameter n) ts = refl
    named_same (m.Variable n) ts = refl
    named_same (m.Item n) ts = refl
    named_same (m.Index n) ts = refl

    field_same : (n : ℕ) (x : Field) (ts : List Frame) → field_of f fs sc n x ts ≡ field_of g gs sc n x ts
    field_same n field.Id ts = refl
    field_same n field.Name ts = refl
    field_same n field.Type ts = ap (λ t. text t.kind) (type_same f from n)
    field_same n field.ApiVersion ts = ap (λ t. text t.version) (type_same f from n)
    field_same n field.Properties ts =
        ap (λ t. properties_of (sc.id n ts) t.version) (type_same f from n)
    field_same n field.Outputs ts = refl
    field_same n (field.Other x) ts =
        ap (λ t. state_member_of (sc.id n ts) t.version x) (type_same f from n)

    mutual
      pub emitted_same : (e : SourceTree) (ts : List Frame) → emitted f fs sc e ts ≡ emitted g gs sc e ts
      emitted_same (s.name at x) ts = named_same x ts
      emitted_same (s.literal at v) ts = refl
      emitted_same (s.interpolated at start ps) ts =
          ap (λ us. call (codes "format") (more (text (format_text 0 start ps)) us)) (holes_same ps ts)
      emitted_same (s.object at ps) ts = ap (call (codes "createObject")) (members_same ps ts)
      emitted_same (s.array at es) ts = ap (call (codes "createArray")) (all_same es ts)
      emitted_same (s.call at name es) ts = ap (call (spelled name)) (all_same es ts)
      emitted_same (s.instance r) ts = refl
      emitted_same (s.field r at x) ts =
          ap (field_of f fs sc (number_of (target_of r)) x) (frames_same r ts)
          ∙ field_same (number_of (target_of r)) x (frames_of g gs sc r ts)
      emitted_same (s.output r at k) ts =
          let p = output_same (target_of r) k in
          let q = frames_same r ts in
          λ i. output_of (p i) (sc.name (number_of (target_of r)) (q i))
      emitted_same (s.member e k n) ts = ap (λ t. member_of k t n.text) (emitted_same e ts)
      emitted_same (s.index e k i) ts =
          let p = emitted_same e ts in
          let q = emitted_same i ts in
          λ j. part_at k (p j) (q j)
      emitted_same (s.prefixed at p e) ts = ap (prefix_of p) (emitted_same e ts)
      emitted_same (s.binary op x y) ts =
          let p = emitted_same x ts in
          let q = emitted_same y ts in
          λ i. binary_of op (p i) (q i)
      emitted_same (s.conditional c x y) ts =
          let p = emitted_same c ts in
          let q = emitted_same x ts in
          let r = emitted_same y ts in
          λ i. call (codes "if") (three (p i) (q i) (r i))

      all_same : (es : SourceTrees) (ts : List Frame) → all_of f fs sc es ts ≡ all_of g gs sc es ts
      all_same s.none ts = refl
      all_same (s.more e es) ts =
          let p = emitted_same e ts in
          let q = all_same es ts in
          λ i. more (p i) (q i)

      holes_same : (ps : PieceTrees) (ts : List Frame) → holes_of f fs sc ps ts ≡ holes_of g gs sc ps ts
      holes_same s.no_piece ts = refl
      holes_same (s.piece e after ps) ts =
          let p = emitted_same e ts in
          let q = holes_same ps ts in
          λ i. more (p i) (q i)

      members_same : (ps : PropertyTrees) (ts : List Frame) → members_of f fs sc ps ts ≡ members_of g gs sc ps ts
      members_same s.no_property ts = refl
      members_same (s.property at name v ps) ts =
          let p = value_same v ts in
          let q = members_same ps ts in
          λ i. more (text name) (more (p i) (q i))

      pub value_same : (v : ValueTree) (ts : List Frame) → emitted_value f fs sc v ts ≡ emitted_value g gs sc v ts
      value_same (s.plain e) ts = emitted_same e ts
      value_same (s.each l e) ts = refl

      pub frames_same : (r : ReachTree) (ts : List Frame) → frames_of f fs sc r ts ≡ frames_of g gs sc r ts
      frames_same (s.symbol at x) ts = refl
      frames_same (s.element at x e) ts =
          ap (λ i. element (sc.items (number_of x)) i ∷ []) (emitted_same e ts)
