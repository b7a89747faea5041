-- Where the declarations that an expression mentions become the same, so does the expression.
use Rattle.std.proofs.Common.{◌≡◌, ℕ, List, [], ◌∷◌, ◌++◌, codes, refl, ap, ◌∙◌}
use Rattle.arm_expr.specs.Tree.{text, call, more}
use Rattle.reading.specs.World.{Each}
use Rattle.bicep_declared.specs.Field.{Field}
use Rattle.bicep_declared.specs.Field.TheVariants as field
use Rattle.bicep_declared.specs.Meaning.{Meaning}
use Rattle.bicep_declared.specs.Meaning.TheVariants as m
use Rattle.bicep_declared.specs.Source.{SourceTree, SourceTrees, PieceTrees, ReachTree, PropertyTrees, ValueTree}
use Rattle.bicep_declared.specs.Source as s
use Rattle.bicep_declared.specs.Target.{number_of, target_of}
use Rattle.bicep_meaning_laws.specs.Mentions.{mentions, reach_mentions, all_mentions, piece_mentions, property_mentions}
use Rattle.bicep_meaning_laws.specs.Mentions.{value_mentions, name_mentions}
use Rattle.bicep_meaning_laws.specs.Files.{SourceFile, type_of}
use Rattle.bicep_meaning_laws.proofs.SameLemmas.{first, second, reached}
use Rattle.declaration_laws.specs.Emitted.{Frame, Scope, element, three, named, emitted, all_of, holes_of, members_of}
use Rattle.declaration_laws.specs.Emitted.{emitted_value, frames_of, field_of, output_of, output_named, member_of}
use Rattle.declaration_laws.specs.Emitted.{part_at}
use Rattle.declaration_laws.specs.Emitted.{prefix_of, binary_of, properties_of, state_member_of}
use Rattle.declaration_laws.specs.Spelled.{spelled}
use Rattle.declaration_laws.specs.Texts.{format_text}
use Rattle.emission_laws.specs.Holes.{IsRun}
use Rattle.emission_laws.specs.Same.{SameScope}

-- this holds of each number where it holds of all
pub all_of_these : (P : ℕ → Type 0) → ((n : ℕ) → P n) → (ns : List ℕ) → Each P ns
all_of_these P f [] = tt
all_of_these P f (n ∷ ns) = (f n, all_of_these P f ns)

module _ (file : SourceFile) (files : List SourceFile) where
  -- an element of a loop is in one run, and a symbol in none
  pub one_run : (sc : Scope) (r : ReachTree) (fs : List Frame) → IsRun (frames_of file files sc r fs)
  one_run sc (s.symbol at x) fs = tt
  one_run sc (s.element at x e) fs = tt

  module _ (a b : Scope) where
    abbrev pub Same : List ℕ → Type 0
    Same ms = Each (SameScope a b) ms

    same_named : (x : Meaning) (fs : List Frame) → Same (name_mentions x)
        → named file files a x fs ≡ named file files b x fs
    same_named (m.Parameter n) fs h = refl
    same_named (m.Variable n) fs h = h.0.variable
    same_named (m.Item n) fs h = refl
    same_named (m.Index n) fs h = refl

    same_field : (n : ℕ) (x : Field) (fs : List Frame) → IsRun fs → SameScope a b n
        → field_of file files a n x fs ≡ field_of file files b n x fs
    same_field n field.Id fs r h = h.id fs r
    same_field n field.Name fs r h = h.name fs r
    same_field n field.Type fs r h = refl
    same_field n field.ApiVersion fs r h = refl
    same_field n field.Properties fs r h = ap (λ i. properties_of i (type_of file n).version) (h.id fs r)
    same_field n field.Outputs fs r h = refl
    same_field n (field.Other x) fs r h = ap (λ i. state_member_of i (type_of file n).version x) (h.id fs r)

    mutual
      pub same_emitted : (e : SourceTree) (fs : List Frame) → Same (mentions e)
          → emitted file files a e fs ≡ emitted file files b e fs
      same_emitted (s.name at x) fs h = same_named x fs h
      same_emitted (s.literal at v) fs h = refl
      same_emitted (s.interpolated at start ps) fs h =
          ap (λ ts. call (codes "format") (more (text (format_text 0 start ps)) ts)) (same_holes ps fs h)
      same_emitted (s.object at ps) fs h = ap (call (codes "createObject")) (same_members ps fs h)
      same_emitted (s.array at es) fs h = ap (call (codes "createArray")) (same_all es fs h)
      same_emitted (s.call at name es) fs h = ap (call (spelled name)) (same_all es fs h)
      same_emitted (s.instance r) fs h = refl
      same_emitted (s.field r at x) fs h =
          ap (field_of file files a (number_of (target_of r)) x) (same_frames r fs h)
          ∙ same_field (number_of (target_of r)) x (frames_of file files b r fs) (one_run b r fs)
          (reached (SameScope a b) r h)
      same_emitted (s.output r at k) fs h =
          ap (output_of (output_named file files a (target_of r) k))
          (ap (a.name (number_of (target_of r))) (same_frames r fs h)
          ∙ (reached (SameScope a b) r h).name (frames_of file files b r fs) (one_run b r fs))
      same_emitted (s.member e k n) fs h = ap (λ t. member_of k t n.text) (same_emitted e fs h)
      same_emitted (s.index e k i) fs h =
          let p = same_emitted e fs (first (SameScope a b) _ (mentions i) h) in
          let q = same_emitted i fs (second (SameScope a b) (mentions e) _ h) in
          λ t. part_at k (p t) (q t)
      same_emitted (s.prefixed at p e) fs h = ap (prefix_of p) (same_emitted e fs h)
      same_emitted (s.binary o x y) fs h =
          let p = same_emitted x fs (first (SameScope a b) _ (mentions y) h) in
          let q = same_emitted y fs (second (SameScope a b) (mentions x) _ h) in
          λ t. binary_of o (p t) (q t)
      same_emitted (s.conditional c x y) fs h =
          let k = second (SameScope a b) (mentions c) (mentions x ++ mentions y) h in
          let p = same_emitted c fs (first (SameScope a b) _ (mentions x ++ mentions y) h) in
          let q = same_emitted x fs (first (SameScope a b) _ (mentions y) k) in
          let r = same_emitted y fs (second (SameScope a b) (mentions x) _ k) in
          λ t. call (codes "if") (three (p t) (q t) (r t))

      same_all : (es : SourceTrees) (fs : List Frame) → Same (all_mentions es)
          → all_of file files a es fs ≡ all_of file files b es fs
      same_all s.none fs h = refl
      same_all (s.more e es) fs h =
          let p = same_emitted e fs (first (SameScope a b) _ (all_mentions es) h) in
          let q = same_all es fs (second (SameScope a b) (mentions e) _ h) in
          λ t. more (p t) (q t)

      same_holes : (ps : PieceTrees) (fs : List Frame) → Same (piece_mentions ps)
          → holes_of file files a ps fs ≡ holes_of file files b ps fs
      same_holes s.no_piece fs h = refl
      same_holes (s.piece e after ps) fs h =
          let p = same_emitted e fs (first (SameScope a b) _ (piece_mentions ps) h) in
          let q = same_holes ps fs (second (SameScope a b) (mentions e) _ h) in
          λ t. more (p t) (q t)

      same_members : (ps : PropertyTrees) (fs : List Frame) → Same (property_mentions ps)
          → members_of file files a ps fs ≡ members_of file files b ps fs
      same_members s.no_property fs h = refl
      same_members (s.property at name v ps) fs h =
          let p = same_value v fs (first (SameScope a b) _ (property_mentions ps) h) in
          let q = same_members ps fs (second (SameScope a b) (value_mentions v) _ h) in
          λ t. more (text name) (more (p t) (q t))

      pub same_value : (v : ValueTree) (fs : List Frame) → Same (value_mentions v)
          → emitted_value file files a v fs ≡ emitted_value file files b v fs
      same_value (s.plain e) fs h = same_emitted e fs h
      same_value (s.each l e) fs h = refl

      pub same_frames : (r : ReachTree) (fs : List Frame) → Same (reach_mentions r)
          → frames_of file files a r fs ≡ frames_of file files b r fs
      same_frames (s.symbol at x) fs h = refl
      same_frames (s.element at x e) fs h =
          let p = h.0.items in
          let q = same_emitted e fs h.1 in
          λ t. element (p t) (q t) ∷ []
