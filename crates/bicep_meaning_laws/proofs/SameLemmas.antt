-- Where the declarations that an expression mentions mean the same, so does the expression.
use Rattle.std.proofs.Common.{◌≡◌, ℕ, List, [], ◌∷◌, ◌++◌, refl, ap}
use Rattle.std.proofs.Common.{◌∙◌}
use Rattle.std.specs.Prelude.{codes}
use Rattle.arm_value.specs.Json.{text}
use Rattle.reading.specs.Reading.{done, pure, continued}
use Rattle.reading.specs.World.{Each}
use Rattle.bicep_circles.specs.Field.{Field}
use Rattle.bicep_circles.specs.Field.TheVariants as field
use Rattle.bicep_circles.specs.Meaning.{Meaning}
use Rattle.bicep_circles.specs.Meaning.TheVariants as m
use Rattle.bicep_circles.specs.Source.{SourceTree, SourceTrees, PieceTrees, ReachTree, PropertyTrees, ValueTree}
use Rattle.bicep_circles.specs.Source as s
use Rattle.bicep_circles.specs.Target.{number_of, target_of}
use Rattle.bicep_circles.specs.Mentions.{mentions, reach_mentions, all_mentions, piece_mentions, property_mentions, value_mentions, name_mentions}
use Rattle.bicep_meaning.specs.Rows.{capped, all, operated, conditional_value, prefix_value, member_value, index_value, called, array_of, by_both}
use Rattle.bicep_meaning.specs.Around.{Here, Frame, element, looped, Around}
use Rattle.bicep_meaning.specs.Meaning.{named, id_text, state_member, field_value, output_value, output_name, printed_before, joined, member_of, bare, values, texts, members, bare_value, frames}
use Rattle.arm_env.specs.Object.{object_of}
use Rattle.bicep_meaning_laws.specs.Ranked.{IsSame}

module _ (P : ℕ → Type 0) where
  pub first : (xs ys : List ℕ) → Each P (xs ++ ys) → Each P xs
  first [] ys h = tt
  first (x ∷ xs) ys h = (h.0, first xs ys h.1)

  pub second : (xs ys : List ℕ) → Each P (xs ++ ys) → Each P ys
  second [] ys h = h
  second (x ∷ xs) ys h = second xs ys h.1

  pub reached : (r : ReachTree) → Each P (reach_mentions r) → P (number_of (target_of r))
  reached (s.symbol at x) h = h.0
  reached (s.element at x e) h = h.0

module _ (here : Here) (a b : Around) where
  abbrev pub Same : List ℕ → Type 0
  Same ms = Each (IsSame a b) ms

  same_named : (x : Meaning) (fs : List Frame) → Same (name_mentions x) → named here a x fs ≡ named here b x fs
  same_named (m.Parameter n) fs h = refl
  same_named (m.Variable n) fs h = h.0.variable
  same_named (m.Item n) fs h = refl
  same_named (m.Index n) fs h = refl

  same_field : (n : ℕ) (x : Field) (fs : List Frame) → IsSame a b n
      → field_value here a n x fs ≡ field_value here b n x fs
  same_field n field.Id fs h = ap id_text (h.id fs)
  same_field n field.Name fs h = h.name fs
  same_field n field.Type fs h = refl
  same_field n field.ApiVersion fs h = refl
  same_field n field.Properties fs h = ap (state_member (codes "properties")) (h.id fs)
  same_field n field.Outputs fs h = refl
  same_field n (field.Other x) fs h = ap (state_member x) (h.id fs)

  mutual
    pub same_bare : (e : SourceTree) (fs : List Frame) → Same (mentions e) → bare here a e fs ≡ bare here b e fs
    same_bare (s.name at x) fs h = same_named x fs h
    same_bare (s.literal at v) fs h = refl
    same_bare (s.interpolated at start ps) fs h =
        ap (λ ts. continued (all ts) (λ ts. pure (text (start ++ joined ts)))) (same_texts ps fs h)
    same_bare (s.object at ps) fs h =
        ap (λ ms. continued (all ms) (λ ms. pure (object_of ms))) (same_members ps fs h)
    same_bare (s.array at es) fs h =
        ap (λ vs. continued (all vs) (λ vs. pure (array_of vs))) (same_values es fs h)
    same_bare (s.call at name es) fs h = ap (called here.place name) (same_values es fs h)
    same_bare (s.instance r) fs h = refl
    same_bare (s.field r at x) fs h =
        ap (field_value here a (number_of (target_of r)) x) (same_frames r fs h)
        ∙ same_field (number_of (target_of r)) x (frames here b r fs) (reached (IsSame a b) r h)
    same_bare (s.output r at k) fs h =
        ap (output_value here (output_name here (target_of r) k))
        (ap (a.name (number_of (target_of r))) (same_frames r fs h)
        ∙ (reached (IsSame a b) r h).name (frames here b r fs))
    same_bare (s.member e k n) fs h =
        ap (λ r. continued (capped r) (λ j. done (member_value k j (text n.text)))) (same_bare e fs h)
    same_bare (s.index e k i) fs h =
        let p = same_bare e fs (first (IsSame a b) _ (mentions i) h) in
        let q = same_bare i fs (second (IsSame a b) (mentions e) _ h) in
        λ t. by_both (index_value k) (capped (p t)) (capped (q t))
    same_bare (s.prefixed at p e) fs h =
        ap (λ r. continued (capped r) (λ j. done (prefix_value p j))) (same_bare e fs h)
    same_bare (s.binary o x y) fs h =
        let p = same_bare x fs (first (IsSame a b) _ (mentions y) h) in
        let q = same_bare y fs (second (IsSame a b) (mentions x) _ h) in
        λ t. operated o (capped (p t)) (capped (q t))
    same_bare (s.conditional c x y) fs h =
        let k = second (IsSame a b) (mentions c) (mentions x ++ mentions y) h in
        let p = same_bare c fs (first (IsSame a b) _ (mentions x ++ mentions y) h) in
        let q = same_bare x fs (first (IsSame a b) _ (mentions y) k) in
        let r = same_bare y fs (second (IsSame a b) (mentions x) _ k) in
        λ t. conditional_value (capped (p t)) (capped (q t)) (capped (r t))

    same_values : (es : SourceTrees) (fs : List Frame) → Same (all_mentions es)
        → values here a es fs ≡ values here b es fs
    same_values s.none fs h = refl
    same_values (s.more e es) fs h =
        let p = same_bare e fs (first (IsSame a b) _ (all_mentions es) h) in
        let q = same_values es fs (second (IsSame a b) (mentions e) _ h) in
        λ t. capped (p t) ∷ q t

    same_texts : (ps : PieceTrees) (fs : List Frame) → Same (piece_mentions ps)
        → texts here a ps fs ≡ texts here b ps fs
    same_texts s.no_piece fs h = refl
    same_texts (s.piece e after ps) fs h =
        let p = same_bare e fs (first (IsSame a b) _ (piece_mentions ps) h) in
        let q = same_texts ps fs (second (IsSame a b) (mentions e) _ h) in
        λ t. printed_before after (capped (p t)) ∷ q t

    same_members : (ps : PropertyTrees) (fs : List Frame) → Same (property_mentions ps)
        → members here a ps fs ≡ members here b ps fs
    same_members s.no_property fs h = refl
    same_members (s.property at name v ps) fs h =
        let p = same_value v fs (first (IsSame a b) _ (property_mentions ps) h) in
        let q = same_members ps fs (second (IsSame a b) (value_mentions v) _ h) in
        λ t. member_of name (capped (p t)) ∷ q t

    pub same_value : (v : ValueTree) (fs : List Frame) → Same (value_mentions v)
        → bare_value here a v fs ≡ bare_value here b v fs
    same_value (s.plain e) fs h = same_bare e fs h
    same_value (s.each (s.loop at xs) e) fs h =
        let p = same_bare xs fs (first (IsSame a b) _ (mentions e) h) in
        let q = λ (f : Frame). same_bare e (f ∷ fs) (second (IsSame a b) (mentions xs) _ h) in
        λ t. looped (capped (p t)) (λ f. capped (q f t))

    pub same_frames : (r : ReachTree) (fs : List Frame) → Same (reach_mentions r)
        → frames here a r fs ≡ frames here b r fs
    same_frames (s.symbol at x) fs h = refl
    same_frames (s.element at x e) fs h =
        let p = h.0.items in
        let q = same_bare e fs h.1 in
        λ t. element (p t) (capped (q t)) ∷ []
