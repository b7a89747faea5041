-- Parts of names with a run in their holes, and lists of parts.
use Rattle.std.proofs.Common.{◌≡◌, ◌≤◌, ◌+◌, ◌-◌, ℕ, zero, suc, List, [], ◌∷◌, ◌++◌, Option, Some, None, refl, ap, ◌∙◌}
use Rattle.std.proofs.Common.{sym, arith}
use Rattle.std.proofs.lemmas.Option.{none-some}
use Rattle.arm_expr.specs.Tree.{Tree}
use Rattle.emitted_parts.specs.Emitted.{Frame}
use Rattle.emission_laws.specs.Holes.{fill}
use Rattle.bicep_tree.specs.declared.leaf.Literal.TheVariants as l
use Rattle.bicep_resolved.specs.Source.{ValueTree}
use Rattle.bicep_resolved.specs.Source as s
use Rattle.emitted_declarations.specs.Declared.{rest_of_name, segments_from, parts_by_number, parts_of_text, parts_of}
use Rattle.kept_parts.specs.Pieces.{piece_of, segments_at, literal_text}
use Rattle.kept_parts.specs.declared.pieces.Piece.{Piece}
use Rattle.kept_parts.specs.declared.pieces.Piece.TheVariants as piece

pub piece_filled : (f : Frame) (p : Piece) (a : Tree) → fill f (piece_of p a) ≡ piece_of p (fill f a)
piece_filled f (piece.Segment i) a = refl
piece_filled f (piece.Rest i) a = refl

-- the segments of a name, and then what is after them
pub segments_are : (a : Tree) (i n : ℕ)
    → segments_from a i n ≡ segments_at a i n ++ piece_of (piece.Rest (i + n)) a ∷ []
segments_are a i zero = ap (λ k. rest_of_name a k ∷ []) (plus_none i)
  where
    plus_none : (i : ℕ) → i ≡ i + 0
    plus_none i = omega arith
segments_are a i (suc n) =
    ap (λ ts. piece_of (piece.Segment i) a ∷ ts)
    (segments_are a (suc i) n
    ∙ ap (λ k. segments_at a (suc i) n ++ piece_of (piece.Rest k) a ∷ []) (plus_one i n))
  where
    plus_one : (i n : ℕ) → suc i + n ≡ i + suc n
    plus_one i n = omega arith

pub one_segment_more : (a : Tree) (i n : ℕ)
    → segments_at a i (suc n) ≡ segments_at a i n ++ piece_of (piece.Segment (i + n)) a ∷ []
one_segment_more a i zero = ap (λ k. piece_of (piece.Segment k) a ∷ []) (plus_none i)
  where
    plus_none : (i : ℕ) → i ≡ i + 0
    plus_none i = omega arith
one_segment_more a i (suc n) =
    ap (λ ts. piece_of (piece.Segment i) a ∷ ts)
    (one_segment_more a (suc i) n
    ∙ ap (λ k. segments_at a (suc i) n ++ piece_of (piece.Segment k) a ∷ []) (plus_one i n))
  where
    plus_one : (i n : ℕ) → suc i + n ≡ i + suc n
    plus_one i n = omega arith

pub many_parts : (a : Tree) (count : ℕ) → 2 ≤ count → segments_from a 0 (count - 1) ≡ parts_by_number a count
many_parts a zero h = absurd (omega (arith, h))
many_parts a (suc zero) h = absurd (omega (arith, h))
many_parts a (suc (suc n)) h = ap (segments_from a 0) (one_less n)
  where
    one_less : (n : ℕ) → suc (suc n) - 1 ≡ suc n
    one_less n = omega arith

-- the parts of a name that is a literal text, and of another
pub literal_parts : (v : Option ValueTree) (t : List ℕ) (a : Tree) (n : ℕ) → literal_text v ≡ Some t
    → parts_of_text t a n ≡ parts_of v a n
literal_parts None t a n e = absurd (none-some t e)
literal_parts (Some (s.each m x)) t a n e = absurd (none-some t e)
literal_parts (Some (s.plain (s.literal at (l.Text u)))) t a n e = ap (λ w. parts_of_text w a n) (same e)
  where
    same : Some u ≡ Some t → t ≡ u
    same e = cc
literal_parts (Some (s.plain (s.name at x))) t a k q = absurd (none-some t q)
literal_parts (Some (s.plain (s.interpolated at f ps))) t a k q = absurd (none-some t q)
literal_parts (Some (s.plain (s.object at ps))) t a k q = absurd (none-some t q)
literal_parts (Some (s.plain (s.array at es))) t a k q = absurd (none-some t q)
literal_parts (Some (s.plain (s.call at n es))) t a k q = absurd (none-some t q)
literal_parts (Some (s.plain (s.instance r))) t a k q = absurd (none-some t q)
literal_parts (Some (s.plain (s.field r at x))) t a k q = absurd (none-some t q)
literal_parts (Some (s.plain (s.output r at n))) t a k q = absurd (none-some t q)
literal_parts (Some (s.plain (s.member e n x))) t a k q = absurd (none-some t q)
literal_parts (Some (s.plain (s.index e n i))) t a k q = absurd (none-some t q)
literal_parts (Some (s.plain (s.prefixed at p e))) t a k q = absurd (none-some t q)
literal_parts (Some (s.plain (s.binary o x y))) t a k q = absurd (none-some t q)
literal_parts (Some (s.plain (s.conditional c x y))) t a k q = absurd (none-some t q)
literal_parts (Some (s.plain (s.literal at (l.Number z)))) t a k q = absurd (none-some t q)
literal_parts (Some (s.plain (s.literal at l.True))) t a k q = absurd (none-some t q)
literal_parts (Some (s.plain (s.literal at l.False))) t a k q = absurd (none-some t q)
literal_parts (Some (s.plain (s.literal at l.Null))) t a k q = absurd (none-some t q)

pub other_parts : (v : Option ValueTree) (a : Tree) (n : ℕ) → literal_text v ≡ None
    → parts_by_number a n ≡ parts_of v a n
other_parts None a n e = refl
other_parts (Some (s.each m x)) a n e = refl
other_parts (Some (s.plain (s.literal at (l.Text u)))) a n e = absurd (none-some u (sym e))
other_parts (Some (s.plain (s.name at x))) a k q = refl
other_parts (Some (s.plain (s.interpolated at f ps))) a k q = refl
other_parts (Some (s.plain (s.object at ps))) a k q = refl
other_parts (Some (s.plain (s.array at es))) a k q = refl
other_parts (Some (s.plain (s.call at n es))) a k q = refl
other_parts (Some (s.plain (s.instance r))) a k q = refl
other_parts (Some (s.plain (s.field r at x))) a k q = refl
other_parts (Some (s.plain (s.output r at n))) a k q = refl
other_parts (Some (s.plain (s.member e n x))) a k q = refl
other_parts (Some (s.plain (s.index e n i))) a k q = refl
other_parts (Some (s.plain (s.prefixed at p e))) a k q = refl
other_parts (Some (s.plain (s.binary o x y))) a k q = refl
other_parts (Some (s.plain (s.conditional c x y))) a k q = refl
other_parts (Some (s.plain (s.literal at (l.Number z)))) a k q = refl
other_parts (Some (s.plain (s.literal at l.True))) a k q = refl
other_parts (Some (s.plain (s.literal at l.False))) a k q = refl
other_parts (Some (s.plain (s.literal at l.Null))) a k q = refl
