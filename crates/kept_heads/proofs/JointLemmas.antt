-- Joined expressions with a run in their holes.
use Rattle.std.proofs.Common.{◌≡◌, codes, refl, sym, [], ◌∷◌, ◌++◌, arith}
use Rattle.std.proofs.lemmas.Fmt.{decimal_digit}
use Rattle.arm_expr.specs.Tree.{Tree}
use Rattle.bicep_emission.specs.Emitted.{Frame}
use Rattle.bicep_emission.specs.Texts.{format_text}
use Rattle.emission_laws.specs.Holes.{fill}
use Rattle.emitted_declarations.specs.Declared.{two_holes}
use Rattle.kept_heads.specs.Joints.{joined}
use Rattle.kept_heads.specs.declared.joints.Joint.{Joint}
use Rattle.kept_heads.specs.declared.joints.Joint.TheVariants as joint

pub joined_filled : (f : Frame) (j : Joint) (a b : Tree) → fill f (joined j a b) ≡ joined j (fill f a) (fill f b)
joined_filled f joint.Slash a b = refl
joined_filled f joint.And a b = refl

pub slash_text : codes "{0}/{1}" ≡ format_text 0 [] (two_holes (47 ∷ []))
slash_text =
    let zero_is = decimal_digit 0 (omega arith) in
    let one_is = decimal_digit 1 (omega arith) in
    sym (λ i. 123 ∷ (zero_is i ++ 125 ∷ 47 ∷ 123 ∷ (one_is i ++ 125 ∷ [])))
