-- Whole names and conditions have holes for the run of the loop around, and no others.
use Rattle.std.proofs.Common.{◌≡◌, ℕ, zero, suc, List, [], ◌∷◌, Option, Some, None, codes, refl}
use Rattle.arm_expr.specs.Tree.{call}
use Rattle.bicep_resolved.specs.Source.{SourceTree}
use Rattle.bicep_resolved.specs.Target.{number_of, target_of}
use Rattle.bicep_circles.specs.Declarations.{BodyTree}
use Rattle.bicep_emission.specs.Declared.{body_at}
use Rattle.bicep_emission.specs.Files.{SourceFile, Parent, no_parent, inside, below, parent}
use Rattle.bicep_emission.specs.Emittable.{IsEmittable}
use Rattle.bicep_emission.specs.Emitted.{Frame, two, emitted, frames_of}
use Rattle.emission_laws.specs.Sound.{IsSound}
use Rattle.emission_laws.specs.Declared.{Emission, with_slash, name_of, full_name_by, condition_by, condition_of, through, next}
use Rattle.emission_laws.specs.Holes.{fill, holes, nearest}
use Rattle.emission_laws.proofs.FillLemmas.{Becomes, none_becomes, holes_become, filled, frames_filled}
use Rattle.emission_laws.proofs.FilledLemmas.{fills}
use Rattle.ordered_emissions.specs.Known.{HasHeads}

record HeadsFill (f : Frame) (b : Emission) : Type 0 where
  full_name : (n : ℕ) (gs hs : List Frame) → Becomes f gs hs → fill f (b.full_name n gs) ≡ b.full_name n hs
  condition : (n : ℕ) (gs hs : List Frame) → Becomes f gs hs → fill f (b.condition n gs) ≡ b.condition n hs

module _ (file : SourceFile) (files : List SourceFile) (sound : IsSound file) where
  module _ (f : Frame) (k : ℕ) (heads : HeadsFill f (through file files k)) where
    own_filled : (n : ℕ) (gs hs : List Frame) → Becomes f gs hs
        → fill f (name_of file files (through file files k) n gs) ≡ name_of file files (through file files k) n hs
    unfolding through next
    own_filled n gs hs h = (fills file files sound f (suc k)).scope.name n gs hs h

    name_after : (n : ℕ) (p : Parent) → parent file n ≡ p → (gs hs : List Frame) → Becomes f gs hs
        → fill f (full_name_by file files (through file files k) p
        (name_of file files (through file files k) n gs) gs)
        ≡ full_name_by file files (through file files k) p (name_of file files (through file files k) n hs) hs
    name_after n no_parent e gs hs h = own_filled n gs hs h
    name_after n (inside m) e gs hs h =
        let p = heads.full_name m [] [] (none_becomes f) in
        let q = own_filled n gs hs h in
        λ i. with_slash (p i) (q i)
    name_after n (below r) e gs hs h =
        let sc = (through file files k).scope in
        let p = heads.full_name (number_of (target_of r)) (frames_of file files sc r gs) (frames_of file files sc r hs)
        (frames_filled file files f sc (fills file files sound f k).scope r gs hs (sound.parents n r e) h) in
        let q = own_filled n gs hs h in
        λ i. with_slash (p i) (q i)

    expression_filled : (c : SourceTree) → IsEmittable c → (gs hs : List Frame) → Becomes f gs hs
        → fill f (emitted file files (through file files k).scope c gs)
        ≡ emitted file files (through file files k).scope c hs
    expression_filled c g gs hs h =
        filled file files f (through file files k).scope (fills file files sound f k).scope c gs hs g h

    condition_after : (p : Parent) (o : Option SourceTree) → ((c : SourceTree) → o ≡ Some c → IsEmittable c)
        → (gs hs : List Frame) → Becomes f gs hs
        → fill f (condition_by file files (through file files k) p o gs)
        ≡ condition_by file files (through file files k) p o hs
    condition_after no_parent None g gs hs h = refl
    condition_after no_parent (Some c) g gs hs h = expression_filled c (g c refl) gs hs h
    condition_after (inside m) None g gs hs h = heads.condition m [] [] (none_becomes f)
    condition_after (inside m) (Some c) g gs hs h =
        let p = heads.condition m [] [] (none_becomes f) in
        let q = expression_filled c (g c refl) gs hs h in
        λ i. call (codes "and") (two (p i) (q i))
    condition_after (below r) None g gs hs h = refl
    condition_after (below r) (Some c) g gs hs h = expression_filled c (g c refl) gs hs h

    condition_filled : (n : ℕ) (o : Option BodyTree) → body_at file n ≡ o → (gs hs : List Frame) → Becomes f gs hs
        → fill f (condition_of file files (through file files k) n o gs)
        ≡ condition_of file files (through file files k) n o hs
    condition_filled n None e gs hs h = refl
    condition_filled n (Some body) e gs hs h =
        condition_after (parent file n) body.condition (λ c q. sound.conditions n body c e q) gs hs h

    heads_next : HeadsFill f (through file files (suc k))
    unfolding through next
    heads_next = record {
      full_name = λ n gs hs h. name_after n (parent file n) refl gs hs h;
      condition = λ n gs hs h. condition_filled n (body_at file n) refl gs hs h;
    }

  heads_fill : (f : Frame) (k : ℕ) → HeadsFill f (through file files k)
  unfolding through
  heads_fill f zero = record { full_name = λ n gs hs h. refl; condition = λ n gs hs h. refl }
  heads_fill f (suc k) = heads_next f k (heads_fill f k)

  pub has_heads : (k n : ℕ) → HasHeads (through file files k) n
  has_heads k n = record {
    full_name = λ fs r. (heads_fill (nearest fs) k).full_name n (holes ∷ []) fs (holes_become fs r);
    condition = λ fs r. (heads_fill (nearest fs) k).condition n (holes ∷ []) fs (holes_become fs r);
  }
