-- The nearest run of a loop, and ids with a run in the holes of their parts.
use Rattle.std.proofs.Common.{◌≡◌, ◌∙◌, ◌<◌, ◌≤◌, ℕ, Bool, true, false, List, [], ◌∷◌, length}
use Rattle.std.proofs.Common.{refl, ap, sym, subst, arith, codes, map}
use Rattle.std.proofs.lemmas.Bool.{false≢true}
use Rattle.std.specs.Prelude.{slice_index_or, Result}
use Rattle.std.specs.declared.alloc.AllocError.{AllocError}
use Rattle.arm_expr.specs.Tree.{Tree, text, call, more, trees}
use Rattle.arm_expr.specs.declared.expr.Expr.{Expr}
use Rattle.emitted_expressions.specs.Files.{SourceFile, type_of}
use Rattle.emitted_expressions.specs.Emitted.{Frame, no_value}
use Rattle.kept_parts.specs.Declared.{Emission, id_of_parts}
use Rattle.ordered_emissions.specs.Holes.{fill, fill_all, holes, nearest}
use Rattle.emitted_expressions.specs.Built.{Is}
use Rattle.emitted_sizes.specs.Extent.{IsOf}
use Rattle.emitted_sizes.specs.declared.extent.Extent.{Extent}
use Rattle.emitted_expressions.specs.Sight.{frame_of, frames_of}
use Rattle.emitted_expressions.specs.declared.turns.Turn.{Turn}
use Rattle.measured_expressions.specs.Spans.{IsSpan, AreSpans}
use Rattle.measured_expressions.specs.declared.spans.Span.{Span}
use Rattle.declared_table.specs.Entries.{IsId}

pub first_run : (ts : List Turn) (t : Turn) → 0 < length ts → t ≡ slice_index_or ts 0 t
    → nearest (frames_of ts) ≡ frame_of t
first_run [] t h e = absurd (omega (arith, h))
first_run (u ∷ ts) t h e = ap frame_of (sym e)

pub no_run : (ts : List Turn) → length ts ≤ 0 → frames_of ts ≡ []
no_run [] h = refl
no_run (t ∷ ts) h = absurd (omega (arith, h))

pub span_there : (fs : List Frame) (s : Span) → AreSpans fs (s ∷ []) → IsSpan (nearest fs) s
span_there [] s h = absurd h
span_there (f ∷ fs) s h = h.0

pub span_absent : (fs : List Frame) (s : Span) → AreSpans fs [] → IsSpan (nearest []) s → IsSpan (nearest fs) s
span_absent [] s a h = h
span_absent (f ∷ fs) s a h = absurd a

-- ---- ids

all_filled : (f : Frame) (ts : List Tree) → fill_all f (trees ts) ≡ trees (map (fill f) ts)
all_filled f [] = refl
all_filled f (t ∷ ts) = ap (more (fill f t)) (all_filled f ts)

id_filled : (f : Frame) (kind : List ℕ) (ts : List Tree)
    → fill f (id_of_parts kind ts) ≡ id_of_parts kind (map (fill f) ts)
id_filled f kind ts = ap (λ es. call (codes "resourceId") (more (text kind) es)) (all_filled f ts)

-- what holds of the id of a resource that is made of its parts, or of an expression without a value, holds of the id
module _ (file : SourceFile) (b : Emission) (n : ℕ) (f : Frame) (P : Tree → Type 0) where
  resource : (q : Bool) → q ≡ true → IsId file b n q
      → P (id_of_parts (type_of file n).kind (map (fill f) (b.parts n (holes ∷ []))))
      → P (fill f (b.scope.id n (holes ∷ [])))
  resource true e is h =
      subst P (sym (ap (fill f) is ∙ id_filled f (type_of file n).kind (b.parts n (holes ∷ [])))) h
  resource false e is h = absurd (false≢true e)

  other : (q : Bool) → q ≡ false → IsId file b n q → P no_value → P (fill f (b.scope.id n (holes ∷ [])))
  other true e is h = absurd (false≢true (sym e))
  other false e is h = subst P (sym (ap (fill f) is)) h

module _ (file : SourceFile) (b : Emission) (n : ℕ) (f : Frame) where
  pub id_built : (r : Result Expr AllocError) (q : Bool) → q ≡ true → IsId file b n q
      → Is (id_of_parts (type_of file n).kind (map (fill f) (b.parts n (holes ∷ [])))) r
      → Is (fill f (b.scope.id n (holes ∷ []))) r
  id_built r q = resource file b n f (λ t. Is t r) q

  pub no_id_built : (r : Result Expr AllocError) (q : Bool) → q ≡ false → IsId file b n q → Is no_value r
      → Is (fill f (b.scope.id n (holes ∷ []))) r
  no_id_built r q = other file b n f (λ t. Is t r) q

  pub id_measured : (x : Extent) (q : Bool) → q ≡ true → IsId file b n q
      → IsOf (id_of_parts (type_of file n).kind (map (fill f) (b.parts n (holes ∷ [])))) x
      → IsOf (fill f (b.scope.id n (holes ∷ []))) x
  id_measured x q = resource file b n f (λ t. IsOf t x) q

  pub no_id_measured : (x : Extent) (q : Bool) → q ≡ false → IsId file b n q → IsOf no_value x
      → IsOf (fill f (b.scope.id n (holes ∷ []))) x
  no_id_measured x q = other file b n f (λ t. IsOf t x) q
