-- What can be made inside what can be made.
use Rattle.std.proofs.Common.{◌≡◌, ◌≤◌, ◌+◌, ◌*◌, ℕ, zero, suc, max, List, [], ◌∷◌, None, subst, arith}
use Rattle.std.specs.Prelude.{drop}
use Rattle.foundation.specs.declared.limits.TheConstants.{MAX_EXPRESSION_CHARACTERS, MAX_EXPRESSION_NESTING}
use Rattle.bicep_meaning.specs.Instances.{module_of}
use Rattle.bicep_symbols.specs.declared.entry.Entry.{Entry}
use Rattle.measured_trees.specs.Extremes.{Extremes, joined}
use Rattle.measured_trees.specs.Limits.{IsBeyond}
use Rattle.program_parts.specs.Parts.{extremes_of}
use Rattle.program_parts.specs.FileParts.{FileParts}
use Rattle.program_parts.specs.Programs.{IsAt}
use Rattle.program_parts.specs.Measures.{by_file, entries_in, inner_of, taken, taken_by, whole}
use Rattle.bicep_emit.specs.Modules.{AreOfProgram, CanBe, CanBeInner, CanBeModule, CanBeModules, CanBeWhole}

first_of : (a b n : ℕ) → max a b ≤ n → a ≤ n
first_of a b n h = omega (arith, h)

second_of : (a b n : ℕ) → max a b ≤ n → b ≤ n
second_of a b n h = omega (arith, h)

shallow : (x d : ℕ) → x ≤ 4 * d → d ≤ 30 → 0 + x ≤ 120
shallow x d h m = omega (arith, h, m)

one_less : (x d : ℕ) → suc (suc (suc (suc x))) ≤ 4 * suc d → x ≤ 4 * d
one_less x d h = omega (arith, h)

none_less : (x d : ℕ) → suc (suc (suc (suc x))) ≤ 4 * d → d ≡ 0 → ⊥
none_less x d h e = omega (arith, h, e)

with_most : (x : ℕ) → 0 + x ≤ 120 → x ≤ 4 * 30
with_most x h = omega (arith, h)

module _ (ps : List FileParts) (depth : ℕ) where
  can_first : (x y : Extremes) → CanBe ps (joined x y) depth → CanBe ps x depth
  can_first x y h = record {
    known = h.known;
    most = h.most;
    fits =
        record {
          short = first_of x.longest y.longest MAX_EXPRESSION_CHARACTERS h.fits.short;
          deep = first_of x.depth y.depth (4 * depth) h.fits.deep;
          flat = first_of x.deepest y.deepest MAX_EXPRESSION_NESTING h.fits.flat;
        };
  }

  can_second : (x y : Extremes) → CanBe ps (joined x y) depth → CanBe ps y depth
  can_second x y h = record {
    known = h.known;
    most = h.most;
    fits =
        record {
          short = second_of x.longest y.longest MAX_EXPRESSION_CHARACTERS h.fits.short;
          deep = second_of x.depth y.depth (4 * depth) h.fits.deep;
          flat = second_of x.deepest y.deepest MAX_EXPRESSION_NESTING h.fits.flat;
        };
  }

  -- the file of a number takes what its parts take, and what is in its modules
  can_taken : (k : ℕ) (p : FileParts) → IsAt ps k p → CanBeWhole ps k depth
      → CanBe ps (taken_by p (whole ps depth)) depth
  can_taken k p at h = subst (λ o. CanBe ps (taken o (whole ps depth)) depth) at h

  pub own_fits : (k : ℕ) (p : FileParts) → IsAt ps k p → CanBeWhole ps k depth → IsBeyond 0 (extremes_of p) None
  own_fits k p at h =
      let x = extremes_of p in
      let a = can_first x (inner_of (whole ps depth) (entries_in p)) (can_taken k p at h) in
      (a.fits.short, (shallow x.depth depth a.fits.deep a.most, a.fits.flat))

  pub modules_can : (k : ℕ) (p : FileParts) → IsAt ps k p → CanBeWhole ps k depth
      → CanBeModules ps (entries_in p) depth
  modules_can k p at h = can_second (extremes_of p) (inner_of (whole ps depth) (entries_in p)) (can_taken k p at h)

  -- each module among these symbols
  pub module_can : (es : List Entry) (i : ℕ) (e : Entry) (rest : List Entry) → drop i es ≡ e ∷ rest
      → CanBeModules ps es depth → CanBeModule ps e.kind depth
  module_can [] zero e rest d h = absurd cc
  module_can [] (suc i) e rest d h = absurd cc
  module_can (a ∷ es) zero e rest d h =
      can_first (by_file (whole ps depth) (module_of e.kind)) (inner_of (whole ps depth) rest)
      (subst (λ (l : List Entry). CanBeModules ps l depth) d h)
  module_can (a ∷ es) (suc i) e rest d h =
      module_can es i e rest d
      (can_second (by_file (whole ps depth) (module_of a.kind)) (inner_of (whole ps depth) es) h)

-- the file of a module
pub file_can : (ps : List FileParts) (k depth less : ℕ) → depth ≡ suc less → CanBeInner ps k depth
    → CanBeWhole ps k less
file_can ps k depth less e g =
    let h = subst (λ n. CanBeInner ps k n) e g in
    record {
      known = h.known;
      most = omega (arith, h.most);
      fits =
          record {
            short = h.fits.short;
            deep = one_less (whole ps (suc less) k).depth less h.fits.deep;
            flat = h.fits.flat;
          };
    }

pub none_can : (ps : List FileParts) (k depth : ℕ) → depth ≡ 0 → CanBeInner ps k depth → ⊥
none_can ps k depth e h = none_less (whole ps depth k).depth depth h.fits.deep e

-- the template of the program, where it is beyond no limit
pub program_can : (ps : List FileParts) → AreOfProgram ps → IsBeyond 0 (whole ps 31 0) None → CanBeWhole ps 0 30
program_can ps known h =
    record {
      known = known;
      most = omega arith;
      fits = record { short = h.0; deep = with_most (whole ps 31 0).depth h.1.0; flat = h.1.1 };
    }
