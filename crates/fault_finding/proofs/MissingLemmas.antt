-- Cells of lines that have readings, and how the code reads a parameter.
use Rattle.std.proofs.Common.{◌≡◌, ℕ, zero, suc, ◌<◌, List, [], ◌∷◌, length, get_or, Option, Some, None}
use Rattle.std.proofs.Common.{refl, sym, ap, ◌∙◌, arith}
use Rattle.template_parts.specs.declared.parameter.Parameter.{Parameter}
use Rattle.deploy_cells.specs.Cells.{step}
use Rattle.deploy_cells.specs.Guarded.{Reads}
use Rattle.plan_cells.specs.Resources.{header_in}
use Rattle.plan_cells.specs.Meaning.{raw}
use Rattle.plan_table.specs.declared.frame.Frame.{Frame}
use Rattle.plan_table.specs.declared.line.Spot.{Spot}
use Rattle.plan_table.specs.declared.line.Spot.TheVariants as spot
use Rattle.plan_table.specs.declared.table.Table.{Table}
use Rattle.plan_table.specs.Lines.{cell_of}
use Rattle.plan_table.specs.Opened.{Opened}
use Rattle.plan_table.specs.Whole.{whole_of, scopes_of}
use Rattle.plan_table.specs.Found.{scope_at}
use Rattle.plan_table.proofs.FrameLemmas.{frame_is}
use Rattle.plan_sight.specs.Ready.{IsReady}
use Rattle.plan_sight.proofs.LookLemmas.{frames_there}
use Rattle.plan_start.proofs.RawLemmas.{raw_variable, raw_count, raw_included, raw_name}
use Rattle.plan_start.proofs.ValueLemmas.{variable_within}
use Rattle.lack_faults.specs.Lacks.{IsMissingAt}

element : {A : Type 0} (xs : List A) (n : ℕ) → n < length xs → (x : A) × (x ≡ get_or xs n x)
element [] n h = absurd (omega (arith, h))
element (x ∷ xs) zero h = (x, refl)
element (x ∷ xs) (suc n) h = element xs n (omega (arith, h))

some_none : {A : Type 0} (o : Option A) (x : A) → o ≡ Some x → o ≡ None → ⊥
some_none o x e g = cc

module _ (t : Table) (ready : IsReady t) (path : List ℕ) where
  none_read : (s : Spot) (x : Reads _) → raw (whole_of t) (cell_of (scopes_of t) s) ≡ Some x → IsMissingAt t s path → ⊥
  none_read s x e m = some_none (raw (whole_of t) (cell_of (scopes_of t) s)) x e m.has_none

  pub variable_there : (f n : ℕ) → IsMissingAt t (spot.Variable f n) path → ⊥
  variable_there f n m =
      let h = frames_there t f m.is_placed.there in
      let within = variable_within t f n m.is_placed.declared.1 in
      let v = element (header_in (scope_at t f).template).variables n within in
      none_read (spot.Variable f n) _ (raw_variable t f ready h n v.0 m.is_placed.declared.0 within v.1) m

  pub included_there : (f r i : ℕ) → IsMissingAt t (spot.Included f r i) path → ⊥
  included_there f r i m =
      none_read (spot.Included f r i) _
      (raw_included t f ready (frames_there t f m.is_placed.there) (step r i) m.is_placed.declared.0) m

  pub count_there : (f r : ℕ) → IsMissingAt t (spot.Count f r) path → ⊥
  count_there f r m =
      none_read (spot.Count f r) _
      (raw_count t f ready (frames_there t f m.is_placed.there) r m.is_placed.declared) m

  pub name_there : (f r i : ℕ) → IsMissingAt t (spot.Name f r i) path → ⊥
  name_there f r i m =
      none_read (spot.Name f r i) _
      (raw_name t f ready (frames_there t f m.is_placed.there) (step r i) m.is_placed.declared.0) m

-- a parameter of the template of a frame that was read
pub parameter_read : (t : Table) (f n : ℕ) (x : Frame) (qs : List Parameter) (q : Parameter) → f < length (scopes_of t)
    → x ≡ get_or t.frames.items f x → qs ≡ x.template.now.parameters → q ≡ get_or qs n q
    → q ≡ get_or (header_in (scope_at t f).template).parameters n q
parameter_read t f n x qs q h e g k =
    let same : qs ≡ (header_in (scope_at t f).template).parameters =
    g ∙ ap (λ (o : Opened). (header_in o.template).parameters)
    (sym (frame_is t.frames.items f x (frames_there t f h) e)) in
    k ∙ ap (λ zs. get_or zs n q) same
