-- The instances of the lines that were found.
use Rattle.std.proofs.Common.{◌≡◌, ℕ, ◌<◌, List, [], map, length, refl, sym, ap, subst, ◌∙◌, arith}
use Rattle.deploy_cells.specs.Cells.{Step, step, Position, Cell, included}
use Rattle.tag_needs.specs.Tags.{Tag, IsShared}
use Rattle.plan_cells.specs.Start.{start_world}
use Rattle.plan_filling.specs.Rows.{Row}
use Rattle.plan_refusals.specs.Keys.{ShareKey}
use Rattle.plan_table.specs.declared.line.Spot.{Spot}
use Rattle.plan_table.specs.declared.line.Spot.TheVariants as spotted
use Rattle.plan_table.specs.declared.line.Spot.TheVariants.{Included}
use Rattle.plan_table.specs.declared.table.Table.{Table}
use Rattle.plan_table.specs.Opened.{Opened}
use Rattle.plan_table.specs.Lines.{cell_of, line_at}
use Rattle.plan_table.specs.Whole.{whole_of, scopes_of, rows_in}
use Rattle.plan_table.specs.Found.{scope_at}
use Rattle.plan_table.proofs.LaidLemmas.{row_here, length_rows}
use Rattle.plan_tasks.specs.Start.{start_of, IsStartTable}
use Rattle.plan_openers.specs.declared.opener.Opener.{Opener}
use Rattle.plan_puts.specs.PutTags.{row_tags, AreSamePut}
use Rattle.plan_puts.proofs.LineLemmas.{instance_there}
use Rattle.plan_puts.proofs.SameLemmas.{AreSameRows, are_same}

position_in : Cell → Position
position_in (included p s) = p
position_in _ = []

step_in : Cell → Step
step_in (included p s) = s
step_in _ = step 0 0

record IsCondition (x : Spot) : Type 0 where
  frame : ℕ
  resource : ℕ
  copy : ℕ
  is : x ≡ Included frame resource copy

condition_of : (os : List Opened) (x : Spot) (p : Position) (s : Step) → cell_of os x ≡ included p s → IsCondition x
condition_of os (Included g r i) p s e = record { frame = g; resource = r; copy = i; is = refl }
condition_of os (spotted.Parameter g n) p s e = absurd (cc)
condition_of os (spotted.Variable g n) p s e = absurd (cc)
condition_of os (spotted.Offered g n) p s e = absurd (cc)
condition_of os (spotted.Output g n) p s e = absurd (cc)
condition_of os (spotted.Count g r) p s e = absurd (cc)
condition_of os (spotted.Name g r i) p s e = absurd (cc)
condition_of os (spotted.Deployments g) p s e = absurd (cc)

module _ (t : Table) (start : IsStartTable t) (all : List (List Tag)) (i j : ℕ)
    (is : all ≡ map (row_tags (whole_of t) (start_of t)) (rows_in t)) (shared : IsShared all i j) where
  found : AreSameRows (whole_of t) (start_of t) (rows_in t) i j
  found =
      are_same (whole_of t) (start_of t) (rows_in t) i j start.filled.sound.distinct
      (subst (λ ts. IsShared ts i j) is shared)

  pub first_listed : i < length t.lines.items
  first_listed =
      let n = length_rows (scopes_of t) t.lines.items in let h = found.first_there in omega (arith, n, h)

  pub second_listed : j < length t.lines.items
  second_listed =
      let n = length_rows (scopes_of t) t.lines.items in let h = found.second_there in omega (arith, n, h)

  first_cell : cell_of (scopes_of t) (line_at t.lines.items i).spot ≡ included found.first_at found.first
  first_cell =
      sym (ap (λ (r : Row). r.cell) (row_here (scopes_of t) t.lines.items i first_listed)) ∙ found.is_first

  second_cell : cell_of (scopes_of t) (line_at t.lines.items j).spot ≡ included found.second_at found.second
  second_cell =
      sym (ap (λ (r : Row). r.cell) (row_here (scopes_of t) t.lines.items j second_listed)) ∙ found.is_second

  pub first_is : ((f r k : ℕ) → (line_at t.lines.items i).spot ≡ Included f r k → ⊥) → ⊥
  first_is none =
      let x = condition_of (scopes_of t) (line_at t.lines.items i).spot found.first_at found.first first_cell in
      none x.frame x.resource x.copy x.is

  pub second_is : ((f r k : ℕ) → (line_at t.lines.items j).spot ≡ Included f r k → ⊥) → ⊥
  second_is none =
      let x = condition_of (scopes_of t) (line_at t.lines.items j).spot found.second_at found.second second_cell in
      none x.frame x.resource x.copy x.is

  pub same_put : (x y : Opener) → (line_at t.lines.items i).spot ≡ Included x.frame x.resource x.copy
      → (line_at t.lines.items j).spot ≡ Included y.frame y.resource y.copy → AreSamePut t x y
  unfolding position_in step_in
  same_put x y e g =
      let a : included (scope_at t x.frame).position (step x.resource x.copy)
      ≡ included found.first_at found.first = sym (ap (cell_of (scopes_of t)) e) ∙ first_cell in
      let b : included (scope_at t y.frame).position (step y.resource y.copy)
      ≡ included found.second_at found.second = sym (ap (cell_of (scopes_of t)) g) ∙ second_cell in
      record {
        is_first = instance_there t start i x.frame x.resource x.copy first_listed e;
        is_second = instance_there t start j y.frame y.resource y.copy second_listed g;
        share = by_cells (ap position_in a) (ap step_in a) (ap position_in b) (ap step_in b) found.share;
      }
    where
      by_cells : {P p R r : Position} {S s U u : Step} → P ≡ p → S ≡ s → R ≡ r → U ≡ u
          → ShareKey (whole_of t) (start_world (start_of t)) p s r u
          → ShareKey (whole_of t) (start_world (start_of t)) P S R U
      by_cells {P} {p} {R} {r} {S} {s} {U} {u} a b c d h =
          subst (λ (z : Position). ShareKey (whole_of t) (start_world (start_of t)) z S R U) (sym a)
          (subst (λ (z : Step). ShareKey (whole_of t) (start_world (start_of t)) p z R U) (sym b)
          (subst (λ (z : Position). ShareKey (whole_of t) (start_world (start_of t)) p s z U) (sym c)
          (subst (λ (z : Step). ShareKey (whole_of t) (start_world (start_of t)) p s r z) (sym d) h)))
