-- What is told at a point of the body of an instance.
use Rattle.std.proofs.Common.{◌≡◌, ℕ, ◌<◌, List, length, Option, Some, None, Result, Ok, Err, sym, ap, subst, ◌∙◌}
use Rattle.std.specs.Prelude.{option_map, option_and_then, slice_get}
use Rattle.arm_value.specs.Json.{Json, Member, object, pairs}
use Rattle.arm_eval.specs.Trees.{tree_value}
use Rattle.reading.specs.Reading.{pure}
use Rattle.reading.specs.Knowledge.{value, and_then}
use Rattle.deploy_cells.specs.Cells.{Step, Position}
use Rattle.deploy_cells.specs.Guarded.{Reads, there, there_if}
use Rattle.plan_cells.specs.Resources.{Listed, members_in}
use Rattle.plan_cells.specs.Sites.{reading_at, body_site}
use Rattle.plan_cells.specs.Meaning.{Deployment, bodies, body_value}
use Rattle.plan_table.specs.declared.table.Table.{Table}
use Rattle.plan_table.specs.Lines.{IsNumber}
use Rattle.plan_table.specs.Whole.{whole_of}
use Rattle.plan_table.specs.Found.{scope_at}
use Rattle.plan_sight.specs.declared.lack.Lack.{Lack}
use Rattle.plan_sight.specs.Ready.{IsReady}
use Rattle.plan_sight.specs.Seen.{Shows, Stops, Yields}
use Rattle.plan_nested.proofs.OutputLemmas.{lacks_stopped}
use Rattle.plan_values.proofs.SiteLemmas.{resource_numbered, two_listed}
use Rattle.point_rows.specs.declared.later.Later.{Later}
use Rattle.point_rows.specs.Rows.{told_now}
use Rattle.point_rows.proofs.ToldNowLemmas.{told_pure, goes}
use Rattle.point_rows.proofs.SeenNowLemmas.{stop_goes}

module _ (t : Table) (l : Later) where
  -- what is there has a value
  shown_there : {X : Type 0} (view : X → Json) (r : Result X Lack) (q : Reads Json) → Yields view t r (told_now t l q)
      → Shows view t r (told_now t l (there q))
  shown_there view (Ok x) q h =
      goes t l q (λ v. pure (Some v)) ∙ ap (λ u. and_then u (λ v. told_now t l (pure (Some v)))) h
      ∙ told_pure t l (Some (view x))
  shown_there view (Err e) q h =
      lacks_stopped t e (told_now t l (there q))
      (subst (Stops t e) (sym (goes t l q (λ v. pure (Some v))))
      (stop_goes t e (told_now t l q) (λ v. told_now t l (pure (Some v))) h))

  pub shown : {X : Type 0} (view : X → Json) (r : Result X Lack) (o : Option (Reads Json)) (q : Reads Json)
      → o ≡ Some q → Yields view t r (told_now t l q) → Shows view t r (told_now t l (there_if o))
  shown view r o q e h =
      subst (λ p. Shows view t r (told_now t l (there_if p))) (sym e) (shown_there view r q h)

  -- what has a value whatever is known
  pub pure_there : (j : Json) → told_now t l (there_if (Some (pure j))) ≡ value (Some j)
  pure_there j =
      goes t l (pure j) (λ v. pure (Some v)) ∙ ap (λ u. and_then u (λ v. told_now t l (pure (Some v)))) (told_pure t l
      j)
      ∙ told_pure t l (Some j)

  pub not_there : (o : Option (Reads Json)) → o ≡ None → told_now t l (there_if o) ≡ value None
  not_there o e = ap (λ p. told_now t l (there_if p)) e ∙ told_pure t l None

module _ (t : Table) (f : ℕ) (ready : IsReady t) (h : f < length t.frames.items) (s : Step)
    (n : IsNumber (scope_at t f) s.resource) where
  abbrev d : Deployment
  d = whole_of t

  abbrev p : Position
  p = (scope_at t f).position

  abbrev pub members_read : List Member → Reads Json
  members_read ms = reading_at d.template d.place (body_site d.template p s) (tree_value (object (pairs ms)))

  by_members : (o : Option (List Member)) → members_in n.listed.content ≡ o
      → bodies d p s ≡ option_map members_read o
  by_members o e =
      ap (option_and_then (body_value d p s)) (resource_numbered t f ready h s.resource n) ∙ ap (option_map
      members_read) e

  pub body_is : (ms : List Member) → members_in n.listed.content ≡ Some ms → bodies d p s ≡ Some (members_read ms)
  body_is ms e = by_members (Some ms) e

  pub no_body : members_in n.listed.content ≡ None → bodies d p s ≡ None
  no_body e = by_members None e

-- the members of a resource that was looked up
pub listed_members : (t : Table) (f r : ℕ) (y : Listed) (o : Option (List Member))
    → slice_get (scope_at t f).resources r ≡ Some y → members_in y.content ≡ o
    → (x : Listed) → slice_get (scope_at t f).resources r ≡ Some x → members_in x.content ≡ o
listed_members t f r y o has e x h = ap (λ (z : Listed). members_in z.content) (two_listed t f r x y h has) ∙ e
