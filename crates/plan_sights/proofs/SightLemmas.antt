-- What is known of a cell that an expression looks at, by what a look at the table returned.
use Rattle.std.proofs.Common.{◌≡◌, ℕ, true, false, List, [], ◌∷◌, map, Option, Some, None, refl, sym, ap, subst, ◌∙◌}
use Rattle.std.specs.Prelude.{option_map, option_and_then, if◌then◌else◌}
use Rattle.deploy_cells.specs.Guarded.{Reads}
use Rattle.reading.specs.Reading.{pure}
use Rattle.arm_value.specs.Json.{Json}
use Rattle.arm_ids.specs.declared.id.ResourceId.{ResourceId}
use Rattle.arm_env.specs.declared.stop.Stop.{Stop}
use Rattle.arm_env.specs.declared.stop.Stop.TheVariants as stop
use Rattle.arm_env.specs.Answer.{Stops}
use Rattle.arm_env.specs.Look as look
use Rattle.arm_env.specs.Look.{Look, Fact, seen}
use Rattle.reading.specs.Knowledge.{Known, known, absent, missing, Told, value, no_value, waits, told, by_entry}
use Rattle.reading.specs.Knowledge.{finished}
use Rattle.deploy_cells.specs.Cells.{Cell, state}
use Rattle.deploy_cells.specs.Same.{same}
use Rattle.plan_sight.specs.Sites.{value_of, named_at}
use Rattle.plan_table.specs.Rows.{Row, status_of, table, known_by}
use Rattle.template_tree.specs.View.{template_tree}
use Rattle.plan_table.specs.declared.table.Table.{Table}
use Rattle.plan_table.specs.declared.line.Line.{Line}
use Rattle.plan_table.specs.declared.line.Spot.{Spot}
use Rattle.plan_table.specs.declared.line.Spot.TheVariants.{Parameter, Variable, Offered, Output, Count, Included, Name, Deployments}
use Rattle.plan_table.specs.Opened.{Opened, opened_at}
use Rattle.plan_table.specs.Lines.{cell_in, frame_of, row_of}
use Rattle.plan_table.specs.Whole.{scopes_of, rows_in}
use Rattle.plan_sight.specs.declared.lack.Lack.{Lack}
use Rattle.plan_sight.specs.declared.lack.Lack.TheVariants as lack
use Rattle.plan_sight.specs.Seen.{Lacks}
use Rattle.plan_sights.specs.declared.lacking.Lacking.TheVariants as lacking
use Rattle.plan_sights.specs.Resolved.{known_of}
use Rattle.plan_sights.specs.Seats.{Seat, lacking_of, seen_in, known_in, IsAwait}

-- ---- what a lack is

nothing_known : (t : Table) (e : Lack) (u : Told Cell (Option Fact)) → lacking.Nothing ≡ lacking_of e → Lacks t e u
    → known_of u ≡ absent
nothing_known t lack.NotThere u q h = ap known_of h
nothing_known t lack.NoValue u q h = absurd (cc)
nothing_known t (lack.Line j) u q h = absurd (cc)
nothing_known t (lack.State k) u q h = absurd (cc)
nothing_known t lack.OutOfMemory u q h = absurd (cc)

none_known : (t : Table) (e : Lack) (u : Told Cell (Option Fact)) → lacking.Missing ≡ lacking_of e → Lacks t e u
    → known_of u ≡ missing
none_known t lack.NotThere u q h = absurd (cc)
none_known t lack.NoValue u q h = ap known_of h
none_known t (lack.Line j) u q h = ap known_of h.1
none_known t (lack.State k) u q h = ap known_of h
none_known t lack.OutOfMemory u q h = absurd (cc)

-- ---- what is told of a look

module _ {A : Type 0} (p : Look → Known Fact) (f : Fact → Option A) (c : Look) where
  entry_told : told p (seen f c) ≡ by_entry c (λ o. finished (option_and_then f o)) (p c)
  unfolding told seen
  entry_told = refl

  told_known : (x : Fact) (y : A) → p c ≡ known x → f x ≡ Some y → told p (seen f c) ≡ value y
  told_known x y e h =
      entry_told ∙ ap (by_entry c (λ o. finished (option_and_then f o))) e ∙ ap finished h

  told_absent : p c ≡ absent → told p (seen f c) ≡ no_value
  told_absent e = entry_told ∙ ap (by_entry c (λ o. finished (option_and_then f o))) e

  told_missing : p c ≡ missing → told p (seen f c) ≡ waits c
  told_missing e = entry_told ∙ ap (by_entry c (λ o. finished (option_and_then f o))) e

-- what an expression sees, where it is as the code has it
module _ {A : Type 0} (r s : Seat) (is : r ≡ s) (f : Fact → Option A) (c : Look) where
  pub shown : (x : Fact) (y : A) → f x ≡ Some y → seen_in r c ≡ value (Some x)
      → told (known_in s) (seen f c) ≡ value y
  shown x y h e = subst (λ z. told (known_in z) (seen f c) ≡ value y) is (told_known (known_in r) f c x y (ap
      known_of e) h)

  pub hidden : (t : Table) (e : Lack) → lacking.Nothing ≡ lacking_of e → Lacks t e (seen_in r c)
      → told (known_in s) (seen f c) ≡ no_value
  hidden t e q h =
      subst (λ z. told (known_in z) (seen f c) ≡ no_value) is
      (told_absent (known_in r) f c (nothing_known t e (seen_in r c) q h))

  pub awaited : (t : Table) (e : Lack) → lacking.Missing ≡ lacking_of e → Lacks t e (seen_in r c)
      → told (known_in s) (seen f c) ≡ waits c
  awaited t e q h =
      subst (λ z. told (known_in z) (seen f c) ≡ waits c) is
      (told_missing (known_in r) f c (none_known t e (seen_in r c) q h))

pub await_stops : {A : Type 0} (s : Stop) (c : Look) (u : Told Look A) → IsAwait s c → u ≡ waits c → Stops s u
await_stops stop.NoValue c u h e = absurd h
await_stops (stop.Waits d) c u h e = e ∙ ap waits (sym h)
await_stops stop.OutOfMemory c u h e = tt

-- ---- states

pub spot_differs : (o : Opened) (s : Spot) (k : ResourceId) → same (cell_in o s) (state k) ≡ false
spot_differs o (Parameter f n) k = refl
spot_differs o (Variable f n) k = refl
spot_differs o (Offered f n) k = refl
spot_differs o (Output f n) k = refl
spot_differs o (Count f r) k = refl
spot_differs o (Included f r i) k = refl
spot_differs o (Name f r i) k = refl
spot_differs o (Deployments f) k = refl

pub no_state : (os : List Opened) (ls : List Line) (k : ResourceId) → status_of (map (row_of os) ls) (state k) ≡ None
no_state os [] k = refl
no_state os (l ∷ ls) k =
    ap (λ b. if b then Some (row_of os l).status else status_of (map (row_of os) ls) (state k))
    (spot_differs (opened_at os (frame_of l.spot)) l.spot k) ∙ no_state os ls k

state_told : (rs : List Row) (k : ResourceId) → status_of rs (state k) ≡ None
    → told (table (status_of rs)) (value_of (state k)) ≡ waits (state k)
unfolding told
state_told rs k e =
    ap (λ o. by_entry (state k) (λ v. told (table (status_of rs)) (next v)) (known_by o)) e
  where
    next : Option Json → Reads (Option Fact)
    next v = pure (option_map look.a_value v)

pub state_awaited : (t : Table) (r s : Seat) → r ≡ s → r.0.0 ≡ rows_in t → (f : Fact → Option Json) (k : ResourceId)
    → told (known_in s) (seen f (look.state k)) ≡ waits (look.state k)
state_awaited t r s is rs f k =
    subst (λ z. told (known_in z) (seen f (look.state k)) ≡ waits (look.state k)) is
    (told_missing (known_in r) f (look.state k)
    (ap known_of
    (state_told r.0.0 k (ap (λ xs. status_of xs (state k)) rs ∙ no_state (scopes_of t) t.lines.items k))))

-- ---- texts

told_nothing : (rs : List Row) → told (table (status_of rs)) (pure {A = Option Fact} None) ≡ value None
unfolding told
told_nothing rs = refl

-- a text that means nothing
pub unnamed : (r s : Seat) → r ≡ s → r.1.1.1 ≡ false → (f : Fact → Option ResourceId) (x : List ℕ)
    → told (known_in s) (seen f (look.named x)) ≡ no_value
unnamed r s is b f x =
    subst (λ z. told (known_in z) (seen f (look.named x)) ≡ no_value) is
    (told_absent (known_in r) f (look.named x)
    (ap (λ c. known_of (seen_in (r.0, (r.1.0, (r.1.1.0, c))) (look.named x))) b ∙ ap known_of (told_nothing r.0.0)))

-- a text that names a resource
pub named_seen : (r : Seat) → r.1.1.1 ≡ true → (x : List ℕ)
    → told (table (status_of r.0.0)) (named_at (template_tree r.0.1) r.1.0.1 r.1.0.0 x) ≡ seen_in r (look.named x)
named_seen r b x = ap (λ c. seen_in (r.0, (r.1.0, (r.1.1.0, c))) (look.named x)) (sym b)
