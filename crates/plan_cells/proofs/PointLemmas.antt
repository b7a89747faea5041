-- What is known at a point stays known, and is so in the desired states on whose way the point is.
use Rattle.std.proofs.Common.{◌≡◌, Bool, true, false, true≢false, [], ◌∷◌, Option, Some, None, refl, sym}
use Rattle.std.proofs.Common.{ap, subst, ◌∙◌}
use Rattle.std.specs.Prelude.{◌||◌, if◌then◌else◌}
use Rattle.std.specs.List.{list_any}
use Rattle.template_parameters.specs.Json.{Json}
use Rattle.deploy_cells.specs.ResourceId.{ResourceId}
use Rattle.reading.specs.Knowledge.{Known, known, absent, missing, Stays, Grows}
use Rattle.deploy_cells.specs.Cells.{Position, Cell, parameter, variable, offered, output, count, included, name, deployments, state, World}
use Rattle.deploy_cells.specs.Guarded.{Meaning}
use Rattle.deploy_cells.specs.Puts.{IsPutAt}
use Rattle.deploy_cells.specs.Same.{same_id}
use Rattle.plan_cells.specs.Known.{Access, outright, by_others, hidden, Moment, Table, IsKnown, is_outright}
use Rattle.plan_cells.specs.Known.{is_told, IsTable, IsTrueIn}
use Rattle.plan_cells.specs.Meaning.{Deployment, meaning}
use Rattle.plan_cells.specs.Desired.{kinds, held_state, Satisfies}
use Rattle.plan_cells.specs.Start.{Point, Basis, where_stored, is_there, if_seen, output_access, at_point}
use Rattle.plan_cells.specs.Start.{IsTableAt, IsLater, IsOnTheWay}
use Rattle.plan_cells.proofs.KnownLemmas.{has_known}

-- as much, or more
abbrev Widens : Access → Access → Type 0
Widens (outright o) a = a ≡ outright o
Widens by_others a = a ≡ by_others
Widens hidden a = Unit {0}

module _ (m : Meaning) (n l : Moment) (wide : (c : Cell) → Widens (n c) (l c)) where
  by_access : (c : Cell) (a : Access) → n c ≡ a → Widens a (l c)
  by_access c a e = subst (λ (x : Access). Widens x (l c)) e (wide c)

  known_later : (c : Cell) (o : Option Json) → IsKnown m n c o → IsKnown m l c o
  known_later c o (is_outright _ _ e) = is_outright c o (by_access c (outright o) e)
  known_later c o (is_told _ _ p b h e) =
      is_told c o p (by_access c by_others b) (λ d u f. known_later d u (h d u f)) e

  module _ (q r : Table) (t : IsTable m n q) (u : IsTable m l r) where
    stays : (c : Cell) (e : Known Json) → q c ≡ e → Stays e (r c)
    stays c (known v) e = has_known m l r u c (Some v) (known_later c (Some v) (t.is_known c (Some v) e))
    stays c absent e = has_known m l r u c None (known_later c None (t.is_known c None e))
    stays c missing e = tt

    pub grows : Grows q r
    grows c = stays c (q c) refl

module _ (c : Basis) (p q : Point) (later : IsLater p q) where
  stored_later : (o u : Option Json) → ((j : Json) → o ≡ Some j → u ≡ Some j)
      → Widens (where_stored o) (where_stored u)
  stored_later None u h = tt
  stored_later (Some j) u h = ap where_stored (h j refl)

  state_later : (k : ResourceId) (b : Bool)
      → Widens (if b then where_stored (p.stored k) else outright (held_state c.held k))
      (if b then where_stored (q.stored k) else outright (held_state c.held k))
  state_later k true = stored_later (p.stored k) (q.stored k) (later.stored k)
  state_later k false = refl

  or_later : (a b e : Bool) → (b ≡ true → e ≡ true) → Widens (if_seen (a || b)) (if_seen (a || e))
  or_later true b e h = refl
  or_later false true e h = ap if_seen (h refl)
  or_later false false e h = tt

  output_later : (r : Position) (x : Cell) → Widens (output_access c p r x) (output_access c q r x)
  output_later [] x = refl
  output_later (s ∷ r) x =
      or_later (is_there (c.start x)) (p.is_left (s ∷ r)) (q.is_left (s ∷ r)) (later.left (s ∷ r))

  pub widens : (x : Cell) → Widens (at_point c p x) (at_point c q x)
  widens (parameter r x) = refl
  widens (variable r x) = refl
  widens (offered r x) = output_later r (offered r x)
  widens (output r x) = output_later r (output r x)
  widens (count r k) = refl
  widens (included r s) = refl
  widens (name r s) = refl
  widens (deployments r) = refl
  widens (state k) = state_later k (list_any (same_id k) c.keys)

pub later_point : (d : Deployment) (c : Basis) (p q : Point) → IsLater p q → (s t : Table) → IsTableAt d c p s
    → IsTableAt d c q t → Grows s t
later_point d c p q l s t u v = grows (meaning d) (at_point c p) (at_point c q) (widens c p q l) s t u v

module _ (d : Deployment) (c : Basis) (p : Point) (w : World) (h : Satisfies d c.held w)
    (way : IsOnTheWay d c p w) where
  same_outright : (o u : Option Json) → outright o ≡ outright u → o ≡ u
  same_outright o u e = cc

  stored_so : (k : ResourceId) (u : Option Json) (o : Option Json) → p.stored k ≡ u → where_stored u ≡ outright o
      → w (state k) ≡ o
  stored_so k None o e f = let g : hidden ≡ outright o = f in absurd (cc)
  stored_so k (Some j) o e f = way.stored k j e ∙ same_outright (Some j) o f

  not_put : (k : ResourceId) → list_any (same_id k) c.keys ≡ false → IsPutAt d.place (kinds d) w k → ⊥
  not_put k e i = true≢false (sym (way.keys k i) ∙ e)

  state_so : (k : ResourceId) (o : Option Json) (b : Bool) → list_any (same_id k) c.keys ≡ b
      → (if b then where_stored (p.stored k) else outright (held_state c.held k)) ≡ outright o → w (state k) ≡ o
  state_so k o true e f = stored_so k (p.stored k) o refl f
  state_so k o false e f = h.others_are_held k (not_put k e) ∙ same_outright (held_state c.held k) o f

  no_others : (o : Option Json) → by_others ≡ outright o → ⊥
  no_others o e = cc

  if_so : (b : Bool) (o : Option Json) → if_seen b ≡ outright o → ⊥
  if_so true o e = cc
  if_so false o e = cc

  output_so : (r : Position) (x : Cell) (o : Option Json) → output_access c p r x ≡ outright o → ⊥
  output_so [] x o e = no_others o e
  output_so (s ∷ r) x o e = if_so (is_there (c.start x) || p.is_left (s ∷ r)) o e

  pub true_at_point : IsTrueIn w (at_point c p)
  true_at_point (parameter r x) o e = absurd (no_others o e)
  true_at_point (variable r x) o e = absurd (no_others o e)
  true_at_point (offered r x) o e = absurd (output_so r (offered r x) o e)
  true_at_point (output r x) o e = absurd (output_so r (output r x) o e)
  true_at_point (count r k) o e = absurd (no_others o e)
  true_at_point (included r s) o e = absurd (no_others o e)
  true_at_point (name r s) o e = absurd (no_others o e)
  true_at_point (deployments r) o e = absurd (no_others o e)
  true_at_point (state k) o e = state_so k o (list_any (same_id k) c.keys) refl e
