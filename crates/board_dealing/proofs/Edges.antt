-- The needs of tasks once one need was added.
use Rattle.std.proofs.Common.{◌≡◌, ◌<◌, ◌≤◌, ◌+◌, ◌==◌, ◌⊎◌, inl, inr, ℕ, Bool, true, false, true≢false, List, [], ◌∷◌}
use Rattle.std.proofs.Common.{length, get_or, refl, sym, ap, ◌∙◌, arith, cond, subst, Ordering, Less, Equal, Greater}
use Rattle.std.proofs.Common.{nat_cmp}
use Rattle.std.specs.Prelude.{not, slice_index_or, if◌then◌else◌}
use Rattle.std.specs.BTreeSet.{insert_key}
use Rattle.std.specs.Ordering.{match_ordering}
use Rattle.std.proofs.lemmas.Bool.Decides.{nat_tests}
use Rattle.std.proofs.lemmas.List.{get_or-set_other}
use Rattle.std.proofs.lemmas.Grind.{get_or-set_at}
use Rattle.std.proofs.lemmas.Bool.{cases_eq}
use Rattle.depend_graph.specs.Shape.{Shape, times, Needs, needs_of, undone, with_edge, is_done}
use Rattle.depend_graph.proofs.Keeping.{same_test, other_test}
use Rattle.task_agenda.specs.Lists.{IsHeldUp}

least_by : (o : Ordering) (w v : ℕ) (ws : List ℕ) (x : ℕ) → times ws x ≤ times (insert_key nat_cmp ws v) x
    → times (w ∷ ws) x ≤ times (match_ordering o (v ∷ w ∷ ws) (w ∷ ws) (w ∷ insert_key nat_cmp ws v)) x
least_by Less w v ws x h = omega arith
least_by Equal w v ws x h = omega arith
least_by Greater w v ws x h = omega (arith, h)

least : (ws : List ℕ) (v x : ℕ) → times ws x ≤ times (insert_key nat_cmp ws v) x
least [] v x = omega arith
least (w ∷ ws) v x = least_by (nat_cmp v w) w v ws x (least ws v x)

most_by : (o : Ordering) (w v : ℕ) (ws : List ℕ) (x : ℕ)
    → times (insert_key nat_cmp ws v) x ≤ times ws x + cond (v == x) 1 0
    → times (match_ordering o (v ∷ w ∷ ws) (w ∷ ws) (w ∷ insert_key nat_cmp ws v)) x
    ≤ times (w ∷ ws) x + cond (v == x) 1 0
most_by Less w v ws x h = omega arith
most_by Equal w v ws x h = omega arith
most_by Greater w v ws x h = omega (arith, h)

most : (ws : List ℕ) (v x : ℕ) → times (insert_key nat_cmp ws v) x ≤ times ws x + cond (v == x) 1 0
most [] v x = omega arith
most (w ∷ ws) v x = most_by (nat_cmp v w) w v ws x (most ws v x)

there_by : (o : Ordering) (w v : ℕ) (ws : List ℕ) → nat_cmp v w ≡ o → 1 ≤ times (insert_key nat_cmp ws v) v
    → 1 ≤ times (match_ordering o (v ∷ w ∷ ws) (w ∷ ws) (w ∷ insert_key nat_cmp ws v)) v
there_by Less w v ws e h = rw (same_test v v refl) (omega arith)
there_by Equal w v ws e h = let s : v ≡ w = grind (arith, nat_tests) in
    subst (λ y. 1 ≤ times (y ∷ ws) v) s (rw (same_test v v refl) (omega arith))
there_by Greater w v ws e h = omega (arith, h)

there : (ws : List ℕ) (v : ℕ) → 1 ≤ times (insert_key nat_cmp ws v) v
there [] v = rw (same_test v v refl) (omega arith)
there (w ∷ ws) v = there_by (nat_cmp v w) w v ws refl (there ws v)

undone_by : (done : List Bool) (w v : ℕ) (vs : List ℕ) (s : Bool) → (w == v) ≡ s → 1 ≤ times (w ∷ vs) v
    → slice_index_or done v false ≡ false → (1 ≤ times vs v → 0 < length (undone done vs)) → (b : Bool)
    → slice_index_or done w false ≡ b → 0 < length (if not b then w ∷ undone done vs else undone done vs)
undone_by done w v vs s e h u rest false f = omega arith
undone_by done w v vs true e h u rest true f =
    let i : w ≡ v = grind (arith, nat_tests, e) in
    absurd (true≢false (sym f ∙ ap (λ (n : ℕ). slice_index_or done n false) i ∙ u))
undone_by done w v vs false e h u rest true f =
    let o : ◌≡◌ {A = ℕ} (cond (w == v) 1 0) 0 = ap {A = Bool} {B = ℕ} (λ t. cond t 1 0) e in
    rest (omega (arith, h, o))

-- a number that is undone and in a list is among the undone of it
pub undone_there : (done : List Bool) (vs : List ℕ) (v : ℕ) → 1 ≤ times vs v → slice_index_or done v false ≡ false
    → 0 < length (undone done vs)
undone_there done [] v h e = absurd (omega (arith, h))
undone_there done (w ∷ vs) v h e =
    undone_by done w v vs (w == v) refl h e (λ i. undone_there done vs v i e) (slice_index_or done w false) refl

edge_by : (g : Shape) (a b u v : ℕ) → (u ≡ a) ⊎ (u ≡ a → ⊥) → a < length g.needs
    → Needs g u v ⊎ ((u ≡ a) × (v ≡ b)) → Needs (with_edge g a b) u v
edge_by g a b u v (inl e) h (inl n) =
    rw (get_or-set_at g.needs a u (insert_key nat_cmp (get_or g.needs a []) b) [] e h)
    (let s : times (get_or g.needs a []) v ≡ times (get_or g.needs u []) v = rw e refl in
    omega (arith, least (get_or g.needs a []) b v, n))
edge_by g a b u v (inl e) h (inr p) =
    rw (get_or-set_at g.needs a u (insert_key nat_cmp (get_or g.needs a []) b) [] e h)
    (subst (λ y. 1 ≤ times (insert_key nat_cmp (get_or g.needs a []) b) y) (sym p.1) (there (get_or g.needs a []) b))
edge_by g a b u v (inr ne) h (inl n) =
    rw (get_or-set_other g.needs a u (insert_key nat_cmp (get_or g.needs a []) b) [] ne) n
edge_by g a b u v (inr ne) h (inr p) = absurd (ne p.0)

-- a need that was added is there, and so is each other
pub edge_to : (g : Shape) (a b u v : ℕ) → a < length g.needs → Needs g u v ⊎ ((u ≡ a) × (v ≡ b))
    → Needs (with_edge g a b) u v
edge_to g a b u v h n = edge_by g a b u v (cases_eq u a) h n

-- the task that needs an undone task is held up
pub edge_holds : (g : Shape) (a b : ℕ) → a < length g.needs → is_done g b ≡ false → IsHeldUp (with_edge g a b) a
edge_holds g a b h e =
    undone_there g.done (needs_of (with_edge g a b) a) b (edge_to g a b a b h (inr (refl, refl))) e

edge_from_by : (g : Shape) (a b u v : ℕ) → (u ≡ a) ⊎ (u ≡ a → ⊥) → (v ≡ b) ⊎ (v ≡ b → ⊥) → a < length g.needs
    → Needs (with_edge g a b) u v → Needs g u v ⊎ ((u ≡ a) × (v ≡ b))
edge_from_by g a b u v (inl e) (inl f) h n = inr (e, f)
edge_from_by g a b u v (inl e) (inr f) h n = inl (
    let m = rw (get_or-set_at g.needs a u (insert_key nat_cmp (get_or g.needs a []) b) [] e h) at n in
    let z : ◌≡◌ {A = ℕ} (cond (b == v) 1 0) 0 = ap {A = Bool} {B = ℕ} (λ t. cond t 1 0) (other_test b v f) in
    let s : times (get_or g.needs a []) v ≡ times (get_or g.needs u []) v =
    ap (λ y. times (get_or g.needs y []) v) (sym e) in
    omega (arith, most (get_or g.needs a []) b v, m, z, s))
edge_from_by g a b u v (inr ne) f h n =
    inl (rw (get_or-set_other g.needs a u (insert_key nat_cmp (get_or g.needs a []) b) [] ne) at n)

-- and no other is
pub edge_from : (g : Shape) (a b u v : ℕ) → a < length g.needs → Needs (with_edge g a b) u v
    → Needs g u v ⊎ ((u ≡ a) × (v ≡ b))
edge_from g a b u v h n = edge_from_by g a b u v (cases_eq u a) (cases_eq v b) h n
