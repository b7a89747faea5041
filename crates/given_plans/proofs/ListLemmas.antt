-- How the needs of a plan are listed.
use Rattle.std.proofs.Common.{◌≡◌, ◌⊎◌, inl, inr, ℕ, ◌+◌, ◌≤◌, true, false, true≢false, List, []}
use Rattle.std.proofs.Common.{◌∷◌, ◌++◌, length, Some, refl, sym, ap, subst, ◌∙◌, arith}
use Rattle.std.specs.Prelude.{slice_get}
use Rattle.std.proofs.lemmas.Bool.{cases_eq}
use Rattle.std.proofs.lemmas.Option.{slice_get_within, same_Some}
use Rattle.plan_cells.specs.Plan.{Need, IsListed}
use Rattle.plan_cells.specs.Tasks.{Task}
use Rattle.deploy_histories.specs.Planned.{Planned}
use Rattle.deploy_histories.specs.Readiness.{needs_first}
use Rattle.deploy_core.specs.Opens.{AreStartNeeds}
use Rattle.given_plans.specs.Listing.{AreListed}

listed_before : (ns : List Need) (n m : Need) → IsListed n ns → IsListed n (ns ++ m ∷ [])
listed_before [] n m l = absurd l
listed_before (k ∷ ns) n m (inl e) = inl e
listed_before (k ∷ ns) n m (inr l) = inr (listed_before ns n m l)

listed_last : (ns : List Need) (n : Need) → IsListed n (ns ++ n ∷ [])
listed_last [] n = inl refl
listed_last (k ∷ ns) n = inr (listed_last ns n)

listed_more : (ns : List Need) (n m : Need) → IsListed n (ns ++ m ∷ []) → IsListed n ns ⊎ (m ≡ n)
listed_more [] n m (inl e) = inr e
listed_more [] n m (inr l) = absurd l
listed_more (k ∷ ns) n m (inl e) = inl (inl e)
listed_more (k ∷ ns) n m (inr l) = elim (listed_more ns n m l) [ inl i ↦ inl (inr i) | inr e ↦ inr e ]

module _ (x : Planned) where
  pub none_listed : (ns : List Need) → ns ≡ [] → AreListed x 0 0 ns
  none_listed ns e = record {
    are_needs = λ i j t w f g l. absurd (subst (λ ms. IsListed (i, j) ms) e l);
    are_all = λ i j t w f g b n. elim b [
      | inl l ↦ absurd (omega (arith, l))
      | inr p ↦ (let l = p.1 in absurd (omega (arith, l)))
    ];
  }

  module _ (u v : ℕ) (t w : Task) (it : slice_get x.tasks u ≡ Some t) (iw : slice_get x.tasks v ≡ Some w)
      (ns : List Need) (a : AreListed x u v ns) where
    -- a pair of which the one task needs the other is added
    pub pair_listed : needs_first x t w ≡ true → AreListed x u (v + 1) (ns ++ (u, v) ∷ [])
    pair_listed n = record {
      are_needs = λ i j s r f g l. elim (listed_more ns (i, j) (u, v) l) [
        | inl k ↦ a.are_needs i j s r f g k
        | inr e ↦ same i j s r f g e
      ];
      are_all = λ i j s r f g b m. elim b [
        | inl l ↦ listed_before ns (i, j) (u, v) (a.are_all i j s r f g (inl l) m)
        | inr p ↦ elim (cases_eq j v) [
          | inl e ↦ subst (λ (k : Need). IsListed k (ns ++ (u, v) ∷ [])) (pair_is i j p.0 e) (listed_last ns (u, v))
          | inr d ↦ (let l = p.1 in
              listed_before ns (i, j) (u, v) (a.are_all i j s r f g (inr (p.0, omega (arith, l, d))) m))
        ]
      ];
    }
      where
        pair_is : (i j : ℕ) → i ≡ u → j ≡ v → ◌≡◌ {A = Need} (u, v) (i, j)
        pair_is i j e f = cc

        same : (i j : ℕ) (s r : Task) → slice_get x.tasks i ≡ Some s → slice_get x.tasks j ≡ Some r
            → ◌≡◌ {A = Need} (u, v) (i, j) → needs_first x s r ≡ true
        same i j s r f g e =
            let p : t ≡ s = same_Some t s (sym it ∙ ap (λ (k : Need). slice_get x.tasks k.0) e ∙ f) in
            let q : w ≡ r = same_Some w r (sym iw ∙ ap (λ (k : Need). slice_get x.tasks k.1) e ∙ g) in
            subst (λ (z : Task). needs_first x z r ≡ true) p (subst (λ (z : Task). needs_first x t z ≡ true) q n)

    pub pair_skipped : needs_first x t w ≡ false → AreListed x u (v + 1) ns
    pair_skipped n = record {
      are_needs = a.are_needs;
      are_all = λ i j s r f g b m. elim b [
        | inl l ↦ a.are_all i j s r f g (inl l) m
        | inr p ↦ elim (cases_eq j v) [
          | inl e ↦ absurd (true≢false (sym m ∙ same i j s r f g p.0 e))
          | inr d ↦ (let l = p.1 in a.are_all i j s r f g (inr (p.0, omega (arith, l, d))) m)
        ]
      ];
    }
      where
        same : (i j : ℕ) (s r : Task) → slice_get x.tasks i ≡ Some s → slice_get x.tasks j ≡ Some r → i ≡ u → j ≡ v
            → needs_first x s r ≡ false
        same i j s r f g e h =
            let p : t ≡ s = same_Some t s (sym it ∙ ap (λ (k : ℕ). slice_get x.tasks k) (sym e) ∙ f) in
            let q : w ≡ r = same_Some w r (sym iw ∙ ap (λ (k : ℕ). slice_get x.tasks k) (sym h) ∙ g) in
            subst (λ (z : Task). needs_first x z r ≡ false) p (subst (λ (z : Task). needs_first x t z ≡ false) q n)

  -- all pairs of a task
  pub row_listed : (u v : ℕ) (ns : List Need) → length x.tasks ≤ v → AreListed x u v ns → AreListed x (u + 1) 0 ns
  row_listed u v ns l a = record {
    are_needs = a.are_needs;
    are_all = λ i j s r f g b m. elim b [
      | inl k ↦ elim (cases_eq i u) [
        | inl e ↦ a.are_all i j s r f g
            (inr (e, (let w = slice_get_within x.tasks j r g in omega (arith, w, l)))) m
        | inr d ↦ a.are_all i j s r f g (inl (omega (arith, k, d))) m
      ]
      | inr p ↦ (let k = p.1 in absurd (omega (arith, k)))
    ];
  }

  pub all_listed : (u : ℕ) (ns : List Need) → length x.tasks ≤ u → AreListed x u 0 ns → AreStartNeeds x ns
  all_listed u ns l a i j s r f g = (
    λ m. a.are_all i j s r f g (inl (let w = slice_get_within x.tasks i s f in omega (arith, w, l))) m,
    λ k. a.are_needs i j s r f g k,
  )
