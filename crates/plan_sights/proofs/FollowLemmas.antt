-- What follows the readings in the places of cells, by what is known of these cells.
use Rattle.std.proofs.Common.{◌≡◌, Option, Some, None, refl, ap, sym, subst}
use Rattle.reading.specs.Reading.{Reading, done, ask}
use Rattle.reading.specs.Knowledge.{Known, Told, value, no_value, waits, told, by_entry, and_then}
use Rattle.reading.proofs.Parts.{told-continued}
use Rattle.deploy_cells.specs.Followed.{followed}
use Rattle.plan_sights.specs.Resolved.{known_of, stop_of, IsResolved}

module _ (C D J K A : Type 0) (p : D → Known K) (h : C → Reading D K (Option J)) where
  abbrev pub q : C → Known J
  q c = known_of (told p (h c))

  abbrev same : Told C A → Told D A → Type 0
  same t u = IsResolved (λ c. told p (h c)) t u

  by_case : (c : C) (k : Option J → Reading C J A) (u : Told D (Option J)) → u ≡ told p (h c)
      → ((o : Option J) → same (told q (k o)) (told p (followed h (k o))))
      → same (by_entry c (λ o. told q (k o)) (known_of u)) (and_then u (λ o. told p (followed h (k o))))
  by_case c k (value (Some x)) e f = f (Some x)
  by_case c k (value None) e f = f None
  by_case c k no_value e f = ap stop_of e
  by_case c k (waits d) e f = ap stop_of e

  -- what a reading gives by what is known of its cells, with what is waited for in place of the first missing one
  pub resolved : (r : Reading C J A) → same (told q r) (told p (followed h r))
  unfolding told followed
  resolved (done (Some x)) = refl
  resolved (done None) = refl
  resolved (ask c k) =
      subst (same (by_entry c (λ o. told q (k o)) (q c)))
      (sym (told-continued D K (Option J) A p (h c) (λ v. followed h (k v))))
      (by_case c k (told p (h c)) refl (λ o. resolved (k o)))
