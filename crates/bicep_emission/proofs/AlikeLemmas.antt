-- Readings that are made of readings that are alike.
use Rattle.std.proofs.Common.{◌≡◌, Option, Some, Bool, refl, sym, ap, ap₂, ◌∙◌}
use Rattle.reading.specs.Reading.{Reading, done, continued, both}
use Rattle.bicep_emission.specs.Alike.{seen_in, Alike}
use Rattle.bicep_emission.proofs.SeenLemmas.{then_seen, both_seen, then-same, then-at, seen-continued, seen-both}
use Rattle.bicep_emission.proofs.SeenLemmas.{value-seen}
use Rattle.reading.specs.World.{value_in}

module _ {C D J K : Type 0} (v : C → Option J) (n : C → Bool) (w : D → Option K) (m : D → Bool) where
  pub alike_done : {A : Type 0} (o : Option A)
      → Alike v n w m (let r : Reading C J A = done o in r) (let s : Reading D K A = done o in s)
  unfolding seen_in
  alike_done o = refl

  pub alike_continued : {A B : Type 0} (r : Reading C J A) (s : Reading D K A) (f : A → Reading C J B)
      (g : A → Reading D K B) → Alike v n w m r s → ((x : A) → Alike v n w m (f x) (g x))
      → Alike v n w m (continued r f) (continued s g)
  alike_continued r s f g h q =
      seen-continued v n r f ∙ ap (λ t. then_seen t (λ x. seen_in v n (f x))) h
      ∙ then-same (seen_in w m s) (λ x. seen_in v n (f x)) (λ x. seen_in w m (g x)) q ∙ sym (seen-continued w m s g)

  -- only the value that there is counts
  pub alike_at : {A B : Type 0} (r : Reading C J A) (s : Reading D K A) (f : A → Reading C J B)
      (g : A → Reading D K B) → Alike v n w m r s
      → ((x : A) → value_in w s ≡ Some x → Alike v n w m (f x) (g x))
      → Alike v n w m (continued r f) (continued s g)
  alike_at r s f g h q =
      seen-continued v n r f ∙ ap (λ t. then_seen t (λ x. seen_in v n (f x))) h
      ∙ then-at (seen_in w m s) (λ x. seen_in v n (f x)) (λ x. seen_in w m (g x))
      (λ x e. q x (sym (value-seen w m s) ∙ e)) ∙ sym (seen-continued w m s g)

  pub alike_on : {A B : Type 0} (r : Reading C J A) (s : Reading D K A) (f : A → Option B) → Alike v n w m r s
      → Alike v n w m (continued r (λ x. done (f x))) (continued s (λ x. done (f x)))
  alike_on r s f h = alike_continued r s (λ x. done (f x)) (λ x. done (f x)) h (λ x. alike_done (f x))

  pub alike_both : {A B : Type 0} (r : Reading C J A) (s : Reading D K A) (t : Reading C J B) (u : Reading D K B)
      → Alike v n w m r s → Alike v n w m t u → Alike v n w m (both r t) (both s u)
  alike_both r s t u h q = seen-both v n r t ∙ ap₂ both_seen h q ∙ sym (seen-both w m s u)
