-- The posts of a rig, one of which changes.
use Rattle.std.proofs.Common.{arith, ◌≡◌, ◌≢◌, ◌<◌, ⊎_elim, cond, eqb, true, false, ℕ, zero, suc, List, [], ◌∷◌, ◌++◌}
use Rattle.std.proofs.Common.{refl, sym, ap, ◌∙◌, subst, append-nil, length, set, get_or, vec_items}
use Rattle.std.proofs.Math.ListN.{length-set}
use Rattle.std.proofs.lemmas.Bool.Decides.{eqb_tells}
use Rattle.std.proofs.lemmas.List.{get_or_default}
use Rattle.crossbeam_channel.specs.Claims.{Pass, view, IsSeatAt}
use Rattle.crossbeam_channel.specs.Ends.{sends_on, receives_on}
use Rattle.crew_channels.specs.declared.results.Results.{Results}
use Rattle.crew_workers.specs.Posts.{IsPosted, number_of}
use Rattle.crew_workers.specs.declared.channel.SeatChannel.{SeatChannel}
use Rattle.crew_workers.specs.declared.post.Post.{Post}
use Rattle.driver_loop.specs.Actions.{if_own}
use Rattle.driver_loop.proofs.TieLemmas.{here_set, else_set}
use Rattle.provider_trait.specs.Work.{Work}
use Rattle.seat_calls.specs.declared.done.Done.{Done}
use Rattle.worker_crew.specs.Rigs.{IsRigged, sent_to, sent_at}
use Rattle.crew_seating.specs.declared.ends.Ends.{Ends}

module _ {P : Type 0} where
  sent_here : (l : List (Post P)) (k : ℕ) (p : Post P) → k < length l → sent_at (set l k p) k ≡ sent_to p
  unfolding sent_at
  sent_here [] k p h = absurd (omega arith)
  sent_here (x ∷ l) zero p h = refl
  sent_here (x ∷ l) (suc k) p h = sent_here l k p (omega arith)

  sent_else : (l : List (Post P)) (k j : ℕ) (p : Post P) → j ≢ k → sent_at (set l k p) j ≡ sent_at l j
  unfolding sent_at
  sent_else [] k j p n = refl
  sent_else (x ∷ l) zero zero p n = absurd (n refl)
  sent_else (x ∷ l) zero (suc j) p n = refl
  sent_else (x ∷ l) (suc k) zero p n = refl
  sent_else (x ∷ l) (suc k) (suc j) p n = sent_else l k j p (λ e. n (ap suc e))

  pub sent_get : (l : List (Post P)) (k : ℕ) (d : Post P) → k < length l → sent_at l k ≡ sent_to (get_or l k d)
  unfolding sent_at
  sent_get [] k d h = absurd (omega arith)
  sent_get (x ∷ l) zero d h = refl
  sent_get (x ∷ l) (suc k) d h = sent_get l k d (omega arith)

  -- a job was sent to the seat k
  pub sent_job : (l : List (Post P)) (k : ℕ) (d p : Post P) (job : Work) → k < length l → d ≡ get_or l k d
      → sent_to p ≡ sent_to d ++ job ∷ [] → (j : ℕ) → sent_at (set l k p) j ≡ sent_at l j ++ if_own j k job
  sent_job l k d p job low at is j = ⊎_elim
      (λ (x : (eqb k j ≡ true) × (k ≡ j)).
      ap (sent_at (set l k p)) (sym x.1) ∙ sent_here l k p low ∙ is
      ∙ ap (λ y. y ++ job ∷ []) (ap sent_to at ∙ sym (sent_get l k d low))
      ∙ ap (λ y. sent_at l y ++ job ∷ []) x.1 ∙ ap (λ c. sent_at l j ++ cond c (job ∷ []) []) (sym x.0))
      (λ (x : (eqb k j ≡ false) × (k ≢ j)).
      sent_else l k j p (λ e. x.1 (sym e)) ∙ sym (append-nil (sent_at l j))
      ∙ ap (λ c. sent_at l j ++ cond c (job ∷ []) []) (sym x.0))
      (eqb_tells k j)

  -- no job was sent
  pub sent_same : (l : List (Post P)) (k : ℕ) (d p : Post P) → k < length l → d ≡ get_or l k d
      → sent_to p ≡ sent_to d → (j : ℕ) → sent_at (set l k p) j ≡ sent_at l j
  sent_same l k d p low at is j = ⊎_elim
      (λ (x : (eqb k j ≡ true) × (k ≡ j)).
      ap (sent_at (set l k p)) (sym x.1) ∙ sent_here l k p low ∙ is ∙ ap sent_to at ∙ sym (sent_get l k d low)
      ∙ ap (λ y. sent_at l y) x.1)
      (λ (x : (eqb k j ≡ false) × (k ≢ j)). sent_else l k j p (λ e. x.1 (sym e)))
      (eqb_tells k j)

module _ {P : Type 0} (made : P → P → List Done → Type 0) (ends : Ends) (posts : List (Post P))
    (pass : Pass Done Results)
    (rigged : IsRigged made ends posts pass) where
  -- the driver sends on the channel of each seat to the seat
  pub rigged_at : (k : ℕ) (e : SeatChannel) (d : Post P) → k < length posts → e ≡ get_or (vec_items ends.channels) k e
      → d ≡ get_or posts k d → IsPosted made e (sends_on ends.to) d
  rigged_at k e d low its own =
      subst (λ (y : SeatChannel × Post P). IsPosted made y.0 (sends_on ends.to) y.1) (λ i. (sym its i, sym own i))
      (rigged.posted k e d low).0

  -- the post of one seat changes
  pub rigged_set : (k : ℕ) (e : SeatChannel) (d p : Post P) → k < length posts → d ≡ get_or posts k d
      → e ≡ get_or (vec_items ends.channels) k e → IsPosted made e (sends_on ends.to) p
      → number_of p.place ≡ number_of d.place → IsRigged made ends (set posts k p) pass
  rigged_set k e d p low at its posted same = record {
    len = rigged.len ∙ sym (length-set posts k p);
    one = rigged.one;
    paired = λ j x below. rigged.paired j x (subst (λ n. j < n) (length-set posts k p) below);
    posted = λ j x f below. ⊎_elim
        (λ (y : (eqb j k ≡ true) × (j ≡ k)).
        subst (λ (z : ℕ × Post P).
        IsPosted made (get_or (vec_items ends.channels) z.0 x) (sends_on ends.to) z.1 × (number_of z.1.place ≡ z.0))
        (λ i. (
          sym y.1 i,
          (sym (here_set posts k p f low) ∙ ap (λ n. get_or (set posts k p) n f) (sym y.1)) i,
        )) (
          subst (λ c. IsPosted made c (sends_on ends.to) p)
              (its ∙ get_or_default (vec_items ends.channels) k e x (subst (λ n. k < n) (sym rigged.len) low)) posted,
          same ∙ ap (λ (z : Post P). number_of z.place) at ∙ (rigged.posted k e d low).1,
        ))
        (λ (y : (eqb j k ≡ false) × (j ≢ k)).
        subst (λ (z : Post P).
        IsPosted made (get_or (vec_items ends.channels) j x) (sends_on ends.to) z × (number_of z.place ≡ j))
        (sym (else_set posts k j p f y.1)) (rigged.posted j x f (subst (λ n. j < n) (length-set posts k p) below)))
        (eqb_tells j k);
    at_results = rigged.at_results;
    receives = rigged.receives;
    known = rigged.known ∙ sym (length-set posts k p);
  }

  -- the driver's pass of the shared channel changes
  pub rigged_pass : (p : Pass Done Results) → IsSeatAt (receives_on ends.from) p → (view p).receives ≡ true
      → (view p).made ≡ (view pass).made → IsRigged made ends posts p
  rigged_pass p seat receives known = record {
    len = rigged.len;
    one = rigged.one;
    paired = rigged.paired;
    posted = rigged.posted;
    at_results = seat;
    receives = receives;
    known = known ∙ rigged.known;
  }
