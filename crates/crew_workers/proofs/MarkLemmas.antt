-- What stays as it is of each seat while it is at work, and the threads of the seats.
use Rattle.std.proofs.Common.{arith, ◌≡◌, ◌<◌, ◌+◌, ◌≢◌, ⊎_elim, eqb, true, false, ℕ, zero, suc, List, [], ◌∷◌, ◌++◌}
use Rattle.std.proofs.Common.{refl, sym, ap, ◌∙◌, subst, length, set, get_or, Option}
use Rattle.std.proofs.lemmas.Bool.Decides.{eqb_tells}
use Rattle.crew_workers.specs.Posts.{before_of, promise_of, marks}
use Rattle.crew_workers.specs.Threads.{HasThread, HasThreads}
use Rattle.crew_workers.specs.declared.post.Post.{Post}
use Rattle.crew_workers.specs.declared.promise.SeatPromise.{SeatPromise}
use Rattle.crew_workers.specs.declared.seat_thread.SeatThread.{SeatThread}
use Rattle.foundation.proofs.Lists.{get_new, get_old, length_more}

apart : (k n : ℕ) → k < n + 1 → k ≢ n → k < n
apart zero zero h x = absurd (x refl)
apart zero (suc n) h x = omega arith
apart (suc k) zero h x = absurd (omega arith)
apart (suc k) (suc n) h x = let r = apart k n (omega arith) (λ e. x (ap suc e)) in omega arith

abbrev Mark : Type 0 → Type 0
Mark P = P × Option (SeatPromise P)

abbrev mark : {P : Type 0} → Post P → P × Option (SeatPromise P)
mark post = (before_of post.place, promise_of post.place)

module _ {P : Type 0} where
  pub marks_length : (l : List (Post P)) → length (marks l) ≡ length l
  unfolding marks
  marks_length [] = refl
  marks_length (x ∷ l) = ap suc (marks_length l)

  marks_more : (l : List (Post P)) (p : Post P) → marks (l ++ p ∷ []) ≡ marks l ++ mark p ∷ []
  unfolding marks
  marks_more [] p = refl
  marks_more (x ∷ l) p = ap (λ t. mark x ∷ t) (marks_more l p)

  pub marks_get : (l : List (Post P)) (k : ℕ) (d : Post P) (m : Mark P) → k < length l
      → get_or (marks l) k m ≡ mark (get_or l k d)
  unfolding marks
  marks_get [] k d m h = absurd (omega arith)
  marks_get (x ∷ l) zero d m h = refl
  marks_get (x ∷ l) (suc k) d m h = marks_get l k d m (omega arith)

  -- the post of one seat changes
  pub marks_set : (l : List (Post P)) (k : ℕ) (d p : Post P) → k < length l
      → before_of p.place ≡ before_of (get_or l k d).place → promise_of p.place ≡ promise_of (get_or l k d).place
      → marks (set l k p) ≡ marks l
  unfolding marks
  marks_set [] k d p h e f = absurd (omega arith)
  marks_set (x ∷ l) zero d p h e f = λ i. (e i, f i) ∷ marks l
  marks_set (x ∷ l) (suc k) d p h e f = ap (λ t. mark x ∷ t) (marks_set l k d p (omega arith) e f)

  -- no seat was started yet
  pub threads_empty : (l : List (Post P)) (ts : List (SeatThread P)) → length l ≡ 0 → ts ≡ [] → HasThreads (marks l) ts
  threads_empty l ts e f = record {
    len = ap length f ∙ sym (marks_length l ∙ e);
    each = λ k m t low. let below : k < 0 = subst (λ n. k < n) (marks_length l ∙ e) low in absurd (omega arith);
  }

  -- one more seat was started
  pub threads_more : (l : List (Post P)) (ts : List (SeatThread P)) (p : Post P) (t : SeatThread P)
      → HasThreads (marks l) ts → HasThread (promise_of p.place) t → HasThreads (marks (l ++ p ∷ [])) (ts ++ t ∷ [])
  threads_more l ts p t was new =
      let more = marks_more l p in record {
        len = length_more ts t ∙ ap (λ n. n + 1) was.len ∙ sym (ap length more ∙ length_more (marks l) (mark p));
        each = λ k m u low.
            let low_more = subst (λ n. k < n) (ap length more ∙ length_more (marks l) (mark p)) low in ⊎_elim
            (λ (x : (eqb k (length (marks l)) ≡ true) × (k ≡ length (marks l))).
            subst (λ (y : Mark P × SeatThread P). HasThread y.0.1 y.1)
            (λ i. (
              sym (ap (λ z. get_or z k m) more ∙ ap (λ n. get_or (marks l ++ mark p ∷ []) n m) x.1
                  ∙ get_new (marks l) (mark p) m) i,
              sym (ap (λ n. get_or (ts ++ t ∷ []) n u) (x.1 ∙ sym was.len) ∙ get_new ts t u) i,
            )) new)
            (λ (x : (eqb k (length (marks l)) ≡ false) × (k ≢ length (marks l))).
            let below = apart k (length (marks l)) low_more x.1 in
            subst (λ (y : Mark P × SeatThread P). HasThread y.0.1 y.1)
            (λ i. (
              sym (ap (λ z. get_or z k m) more ∙ get_old (marks l) (mark p) k m below) i,
              sym (get_old ts t k u (subst (λ n. k < n) (sym was.len) below)) i,
            )) (was.each k m u below))
            (eqb_tells k (length (marks l)));
      }

  -- the first seat that is left has the first thread that is left
  pub thread_first : (p : Post P) (l : List (Post P)) (t : SeatThread P) (ts : List (SeatThread P))
      → HasThreads (marks (p ∷ l)) (t ∷ ts) → HasThread (promise_of p.place) t
  unfolding marks
  thread_first p l t ts was = was.each 0 (mark p) t (omega arith)

  -- and the others have the others
  pub threads_rest : (p : Post P) (l : List (Post P)) (t : SeatThread P) (ts : List (SeatThread P))
      → HasThreads (marks (p ∷ l)) (t ∷ ts) → HasThreads (marks l) ts
  unfolding marks
  threads_rest p l t ts was = record {
    len = let e = was.len in omega arith;
    each = λ k m u low. was.each (suc k) m u (omega arith);
  }
