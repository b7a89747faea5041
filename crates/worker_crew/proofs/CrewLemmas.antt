-- From seats at their channels to seats that have come back.
use Rattle.std.proofs.Common.{arith, ◌≡◌, ◌<◌, ◌≤◌, Bool, true, false, ℕ, zero, suc, List, [], ◌∷◌, refl, sym, ap, ◌∙◌}
use Rattle.std.proofs.Common.{subst}
use Rattle.std.proofs.Common.{⊎_elim, leb, length, get_or, vec_items, Option, None, Some}
use Rattle.std.proofs.lemmas.Bool.Decides.{leb_tells}
use Rattle.crossbeam_channel.specs.Claims.{Pass, view, IsSeatAt}
use Rattle.crossbeam_channel.specs.Ends.{sends_on}
use Rattle.crew_channels.specs.Orders.{jobs_in}
use Rattle.crew_channels.specs.declared.order.Order.{Order}
use Rattle.crew_channels.specs.declared.orders.Orders.{Orders}
use Rattle.crew_channels.specs.declared.results.Results.{Results}
use Rattle.crew_workers.specs.Posts.{IsStationed, ArePosted, HaveGiven, marks}
use Rattle.crew_workers.specs.declared.channel.SeatChannel.{SeatChannel}
use Rattle.crew_workers.specs.declared.post.Post.{Post}
use Rattle.crew_workers.specs.declared.post.Station.{Station}
use Rattle.crew_workers.specs.declared.promise.SeatPromise.{SeatPromise}
use Rattle.crew_workers.proofs.MarkLemmas.{marks_get}
use Rattle.crew_workers.proofs.PostLemmas.{same_back, stationed_back}
use Rattle.dealer_trait.specs.declared.dealer_step.DealerStep.{DealerStep}
use Rattle.driver_loop.specs.Moments.{moment, Pages}
use Rattle.driver_loop.specs.OpenJobs.{open_at}
use Rattle.driver_loop.specs.declared.fault.Ended.{Ended}
use Rattle.driver_loop.specs.declared.fault.Ended.TheVariants.{Well, Failed, Stray}
use Rattle.driver_loop.specs.declared.open_job.OpenJob.{OpenJob}
use Rattle.provider_trait.specs.Work.{Work}
use Rattle.seat_calls.specs.declared.done.Done.{Done}
use Rattle.seat_calls.specs.declared.seat.Seat.{Seat}
use Rattle.crew_seating.specs.Closed.{Told, HasLeft, HasNone}
use Rattle.worker_crew.specs.Driven.{HasNoJobs, HasFinished, CallsAt}
use Rattle.crew_seating.specs.Opened.{AreSetUp, IsPaired}
use Rattle.worker_crew.specs.Rigs.{IsRigged, sent_at}
use Rattle.worker_crew.specs.Tasks.{HasRunLoop}
use Rattle.crew_seating.specs.declared.ends.Ends.{Ends}
use Rattle.worker_crew.proofs.FinishLemmas.{driven, not_strayed}
use Rattle.worker_crew.proofs.RigLemmas.{sent_get}

pub head_of : {A : Type 0} (l : List A) → 0 < length l → A
head_of [] h = absurd (omega arith)
head_of (x ∷ l) h = x

sent_beyond : {P : Type 0} (l : List (Post P)) (k : ℕ) → length l ≤ k → sent_at l k ≡ []
unfolding sent_at
sent_beyond [] k h = refl
sent_beyond (x ∷ l) zero h = absurd (omega arith)
sent_beyond (x ∷ l) (suc k) h = sent_beyond l k (omega arith)

module _ {P : Type 0} (made : P → P → List Done → Type 0) (ends : Ends) (pass : Pass Done Results)
    (stations : List (Station P)) (all : List (Post P)) (up : AreSetUp made ends pass stations)
    (posted : ArePosted made (vec_items ends.channels) (sends_on ends.to) stations all) where
  -- the driver can send to the seats that were started
  pub rigged_first : Station P → IsRigged made ends all pass
  rigged_first d = record {
    len = up.len ∙ sym posted.len;
    one = up.one;
    paired = λ k e low. up.paired k e (subst (λ n. k < n) posted.len low);
    posted = λ k e f low.
        let below = subst (λ n. k < n) posted.len low in
        let p = posted.each k d e f below in
        (p.0, p.1.1 ∙ (up.stationed k d e below).1.0);
    at_results = subst (λ r. IsSeatAt r pass) (sym up.one) up.at_results;
    receives = ap (λ (x : Results). x.receives) up.new_results;
    known = ap (λ (x : Results). x.made) up.new_results ∙ sym posted.len;
  }

  -- nothing was sent to them
  pub unsent_first : Station P → SeatChannel → Post P → (k : ℕ) → sent_at all k ≡ []
  unsent_first d e f k = ⊎_elim
      (λ (x : (leb (length all) k ≡ true) × (length all ≤ k)). sent_beyond all k x.1)
      (λ (x : (leb (length all) k ≡ false) × (k < length all)).
      let below = subst (λ n. k < n) posted.len x.1 in
      sent_get all k f x.1 ∙ (posted.each k d e f below).1.0 ∙ ap jobs_in (up.stationed k d e below).1.1)
      (leb_tells (length all) k)

  module _ (left : List (Post P)) (back : List (Station P)) (after : Pass Done Results)
      (rigged : IsRigged made ends left after) (same : marks left ≡ marks all) (given : HaveGiven made left back)
    where
      len : length left ≡ length all
      len = sym rigged.len ∙ up.len ∙ sym posted.len

      -- the seats that have come back
      pub stationed_last : Post P → (k : ℕ) (d : Station P) (e : SeatChannel) → k < length back
          → IsStationed made (get_or (vec_items ends.channels) k e) (sends_on ends.to) (get_or back k d)
          × IsPaired (get_or (vec_items ends.channels) k e)
      stationed_last f k d e low =
          let below = subst (λ n. k < n) given.len low in (
            stationed_back made (get_or (vec_items ends.channels) k e) (sends_on ends.to) (get_or left k f)
                (get_or back k d)
                (rigged.posted k e f below).0 (given.each k d f below),
            rigged.paired k e below,
          )

      numbered_last : Post P → SeatChannel → (k : ℕ) (d : Station P) → k < length left
          → (get_or back k d).worker.number ≡ k
      numbered_last f e k d low =
          (same_back made (get_or left k f).place (get_or back k d).worker (given.each k d f low).1).0
          ∙ (rigged.posted k e f low).1

      first_last : Post P → Post P → SeatChannel → P → (k : ℕ) (d s : Station P) → k < length left
          → (get_or back k d).worker.before.value ≡ (get_or stations k s).worker.before.value
      first_last f g e b k d s low =
          (same_back made (get_or left k f).place (get_or back k d).worker (given.each k d f low).1).1
          ∙ sym (ap (λ (x : P × Option (SeatPromise P)). x.0) (marks_get left k f (b, None) low))
          ∙ ap (λ (l : List (P × Option (SeatPromise P))). (get_or l k (b, None)).0) same
          ∙ ap (λ (x : P × Option (SeatPromise P)). x.0) (marks_get all k g (b, None) (subst (λ n. k < n) len low))
          ∙ (posted.each k s e g (subst (λ n. k < n) (len ∙ posted.len) low)).1.2

      module _ (seats : List (Seat P)) (many : length seats ≡ length back)
          (closed : (k : ℕ) (d : Station P) (s : Seat P) → k < length back
          → ((get_or seats k s).provider ≡ (get_or back k d).worker.provider) × ((get_or seats k s).job ≡ None)
          × HasLeft (view after).got (get_or back k d))
          (others : (k : ℕ) → (view after).made ≤ k → HasNone (view after).got k) where
        no_jobs : Station P → HasNoJobs seats
        no_jobs d k s low = (closed k d s (subst (λ n. k < n) many low)).1

        count : length stations ≡ length left
        count = sym (len ∙ posted.len)

        did : (end : Type 0) (tells : Bool) (s s' : List DealerStep) (p p' : Pages) → Post P → Post P → SeatChannel
            → Station P
            → Seat P → P → (k : ℕ) → k < length stations
            → (put : List Done) × Told (view after).got (sent_at left k) k put
            × CallsAt made end tells s s' p p' stations seats k put
        did end tells s s' p p' f g e d t b k low =
            let below : k < length left = subst (λ n. k < n) count low in
            let there : k < length back = subst (λ n. k < n) (sym given.len) below in
            let x = get_or back k d in
            let c = closed k d t there in (
              (view x.worker.results).sent,
              subst (λ (y : List Work × ℕ). Told (view after).got y.0 y.1 (view x.worker.results).sent)
                  (λ i. (
                    (ap (λ (o : Pass Order Orders). jobs_in (view o).sent) (given.each k d f below).0
                        ∙ sym (sent_get left k f below)) i,
                    numbered_last f e k d below i,
                  )) c.2,
              λ h u.
                  subst (λ (y : P × P). made y.0 y.1 (view x.worker.results).sent)
                  (λ i. (first_last f g e b k d h below i, sym (closed k d u there).0 i))
                  (stationed_last f k d e there).0.seated.calls,
            )

        -- how it has ended
        pub finishes : (end : Type 0) (tells : Bool) (s s' : List DealerStep) (p p' : Pages)
            (opens : List (Option OpenJob))
            → Post P → Post P → SeatChannel → Station P → Seat P → P → ((k : ℕ) → open_at opens k ≡ None)
            → (ended : Ended)
            → HasRunLoop end tells (moment s (view pass).got (sent_at all) opens) s' (view after).got
            (sent_at left) p p' ended
            → HasFinished made end tells s s' p p' stations seats ended
        finishes end tells s s' p p' opens f g e d t b free Well ran = (
          many ∙ given.len ∙ sym count,
          no_jobs d,
          ran.3.0,
          driven end tells (moment s (view pass).got (sent_at all) opens) s' (view after).got
              (sent_at left) ran.1 ran.0 p p'
              (length stations) (CallsAt made end tells s s' p p' stations seats)
              (ap (λ (x : Results). x.got) up.new_results) (unsent_first d e g) ran.2 free
              (did end tells s s' p p' f g e d t b)
              (λ k late. others k (subst (λ n. n ≤ k) (count ∙ sym rigged.known) late))
              None ran.3.1,
        )
        finishes end tells s s' p p' opens f g e d t b free (Failed fault) ran = (
          many ∙ given.len ∙ sym count,
          no_jobs d,
          driven end tells (moment s (view pass).got (sent_at all) opens) s' (view after).got
              (sent_at left) ran.1 ran.0 p p'
              (length stations) (CallsAt made end tells s s' p p' stations seats)
              (ap (λ (x : Results). x.got) up.new_results) (unsent_first d e g) ran.2 free
              (did end tells s s' p p' f g e d t b)
              (λ k late. others k (subst (λ n. n ≤ k) (count ∙ sym rigged.known) late))
              (Some fault) ran.3,
        )
        finishes end tells s s' p p' opens f g e d t b free Stray ran =
            not_strayed end tells (moment s (view pass).got (sent_at all) opens) s' (view after).got
            (sent_at left) ran.1 ran.0
            p p' (length stations) (CallsAt made end tells s s' p p' stations seats)
            (ap (λ (x : Results). x.got) up.new_results) (unsent_first d e g) ran.2 free
            (did end tells s s' p p' f g e d t b)
            (λ k late. others k (subst (λ n. n ≤ k) (count ∙ sym rigged.known) late))
            ran.3
