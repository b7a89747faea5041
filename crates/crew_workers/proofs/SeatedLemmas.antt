-- A worker stays seated at each of its orders.
use Rattle.std.proofs.Common.{◌≡◌, true, false, List, [], ◌∷◌, ◌++◌, sym, ap, ◌∙◌, subst}
use Rattle.crossbeam_channel.specs.Claims.{Pass, view, IsSeatAt}
use Rattle.crew_channels.specs.Orders.{orders, jobs_in}
use Rattle.crew_channels.specs.Results.{results}
use Rattle.crew_channels.specs.Rings.{OrderRing, DoneRing}
use Rattle.crew_channels.specs.declared.order.Order.{Order}
use Rattle.crew_channels.specs.declared.order.Order.TheVariants.{Run, Stop}
use Rattle.crew_channels.specs.declared.orders.Orders.{Orders}
use Rattle.crew_channels.specs.declared.results.Results.{Results}
use Rattle.crew_channels.proofs.OrderLemmas.{jobs_run, jobs_stop}
use Rattle.crew_workers.specs.Seated.{IsSeated}
use Rattle.crew_workers.specs.declared.worker.Worker.{Worker}
use Rattle.seat_calls.specs.Dones.{jobs_of}
use Rattle.seat_calls.specs.declared.done.Done.{Done}
use Rattle.seat_calls.proofs.DoneLemmas.{jobs_append, jobs_cons, jobs_none}

module _ {P : Type 0} (made : P → P → List Done → Type 0) (from : OrderRing) (to : DoneRing) (w v : Worker P)
    (was : IsSeated made from to w) where
  -- what a worker knows of its orders after one more
  got_one : (o : Order) → view v.orders ≡ orders (view w.orders).sends (view w.orders).receives (view w.orders).sent
      ((view w.orders).got ++ o ∷ []) → view v.orders ≡ orders false true [] (view v.orders).got
  got_one o is =
      is ∙ ap (λ (x : Orders). orders x.sends x.receives x.sent ((view w.orders).got ++ o ∷ [])) was.orders_role
      ∙ ap (λ g. orders false true [] g) (sym (ap (λ (x : Orders). x.got) is))

  -- a job was done, and its result sent
  pub seated_run : (d : Done) (o : Order) → o ≡ Run d.job → v.number ≡ w.number → IsSeatAt from v.orders
      → view v.orders ≡ orders (view w.orders).sends (view w.orders).receives (view w.orders).sent
      ((view w.orders).got ++ o ∷ [])
      → IsSeatAt to v.results
      → view v.results ≡ results false true (view w.results).made (view w.results).worker
      ((view w.results).sent ++ d ∷ []) (view w.results).got
      → made v.before.value v.provider ((view w.results).sent ++ d ∷ []) → IsSeated made from to v
  seated_run d o is same at_orders got at_results sent calls =
      let all : (view v.orders).got ≡ (view w.orders).got ++ Run d.job ∷ []
      = ap (λ (x : Orders). x.got) got ∙ ap (λ x. (view w.orders).got ++ x ∷ []) is in
      let done : (view v.results).sent ≡ (view w.results).sent ++ d ∷ [] = ap (λ (x : Results). x.sent) sent in record {
        at_orders = at_orders;
        at_results = at_results;
        orders_role = got_one o got;
        results_role =
            sent
            ∙ ap (λ (x : Results). results false true x.made x.worker ((view w.results).sent ++ d ∷ []) x.got)
            was.results_role
            ∙ ap (λ n. results false true 0 n ((view w.results).sent ++ d ∷ []) []) (sym same)
            ∙ ap (λ s. results false true 0 v.number s []) (sym done);
        calls = subst (λ x. made v.before.value v.provider x) (sym done) calls;
        jobs =
            ap jobs_of done ∙ jobs_append (view w.results).sent (d ∷ [])
            ∙ ap (λ j. j ++ jobs_of (d ∷ [])) was.jobs
            ∙ ap (λ j. jobs_in (view w.orders).got ++ j) (jobs_cons d [] ∙ ap (λ j. d.job ∷ j) jobs_none)
            ∙ sym (ap jobs_in all ∙ jobs_run (view w.orders).got d.job);
      }

  -- the last order was received
  pub seated_stop : (o : Order) → o ≡ Stop → v.number ≡ w.number → v.before.value ≡ w.before.value
      → v.provider ≡ w.provider → v.results ≡ w.results → IsSeatAt from v.orders
      → view v.orders ≡ orders (view w.orders).sends (view w.orders).receives (view w.orders).sent
      ((view w.orders).got ++ o ∷ [])
      → IsSeated made from to v
  seated_stop o is same before provider results_same at_orders got =
      let all : (view v.orders).got ≡ (view w.orders).got ++ Stop ∷ []
      = ap (λ (x : Orders). x.got) got ∙ ap (λ x. (view w.orders).got ++ x ∷ []) is in record {
        at_orders = at_orders;
        at_results = subst (λ (r : Pass Done Results). IsSeatAt to r) (sym results_same) was.at_results;
        orders_role = got_one o got;
        results_role =
            ap (λ (x : Pass Done Results). view x) results_same ∙ was.results_role
            ∙ ap (λ n. results false true 0 n (view w.results).sent []) (sym same)
            ∙ ap (λ (x : Pass Done Results). results false true 0 v.number (view x).sent []) (sym results_same);
        calls =
            subst (λ (x : Pass Done Results). made v.before.value v.provider (view x).sent) (sym results_same)
            (subst (λ x. made v.before.value x (view w.results).sent) (sym provider)
            (subst (λ x. made x w.provider (view w.results).sent) (sym before) was.calls));
        jobs =
            ap (λ (x : Pass Done Results). jobs_of (view x).sent) results_same ∙ was.jobs
            ∙ sym (ap jobs_in all ∙ jobs_stop (view w.orders).got);
      }
