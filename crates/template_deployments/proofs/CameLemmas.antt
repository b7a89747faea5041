-- What comes of a deployment, from its plan up to the value that states its template.
use Rattle.std.proofs.Common.{◌≡◌, ◌<◌, ◌≤◌, length, inr, ℕ, List, Bool, Result, Ok, Err, refl, sym, ap, subst}
use Rattle.std.proofs.Common.{◌∙◌, map}
use Rattle.std.specs.Prelude.{IfOk, encode_utf8_all, vec_items}
use Rattle.std.specs.declared.alloc.AllocError.{AllocError}
use Rattle.std.specs.declared.alloc.Global.{Global}
use Rattle.std.specs.declared.vec.Vec.{Vec}
use Rattle.arm_ids.specs.Held.{HeldResource, IsInOrder, HaveKeys}
use Rattle.arm_ids.specs.declared.id.Place.{Place}
use Rattle.plan_boards.specs.Accepted.{IsAccepted}
use Rattle.arm_value.specs.View.{json}
use Rattle.arm_value.specs.declared.value.Value.{Value}
use Rattle.arm_template.specs.States.{States}
use Rattle.command_reports.specs.declared.report.Report.{Report}
use Rattle.provider_trait.specs.declared.call.Call.{Call}
use Rattle.seat_calls.specs.Called.{Kind}
use Rattle.seat_calls.specs.declared.seat.Seat.{Seat}
use Rattle.deploy_histories.specs.Planned.{Planned}
use Rattle.deployment_requests.specs.Requests.{Request, IsPlanOf, IsPlanBy}
use Rattle.plan_boards.specs.Planned.{planned_by}
use Rattle.plan_outcomes.specs.PlanOutcomes.{HaveHistories, HaveOutcomes}
use Rattle.plan_faults.specs.Faults.{IsFault}
use Rattle.plan_faults.specs.declared.fault.PlanFault.{PlanFault}
use Rattle.command_refusals.specs.Templates.{plan_report}
use Rattle.deploy_core.specs.Names.{name_of}
use Rattle.run_reports.specs.Deployments.{LeadsToStates}
use Rattle.run_reports.specs.Reported.{IsReported}
use Rattle.run_reports.specs.declared.outcome.Outcome.{Outcome}
use Rattle.run_reports.proofs.SideLemmas.{as_many}
use Rattle.template_tree.specs.View.{template_tree}
use Rattle.template_tree.specs.declared.resource.Template.{Template}
use Rattle.worker_crew.specs.Driven.{HasNoJobs}
use Rattle.plan_boards.specs.Plan.{Plan}
use Rattle.plan_cells.specs.Meaning.{Deployment}
use Rattle.plan_boards.specs.Plans.{deployment_of}
use Rattle.plan_boards.specs.Titles.{title}
use Rattle.template_deployments.proofs.RunLemmas.{came_more, came_out, came_run}
use Rattle.template_tree.specs.Tree.{TemplateTree}
use Rattle.template_parts.specs.declared.given.BoundParameter.{BoundParameter}
use Rattle.template_parameters.specs.Binding.{BoundMeaning, bound_view}
use Rattle.template_deployments.specs.Requests.{request_of, IsBoundTo}
use Rattle.template_deployments.specs.Refusals.{IsUnplanned, IsUnrun, IsRefusal}
use Rattle.template_deployments.specs.Deploying.{AreReady, MayDeploy, MayRun, MayDeployBound, terms, around}
use Rattle.template_deployments.specs.Deploying.{CameOut, IsRefusedWith}
use Rattle.template_deployments.specs.Deploying.{HasRun, HasDeployedBound, HasDeployedRead, HasDeployed}
use Rattle.template_deployments.specs.declared.asked.Asked.{Asked}

module _ {P : Type 0} (may : Kind) (told : Bool) (faults : P → ℕ) (calls : P → List Call)
    (old new : Vec (Seat P) Global) (o : Outcome) where
  -- by other refusals and sources, which follow, in an equal place
  pub came_out_more : (f g : Report → Type 0) (s u : Planned → Type 0) (a b : Place) → ((q : Report) → f q → g q)
      → ((x : Planned) → s x → u x) → a ≡ b → CameOut may told faults calls old new o f s a
      → CameOut may told faults calls old new o g u b
  came_out_more f g s u a b refused source same c = record {
    ready = c.ready;
    came =
        came_more (terms f s a) (terms g u b) (around may told faults calls old new o) o refused source (λ x. refl)
        (ap (λ (p : Place). encode_utf8_all p.deployment) same) c.came;
  }

-- no provider was called, and the deployment was refused
pub turned_down : {P : Type 0} (may : Kind) (told : Bool) (faults : P → ℕ) (calls : P → List Call)
    (seats : Vec (Seat P) Global) (o : Outcome) (r : Result Report AllocError) (f : Report → Type 0)
    (s : Planned → Type 0) (a : Place) → AreReady (vec_items seats) → IsRefusedWith r o → IfOk r f
    → CameOut may told faults calls seats seats o f s a
turned_down may told faults calls seats o r f s a ready refused says = record {
  ready = ready;
  came =
      came_out (terms f s a) (around may told faults calls seats seats o) o refl refused.nothing
      (subst (λ (q : Result Report AllocError). IfOk q f) (sym refused.report) says);
}

pub if_says : (f : Report → Type 0) (p : Report) (r : Result Report AllocError) → IfOk r (λ q. q ≡ p)
    → ((q : Report) → q ≡ p → f q) → IfOk r f
if_says f p (Ok q) h m = m q h
if_says f p (Err e) h m = tt

-- a template in the place of a request, with these values
abbrev with_bound : Request → TemplateTree → List (List ℕ × BoundMeaning) → Deployment
with_bound q t bs = record { template = t; bound = bs; place = q.place }

-- the plan of a template for a request
pub is_plan_of : HaveHistories → (q : Request) (t : TemplateTree) (b : List BoundParameter) (p : Plan) → IsBoundTo q t b
    → IsAccepted p q.held → p.mode ≡ q.mode
    → deployment_of p ≡ record { template = t; bound = map bound_view b; place = q.place }
    → IsPlanOf q t (planned_by p q.held)
is_plan_of law q t b p bound acc mode whole = record {
  accepted = bound.accepted;
  deployment = whole ∙ ap (with_bound q t) bound.bound;
  mode = mode;
  held = refl;
  is_planned = law p q.held acc;
}

-- ---- a plan is run

module _ {P : Type 0} (may : Kind) (told : Bool) (faults : P → ℕ) (calls : P → List Call)
    (old new : Vec (Seat P) Global) (o : Outcome) where
  -- as many seats as before
  as_ready : AreReady (vec_items old) → length (vec_items new) ≡ length (vec_items old) → HasNoJobs (vec_items new)
      → AreReady (vec_items new)
  as_ready ready same free = record {
    few = subst (λ (n : ℕ). (0 < n) × (n ≤ 4294967295)) (sym same) ready.few;
    free = free;
  }

  leads_by : (p : Plan) (held : List HeldResource) → HaveOutcomes may → IsAccepted p held → IsInOrder held
      → HaveKeys held → MayDeploy p.place.now old → LeadsToStates may (planned_by p held)
  leads_by p held law acc order keys may_deploy h legal given succeeded os outputs =
      law p held h acc (record { in_order = order; have_keys = keys; is_plain = may_deploy.is_plain }) legal given
      succeeded os outputs

  pub ran_plan : (p : Plan) (held : List HeldResource) → HaveOutcomes may → MayRun p held old → IsInOrder held
      → HaveKeys held → HasNoJobs (vec_items new) → (x : Planned) → x ≡ planned_by p held → (name : List ℕ)
      → name ≡ encode_utf8_all p.place.now.deployment
      → IsReported (around may told faults calls old new o) (name_of title x) name x o
      → HasRun may told faults calls old new o p held
  ran_plan p held law m order keys free x same name named is =
      let at = subst (λ (n : List ℕ). IsReported (around may told faults calls old new o) (name_of title x) n x o)
      named is in
      let done = subst
      (λ (y : Planned). IsReported (around may told faults calls old new o) (name_of title y)
      (encode_utf8_all p.place.now.deployment) y o) same at in
      record {
        ready =
            as_ready m.may.ready
            (sym (as_many may told calls faults (vec_items new)) ∙ is.ran.calls.length_same
            ∙ as_many may told calls faults (vec_items old))
            free;
        came =
            came_run (terms (λ q. ⊥) (λ y. y ≡ planned_by p held) p.place.now)
            (around may told faults calls old new o) (planned_by p held) o
            (leads_by p held law m.accepted order keys m.may) refl done;
      }

-- the place of the plan is the one that is asked for
place_same : (q : Request) (t : TemplateTree) (bs : List (List ℕ × BoundMeaning)) (p : Plan)
    → deployment_of p ≡ with_bound q t bs → p.place.now ≡ q.place
place_same q t bs p e = ap (λ (d : Deployment). d.place) e

module _ {P : Type 0} (t : Template) (b : List BoundParameter) (a : Asked) (p : Plan)
    (whole : deployment_of p ≡ with_bound (request_of a) (template_tree t) (map bound_view b)) where
  pub may_run : (seats : Vec (Seat P) Global) → IsAccepted p a.held.now → MayDeployBound t b a seats
      → MayRun p a.held.now seats
  may_run seats acc m = record {
    accepted = acc;
    may =
        subst (λ (place : Place). MayDeploy place seats)
        (sym (place_same (request_of a) (template_tree t) (map bound_view b) p whole)) m.read.may;
  }

  pub bound_ran : (may : Kind) (told : Bool) (faults : P → ℕ) (calls : P → List Call) (old new : Vec (Seat P) Global)
      (r s : Outcome) → HaveHistories → IsAccepted p a.held.now → p.mode ≡ a.mode
      → MayDeployBound t b a old → s ≡ r → HasRun may told faults calls old new r p a.held.now
      → HasDeployedBound may told faults calls old new s t a
  bound_ran may told faults calls old new r s law acc mode m is ran =
      subst (λ (o : Outcome). HasDeployedBound may told faults calls old new o t a) (sym is)
      (came_out_more may told faults calls old new r (λ q. ⊥) (IsUnplanned (request_of a) (template_tree t))
      (λ x. x ≡ planned_by p a.held.now) (IsPlanOf (request_of a) (template_tree t)) p.place.now a.place.now
      (λ q h. absurd h)
      (λ x e.
      subst (IsPlanOf (request_of a) (template_tree t)) (sym e)
      (is_plan_of law (request_of a) (template_tree t) b p m.bound acc mode whole))
      (place_same (request_of a) (template_tree t) (map bound_view b) p whole) ran)

-- what is reported of a refusal
pub if_says_as : (f : Report → Type 0) (p : Report) (r s : Result Report AllocError) → s ≡ r → IfOk r (λ q. q ≡ p)
    → ((q : Report) → q ≡ p → f q) → IfOk s f
if_says_as f p r s is h m = subst (λ (o : Result Report AllocError). IfOk o f) (sym is) (if_says f p r h m)

-- a template with values for its parameters has no plan
pub unplanned : (q : Request) (t : TemplateTree) (b : List BoundParameter) (f : PlanFault) (r : Report)
    → IsBoundTo q t b
    → IsFault (with_bound q t (map bound_view b)) q.mode q.held f → r ≡ plan_report f → IsUnplanned q t r
unplanned q t b f r bound holds report = record {
  accepted = bound.accepted;
  fault = f;
  holds =
      subst (λ (bs : List (List ℕ × BoundMeaning)). IsFault (with_bound q t bs) q.mode q.held f) bound.bound holds;
  report = report;
}

module _ {P : Type 0} (may : Kind) (told : Bool) (faults : P → ℕ) (calls : P → List Call)
    (old new : Vec (Seat P) Global) (r s : Outcome) where
  pub read_ran : (t : Template) (a : Asked) → s ≡ r → HasDeployedBound may told faults calls old new r t a
      → HasDeployedRead may told faults calls old new s t a
  read_ran t a is ran =
      subst (λ (o : Outcome). HasDeployedRead may told faults calls old new o t a) (sym is)
      (came_out_more may told faults calls old new r (IsUnplanned (request_of a) (template_tree t))
      (IsUnrun (request_of a) (template_tree t)) (IsPlanOf (request_of a) (template_tree t))
      (IsPlanOf (request_of a) (template_tree t)) a.place.now a.place.now (λ q h. inr h) (λ x h. h) refl ran)

  pub value_ran : (v : Value) (t : Template) (a : Asked) → States (json v) (template_tree t) → s ≡ r
      → HasDeployedRead may told faults calls old new r t a → HasDeployed may told faults calls old new s v a
  value_ran v t a states is ran =
      subst (λ (o : Outcome). HasDeployed may told faults calls old new o v a) (sym is)
      (came_out_more may told faults calls old new r (IsUnrun (request_of a) (template_tree t))
      (IsRefusal (json v) (request_of a)) (IsPlanOf (request_of a) (template_tree t))
      (IsPlanBy (json v) (request_of a)) a.place.now a.place.now (λ q h. inr (template_tree t, (states, h)))
      (λ x h. record { template = template_tree t; states = states; is_plan = h }) refl ran)
