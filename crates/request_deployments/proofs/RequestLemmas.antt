-- What comes of a request, from the template that is read back up to the words.
use Rattle.std.proofs.Common.{◌≡◌, ◌⊎◌, inl, inr, ℕ, Bool, List, Option, Some, None, Result, Ok, Err, refl, sym}
use Rattle.std.proofs.Common.{subst, ap, option_map, ◌∙◌, ◌<◌, ◌≤◌, arith}
use Rattle.std.specs.Borrow.{Bor}
use Rattle.std.specs.Prelude.{IfOk, IsSomeAnd, vec_items}
use Rattle.std.specs.declared.alloc.AllocError.{AllocError}
use Rattle.std.specs.declared.alloc.Global.{Global}
use Rattle.std.specs.declared.vec.Vec.{Vec}
use Rattle.arm_ids.specs.declared.id.Place.{Place}
use Rattle.arm_value.specs.Fault.{Gives, Explains}
use Rattle.arm_value.specs.Json.{Json}
use Rattle.arm_value.specs.Reading.{reading, not_whole}
use Rattle.arm_value.specs.declared.read.JsonFault.{JsonFault}
use Rattle.arm_value.specs.declared.read.JsonFault.TheVariants as json
use Rattle.command_refusals.specs.Requests.{parameter_report}
use Rattle.command_reports.specs.Faults.{fault_report}
use Rattle.command_reports.specs.declared.faults.Fault.TheVariants.{Tree}
use Rattle.command_reports.specs.declared.report.Report.{Report}
use Rattle.command_words.specs.Commands.{DeployRequest}
use Rattle.deploy_histories.specs.Planned.{Planned}
use Rattle.deployment_requests.specs.Requests.{Request, IsPlanBy}
use Rattle.parameter_files.specs.Files.{CountsFault}
use Rattle.parameter_files.specs.declared.fault.ParameterFault.{ParameterFault}
use Rattle.parameter_files.specs.declared.fault.ParameterFault.TheVariants as file
use Rattle.provider_trait.specs.declared.call.Call.{Call}
use Rattle.read_backs.specs.Texts.{IsJsonText, IsReadBack}
use Rattle.request_names.specs.Names.{bad_name}
use Rattle.request_places.specs.Places.{PlacesArePlain}
use Rattle.run_reports.specs.Reported.{SaysRun}
use Rattle.run_reports.specs.declared.outcome.Outcome.{Outcome}
use Rattle.seat_calls.specs.Called.{Kind}
use Rattle.seat_calls.specs.declared.seat.Seat.{Seat}
use Rattle.serde_json.specs.Data.{Data, depth}
use Rattle.template_deployments.proofs.CameLemmas.{came_out_more, turned_down}
use Rattle.template_deployments.specs.Came.{Came, Terms}
use Rattle.template_deployments.specs.Deploying.{AreReady, CameOut, IsRefusedWith, terms, around}
use Rattle.template_deployments.specs.Refusals.{IsRefusal}
use Rattle.template_parts.specs.declared.given.GivenValue.{GivenValue}
use Rattle.request_deployments.specs.Deployed.{MayDeployBytes, TellsTree, IsUntroubled, place_in}
use Rattle.request_deployments.proofs.StatusLemmas.{one, nine, not_tree, of_given, of_run}
use Rattle.request_deployments.specs.Given.{MayDeployPlaced, request_with, IsRefusedRead, IsPlanRead, IsBadName}
use Rattle.request_deployments.specs.Given.{IsRefusedGiven, IsPlanGiven}
use Rattle.request_deployments.specs.Refused.{IsRefused}
use Rattle.request_deployments.specs.Requested.{Files, AreGiven, IsAsked, IsPlanOfBytes}

-- ---- the value of the bytes

some_none : {A : Type 0} {x : A} → Some x ≡ None → ⊥
some_none e = cc

not_deep : {n : ℕ} → 120 < n → n ≤ 120 → ⊥
not_deep h l = omega (arith, h, l)

-- bytes that are a JSON text have no fault of their own
no_fault : (r : Option Data) (v : Json) (f : JsonFault) → Gives r v → Explains r f → f ≡ json.OutOfMemory
no_fault r v json.NotJson g h = absurd (some_none (sym g.0 ∙ h))
no_fault r v json.TooDeep g h =
    absurd (not_deep (subst (λ (q : Option Data). IsSomeAnd q (λ d. 120 < depth d)) g.0 h) g.1)
no_fault r v (json.NotWhole path) g h =
    absurd (some_none (sym
    (subst (λ (q : Option Data). IsSomeAnd q (λ d. (depth d ≤ 120) × (not_whole d ≡ Some path))) g.0 h).1 ∙ g.2))
no_fault r v json.OutOfMemory g h = refl

pub only_memory : (bytes : List ℕ) (f : JsonFault) → IsJsonText bytes → Explains (reading bytes) f
    → f ≡ json.OutOfMemory
only_memory bytes f t h = no_fault (reading bytes) t.0 f t.1 h

-- ---- what comes of it

-- by what follows, of the same outcome
module _ {P : Type 0} (may : Kind) (told : Bool) (faults : P → ℕ) (calls : P → List Call)
    (old new : Vec (Seat P) Global) (o same : Outcome) where
  came_same : (f g : Report → Type 0) (s u : Planned → Type 0) (a b : Place) → same ≡ o → ((q : Report) → f q → g q)
      → ((x : Planned) → s x → u x) → a ≡ b → CameOut may told faults calls old new o f s a
      → CameOut may told faults calls old new same g u b
  came_same f g s u a b is refused source place c =
      subst (λ (p : Outcome). CameOut may told faults calls old new p g u b) (sym is)
      (came_out_more may told faults calls old new o f g s u a b refused source place c)

  -- of what was read back of the bytes
  pub of_read : (bytes : List ℕ) (v : Json) (p q : Request) (a : Place) → same ≡ o → p ≡ q → IsReadBack bytes v
      → CameOut may told faults calls old new o (IsRefusal v p) (IsPlanBy v p) a
      → CameOut may told faults calls old new same (IsRefusedRead bytes q) (IsPlanRead bytes q) a
  of_read bytes v p q a is e read c =
      came_same (IsRefusal v p) (IsRefusedRead bytes q) (IsPlanBy v p) (IsPlanRead bytes q) a a is
      (λ r h. record { value = v; is_read = read; refused = subst (λ (z : Request). IsRefusal v z r) e h })
      (λ x h. record { value = v; is_read = read; is_plan = subst (λ (z : Request). IsPlanBy v z x) e h }) refl c

  -- of what was asked for with values, in the place of the names
  pub of_place : (bytes : List ℕ) (d : DeployRequest) (given : List GivenValue) (a : Place) → same ≡ o
      → a ≡ place_in d → bad_name d.group d.name d.subscription ≡ None
      → CameOut may told faults calls old new o (IsRefusedRead bytes (request_with d given a))
      (IsPlanRead bytes (request_with d given a)) a
      → CameOut may told faults calls old new same (λ r. IsBadName d r ⊎ IsRefusedGiven bytes d given r)
      (IsPlanGiven bytes d given) (place_in d)
  of_place bytes d given a is e none c =
      came_same (IsRefusedRead bytes (request_with d given a)) (λ r. IsBadName d r ⊎ IsRefusedGiven bytes d given r)
      (IsPlanRead bytes (request_with d given a)) (IsPlanGiven bytes d given) a (place_in d) is
      (λ r h. inr (record {
        in_form = none;
        refused = subst (λ (b : Place). IsRefusedRead bytes (request_with d given b) r) e h;
      }))
      (λ x h. record {
        in_form = none;
        is_plan = subst (λ (b : Place). IsPlanRead bytes (request_with d given b) x) e h;
      }) e c

-- what is asked with these values
asked_with : (fs : Files) (d : DeployRequest) (given : List GivenValue) → AreGiven fs d.parameters given
    → bad_name d.group d.name d.subscription ≡ None → IsAsked fs d (request_with d given (place_in d))
asked_with fs d given are none = record {
  given = are;
  in_form = none;
  place = refl;
  mode = refl;
  held = refl;
}

refused_of : (fs : Files) (d : DeployRequest) (bytes : List ℕ) (given : List GivenValue)
    → AreGiven fs d.parameters given → (r : Report) → IsBadName d r ⊎ IsRefusedGiven bytes d given r
    → IsRefused fs d bytes r
refused_of fs d bytes given are r (inl b) = inr (inl (record {
  values = given;
  given = are;
  name = b.name;
  is_bad = b.is_bad;
  report = b.report;
}))
refused_of fs d bytes given are r (inr u) = inr (inr (record {
  request = request_with d given (place_in d);
  asked = asked_with fs d given are u.in_form;
  value = u.refused.value;
  is_read = u.refused.is_read;
  refused = u.refused.refused;
}))

plan_of : (fs : Files) (d : DeployRequest) (bytes : List ℕ) (given : List GivenValue)
    → AreGiven fs d.parameters given → (x : Planned) → IsPlanGiven bytes d given x → IsPlanOfBytes fs d bytes x
plan_of fs d bytes given are x p = record {
  request = request_with d given (place_in d);
  asked = asked_with fs d given are p.in_form;
  value = p.is_plan.value;
  is_read = p.is_plan.is_read;
  is_plan = p.is_plan.is_plan;
}

module _ {P : Type 0} (may : Kind) (told : Bool) (faults : P → ℕ) (calls : P → List Call)
    (old new : Vec (Seat P) Global) (o : Outcome) where
  -- of what was asked for by words
  pub of_words : (fs : Files) (d : DeployRequest) (bytes : List ℕ) (given : List GivenValue)
      → AreGiven fs d.parameters given
      → CameOut may told faults calls old new o (λ r. IsBadName d r ⊎ IsRefusedGiven bytes d given r)
      (IsPlanGiven bytes d given) (place_in d)
      → CameOut may told faults calls old new o (IsRefused fs d bytes) (IsPlanOfBytes fs d bytes) (place_in d)
  of_words fs d bytes given are c =
      came_out_more may told faults calls old new o (λ r. IsBadName d r ⊎ IsRefusedGiven bytes d given r)
      (IsRefused fs d bytes) (IsPlanGiven bytes d given) (IsPlanOfBytes fs d bytes) (place_in d) (place_in d)
      (refused_of fs d bytes given are) (plan_of fs d bytes given are) refl c

-- ---- refusals

says : (f : Report → Type 0) (q : Report) (r : Result Report AllocError) → IfOk r (λ p. p ≡ q) → f q → IfOk r f
says f q (Ok p) e h = subst f (sym e) h
says f q (Err x) e h = tt

module _ {P : Type 0} (may : Kind) (told : Bool) (faults : P → ℕ) (calls : P → List Call)
    (seats : Vec (Seat P) Global) (o same : Outcome) where
  -- it was refused with this report, and no provider was called
  pub down : (r : Result Report AllocError) (f : Report → Type 0) (q : Report) (s : Planned → Type 0) (a : Place)
      → same ≡ o → AreReady (vec_items seats) → IsRefusedWith r o → IfOk r (λ p. p ≡ q) → f q
      → CameOut may told faults calls seats seats same f s a
  down r f q s a is ready refused e h =
      subst (λ (p : Outcome). CameOut may told faults calls seats seats p f s a) (sym is)
      (turned_down may told faults calls seats o r f s a ready refused (says f q r e h))

  -- memory was out, and no provider was called
  pub down_quiet : (x : AllocError) (f : Report → Type 0) (s : Planned → Type 0) (a : Place) → same ≡ o
      → AreReady (vec_items seats) → IsRefusedWith (Err x) o → CameOut may told faults calls seats seats same f s a
  down_quiet x f s a is ready refused =
      subst (λ (p : Outcome). CameOut may told faults calls seats seats p f s a) (sym is)
      (turned_down may told faults calls seats o (Err x) f s a ready refused tt)

-- ---- names

pub is_bad : (o : Option (Bor (List ℕ))) (n : Bor (List ℕ)) (b : Option (List ℕ)) → option_map (λ x. x.now) o ≡ b
    → o ≡ Some n → b ≡ Some n.now
is_bad o n b h e = sym h ∙ ap (option_map (λ x. x.now)) e

pub none_bad : (o : Option (Bor (List ℕ))) (b : Option (List ℕ)) → option_map (λ x. x.now) o ≡ b → o ≡ None
    → b ≡ None
none_bad o b h e = sym h ∙ ap (option_map (λ x. x.now)) e

pub may_deploy : {P : Type 0} (bytes : List ℕ) (d : DeployRequest) (a : Place) (seats : Vec (Seat P) Global)
    → PlacesArePlain → MayDeployBytes bytes seats → bad_name d.group d.name d.subscription ≡ None → a ≡ place_in d
    → MayDeployPlaced bytes a seats
may_deploy bytes d a seats law m none e =
    let plain = law d.subscription d.group d.name none in
    subst (λ (b : Place). MayDeployPlaced bytes b seats) (sym e) (record {
      text = m.text;
      may = record {
        is_plain = record { subscription = plain.subscription; group = plain.group };
        ready = m.ready;
      };
    })

-- ---- the tree's count of faults

if_ok : (f g : Report → Type 0) (r : Result Report AllocError) → ((q : Report) → f q → g q) → IfOk r f → IfOk r g
if_ok f g (Ok q) m h = m q h
if_ok f g (Err e) m h = tt

-- what comes of a request with values has nothing to do with the tree
pub untroubled : {P : Type 0} (may : Kind) (told : Bool) (faults : P → ℕ) (calls : P → List Call)
    (old new : Vec (Seat P) Global) (o : Outcome) (d : DeployRequest) (bytes : List ℕ) (given : List GivenValue)
    → CameOut may told faults calls old new o (λ r. IsBadName d r ⊎ IsRefusedGiven bytes d given r)
    (IsPlanGiven bytes d given) (place_in d) → IsUntroubled o
untroubled may told faults calls old new o d bytes given c = of c.came
  where
    t : Terms
    t = terms (λ r. IsBadName d r ⊎ IsRefusedGiven bytes d given r) (IsPlanGiven bytes d given) (place_in d)

    of : Came t (around may told faults calls old new o) o → IsUntroubled o
    of (inl down) =
        if_ok t.IsRefusal (λ r. ¬ (r.status ≡ 4)) o.report (λ r h. not_tree r (of_given d bytes given r h)) down.says
    of (inr ran) =
        if_ok (SaysRun (t.named ran.run.planned) t.name ran.run.ending) (λ r. ¬ (r.status ≡ 4)) o.report
        (of_run (t.named ran.run.planned) t.name ran.run.ending) ran.says

-- the report of a fault of the parameter file is that of the tree, where the tree has failed, and only there
pub tells_file : (before now : ℕ) (name : List ℕ) (f : ParameterFault) (r : Result Report AllocError) (o : Outcome)
    → CountsFault before now f → IfOk r (λ q. q ≡ parameter_report name f) → IsRefusedWith r o → TellsTree before now o
tells_file before now name f r o h e is = of f h e
  where
    other : (q : Report) → ¬ (q.status ≡ 4) → now ≡ before → IfOk r (λ p. p ≡ q) → TellsTree before now o
    other q fine counts e =
        inl (
          counts,
          subst (λ (x : Result Report AllocError). IfOk x (λ p. ¬ (p.status ≡ 4))) (sym is.report)
              (says (λ p. ¬ (p.status ≡ 4)) q r e fine),
        )

    of : (f : ParameterFault) → CountsFault before now f → IfOk r (λ q. q ≡ parameter_report name f)
        → TellsTree before now o
    of file.Fault h e =
        inr (h, subst (λ (x : Result Report AllocError). IfOk x (λ p. p ≡ fault_report Tree)) (sym is.report) e)
    of file.Missing h e = other (parameter_report name file.Missing) (one refl) h e
    of file.TooLarge h e = other (parameter_report name file.TooLarge) (one refl) h e
    of file.NotJson h e = other (parameter_report name file.NotJson) (one refl) h e
    of file.TooDeep h e = other (parameter_report name file.TooDeep) (one refl) h e
    of file.NotWhole h e = other (parameter_report name file.NotWhole) (one refl) h e
    of file.WrongForm h e = other (parameter_report name file.WrongForm) (one refl) h e
    of file.OutOfMemory h e = other (parameter_report name file.OutOfMemory) (nine refl) h e
