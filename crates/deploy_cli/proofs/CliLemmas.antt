-- What comes of the commands.
use Rattle.std.proofs.Common.{◌≡◌, inr, ℕ, Bool, List, Option, refl, sym, subst}
use Rattle.std.specs.Prelude.{option_map}
use Rattle.std.specs.declared.alloc.Global.{Global}
use Rattle.std.specs.declared.vec.Vec.{Vec}
use Rattle.bicep_program.specs.Sources.{folder_of}
use Rattle.command_words.specs.Commands.{Request, command_of, request_of, deploy_asked}
use Rattle.command_words.specs.declared.command.Command.{Command}
use Rattle.command_words.specs.declared.command.Deploy.{Deploy}
use Rattle.deploy_cli.specs.Clauses.{HasDeployed, HasRun}
use Rattle.deploy_cli.specs.declared.running.Ran.{Ran}
use Rattle.deployment_theorem.specs.Commands.{IsRefusal, IsSourceOf, Does, Says}
use Rattle.deployment_theorem.specs.Counts.{CountsTree}
use Rattle.deployment_theorem.specs.Laws.{PlansAreOfSources}
use Rattle.deployment_theorem.specs.Sides.{Outside, Moment, files_in, output_at}
use Rattle.provider_trait.specs.declared.call.Call.{Call}
use Rattle.deployment_theorem.specs.Deployed.{HasDeployedBytes, place_in}
use Rattle.deployment_theorem.specs.Refused.{IsRefused}
use Rattle.deployment_theorem.specs.Requested.{IsPlanOfBytes}
use Rattle.run_reports.specs.declared.outcome.Outcome.{Outcome}
use Rattle.seat_calls.specs.Called.{Kind}
use Rattle.seat_calls.specs.declared.seat.Seat.{Seat}
use Rattle.deployment_theorem.specs.Builds.{IsBuilt}
use Rattle.deployment_theorem.specs.Deploying.{terms, around}
use Rattle.deployment_theorem.proofs.CauseLemmas.{caused}
use Rattle.deployment_theorem.proofs.CompleteLemmas.{completed}
use Rattle.deployment_theorem.proofs.RunLemmas.{came_more}

-- the template that was built was deployed
pub deployed : {P : Type 0} (may : Kind) (told : Bool) (faults : P → ℕ) (calls : P → List Call) (tells : Bool)
    (d : Deploy) → PlansAreOfSources → (old new : Vec (Seat P) Global) (o c : Outcome)
    (file other : List ℕ → Option (List ℕ)) (bytes : List ℕ)
    → IsBuilt (folder_of tells file) d.file.now d.form bytes → other ≡ file → c ≡ o
    → HasDeployedBytes may told faults calls old new o tells other bytes d
    → HasDeployed may told faults calls old new c tells file d
deployed may told faults calls tells d law old new o c file other bytes built same is h =
    let f = folder_of tells file in
    let q = deploy_asked d in
    let k = subst (λ (g : List ℕ → Option (List ℕ)). HasDeployedBytes may told faults calls old new o tells g bytes d)
    same h in
    subst (λ (x : Outcome). HasDeployed may told faults calls old new x tells file d) (sym is) (record {
      ready = k.ready;
      came =
          came_more (terms (IsRefused (files_in f) q bytes) (IsPlanOfBytes (files_in f) q bytes) (place_in q))
          (terms (IsRefusal f q) (IsSourceOf f q) (place_in q)) (around may told faults calls old new o) o
          (λ p r. inr (record { bytes = bytes; built = built; refused = r })) (λ x r. law f q bytes x built r)
          (λ x. refl) refl k.came;
    })

-- this came of the words
pub ran_by : (o : Outside) (before now : Moment) (words : List (List ℕ)) (k : Option Command) (c : Outcome)
    (ran : Ran) → option_map request_of k ≡ command_of words → Does o before now (option_map request_of k) c
    → CountsTree before.tree_faults now.tree_faults c.report
    → Says (output_at o before) (output_at o now) c.report ran.status → ran.history ≡ c.history
    → HasRun o before now words ran
ran_by o before now words k c ran e does tree says handed =
    let did = subst (λ (q : Option Request). Does o before now q c) e does in
    let cause = caused o before now (command_of words) c ran.status did tree says in
    record {
      outcome = c;
      runs = record {
        does = did;
        tree = tree;
        says = says;
        cause = cause;
        complete = completed o before now (command_of words) c ran.status says cause;
      };
      handed = handed;
    }
