-- The deployment theorem: what a call of the program with these words does and says.
use Rattle.std.specs.Prelude.{ℕ, List, Option}
use Rattle.command_words.specs.Commands.{Request, command_of}
use Rattle.deployment_theorem.specs.Causes.{Cause}
use Rattle.deployment_theorem.specs.Commands.{Does, Says}
use Rattle.deployment_theorem.specs.Completeness.{IsComplete}
use Rattle.deployment_theorem.specs.Counts.{CountsTree}
use Rattle.deployment_theorem.specs.Sides.{Outside, Moment, output_at}
use Rattle.request_deployments.specs.Outcome.{Outcome}

module _ (o : Outside) (before now : Moment) where
  -- what came of a command, or of words that are none, and the status with which the program ends
  pub record Ends (command : Option Request) (c : Outcome) (status : ℕ) : Type 0 where
    -- what it did
    pub does : Does o before now command c
    -- the tree has failed exactly where this is reported
    pub tree : CountsTree before.tree_faults now.tree_faults c.report
    -- what it printed
    pub says : Says (output_at o before) (output_at o now) c.report status
    -- why it ends with this status
    pub cause : Cause o before now command c status
    -- where nothing keeps it from what is asked, it is done, or memory was out
    pub complete : IsComplete o before now command c status

  -- what came of these words
  abbrev pub Runs : List (List ℕ) → Outcome → ℕ → Type 0
  Runs words c status = Ends (command_of words) c status
