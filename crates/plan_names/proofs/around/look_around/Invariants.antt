use Rattle.std.proofs.Common.{◌≡◌, ◌<◌, length}
use Rattle.plan_sight.specs.Scopes.{visible}
use Rattle.plan_sight.specs.Sites.{all_but_first, deployment_key}
use Rattle.plan_table.specs.Whole.{whole_of}
use Rattle.plan_table.specs.Found.{scope_at}
use Rattle.plan_sight.specs.Ready.{told_in}
use Rattle.arm_env.specs.Find.{names_key}
use Rattle.plan_names.proofs.AroundLemmas.{seeking}
use Rattle.plan_names.proofs.around.look_around.Given as goal

abbrev pub invariant-scopes : goal.invariant-scopes
invariant-scopes l = record {
  there : l.at < length l.table.frames.items;
  told : told_in l.table (seeking l.table (λ n. names_key l.text (deployment_key l.place n)) l.place
      (all_but_first (visible (whole_of l.table).template (scope_at l.table l.at).position)))
      ≡ told_in l.table (seeking l.table (λ n. names_key l.text (deployment_key l.place n)) l.place
      (all_but_first (visible (whole_of l.table).template (scope_at l.table l.frame).position)));
}

abbrev pub decreases-scopes : goal.decreases-scopes
decreases-scopes l = l.at
