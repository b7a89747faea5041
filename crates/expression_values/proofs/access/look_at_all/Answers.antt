use Rattle.expression_values.proofs.AccessLemmas.{sees_then, forced_plain}
use Rattle.expression_values.proofs.access.look_at_all.Goals as goal

pub returns-in-Owned : goal.returns-in-Owned
returns-in-Owned g c = rw c.in-Owned.is (forced_plain (g.K.Entries.known c.args.entries.now) _)

pub returns-in-Lent : goal.returns-in-Lent
returns-in-Lent g c = rw c.in-Lent.is (forced_plain (g.K.Entries.known c.args.entries.now) _)

pub returns-in-Whole : goal.returns-in-Whole
returns-in-Whole g c = rw c.in-Whole.is (forced_plain (g.K.Entries.known c.args.entries.now) _)

pub returns-in-Deployment : goal.returns-in-Deployment
returns-in-Deployment g c =
    rw c.in-Deployment.is
    (sees_then (g.K.Entries.known c.args.entries.now) c.look_at_outputs.result _ _ c.look_at_outputs.ensures)

pub returns-in-Outputs : goal.returns-in-Outputs
returns-in-Outputs g c =
    rw c.in-Outputs.is
    (sees_then (g.K.Entries.known c.args.entries.now) c.look_at_outputs-in-Outputs.result _ _
    c.look_at_outputs-in-Outputs.ensures)

pub returns-in-Output : goal.returns-in-Output
returns-in-Output g c = rw c.in-Output.is c.look_at_output.ensures
