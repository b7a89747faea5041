use Rattle.std.proofs.Common.{◌≡◌, take}
use Rattle.task_agenda.specs.Agendas.{count}
use Rattle.deploy_core.specs.Opens.{HasNeeds}
use Rattle.deploy_core.proofs.opening.add_needs.Given as goal

abbrev pub invariant-loop-need : goal.invariant-loop-need
invariant-loop-need l = record {
  count : l.count ≡ count l.agenda;
  needs : HasNeeds l.agenda l.fn.agenda.kinds.items (take l.need-index l.needs);
}
