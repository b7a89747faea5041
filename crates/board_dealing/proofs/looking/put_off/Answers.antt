use Rattle.board_dealing.proofs.LookLemmas.{need_added}
use Rattle.board_dealing.proofs.looking.put_off.Goals as goal

pub returns : goal.returns
returns c = record {
  between = c.need.new.self;
  needs = need_added c.args.agenda.now c.need.new.self c.args.task c.args.other c.need.result c.in_ok-need.field-0
      c.in_ok-need.was c.need.ensures;
  off = c.take_off.ensures;
}
