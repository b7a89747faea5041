use Rattle.http_heads.proofs.FrontLemmas.{unfinished_of_never}
use Rattle.http_heads.proofs.parse.no_head.Goals as goal
use Rattle.std.proofs.Common.{sym, ◌∙◌}

pub returns-then-is_past_target : goal.returns-then-is_past_target
returns-then-is_past_target c = record {
  never = c.requires;
  past = sym c.is_past_target.ensures ∙ c.if-is_past_target.true;
}

pub returns-else-is_past_target : goal.returns-else-is_past_target
returns-else-is_past_target c =
    unfinished_of_never c.args.bytes.now c.requires (sym c.is_past_target.ensures ∙ c.if-is_past_target.false)
