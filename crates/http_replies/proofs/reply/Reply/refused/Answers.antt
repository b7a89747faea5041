use Rattle.std.proofs.Common.{chars, refl, ap, ◌∙◌}
use Rattle.http_replies.specs.Replies.{error_json}
use Rattle.http_replies.proofs.ErrorLemmas.{name_characters}
use Rattle.http_replies.proofs.reply.Reply.refused.Goals as goal

pub returns-in-Ok : goal.returns-in-Ok
returns-in-Ok c = record {
  status_is = c.status-status.ensures;
  body_is = c.in-Ok.ensures
      ∙ (λ i. error_json ((ap chars c.name.ensures ∙ name_characters c.args.code) i) (c.message.ensures i));
  outcome_is = refl;
}
