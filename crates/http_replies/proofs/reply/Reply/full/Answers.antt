use Rattle.std.proofs.Common.{[], codes, refl, ◌∙◌}
use Rattle.foundation.proofs.AsciiWords.{word}
use Rattle.http_replies.specs.Replies.{error_json}
use Rattle.http_replies.proofs.reply.Reply.full.Goals as goal

pub returns : goal.returns
returns c = record {
  status_is = refl;
  body_is = c.in_ok-error_body.ensures ∙ (λ i. error_json (word (codes "JournalFull") refl i) (word [] refl i));
  outcome_is = refl;
}
