use Rattle.std.proofs.Common.{◌≡◌, codes, chars, decimal, refl, ap, ◌∙◌, arith}
use Rattle.std.proofs.lemmas.Fmt.{IsAscii-decimal}
use Rattle.std.proofs.lemmas.Str.{chars-IsAscii}
use Rattle.foundation.proofs.AsciiWords.{word}
use Rattle.http_replies.specs.Replies.{error_json}
use Rattle.http_replies.proofs.reply.Reply.provider_fault.Goals as goal

pub returns : goal.returns
returns c =
    let number : chars c.as_str.result.now ≡ decimal c.args.seat =
    ap chars (c.as_str.ensures.value ∙ c.in_ok-number.ensures.ok)
    ∙ chars-IsAscii (decimal c.args.seat) (IsAscii-decimal c.args.seat (omega arith)) in
    record {
      status_is = refl;
      body_is = c.in_ok-body.ensures ∙ (λ i. error_json (word (codes "ProviderFault") refl i) (number i));
      outcome_is = refl;
    }
