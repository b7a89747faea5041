use Rattle.httparse.specs.Grammar.{HasNoRequest, MayBecomeRequest}
use Rattle.http_heads.proofs.FrontLemmas.{unfinished_of_partial, when_partial}
use Rattle.http_heads.proofs.parse.front.Goals as goal

pub returns-in-Ok-Partial-clause-front : goal.returns-in-Ok-Partial-clause-front
returns-in-Ok-Partial-clause-front c =
    let bytes = c.args.bytes.now in
    let status = c.in-Ok-Partial.field-0 in
    unfinished_of_partial bytes
    (when_partial (HasNoRequest bytes) status c.in-Ok-Partial.field-0-is c.in-Ok-Partial.ensures.partial)
    (when_partial (MayBecomeRequest bytes) status c.in-Ok-Partial.field-0-is c.in-Ok-Partial.ensures.unfinished)
