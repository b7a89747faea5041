use Rattle.std.proofs.Common.{Some, ap, ◌∙◌}
use Rattle.std.proofs.lemmas.Str.{chars-nil}
use Rattle.http_requests.specs.Bodies.{notes_by}
use Rattle.http_requests.proofs.body.notes_in.Goals as goal

pub returns-in_ok-of-in-None : goal.returns-in_ok-of-in-None
returns-in_ok-of-in-None c =
    ap Some (c.in_ok-of-in-None.ensures ∙ chars-nil) ∙ ap notes_by c.in-None.ensures
