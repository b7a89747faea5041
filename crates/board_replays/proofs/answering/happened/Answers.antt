use Rattle.std.proofs.Common.{List, length, sym, ap, ◌∙◌}
use Rattle.std.proofs.lemmas.List.{length-map}
use Rattle.deploy_histories.specs.Events.{Event}
use Rattle.board_history.specs.Past.{event_of}
use Rattle.board_replays.proofs.answering.happened.Goals as goal

pub returns : goal.returns
returns c =
    sym (length-map c.events.result.now event_of)
    ∙ ap (λ (h : List Event). length h) c.events.ensures
