-- Recorded answers, and the history of a board that goes on after them.
use Rattle.std.specs.Prelude.{◌≡◌, ℕ, List, [], ◌∷◌, ◌++◌, Option, Some, None}
use Rattle.arm_value.specs.View.{json}
use Rattle.deploy_histories.specs.Planned.{Planned}
use Rattle.deploy_histories.specs.Events.{Event, crash, at_opening}
use Rattle.deploy_histories.specs.Legal.{IsLegal}
use Rattle.deploy_histories.specs.Answers as history
use Rattle.deploy_histories.specs.Answers.{IsReplay, StopsFollowing}
use Rattle.board_replays.specs.declared.noted.Noted.{Noted}
use Rattle.board_replays.specs.declared.noted.BoardFault.{BoardFault}
use Rattle.board_replays.specs.declared.noted.BoardFault.TheVariants.{BadAnswer, OutOfMemory}

-- a recorded answer, as histories have it
abbrev pub noted_of : Noted → history.Noted
noted_of n = record { task = n.task; worker = n.worker; body = json n.body; answer = n.answer }

-- without answers nothing has happened; else the history is replayed from them, and then there was a crash
abbrev pub IsReopened : Planned → List history.Noted → List Event → Type 0
IsReopened x [] h = h ≡ []
IsReopened x (n ∷ ns) h =
    (r : List Event) × (IsReplay x at_opening (n ∷ ns) r × (IsLegal x r × (h ≡ r ++ crash ∷ [])))

-- what is wrong with the answers: up to this one they follow, and with it they do not
abbrev pub IsBoardFault : Planned → List history.Noted → BoardFault → Type 0
IsBoardFault x ns (BadAnswer i) = StopsFollowing x ns i
IsBoardFault x ns OutOfMemory = Unit {0}

-- memory is out
abbrev pub IsOut : BoardFault → Type 0
IsOut (BadAnswer i) = ⊥
IsOut OutOfMemory = Unit {0}

-- the history is replayed from the answers; or this many of them follow, and not one more
abbrev pub IsReplayed : Planned → List history.Noted → List Event → Option ℕ → Type 0
IsReplayed x ns h None = IsReplay x at_opening ns h
IsReplayed x ns h (Some i) = StopsFollowing x ns i
