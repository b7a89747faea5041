-- What a reply says.
use Rattle.std.specs.Prelude.{◌≡◌, ℕ, List, [], ◌∷◌, codes}
use Rattle.arm_value.specs.Json.{Json, text, object, pairs}
use Rattle.arm_value.specs.View.{json}
use Rattle.http_replies.specs.declared.reply.Reply.{Reply}
use Rattle.http_replies.specs.declared.outcome.Outcome.{Outcome}

-- {"error":{"code":code,"message":message}}
abbrev pub error_json : List ℕ → List ℕ → Json
error_json code message =
    object (pairs ((
      codes "error",
      object (pairs ((codes "code", text code) ∷ (codes "message", text message) ∷ [])),
    ) ∷ []))

-- the reply has this status, this body and this outcome
pub record Answers (reply : Reply) (status : ℕ) (body : Json) (outcome : Outcome) : Type 0 where
  pub status_is : reply.status ≡ status
  pub body_is : json reply.body ≡ body
  pub outcome_is : reply.outcome ≡ outcome
