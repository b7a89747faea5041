-- Ids of texts that may not all be there.
use Rattle.std.proofs.Common.{◌≡◌, ℕ, List, Option, Some, None, option_map, ap, ◌∙◌}
use Rattle.arm_value.specs.Json.{text}
use Rattle.arm_env.specs.Reading.{done, continued}
use Rattle.arm_env.specs.Knowledge.{Known, told, and_then}
use Rattle.arm_env.specs.Look.{Look, Fact}
use Rattle.arm_env.specs.Held.{held_value}
use Rattle.arm_env.proofs.Answers.{told-done, told-continued, told-plain, goes}
use Rattle.expression_values.specs.Args.{id_told}

-- the id of these texts
pub id_is : (p : Look → Known Fact) (id : List (List ℕ) → Option (List ℕ)) (o : Option (List (List ℕ)))
    → told p (continued (done o) (λ ts. held_value (done (option_map text (id ts))))) ≡ id_told id o
id_is p id (Some ts) =
    goes p (done (Some ts)) (λ ts. held_value (done (option_map text (id ts)))) ts (told-done p (Some ts))
    ∙ told-plain p (option_map text (id ts))
id_is p id None =
    told-continued p (done None) (λ ts. held_value (done (option_map text (id ts))))
    ∙ ap (λ t. and_then t (λ ts. told p (held_value (done (option_map text (id ts)))))) (told-done p None)
