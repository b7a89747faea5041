-- Bytes that spell no JSON value.
use Rattle.std.proofs.Common.{◌≡◌, ◌<◌, ◌≤◌, ℕ, List, Option, Some, None, sym, ◌∙◌, subst, arith}
use Rattle.std.specs.Prelude.{IsSomeAnd}
use Rattle.serde_json.specs.Data.{Data, depth}
use Rattle.arm_value.specs.Fault.{Explains, Gives}
use Rattle.arm_value.specs.Json.{Json}
use Rattle.arm_value.specs.Reading.{data_of, not_whole}
use Rattle.arm_value.specs.declared.read.JsonFault.TheVariants.{NotJson, NotWhole, TooDeep, OutOfMemory as NoMemory}
use Rattle.arm_value.specs.declared.read.JsonFault.{JsonFault}
use Rattle.http_requests.specs.Bodies.{fault_of}
use Rattle.http_requests.specs.declared.fault.BodyFault.{BodyFault}
use Rattle.http_requests.specs.declared.fault.BodyFault.TheVariants.{BadBody}

some_and : (o : Option Data) (d : Data) (P : Data → Type 0) → o ≡ Some d → IsSomeAnd o P → P d
some_and o d P e h = let Q : Option Data → Type 0 = λ p. IsSomeAnd p P in subst Q e h

not_json : (read : Option Data) → Explains read NotJson → (j : Json) → Gives read j → ⊥
not_json read e j g = let both : None ≡ Some (data_of j) = sym e ∙ g.0 in cc

too_deep : (read : Option Data) → Explains read TooDeep → (j : Json) → Gives read j → ⊥
too_deep read e j g =
    let deep : 120 < depth (data_of j) = some_and read (data_of j) (λ d. 120 < depth d) g.0 e in
    omega (arith, g.1, deep)

no_whole : (read : Option Data) (path : List ℕ) → Explains read (NotWhole path) → (j : Json) → Gives read j → ⊥
no_whole read path e j g =
    let both = some_and read (data_of j) (λ d. (depth d ≤ 120) × (not_whole d ≡ Some path)) g.0 e in
    let same : None ≡ Some path = sym g.2 ∙ both.1 in cc

-- bytes that are no body spell no JSON value
pub no_json : (read : Option Data) (e : JsonFault) (f : BodyFault) → Explains read e → f ≡ fault_of e → f ≡ BadBody
    → (j : Json) → Gives read j → ⊥
no_json read NotJson f h e bad j g = not_json read h j g
no_json read TooDeep f h e bad j g = too_deep read h j g
no_json read (NotWhole path) f h e bad j g = no_whole read path h j g
no_json read NoMemory f h e bad j g = cc
