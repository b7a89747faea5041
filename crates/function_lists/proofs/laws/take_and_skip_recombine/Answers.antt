use Rattle.std.proofs.Common.{◌≡◌, ℕ, List, ◌++◌, take, drop, ap₂, ◌∙◌}
use Rattle.std.proofs.lemmas.List.{take-append-drop}
use Rattle.arm_value.proofs.SameLemmas.{items-row}
use Rattle.arm_value.specs.Json.{Json, row, items}
use Rattle.function_lists.specs.Ends.{amount}
use Rattle.function_lists.proofs.ValueLemmas.{array_of_is}
use Rattle.function_lists.proofs.laws.take_and_skip_recombine.Goals as goal

pub returns-clause-texts : goal.returns-clause-texts
returns-clause-texts c s front rest n a b =
    let f : front ≡ take (amount n) s = cc in
    let r : rest ≡ drop (amount n) s = cc in
    ap₂ (λ (x y : List ℕ). x ++ y) f r ∙ take-append-drop (amount n) s

pub returns-clause-arrays : goal.returns-clause-arrays
returns-clause-arrays c js front rest n a b =
    let f = array_of_is (take (amount n) (items (row js))) front a in
    let r = array_of_is (drop (amount n) (items (row js))) rest b in
    ap₂ (λ (x y : List Json). x ++ y) f r ∙ take-append-drop (amount n) (items (row js)) ∙ items-row js
