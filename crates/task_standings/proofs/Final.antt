-- What is known of the outputs of the root is so in each world in which all that is known is so.
use Rattle.std.proofs.Common.{◌≡◌, inl, inr, ℕ, List, [], ◌∷◌, map, Option, Some, None, refl, sym, ap, ◌∙◌}
use Rattle.arm_value.specs.Json.{Json}
use Rattle.arm_value.specs.Look.{fold}
use Rattle.reading.specs.Knowledge.{Known, known, absent, missing, known_value, blanked, Holds, Completes, Grows}
use Rattle.reading.specs.Knowledge.{Stays, IsThere}
use Rattle.template_parts.specs.declared.output.Output.{Output}
use Rattle.deploy_cells.specs.Cells.{World, output}
use Rattle.board_history.specs.Children.{Has, output_names}
use Rattle.board_history.specs.Known.{Table}
use Rattle.board_history.specs.Resources.{header_in}
use Rattle.board_history.specs.Events.{Progress}
use Rattle.board_history.specs.Planned.{Planned}
use Rattle.board_history.specs.Points.{IsKnownThen, IsTableOf}
use Rattle.board_history.proofs.ReadinessLemmas.{table_grows}
use Rattle.task_standings.specs.Outputs.{with_value, with_values, outputs_in, value_of, AreOutputs}
use Rattle.task_standings.specs.declared.standing.RootOutput.{RootOutput}
use Rattle.task_standings.proofs.Agreement.{more_completes}

so_there : (e : Known Json) (o : Option Json) → IsThere e → Holds o e → known_value e ≡ o
so_there (known v) o t h = sym h
so_there absent o t h = sym h
so_there missing o t h = absurd t

-- outputs with the same values
same_values : (f g : List ℕ → Option Json) (os : List Output)
    → ((n : List ℕ) → Has n (map (λ (o : Output). fold o.name) os) → f n ≡ g n) → with_values f os ≡ with_values g os
same_values f g [] h = refl
same_values f g (o ∷ os) h =
    ap (λ (v : Option Json). with_value o v (with_values f os)) (h (fold o.name) (inl refl))
    ∙ ap (λ (vs : List _). with_value o (g (fold o.name)) vs) (same_values f g os (λ n i. h n (inr i)))

pub outputs_are_so : (x : Planned) (t : Table) (os : List RootOutput) → AreOutputs x t os → (w : World)
    → Completes t w → map value_of os ≡ outputs_in x w
outputs_are_so x t os a w c =
    a.are ∙ same_values (λ n. blanked t (output [] n)) (λ n. w (output [] n)) (header_in x.deployment.template).outputs
    (λ n h. so_there (t (output [] n)) (w (output [] n)) (a.are_known n h) (c (output [] n)))

still_there : (e f : Known Json) → Stays e f → IsThere e → IsThere f
still_there (known v) (known u) s t = tt
still_there (known v) absent s t = tt
still_there (known v) missing s t = absurd (cc)
still_there absent (known u) s t = tt
still_there absent absent s t = tt
still_there absent missing s t = absurd (cc)
still_there missing f s t = absurd t

outputs_stay : (x : Planned) (s t : Table) → Grows s t → (os : List RootOutput) → AreOutputs x s os → AreOutputs x t os
outputs_stay x s t g os a = record {
  are_known = λ n h. still_there (s (output [] n)) (t (output [] n)) (g (output [] n)) (a.are_known n h);
  are = outputs_are_so x s os a (blanked t) (more_completes s t g);
}

pub outputs_by_all : (x : Planned) (p : Progress) (s t : Table) → IsKnownThen x p s → IsTableOf x p t
    → (os : List RootOutput) → AreOutputs x s os → AreOutputs x t os
outputs_by_all x p s t i j os a = outputs_stay x s t (table_grows x p s t i j) os a
