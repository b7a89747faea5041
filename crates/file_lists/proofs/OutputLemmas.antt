-- The outputs with their metadata.
use Rattle.std.proofs.Common.{◌≡◌, ℕ, List, Option, Some, None, Result, Ok, Err, ap, subst}
use Rattle.std.specs.Prelude.{IfOk, option_and_then, option_map}
use Rattle.std.specs.declared.alloc.AllocError.{AllocError}
use Rattle.arm_value.specs.declared.value.Value.{Value}
use Rattle.template_parts.specs.declared.output.Output.{Output}
use Rattle.bicep_declared.specs.Declarations.{OutputTree}
use Rattle.emitted_values.specs.Files.{IsOutput}
use Rattle.emitted_values.specs.Metadata.{metadata_at}
use Rattle.emitted_values.specs.Seen.{Shape, file_in, files_in}
use Rattle.emitted_values.specs.Values.{AreBoth}
use Rattle.named_parts.specs.Found.{found}
use Rattle.file_lists.specs.Found.{sought}
use Rattle.file_lists.specs.Lists.{output_text, output_name, output_at, noted_at, IsNoted, AreOutputs, HaveMetadata}

module _ (s : Shape) where
  -- an output that is made has the metadata that it was given
  pub is_noted : (o : OutputTree) (m : Option Value) (r : Result Output AllocError)
      → IfOk r (IsOutput (files_in s) (file_in s) o) → IfOk r (λ q. q.metadata ≡ m) → IfOk r (IsNoted s (o, m))
  is_noted o m (Ok q) h e = record { output = h; metadata = e }
  is_noted o m (Err x) h e = tt

  module _ (ms : List (Option Value)) (os : List Output)
      (all : (x : List ℕ)
      → AreBoth (IsNoted s) (option_and_then (noted_at s ms) (sought output_text (file_in s).outputs x))
      (found output_name x os)) where
    output_by : (o : Option OutputTree) (m : Option Value) (q : Option Output)
        → AreBoth (IsNoted s) (option_map (λ o. (o, m)) o) q → AreBoth (IsOutput (files_in s) (file_in s)) o q
    output_by None m None h = tt
    output_by None m (Some q) h = absurd h
    output_by (Some o) m None h = absurd h
    output_by (Some o) m (Some q) h = h.output

    output_at_place : (o : Option ℕ) (q : Option Output) → AreBoth (IsNoted s) (option_and_then (noted_at s ms) o) q
        → AreBoth (IsOutput (files_in s) (file_in s)) (option_and_then (output_at s) o) q
    output_at_place None None h = tt
    output_at_place None (Some q) h = absurd h
    output_at_place (Some n) q h = output_by (output_at s n) (metadata_at ms n) q h

    pub are_outputs : AreOutputs s os
    are_outputs x = output_at_place (sought output_text (file_in s).outputs x) (found output_name x os) (all x)

    metadata_by : (o : Option OutputTree) (m : Option Value) (q : Output)
        → AreBoth (IsNoted s) (option_map (λ o. (o, m)) o) (Some q) → q.metadata ≡ m
    metadata_by None m q h = absurd h
    metadata_by (Some o) m q h = h.metadata

    pub have_metadata : HaveMetadata s ms os
    have_metadata x n q e f =
        metadata_by (output_at s n) (metadata_at ms n) q
        (subst (AreBoth (IsNoted s) (noted_at s ms n)) f
        (subst (λ o. AreBoth (IsNoted s) (option_and_then (noted_at s ms) o) (found output_name x os)) e (all x)))

  -- past the last declaration there is nothing
  pub none_noted : (ms : List (Option Value)) (n : ℕ) → output_at s n ≡ None → noted_at s ms n ≡ None
  none_noted ms n e = ap (option_map (λ o. (o, metadata_at ms n))) e

  pub noted_is : (ms : List (Option Value)) (n : ℕ) (o : OutputTree) → output_at s n ≡ Some o
      → noted_at s ms n ≡ Some (o, metadata_at ms n)
  noted_is ms n o e = ap (option_map (λ o. (o, metadata_at ms n))) e
