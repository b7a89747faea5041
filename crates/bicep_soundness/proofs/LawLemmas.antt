-- The laws.
use Rattle.std.proofs.Common.{◌≡◌, ℕ, List}
use Rattle.std.specs.Prelude.{Ok}
use Rattle.deploy_cells.specs.Cells.{World}
use Rattle.bicep_resolved.specs.Source.{SourceTree, ValueTree}
use Rattle.bicep_signatures.specs.declared.value_type.ValueType.{ValueType}
use Rattle.bicep_typing.specs.Names.{Types}
use Rattle.bicep_typing.specs.Typing.{type_of, value_type}
use Rattle.bicep_meaning.specs.Around.{Here, Frame}
use Rattle.bicep_soundness.specs.Entries.{AreCounting}
use Rattle.bicep_soundness.specs.Sound.{IsTypedIn, IsSound, IsValueSound}
use Rattle.bicep_soundness.proofs.SoundLemmas.{sound, sound_value}
use Rattle.bicep_soundness.proofs.SuitedLemmas.{expression_suited, value_suited}
use Rattle.bicep_soundness.proofs.VariableLemmas.{variables_are}

pub is_sound : (ts : Types) (here : Here) (w : World) → IsTypedIn ts here w → (k : ℕ) (e : SourceTree) (fs : List Frame)
    (t : ValueType) → AreCounting w fs → type_of ts e ≡ Ok t → IsSound ts here w k e fs t
is_sound ts here w typed k e fs t h is =
    record {
      typed = λ v x. sound ts here w typed.entries k (variables_are ts here w typed k) e fs t v h is x;
      suited = expression_suited ts here w typed.entries k (variables_are ts here w typed k) e fs t h is;
    }

pub is_value_sound : (ts : Types) (here : Here) (w : World) → IsTypedIn ts here w → (k : ℕ) (x : ValueTree)
    (fs : List Frame) (t : ValueType) → AreCounting w fs → value_type ts x ≡ Ok t → IsValueSound ts here w k x fs t
is_value_sound ts here w typed k x fs t h is =
    record {
      typed = λ v e. sound_value ts here w typed.entries k (variables_are ts here w typed k) x fs t v h is e;
      suited = value_suited ts here w typed.entries k (variables_are ts here w typed k) x fs t h is;
    }
