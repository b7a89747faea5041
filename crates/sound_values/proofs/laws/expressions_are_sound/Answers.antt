use Rattle.bicep_misplaced.specs.declared.spot.Spot.TheVariants as spot
use Rattle.emitted_trees.specs.Sound.{allowed}
use Rattle.sound_values.proofs.SoundLemmas.{good}
use Rattle.sound_values.proofs.laws.expressions_are_sound.Goals as goal

pub returns : goal.returns
returns c = record {
  outside =
      λ sc e ls x b r h few.
      let g = good sc spot.Outside tt e ls x b r h few in
      (g.emittable, g.sound allowed);
  inside =
      λ sc e ls x b r h few.
      let g = good sc spot.Inside tt e ls x b r h few in
      (g.emittable, g.sound allowed);
}
