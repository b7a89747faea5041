use Rattle.std.proofs.Common.{refl, ap, ◌∙◌, map}
use Rattle.std.specs.Str.{chars}
use Rattle.std.proofs.lemmas.Str.{chars-nil}
use Rattle.arm_expr.specs.View.{text_of}
use Rattle.bicep_resolved.specs.View.{piece_of, pieces}
use Rattle.bicep_emission.specs.Texts.{format_text}
use Rattle.emitted_parts.proofs.TextLemmas.{first_turn}
use Rattle.emitted_parts.proofs.texts.format_text.Goals as goal

pub loop-piece-init : goal.loop-piece-init
loop-piece-init c =
    let ps = pieces (map piece_of c.args.pieces.now) in (
      refl,
      first_turn (text_of c.new-out.result) (text_of c.put_doubled.new.out) (chars c.as_str.result.now) ps
          (ap chars c.new-out.ensures.bytes ∙ chars-nil) c.in_ok-put_doubled.ensures
          ∙ ap (λ f. format_text 0 f ps) c.as_str.ensures.characters,
    )
