use Rattle.std.proofs.Common.{map, [], refl, ap, ◌∙◌, arith}
use Rattle.bicep_lexer.specs.Reading.{standing}
use Rattle.bicep_lexer.specs.Grammar.{mark_length}
use Rattle.bicep_lexer.specs.Reader.Steps.{reading}
use Rattle.bicep_lexer.proofs.Steps.{whole-start, whole_same}
use Rattle.bicep_lexer.proofs.lexer.read.Goals as goal

pub loop-lexer-init : goal.loop-lexer-init
loop-lexer-init c =
    let text = c.args.text.now in
    let at = c.mark_length-at.result in
    record {
      same = whole_same text text at at c.new.result.items [] _ (map standing c.new-2.result.items) [] (reading text)
          refl refl c.new.ensures.items (ap (map standing) c.new-2.ensures.items)
          (whole-start text at (c.mark_length-at.ensures.value ∙ ap mark_length c.as_bytes.ensures.value)
          (omega arith));
      source = refl;
      within = omega arith;
    }
