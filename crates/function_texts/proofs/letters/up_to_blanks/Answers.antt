use Rattle.std.proofs.Common.{◌∙◌, sym, arith}
use Rattle.function_texts.proofs.LetterLemmas.{blank_end, kept_end, nothing_left, all_taken}
use Rattle.function_texts.proofs.letters.up_to_blanks.Goals as goal

pub back-init : goal.back-init
back-init c = record { kept = all_taken c.args.characters.now; within = omega arith }

pub back-preserved : goal.back-preserved
back-preserved c = record {
  kept = blank_end c.args.characters.now c.back.end c.index-characters-end.result _ c.back-test.true
      c.back.invariant.within c.index-characters-end.is (sym c.is_blank.ensures ∙ c.if-is_blank.true)
      c.back.invariant.kept;
  within = omega arith;
}

pub returns-else-is_blank : goal.returns-else-is_blank
returns-else-is_blank c = kept_end c.args.characters.now c.back.end c.index-characters-end.result _ c.back-test.true
    c.back.invariant.within c.index-characters-end.is (sym c.is_blank.ensures ∙ c.if-is_blank.false)
    c.back.invariant.kept

pub returns : goal.returns
returns c = nothing_left c.args.characters.now c.back.end _ c.back-test.false c.back.invariant.kept
