use Rattle.std.proofs.Common.{◌≡◌, ◌∙◌, sym, ap, nat_le, false, arith}
use Rattle.std.proofs.lemmas.Bool.Decides.{nat_tests}
use Rattle.bicep_lexer.specs.Texts.{quotes}
use Rattle.bicep_lexer.proofs.Scans.{verbatim_step, tail_is}
use Rattle.bicep_lexer.proofs.texts.verbatim_length.Goals as goal

pub loop-at-preserved : goal.loop-at-preserved
loop-at-preserved c =
    let few : nat_le 3 c.quotes-count.result ≡ false = grind (arith, nat_tests, c.if-count-ge3.false) in
    sym (verbatim_step c.args.bytes.now c.loop-at.at c.loop-at-test.true
    (ap (λ xs. nat_le 3 (quotes 5 xs)) (sym (tail_is c.args.bytes.now c.loop-at.at))
    ∙ sym (ap (nat_le 3) c.quotes-count.ensures.value) ∙ few)) ∙ c.loop-at.invariant
