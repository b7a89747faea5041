use Rattle.std.proofs.Common.{false, map, None, sym, subst}
use Rattle.std.proofs.lemmas.List.{drop_more}
use Rattle.bicep_lexer.specs.Reading.{standing}
use Rattle.bicep_machine.specs.Stack.{between}
use Rattle.bicep_parser.specs.declared.fault.ParseFault.TheVariants as fault
use Rattle.bicep_parser.specs.Refused.{TellsPlace}
use Rattle.bicep_parser.proofs.Progress.{Noted, begins_noted, reads_token, leads_to, noted_so, breaks_token}
use Rattle.bicep_parser.proofs.Progress.{breaks_at_end, deep_at_end}
use Rattle.bicep_parser.proofs.parsing.read.Goals as goal

pub loop-token-init : goal.loop-token-init
loop-token-init c =
    let ts = map standing c.args.tokens.now in
    subst (λ S. Noted ts ts between false S None) (sym c.in-Ok.ensures) (begins_noted ts)

pub returns-in-Err-step-clause-place : goal.returns-in-Err-step-clause-place
returns-in-Err-step-clause-place c =
    rw c.stopped-in-Err-step.ensures
    (subst (TellsPlace (map standing c.args.tokens.now)) (sym c.fault_at.ensures)
    (breaks_token c.args.tokens.now c.loop-token.token-index _ _ _ _ _ c.in-Err-step.stop
    (drop_more c.args.tokens.now c.loop-token.token-index _ c.loop-token-test.true) c.in-Ok-terminal_of.ensures
    c.loop-token.invariant.0 c.in-Err-step.ensures))

pub loop-token-preserved : goal.loop-token-preserved
loop-token-preserved c =
    let xs = c.args.tokens.now in
    let n = c.loop-token.token-index in
    reads_token xs n _ _ _ _ _ _ c.loop-token.deep c.noted-deep.result (drop_more xs n _ c.loop-token-test.true)
    c.in-Ok-terminal_of.ensures c.loop-token.invariant
    (leads_to _ _ _ c.step.new.stack.items c.next.view_is c.in-Ok-step.ensures)
    (noted_so _ _ _ _ _ _ c.as_slice.ensures.value c.noted-deep.ensures)

pub returns-in-Err-finish-clause-place : goal.returns-in-Err-finish-clause-place
returns-in-Err-finish-clause-place c =
    rw c.stopped-in-Err-finish.ensures
    (subst (TellsPlace (map standing c.args.tokens.now)) (sym c.fault_at-in-Err-finish.ensures)
    (breaks_at_end c.args.tokens.now c.loop-token.token-index _ _ _ c.in-Err-finish.stop _ c.loop-token-test.false
    c.loop-token.invariant.0 c.end_of-end.ensures))

pub returns-in-Ok-finish-clause-deep : goal.returns-in-Ok-finish-clause-deep
returns-in-Ok-finish-clause-deep c =
    subst (λ at. TellsPlace (map standing c.args.tokens.now) (fault.TooDeep at)) (sym c.unwrap_or.ensures)
    (deep_at_end c.args.tokens.now c.loop-token.token-index _ _ _ c.loop-token.deep c.end_of-end.result
    c.loop-token-test.false c.loop-token.invariant c.end_of-end.ensures)
