use Rattle.std.proofs.Common.{◌≡◌, ◌∷◌, ◌++◌, ◌+◌, [], List, ℕ, map, drop, option_map, sym, ap, ◌∙◌}
use Rattle.std.proofs.Common.{subst}
use Rattle.arm_value.specs.View.{json}
use Rattle.expression_values.proofs.strict.texts_in.Goals as goal
use Rattle.arm_functions.specs.Cuts.{texts_in}
use Rattle.arm_functions.proofs.CallLemmas.{text_ends, text_fails, text_more}

pub returns-in-None : goal.returns-in-None
returns-in-None c =
    text_fails c.args.args.now c.loop-arg.arg-index c.arg-item.result c.loop-arg.texts _
    c.loop-arg-test.true c.arg-item.is c.in-None.ensures c.loop-arg.invariant

pub loop-arg-preserved : goal.loop-arg-preserved
loop-arg-preserved c =
    let e : c.push.new.self ≡ c.loop-arg.texts ++ c.in-Some.text.now ∷ [] =
    c.in_ok-push-in-Some.ensures
    ∙ ap (λ t. c.loop-arg.texts ++ t ∷ []) c.in_ok-copy-in-Some.ensures in
    subst (λ (d : List (List ℕ)). option_map (λ ts. d ++ ts)
    (texts_in (map json (drop (c.loop-arg.arg-index + 1) c.args.args.now)))
    ≡ texts_in (map json c.args.args.now)) (sym e)
    (text_more c.args.args.now c.loop-arg.arg-index c.arg-item.result c.loop-arg.texts
    c.in-Some.text.now _ c.loop-arg-test.true c.arg-item.is c.in-Some.ensures
    c.loop-arg.invariant)

pub returns : goal.returns
returns c = text_ends c.args.args.now c.loop-arg.arg-index c.loop-arg.texts _ c.loop-arg-test.false
    c.loop-arg.invariant
