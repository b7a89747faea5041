use Rattle.std.proofs.Common.{◌∷◌, [], ◌++◌, length, drop, chars, ◌∙◌, ap, sym}
use Rattle.std.proofs.lemmas.Iterator.{YieldsList-from_chars}
use Rattle.std.proofs.lemmas.Iterator.Consumers.{YieldsList-turn, YieldsList-end}
use Rattle.arm_eval.specs.Titles.{number_from}
use Rattle.dependency_titles.proofs.IndexLemmas.{number_turn, number_end}
use Rattle.dependency_titles.proofs.indexed.number_in.Goals as goal

pub loop-c-preserved : goal.loop-c-preserved
loop-c-preserved c =
    let t = YieldsList-turn (YieldsList-from_chars c.args.text.now c.utf8.text cc) c.loop-c.yielded
    _ c.loop-c.yielded_by _ _ c.in-Some.c c.in-Some.is c.next.ensures.steps in
    number_turn (chars c.args.text.now) c.loop-c.yielded c.in-Some.c c.loop-c.number t c.loop-c.invariant
    ∙ ap (λ n. number_from n (drop (length (c.loop-c.yielded ++ c.in-Some.c ∷ [])) (chars c.args.text.now)))
    (sym c.grown-number.ensures)

pub returns : goal.returns
returns c =
    let t = YieldsList-end (YieldsList-from_chars c.args.text.now c.utf8.text cc) c.loop-c.yielded _
    c.loop-c.yielded_by _ _ c.in-None.is c.next.ensures.steps in
    number_end (chars c.args.text.now) c.loop-c.yielded c.loop-c.number t.1 c.loop-c.invariant
