use Rattle.std.proofs.Common.{◌≡◌, ℕ, false, List, Some, None, subst}
use Rattle.std.specs.Prelude.{MatchOption, bytes_eq}
use Rattle.arm_eval.specs.Titles.{number_from}
use Rattle.plan_faults.specs.Dependencies.{is_indexed}
use Rattle.dependency_titles.proofs.TitleLemmas.{indexed_nowhere}
use Rattle.dependency_titles.proofs.looking.is_any_indexed.Goals as goal

pub returns-in-None : goal.returns-in-None
returns-in-None c =
    indexed_nowhere c.args.text.now c.args.names.now
    (subst (λ o. MatchOption o
    ((x : List ℕ) → is_indexed c.args.text.now (number_from None c.args.text.now) (Some x) ≡ false)
    (λ b. (x : List ℕ) → is_indexed c.args.text.now (number_from None c.args.text.now) (Some x) ≡ bytes_eq b x))
    c.in-None.is c.in_ok-base.ensures)
