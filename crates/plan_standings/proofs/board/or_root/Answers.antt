use Rattle.std.proofs.Common.{◌≡◌, ◌∙◌, ℕ, List, codes, refl, sym, subst}
use Rattle.std.specs.Prelude.{IfOk}
use Rattle.std.specs.Str.{chars}
use Rattle.plan_standings.proofs.TitleLemmas.{blank_root}
use Rattle.plan_standings.proofs.board.or_root.Goals as goal

slash : chars (codes "/") ≡ codes "/"
unfolding chars
slash = refl

pub returns-then-is_empty : goal.returns-then-is_empty
returns-then-is_empty c =
    subst (λ (w : List ℕ). IfOk c.of.result (λ t. t ≡ w))
    (slash ∙ sym (blank_root c.args.text (sym c.is_empty.ensures ∙ c.if-is_empty.true))) c.of.ensures
