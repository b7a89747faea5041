use Rattle.std.proofs.Common.{subst, ap, ◌∙◌, List, ℕ}
use Rattle.arm_expr.specs.Brackets.{is_bracketed}
use Rattle.template_texts.specs.Texts.{spelling, IsSpelling}
use Rattle.template_texts.proofs.SpellingLemmas.{read_is}
use Rattle.template_texts.proofs.text.spelling.Goals as goal

pub returns : goal.returns
returns c =
    subst (λ (t : List ℕ). IsSpelling (spelling t) c.read.result) c.as_str.ensures.characters
    (read_is _ (ap is_bracketed c.as_str.ensures.characters ∙ c.requires) c.read.result c.read.ensures.answer)
