use Rattle.std.proofs.Common.{sym, ◌∙◌, refl, inl}
use Rattle.board_dealing.proofs.WakeLemmas.{heard, unheard}
use Rattle.board_dealing.proofs.waking.hear.Goals as goal

pub wake-requires : goal.wake-requires
wake-requires c = c.requires _ (sym c.waker.ensures ∙ c.in-Some.is)

pub returns-in-Some-clause-heard : goal.returns-in-Some-clause-heard
returns-in-Some-clause-heard c =
    heard _ _ c.in-Some.task c.wake.result (sym c.waker.ensures ∙ c.in-Some.is) c.wake.ensures.task
    c.wake.ensures.others

pub returns-in-None-clause-keeps : goal.returns-in-None-clause-keeps
returns-in-None-clause-keeps c =
    record { same = record { kinds = refl; graph = refl }; only = λ u e. inl e; listed = λ u e. e }

pub returns-in-None-clause-heard : goal.returns-in-None-clause-heard
returns-in-None-clause-heard c = unheard _ _ (sym c.waker.ensures ∙ c.in-None.is)
