use Rattle.source_worlds.proofs.DeclaredLemmas.{undeclared}
use Rattle.source_worlds.proofs.laws.nothing_else_is_declared.Goals as goal

pub returns : goal.returns
returns c = λ z d w x e a. undeclared z d w x e a
