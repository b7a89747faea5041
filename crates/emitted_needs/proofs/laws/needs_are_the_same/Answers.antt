use Rattle.emitted_needs.proofs.NeedLemmas.{needs_forth, needs_back}
use Rattle.emitted_needs.proofs.laws.needs_are_the_same.Goals as goal

pub returns : goal.returns
returns c = λ z d u bound held h symbols w s x y a b e f k l answer g. (
  λ n. needs_forth z d u bound held h w s symbols x y a b e f k l answer g n,
  λ n. needs_back z d u bound held h w s symbols x y a b e f k l n,
)
