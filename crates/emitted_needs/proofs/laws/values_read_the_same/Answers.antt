use Rattle.emitted_needs.proofs.ValueLemmas.{reads_forth, reads_back}
use Rattle.emitted_needs.proofs.laws.values_read_the_same.Goals as goal

pub returns : goal.returns
returns c = λ z d u bound held h w s x y a b e f k l. (
  λ g. reads_forth z d u bound held h w s y b f l x a e k g,
  λ g. reads_back z d u bound held h w s y b f l x a e k g,
)
