use Rattle.command_words.proofs.GivenLemmas.{what_is_read, what_is_given}
use Rattle.command_words.proofs.laws.words_are_read_in_any_order.Goals as goal

pub returns : goal.returns
returns c = λ ws x. (what_is_read ws x, what_is_given ws x)
