use Rattle.source_worlds.proofs.NumberLemmas.{there, back, has_number, one_to_one}
use Rattle.source_worlds.proofs.laws.symbols_have_numbers.Goals as goal

pub returns : goal.returns
returns c = record {
  one_to_one = λ z f n m. ((λ h. there z f n m h), λ h. back z f m n h);
  each = λ z f n h. has_number f n h z;
  of_all_instances = λ z files. one_to_one z files;
}
