use Rattle.sound_files.proofs.FileLemmas.{order_of}
use Rattle.sound_files.proofs.laws.orders_are_of_files.Goals as goal

pub returns : goal.returns
returns c = order_of
