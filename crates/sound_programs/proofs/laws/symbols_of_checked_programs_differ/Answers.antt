use Rattle.sound_programs.proofs.SymbolLemmas.{program_symbols}
use Rattle.sound_programs.proofs.laws.symbols_of_checked_programs_differ.Goals as goal

pub returns : goal.returns
returns c = program_symbols
