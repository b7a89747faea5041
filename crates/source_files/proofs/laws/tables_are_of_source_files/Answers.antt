use Rattle.std.proofs.Common.{refl}
use Rattle.source_files.proofs.laws.tables_are_of_source_files.Goals as goal

pub returns : goal.returns
returns c = λ z t r marks own batches.
    record {
      agree = record { symbols = refl; declared = refl; has_entry = own.entries };
      outputs = refl;
      batches = batches;
    }
