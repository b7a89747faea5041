use Rattle.sample_programs.proofs.programs.bytes_of.Goals as goal

pub build_bytes-bytes-requires : goal.build_bytes-bytes-requires
build_bytes-bytes-requires c = record {
  keeps = c.in-Ok.ensures.emitted.keeps;
  nests = c.in-Ok.ensures.emitted.nests;
}
