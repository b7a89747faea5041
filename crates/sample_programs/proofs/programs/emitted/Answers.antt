use Rattle.sample_programs.proofs.programs.emitted.Goals as goal

pub bytes_of-bytes-requires : goal.bytes_of-bytes-requires
bytes_of-bytes-requires c = record {
  loaded = c.requires;
  checked = c.in-Ok.ensures.checked;
  none = c.in-Ok.ensures.none;
}
