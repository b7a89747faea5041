use Rattle.std.proofs.Common.{sym, encode_utf8_all}
use Rattle.arm_value.specs.Reading.{reading}
use Rattle.function_prints.proofs.StatedLemmas.{stated_tree}
use Rattle.function_prints.proofs.laws.json_is_what_bytes_give.Goals as goal

pub returns : goal.returns
returns c s j g = sym (stated_tree (reading (encode_utf8_all s)) j g)
