use Rattle.std.proofs.Common.{Some, ap}
use Rattle.arm_value.specs.Json.{text}
use Rattle.function_prints.proofs.RejoinLemmas.{recombined}
use Rattle.function_prints.proofs.laws.split_and_join_recombine.Goals as goal

pub returns : goal.returns
returns c s delimiter js e = ap (λ t. Some (text t)) (recombined s delimiter js e)
