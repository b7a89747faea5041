use Rattle.std.proofs.Common.{◌≡◌, drop}
use Rattle.arm_env.specs.Known.{module_with}
use Rattle.arm_env.proofs.listed.find_module.Given as goal

abbrev pub invariant-loop-module : goal.invariant-loop-module
invariant-loop-module l = module_with l.key (drop l.module-index l.modules)
    ≡ module_with l.key l.modules
