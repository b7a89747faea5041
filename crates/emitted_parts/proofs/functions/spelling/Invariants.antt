use Rattle.std.proofs.Common.{◌≡◌, map, drop}
use Rattle.std.specs.Str.{chars}
use Rattle.bicep_emission.specs.Spelled.{spelling_in}
use Rattle.emitted_parts.proofs.functions.spelling.Given as goal

-- the rest decides
abbrev pub invariant-loop-word : goal.invariant-loop-word
invariant-loop-word l =
    spelling_in (chars l.name) (map (λ n. chars n.now) l.words)
    ≡ spelling_in (chars l.name) (map (λ n. chars n.now) (drop l.word-index l.words))
