-- A source spells tokens exactly where it is read as them.
use Rattle.std.proofs.Common.{◌≡◌, ◌≢◌, ℕ, List, Result, Ok, Err, IfOk, IfErr, map, sym, ◌∙◌}
use Rattle.std.specs.declared.vec.Vec.{Vec}
use Rattle.std.specs.declared.alloc.Global.{Global}
use Rattle.bicep_lexer.specs.declared.fault.LexFault.{LexFault}
use Rattle.bicep_lexer.specs.declared.fault.LexFault.TheVariants.{OutOfMemory}
use Rattle.bicep_lexer.specs.declared.token.Token.{Token}
use Rattle.bicep_lexer.specs.Reading.{Standing, standing}
use Rattle.bicep_lexer.specs.Reader.Steps.{Outcome, reading}
use Rattle.bicep_lexer.specs.Grammar.{Spells, AreSlices, AreSigned}
use Rattle.bicep_lexer.specs.Faults.{Refuses}
use Rattle.bicep_lexer.proofs.Complete.{complete, refuses, slices}
use Rattle.bicep_lexer.proofs.Sound.{sound, sound_fault}
use Rattle.bicep_lexer.proofs.SignedTokens.{texts_signed}

-- what `tokens` answers
abbrev pub Answer : Type 0
Answer = Result (Vec Token Global) LexFault

same_tokens : (ts us : List Standing) (o : Outcome) → o ≡ Ok ts → o ≡ Ok us → us ≡ ts
same_tokens ts us (Ok vs) h i = let first : vs ≡ ts = cc in let second : vs ≡ us = cc in sym second ∙ first
same_tokens ts us (Err f) h i = absurd cc

same_fault : (f g : LexFault) (o : Outcome) → o ≡ Err f → o ≡ Err g → g ≡ f
same_fault f g (Ok vs) h i = absurd cc
same_fault f g (Err e) h i = let first : e ≡ f = cc in let second : e ≡ g = cc in sym second ∙ first

never_both : (ts : List Standing) (f : LexFault) (o : Outcome) → o ≡ Err f → o ≡ Ok ts → ⊥
never_both ts f (Ok vs) h i = cc
never_both ts f (Err g) h i = cc

-- that a call answers the tokens, and the fault, of its source's reading
abbrev pub GivesTokens : List ℕ → Answer → Type 0
GivesTokens source r = IfOk r (λ found. reading source ≡ Ok (map standing found.items))

abbrev pub GivesFault : List ℕ → Answer → Type 0
GivesFault source r = IfErr r (λ f. f ≢ OutOfMemory → reading source ≡ Err f)

pub spelled : (source : List ℕ) (r : Answer) → GivesTokens source r
    → IfOk r (λ found. Spells source (map standing found.items))
spelled source (Ok found) h = sound source (map standing found.items) h
spelled source (Err f) h = h

pub alone : (source : List ℕ) (r : Answer) → GivesTokens source r
    → IfOk r (λ found. (others : List Standing) → Spells source others → others ≡ map standing found.items)
alone source (Ok found) h = λ others s. same_tokens (map standing found.items) others (reading source) h
    (complete source others s)
alone source (Err f) h = h

pub faultless : (source : List ℕ) (r : Answer) → GivesTokens source r
    → IfOk r (λ _. (any : LexFault) → ¬ Refuses source any)
faultless source (Ok found) h =
    λ any s. never_both (map standing found.items) any (reading source) (refuses source any s) h
faultless source (Err f) h = h

pub refused : (source : List ℕ) (r : Answer) → GivesFault source r → IfErr r (λ f. f ≢ OutOfMemory → Refuses source f)
refused source (Ok found) h = h
refused source (Err f) h = λ ne. sound_fault source f (h ne)

pub refused_alone : (source : List ℕ) (r : Answer) → GivesFault source r
    → IfErr r (λ f. f ≢ OutOfMemory → (other : LexFault) → Refuses source other → other ≡ f)
refused_alone source (Ok found) h = h
refused_alone source (Err f) h = λ ne other s. same_fault f other (reading source) (h ne) (refuses source other s)

pub unspelled : (source : List ℕ) (r : Answer) → GivesFault source r
    → IfErr r (λ f. f ≢ OutOfMemory → (any : List Standing) → ¬ Spells source any)
unspelled source (Ok found) h = h
unspelled source (Err f) h = λ ne any s. never_both any f (reading source) (h ne) (complete source any s)

pub sliced : (source : List ℕ) (r : Answer) → GivesTokens source r
    → IfOk r (λ found. AreSlices source 0 (map standing found.items))
sliced source (Ok found) h = slices source (map standing found.items) (sound source (map standing found.items) h)
sliced source (Err f) h = h

pub signed : (source : List ℕ) (r : Answer) → GivesTokens source r
    → IfOk r (λ found. AreSigned (map standing found.items))
signed source (Ok found) h =
    texts_signed source (map standing found.items) (sound source (map standing found.items) h)
signed source (Err f) h = h
