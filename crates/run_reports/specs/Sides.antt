-- What the providers of seats have counted and reported at a moment.
use Rattle.std.specs.Prelude.{ℕ, Bool, List, map}
use Rattle.provider_trait.specs.declared.call.Call.{Call}
use Rattle.seat_calls.specs.Called.{Kind}
use Rattle.seat_calls.specs.Dones.{Made}
use Rattle.seat_calls.specs.declared.done.Done.{Done}
use Rattle.seat_calls.specs.declared.seat.Seat.{Seat}

-- how often calls of a provider have failed, and the calls that it reports, oldest first
pub record ProviderSide : Type 0 where
  pub faults : ℕ
  pub calls : List Call

abbrev pub side : {P : Type 0} → (P → ℕ) → (P → List Call) → Seat P → Seat ProviderSide
side faults calls s = record {
  provider = record { faults = faults s.provider; calls = calls s.provider };
  job = s.job;
  got = s.got;
}

-- the seats by what their providers have counted and reported
abbrev pub sides : {P : Type 0} → (P → ℕ) → (P → List Call) → List (Seat P) → List (Seat ProviderSide)
sides faults calls ss = map (side faults calls) ss

-- a provider of this kind has made these calls, and was this before them and that after them
abbrev pub MadeCalls : Kind → Bool → ProviderSide → ProviderSide → List Done → Type 0
MadeCalls may tells before now dones = Made may tells (λ p. p.calls) (λ p. p.faults) before now dones
