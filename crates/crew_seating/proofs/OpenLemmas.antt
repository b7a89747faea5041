-- Channels are opened one after another.
use Rattle.std.proofs.Common.{arith, ◌≡◌, ◌<◌, ◌+◌, ⊎_elim, eqb, ◌≢◌, true, false, ℕ, zero, suc, List, [], ◌∷◌, ◌++◌}
use Rattle.std.proofs.Common.{refl, sym, ap, ◌∙◌, subst, get_or}
use Rattle.std.proofs.lemmas.Bool.Decides.{eqb_tells}
use Rattle.crew_channels.specs.Rings.{DoneRing}
use Rattle.crew_workers.specs.declared.channel.SeatChannel.{SeatChannel}
use Rattle.crew_seating.specs.Opened.{IsOpenSeat, AreOpen}
use Rattle.crew_seating.specs.declared.ends.SeatPasses.{SeatPasses}
use Rattle.foundation.proofs.Lists.{get_new, get_old, length_more}

-- no seat has its channel yet
pub open_none : (to : DoneRing) → AreOpen to 0 [] []
open_none to = record {
  channels_len = refl;
  passes_len = refl;
  each = λ k e p low. absurd (omega arith);
}

-- one more seat has its channel
pub open_more : (to : DoneRing) (n : ℕ) (cs : List SeatChannel) (ps : List SeatPasses) (c : SeatChannel)
    (p : SeatPasses)
    → AreOpen to n cs ps → IsOpenSeat to n c p → AreOpen to (n + 1) (cs ++ c ∷ []) (ps ++ p ∷ [])
open_more to n cs ps c p was new = record {
  channels_len = length_more cs c ∙ ap (λ x. x + 1) was.channels_len;
  passes_len = length_more ps p ∙ ap (λ x. x + 1) was.passes_len;
  each = λ k e q low. ⊎_elim
      (λ (x : (eqb k n ≡ true) × (k ≡ n)).
      subst (λ (y : ℕ × SeatChannel × SeatPasses). IsOpenSeat to y.0 y.1 y.2)
      (λ i. (
        sym x.1 i,
        (sym (get_new cs c e) ∙ ap (λ m. get_or (cs ++ c ∷ []) m e) (was.channels_len ∙ sym x.1)) i,
        (sym (get_new ps p q) ∙ ap (λ m. get_or (ps ++ p ∷ []) m q) (was.passes_len ∙ sym x.1)) i,
      )) new)
      (λ (x : (eqb k n ≡ false) × (k ≢ n)).
      let below : k < n = apart k n low x.1 in
      subst (λ (y : SeatChannel × SeatPasses). IsOpenSeat to k y.0 y.1)
      (λ i. (
        sym (get_old cs c k e (subst (λ m. k < m) (sym was.channels_len) below)) i,
        sym (get_old ps p k q (subst (λ m. k < m) (sym was.passes_len) below)) i,
      )) (was.each k e q below))
      (eqb_tells k n);
}
  where
    apart : (k n : ℕ) → k < n + 1 → k ≢ n → k < n
    apart zero zero h x = absurd (x refl)
    apart zero (suc n) h x = omega arith
    apart (suc k) zero h x = absurd (omega arith)
    apart (suc k) (suc n) h x = let r = apart k n (omega arith) (λ e. x (ap suc e)) in omega arith
