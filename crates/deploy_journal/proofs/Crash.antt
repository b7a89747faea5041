-- What a crash leaves in each step of an append.
use Rattle.std.proofs.Common.{◌≡◌, inl, ℕ, ◌+◌, List, [], ◌∷◌, ◌++◌, length, take, sym, ◌∙◌, ap, subst, arith}
use Rattle.arm_edges.specs.Disk.{Parts, At, Torn, GoesOn, Unchanged, IsKept}
use Rattle.arm_edges.specs.declared.disk.Part.TheVariants.{A}
use Rattle.deploy_journal.specs.Records.{KeepsFront, Since, Holds, IsOneOf, Record, body, spelled}
use Rattle.deploy_journal.proofs.Moments.{since_first, since_then}
use Rattle.deploy_journal.proofs.Lists.{kept_front, holds_within, torn_gate, front_of}

module _ {D : Type 0} (moment : D → ℕ) (left : D → ℕ → Parts → Type 0) (reads : D → Parts) where
  pub body_since : (old new : D) (records : List Record) (at : ℕ) (r : Record)
      → IsKept A (reads old) (left old (moment old)) → Holds records at (reads old).a
      → GoesOn moment left (KeepsFront (at + 1)) old new → Since moment left old new (λ c. IsOneOf records r c.a)
  body_since old new records at r only holds goes =
      since_first moment left (KeepsFront (at + 1)) (λ c. IsOneOf records r c.a) old new goes (λ d c l s.
      let same : d.a ≡ (reads old).a = only d l in
      let front = s.front (omega (arith, ap length same, holds_within records at (reads old).a holds)) in
      inl (at, kept_front records at (reads old).a c.a holds (front.0 ∙ ap (λ (l : List ℕ). take (at + 1) l) same)))

  pub gate_since : (mid new : D) (records : List Record) (at gate : ℕ) (r : Record) (rest : List ℕ)
      → at ≡ 16 + length (spelled records []) → IsKept A (reads mid) (left mid (moment mid))
      → (reads mid).a ≡ front_of records ++ (gate ∷ body r (0 ∷ rest)) → GoesOn moment left (At A (Torn at 1)) mid new
      → Since moment left mid new (λ c. IsOneOf records r c.a)
  gate_since mid new records at gate r rest place only is goes =
      since_first moment left (At A (Torn at 1)) (λ c. IsOneOf records r c.a) mid new goes (λ d c l s.
      torn_gate records at gate r rest d.a c.a place (only d l ∙ is) s.here)

  -- a call that changes nothing adds no image
  pub since_same : (P : Parts → Type 0) (old mid new : D) → Since moment left old mid P
      → GoesOn moment left Unchanged mid new → Since moment left old new P
  since_same P old mid new x y =
      since_then moment left P old mid new x (since_first moment left Unchanged P mid new y (λ d c l s.
      subst P (sym s) (x.during (moment mid) d x.later (omega arith) l)))
