-- How runs of disk calls go on.
use Rattle.std.proofs.Common.{Result, Ok, Err, OnOk, ◌≡◌, ◌⊎◌, inl, inr, ⊎_elim, ℕ, ◌≤◌, ◌<◌, min, List, length, take}
use Rattle.std.proofs.Common.{refl, sym, ◌∙◌, ap, subst, arith}
use Rattle.std.proofs.lemmas.List.{take-take}
use Rattle.std.proofs.lemmas.Bool.{cases_lt}
use Rattle.arm_edges.specs.Disk.{Parts, At, Torn, GoesOn, Unchanged}
use Rattle.arm_edges.specs.declared.disk.Part.TheVariants.{A}
use Rattle.deploy_journal.specs.Records.{KeepsB, KeepsFront, Since}

pub total : (m n : ℕ) → (m ≤ n) ⊎ (n ≤ m)
total m n = ⊎_elim (λ (below : m < n). inl (omega arith)) (λ (above : n ≤ m). inr above) (cases_lt m n)

pub torn_keeps : (n at m : ℕ) → n ≤ at → (d c : Parts) → At A (Torn at m) d c → KeepsFront n d c
torn_keeps n at m below d c step =
    let h = step.here in
    record {
      front = λ within. (
        sym (take-take n (min at (length d.a)) c.a (omega arith)) ∙ ap (λ (l : List ℕ). take n l) h.before
            ∙ take-take n at d.a below,
        omega (arith, h.no_shorter),
      );
      part_b = step.there;
    }

pub same_b : (d c : Parts) → Unchanged d c → KeepsB d c
same_b d c same = ap (λ (f : Parts). f.b) same

pub same_keeps : (n : ℕ) (d c : Parts) → Unchanged d c → KeepsFront n d c
same_keeps n d c same = record {
  front = λ within. (ap (λ (f : Parts). take n f.a) same, omega (arith, within, ap (λ (f : Parts). length f.a) same));
  part_b = same_b d c same;
}

keeps_then : (n : ℕ) (e d c : Parts) → KeepsFront n e d → KeepsFront n d c → KeepsFront n e c
keeps_then n e d c x y = record {
  front = λ within. let first = x.front within in let second = y.front first.1 in (second.0 ∙ first.0, second.1);
  part_b = y.part_b ∙ x.part_b;
}

module _ {D : Type 0} (moment : D → ℕ) (left : D → ℕ → Parts → Type 0) where
  pub wider : (s t : Parts → Parts → Type 0) (old new : D) → GoesOn moment left s old new
      → ((d c : Parts) → s d c → t d c) → GoesOn moment left t old new
  wider s t old new x w = record {
    later = x.later;
    past = x.past;
    keeps = x.keeps;
    during = λ at c from to l. let h = x.during at c from to l in (h.0, h.1, w h.0 c h.2);
  }

  -- a step that can be made twice as one is made twice
  pub goes_then : (s : Parts → Parts → Type 0) → ((e d c : Parts) → s e d → s d c → s e c) → (old mid new : D)
      → GoesOn moment left s old mid → GoesOn moment left s mid new → GoesOn moment left s old new
  goes_then s joined old mid new x y = record {
    later = omega (arith, x.later, y.later);
    past = λ t c le l. x.past t c le (y.past t c (omega (arith, le, x.later)) l);
    keeps = λ t c le l. y.keeps t c (omega (arith, le, x.later)) (x.keeps t c le l);
    during = λ t c from to l. ⊎_elim (λ early. x.during t c from early (y.past t c early l))
        (λ late. later_on t c late to l) (total t (moment mid));
  }
    where
      later_on : (t : ℕ) (c : Parts) → moment mid ≤ t → t ≤ moment new → left new t c → (d : Parts)
          × left old (moment old) d × s d c
      later_on t c from to l =
          let h = y.during t c from to l in
          let k = x.during (moment mid) h.0 x.later (omega arith) h.1 in (k.0, k.1, joined k.0 h.0 c k.2 h.2)

  pub go_on : (n : ℕ) (old mid new : D) → GoesOn moment left (KeepsFront n) old mid
      → GoesOn moment left (KeepsFront n) mid new → GoesOn moment left (KeepsFront n) old new
  go_on n = goes_then (KeepsFront n) (keeps_then n)

  pub b_goes_on : (old mid new : D) → GoesOn moment left KeepsB old mid → GoesOn moment left KeepsB mid new
      → GoesOn moment left KeepsB old new
  b_goes_on = goes_then KeepsB (λ e d c x y. y ∙ x)

  -- after no call at all
  pub goes_nowhere : (disk : D) → GoesOn moment left Unchanged disk disk
  goes_nowhere disk = record {
    later = omega arith;
    past = λ t c le l. l;
    keeps = λ t c le l. l;
    during = λ t c from to l. let same : t ≡ moment disk = omega arith in
        (c, subst (λ (n : ℕ). left disk n c) same l, refl);
  }

  -- calls that change nothing, or part A alone, change nothing of part B
  pub b_same : (old new : D) → GoesOn moment left Unchanged old new → GoesOn moment left KeepsB old new
  b_same old new x = wider Unchanged KeepsB old new x same_b

  pub b_kept : (n : ℕ) (old new : D) → GoesOn moment left (KeepsFront n) old new → GoesOn moment left KeepsB old new
  b_kept n old new x = wider (KeepsFront n) KeepsB old new x (λ d c k. k.part_b)

  pub b_torn : (at m : ℕ) (old new : D) → GoesOn moment left (At A (Torn at m)) old new
      → GoesOn moment left KeepsB old new
  b_torn at m old new x = wider (At A (Torn at m)) KeepsB old new x (λ d c step. step.there)

  pub since_first : (s : Parts → Parts → Type 0) (P : Parts → Type 0) (old new : D) → GoesOn moment left s old new
      → ((d c : Parts) → left old (moment old) d → s d c → P c) → Since moment left old new P
  since_first s P old new x here = record {
    later = x.later;
    past = x.past;
    keeps = x.keeps;
    during = λ t c from to l. let h = x.during t c from to l in here h.0 c h.1 h.2;
  }

  pub since_then : (P : Parts → Type 0) (old mid new : D) → Since moment left old mid P → Since moment left mid new P
      → Since moment left old new P
  since_then P old mid new x y = record {
    later = omega (arith, x.later, y.later);
    past = λ t c le l. x.past t c le (y.past t c (omega (arith, le, x.later)) l);
    keeps = λ t c le l. y.keeps t c (omega (arith, le, x.later)) (x.keeps t c le l);
    during = λ t c from to l. ⊎_elim (λ early. x.during t c from early (y.past t c early l))
        (λ late. y.during t c late to l) (total t (moment mid));
  }

pub on_ok : {T E P Q : Type 0} (r : Result T E) → (P → Q) → OnOk r P → OnOk r Q
on_ok (Ok x) f p = f p
on_ok (Err e) f p = p
