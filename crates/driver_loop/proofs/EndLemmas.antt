-- After the first fault nothing is begun, and the fault that is told is the first.
use Rattle.std.proofs.Common.{arith, ◌≡◌, ◌≤◌, ℕ, Bool, true, false, List, [], ◌∷◌, ◌++◌, refl, sym, ap, ◌∙◌, subst}
use Rattle.std.proofs.Common.{append-nil, append_assoc, Option, None, Some}
use Rattle.arm_edges.specs.Faults.{Rose}
use Rattle.dealer_trait.specs.declared.book_fault.BookFault.{BookFault}
use Rattle.dealer_trait.specs.declared.book_fault.BookFault.TheVariants.{Full, DiskFault, MustReopen}
use Rattle.driver_loop.specs.Actions.{taken, each, first_fault, fault_by, note_by, refusal_by, notes_of}
use Rattle.driver_loop.specs.Actions.{refusals_of, AreHands, AreTakes}
use Rattle.driver_loop.specs.Ends.{BeginsNoMore, Blames, IsNoneOrMemory, Asks}
use Rattle.driver_loop.specs.Moments.{Pages}
use Rattle.driver_loop.specs.Runs.{Wrote, Rises, BreaksBy, first_in, has_disk_fault}
use Rattle.driver_loop.specs.Turns.{KnowsFault}
use Rattle.driver_loop.specs.declared.action.Action.{Action}
use Rattle.driver_loop.specs.declared.action.Action.TheVariants.{Hand, Take}
use Rattle.driver_loop.specs.declared.fault.DriveFault.{DriveFault}
use Rattle.driver_loop.specs.declared.fault.DriveFault.TheVariants.{Provider, Book, OutOfMemory}
use Rattle.driver_loop.proofs.EachLemmas.{each_append, each_chain, fault_append, takes_append}
use Rattle.driver_loop.proofs.SettleLemmas.{no_disk_fault, breaks_none}
use Rattle.seat_calls.specs.declared.done.Done.{Done}
use Rattle.foundation.specs.Options.{or_else}

hands_fault : (l : List Action) → AreHands l → first_fault l ≡ None
unfolding AreHands first_fault
hands_fault [] h = refl
hands_fault (Hand j ∷ l) h = hands_fault l h
hands_fault (Take d r ∷ l) h = absurd h

hands_each : {A : Type 0} (f : Action → List A) (l : List Action) → ((x : Action) → AreHands (x ∷ []) → f x ≡ [])
    → AreHands l → each f l ≡ []
unfolding AreHands each
hands_each f [] e h = refl
hands_each f (Hand j ∷ l) e h = ap (λ t. t ++ each f l) (e (Hand j) tt) ∙ hands_each f l e h
hands_each f (Take d r ∷ l) e h = absurd h

no_notes : (x : Action) → AreHands (x ∷ []) → note_by x ≡ []
unfolding AreHands
no_notes (Hand j) h = refl
no_notes (Take d r) h = absurd h

no_refusals : (x : Action) → AreHands (x ∷ []) → refusal_by x ≡ []
unfolding AreHands
no_refusals (Hand j) h = refl
no_refusals (Take d r) h = absurd h

takes_none : AreTakes []
unfolding AreTakes
takes_none = tt

takes_one : (d : Done) (r : Option BookFault) → AreTakes (taken d r ∷ [])
unfolding AreTakes
takes_one d r = tt

fault_one : (x : Action) → first_fault (x ∷ []) ≡ fault_by x
unfolding first_fault
fault_one x = nothing (fault_by x)
  where
    nothing : (o : Option DriveFault) → or_else o None ≡ o
    nothing None = refl
    nothing (Some f) = refl

fault_none : first_fault [] ≡ None
unfolding first_fault
fault_none = refl

pub knows_none : KnowsFault None []
knows_none = ([], [], refl, fault_none, takes_none, (λ e. refl), fault_none)

no_fault : (a b : Option DriveFault) → a ≡ None → b ≡ None → or_else a b ≡ None
no_fault a b p q = ap (λ x. or_else x b) p ∙ q

some_fault : (a b : Option DriveFault) (g : DriveFault) → a ≡ None → b ≡ Some g → or_else a b ≡ Some g
some_fault a b g p q = ap (λ x. or_else x b) p ∙ q

-- without a fault the actions show none
without : (l : List Action) → KnowsFault None l → first_fault l ≡ None
without l c = c.6

hands_known : (l m : List Action) (new : Option DriveFault) → KnowsFault None l → AreHands m → IsNoneOrMemory new
    → KnowsFault new (l ++ m)
hands_known l m new c h o =
    let none : first_fault (l ++ m) ≡ None
    = fault_append l m ∙ no_fault (first_fault l) (first_fault m) (without l c) (hands_fault m h) in
    (l ++ m, [], sym (append-nil (l ++ m)), none, takes_none, (λ e. refl), blamed new o none)
  where
    blamed : (new : Option DriveFault) → IsNoneOrMemory new → first_fault (l ++ m) ≡ None → Blames new (l ++ m)
    blamed None o e = e
    blamed (Some (Provider k)) o e = absurd o
    blamed (Some (Book f)) o e = absurd o
    blamed (Some OutOfMemory) o e = tt

-- the seats were asked for
pub knows_ask : (l m : List Action) (old new : Option DriveFault) → KnowsFault old l → Asks old new m
    → KnowsFault new (l ++ m)
knows_ask l m None new c a = hands_known l m new c a.0 a.1
knows_ask l m (Some f) new c a =
    subst (λ (y : Option DriveFault × List Action). KnowsFault y.0 y.1)
    (λ i. (sym a.1 i, (sym (append-nil l) ∙ ap (λ x. l ++ x) (sym a.0)) i)) c

blames_some : (g : DriveFault) (l : List Action) → first_fault l ≡ Some g → Blames (Some g) l
blames_some (Provider k) l e = e
blames_some (Book f) l e = e
blames_some OutOfMemory l e = tt

blames_more : (g : DriveFault) (l : List Action) (x : Action) → Blames (Some g) l → Blames (Some g) (l ++ x ∷ [])
blames_more (Provider k) l x e = fault_append l (x ∷ []) ∙ ap (λ y. or_else y (first_fault (x ∷ []))) e
blames_more (Book f) l x e = fault_append l (x ∷ []) ∙ ap (λ y. or_else y (first_fault (x ∷ []))) e
blames_more OutOfMemory l x e = tt

some_none : {A : Type 0} {B : Type 0} (a : A) → Some a ≡ None → B
some_none a e = cc

first_take : (l : List Action) (d : Done) (r : Option BookFault) (now : Option DriveFault) → now ≡ fault_by (taken d r)
    → KnowsFault None l → KnowsFault now (l ++ taken d r ∷ [])
first_take l d r None is c =
    let x : Action = taken d r in
    let none : first_fault (l ++ x ∷ []) ≡ None
    = fault_append l (x ∷ []) ∙ no_fault (first_fault l) (first_fault (x ∷ [])) (without l c) (fault_one x ∙ sym is) in
    (l ++ x ∷ [], [], sym (append-nil (l ++ x ∷ [])), none, takes_none, (λ e. refl), none)
first_take l d r (Some g) is c =
    let x : Action = taken d r in (
      l,
      x ∷ [],
      refl,
      without l c,
      takes_one d r,
      (λ e. some_none g e),
      blames_some g (l ++ x ∷ [])
          (fault_append l (x ∷ [])
          ∙ some_fault (first_fault l) (first_fault (x ∷ [])) g (without l c) (fault_one x ∙ sym is)),
    )

-- a result was settled
pub knows_take : (l : List Action) (d : Done) (r : Option BookFault) (old now new : Option DriveFault)
    → KnowsFault old l
    → now ≡ fault_by (taken d r) → new ≡ or_else old now → KnowsFault new (l ++ taken d r ∷ [])
knows_take l d r None now new c is e =
    subst (λ x. KnowsFault x (l ++ taken d r ∷ [])) (sym e) (first_take l d r now is c)
knows_take l d r (Some g) now new c is e = subst (λ x. KnowsFault x (l ++ taken d r ∷ [])) (sym e) (
  c.0,
  c.1 ++ taken d r ∷ [],
  ap (λ x. x ++ taken d r ∷ []) c.2 ∙ append_assoc c.0 c.1 (taken d r ∷ []),
  c.3,
  takes_append c.1 (taken d r ∷ []) c.4 (takes_one d r),
  (λ e. some_none g e),
  blames_more g l (taken d r) c.6,
)

pub begins_no_more : (fault : Option DriveFault) (l : List Action) → KnowsFault fault l → BeginsNoMore l
begins_no_more fault l c = (c.0, c.1, c.2, c.3, c.4)

rises_more : (l m : List BookFault) (a b c : ℕ) → Rises a b l → Rises b c m → Rises a c (l ++ m)
rises_more [] m a b c p q = subst (λ x. Rises x c m) p q
rises_more (f ∷ l) [] a b c p q = subst (λ x. (a ≤ x) × Rose a x) (sym q) p
rises_more (f ∷ l) (g ∷ m) a b c p q = let p0 = p.0 in let p1 = p.1 in let q0 = q.0 in (omega arith, omega arith)

firsts_more : (f : Option BookFault) (l m : List BookFault)
    → or_else (or_else f (first_in l)) (first_in m) ≡ or_else f (first_in (l ++ m))
firsts_more None [] m = refl
firsts_more None (x ∷ l) m = refl
firsts_more (Some f) l m = refl

rose_more : (l m : List BookFault) (a b c : ℕ) → a ≤ b → b ≤ c → (has_disk_fault l ≡ true → Rose a b)
    → (has_disk_fault m ≡ true → Rose b c) → has_disk_fault (l ++ m) ≡ true → Rose a c
unfolding has_disk_fault
rose_more [] m a b c low high f g e = let r = g e in omega arith
rose_more (Full length needed ∷ l) m a b c low high f g e = rose_more l m a b c low high f g e
rose_more (DiskFault ∷ l) m a b c low high f g e = let r = f refl in omega arith
rose_more (MustReopen ∷ l) m a b c low high f g e = rose_more l m a b c low high f g e

breaks_more : (l m : List BookFault) (a b c : Bool) → BreaksBy a l b → BreaksBy b m c → BreaksBy a (l ++ m) c
unfolding BreaksBy
breaks_more [] m a b c p q = subst (λ x. BreaksBy x m c) p q
breaks_more (Full length needed ∷ l) m a b c p q = (p.0, breaks_more l m false b c p.1 q)
breaks_more (DiskFault ∷ l) m a b c p q = (p.0, breaks_more l m true b c p.1 q)
breaks_more (MustReopen ∷ l) m a b c p q = (p.0, breaks_more l m true b c p.1 q)

pub wrote_more : (tells : Bool) (p q r : Pages) (l m : List Action) → Wrote tells p q l → Wrote tells q r m
    → Wrote tells p r (l ++ m)
wrote_more tells p q r l m a b = record {
  report = λ t. each_chain note_by l m p.notes q.notes r.notes (a.report t) (b.report t);
  count =
      subst (λ x. Rises p.refusals r.refusals x) (sym (each_append refusal_by l m))
      (rises_more (refusals_of l) (refusals_of m) p.refusals q.refusals r.refusals a.count b.count);
  first =
      b.first ∙ ap (λ x. or_else x (first_in (refusals_of m))) a.first
      ∙ firsts_more p.first (refusals_of l) (refusals_of m)
      ∙ ap (λ x. or_else p.first (first_in x)) (sym (each_append refusal_by l m));
  kept = let a0 = a.kept in let b0 = b.kept in omega arith;
  rose =
      subst (λ x. has_disk_fault x ≡ true → Rose p.faults r.faults) (sym (each_append refusal_by l m))
      (rose_more (refusals_of l) (refusals_of m) p.faults q.faults r.faults a.kept b.kept a.rose b.rose);
  breaks =
      subst (λ x. BreaksBy p.broken x r.broken) (sym (each_append refusal_by l m))
      (breaks_more (refusals_of l) (refusals_of m) p.broken q.broken r.broken a.breaks b.breaks);
}

wrote_nothing : (tells : Bool) (p : Pages) (m : List Action) → notes_of m ≡ [] → refusals_of m ≡ [] → Wrote tells p p m
wrote_nothing tells p m n r = record {
  report = λ t. sym (append-nil p.notes) ∙ ap (λ x. p.notes ++ x) (sym n);
  count = subst (λ x. Rises p.refusals p.refusals x) (sym r) refl;
  first = same p.first ∙ ap (λ x. or_else p.first (first_in x)) (sym r);
  kept = omega arith;
  rose = no_disk_fault (refusals_of m) r;
  breaks = subst (λ x. BreaksBy p.broken x p.broken) (sym r) (breaks_none p.broken p.broken refl);
}
  where
    same : (f : Option BookFault) → f ≡ or_else f None
    same None = refl
    same (Some g) = refl

hands_nil : AreHands []
unfolding AreHands
hands_nil = tt

pub wrote_hands : (tells : Bool) (p : Pages) (old new : Option DriveFault) (m : List Action) → Asks old new m
    → Wrote tells p p m
wrote_hands tells p None new m a =
    wrote_nothing tells p m (hands_each note_by m no_notes a.0) (hands_each refusal_by m no_refusals a.0)
wrote_hands tells p (Some g) new m a =
    subst (λ x. Wrote tells p p x) (sym a.0)
    (wrote_nothing tells p [] (hands_each note_by [] no_notes hands_nil)
    (hands_each refusal_by [] no_refusals hands_nil))
