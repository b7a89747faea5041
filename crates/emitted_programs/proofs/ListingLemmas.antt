-- Both list the same nested deployments.
use Rattle.std.proofs.Common.{◌≡◌, ℕ, zero, suc, false, List, [], ◌∷◌, map, Option, Some, refl, sym, ap, ap₂}
use Rattle.std.proofs.Common.{◌∙◌}
use Rattle.arm_value.specs.Json.{Json}
use Rattle.reading.specs.Reading.{done, pure, read, continued}
use Rattle.deploy_cells.specs.Cells.{step, Position, Cell, count, included, name, World, copies}
use Rattle.deploy_cells.specs.Guarded.{Reads}
use Rattle.deploy_cells.specs.Listing.{named_by, one_named, instances_named, resource_named, all_named}
use Rattle.deploy_cells.specs.Listing.{listing_json, listing_value}
use Rattle.bicep_emission.specs.Alike.{Seen, seen_in}
use Rattle.bicep_emission.proofs.SeenLemmas.{then_seen, seen-continued, then-same}
use Rattle.cell_renaming.specs.Renaming.{Renaming, IsOneToOne, to_position, renamed}
use Rattle.cell_renaming.proofs.OptionLemmas.{to_both}
use Rattle.cell_renaming.proofs.ParentLemmas.{renamed_is}
use Rattle.emitted_sites.specs.Marks.{Marks, is_given}
use Rattle.emitted_programs.proofs.OptionLemmas.{Side, sees}

module _ (v w : Side) where
  same_continued : {A B : Type 0} (a b : Reads A) (f g : A → Reads B) → sees v a ≡ sees w b
      → ((x : A) → sees v (f x) ≡ sees w (g x)) → sees v (continued a f) ≡ sees w (continued b g)
  same_continued {A} {B} a b f g e h =
      seen-continued v.world v.marks a f ∙ ap (λ s. then_seen s (λ x. sees v (f x))) e
      ∙ then-same (sees w b) (λ x. sees v (f x)) (λ x. sees w (g x)) h ∙ sym (seen-continued w.world w.marks b g)

  same_done : {A : Type 0} (o : Option A)
      → sees v (let r : Reads A = done o in r) ≡ sees w (let r : Reads A = done o in r)
  unfolding seen_in
  same_done o = refl

  same_read : (c e : Cell) → v.world e ≡ w.world c → v.marks e ≡ false → w.marks c ≡ false
      → sees v (read e) ≡ sees w (read c)
  unfolding seen_in
  same_read c e h k l = ap₂ (λ o b. let s : Seen Json = (o, b) in s) h (k ∙ sym l)

module _ (r : Renaming) (i : IsOneToOne r) (w : World) (x : Marks) (none : (c : Cell) → is_given c ≡ false
    → (x.template c ≡ false) × (x.source c ≡ false)) (p q : Position) (at : to_position r p ≡ Some q) where
  abbrev v : World
  v = renamed r w

  abbrev rw : Side
  rw = record { world = v; marks = x.template }

  abbrev sw : Side
  sw = record { world = w; marks = x.source }

  unmarked : (c e : Cell) → is_given c ≡ false → is_given e ≡ false → v e ≡ w c → sees rw (read e) ≡ sees sw (read c)
  unmarked c e g h k = same_read rw sw c e k (none e h).0 (none c g).1

  module _ (n m : ℕ) (number : r.number p n ≡ Some m) where
    count_same : v (count q m) ≡ w (count p n)
    count_same =
        renamed_is r i w (count p n) (count q m)
        (to_both (to_position r p) (r.number p n) (λ q m. count q m) q m at number)

    included_same : (k : ℕ) → v (included q (step m k)) ≡ w (included p (step n k))
    included_same k =
        renamed_is r i w (included p (step n k)) (included q (step m k))
        (to_both (to_position r p) (r.number p n) (λ q m. included q (step m k)) q m at number)

    name_same : (k : ℕ) → v (name q (step m k)) ≡ w (name p (step n k))
    name_same k =
        renamed_is r i w (name p (step n k)) (name q (step m k))
        (to_both (to_position r p) (r.number p n) (λ q m. name q (step m k)) q m at number)

    one_same : (k : ℕ) → sees rw (one_named q (step m k)) ≡ sees sw (one_named p (step n k))
    one_same k =
        same_continued rw sw (read (name q (step m k))) (read (name p (step n k)))
        (λ n. continued (read (included q (step m k))) (λ b. done (named_by n b)))
        (λ y. continued (read (included p (step n k))) (λ b. done (named_by y b)))
        (unmarked (name p (step n k)) (name q (step m k)) refl refl (name_same k))
        (λ y. same_continued rw sw (read (included q (step m k))) (read (included p (step n k)))
        (λ b. done (named_by y b)) (λ b. done (named_by y b))
        (unmarked (included p (step n k)) (included q (step m k)) refl refl (included_same k))
        (λ b. same_done rw sw (named_by y b)))

    instances_same : (k l : ℕ) → sees rw (instances_named q m k l) ≡ sees sw (instances_named p n k l)
    instances_same k zero = same_done rw sw (Some [])
    instances_same k (suc l) =
        same_continued rw sw (one_named q (step m k)) (one_named p (step n k))
        (λ x. continued (instances_named q m (suc k) l) (λ xs. pure (x ∷ xs)))
        (λ x. continued (instances_named p n (suc k) l) (λ xs. pure (x ∷ xs))) (one_same k)
        (λ x. same_continued rw sw (instances_named q m (suc k) l) (instances_named p n (suc k) l)
        (λ xs. pure (x ∷ xs)) (λ xs. pure (x ∷ xs)) (instances_same (suc k) l)
        (λ xs. same_done rw sw (Some (x ∷ xs))))

    resource_same : sees rw (resource_named q m) ≡ sees sw (resource_named p n)
    resource_same =
        same_continued rw sw (read (count q m)) (read (count p n)) (λ j. instances_named q m 0 (copies (Some j)))
        (λ j. instances_named p n 0 (copies (Some j))) (unmarked (count p n) (count q m) refl refl count_same)
        (λ j. instances_same 0 (copies (Some j)))

  head_is : (f : ℕ → Option ℕ) (n m : ℕ) (ns ms : List ℕ) → map f (n ∷ ns) ≡ map (λ m. Some m) (m ∷ ms)
      → f n ≡ Some m
  head_is f n m ns ms e = cc

  rest_is : (f : ℕ → Option ℕ) (n m : ℕ) (ns ms : List ℕ) → map f (n ∷ ns) ≡ map (λ m. Some m) (m ∷ ms)
      → map f ns ≡ map (λ m. Some m) ms
  rest_is f n m ns ms e = cc

  all_same : (ns ms : List ℕ) → map (r.number p) ns ≡ map (λ m. Some m) ms
      → sees rw (all_named q ms) ≡ sees sw (all_named p ns)
  all_same [] [] e = same_done rw sw (Some [])
  all_same [] (m ∷ ms) e = absurd cc
  all_same (n ∷ ns) [] e = absurd cc
  all_same (n ∷ ns) (m ∷ ms) e =
      same_continued rw sw (resource_named q m) (resource_named p n)
      (λ x. continued (all_named q ms) (λ xs. pure (x ∷ xs))) (λ x. continued (all_named p ns) (λ xs. pure (x ∷ xs)))
      (resource_same n m (head_is (r.number p) n m ns ms e))
      (λ x. same_continued rw sw (all_named q ms) (all_named p ns) (λ xs. pure (x ∷ xs)) (λ xs. pure (x ∷ xs))
      (all_same ns ms (rest_is (r.number p) n m ns ms e)) (λ xs. same_done rw sw (Some (x ∷ xs))))

  pub listing_same : (ns ms : List ℕ) → map (r.number p) ns ≡ map (λ m. Some m) ms
      → sees rw (listing_value q ms) ≡ sees sw (listing_value p ns)
  unfolding listing_value
  listing_same ns ms e =
      same_continued rw sw (all_named q ms) (all_named p ns) (λ xs. pure (listing_json xs))
      (λ xs. pure (listing_json xs)) (all_same ns ms e) (λ xs. same_done rw sw (Some (listing_json xs)))
