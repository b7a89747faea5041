-- Why what a read returns is one of the images.
use Rattle.std.proofs.Common.{◌≡◌, ◌<◌, ℕ, ◌+◌, ◌-◌, ◌≤◌, min, max, List, [], ◌∷◌, ◌++◌, length, take, drop}
use Rattle.std.proofs.Common.{replicate, refl, sym, ◌∙◌, ap, subst, arith, ⊎_elim, length-append, length-drop}
use Rattle.std.proofs.Common.{append_assoc}
use Rattle.std.proofs.lemmas.List.{take_all, take_at, take_rest, drop_all, drop_at, drop-drop, drop-take, length-take}
use Rattle.std.proofs.lemmas.List.{length-replicate}
use Rattle.std.proofs.lemmas.Bool.{cases_lt}
use Rattle.arm_edges.specs.Disk.{Parts, overwritten, resized, Torn, Cut}
use Rattle.arm_edges.specs.declared.disk.Part.TheVariants.{A, B}
use Rattle.mem_disk.specs.Moves.{Move, Step, wrote, tore, shortened, tore_off, synced, moves_on, reads_after}
use Rattle.mem_disk.specs.Moves.{parts_after, image_after, images_after, left_after, left_at}

-- how long a file is after a cut
pub length_resized : (n : ℕ) (old : List ℕ) → length (resized n old) ≡ n
length_resized n old = omega (
  arith,
  length-append (take n old) (replicate {A = ℕ} (n - length old) 0),
  length-take n old,
  length-replicate {A = ℕ} (n - length old) 0,
)

front_of : (n : ℕ) (old : List ℕ) → take (min n (length old)) old ≡ take n old
front_of n old = ⊎_elim
    (λ (beyond : length old < n). take_all (min n (length old)) old (omega arith) ∙ sym (take_all n old (omega arith)))
    (λ (within : n ≤ length old). ap (λ (k : ℕ). take k old) (omega arith))
    (cases_lt (length old) n)

-- a write of which nothing is there
pub torn_same : (at n : ℕ) (old : List ℕ) → Torn at n old old
torn_same at n old = record { before = front_of at old; after = take_rest old (at + n); no_shorter = omega arith }

-- how long a file is after a write of something
written_length : (at : ℕ) (bytes old : List ℕ) → 0 < length bytes
    → length (resized at old ++ (bytes ++ drop (at + length bytes) old)) ≡ max (length old) (at + length bytes)
written_length at bytes old some =
    let rest = drop (at + length bytes) old in
    omega (
      arith,
      length_resized at old,
      length-append (resized at old) (bytes ++ rest),
      length-append bytes rest,
      length-drop (at + length bytes) old,
    )

-- a write makes a file as long as it reaches
pub length_overwritten : (at : ℕ) (bytes old : List ℕ)
    → length (overwritten at bytes old) ≤ max (length old) (at + length bytes)
length_overwritten at [] old = omega arith
length_overwritten at (b ∷ bytes) old = omega (arith, written_length at (b ∷ bytes) old (omega arith))

-- a write that is there whole
pub torn_overwritten : (at : ℕ) (bytes old : List ℕ) → Torn at (length bytes) old (overwritten at bytes old)
torn_overwritten at [] old = torn_same at 0 old
torn_overwritten at (b ∷ bytes) old =
    let new = b ∷ bytes in
    let zeros = replicate {A = ℕ} (at - length old) 0 in
    let rest = drop (at + length new) old in
    let size : length (resized at old ++ new) ≡ at + length new =
    omega (arith, length_resized at old, length-append (resized at old) new) in
    let back : drop (at + length new) (overwritten at new old) ≡ rest =
    ap (λ (l : List ℕ). drop (at + length new) l) (sym (append_assoc (resized at old) new rest))
    ∙ drop_at (resized at old ++ new) rest (at + length new) size in
    record {
      before = ap (λ (l : List ℕ). take (min at (length old)) l) (append_assoc (take at old) zeros (new ++ rest))
          ∙ take_at (take at old) (zeros ++ (new ++ rest)) (min at (length old)) (length-take at old);
      after = ap (λ (l : List ℕ). take (length old - (at + length new)) l) back ∙ take_rest old (at + length new);
      no_shorter = omega (arith, written_length at new old (omega arith));
    }

-- a part of a write that is there
pub torn_wider : (at k n : ℕ) (old new : List ℕ) → k ≤ n → Torn at k old new → Torn at n old new
torn_wider at k n old new le torn = record {
  before = torn.before;
  after = ⊎_elim
      (λ (short : length old < at + n). ap (λ (m : ℕ). take m (drop (at + n) new))
      (let e : length old - (at + n) ≡ 0 = omega arith in e) ∙ sym (drop_all (at + n) old (omega arith)))
      (λ (long : at + n ≤ length old). narrower long)
      (cases_lt (length old) (at + n));
  no_shorter = torn.no_shorter;
}
  where
    past : (l : List ℕ) → drop (at + n) l ≡ drop (n - k) (drop (at + k) l)
    past l = ap (λ (m : ℕ). drop m l) (omega arith) ∙ sym (drop-drop (n - k) (at + k) l)

    narrower : at + n ≤ length old → take (length old - (at + n)) (drop (at + n) new) ≡ drop (at + n) old
    narrower long =
        let more : n - k + (length old - (at + n)) ≡ length old - (at + k) = omega arith in
        ap (λ (l : List ℕ). take (length old - (at + n)) l) (past new)
        ∙ sym (drop-take (n - k) (length old - (at + n)) (drop (at + k) new))
        ∙ ap (λ (m : ℕ). drop (n - k) (take m (drop (at + k) new))) more
        ∙ ap (λ (l : List ℕ). drop (n - k) l) torn.after
        ∙ sym (past old)

-- a cut of which nothing is there
pub cut_same : (n : ℕ) (old : List ℕ) → Cut n old old
cut_same n old = record { before = front_of n old; no_shorter = omega arith }

-- a cut that is there
pub cut_resized : (n : ℕ) (old : List ℕ) → Cut n old (resized n old)
cut_resized n old = record {
  before = take_at (take n old) (replicate {A = ℕ} (n - length old) 0) (min n (length old)) (length-take n old);
  no_shorter = omega (arith, length_resized n old);
}

-- what a read returns is one of the images
pub reads_image : (moves : List Move) (now : List ℕ) (set : List ℕ → Type 0) → set now
    → images_after moves now set (reads_after moves now)
reads_image [] now set s = s
reads_image (wrote at bytes ∷ moves) now set s =
    reads_image moves (overwritten at bytes now) (image_after (wrote at bytes) (overwritten at bytes now) set)
    (now, s, torn_overwritten at bytes now)
reads_image (tore at bytes ∷ moves) now set s =
    reads_image moves now (image_after (tore at bytes) now set) (now, s, torn_same at (length bytes) now)
reads_image (shortened n ∷ moves) now set s =
    reads_image moves (resized n now) (image_after (shortened n) (resized n now) set) (now, s, cut_resized n now)
reads_image (tore_off n ∷ moves) now set s =
    reads_image moves now (image_after (tore_off n) now set) (now, s, cut_same n now)
reads_image (synced ∷ moves) now set s = reads_image moves now (image_after synced now set) (s, refl)

-- what a read returns of a file is one of the images of that file
pub reads_left : (first : List ℕ) (moves : List Move) (now : List ℕ) → now ≡ reads_after moves first
    → left_after first moves now
reads_left first moves now is =
    subst (λ (file : List ℕ). left_after first moves file) (sym is)
    (reads_image moves first (λ (file : List ℕ). file ≡ first) refl)

-- a disk as it reads is one of its images
pub reads_left_at : (first : Parts) (steps : List Step) (now : Parts) → now ≡ parts_after steps first
    → left_at first steps (length steps) now
reads_left_at first steps now reads =
    subst (λ (l : List Step). left_after first.a (moves_on A l) now.a × left_after first.b (moves_on B l) now.b)
    (sym (take_all (length steps) steps (omega arith))) (
      reads_left first.a (moves_on A steps) now.a (ap (λ (p : Parts). p.a) reads),
      reads_left first.b (moves_on B steps) now.b (ap (λ (p : Parts). p.b) reads),
    )
